-- What the variants of a rule are.
use Rattle.std.specs.Prelude.{◌≡◌, ℕ, ◌*◌, ◌<◌, ◌≤◌, [], List, ◌∷◌, map, length, get_or, None}
use Rattle.patr_model.specs.Build.{rule_fault, rule_variants}
use Rattle.patr_model.specs.Derivation as model
use Rattle.patr_model.specs.Grammar.{single, variants}
use Rattle.patr_grammar.specs.declared.grammar.RuleText.{RuleText}
use Rattle.patr_grammar.specs.Reading.{rule_seen, right_seen, equations_seen}
use Rattle.patr_expand.specs.declared.rule.Parts.{Parts}
use Rattle.patr_expand.specs.declared.variant.RuleVariant.{RuleVariant}
use Rattle.patr_expand.specs.Seen.{number, cat, symbols_seen, variant_at, variants_at, rule_symbols, AreNumbered}

-- the variants of a rule, which is not too large, in order
pub record IsExpanded (n : ℕ) (r : RuleText) (vs : List RuleVariant) : Type 0 where
  pub faultless : rule_fault (rule_seen r) ≡ None
  pub numbered : AreNumbered n 0 vs
  pub symbols : map (λ v. symbols_seen v.symbols.items) vs ≡ rule_symbols (rule_seen r)
  pub variants : variants_at vs ≡ rule_variants number cat (rule_seen r)

-- a rule's parts have so many variants, and together more than this number
pub record ArePlaced (r : RuleText) (p : Parts) (n : ℕ) : Type 0 where
  pub rights : length (variants single (right_seen r.right.items)) ≡ p.rights
  pub equations : length (variants single (equations_seen r.equations.items)) ≡ p.equations
  pub below : n < p.rights * p.equations
  pub few : p.rights * p.equations ≤ 256

-- the variant with this number of a rule
pub record IsMade (number_of_rule : ℕ) (r : RuleText) (n : ℕ) (v : RuleVariant) : Type 0 where
  pub rule : v.rule ≡ number_of_rule
  pub variant : v.variant ≡ n
  pub symbols : symbols_seen v.symbols.items ≡ get_or (rule_symbols (rule_seen r)) n []
  pub made : (d : model.RuleVariant) → variant_at v ≡ get_or (rule_variants number cat (rule_seen r)) n d
