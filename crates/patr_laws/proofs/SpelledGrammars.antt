-- Bytes stand for a grammar exactly where their tokens spell it.
use Rattle.std.proofs.Common.{◌≡◌, ℕ, List, [], ◌∷◌, length, map, Some, None, codes, refl, sym, ap, ◌∙◌, arith}
use Rattle.patr_model.specs.Tokens.{Token, start_place, after, tokens_of}
use Rattle.patr_model.specs.Lexemes.{by_text}
use Rattle.patr_model.specs.Parsing.{Parse, Got, Stops}
use Rattle.patr_model.specs.Stages.{with_equations}
use Rattle.patr_model.specs.Productions.{RuleText, Clause, RuleClause, clauses, before, settings, with_rules, assembled, Grammar, Outcome, Stands, concluded, outcome}
use Rattle.patr_model.specs.GrammarText as text
use Rattle.patr_model.specs.GrammarText.{of_outcome, of_scanned, ReadsGrammar}
use Rattle.patr_laws.specs.Spelling.{AreRulesSpelled, IsGrammarSpelled, SpellsGrammar, GrammarsAreSpelled}
use Rattle.patr_laws.proofs.Readings.{of_tokens}
use Rattle.patr_laws.proofs.SpelledRules.{clauses_found, rules_are_spelled}

abbrev Text : Type 0
Text = List ℕ

-- what rules alone give
rule_settings : (rs : List (RuleText Text)) → settings (map RuleClause rs) ≡ record { rules = rs; templates = []; lexical_rules = []; start = None; restrictor = None; order = None }
rule_settings [] = refl
rule_settings (r ∷ rs) = ap (before (RuleClause r)) (rule_settings rs)

-- the grammar of these rules
abbrev of_rules : Text → RuleText Text → List (RuleText Text) → Grammar Text
of_rules cat r rs = record { rules = r ∷ rs; templates = []; lexical_rules = []; start = r.mother.category; restrictor = (cat ∷ []) ∷ []; order = [] }

rules_assembled : (cat : Text) (r : RuleText Text) (rs : List (RuleText Text)) → assembled cat (map RuleClause (r ∷ rs)) ≡ Some (of_rules cat r rs)
rules_assembled cat r rs = ap (λ g. with_rules cat g g.rules) (rule_settings (r ∷ rs))

by_rules : (cat : Text) (ts : List Token) (g : Grammar Text) (rs : List (RuleText Text)) → concluded {T = Token} (assembled cat (map RuleClause rs)) ≡ Stands g → AreRulesSpelled by_text ts rs → IsGrammarSpelled by_text cat ts g
by_rules cat ts g [] e a = absurd cc
by_rules cat ts g (r ∷ rs) e a = let f : ◌≡◌ {A = Outcome Token Text} (Stands (of_rules cat r rs)) (Stands g) = ap concluded (sym (rules_assembled cat r rs)) ∙ e in let h : of_rules cat r rs ≡ g = cc in (r, rs, a, sym h)

by_clauses : (cat : Text) (ts : List Token) (g : Grammar Text) (p : Parse Token Text (List Token) (List (Clause Text))) → clauses by_text with_equations (length ts) [] ts ≡ p → outcome cat p ≡ Stands g → IsGrammarSpelled by_text cat ts g
by_clauses cat ts g (Got cs rest) q e =
    let a = clauses_found by_text (length ts) [] ts cs rest (omega arith) q in
    by_rules cat ts g a.them (ap (λ cs. concluded (assembled cat cs)) (sym a.value) ∙ e) a.spelled
by_clauses cat ts g (Stops r rest) q e = absurd cc

found : (bytes : List ℕ) (g : Grammar Text) → ReadsGrammar with_equations bytes g → SpellsGrammar bytes g
found bytes g h =
    let a = of_tokens with_equations (after start_place bytes) (tokens_of bytes) g h.1 in
    (h.0, a.0, a.1, by_clauses (codes "cat") a.0 g (clauses by_text with_equations (length a.0) [] a.0) refl a.2)

back : (bytes : List ℕ) (g : Grammar Text) → SpellsGrammar bytes g → ReadsGrammar with_equations bytes g
back bytes g h =
    let end = after start_place bytes in
    let spelled = h.3 in
    let r = spelled.0 in
    let rs = spelled.1 in (
      h.0,
      ap (of_scanned with_equations end) h.2
          ∙ (ap (λ p. of_outcome end (outcome (codes "cat") p)) ((rules_are_spelled h.1 (r ∷ rs)).1 spelled.2) ∙ (ap (λ o. of_outcome end (concluded o)) (rules_assembled (codes "cat") r rs) ∙ ap text.Reads (sym spelled.3))),
    )

pub grammars_are_spelled : GrammarsAreSpelled
grammars_are_spelled bytes g = (found bytes g, back bytes g)
