-- What a build keeps of a variant.
--     HasBlock v b nodes     the block with this number has these nodes
--     IsRuleStored           an item of a rule's variant, with its least value in a block of its own
--     AreKept good bad       of each variant an item is kept, or it has no solution
use Rattle.std.specs.Prelude.{◌≡◌, ◌⊎◌, ◌+◌, ◌≤◌, ℕ, suc, List, [], ◌∷◌, ◌++◌, map, length, slice_get, Some}
use Rattle.std.specs.List.{sum_by}
use Rattle.patr_model.specs.Derivation.{RuleVariant}
use Rattle.patr_arena.specs.declared.value.Feature.{Feature}
use Rattle.patr_arena.specs.Shown.{Shown, IsShown}
use Rattle.patr_arena.specs.Blocks.{Extends, with_block}
use Rattle.patr_library.specs.declared.item.RuleItem.{RuleItem}
use Rattle.patr_model.specs.Variants.{AreWithin}
use Rattle.patr_expand.specs.declared.variant.RuleVariant as code
use Rattle.patr_model.specs.Build.{rule_variants}
use Rattle.patr_grammar.specs.declared.grammar.RuleText.{RuleText}
use Rattle.patr_grammar.specs.Reading.{rule_seen}
use Rattle.patr_expand.specs.Seen.{cat, number, equations_at, variant_at}
use Rattle.patr_library.specs.Solved.{IsLeastAt, HasNone}

-- the block with this number has these nodes
pub record HasBlock (v : Shown) (b : ℕ) (nodes : List (List Feature)) : Type 0 where
  pub before : Shown
  pub shown : IsShown before
  pub number : length before.sizes ≡ b
  pub extends : Extends (with_block before nodes) v

-- an item of this variant of a rule, both by their numbers
pub record IsRuleStored (v : Shown) (r k : ℕ) (rule : RuleVariant) (i : RuleItem) : Type 0 where
  pub rule_is : i.rule ≡ r
  pub variant_is : i.variant ≡ k
  pub mother : slice_get rule.categories 0 ≡ Some i.mother.0
  pub slots : length rule.categories ≡ suc i.slots
  pub nodes : List (List Feature)
  pub block : HasBlock v i.root.block nodes
  pub least : IsLeastAt (length rule.categories) rule.equations nodes i.root.offset
  pub nodes_are : i.nodes ≡ length nodes
  pub arcs_are : i.arcs ≡ sum_by length nodes

-- of each variant an item is kept, or it has no solution, in order
abbrev pub AreKept : {D I : Type 0} → (D → I → Type 0) → (D → Type 0) → List D → List I → Type 0
AreKept good bad [] [] = Unit {0}
AreKept good bad [] (i ∷ is) = ⊥
AreKept good bad (d ∷ ds) [] = bad d × AreKept good bad ds []
AreKept good bad (d ∷ ds) (i ∷ is) = (bad d × AreKept good bad ds (i ∷ is)) ⊎ (good d i × AreKept good bad ds is)

-- one thing more was dealt with: it has an item, with a block of its own, or none
abbrev pub IsDealt : {D I : Type 0} → (Shown → D → I → Type 0) → (D → Type 0) → Shown → Shown → D → List I → List I → Type 0
IsDealt {I = I} good bad v w d old new =
    ((v ≡ w) × (new ≡ old) × bad d)
    ⊎ ((nodes : List (List Feature)) × (w ≡ with_block v nodes) × (i : I) × (new ≡ old ++ i ∷ []) × good w d i)

-- these things more were dealt with
pub record AreDealt {D I : Type 0} (good : Shown → D → I → Type 0) (bad : D → Type 0) (v w : Shown) (ds : List D) (old new : List I) : Type 0 where
  pub extends : Extends v w
  -- each item more has a block of its own
  pub blocks : length new + length v.sizes ≤ length old + length w.sizes
  pub kept : (done : List D) → AreKept (good v) bad done old → AreKept (good w) bad (done ++ ds) new

-- a variant of a rule with both numbers
abbrev pub Numbered : Type 0
Numbered = ℕ × ℕ × RuleVariant

-- the item of a numbered variant
abbrev pub HasRuleItem : Shown → Numbered → RuleItem → Type 0
HasRuleItem v d i = IsRuleStored v d.0 d.1 d.2 i

-- the numbered variant has no solution
abbrev pub HasNoRule : Numbered → Type 0
HasNoRule d = HasNone (length d.2.categories) d.2.equations

-- one variant more was dealt with: it has an item, or no solution
abbrev pub IsRuleDealt : Shown → Shown → ℕ → ℕ → RuleVariant → List RuleItem → List RuleItem → Type 0
IsRuleDealt v w r k rule old new = IsDealt HasRuleItem HasNoRule v w (r, k, rule) old new

-- these variants more were dealt with
abbrev pub AreRulesDealt : Shown → Shown → List Numbered → List RuleItem → List RuleItem → Type 0
AreRulesDealt v w ds old new = AreDealt HasRuleItem HasNoRule v w ds old new

-- variants of the code, with both numbers
abbrev pub numbered : List code.RuleVariant → List Numbered
numbered vs = map (λ x. (x.rule, x.variant, variant_at x)) vs

-- the equations of a variant of the code speak of its constituents
abbrev pub StaysWithin : code.RuleVariant → Type 0
StaysWithin x = AreWithin (length x.symbols.items) (equations_at x.equations.items)

-- the variants of a rule of the code
abbrev pub variants_of : RuleText → List RuleVariant
variants_of r = rule_variants number cat (rule_seen r)

-- variants of the rule or entry with this number, from variant k on
abbrev pub numbered_from : {X : Type 0} → ℕ → ℕ → List X → List (ℕ × ℕ × X)
numbered_from n k [] = []
numbered_from n k (v ∷ vs) = (n, k, v) ∷ numbered_from n (suc k) vs

-- the variants of each, from the rule or entry n on
abbrev pub all_numbered : {X : Type 0} → ℕ → List (List X) → List (ℕ × ℕ × X)
all_numbered n [] = []
all_numbered n (vs ∷ vss) = numbered_from n 0 vs ++ all_numbered (suc n) vss
