-- The least value of a rule variant, equation by equation, or that no structure solves it.
use Rattle.std.proofs.Common.{◌≡◌, ℕ, ◌⊎◌, inl, inr, List, [], ◌∷◌, ◌++◌, length, append_assoc, append-nil, Option, Some, None, refl, sym, subst}
use Rattle.patr_model.specs.Structure.{Value, Structure, IsValue, IsStructure}
use Rattle.patr_model.specs.Equation.{Equation}
use Rattle.patr_model.specs.EquationStructures.{Pointed}
use Rattle.patr_model.specs.Variants.{variant, RuleAt, IsLeastOf, blank_slots, equation_at, IsWithin, AreWithin}
use Rattle.patr_model.proofs.StatedCategories.{within_append}
use Rattle.patr_model.proofs.Variants.{term_stands, variant_steps}
use Rattle.patr_totality.proofs.Beside.{decide_unifier}

-- a rule variant's least value, or that no structure solves it
abbrev pub IsLeastOrNone : List ℕ → List Equation → Type 0
IsLeastOrNone cs es = ((M : Structure) × (m : Value) × IsLeastOf (RuleAt (variant cs es)) M m) ⊎ ((G : Structure) (v : Value) → IsStructure G → IsValue G v → RuleAt (variant cs es) G v → ⊥)

-- one more equation
one_more : (cs : List ℕ) (es : List Equation) (e : Equation) → AreWithin (length cs) es → IsWithin (length cs) e → IsLeastOrNone cs es → IsLeastOrNone cs (es ++ e ∷ [])
one_more cs es e w we (inr none) = inr (variant_steps.keeps_refusing cs es (e ∷ []) none)
one_more cs es e w we (inl l) = go (equation_at e) refl
  where
    go : (o : Option Pointed) → equation_at e ≡ o → IsLeastOrNone cs (es ++ e ∷ [])
    go None q = inr (variant_steps.refuses_at_once cs es e q)
    go (Some E) q =
        let s = term_stands e.left e.right E q in
        elim (decide_unifier l.0 l.1 [] E.nodes E.root l.2.structure l.2.held s.structure s.held) [
          | inl u ↦ inl (u.0, u.1, variant_steps.adds cs es e E l.0 l.1 u.0 u.1 w we q l.2 u.2)
          | inr none ↦ inr (variant_steps.refuses cs es e E l.0 l.1 we q l.2 none)
        ]

all_more : (cs : List ℕ) (es fs : List Equation) → AreWithin (length cs) es → AreWithin (length cs) fs → IsLeastOrNone cs es → IsLeastOrNone cs (es ++ fs)
all_more cs es [] w v h = subst (IsLeastOrNone cs) (sym (append-nil es)) h
all_more cs es (f ∷ fs) w v h =
    subst (IsLeastOrNone cs) (append_assoc es (f ∷ []) fs) (all_more cs (es ++ f ∷ []) fs (within_append (length cs) es (f ∷ []) w (v.0, tt)) v.1 (one_more cs es f w v.0 h))

-- a rule variant
pub variant_decided : (cs : List ℕ) (es : List Equation) → AreWithin (length cs) es → IsLeastOrNone cs es
variant_decided cs es w = all_more cs [] es tt w (inl ((blank_slots (length cs)).nodes, (blank_slots (length cs)).root, variant_steps.starts cs))
