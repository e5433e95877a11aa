-- The least value of each derivation, or that it has no solution.
use Rattle.std.proofs.Common.{◌≡◌, ℕ, suc, ◌<◌, ◌⊎◌, inl, inr, [], ◌∷◌, length, Some, arith}
use Rattle.std.proofs.lemmas.Bool.{cases_lt}
use Rattle.patr_model.specs.Derivation.{Rules, RuleVariant, Derivation, Leaf, Begin, Extend, rule_variant, seen, IsPartial, IsComplete}
use Rattle.patr_model.specs.Solution.{IsSolvable, with_slots}
use Rattle.patr_model.proofs.Variants.{variant_steps}
use Rattle.patr_model.proofs.Steps.{takes_of_solution, unifier_of_partial, unifier_of_complete}
use Rattle.patr_model.proofs.Prediction.{solvable_partial, solvable_complete}
use Rattle.patr_totality.specs.Laws.{AreReady, HasLeast, LeastValuesAreDecided}
use Rattle.patr_totality.proofs.Beside.{decide_unifier}
use Rattle.patr_totality.proofs.Variants.{variant_decided}
use Rattle.patr_totality.proofs.Entries.{leaf_decided}

-- a least value, or no solution
abbrev Decided : Rules → Derivation → Type 0
Decided g t = HasLeast g t ⊎ (IsSolvable g t → ⊥)

module _ (g : Rules) (cat : ℕ) (made : AreReady g cat) where
  begin_decided : (r k i : ℕ) (rule : RuleVariant) → rule_variant g r k ≡ Some rule → Decided g (Begin r k i)
  begin_decided r k i rule q =
      let some : 0 < length rule.categories = (made.categories.rules r k rule q).0 in
      elim (variant_decided rule.categories rule.equations (made.within.rules r k rule q)) [
        | inl l ↦ elim (cases_lt 1 (length rule.categories)) [
          | inl more ↦ inl (l.0, l.1, variant_steps.partial g r k i rule l.0 l.1 q (rule, q, more) l.2)
          | inr most ↦ let x = variant_steps.complete g r k i rule l.0 l.1 q (rule, q, omega (arith, some, most)) l.2 in inl (l.0, x.0, x.2)
        ]
        | inr none ↦ inr (variant_steps.unsolved g r k i rule q none)
      ]

-- an active edge and a passive one
extend_decided : (g : Rules) (a p : Derivation) → IsPartial g a → IsComplete g p → HasLeast g a → HasLeast g p → Decided g (Extend a p)
extend_decided g a p part whole la lp =
    elim (decide_unifier la.0 la.1 (suc (seen a) ∷ []) lp.0 lp.1 la.2.structure la.2.held lp.2.structure lp.2.held) [
      | inl u ↦ elim (cases_lt (suc (suc (seen a))) (length part.0.categories)) [
        | inl more ↦ inl (u.0, u.1, unifier_of_partial g a p part whole la.0 la.1 lp.0 lp.1 la.2 lp.2 u.0 u.1 u.2 (part.0, part.1, more))
        | inr most ↦ let m = unifier_of_complete g a p part whole la.0 la.1 lp.0 lp.1 la.2 lp.2 u.0 u.1 u.2 (part.0, part.1, omega (arith, part.2, most)) in inl (u.0, m.0, m.2)
      ]
      | inr none ↦ inr (λ h. none (with_slots h.0 h.2.slots) _ (takes_of_solution g a p part whole la.0 la.1 lp.0 lp.1 la.2 lp.2 h.0 h.1 h.2))
    ]

pub decide_least : LeastValuesAreDecided
decide_least g cat made ws (Leaf e k i j) d = leaf_decided g e k i j d.0 d.1 (made.within.entries e k d.0 d.1) (made.chains e k d.0 d.1)
decide_least g cat made ws (Begin r k i) d = begin_decided g cat made r k i d.0 d.1
decide_least g cat made ws (Extend a p) d = go (decide_least g cat made ws a d.0) (decide_least g cat made ws p d.1)
  where
    go : Decided g a → Decided g p → Decided g (Extend a p)
    go (inl la) (inl lp) = extend_decided g a p d.2 d.3 la lp
    go (inr none) q = inr (λ s. none (solvable_partial g a s.0 s.2.slots d.2 s.2.structure s.2.solves.0))
    go (inl la) (inr none) = inr (λ s. none (solvable_complete g p s.0 (s.2.solves.1 ∷ s.2.solves.2) d.3 s.2.structure s.2.solves.4))
