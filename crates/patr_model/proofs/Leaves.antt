-- The least value of an entry without lexical rules.
use Rattle.std.proofs.Common.{◌≡◌, ℕ, List, [], ◌∷◌, length, Some, None, slice_get, refl, sym, ap, ◌∙◌, arith, subst}
use Rattle.std.specs.List.{AllByRecursion}
use Rattle.patr_lists.proofs.Places.{get_there}
use Rattle.patr_model.specs.Structure.{Value, Node, Structure, arc, IsValue, IsStructure}
use Rattle.patr_model.specs.Equation.{Holds}
use Rattle.patr_model.specs.Derivation.{Rules, EntryVariant, Leaf, entry_variant}
use Rattle.patr_model.specs.Solution.{Chain, SolvesEntry, Solution, IsSolvable, IsLeastValue, with_slots, slots_from}
use Rattle.patr_model.specs.Variants.{variant, RuleAt, IsLeastOf, LeavesAreRules}
use Rattle.patr_model.proofs.Maps.{some_inj, maps_reflexive}
use Rattle.patr_model.proofs.Steps.{slot_maps, arc_value, chain_value, slots_structure, slots_has, new_is_value}
use Rattle.patr_model.proofs.Variants.{all_longer}
use Rattle.patr_model.proofs.Chains.{holds_longer}

one_slot : (vs : List Value) (x : Value) → length vs ≡ 1 → slice_get vs 0 ≡ Some x → vs ≡ x ∷ []
one_slot [] x n h = cc
one_slot (v ∷ []) x n h = ap (λ u. u ∷ []) (some_inj v x h)
one_slot (v ∷ w ∷ vs) x n h = absurd (omega (arith, n))

-- a leaf is solved as its entry is
module _ (g : Rules) (e k i j : ℕ) (entry : EntryVariant) (q : entry_variant g e k ≡ Some entry) where
  pub leaf_solves : (G : Structure) (v : Value) → Solution g (Leaf e k i j) G v → SolvesEntry G entry v
  leaf_solves G v s =
      let w = s.solves.1 in
      let same : w ≡ v = some_inj w v (ap (λ us. slice_get us 0) (sym s.solves.4) ∙ s.value.complete tt) in
      subst (SolvesEntry G entry) same (subst (λ x. SolvesEntry G x w) (some_inj s.solves.0 entry (sym s.solves.2 ∙ q)) s.solves.3)

  pub entry_solution : (G : Structure) (v : Value) → IsStructure G → SolvesEntry G entry v → Solution g (Leaf e k i j) G v
  entry_solution G v st s = record {
    structure = st;
    slots = v ∷ [];
    solves = (entry, v, q, s, refl);
    value = record { held = chain_value G entry.chain s.0 v s.1 s.3; complete = λ c. refl; partial = λ p. let bad : None ≡ Some p.0 = p.1 in cc };
  }

module _ (g : Rules) (e k i j : ℕ) (entry : EntryVariant) (q : entry_variant g e k ≡ Some entry) (chain : entry.chain ≡ []) where
  -- what solves the entry is the value at which its equations hold
  entry_holds : (G : Structure) (v : Value) → SolvesEntry G entry v → IsValue G v × AllByRecursion (Holds G (v ∷ [])) entry.equations
  entry_holds G v s =
      let same : s.0 ≡ v = subst (λ rs. Chain G rs s.0 v) chain s.3 in
      subst (λ y. IsValue G y × AllByRecursion (Holds G (y ∷ [])) entry.equations) same (s.1, s.2)

  leaf_holds : (G : Structure) (v : Value) → Solution g (Leaf e k i j) G v → IsValue G v × AllByRecursion (Holds G (v ∷ [])) entry.equations
  leaf_holds G v s = entry_holds G v (leaf_solves g e k i j entry q G v s)

  -- a node of its slot, behind any solution
  with_node : (G : Structure) (v : Value) → Solution g (Leaf e k i j) G v → IsStructure (with_slots G (v ∷ [])) × RuleAt (variant (entry.category ∷ []) entry.equations) (with_slots G (v ∷ [])) (Node (length G))
  with_node G v s =
      let h = leaf_holds G v s in
      let vs = v ∷ [] in
      let held : AllByRecursion (IsValue G) vs = (h.0, tt) in
      let st = slots_structure G vs s.structure held in (
        st,
        (
          vs,
          record { count = refl; held = all_longer G (slots_from 0 vs ∷ []) vs held; equations = holds_longer G (slots_from 0 vs ∷ []) s.structure st vs held entry.equations h.1 },
          slots_has G vs,
        ),
      )

  solved : (M : Structure) (m : Value) → IsLeastOf (RuleAt (variant (entry.category ∷ []) entry.equations)) M m → (x : Value) × (arc M m 0 ≡ Some x) × IsLeastValue g (Leaf e k i j) M x
  solved M m least =
      let vs = least.holds.0 in
      let b = get_there vs 0 (omega (arith, least.holds.1.count)) in
      let x = b.0 in
      let there : arc M m 0 ≡ Some x = least.holds.2 0 x b.1 in
      let held : IsValue M x = arc_value M least.structure m 0 x there in
      let eqs = subst (λ us. AllByRecursion (Holds M us) entry.equations) (one_slot vs x least.holds.1.count b.1) least.holds.1.equations in
      let itself = maps_reflexive M x least.structure held in (
        x,
        there,
        record {
          structure = least.structure;
          held = held;
          solution = (
            M,
            x,
            entry_solution g e k i j entry q M x least.structure (x, held, eqs, subst (λ rs. Chain M rs x x) (sym chain) refl),
            (itself, itself),
          );
          least = λ G v s.
              let n = with_node G v s in
              slot_maps M m x 0 there G (v ∷ []) v s.structure s.value.held refl (least.least (with_slots G (v ∷ [])) (Node (length G)) n.0 (new_is_value G (v ∷ [])) n.1);
        },
      )

  unsolved : ((G : Structure) (v : Value) → IsStructure G → IsValue G v → RuleAt (variant (entry.category ∷ []) entry.equations) G v → ⊥) → IsSolvable g (Leaf e k i j) → ⊥
  unsolved none s = let n = with_node s.0 s.1 s.2 in none (with_slots s.0 (s.1 ∷ [])) (Node (length s.0)) n.0 (new_is_value s.0 (s.1 ∷ [])) n.1

pub leaves_are_rules : LeavesAreRules
leaves_are_rules = record {
  solved = λ g e k i j entry M m q chain least. solved g e k i j entry q chain M m least;
  unsolved = λ g e k i j entry q chain none s. unsolved g e k i j entry q chain none s;
}
