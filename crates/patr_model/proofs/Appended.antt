-- A structure with more nodes behind it.
use Rattle.std.proofs.Common.{◌≡◌, ℕ, zero, suc, ◌+◌, inl, inr, [], ◌∷◌, ◌++◌, length, Some, sym, ap, ◌∙◌, arith, subst}
use Rattle.std.proofs.lemmas.List.{get_or-append-add, get_or_append_left}
use Rattle.patr_lists.proofs.Places.{below_or_behind}
use Rattle.patr_model.specs.Structure.{Value, Node, Arcs, Structure, along, HasDistinct, arcs_of, arc, IsBelow, IsValue, IsStructure}
use Rattle.patr_model.proofs.Maps.{arc_of_longer, below_more_places}

-- the nodes behind have no attribute twice, and lead to what stands before them
pub appended_structure : (S N : Structure) → IsStructure S → ((j : ℕ) → HasDistinct (arcs_of N (Node j))) → ((j a : ℕ) (x : Value) → arc N (Node j) a ≡ Some x → IsBelow (length S + j) x) → IsStructure (S ++ N)
appended_structure S N s distinct lower = record {
  distinct = λ n. elim (below_or_behind (length S) n) [
    | inl h ↦ subst HasDistinct (sym (get_or_append_left S N [] n h)) (s.distinct n)
    | inr h ↦ subst HasDistinct (sym (behind n h)) (distinct h.0)
  ];
  lower = λ n a x e. elim (below_or_behind (length S) n) [
    | inl h ↦ s.lower n a x (sym (arc_of_longer S N (Node n) h a) ∙ e)
    | inr h ↦ subst (λ i. IsBelow i x) (sym h.1) (lower h.0 a x (ap (λ es. along es a) (sym (behind n h)) ∙ e))
  ];
}
  where
    behind : (n : ℕ) (h : (j : ℕ) × (n ≡ length S + j)) → arcs_of (S ++ N) (Node n) ≡ arcs_of N (Node h.0)
    behind n h = ap (λ i. arcs_of (S ++ N) (Node i)) h.1 ∙ get_or-append-add S N h.0 []

-- one more node, whose arcs lead to values that are there
pub topped_structure : (S : Structure) (es : Arcs) → IsStructure S → HasDistinct es → ((a : ℕ) (x : Value) → along es a ≡ Some x → IsValue S x) → IsStructure (S ++ es ∷ [])
topped_structure S es s d to = appended_structure S (es ∷ []) s distinct lower
  where
    distinct : (j : ℕ) → HasDistinct (arcs_of (es ∷ []) (Node j))
    distinct zero = d
    distinct (suc j) = tt

    lower : (j a : ℕ) (x : Value) → arc (es ∷ []) (Node j) a ≡ Some x → IsBelow (length S + j) x
    lower zero a x h = below_more_places (length S) (length S + 0) x (to a x h) (omega arith)
    lower (suc j) a x h = cc

pub empty_structure : IsStructure []
empty_structure = record { distinct = λ n. tt; lower = λ n a x h. cc }
