-- The room that a decision needs, and what all nodes of a structure come to.
use Rattle.std.proofs.Common.{◌≡◌, inl, inr, ℕ, zero, suc, ◌+◌, ◌*◌, ◌<◌, ◌≤◌, List, [], ◌∷◌, length, get_or, refl, ap, ◌∙◌, arith, subst, zero-add}
use Rattle.patr_library.proofs.Names.{sum_by, total, own, Value, Node, Structure, IsValue, IsStructure, Shown, IsShown, Counts}
use Rattle.std.proofs.lemmas.List.Sums.{sum_by-cons}
use Rattle.patr_lists.proofs.Totals.{total_room}
use Rattle.patr_lists.proofs.Members.{no_longer}
use Rattle.patr_lists.specs.Members.{IsIn}
use Rattle.patr_model.proofs.EquationStructures.{at_value}
use Rattle.patr_scratch.specs.Contents.{Contents, HasRoom}
use Rattle.patr_unify.specs.Deciding.{HasDecisionRoom}
use Rattle.patr_library.proofs.Reached.{counts_there}

-- so many numbers, from p on
pub range : ℕ → ℕ → List ℕ
range p zero = []
range p (suc m) = p ∷ range (suc p) m

pub range_has : (p m i : ℕ) → i < m → IsIn (range p m) (p + i)
unfolding range
range_has p zero i h = absurd (omega (arith, h))
range_has p (suc m) zero h = inl (omega arith)
range_has p (suc m) (suc i) h = inr (subst (IsIn (range (suc p) m)) (let e : suc p + i ≡ p + suc i = omega arith in e) (range_has (suc p) m i (omega (arith, h))))

pub range_long : (p m : ℕ) → length (range p m) ≡ m
unfolding range
range_long p zero = refl
range_long p (suc m) = ap (λ n. suc n) (range_long (suc p) m)

pub range_weight : {X : Type 0} (f : ℕ → ℕ) (p : ℕ) (nodes : List (List X)) → ((k : ℕ) → k < length nodes → f (p + k) ≡ length (get_or nodes k [])) → total f (range p (length nodes)) ≡ sum_by length nodes
unfolding range
range_weight f p [] h = refl
range_weight f p (fs ∷ nodes) h =
    let here : f p ≡ length fs = ap f (let e : p ≡ p + 0 = omega arith in e) ∙ h 0 (omega arith) in
    let rest : total f (range (suc p) (length nodes)) ≡ sum_by length nodes = range_weight f (suc p) nodes (λ k l. ap f (let e : suc p + k ≡ p + suc k = omega arith in e) ∙ h (suc k) (omega (arith, l))) in
    let whole : sum_by length (fs ∷ nodes) ≡ length fs + sum_by length nodes = sum_by-cons length fs nodes in
    omega (arith, here, rest, whole)

-- no more nodes are reached than there are, nor more arcs
all_bounds : (S : Structure) (x : Value) → IsStructure S → IsValue S x → (n a : ℕ) → Counts S x n a → (n ≤ length S) × (a ≤ sum_by length S)
all_bounds S x s h n a c =
    let f : ℕ → ℕ = λ k. length (own S k) in
    let members : (k : ℕ) → IsIn c.list k → IsIn (range 0 (length S)) k =
    λ k i. let r = c.is.reached k i in subst (IsIn (range 0 (length S))) (zero-add k) (range_has 0 (length S) k (at_value S s r.0 x (Node k) h r.1)) in
    let long = no_longer c.list (range 0 (length S)) c.is.once members in
    let weight = total_room f c.list (range 0 (length S)) c.is.once members in
    let whole : total f (range 0 (length S)) ≡ sum_by length S = range_weight f 0 S (λ k l. ap f (zero-add k)) in
    (omega (arith, long, range_long 0 (length S), c.nodes_are), omega (arith, weight, whole, c.arcs_are))

-- room for what both sides reach
pub decision_room : (v : Shown) → IsShown v → (w : Contents) (l : ℕ) (r : Value) → l < length v.structure → IsValue v.structure r → (nodes arcs : ℕ)
    → ((n a m b : ℕ) → Counts v.structure (Node l) n a → Counts v.structure r m b → (n + m ≤ nodes) × (a + b ≤ arcs)) → HasRoom w (length v.structure) nodes arcs → HasDecisionRoom v w l r
decision_room v sv w l r left_held right_held nodes arcs within room =
    let left = counts_there v.structure sv.structure (Node l) left_held in
    let right = counts_there v.structure sv.structure r right_held in
    let few = within left.0 left.1 right.0 right.1 left.2 right.2 in
    record {
      left_nodes = left.0;
      left_arcs = left.1;
      left = left.2;
      right_nodes = right.0;
      right_arcs = right.1;
      right = right.2;
      room = record {
        for_places = room.for_places;
        for_visits = (let most = room.for_visits in omega (arith, few.0, most));
        for_order = (let most = room.for_order in omega (arith, few.0, most));
        for_arcs = (let most = room.for_arcs in omega (arith, few.1, most));
        for_pairs = (let most = room.for_pairs in omega (arith, few.1, most));
      };
    }

-- room for all nodes on both sides is enough
pub whole_room : (v : Shown) → IsShown v → (w : Contents) (l : ℕ) (r : Value) → l < length v.structure → IsValue v.structure r
    → HasRoom w (length v.structure) (length v.structure * 2) (sum_by length v.structure * 2) → HasDecisionRoom v w l r
whole_room v s w l r left right =
    decision_room v s w l r left right (length v.structure * 2) (sum_by length v.structure * 2)
    (λ n a m b c d.
    let x = all_bounds v.structure (Node l) s.structure left n a c in
    let y = all_bounds v.structure r s.structure right m b d in (omega (arith, x.0, y.0), omega (arith, x.1, y.1)))
