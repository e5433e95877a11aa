-- The walk finds an order, or a cycle; and nothing takes a cycle.
use Rattle.std.proofs.Common.{◌≡◌, ℕ, zero, suc, ◌<◌, inl, inr, List, [], ◌∷◌, Some, refl, sym, ap, ◌∙◌, arith, subst}
use Rattle.patr_lists.specs.Members.{IsIn}
use Rattle.patr_model.specs.Structure.{Value, Atom, Node, Structure, arc, IsBelow, IsStructure}
use Rattle.patr_marks.specs.Machine.{ends, Has, State, arcs_at, IsEnd, IsLog, Takes, IsForced}
use Rattle.patr_marks.specs.Quotient.{Below}
use Rattle.patr_marks.specs.Walk.{Leads, LeadsFrom, IsChain, ReachedIn, IsWalk}
use Rattle.patr_marks.proofs.Lists.{ends_agree, ends_twice}
use Rattle.patr_marks.proofs.Forced.{arcs_forced}
use Rattle.patr_marks.proofs.Quotient.{order_below}

pub rank : Value → ℕ
rank (Atom c) = 0
rank (Node n) = suc n

rank_below : (n : ℕ) (v : Value) → IsBelow n v → rank v < suc n
unfolding rank
rank_below n (Atom c) h = omega arith
rank_below n (Node k) h = omega (arith, h)

pub rank_arc : (G : Structure) (v w : Value) (a : ℕ) → IsStructure G → arc G v a ≡ Some w → rank w < rank v
unfolding rank
rank_arc G (Atom c) w a g e = cc
rank_arc G (Node n) w a g e = rank_below n w (g.lower n a w e)

-- along an arc of ends, whatever takes both goes to a lower place
rank_falls : (D : Structure) (P : ℕ → Type 0) (G : Structure) (M : Value → Value) (s : State) → IsStructure G → Takes D P G M → IsForced G M s
    → (j k : ℕ) → P j → Leads D s j k → rank (M (Node k)) < rank (M (Node j))
rank_falls D P G M s g t f j k h l =
    let e : arc G (M (Node j)) l.0 ≡ Some (M l.1) = arcs_forced D P G M s t f j l.0 l.1 h l.2 in
    let q : M l.1 ≡ M (Node k) = sym (ends_agree M s.log f.log l.1) ∙ ap M l.3 in
    subst (λ w. rank w < rank (M (Node j))) q (rank_arc G (M (Node j)) (M l.1) l.0 g e)

-- so the top of the stack goes lower than what stands below it
chain_falls : (D : Structure) (P : ℕ → Type 0) (G : Structure) (M : Value → Value) (s : State) → IsStructure G → Takes D P G M → IsForced G M s
    → (ks : List ℕ) (k j : ℕ) → ((i : ℕ) → IsIn ks i → P i) → LeadsFrom D s ks k → IsChain D s ks → IsIn ks j → rank (M (Node k)) < rank (M (Node j))
chain_falls D P G M s g t f [] k j h l c i = absurd i
chain_falls D P G M s g t f (i ∷ is) k j h l c (inl e) = subst (λ q. rank (M (Node k)) < rank (M (Node q))) e (rank_falls D P G M s g t f i k (h i (inl refl)) l)
chain_falls D P G M s g t f (i ∷ is) k j h l c (inr n) =
    let one = rank_falls D P G M s g t f i k (h i (inl refl)) l in
    let two = chain_falls D P G M s g t f is i j (λ q m. h q (inr m)) c.0 c.1 n in
    omega (arith, one, two)

-- where an arc of the top leads into the stack, nothing takes both
pub cycle_refutes : (D : Structure) (P : ℕ → Type 0) (G : Structure) (M : Value → Value) (s : State) → IsStructure G → Takes D P G M → IsForced G M s
    → (k : ℕ) (ks : List ℕ) (j : ℕ) → ((i : ℕ) → IsIn (k ∷ ks) i → P i) → IsChain D s (k ∷ ks) → Leads D s k j → IsIn (k ∷ ks) j → ⊥
cycle_refutes D P G M s g t f k ks j h c l (inl e) =
    let one = rank_falls D P G M s g t f k k (h k (inl refl)) (subst (Leads D s k) (sym e) l) in omega (arith, one)
cycle_refutes D P G M s g t f k ks j h c l (inr n) =
    let one = rank_falls D P G M s g t f k j (h k (inl refl)) l in
    let two = chain_falls D P G M s g t f ks k j (λ q m. h q (inr m)) c.0 c.1 n in
    omega (arith, one, two)

-- the steps of the walk
pub walk_starts : (D : Structure) (s : State) (r : ℕ) → IsEnd s r → IsWalk D s r (r ∷ []) []
walk_starts D s r e = record {
  ordered = tt;
  chain = (tt, tt);
  ends = λ k h. elim h [ inl q ↦ subst (IsEnd s) q e | inr n ↦ absurd n ];
  once = (λ n. n, tt);
  apart = λ k h n. n;
  root = inr (inl refl);
  reached = λ k h. elim h [ inl n ↦ absurd n | inr m ↦ elim m [ inl q ↦ (0, q) | inr n ↦ absurd n ] ];
}

pub walk_enters : (D : Structure) (s : State) (r k : ℕ) (ks order : List ℕ) (j : ℕ) → IsLog s.log → IsWalk D s r (k ∷ ks) order → Leads D s k j
    → (IsIn (k ∷ ks) j → ⊥) → (IsIn order j → ⊥) → IsWalk D s r (j ∷ k ∷ ks) order
walk_enters D s r k ks order j i w l out new = record {
  ordered = w.ordered;
  chain = (l, w.chain);
  ends = λ q h. elim h [
    | inl e ↦ subst (IsEnd s) e (ap (ends s.log) (sym l.3) ∙ (ends_twice s.log i l.1 ∙ l.3))
    | inr n ↦ w.ends q n
  ];
  once = (out, w.once);
  apart = λ q h n. elim h [ inl e ↦ new (subst (IsIn order) (sym e) n) | inr m ↦ w.apart q m n ];
  root = elim w.root [ inl h ↦ inl h | inr h ↦ inr (inr h) ];
  reached = λ q h. elim h [
    | inl n ↦ w.reached q (inl n)
    | inr m ↦ elim m [
      | inl e ↦ let u = w.reached k (inr (inl refl)) in (suc u.0, (k, u.1, subst (Leads D s k) e l))
      | inr n ↦ w.reached q (inr n)
    ]
  ];
}

pub walk_leaves : (D : Structure) (s : State) (r k : ℕ) (ks order : List ℕ) → IsWalk D s r (k ∷ ks) order
    → ((a : ℕ) (x : Value) → Has (arcs_at D s k) a x → Below order (ends s.log x)) → IsWalk D s r ks (k ∷ order)
walk_leaves D s r k ks order w all = record {
  ordered = (w.ends k (inl refl), w.apart k (inl refl), all, w.ordered);
  chain = w.chain.1;
  ends = λ q h. w.ends q (inr h);
  once = w.once.1;
  apart = λ q h n. elim n [ inl e ↦ w.once.0 (subst (IsIn ks) (sym e) h) | inr m ↦ w.apart q (inr h) m ];
  root = elim w.root [ inl h ↦ inl (inr h) | inr h ↦ elim h [ inl e ↦ inl (inl e) | inr m ↦ inr m ] ];
  reached = λ q h. elim h [
    | inl n ↦ elim n [ inl e ↦ w.reached q (inr (inl e)) | inr m ↦ w.reached q (inl m) ]
    | inr m ↦ w.reached q (inr (inr m))
  ];
}

-- when it is done, the order has exactly what is reached from its root
pub walk_done : (D : Structure) (s : State) (r : ℕ) (order : List ℕ) → IsWalk D s r [] order → (n k : ℕ) → ReachedIn D s r n k → IsIn order k
walk_done D s r order w zero k e = subst (IsIn order) e (elim w.root [ inl h ↦ h | inr h ↦ absurd h ])
walk_done D s r order w (suc n) k h =
    let one = walk_done D s r order w n h.0 h.1 in
    subst (Below order) h.2.3 (order_below D s order w.ordered h.0 one h.2.0 h.2.1 h.2.2)
