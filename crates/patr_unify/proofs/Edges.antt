-- What a value reaches has at most one node more than arcs.
use Rattle.std.proofs.Common.{◌≡◌, ℕ, ◌+◌, ◌≤◌, ◌⊎◌, inl, inr, Some, List, [], ◌∷◌, ◌++◌, length, length-append, refl, sym, ap, ◌∙◌, subst, arith}
use Rattle.patr_marks.proofs.Reach.{at_more}
use Rattle.patr_lists.proofs.Members.{no_longer, in_right, in_left}
use Rattle.patr_lists.specs.Members.{IsIn}
use Rattle.patr_lists.specs.Numbers.{total}
use Rattle.patr_model.specs.Structure.{Value, Atom, Node, Arcs, Structure, IsReached, arc, at}
use Rattle.patr_model.proofs.Maps.{and_then_some}
use Rattle.patr_marks.specs.Machine.{Has, own}
use Rattle.patr_marks.proofs.Lists.{along_has}
use Rattle.patr_unify.specs.Deciding.{IsReachOf}

-- the node that a value is
node_of : Value → List ℕ
node_of (Atom c) = []
node_of (Node k) = k ∷ []

-- the nodes that arcs lead to
heads : Arcs → List ℕ
heads [] = []
heads (e ∷ es) = node_of e.to ++ heads es

heads_of : Structure → List ℕ → List ℕ
heads_of S [] = []
heads_of S (k ∷ ks) = heads (own S k) ++ heads_of S ks

one_most : (x : Value) → length (node_of x) ≤ 1
unfolding node_of
one_most (Atom c) = omega arith
one_most (Node k) = omega arith

heads_most : (es : Arcs) → length (heads es) ≤ length es
unfolding heads
heads_most [] = omega arith
heads_most (e ∷ es) =
    let size = length-append (node_of e.to) (heads es) in
    let one = one_most e.to in
    let more = heads_most es in
    omega (arith, size, one, more)

all_most : (S : Structure) (ks : List ℕ) → length (heads_of S ks) ≤ total (λ k. length (own S k)) ks
unfolding heads_of
all_most S [] = omega arith
all_most S (k ∷ ks) =
    let size = length-append (heads (own S k)) (heads_of S ks) in
    let one = heads_most (own S k) in
    let more = all_most S ks in
    omega (arith, size, one, more)

in_heads : (es : Arcs) (a k : ℕ) → Has es a (Node k) → IsIn (heads es) k
unfolding heads node_of
in_heads [] a k h = absurd h
in_heads (e ∷ es) a k (inl h) = in_left (node_of e.to) (heads es) k (subst (λ x. IsIn (node_of x) k) (sym h.1) (inl refl))
in_heads (e ∷ es) a k (inr h) = in_right (node_of e.to) (heads es) k (in_heads es a k h)

in_all : (S : Structure) (ks : List ℕ) (j k : ℕ) → IsIn ks j → IsIn (heads (own S j)) k → IsIn (heads_of S ks) k
unfolding heads_of
in_all S [] j k h m = absurd h
in_all S (i ∷ ks) j k (inl e) m = in_left (heads (own S i)) (heads_of S ks) k (subst (λ z. IsIn (heads (own S z)) k) (sym e) m)
in_all S (i ∷ ks) j k (inr h) m = in_right (heads (own S i)) (heads_of S ks) k (in_all S ks j k h m)

-- a node that is reached is the value, or an arc of a node that is reached leads to it
led_to : (S : Structure) (x : Value) (q : List ℕ) (y : Value) (p : List ℕ) (k : ℕ) → at S x q ≡ Some y → at S y p ≡ Some (Node k) → (y ≡ Node k) ⊎ ((j a : ℕ) × IsReached S x j × (arc S (Node j) a ≡ Some (Node k)))
led_to S x q y [] k h e = inl cc
led_to S x q (Atom c) (a ∷ p) k h e = cc
led_to S x q (Node j) (a ∷ p) k h e =
    let s = and_then_some (arc S (Node j) a) (λ z. at S z p) (Node k) e in
    elim (led_to S x (q ++ (a ∷ [])) s.0 p k (at_more S q x (Node j) s.0 a h s.1) s.2) [
      | inl f ↦ inr (j, a, (q, h), s.1 ∙ ap (λ z. Some z) f)
      | inr r ↦ inr r
    ]

pub reach_edges : (S : Structure) (x : Value) (ks : List ℕ) → IsReachOf S x ks → length ks ≤ total (λ k. length (own S k)) ks + 1
unfolding node_of
reach_edges S x ks i =
    let fits = no_longer ks (node_of x ++ heads_of S ks) i.once all in
    let size = length-append (node_of x) (heads_of S ks) in
    let one = one_most x in
    let more = all_most S ks in
    omega (arith, fits, size, one, more)
  where
    all : (k : ℕ) → IsIn ks k → IsIn (node_of x ++ heads_of S ks) k
    all k m =
        let r = i.reached k m in
        elim (led_to S x [] x r.0 k refl r.1) [
          | inl e ↦ in_left (node_of x) (heads_of S ks) k (subst (λ z. IsIn (node_of z) k) (sym e) (inl refl))
          | inr f ↦ in_right (node_of x) (heads_of S ks) k (in_all S ks f.0 k (i.all f.0 f.2) (in_heads (own S f.0) f.1 k (along_has (own S f.0) f.1 (Node k) f.3)))
        ]
