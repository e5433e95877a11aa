-- What a value reaches is a list of nodes: so it can be counted.
use Rattle.std.proofs.Common.{◌≡◌, ◌⊎◌, inl, inr, ℕ, zero, suc, ◌<◌, Bool, true, false, cond, nat_eq, eqb-true, List, [], ◌∷◌, length, Option, Some, None, option_and_then, slice_get, refl, sym, ap, ◌∙◌, arith, subst}
use Rattle.std.proofs.lemmas.Bool.{eqb-false, cases_eq}
use Rattle.patr_lists.proofs.Members.{in_or_not}
use Rattle.patr_lists.specs.Members.{IsIn, NoRepeats}
use Rattle.patr_library.proofs.Names.{Value, Atom, Node, Structure, arc, IsReached, IsValue, IsStructure, some_inj, and_then_some, own, total, Counts}
use Rattle.patr_model.specs.Structure.{Arc, Arcs, along, HasDistinct, arcs_of, at, IsBelow}
use Rattle.patr_unify.specs.Deciding.{IsReachOf}

-- ---- lists of numbers

-- a list that has the members of both, each once
record Union (xs ys : List ℕ) : Type 0 where
  pub list : List ℕ
  pub once : NoRepeats list
  pub from : (k : ℕ) → IsIn list k → IsIn xs k ⊎ IsIn ys k
  pub left : (k : ℕ) → IsIn xs k → IsIn list k
  pub right : (k : ℕ) → IsIn ys k → IsIn list k

union : (xs ys : List ℕ) → NoRepeats ys → Union xs ys
union [] ys n = record { list = ys; once = n; from = λ k h. inr h; left = λ k h. absurd h; right = λ k h. h }
union (x ∷ xs) ys n = go (union xs ys n) (in_or_not cases_eq (union xs ys n).list x)
  where
    go : (u : Union xs ys) → IsIn u.list x ⊎ (IsIn u.list x → ⊥) → Union (x ∷ xs) ys
    go u (inl h) = record {
      list = u.list;
      once = u.once;
      from = λ k i. elim (u.from k i) [ inl l ↦ inl (inr l) | inr r ↦ inr r ];
      left = λ k i. elim i [ inl e ↦ subst (λ j. IsIn u.list j) e h | inr r ↦ u.left k r ];
      right = u.right;
    }
    go u (inr h) = record {
      list = x ∷ u.list;
      once = (h, u.once);
      from = λ k i. elim i [ inl e ↦ inl (inl e) | inr r ↦ elim (u.from k r) [ inl l ↦ inl (inr l) | inr q ↦ inr q ] ];
      left = λ k i. elim i [ inl e ↦ inl e | inr r ↦ inr (u.left k r) ];
      right = λ k i. inr (u.right k i);
    }

-- ---- arcs

along_there : (es : Arcs) (a : ℕ) (x : Value) → along es a ≡ Some x → (i : ℕ) × (e : Arc) × (slice_get es i ≡ Some e) × (e.to ≡ x)
along_there [] a x h = cc
along_there (e ∷ es) a x h = go (nat_eq e.attribute a) h (along_there es a x)
  where
    go : (b : Bool) → cond b (Some e.to) (along es a) ≡ Some x → (along es a ≡ Some x → (i : ℕ) × (f : Arc) × (slice_get es i ≡ Some f) × (f.to ≡ x)) → (i : ℕ) × (f : Arc) × (slice_get (e ∷ es) i ≡ Some f) × (f.to ≡ x)
    go true q rest = (zero, e, refl, some_inj e.to x q)
    go false q rest = let r = rest q in (suc r.0, r.1, r.2, r.3)

pub there_along : (es : Arcs) → HasDistinct es → (i : ℕ) (e : Arc) → slice_get es i ≡ Some e → along es e.attribute ≡ Some e.to
there_along [] d i e h = cc
there_along (f ∷ es) d zero e h = go (nat_eq f.attribute e.attribute) refl
  where
    same : f ≡ e
    same = some_inj f e h

    go : (b : Bool) → nat_eq f.attribute e.attribute ≡ b → cond b (Some f.to) (along es e.attribute) ≡ Some e.to
    go true q = ap (λ (x : Arc). Some x.to) same
    go false q = absurd (eqb-false f.attribute e.attribute q (ap (λ (x : Arc). x.attribute) same))
there_along (f ∷ es) d (suc i) e h = go (nat_eq f.attribute e.attribute) refl (there_along es d.1 i e h)
  where
    clash : (o : Option Value) → o ≡ None → o ≡ Some e.to → ⊥
    clash o p q = cc

    go : (b : Bool) → nat_eq f.attribute e.attribute ≡ b → along es e.attribute ≡ Some e.to → cond b (Some f.to) (along es e.attribute) ≡ Some e.to
    go true q k = absurd (clash (along es e.attribute) (ap (λ a. along es a) (sym (eqb-true f.attribute e.attribute q)) ∙ d.0) k)
    go false q k = k

-- ---- values

module _ (S : Structure) (s : IsStructure S) where
  reached_below : (p : List ℕ) (n : ℕ) (x : Value) (j : ℕ) → IsBelow n x → at S x p ≡ Some (Node j) → j < n
  reached_below [] n x j b h = subst (λ y. IsBelow n y) (some_inj x (Node j) h) b
  reached_below (a ∷ p) n (Atom c) j b h = cc
  reached_below (a ∷ p) n (Node k) j b h =
      let y = and_then_some (arc S (Node k) a) (λ y. at S y p) (Node j) h in
      let low = reached_below p k y.0 j (s.lower k a y.0 y.1) y.2 in omega (arith, low, b)

  abbrev Reaches : Value → Type 0
  Reaches x = (ks : List ℕ) × IsReachOf S x ks

  of_atom : (c : ℕ) → Reaches (Atom c)
  of_atom c = ([], record { once = tt; reached = λ k h. absurd h; all = λ k r. nowhere k r.0 r.1 })
    where
      nowhere : (k : ℕ) (p : List ℕ) → at S (Atom c) p ≡ Some (Node k) → ⊥
      nowhere k [] h = cc
      nowhere k (a ∷ p) h = cc

  -- a node that arcs lead to
  abbrev Led : Arcs → ℕ → Type 0
  Led es j = (i : ℕ) × (e : Arc) × (slice_get es i ≡ Some e) × IsReached S e.to j

  record AreLed (es : Arcs) : Type 0 where
    pub list : List ℕ
    pub once : NoRepeats list
    pub led : (j : ℕ) → IsIn list j → Led es j
    pub all : (j : ℕ) → Led es j → IsIn list j

  of_arcs : (es : Arcs) → ((i : ℕ) (e : Arc) → slice_get es i ≡ Some e → Reaches e.to) → AreLed es
  of_arcs [] each = record { list = []; once = tt; led = λ j h. absurd h; all = λ j h. nothing h.0 h.1 h.2 }
    where
      nothing : (i : ℕ) (e : Arc) → slice_get [] i ≡ Some e → ⊥
      nothing i e h = cc
  of_arcs (e ∷ es) each = go (of_arcs es (λ i f h. each (suc i) f h)) (each zero e refl)
    where
      member : (rest : AreLed es) (r : Reaches e.to) (u : Union r.0 rest.list) (j i : ℕ) (f : Arc) → slice_get (e ∷ es) i ≡ Some f → IsReached S f.to j → IsIn u.list j
      member rest r u j zero f h q = u.left j (r.1.all j (subst (λ (x : Arc). IsReached S x.to j) (sym (some_inj e f h)) q))
      member rest r u j (suc i) f h q = u.right j (rest.all j (i, f, h, q))

      go : AreLed es → Reaches e.to → AreLed (e ∷ es)
      go rest r =
          let u = union r.0 rest.list rest.once in
          record {
            list = u.list;
            once = u.once;
            led = λ j h. elim (u.from j h) [ inl l ↦ (zero, e, refl, r.1.reached j l) | inr q ↦ (let m = rest.led j q in (suc m.0, m.1, m.2, m.3)) ];
            all = λ j h. member rest r u j h.0 h.1 h.2 h.3;
          }

  of_node : (k : ℕ) → AreLed (arcs_of S (Node k)) → Reaches (Node k)
  of_node k a = (
    k ∷ a.list,
    record {
      once = (
        (λ h. (let l = a.led k h in
            let low = reached_below l.3.0 k l.1.to k (lower l.0 l.1 l.2) l.3.1 in omega (arith, low))),
        a.once,
      );
      reached = λ j h. elim h [
        | inl e ↦ ([], ap (λ n. Some (Node n)) e)
        | inr i ↦ (let l = a.led j i in (l.1.attribute ∷ l.3.0, ap (λ o. option_and_then (λ y. at S y l.3.0) o) (there_along (arcs_of S (Node k)) (s.distinct k) l.0 l.1 l.2) ∙ l.3.1))
      ];
      all = λ j r. every j r.0 r.1;
    },
  )
    where
      lower : (i : ℕ) (e : Arc) → slice_get (arcs_of S (Node k)) i ≡ Some e → IsBelow k e.to
      lower i e h = s.lower k e.attribute e.to (there_along (arcs_of S (Node k)) (s.distinct k) i e h)

      node_inj : (i j : ℕ) → Node i ≡ Node j → i ≡ j
      node_inj i j e = cc

      every : (j : ℕ) (p : List ℕ) → at S (Node k) p ≡ Some (Node j) → IsIn (k ∷ a.list) j
      every j [] h = inl (node_inj k j (some_inj (Node k) (Node j) h))
      every j (b ∷ p) h =
          let y = and_then_some (arc S (Node k) b) (λ y. at S y p) (Node j) h in
          let l = along_there (arcs_of S (Node k)) b y.0 y.1 in
          inr (a.all j (l.0, l.1, l.2, subst (λ x. IsReached S x j) (sym l.3) (p, y.2)))

  nodes_below : (n k : ℕ) → k < n → Reaches (Node k)
  nodes_below zero k h = absurd (omega (arith, h))
  nodes_below (suc n) k h = of_node k (of_arcs (arcs_of S (Node k)) (λ i e at. go (nodes_below n) e.to (s.lower k e.attribute e.to (there_along (arcs_of S (Node k)) (s.distinct k) i e at))))
    where
      go : ((j : ℕ) → j < n → Reaches (Node j)) → (x : Value) → IsBelow k x → Reaches x
      go below (Atom c) b = of_atom c
      go below (Node j) b = below j (omega (arith, b, h))

  pub counts_there : (x : Value) → IsValue S x → (n : ℕ) × (a : ℕ) × Counts S x n a
  counts_there x h = go x h
    where
      count : (y : Value) → Reaches y → (n : ℕ) × (a : ℕ) × Counts S y n a
      count y r = (length r.0, total (λ k. length (own S k)) r.0, record { list = r.0; is = r.1; nodes_are = refl; arcs_are = refl })

      go : (y : Value) → IsValue S y → (n : ℕ) × (a : ℕ) × Counts S y n a
      go (Atom c) b = count (Atom c) (of_atom c)
      go (Node k) b = count (Node k) (nodes_below (length S) k b)
