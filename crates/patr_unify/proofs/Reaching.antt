-- The ends of settled marks are reached from the left side's end, and which places a copy may keep.
use Rattle.std.proofs.Common.{◌≡◌, ℕ, zero, suc, ◌-◌, ◌<◌, inl, inr, true, false, cond, Option, Some, None, List, [], ◌∷◌, length, refl, sym, ap, ◌∙◌, subst, arith}
use Rattle.patr_model.proofs.EquationStructures.{at_below}
use Rattle.patr_lists.proofs.Places.{below_or_behind}
use Rattle.patr_model.specs.Structure.{Value, Atom, Node, Structure, IsReached, arc, at}
use Rattle.patr_model.specs.Settled.{IsSideNode}
use Rattle.patr_model.proofs.Maps.{and_then_some, some_inj}
use Rattle.patr_marks.specs.Machine.{Has, Within, own}
use Rattle.patr_marks.specs.Named.{IsFree, side_of}
use Rattle.patr_marks.specs.Settled.{Fits, IsEndNode, IsFinal, IsSettled, IsTidy}
use Rattle.patr_marks.specs.Sides.{IsSide, shift, sides}
use Rattle.patr_marks.proofs.Follow.{settled_within}
use Rattle.patr_marks.proofs.Copied.{end_facts, one_end}
use Rattle.patr_marks.proofs.Named.{root_within, reached_below, side_left, side_right, side_to}
use Rattle.patr_marks.proofs.Settles.{follow_final}
use Rattle.patr_marks.proofs.Sides.{sides_least}
use Rattle.patr_marks.proofs.Unifier.{side_closed}
use Rattle.patr_marks.proofs.Walk.{rank, rank_arc}
use Rattle.patr_arena.specs.Shown.{Shown, IsShown}
use Rattle.patr_scratch.specs.declared.Visit.{Visit}
use Rattle.patr_scratch.specs.declared.Visit.TheVariants as visit
use Rattle.patr_scratch.specs.Contents.{Contents}
use Rattle.patr_unify.specs.Copying.{copying_by, free_of, stays_free}
use Rattle.patr_unify.specs.Deciding.{IsEndIn, IsEndOfLeft, IsSettledFor, marks_by}
use Rattle.patr_unify.specs.Merging.{both}
use Rattle.patr_unify.specs.Reading.{forward_of}
use Rattle.patr_unify.specs.Walking.{end_value, visit_of}
use Rattle.patr_unify.proofs.Keeping.{free_behind}
use Rattle.patr_unify.proofs.Keys.{lt_true}

-- the marks of a settled scratch, where forwards are followed as far as there is room for pairs
abbrev pub numbered : (v : Shown) (s : IsShown v) (w : Contents) (l : ℕ) (p : List ℕ) (r : Value) → l < length v.structure → IsSettledFor v w l p r → IsSettled v.structure l p r (marks_by v w)
numbered v s w l p r hl i = settled_within v.structure l p r (marks_by v w) i.marks w.pair_room (λ k h. i.ending (Node k))

pub tidy : (v : Shown) (s : IsShown v) (w : Contents) (l : ℕ) (p : List ℕ) (r : Value) (hl : l < length v.structure) (i : IsSettledFor v w l p r) → IsTidy v.structure l p r (marks_by v w) (numbered v s w l p r hl i)
tidy v s w l p r hl i = record { own_arcs = i.tidy.own_arcs; sides_only = i.tidy.sides_only; sides_added = i.tidy.sides_added }

module _ (v : Shown) (s : IsShown v) (w : Contents) (l : ℕ) (p : List ℕ) (r : Value) (hl : l < length v.structure) (set : IsSettledFor v w l p r) where
  abbrev S : Structure
  S = v.structure

  abbrev P : ℕ → Type 0
  P = IsSide v.structure l r

  abbrev i : IsSettled v.structure l p r (marks_by v w)
  i = numbered v s w l p r hl set

  abbrev E : Value → Value
  E = end_value v w

  pub end_side : (x : Value) → Within (IsSide v.structure l r) x → IsFinal (forward_of v w) (end_value v w x) × Within (IsSide v.structure l r) (end_value v w x) × (i.image (end_value v w x) ≡ i.image x)
  end_side x h = end_facts S l p r (marks_by v w) i x h

  -- values with one image have one end
  pub same_end : (x y : Value) → Within (IsSide v.structure l r) x → Within (IsSide v.structure l r) y → i.image x ≡ i.image y → end_value v w x ≡ end_value v w y
  same_end x y hx hy e =
      let a = end_side x hx in
      let b = end_side y hy in
      one_end S l p r (marks_by v w) i (E x) (E y) a.0 a.1 b.0 b.1 (a.2 ∙ (e ∙ sym b.2))

  -- an atom, or an end that is reached
  abbrev pub IsReachedEnd : Value → Type 0
  IsReachedEnd x = Within (IsEndOfLeft v w l) x

  next_end : (j a : ℕ) (x y : Value) → IsEndOfLeft v w l j → Has (both v w j) a x → E x ≡ y → IsReachedEnd y
  next_end j a x (Atom c) h n e = tt
  next_end j a x (Node k) h n e = (suc h.0, (j, a, x, h.1, n, e))

  -- what the image of a reached end leads to is reached
  step_on : (x : Value) (y : Value) → Within (IsSide v.structure l r) x → E x ≡ y → IsReachedEnd y → (a : ℕ) (z : Value) → arc i.unifier (i.image x) a ≡ Some z
      → (u : Value) × Within (IsSide v.structure l r) u × IsReachedEnd (end_value v w u) × (i.image u ≡ z)
  step_on x (Atom c) h e q a z f =
      let f' : arc i.unifier (Atom c) a ≡ Some z = ap (λ o. arc i.unifier o a) (sym (i.atoms c) ∙ (ap i.image (sym e) ∙ (end_side x h).2)) ∙ f in cc
  step_on x (Node j) h e q a z f =
      let facts = end_side x h in
      let is_end : IsEndNode S l r (marks_by v w) j = (subst (Within P) e facts.1, subst (IsFinal (forward_of v w)) e facts.0) in
      let f' : arc i.unifier (i.image (Node j)) a ≡ Some z = ap (λ o. arc i.unifier o a) (ap i.image (sym e) ∙ facts.2) ∙ f in
      let u = i.only j a z is_end f' in
      let on = i.arcs j a u.0 is_end u.1 in
      (u.0, on.0, next_end j a u.0 (E u.0) q u.1 refl, some_inj (i.image u.0) z (sym on.1 ∙ f'))

  path_on : (q : List ℕ) (x z : Value) → Within (IsSide v.structure l r) x → IsReachedEnd (end_value v w x) → at i.unifier (i.image x) q ≡ Some z
      → (u : Value) × Within (IsSide v.structure l r) u × IsReachedEnd (end_value v w u) × (i.image u ≡ z)
  path_on [] x z h e f = (x, h, e, some_inj (i.image x) z f)
  path_on (a ∷ q) x z h e f =
      let t = and_then_some (arc i.unifier (i.image x) a) (λ o. at i.unifier o q) z f in
      let u = step_on x (E x) h refl e a t.0 t.1 in
      path_on q u.0 z u.1 u.2 (ap (λ o. at i.unifier o q) u.3 ∙ t.2)

  left_root : IsReachedEnd (end_value v w (Node l))
  left_root = go (E (Node l)) refl
    where
      go : (y : Value) → E (Node l) ≡ y → IsReachedEnd y
      go (Atom c) e = tt
      go (Node k) e = (0, e)

  right_root : IsReachedEnd (end_value v w (shift (length v.structure) r))
  right_root =
      let u = path_on p (Node l) (i.image (shift (length S) r)) (0, inl refl) left_root (ap (λ o. at i.unifier o p) i.root ∙ i.right) in
      subst IsReachedEnd (same_end u.0 (shift (length S) r) u.1 (root_within S l r (shift (length S) r) refl) u.3) u.2

  -- each side node's end is reached
  pub all_reached : (k : ℕ) → IsSide v.structure l r k → Within (IsEndOfLeft v w l) (end_value v w (Node k))
  all_reached k h = (sides_least S l r Q closed ((0, inl refl), left_root) (root (shift (length S) r) refl) k h).1
    where
      Q : ℕ → Type 0
      Q k = IsSide v.structure l r k × Within (IsEndOfLeft v w l) (end_value v w (Node k))

      root : (x : Value) → x ≡ shift (length S) r → Within (λ k. IsSide v.structure l r k × Within (IsEndOfLeft v w l) (end_value v w (Node k))) x
      root (Atom c) e = tt
      root (Node k) e = (root_within S l r (Node k) e, subst (λ y. Within (IsEndOfLeft v w l) (end_value v w y)) (sym e) right_root)

      within : (x : Value) → Within (IsSide v.structure l r) x → Within (IsEndOfLeft v w l) (end_value v w x) → Within (λ k. IsSide v.structure l r k × Within (IsEndOfLeft v w l) (end_value v w (Node k))) x
      within (Atom c) h e = tt
      within (Node k) h e = (h, e)

      closed : (k a : ℕ) (x : Value) → IsSide v.structure l r k × Within (IsEndOfLeft v w l) (end_value v w (Node k)) → Has (own (sides v.structure) k) a x → Within (λ k. IsSide v.structure l r k × Within (IsEndOfLeft v w l) (end_value v w (Node k))) x
      closed k a x h n =
          let wx = side_closed S l r k a x h.0 n in
          let f = (tidy v s w l p r hl set).own_arcs k a x h.0 n in
          let u = step_on (Node k) (E (Node k)) h.0 refl h.1 a (i.image x) f in
          within x wx (subst (Within (IsEndOfLeft v w l)) (same_end u.0 x u.1 wx u.3) u.2)

  -- a reached end is an end
  pub reached_is_end : (n k : ℕ) → IsEndIn v w l n k → IsEndNode v.structure l r (marks_by v w) k
  reached_is_end zero k h =
      let f = end_side (Node l) (0, inl refl) in (subst (Within P) h f.1, subst (IsFinal (forward_of v w)) h f.0)
  reached_is_end (suc n) k h =
      let before = reached_is_end n h.0 h.3 in
      let f = end_side h.2 (i.arcs h.0 h.1 h.2 before h.4).0 in
      (subst (Within P) h.5 f.1, subst (IsFinal (forward_of v w)) h.5 f.0)

  -- along arcs of ends the images fall
  pub image_falls : (j k a : ℕ) (x : Value) → IsEndNode v.structure l r (marks_by v w) j → Has (both v w j) a x → end_value v w x ≡ Node k → rank (i.image (Node k)) < rank (i.image (Node j))
  image_falls j k a x h n e =
      let on = i.arcs j a x h n in
      let same : i.image x ≡ i.image (Node k) = sym (end_side x on.0).2 ∙ ap i.image e in
      subst (λ z. rank z < rank (i.image (Node j))) same (rank_arc i.unifier (i.image (Node j)) (i.image x) a i.is_unifier.takes.structure on.1)

  -- which places may stay
  forward_or : (o : Option Value) (state : Visit) → ((x : Value) → o ≡ Some x → ⊥) → state ≡ visit.Unseen → stays_free o state ≡ true
  forward_or None visit.Unseen f e = refl
  forward_or None visit.Entered f e = cc
  forward_or None visit.Left f e = cc
  forward_or (Some x) state f e = absurd (f x refl)

  taken : (o : Option Value) (state : Visit) → (o ≡ None → state ≡ visit.Left) → stays_free o state ≡ false
  taken None visit.Unseen f = (let e = f refl in cc)
  taken None visit.Entered f = refl
  taken None visit.Left f = refl
  taken (Some x) state f = refl

  reached_left : (k : ℕ) → k < length v.structure → IsSide v.structure l r k → IsReached v.structure (Node l) k
  reached_left k h n = subst (IsSideNode S (Node l) S r) (side_left (length S) k h) (side_to S s.structure l r hl k n)

  pub is_free : IsFree v.structure l r (free_of v w)
  is_free = record {
    left = λ k h. (let below = reached_below S s.structure l k hl h in ap (λ b. cond b true (stays_free (forward_of v w (k - length S)) (visit_of v w (k - length S)))) (lt_true k (length S) below));
    right = λ k h n. free_behind v w k ∙ forward_or (forward_of v w k) (visit_of v w k)
        (λ x e. n (reached_left k (right_below k h) (set.tidy.sides_only k x e)))
        (set.unseen k (λ e. n (reached_left k (right_below k h) (reached_is_end e.0 k e.1).0)));
  }
    where
      right_below : (k : ℕ) → IsReached v.structure r k → k < length v.structure
      right_below k h = at_below S s.structure (length S) h.0 r (Node k) set.right h.1

  pub copy_fits : Fits (IsSide v.structure l r) (copying_by v w)
  copy_fits = record {
    structure = s.structure;
    own_is = λ k. refl;
    range = λ k h. elim (below_or_behind (length S) k) [
      | inl b ↦ omega (arith, b)
      | inr b ↦
          let there = subst (IsSideNode S (Node l) S r) (ap (side_of (length S)) b.1 ∙ side_right (length S) b.0) (side_to S s.structure l r hl k h) in
          let low = at_below S s.structure (length S) there.0 r (Node b.0) set.right there.1 in
          let e = b.1 in
          omega (arith, low, e)
    ];
    free_is = λ k h g b. free_behind v w k ∙ taken (forward_of v w k) (visit_of v w k) (λ e. set.left k (subst (Within (IsEndOfLeft v w l)) (follow_final w.pair_room (forward_of v w) (Node k) e) (all_reached k h)));
  }
