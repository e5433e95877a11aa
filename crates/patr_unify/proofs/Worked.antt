-- What stays while a copy is made, and what its marks say.
use Rattle.std.proofs.Common.{◌≡◌, ℕ, suc, ◌+◌, ◌<◌, inl, inr, Option, Some, None, List, [], ◌∷◌, ◌++◌, length, refl, sym, ap, ◌∙◌, subst, arith}
use Rattle.std.specs.List.{sum}
use Rattle.std.proofs.lemmas.List.{get_or_append_left, take_all}
use Rattle.patr_lists.proofs.Places.{below_or_behind}
use Rattle.patr_lists.specs.Members.{IsIn}
use Rattle.patr_model.specs.Structure.{Value, Atom, Node, Arc, Arcs, Structure, IsBelow, IsValue, arcs_of}
use Rattle.patr_marks.specs.Machine.{own}
use Rattle.patr_marks.specs.Quotient.{Below}
use Rattle.patr_marks.specs.Settled.{base, through, IsFinal, follow}
use Rattle.patr_marks.specs.Sides.{shifted, sides}
use Rattle.patr_marks.proofs.Copy.{base_left, base_shift}
use Rattle.patr_marks.proofs.Sides.{own_left, own_right}
use Rattle.patr_arena.specs.Shown.{Shown, IsShown, IsHeld, number_of}
use Rattle.patr_arena.specs.declared.value.Ref.{Ref}
use Rattle.patr_arena.specs.declared.value.Ref.TheVariants as ref
use Rattle.patr_arena.proofs.Showing.{held_below}
use Rattle.patr_scratch.specs.declared.Copied.{Copied}
use Rattle.patr_scratch.specs.declared.Place.{Place}
use Rattle.patr_scratch.specs.declared.Side.{Side}
use Rattle.patr_scratch.specs.declared.Side.TheVariants as side
use Rattle.patr_scratch.specs.Contents.{Contents}
use Rattle.patr_unify.specs.Copying.{IsWorked, Fits, IsCopiedTo, IsEndRef, IsOld, MarkFits, copied_of, made_of, ref_to}
use Rattle.patr_unify.specs.Merging.{both}
use Rattle.patr_unify.specs.Reading.{AreHeld, LinksHeld, OptionIsHeld, added_of, behind, forward_of, key, marks_in, option_at, slot_of, value_on}
use Rattle.patr_unify.specs.Reading as reading
use Rattle.patr_unify.specs.Walking.{AllEnd, IsStill, end_value}
use Rattle.patr_marks.proofs.Follow.{final_ext, follow_ext}

-- the places of new nodes
pub new_place : (v : Shown) → IsShown v → (k : ℕ) → number_of v (length v.sizes) k ≡ length v.structure + k
new_place v s k = ap (λ n. n + k) (ap sum (take_all (length v.sizes) v.sizes (omega arith)) ∙ s.whole)

-- an arc that leads to an old value
pub old_from : (v : Shown) → IsShown v → (size : ℕ) (r : Ref) (y : Value) → Fits v size r → made_of v r ≡ y → IsBelow (length v.structure) y → IsOld v r y
old_from v s size (ref.Atom c) y f e b = sym e
old_from v s size (ref.Old at) y f e b = sym e
old_from v s size (ref.New k) y f e b =
    let low : number_of v (length v.sizes) k < length v.structure = subst (IsBelow (length v.structure)) (sym e) b in
    let at = new_place v s k in
    absurd (omega (arith, low, at))

pub old_to : (v : Shown) (r : Ref) (y : Value) → IsOld v r y → made_of v r ≡ y
old_to v (ref.Atom c) y h = sym h
old_to v (ref.Old at) y h = sym h
old_to v (ref.New k) y h = absurd h

pub fits_more : (v : Shown) (size : ℕ) (r : Ref) → Fits v size r → Fits v (size + 1) r
fits_more v size (ref.Atom c) h = h
fits_more v size (ref.Old at) h = h
fits_more v size (ref.New k) h = let low = h.0 in (omega (arith, low), tt)

pub mark_more : (v : Shown) (size : ℕ) (o : Option Copied) → MarkFits v size o → MarkFits v (size + 1) o
mark_more v size None h = tt
mark_more v size (Some d) h = fits_more v size (ref_to d) h

pub copied_more : (v : Shown) (size : ℕ) (o : Option Copied) (x : Value) → IsCopiedTo v size o x → IsCopiedTo v (size + 1) o x
copied_more v size None x h = h
copied_more v size (Some d) x h = (h.0, fits_more v size (ref_to d) h.1)

pub worked_then : (w t u : Contents) → IsWorked w t → IsWorked t u → IsWorked w u
worked_then w t u h k = record {
  places = k.places ∙ h.places;
  pair_room = k.pair_room ∙ h.pair_room;
  forward = λ j. k.forward j ∙ h.forward j;
  added = λ j. k.added j ∙ h.added j;
}

pub still_worked : (w t : Contents) → IsStill w t → IsWorked w t
still_worked w t h = record { places = h.places; pair_room = h.pair_room; forward = h.forward; added = h.added }

module _ (v : Shown) (w t : Contents) (h : IsWorked w t) where
  pub worked_forward : (k : ℕ) → forward_of v t k ≡ forward_of v w k
  worked_forward k = ap (option_at v) (h.forward (slot_of (length v.structure) k))

  pub worked_added : (k : ℕ) → added_of v t k ≡ added_of v w k
  worked_added k = ap (reading.arcs_at v) (h.added (slot_of (length v.structure) k))

  pub worked_both : (k : ℕ) → both v t k ≡ both v w k
  worked_both k = ap (λ es. own (sides v.structure) k ++ es) (worked_added k)

  pub worked_held : AreHeld v w → AreHeld v t
  worked_held a = record {
    room = omega (arith, h.places, a.room);
    forwards = λ j. subst (OptionIsHeld v) (sym (h.forward j)) (a.forwards j);
    added = λ j. subst (LinksHeld v) (sym (h.added j)) (a.added j);
  }

  pub worked_end : (x : Value) → end_value v t x ≡ end_value v w x
  worked_end x = ap (λ n. follow n (forward_of v t) x) h.pair_room ∙ follow_ext w.pair_room (forward_of v t) (forward_of v w) x worked_forward

  pub worked_ends : AllEnd v w → AllEnd v t
  worked_ends all x = subst (IsFinal (forward_of v t)) (sym (worked_end x)) (final_ext (forward_of v t) (forward_of v w) (end_value v w x) worked_forward (all x))

-- an end's copy, by its mark
pub ref_value : (v : Shown) (t : Contents) (size : ℕ) (value : ℕ → Value) (ks : List ℕ) (x : Value) (r : Ref) → ((k : ℕ) → IsIn ks k → IsCopiedTo v size (copied_of v t k) (value k)) → Below ks x → IsEndRef v t x r
    → (made_of v r ≡ through value x) × Fits v size r
ref_value v t size value ks (Atom c) r m b e = subst (λ q. (made_of v q ≡ Atom c) × Fits v size q) (sym e) (refl, (tt, tt))
ref_value v t size value ks (Node k) r m b e = go (copied_of v t k) refl (m k b) e
  where
    go : (o : Option Copied) → copied_of v t k ≡ o → IsCopiedTo v size o (value k) → ((d : Copied) → copied_of v t k ≡ Some d → r ≡ ref_to d) → (made_of v r ≡ value k) × Fits v size r
    go None q h f = absurd h
    go (Some d) q h f = subst (λ z. (made_of v z ≡ value k) × Fits v size z) (sym (f d q)) h

-- arcs of old nodes, and of a longer list
pub arcs_longer : (G N : Structure) (x : Value) → IsValue G x → arcs_of (G ++ N) x ≡ arcs_of G x
arcs_longer G N (Atom c) h = refl
arcs_longer G N (Node k) h = get_or_append_left G N [] k h

pub base_arcs : (S : Structure) (k : ℕ) → k < length S + length S → length (arcs_of S (base (length S) (Node k))) ≡ length (own (sides S) k)
base_arcs S k h = elim (below_or_behind (length S) k) [
  | inl b ↦ ap (λ x. length {A = Arc} (arcs_of S x)) (base_left (length S) (Node k) b) ∙ ap (length {A = Arc}) (sym (own_left S k b))
  | inr b ↦
      ap (λ j. length {A = Arc} (arcs_of S (base (length S) (Node j)))) b.1 ∙ (ap (λ x. length {A = Arc} (arcs_of S x)) (base_shift (length S) (Node b.0))
      ∙ (sym (shifted_size (length S) (own S b.0)) ∙ (ap (length {A = Arc}) (sym (own_right S b.0)) ∙ ap (λ j. length {A = Arc} (own (sides S) j)) (sym b.1))))
]
  where
    shifted_size : (n : ℕ) (es : Arcs) → length (shifted n es) ≡ length es
    shifted_size n [] = refl
    shifted_size n (e ∷ es) = ap suc (shifted_size n es)

pub base_key : (v : Shown) (p : Place) → IsShown v → IsHeld v p.block p.offset → base (length v.structure) (Node (key v p)) ≡ Node (number_of v p.block p.offset)
base_key v p s h = go p.side
  where
    go : (d : Side) → base (length v.structure) (Node (behind d (length v.structure) (number_of v p.block p.offset))) ≡ Node (number_of v p.block p.offset)
    go side.Left = base_left (length v.structure) (Node (number_of v p.block p.offset)) (held_below v s p.block p.offset h)
    go side.Right = base_shift (length v.structure) (Node (number_of v p.block p.offset))
