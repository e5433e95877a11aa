-- Visits are set, and copies are marked.
use Rattle.std.proofs.Common.{◌≡◌, ℕ, List, [], ◌∷◌, length, length-set, get_or-set_same, get_or-set_other, refl, sym, ap, ◌∙◌, subst, suc, inl, inr, Some}
use Rattle.patr_arena.specs.Shown.{Shown, IsShown, IsHeld, number_of, arcs_from}
use Rattle.patr_scratch.specs.declared.Place.{Place}
use Rattle.patr_scratch.specs.declared.Target.{Target}
use Rattle.patr_scratch.specs.declared.Visit.{Visit}
use Rattle.patr_scratch.specs.Contents.{PlaceMarks, Contents, unmarked, slot, marks, put}
use Rattle.patr_unify.specs.Reading.{key, slot_of, marks_in, AreHeld, arcs_on}
use Rattle.patr_unify.specs.Walking.{IsVisited}
use Rattle.patr_unify.proofs.Keys.{key_slot, slot_one, own_key}
use Rattle.patr_unify.proofs.Merges.{field_put, place_room, marks_put}
use Rattle.patr_model.specs.Structure.{Arc}
use Rattle.patr_marks.specs.Machine.{own}
use Rattle.patr_marks.specs.Sides.{sides}
use Rattle.patr_arena.specs.declared.value.Feature.{Feature}
use Rattle.patr_scratch.specs.declared.Copied.{Copied}
use Rattle.patr_scratch.specs.declared.Side.{Side}
use Rattle.patr_scratch.specs.declared.Side.TheVariants as side
use Rattle.patr_unify.specs.Copying.{IsCopyMarked}

-- one visit is set
pub visited : (v : Shown) (w t : Contents) (p : Place) (number : ℕ) (state : Visit) → IsShown v → AreHeld v w → IsHeld v p.block p.offset → number ≡ number_of v p.block p.offset
    → t ≡ put w p.side number (record (marks w p.side number) { visit = state }) → IsVisited v w t (key v p) state
visited v w t p number state s a h e g =
    let m : PlaceMarks = record (marks w p.side number) { visit = state } in
    let n = length v.structure in
    let has = place_room v w s a p number h e in
    let at : slot_of n (key v p) ≡ slot p.side number = key_slot v s p h ∙ ap (slot p.side) (sym e) in
    subst (λ z. IsVisited v w z (key v p) state) (sym g) (record {
      still = record {
        places = length-set w.places (slot p.side number) m;
        arcs = refl;
        arc_room = refl;
        pair_room = refl;
        visit_room = refl;
        order_room = refl;
        forward = field_put (λ (u : PlaceMarks). u.forward) w p.side number m has refl;
        copied = field_put (λ (u : PlaceMarks). u.copied) w p.side number m has refl;
        added = field_put (λ (u : PlaceMarks). u.added) w p.side number m has refl;
      };
      here = ap (λ j. (marks_in (put w p.side number m) j).visit) at ∙ ap (λ (u : PlaceMarks). u.visit) (get_or-set_same w.places (slot p.side number) m unmarked has);
      others = λ j ne. ap (λ (u : PlaceMarks). u.visit) (get_or-set_other w.places (slot p.side number) (slot_of n j) m unmarked (λ q. ne (slot_one n j (key v p) (q ∙ sym at))));
    })

-- the stacks and the order may change after it
pub visited_then : (v : Shown) (w t u : Contents) (k : ℕ) (state : Visit) (ps order : List Place) (qs : List (Target × Target)) → IsVisited v w t k state → u ≡ record t { visits = ps; pairs = qs; order = order } → IsVisited v w u k state
visited_then v w t u k state ps order qs h e = subst (λ z. IsVisited v w z k state) (sym e) h

-- one copy is marked
pub copy_marked : (v : Shown) (w t : Contents) (p : Place) (number : ℕ) (d : Copied) → IsShown v → AreHeld v w → IsHeld v p.block p.offset → number ≡ number_of v p.block p.offset
    → t ≡ put w p.side number (record (marks w p.side number) { copied = Some d }) → IsCopyMarked v w t (key v p) d
copy_marked v w t p number d s a h e g =
    let m : PlaceMarks = record (marks w p.side number) { copied = Some d } in
    let n = length v.structure in
    let has = place_room v w s a p number h e in
    let at : slot_of n (key v p) ≡ slot p.side number = key_slot v s p h ∙ ap (slot p.side) (sym e) in
    subst (λ z. IsCopyMarked v w z (key v p) d) (sym g) (record {
      still = record {
        places = length-set w.places (slot p.side number) m;
        pair_room = refl;
        forward = field_put (λ (u : PlaceMarks). u.forward) w p.side number m has refl;
        added = field_put (λ (u : PlaceMarks). u.added) w p.side number m has refl;
      };
      arc_room = refl;
      pairs = refl;
      visits = refl;
      visit_room = refl;
      order = refl;
      order_room = refl;
      visit = field_put (λ (u : PlaceMarks). u.visit) w p.side number m has refl;
      here = ap (λ j. (marks_in (put w p.side number m) j).copied) at ∙ ap (λ (u : PlaceMarks). u.copied) (get_or-set_same w.places (slot p.side number) m unmarked has);
      others = λ j ne. ap (λ (u : PlaceMarks). u.copied) (get_or-set_other w.places (slot p.side number) (slot_of n j) m unmarked (λ q. ne (slot_one n j (key v p) (q ∙ sym at))));
      each = λ j. elim (marks_put w p.side number m j has) [ inl q ↦ inl (ap (λ (u : PlaceMarks). u.copied) q.1) | inr q ↦ inr (ap (λ (u : PlaceMarks). u.copied) q.1) ];
    })

-- a place has as many arcs as its node
pub own_length : (v : Shown) → IsShown v → (p : Place) (fs : List Feature) → IsHeld v p.block p.offset → arcs_from v p.block fs ≡ own v.structure (number_of v p.block p.offset) → length fs ≡ length (own (sides v.structure) (key v p))
own_length v s p fs h e = sym (ap (length {A = Arc}) (own_key v s p h ∙ ap (arcs_on p.side (length v.structure)) (sym e)) ∙ on p.side (length v.structure) fs)
  where
    on : (d : Side) (n : ℕ) (fs : List Feature) → length (arcs_on d n (arcs_from v p.block fs)) ≡ length fs
    on side.Left n [] = refl
    on side.Left n (f ∷ fs) = ap suc (on side.Left n fs)
    on side.Right n [] = refl
    on side.Right n (f ∷ fs) = ap suc (on side.Right n fs)
