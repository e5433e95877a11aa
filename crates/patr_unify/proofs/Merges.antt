-- The steps of a merge.
use Rattle.std.proofs.Common.{◌≡◌, ◌≢◌, ℕ, suc, ◌+◌, ◌<◌, ◌≤◌, ◌⊎◌, inl, inr, Bool, true, false, Option, Some, None, List, [], ◌∷◌, ◌++◌, length, length-set, get_or-set_same, get_or-set_other, refl, sym, ap, ◌∙◌, subst, arith, append-nil}
use Rattle.std.proofs.lemmas.Bool.{cases_eq}
use Rattle.patr_model.specs.Structure.{Value, Arc, along}
use Rattle.patr_marks.specs.Machine.{Pair, has_attribute}
use Rattle.patr_arena.specs.Shown.{Shown, IsShown, IsHeld, number_of}
use Rattle.patr_scratch.specs.declared.Side.{Side}
use Rattle.patr_scratch.specs.declared.Place.{Place}
use Rattle.patr_scratch.specs.declared.Target.{Target}
use Rattle.patr_scratch.specs.Contents.{Link, PlaceMarks, Contents, unmarked, slot, marks, put, with_arc, HasPlace}
use Rattle.patr_unify.specs.Reading.{key, value_at, TargetIsHeld, slot_of, marks_in, marks_of, arcs_at, added_of, pairs_at, LinksHeld, PairsHeld, OptionIsHeld, AreHeld, has_link}
use Rattle.patr_unify.specs.Merging.{IsKept, both, one_pair, one_more, IsGiven}
use Rattle.patr_unify.proofs.Keys.{key_slot, key_marks, key_room, slot_one, has_links}

-- a place's marks after a write
pub marks_put : (w : Contents) (s : Side) (n : ℕ) (m : PlaceMarks) (j : ℕ) → HasPlace w s n
    → ((j ≡ slot s n) × (marks_in (put w s n m) j ≡ m)) ⊎ ((j ≢ slot s n) × (marks_in (put w s n m) j ≡ marks_in w j))
marks_put w s n m j h = elim (cases_eq j (slot s n)) [
  | inl e ↦ inl (e, ap (marks_in (put w s n m)) e ∙ get_or-set_same w.places (slot s n) m unmarked h)
  | inr ne ↦ inr (ne, get_or-set_other w.places (slot s n) j m unmarked ne)
]

-- a field that the write leaves
pub field_put : {T : Type 0} (f : PlaceMarks → T) (w : Contents) (s : Side) (n : ℕ) (m : PlaceMarks) → HasPlace w s n → f m ≡ f (marks w s n) → (j : ℕ) → f (marks_in (put w s n m) j) ≡ f (marks_in w j)
field_put f w s n m h e j = elim (marks_put w s n m j h) [
  | inl g ↦ ap f g.1 ∙ (e ∙ ap (λ k. f (marks_in w k)) (sym g.0))
  | inr g ↦ ap f g.1
]

pub kept_same : (w : Contents) → IsKept w w
kept_same w = record {
  places = refl;
  arc_room = refl;
  pair_room = refl;
  visits = refl;
  visit_room = refl;
  order = refl;
  order_room = refl;
  copied = λ j. refl;
  visit = λ j. refl;
}

-- the marks of one place are written, but for its copy and its visit
pub put_kept : (w : Contents) (arcs : ℕ) (s : Side) (n : ℕ) (m : PlaceMarks) → HasPlace w s n → m.copied ≡ (marks w s n).copied → m.visit ≡ (marks w s n).visit → IsKept w (record (put w s n m) { arcs = arcs })
put_kept w arcs s n m h c x = record {
  places = length-set w.places (slot s n) m;
  arc_room = refl;
  pair_room = refl;
  visits = refl;
  visit_room = refl;
  order = refl;
  order_room = refl;
  copied = field_put (λ (u : PlaceMarks). u.copied) w s n m h c;
  visit = field_put (λ (u : PlaceMarks). u.visit) w s n m h x;
}

pub kept_then : (w t u : Contents) → IsKept w t → IsKept t u → IsKept w u
kept_then w t u h k = record {
  places = k.places ∙ h.places;
  arc_room = k.arc_room ∙ h.arc_room;
  pair_room = k.pair_room ∙ h.pair_room;
  visits = k.visits ∙ h.visits;
  visit_room = k.visit_room ∙ h.visit_room;
  order = k.order ∙ h.order;
  order_room = k.order_room ∙ h.order_room;
  copied = λ j. k.copied j ∙ h.copied j;
  visit = λ j. k.visit j ∙ h.visit j;
}

pub pairs_append : (v : Shown) (ps qs : List (Target × Target)) → pairs_at v (ps ++ qs) ≡ pairs_at v ps ++ pairs_at v qs
pairs_append v [] qs = refl
pairs_append v (p ∷ ps) qs = ap (λ us. (let r : Pair = record { left = value_at v p.0; right = value_at v p.1 } in r) ∷ us) (pairs_append v ps qs)

pub pairs_length : (v : Shown) (ps : List (Target × Target)) → length (pairs_at v ps) ≡ length ps
pairs_length v [] = refl
pairs_length v (p ∷ ps) = ap suc (pairs_length v ps)

pub pairs_held_append : (v : Shown) (ps qs : List (Target × Target)) → PairsHeld v ps → PairsHeld v qs → PairsHeld v (ps ++ qs)
pairs_held_append v [] qs h k = k
pairs_held_append v (p ∷ ps) qs h k = (h.0, h.1, pairs_held_append v ps qs h.2 k)

-- an arc is given: a later arc has its attribute
pub given_later : (v : Shown) (w : Contents) (later : Bool) (B a : ℕ) (x : Value) → AreHeld v w → PairsHeld v w.pairs → later ≡ true → IsGiven v w w later B a x
given_later v w later B a x h p e = record {
  kept = kept_same w;
  forward = λ j. refl;
  pairs = sym (append-nil (pairs_at v w.pairs)) ∙ ap (λ b. pairs_at v w.pairs ++ one_pair b (along (both v w B) a) x) (sym e);
  added = ap (λ b. one_more b (along (both v w B) a) a x (added_of v w B)) (sym e);
  others = λ k n. refl;
  arcs = omega arith;
  held = h;
  pairs_held = p;
}

-- a pair is pushed
pub given_pair : (v : Shown) (w t : Contents) (later : Bool) (B a : ℕ) (x other : Target) → AreHeld v w → PairsHeld v w.pairs → TargetIsHeld v x → TargetIsHeld v other → later ≡ false
    → Some (value_at v other) ≡ along (both v w B) a → t ≡ record w { pairs = w.pairs ++ (x, other) ∷ [] } → IsGiven v w t later B a (value_at v x)
given_pair v w t later B a x other h p hx ho e o is = subst (λ u. IsGiven v w u later B a (value_at v x)) (sym is) (record {
  kept = record { places = refl; arc_room = refl; pair_room = refl; visits = refl; visit_room = refl; order = refl; order_room = refl; copied = λ j. refl; visit = λ j. refl };
  forward = λ j. refl;
  pairs =
      pairs_append v w.pairs ((x, other) ∷ [])
      ∙ (ap (λ q. pairs_at v w.pairs ++ one_pair false q (value_at v x)) o ∙ ap (λ b. pairs_at v w.pairs ++ one_pair b (along (both v w B) a) (value_at v x)) (sym e));
  added = ap (λ q. one_more false q a (value_at v x) (added_of v w B)) o ∙ ap (λ b. one_more b (along (both v w B) a) a (value_at v x) (added_of v w B)) (sym e);
  others = λ k n. refl;
  arcs = omega arith;
  held = record { room = h.room; forwards = h.forwards; added = h.added };
  pairs_held = pairs_held_append v w.pairs ((x, other) ∷ []) p (hx, ho, tt);
})

-- an arc is added
pub given_more : (v : Shown) (w t : Contents) (later : Bool) (B : Place) (number a : ℕ) (x : Target) → IsShown v → AreHeld v w → PairsHeld v w.pairs → TargetIsHeld v x → IsHeld v B.block B.offset → number ≡ number_of v B.block B.offset
    → later ≡ false → None ≡ along (both v w (key v B)) a → t ≡ with_arc w B.side number a x → IsGiven v w t later (key v B) a (value_at v x)
given_more v w t later B number a x s h p hx hb q e o is = subst (λ u. IsGiven v w u later (key v B) a (value_at v x)) (sym is) (
    let j = slot B.side number in
    let n = length v.structure in
    let l : Link = record { cell = w.arcs; attribute = a; to = x } in
    let m : PlaceMarks = record (marks w B.side number) { added = l ∷ (marks w B.side number).added } in
    let kj : slot_of n (key v B) ≡ j = key_slot v s B hb ∙ ap (slot B.side) (sym q) in
    let room = key_room v w s h B hb in
    let has : HasPlace w B.side number = omega (arith, room, kj) in
    record {
      kept = put_kept w (w.arcs + 1) B.side number m has refl refl;
      forward = field_put (λ (u : PlaceMarks). u.forward) w B.side number m has refl;
      pairs =
          sym (append-nil (pairs_at v w.pairs))
          ∙ (ap (λ r. pairs_at v w.pairs ++ one_pair false r (value_at v x)) o ∙ ap (λ b. pairs_at v w.pairs ++ one_pair b (along (both v w (key v B)) a) (value_at v x)) (sym e));
      added =
          ap (λ i. arcs_at v (marks_in (put w B.side number m) i).added) kj
          ∙ (ap (λ (u : PlaceMarks). arcs_at v u.added) (get_or-set_same w.places j m unmarked has)
          ∙ (ap (λ i. (let r : Arc = record { attribute = a; to = value_at v x } in r) ∷ arcs_at v (marks_in w i).added) (sym kj)
          ∙ (ap (λ r. one_more false r a (value_at v x) (added_of v w (key v B))) o ∙ ap (λ b. one_more b (along (both v w (key v B)) a) a (value_at v x) (added_of v w (key v B))) (sym e))));
      others = λ k ne. ap (λ (u : PlaceMarks). arcs_at v u.added) (get_or-set_other w.places j (slot_of n k) m unmarked (λ z. ne (slot_one n k (key v B) (z ∙ sym kj))));
      arcs = omega arith;
      held = record {
        room = omega (arith, h.room, length-set w.places j m);
        forwards = λ i. subst (OptionIsHeld v) (sym (field_put (λ (u : PlaceMarks). u.forward) w B.side number m has refl i)) (h.forwards i);
        added = λ i. elim (marks_put w B.side number m i has) [
          | inl g ↦ subst (λ (u : PlaceMarks). LinksHeld v u.added) (sym g.1) (hx, h.added j)
          | inr g ↦ subst (λ (u : PlaceMarks). LinksHeld v u.added) (sym g.1) (h.added i)
        ];
      };
      pairs_held = p;
    })

-- whether a place has an added arc with the attribute
pub has_is : (v : Shown) (w : Contents) → IsShown v → (p : Place) (number a : ℕ) (b : Bool) → IsHeld v p.block p.offset → number ≡ number_of v p.block p.offset → b ≡ has_link (marks w p.side number).added a
    → b ≡ has_attribute (added_of v w (key v p)) a
has_is v w s p number a b h e g = g ∙ (ap (λ (m : PlaceMarks). has_link m.added a) (key_marks v w s p number h e) ∙ has_links v (marks_of v w (key v p)).added a)

pub place_room : (v : Shown) (w : Contents) → IsShown v → AreHeld v w → (p : Place) (number : ℕ) → IsHeld v p.block p.offset → number ≡ number_of v p.block p.offset → HasPlace w p.side number
place_room v w s a p number h e = let room = key_room v w s a p h in let one = key_slot v s p h ∙ ap (slot p.side) (sym e) in omega (arith, room, one)

pub pair_room_left : (v : Shown) (w : Contents) (l b : Bool) (o : Option Value) (y x : Value) → length w.pairs + length (one_pair l o x) ≤ w.pair_room → l ≡ false → o ≡ Some y → length w.pairs < w.pair_room
pair_room_left v w l b o y x h e q = let h' : length w.pairs + length (one_pair false (Some y) x) ≤ w.pair_room = subst (λ r. length w.pairs + length (one_pair false r x) ≤ w.pair_room) q (subst (λ c. length w.pairs + length (one_pair c o x) ≤ w.pair_room) e h) in omega (arith, h')
