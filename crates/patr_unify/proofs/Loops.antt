-- What a loop over the arcs of a place knows of the next one, and whether there is one.
use Rattle.std.proofs.Common.{◌≡◌, ℕ, ◌+◌, ◌<◌, ◌≤◌, inl, Option, Some, None, List, [], ◌∷◌, length, drop, get_or, refl, sym, ap, ◌∙◌, subst, ◌++◌, arith}
use Rattle.std.proofs.lemmas.List.{get_or_default}
use Rattle.patr_scratch.proofs.Linking.{after_first}
use Rattle.patr_model.specs.Structure.{Arcs, Atom, Value}
use Rattle.patr_marks.specs.Machine.{Has, HaveTwoAtoms, own}
use Rattle.patr_marks.specs.Sides.{sides, shift}
use Rattle.patr_marks.proofs.Lists.{has_left, has_right}
use Rattle.patr_text.specs.declared.symbols.Id.{Id}
use Rattle.patr_arena.specs.declared.value.Addr.{Addr}
use Rattle.patr_arena.specs.declared.value.Feature.{Feature}
use Rattle.patr_arena.specs.declared.value.Ref.{Ref}
use Rattle.patr_arena.specs.declared.value.Ref.TheVariants as ref
use Rattle.patr_arena.specs.Shown.{AllHeld, IsHeld, IsShown, RefIsHeld, Shown, arcs_from, number_of, ref_of}
use Rattle.patr_scratch.specs.declared.Added.{Added}
use Rattle.patr_scratch.specs.declared.Place.{Place}
use Rattle.patr_scratch.specs.declared.Side.{Side}
use Rattle.patr_scratch.specs.Contents.{Contents, EndsOrHas, HasCell, HasPlace, IsCell, Link, PlaceMarks, after, first_cell, marks, slot}
use Rattle.patr_unify.specs.Merging.{both}
use Rattle.patr_unify.specs.Reading.{AreHeld, AreTwoAtoms, LinksHeld, TargetIsHeld, added_of, arcs_at, key, marks_of, value_at, arcs_on, value_on}
use Rattle.patr_unify.proofs.Keys.{first_has, key_marks, own_key}
use Rattle.patr_unify.proofs.Merges.{place_room}
use Rattle.patr_unify.proofs.Pushes.{after_held, next_arc}
use Rattle.patr_unify.proofs.Takes.{all_dropped, arc_of, feature_is_held, own_drop}
use Rattle.patr_unify.proofs.Walks.{after_has, drop_has}
use Rattle.patr_scratch.specs.declared.Side.TheVariants as side

-- what is read past the end
abbrev pub blank : Feature
blank = record { attribute = record { 0 = 0 }; to = ref.Atom (record { 0 = 0 }) }

-- the own arc of a place at an index
pub record IsOwnArc (v : Shown) (w : Contents) (p : Place) (i : ℕ) (f : Feature) : Type 0 where
  pub held : RefIsHeld v p.block f.to
  pub next : drop i (own (sides v.structure) (key v p)) ≡ arc_of v p f ∷ drop (i + 1) (own (sides v.structure) (key v p))
  pub has : Has (own (sides v.structure) (key v p)) f.attribute.0 (arc_of v p f).to
  pub among : Has (both v w (key v p)) f.attribute.0 (arc_of v p f).to

module _ (v : Shown) (s : IsShown v) (w : Contents) (p : Place) (there : IsHeld v p.block p.offset) (at : Addr) (is : at ≡ record { block = p.block; offset = p.offset }) (fs : List Feature)
    (held : AllHeld v at.block fs) (same : arcs_from v at.block fs ≡ own v.structure (number_of v at.block at.offset)) where
  pub arcs_are : arcs_from v p.block fs ≡ own v.structure (number_of v p.block p.offset)
  arcs_are = subst (λ (a : Addr). arcs_from v a.block fs ≡ own v.structure (number_of v a.block a.offset)) is same

  pub own_arc : (i : ℕ) → i < length fs → IsOwnArc v w p i (get_or fs i blank)
  own_arc i l =
      let f : Feature = get_or fs i blank in
      let all : Arcs = own (sides v.structure) (key v p) in
      let q = get_or_default fs i blank f l in
      let next = own_drop v s p fs i f there arcs_are l q in
      let has : Has all f.attribute.0 (arc_of v p f).to = drop_has all i f.attribute.0 (arc_of v p f).to (subst (λ es. Has es f.attribute.0 (arc_of v p f).to) (sym next) (inl (refl, refl))) in
      record {
        held = feature_is_held v p.block fs i f (subst (λ (a : Addr). AllHeld v a.block fs) is held) l q;
        next = next;
        has = has;
        among = has_left all (added_of v w (key v p)) f.attribute.0 (arc_of v p f).to has;
      }

  -- behind the last one
  pub own_end : (i : ℕ) → length fs ≤ i → drop i (own (sides v.structure) (key v p)) ≡ []
  own_end i l = all_dropped v s p fs i there arcs_are l

-- the added arc in a cell of this list
pub record IsLinkAt (v : Shown) (ls : List Link) (next : Option ℕ) (cell : ℕ) (r : Added) : Type 0 where
  pub step : after ls next ≡ record { cell = cell; attribute = r.attribute; to = r.to } ∷ after ls r.next
  pub arcs : arcs_at v (after ls next) ≡ record { attribute = r.attribute; to = value_at v r.to } ∷ arcs_at v (after ls r.next)
  pub left : EndsOrHas ls r.next
  pub held : TargetIsHeld v r.to
  pub has : Has (arcs_at v ls) r.attribute (value_at v r.to)

-- what is read in a cell, where pairs alone were pushed
pub link_at : (v : Shown) (s : IsShown v) (w t : Contents) → AreHeld v w → (p : Place) (n : ℕ) → IsHeld v p.block p.offset → n ≡ number_of v p.block p.offset → t ≡ record w { pairs = t.pairs }
    → (next : Option ℕ) (cell : ℕ) (r : Added) → EndsOrHas (marks w p.side n).added next → next ≡ Some cell
    → ((d : Side) (m : ℕ) → HasPlace t d m → HasCell (marks t d m).added cell → (after (marks t d m).added (Some cell) ≡ record { cell = cell; attribute = r.attribute; to = r.to } ∷ after (marks t d m).added r.next) × EndsOrHas (marks t d m).added r.next)
    → IsLinkAt v (marks w p.side n).added next cell r
link_at v s w t held p n there e q next cell r h is f =
    let ls = (marks w p.side n).added in
    let one = next_arc w t p.side n cell r next q (place_room v w s held p n there e) h is f in
    record {
      step = one.0;
      arcs = ap (arcs_at v) one.0;
      left = one.1;
      held = (subst (LinksHeld v) one.0 (after_held v ls next (held.added (slot p.side n)))).0;
      has = after_has v ls next r.attribute (value_at v r.to) (subst (λ (us : List Link). Has (arcs_at v us) r.attribute (value_at v r.to)) (sym one.0) (inl (refl, refl)));
    }

-- it is one of the place's arcs
pub link_among : (v : Shown) (s : IsShown v) (w : Contents) (p : Place) (n a : ℕ) (x : Value) → IsHeld v p.block p.offset → n ≡ number_of v p.block p.offset → Has (arcs_at v (marks w p.side n).added) a x → Has (both v w (key v p)) a x
link_among v s w p n a x there e h = has_right (own (sides v.structure) (key v p)) (added_of v w (key v p)) a x (subst (λ (m : PlaceMarks). Has (arcs_at v m.added) a x) (key_marks v w s p n there e) h)

-- the list of a place's added arcs, from one of its cells on
module _ (v : Shown) (w : Contents) (s : IsShown v) (held : AreHeld v w) (p : Place) (there : IsHeld v p.block p.offset) where
  marks_same : marks w p.side (number_of v p.block p.offset) ≡ marks_of v w (key v p)
  marks_same = key_marks v w s p (number_of v p.block p.offset) there refl

  has_place : HasPlace w p.side (number_of v p.block p.offset)
  has_place = place_room v w s held p (number_of v p.block p.offset) there refl

  pub is_cell : (next : Option ℕ) (cell : ℕ) → EndsOrHas (marks_of v w (key v p)).added next → next ≡ Some cell → IsCell w cell
  is_cell next cell h e = (p.side, number_of v p.block p.offset, has_place, subst (λ (m : PlaceMarks). HasCell m.added cell) (sym marks_same) (subst (EndsOrHas (marks_of v w (key v p)).added) e h))

  pub link_of : (next : Option ℕ) (cell : ℕ) (r : Added) → EndsOrHas (marks_of v w (key v p)).added next → next ≡ Some cell
      → ((d : Side) (m : ℕ) → HasPlace w d m → HasCell (marks w d m).added cell → (after (marks w d m).added (Some cell) ≡ record { cell = cell; attribute = r.attribute; to = r.to } ∷ after (marks w d m).added r.next) × EndsOrHas (marks w d m).added r.next)
      → IsLinkAt v (marks_of v w (key v p)).added next cell r
  link_of next cell r h e f =
      subst (λ (m : PlaceMarks). IsLinkAt v m.added next cell r) marks_same
      (link_at v s w w held p (number_of v p.block p.offset) there refl refl next cell r (subst (λ (m : PlaceMarks). EndsOrHas m.added next) (sym marks_same) h) e f)

  -- the first cell
  pub first_link : (first : Option ℕ) → first ≡ first_cell (marks w p.side (number_of v p.block p.offset)).added → EndsOrHas (marks_of v w (key v p)).added first × (arcs_at v (after (marks_of v w (key v p)).added first) ≡ added_of v w (key v p))
  first_link first e =
      let ls = (marks_of v w (key v p)).added in
      let q : first ≡ first_cell ls = e ∙ ap (λ (m : PlaceMarks). first_cell m.added) marks_same in
      (subst (EndsOrHas ls) (sym q) (first_has ls), ap (λ o. arcs_at v (after ls o)) q ∙ ap (arcs_at v) (after_first ls))

-- own arcs of two places, to unequal atoms
pub two_atoms : (v : Shown) (p q : Place) (f g : Feature) (es fs : Arcs) → Has es f.attribute.0 (arc_of v p f).to → Has fs g.attribute.0 (arc_of v q g).to → AreTwoAtoms f g → HaveTwoAtoms es fs
two_atoms v p q f g es fs h k t =
    let n = length v.structure in
    let to : (s : Side) (b : ℕ) (r : Ref) (c : Id) → r ≡ ref.Atom c → value_on s n (ref_of v b r) ≡ Atom c.0 = λ s b r c e. ap (λ u. value_on s n (ref_of v b u)) e ∙ atom_on s n c.0 in (
      f.attribute.0,
      t.0.0,
      t.1.0,
      subst (Has es f.attribute.0) (to p.side p.block f.to t.0 t.2) h,
      subst (Has fs f.attribute.0) (to q.side q.block g.to t.1 t.3) (subst (λ a. Has fs a (arc_of v q g).to) (sym t.4) k),
      t.5,
    )
  where
    atom_on : (s : Side) (n c : ℕ) → value_on s n (Atom c) ≡ Atom c
    atom_on side.Left n c = refl
    atom_on side.Right n c = refl

first_on : (v : Shown) (b : ℕ) (s : Side) (n : ℕ) (fs : List Feature) → 0 < length fs → (a : ℕ) × (x : Value) × Has (arcs_on s n (arcs_from v b fs)) a x
first_on v b s n [] h = absurd (omega (arith, h))
first_on v b side.Left n (f ∷ fs) h = (f.attribute.0, ref_of v b f.to, inl (refl, refl))
first_on v b side.Right n (f ∷ fs) h = (f.attribute.0, shift n (ref_of v b f.to), inl (refl, refl))

none_on : (v : Shown) (b : ℕ) (s : Side) (n : ℕ) (fs : List Feature) → length fs ≤ 0 → arcs_on s n (arcs_from v b fs) ≡ []
none_on v b side.Left n [] h = refl
none_on v b side.Right n [] h = refl
none_on v b s n (f ∷ fs) h = absurd (omega (arith, h))

pub own_has : (v : Shown) (w : Contents) → IsShown v → (p : Place) (fs : List Feature) → IsHeld v p.block p.offset → arcs_from v p.block fs ≡ own v.structure (number_of v p.block p.offset) → 0 < length fs
    → (a : ℕ) × (x : Value) × Has (both v w (key v p)) a x
own_has v w s p fs h e l =
    let r = first_on v p.block p.side (length v.structure) fs l in
    let is : arcs_on p.side (length v.structure) (arcs_from v p.block fs) ≡ own (sides v.structure) (key v p) = ap (arcs_on p.side (length v.structure)) e ∙ sym (own_key v s p h) in
    (r.0, r.1, has_left (own (sides v.structure) (key v p)) (added_of v w (key v p)) r.0 r.1 (subst (λ es. Has es r.0 r.1) is r.2))

pub added_has : (v : Shown) (w : Contents) → IsShown v → (p : Place) (number c : ℕ) → IsHeld v p.block p.offset → number ≡ number_of v p.block p.offset → Some c ≡ first_cell (marks w p.side number).added
    → (a : ℕ) × (x : Value) × Has (both v w (key v p)) a x
added_has v w s p number c h e q =
    let r = first (marks_of v w (key v p)).added (q ∙ ap (λ (m : PlaceMarks). first_cell m.added) (key_marks v w s p number h e)) in
    (r.0, r.1, has_right (own (sides v.structure) (key v p)) (added_of v w (key v p)) r.0 r.1 r.2)
  where
    first : (ls : List Link) → Some c ≡ first_cell ls → (a : ℕ) × (x : Value) × Has (arcs_at v ls) a x
    first [] q = cc
    first (l ∷ ls) q = (l.attribute, value_at v l.to, inl (refl, refl))

-- where a place has no first cell, it has no added arcs
pub none_added : (v : Shown) (w : Contents) → IsShown v → (p : Place) (number : ℕ) → IsHeld v p.block p.offset → number ≡ number_of v p.block p.offset → None ≡ first_cell (marks w p.side number).added → added_of v w (key v p) ≡ []
none_added v w s p number h n q = none (marks_of v w (key v p)).added (q ∙ ap (λ (m : PlaceMarks). first_cell m.added) (key_marks v w s p number h n))
  where
    none : (ls : List Link) → None ≡ first_cell ls → arcs_at v ls ≡ []
    none [] q = refl
    none (l ∷ ls) q = cc

pub both_bare : (v : Shown) (w : Contents) → IsShown v → (p : Place) (number : ℕ) (fs : List Feature) → IsHeld v p.block p.offset → arcs_from v p.block fs ≡ own v.structure (number_of v p.block p.offset) → length fs ≤ 0
    → number ≡ number_of v p.block p.offset → None ≡ first_cell (marks w p.side number).added → both v w (key v p) ≡ []
both_bare v w s p number fs h e l n q =
    let mine : own (sides v.structure) (key v p) ≡ [] = own_key v s p h ∙ (ap (arcs_on p.side (length v.structure)) (sym e) ∙ none_on v p.block p.side (length v.structure) fs l) in
    ap (λ es. es ++ added_of v w (key v p)) mine ∙ none_added v w s p number h n q
