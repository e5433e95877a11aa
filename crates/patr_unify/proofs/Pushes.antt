-- Added arcs are paired, and then moved.
use Rattle.std.proofs.Common.{◌≡◌, ◌≢◌, ℕ, ◌+◌, ◌<◌, ◌≤◌, inl, inr, Bool, true, false, cond, nat_eq, ◌||◌, Option, Some, None, List, [], ◌∷◌, ◌++◌, length, length-append, length-set, set, get_or, get_or-set_same, get_or-set_other, refl, sym, ap, ◌∙◌, subst, arith, append_assoc, append-nil}
use Rattle.std.proofs.lemmas.Bool.{cases_eq}
use Rattle.patr_model.specs.Structure.{Value, Arc, Arcs, along}
use Rattle.patr_marks.specs.Machine.{Pair, has_attribute, pair_with, matches}
use Rattle.patr_arena.specs.Shown.{Shown, IsShown, IsHeld, number_of}
use Rattle.patr_scratch.specs.declared.Added.{Added}
use Rattle.patr_scratch.specs.declared.Side.{Side}
use Rattle.patr_scratch.specs.declared.Place.{Place}
use Rattle.patr_scratch.specs.declared.Target.{Target}
use Rattle.patr_scratch.specs.declared.Target.TheVariants as target
use Rattle.patr_scratch.specs.Contents.{Link, PlaceMarks, Contents, unmarked, slot, marks, put, with_moved, HasPlace, HasCell, EndsOrHas, after, from_cell}
use Rattle.patr_unify.specs.Reading.{key, value_at, TargetIsHeld, slot_of, marks_in, option_at, arcs_at, added_of, pairs_at, LinksHeld, PairsHeld, OptionIsHeld, AreHeld, has_link}
use Rattle.patr_unify.specs.Merging.{both, one_pair, IsTaken, HasMergeRoom, IsMerged, IsPushed}
use Rattle.patr_unify.proofs.Keys.{key_slot, key_marks, key_room, slot_one, has_links}
use Rattle.patr_unify.proofs.Merges.{pairs_append, pairs_length, pairs_held_append, place_room}
use Rattle.patr_unify.proofs.Takes.{one_before}

pub pushed_one : (v : Shown) (w t : Contents) (x other : Target) (l : Bool) (o : Option Value) → PairsHeld v w.pairs → TargetIsHeld v x → TargetIsHeld v other → l ≡ false → Some (value_at v other) ≡ o
    → t ≡ record w { pairs = w.pairs ++ (x, other) ∷ [] } → IsPushed v w t (one_pair l o (value_at v x))
pushed_one v w t x other l o p hx ho e q is = subst (λ z. IsPushed v w z (one_pair l o (value_at v x))) (sym is) (record {
  rest = refl;
  pairs =
      pairs_append v w.pairs ((x, other) ∷ [])
      ∙ (ap (λ r. pairs_at v w.pairs ++ one_pair false r (value_at v x)) q ∙ ap (λ b. pairs_at v w.pairs ++ one_pair b o (value_at v x)) (sym e));
  held = pairs_held_append v w.pairs ((x, other) ∷ []) p (hx, ho, tt);
})

-- the next arc of a list
pub next_arc : (w t : Contents) (s : Side) (n cell : ℕ) (r : Added) (next : Option ℕ) → t ≡ record w { pairs = t.pairs } → HasPlace w s n → EndsOrHas (marks w s n).added next → next ≡ Some cell
    → ((d : Side) (m : ℕ) → HasPlace t d m → HasCell (marks t d m).added cell → (after (marks t d m).added (Some cell) ≡ record { cell = cell; attribute = r.attribute; to = r.to } ∷ after (marks t d m).added r.next) × EndsOrHas (marks t d m).added r.next)
    → (after (marks w s n).added next ≡ record { cell = cell; attribute = r.attribute; to = r.to } ∷ after (marks w s n).added r.next) × EndsOrHas (marks w s n).added r.next
next_arc w t s n cell r next q p h e f =
    let list = (marks w s n).added in
    let same : (marks t s n).added ≡ list = ap (λ (z : Contents). (marks z s n).added) q in
    let h' : HasCell list cell = subst (EndsOrHas list) e h in
    let p' : HasPlace t s n = subst (λ (z : Contents). HasPlace z s n) (sym q) p in
    let one = f s n p' (subst (λ ls. HasCell ls cell) (sym same) h') in
    let two : (after list (Some cell) ≡ (let l : Link = record { cell = cell; attribute = r.attribute; to = r.to } in l) ∷ after list r.next) × EndsOrHas list r.next =
    subst (λ ls. (after ls (Some cell) ≡ (let l : Link = record { cell = cell; attribute = r.attribute; to = r.to } in l) ∷ after ls r.next) × EndsOrHas ls r.next) same one in
    (ap (after list) e ∙ two.0, two.1)

from_held : (v : Shown) (ls : List Link) (c : ℕ) → LinksHeld v ls → LinksHeld v (from_cell ls c)
from_held v [] c h = h
from_held v (l ∷ ls) c h = go (nat_eq l.cell c) (from_held v ls c h.1)
  where
    go : (b : Bool) → LinksHeld v (from_cell ls c) → LinksHeld v (cond b (l ∷ ls) (from_cell ls c))
    go true ih = h
    go false ih = ih

pub after_held : (v : Shown) (ls : List Link) (o : Option ℕ) → LinksHeld v ls → LinksHeld v (after ls o)
after_held v ls None h = tt
after_held v ls (Some c) h = from_held v ls c h

-- the pairs of a list's arcs
pub matches_link : (v : Shown) (l : Link) (ls : List Link) (bs : Arcs) → matches (arcs_at v (l ∷ ls)) bs ≡ one_pair (has_link ls l.attribute) (along bs l.attribute) (value_at v l.to) ++ matches (arcs_at v ls) bs
matches_link v l ls bs =
    one_before (has_attribute (arcs_at v ls) l.attribute) (along bs l.attribute) (value_at v l.to) (matches (arcs_at v ls) bs)
    ∙ ap (λ b. one_pair b (along bs l.attribute) (value_at v l.to) ++ matches (arcs_at v ls) bs) (sym (has_links v ls l.attribute))

pub link_fits : (v : Shown) (w t : Contents) (s : Side) (n : ℕ) (l : Link) (next : Option ℕ) (now : List Link) (B : ℕ) (all : List Pair) → t ≡ record w { pairs = t.pairs } → now ≡ l ∷ after (marks w s n).added next
    → pairs_at v t.pairs ++ matches (arcs_at v now) (both v w B) ≡ pairs_at v w.pairs ++ all → length w.pairs + length all ≤ w.pair_room
    → length t.pairs + length (one_pair (has_link (after (marks t s n).added next) l.attribute) (along (both v t B) l.attribute) (value_at v l.to)) ≤ t.pair_room
link_fits v w t s n l next now B all q e h r =
    let rest = after (marks w s n).added next in
    let ps = one_pair (has_link rest l.attribute) (along (both v w B) l.attribute) (value_at v l.to) in
    let more = matches (arcs_at v rest) (both v w B) in
    let sum : pairs_at v t.pairs ++ (ps ++ more) ≡ pairs_at v w.pairs ++ all = ap (λ us. pairs_at v t.pairs ++ us) (sym (matches_link v l rest (both v w B)) ∙ ap (λ us. matches (arcs_at v us) (both v w B)) (sym e)) ∙ h in
    let size = ap (length {A = Pair}) sum in
    let room : t.pair_room ≡ w.pair_room = ap (λ (z : Contents). z.pair_room) q in
    let fits : length t.pairs + length ps ≤ t.pair_room =
    omega (arith, size, length-append (pairs_at v t.pairs) (ps ++ more), length-append ps more, length-append (pairs_at v w.pairs) all, pairs_length v t.pairs, pairs_length v w.pairs, r, room) in
    subst (λ (z : Contents). length t.pairs + length (one_pair (has_link (after (marks z s n).added next) l.attribute) (along (both v z B) l.attribute) (value_at v l.to)) ≤ t.pair_room) (sym q) fits

pub link_pushed : (v : Shown) (w t u : Contents) (s : Side) (n : ℕ) (l : Link) (next : Option ℕ) (now : List Link) (B : ℕ) (all : List Pair) → t ≡ record w { pairs = t.pairs } → now ≡ l ∷ after (marks w s n).added next
    → pairs_at v t.pairs ++ matches (arcs_at v now) (both v w B) ≡ all
    → IsPushed v t u (one_pair (has_link (after (marks t s n).added next) l.attribute) (along (both v t B) l.attribute) (value_at v l.to))
    → (u ≡ record w { pairs = u.pairs }) × (pairs_at v u.pairs ++ matches (arcs_at v (after (marks w s n).added next)) (both v w B) ≡ all)
link_pushed v w t u s n l next now B all q e h g =
    let rest = after (marks w s n).added next in
    let ps = one_pair (has_link rest l.attribute) (along (both v w B) l.attribute) (value_at v l.to) in
    let more = matches (arcs_at v rest) (both v w B) in
    let pushed : pairs_at v u.pairs ≡ pairs_at v t.pairs ++ ps =
    g.pairs ∙ ap (λ (z : Contents). pairs_at v t.pairs ++ one_pair (has_link (after (marks z s n).added next) l.attribute) (along (both v z B) l.attribute) (value_at v l.to)) q in (
      g.rest ∙ ap (λ (z : Contents). record z { pairs = u.pairs }) q,
      ap (λ us. us ++ more) pushed ∙ (append_assoc (pairs_at v t.pairs) ps more
          ∙ (ap (λ us. pairs_at v t.pairs ++ us) (sym (matches_link v l rest (both v w B)) ∙ ap (λ us. matches (arcs_at v us) (both v w B)) (sym e)) ∙ h)),
    )

-- pairs with what is found alike are alike
pub matches_same : (es bs cs : Arcs) → ((a : ℕ) → has_attribute es a ≡ true → along bs a ≡ along cs a) → matches es bs ≡ matches es cs
matches_same [] bs cs f = refl
matches_same (e ∷ es) bs cs f =
    let rest : matches es bs ≡ matches es cs = matches_same es bs cs (λ a i. f a (or_right (nat_eq e.attribute a) (has_attribute es a) i)) in
    let this : along bs e.attribute ≡ along cs e.attribute = f e.attribute (or_first (nat_eq e.attribute e.attribute) (has_attribute es e.attribute) (same e.attribute)) in
    ap (λ ps. cond (has_attribute es e.attribute) ps (pair_with (along bs e.attribute) e.to ps)) rest ∙ ap (λ o. cond (has_attribute es e.attribute) (matches es cs) (pair_with o e.to (matches es cs))) this
  where
    or_right : (b c : Bool) → c ≡ true → (b || c) ≡ true
    or_right true c h = refl
    or_right false c h = h

    or_first : (b c : Bool) → b ≡ true → (b || c) ≡ true
    or_first true c h = refl
    or_first false c h = cc

    same : (a : ℕ) → nat_eq a a ≡ true
    same a = grind arith

pub taken_matches : (v : Shown) (w t : Contents) (A B : ℕ) → A ≢ B → IsTaken v w t A B [] → matches (added_of v t A) (both v t B) ≡ matches (added_of v w A) (both v w B)
taken_matches v w t A B n h = ap (λ es. matches es (both v t B)) (h.others A n) ∙ matches_same (added_of v w A) (both v t B) (both v w B) h.finds

pub added_fits : (v : Shown) (w t : Contents) (A B : ℕ) → A ≢ B → IsTaken v w t A B [] → HasMergeRoom v w A B → length t.pairs + length (matches (added_of v t A) (both v t B)) ≤ t.pair_room
added_fits v w t A B n h r =
    let ms = matches (added_of v w A) (both v w B) in
    let size = ap (length {A = Pair}) h.pairs in
    let fits : length t.pairs + length ms ≤ t.pair_room =
    omega (arith, size, length-append (pairs_at v t.pairs) ms, length-append (pairs_at v w.pairs) (matches (both v w A) (both v w B)), pairs_length v t.pairs, pairs_length v w.pairs, r.pairs, h.kept.pair_room) in
    subst (λ ps. length t.pairs + length ps ≤ t.pair_room) (sym (taken_matches v w t A B n h)) fits

-- the two last steps of a merge
abbrev pub merged_by : Contents → Side → ℕ → Side → ℕ → Target → Contents
merged_by u s m d n to = put (with_moved u s m d n) s m (record (marks (with_moved u s m d n) s m) { forward = Some to })

-- they change the marks of two places
pub record MergedAt (u : Contents) (y : Contents) (J : ℕ) (K : ℕ) (to : Target) : Type 0 where
  pub here : marks_in y J ≡ record (marks_in u J) { forward = Some to; added = [] }
  pub there : marks_in y K ≡ record (marks_in u K) { added = (marks_in u J).added ++ (marks_in u K).added }
  pub others : (j : ℕ) → j ≢ J → j ≢ K → marks_in y j ≡ marks_in u j

pub merged_at : (u : Contents) (s d : Side) (m n : ℕ) (to : Target) → HasPlace u s m → HasPlace u d n → slot s m ≢ slot d n → MergedAt u (merged_by u s m d n to) (slot s m) (slot d n) to
merged_at u s d m n to hJ hK ne =
    let J = slot s m in
    let K = slot d n in
    let mB : PlaceMarks = record (marks_in u K) { added = (marks_in u J).added ++ (marks_in u K).added } in
    let mA : PlaceMarks = record (marks_in u J) { added = [] } in
    let one = set u.places K mB in
    let two = set one J mA in
    let last : PlaceMarks = record (get_or two J unmarked) { forward = Some to } in
    let l1 : J < length one = omega (arith, hJ, length-set u.places K mB) in
    let l2 : J < length two = omega (arith, l1, length-set one J mA) in
    let at_J : get_or two J unmarked ≡ mA = get_or-set_same one J mA unmarked l1 in
    let past : (j : ℕ) → j ≢ J → get_or (set two J last) j unmarked ≡ get_or one j unmarked = λ j nJ. get_or-set_other two J j last unmarked nJ ∙ get_or-set_other one J j mA unmarked nJ in
    record {
      here = get_or-set_same two J last unmarked l2 ∙ ap (λ (p : PlaceMarks). (let q : PlaceMarks = record p { forward = Some to } in q)) at_J;
      there = past K (λ e. ne (sym e)) ∙ get_or-set_same u.places K mB unmarked hK;
      others = λ j nJ nK. past j nJ ∙ get_or-set_other u.places K j mB unmarked nK;
    }

links_append_held : (v : Shown) (ls ms : List Link) → LinksHeld v ls → LinksHeld v ms → LinksHeld v (ls ++ ms)
links_append_held v [] ms h k = k
links_append_held v (l ∷ ls) ms h k = (h.0, links_append_held v ls ms h.1 k)

arcs_append : (v : Shown) (ls ms : List Link) → arcs_at v (ls ++ ms) ≡ arcs_at v ls ++ arcs_at v ms
arcs_append v [] ms = refl
arcs_append v (l ∷ ls) ms = ap (λ es. (let r : Arc = record { attribute = l.attribute; to = value_at v l.to } in r) ∷ es) (arcs_append v ls ms)

-- what holds of all marks before, and of those of the two, holds of all
merged_all : (P : ℕ → PlaceMarks → Type 0) (u y : Contents) (J K : ℕ) (to : Target) → MergedAt u y J K to → P J (record (marks_in u J) { forward = Some to; added = [] })
    → P K (record (marks_in u K) { added = (marks_in u J).added ++ (marks_in u K).added }) → ((j : ℕ) → P j (marks_in u j)) → (j : ℕ) → P j (marks_in y j)
merged_all P u y J K to m a b o j = elim (cases_eq j J) [
  | inl e ↦ subst (λ i. P i (marks_in y i)) (sym e) (subst (P J) (sym m.here) a)
  | inr nJ ↦ elim (cases_eq j K) [ inl e ↦ subst (λ i. P i (marks_in y i)) (sym e) (subst (P K) (sym m.there) b) | inr nK ↦ subst (P j) (sym (m.others j nJ nK)) (o j) ]
]

pub merged : (v : Shown) (w t u x y : Contents) (from to : Place) (source destination : ℕ) → IsShown v → IsHeld v from.block from.offset → IsHeld v to.block to.offset → key v from ≢ key v to
    → source ≡ number_of v from.block from.offset → destination ≡ number_of v to.block to.offset
    → IsTaken v w t (key v from) (key v to) [] → IsPushed v t u (matches (added_of v t (key v from)) (both v t (key v to)))
    → x ≡ with_moved u from.side source to.side destination → y ≡ put x from.side source (record (marks x from.side source) { forward = Some (target.Place to) }) → IsMerged v w y (key v from) (key v to)
merged v w t u x y from to source destination s hA hB ne eA eB h g mx my =
    let A = key v from in
    let B = key v to in
    let n = length v.structure in
    let J = slot from.side source in
    let K = slot to.side destination in
    let f : Contents = record t { pairs = u.pairs } in
    let z = merged_by f from.side source to.side destination (target.Place to) in
    let is : y ≡ z =
    my ∙ (ap (λ (q : Contents). put q from.side source (record (marks q from.side source) { forward = Some (target.Place to) })) mx ∙ ap (λ (q : Contents). merged_by q from.side source to.side destination (target.Place to)) g.rest) in
    let sJ : slot_of n A ≡ J = key_slot v s from hA ∙ ap (slot from.side) (sym eA) in
    let sK : slot_of n B ≡ K = key_slot v s to hB ∙ ap (slot to.side) (sym eB) in
    let JK : J ≢ K = λ q. ne (slot_one n A B (sJ ∙ (q ∙ sym sK))) in
    let roomA = key_room v t s h.held from hA in
    let roomB = key_room v t s h.held to hB in
    let hJ : HasPlace f from.side source = omega (arith, roomA, sJ) in
    let hK : HasPlace f to.side destination = omega (arith, roomB, sK) in
    let m = merged_at f from.side to.side source destination (target.Place to) hJ hK JK in
    let others : (k : ℕ) → k ≢ A → k ≢ B → marks_in z (slot_of n k) ≡ marks_in t (slot_of n k) =
    λ k nA nB. m.others (slot_of n k) (λ q. nA (slot_one n k A (q ∙ sym sJ))) (λ q. nB (slot_one n k B (q ∙ sym sK))) in
    let mB : PlaceMarks = record (marks_in t K) { added = (marks_in t J).added ++ (marks_in t K).added } in
    let mA : PlaceMarks = record (marks_in t J) { added = [] } in
    let places : length z.places ≡ length t.places =
    length-set (set (set t.places K mB) J mA) J (record (get_or (set (set t.places K mB) J mA) J unmarked) { forward = Some (target.Place to) }) ∙ (length-set (set t.places K mB) J mA ∙ length-set t.places K mB) in
    subst (λ q. IsMerged v w q A B) (sym is) (record {
      kept = record {
        places = places ∙ h.kept.places;
        arc_room = h.kept.arc_room;
        pair_room = h.kept.pair_room;
        visits = h.kept.visits;
        visit_room = h.kept.visit_room;
        order = h.kept.order;
        order_room = h.kept.order_room;
        copied = λ j. merged_all (λ (j : ℕ) (p : PlaceMarks). p.copied ≡ (marks_in t j).copied) f z J K (target.Place to) m refl refl (λ j. refl) j ∙ h.kept.copied j;
        visit = λ j. merged_all (λ (j : ℕ) (p : PlaceMarks). p.visit ≡ (marks_in t j).visit) f z J K (target.Place to) m refl refl (λ j. refl) j ∙ h.kept.visit j;
      };
      pairs = g.pairs ∙ (ap (λ ps. pairs_at v t.pairs ++ ps) (taken_matches v w t A B ne h) ∙ h.pairs);
      forward = ap (λ i. option_at v (marks_in z i).forward) sJ ∙ ap (λ (p : PlaceMarks). option_at v p.forward) m.here;
      forwards = λ k nA. elim (cases_eq k B) [
        | inl e ↦
            ap (λ i. option_at v (marks_in z (slot_of n i)).forward) e ∙ (ap (λ i. option_at v (marks_in z i).forward) sK ∙ (ap (λ (p : PlaceMarks). option_at v p.forward) m.there
            ∙ (ap (option_at v) (h.forward K) ∙ (ap (λ i. option_at v (marks_in w i).forward) (sym sK) ∙ ap (λ i. option_at v (marks_in w (slot_of n i)).forward) (sym e)))))
        | inr nB ↦ ap (λ (p : PlaceMarks). option_at v p.forward) (others k nA nB) ∙ ap (option_at v) (h.forward (slot_of n k))
      ];
      emptied = ap (λ i. arcs_at v (marks_in z i).added) sJ ∙ ap (λ (p : PlaceMarks). arcs_at v p.added) m.here;
      added =
          ap (λ i. arcs_at v (marks_in z i).added) sK ∙ (ap (λ (p : PlaceMarks). arcs_at v p.added) m.there ∙ (arcs_append v (marks_in t J).added (marks_in t K).added
          ∙ (ap (λ es. es ++ arcs_at v (marks_in t K).added) (ap (λ i. arcs_at v (marks_in t i).added) (sym sJ) ∙ h.others A ne)
          ∙ ap (λ es. added_of v w A ++ es) (ap (λ i. arcs_at v (marks_in t i).added) (sym sK) ∙ h.added))));
      others = λ k nA nB. ap (λ (p : PlaceMarks). arcs_at v p.added) (others k nA nB) ∙ h.others k nB;
      arcs = omega (arith, h.arcs);
      held = record {
        room = omega (arith, h.held.room, places);
        forwards = merged_all (λ (j : ℕ) (p : PlaceMarks). OptionIsHeld v p.forward) f z J K (target.Place to) m hB (h.held.forwards K) h.held.forwards;
        added = merged_all (λ (j : ℕ) (p : PlaceMarks). LinksHeld v p.added) f z J K (target.Place to) m tt (links_append_held v (marks_in t J).added (marks_in t K).added (h.held.added J) (h.held.added K)) h.held.added;
      };
      pairs_held = g.held;
    })

-- pushing pairs leaves the room for places
pub pushed_room : (v : Shown) (t u : Contents) (p : Place) (number : ℕ) → IsShown v → AreHeld v t → IsHeld v p.block p.offset → number ≡ number_of v p.block p.offset → u ≡ record t { pairs = u.pairs } → HasPlace u p.side number
pushed_room v t u p number s a h e g = subst (λ (q : Contents). HasPlace q p.side number) (sym g) (place_room v t s a p number h e)

-- and so does moving arcs
pub moved_room : (u x : Contents) (s d : Side) (m n : ℕ) → HasPlace u s m → x ≡ with_moved u s m d n → HasPlace x s m
moved_room u x s d m n h e =
    let mB : PlaceMarks = record (marks u d n) { added = (marks u s m).added ++ (marks u d n).added } in
    let one = set u.places (slot d n) mB in
    let mA : PlaceMarks = record (get_or one (slot s m) unmarked) { added = [] } in
    let same : length x.places ≡ length u.places = ap (λ (q : Contents). length q.places) e ∙ (length-set one (slot s m) (record (marks u s m) { added = [] }) ∙ length-set u.places (slot d n) mB) in
    omega (arith, h, same)

-- where no cell is left, all pairs are pushed
pub pushed_all : (v : Shown) (w t : Contents) (p : Place) (number B : ℕ) (next : Option ℕ) → IsShown v → IsHeld v p.block p.offset → number ≡ number_of v p.block p.offset → t ≡ record w { pairs = t.pairs }
    → pairs_at v t.pairs ++ matches (arcs_at v (after (marks w p.side number).added next)) (both v w B) ≡ pairs_at v w.pairs ++ matches (arcs_at v (marks w p.side number).added) (both v w B)
    → PairsHeld v t.pairs → ((cell : ℕ) → next ≡ Some cell → ⊥) → IsPushed v w t (matches (added_of v w (key v p)) (both v w B))
pushed_all v w t p number B (Some cell) s h e rest pairs held none = absurd (none cell refl)
pushed_all v w t p number B None s h e rest pairs held none = record {
  rest = rest;
  pairs = sym (append-nil (pairs_at v t.pairs)) ∙ (pairs ∙ ap (λ (m : PlaceMarks). pairs_at v w.pairs ++ matches (arcs_at v m.added) (both v w B)) (key_marks v w s p number h e));
  held = held;
}
