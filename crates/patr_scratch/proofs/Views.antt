-- What a scratch holds, as plain data, by its parts.
use Rattle.std.proofs.Common.{◌≡◌, ◌≢◌, ℕ, zero, suc, ◌+◌, ◌<◌, Option, Some, None, List, [], ◌∷◌, ◌++◌, length, map, set, get_or, replicate, refl, sym, ap, ◌∙◌, subst, arith}
use Rattle.std.proofs.lemmas.List.{map-append, length-replicate, replicate-append-replicate, map-set, length-map}
use Rattle.patr_lists.proofs.Totals.{few_below}
use Rattle.patr_scratch.specs.declared.arc.ArcCell.{ArcCell}
use Rattle.patr_scratch.specs.declared.Place.{Place}
use Rattle.patr_scratch.specs.declared.Side.{Side}
use Rattle.patr_scratch.specs.declared.Side.TheVariants as side
use Rattle.patr_scratch.specs.declared.Target.{Target}
use Rattle.patr_scratch.specs.Marks.{Mark}
use Rattle.patr_scratch.specs.Cells.{no_cell, cell_at, link_at, read}
use Rattle.patr_scratch.specs.WithRoom.{WithRoom}
use Rattle.patr_scratch.specs.Marks.{mark_at, blank, no_marks}
use Rattle.patr_scratch.specs.Contents.{Link, PlaceMarks, Contents, unmarked, slot, HasPlace, marks, put, begun, first_cell, after, HasCell, EndsOrHas, IsCell, IsBlank}
use Rattle.patr_scratch.specs.Linked.{first_of, IsLastOf, IsLinked, place_of, contents_of}
use Rattle.patr_scratch.proofs.Linking.{links, list_below, read_links, links_first, after_cell, has_cell_in}

-- a list that begins nowhere is read as empty
pub read_none : (n : ℕ) (cells : List ArcCell) → read n cells None ≡ []
read_none zero cells = refl
read_none (suc n) cells = refl

pub place_blank : (cells : List ArcCell) → place_of cells blank ≡ unmarked
place_blank cells = ap (λ ls. (let m : PlaceMarks = record { forward = unmarked.forward; copied = unmarked.copied; visit = unmarked.visit; added = ls } in m)) (read_none (length cells) cells)

-- the marks of a place, in range or not
pub place_at : (cells : List ArcCell) (ms : List Mark) (k : ℕ) → get_or (map (place_of cells) ms) k unmarked ≡ place_of cells (mark_at ms k)
place_at cells [] k = sym (place_blank cells)
place_at cells (m ∷ ms) zero = refl
place_at cells (m ∷ ms) (suc k) = place_at cells ms k

-- a list of a place has no more cells than there are
pub linked_read : (ms : List Mark) (cells : List ArcCell) (i : IsLinked ms cells) (k : ℕ) → read (length cells) cells (first_of (mark_at ms k).added) ≡ links cells (i.lists k)
linked_read ms cells i k =
    read_links (length cells) cells (first_of (mark_at ms k).added) (i.lists k) (i.each k) (few_below (length cells) (i.lists k) (i.once k) (λ c. list_below cells (first_of (mark_at ms k).added) (i.lists k) c (i.each k)))

-- a place's index tells its side and number
pub apart_slots : (s t : Side) (m n : ℕ) → (s ≡ t → m ≢ n) → slot s m ≢ slot t n
apart_slots side.Left side.Left m n h e = h refl (omega (arith, e))
apart_slots side.Left side.Right m n h e = omega (arith, e)
apart_slots side.Right side.Left m n h e = omega (arith, e)
apart_slots side.Right side.Right m n h e = h refl (omega (arith, e))

-- nothing is linked where no mark is
pub linked_blank : (n : ℕ) → IsLinked (no_marks n) []
linked_blank n = record {
  lists = λ k. [];
  owner = λ k. 0;
  each = λ k. ap (λ (m : Mark). first_of m.added) (none n k);
  last = λ k. subst (λ (m : Mark). IsLastOf m.added []) (sym (none n k)) tt;
  once = λ k. tt;
  owned = λ k c h. absurd h;
}
  where
    none : (n k : ℕ) → mark_at (no_marks n) k ≡ blank
    none zero k = refl
    none (suc n) zero = refl
    none (suc n) (suc k) = none n k

-- places without a mark
places_blank : (cells : List ArcCell) (n : ℕ) → map (place_of cells) (no_marks n) ≡ replicate n unmarked
places_blank cells zero = refl
places_blank cells (suc n) = ap (λ p. p ∷ map (place_of cells) (no_marks n)) (place_blank cells) ∙ ap (λ ps. unmarked ∷ ps) (places_blank cells n)

-- what the contents have at a place
pub place_is : (ms : List Mark) (arcs : WithRoom ArcCell) (pairs : WithRoom (Target × Target)) (visits order : WithRoom Place) (now : Contents) (s : Side) (n k : ℕ) (m : Mark)
    → contents_of ms arcs pairs visits order ≡ now → k ≡ slot s n → m ≡ mark_at ms k → place_of arcs.list m ≡ marks now s n
place_is ms arcs pairs visits order now s n k m e q h =
    ap (place_of arcs.list) h ∙ (sym (place_at arcs.list ms k) ∙ (ap (get_or_at (map (place_of arcs.list) ms)) q ∙ ap (λ (v : Contents). marks v s n) e))
  where
    get_or_at : List PlaceMarks → ℕ → PlaceMarks
    get_or_at ps j = get_or ps j unmarked

-- a mark is changed
pub mark_changed : (ms : List Mark) (arcs : WithRoom ArcCell) (pairs : WithRoom (Target × Target)) (visits order : WithRoom Place) (now : Contents) (s : Side) (n k : ℕ) (ms' : List Mark) (f : Mark → Mark) (g : PlaceMarks → PlaceMarks)
    → contents_of ms arcs pairs visits order ≡ now → k ≡ slot s n → ms' ≡ set ms k (f (mark_at ms k)) → ((m : Mark) → place_of arcs.list (f m) ≡ g (place_of arcs.list m)) → contents_of ms' arcs pairs visits order ≡ put now s n (g (marks now s n))
mark_changed ms arcs pairs visits order now s n k ms' f g e q w h =
    let p : PlaceMarks = g (marks now s n) in
    let is : place_of arcs.list (f (mark_at ms k)) ≡ p = h (mark_at ms k) ∙ ap g (place_is ms arcs pairs visits order now s n k (mark_at ms k) e q refl) in
    ap (λ us. contents_of us arcs pairs visits order) w
    ∙ (ap (λ ps. record (contents_of ms arcs pairs visits order) { places = ps }) (map-set (place_of arcs.list) ms k (f (mark_at ms k)))
    ∙ (ap (λ u. record (contents_of ms arcs pairs visits order) { places = set (map (place_of arcs.list) ms) k u }) is
    ∙ (ap (λ j. record (contents_of ms arcs pairs visits order) { places = set (map (place_of arcs.list) ms) j p }) q
    ∙ ap (λ (v : Contents). put v s n p) e)))

-- a cell in range is read whatever the default is
pub get_or_any : (xs : List ArcCell) (k : ℕ) (d e : ArcCell) → k < length xs → get_or xs k d ≡ get_or xs k e
get_or_any [] k d e h = absurd (omega (arith, h))
get_or_any (x ∷ xs) zero d e h = refl
get_or_any (x ∷ xs) (suc k) d e h = get_or_any xs k d e (omega (arith, h))

-- the list of a place
pub list_is : (ms : List Mark) (arcs : WithRoom ArcCell) (pairs : WithRoom (Target × Target)) (visits order : WithRoom Place) (now : Contents) (i : IsLinked ms arcs.list) (s : Side) (n : ℕ)
    → contents_of ms arcs pairs visits order ≡ now → (marks now s n).added ≡ links arcs.list (i.lists (slot s n))
list_is ms arcs pairs visits order now i s n e =
    ap (λ (p : PlaceMarks). p.added) (sym (place_is ms arcs pairs visits order now s n (slot s n) (mark_at ms (slot s n)) e refl refl)) ∙ linked_read ms arcs.list i (slot s n)

pub cell_below : (ms : List Mark) (arcs : WithRoom ArcCell) (pairs : WithRoom (Target × Target)) (visits order : WithRoom Place) (now : Contents) (c : ℕ) → IsLinked ms arcs.list
    → contents_of ms arcs pairs visits order ≡ now → IsCell now c → c < length arcs.list
cell_below ms arcs pairs visits order now c i e h =
    let k = slot h.0 h.1 in
    let has : HasCell (links arcs.list (i.lists k)) c = subst (λ ls. HasCell ls c) (list_is ms arcs pairs visits order now i h.0 h.1 e) h.3 in
    list_below arcs.list (first_of (mark_at ms k).added) (i.lists k) c (i.each k) (has_cell_in arcs.list (i.lists k) c has)

pub cell_read : (ms : List Mark) (arcs : WithRoom ArcCell) (pairs : WithRoom (Target × Target)) (visits order : WithRoom Place) (now : Contents) (c : ℕ) (r : ArcCell) (next : Option ℕ) → IsLinked ms arcs.list
    → contents_of ms arcs pairs visits order ≡ now → IsCell now c → r ≡ get_or arcs.list c r → next ≡ r.next → (s : Side) (n : ℕ) → HasPlace now s n → HasCell (marks now s n).added c
    → (after (marks now s n).added (Some c) ≡ record { cell = c; attribute = r.attribute; to = r.to } ∷ after (marks now s n).added next) × EndsOrHas (marks now s n).added next
cell_read ms arcs pairs visits order now c r next i e is g f s n p h =
    let k = slot s n in
    let l = list_is ms arcs pairs visits order now i s n e in
    let ks = links arcs.list (i.lists k) in
    let below : c < length arcs.list = cell_below ms arcs pairs visits order now c i e is in
    let this : cell_at arcs.list c ≡ r = get_or_any arcs.list c no_cell r below ∙ sym g in
    let has : HasCell (links arcs.list (i.lists k)) c = subst (λ ls. HasCell ls c) l h in
    let w = after_cell arcs.list (first_of (mark_at ms k).added) (i.lists k) c (i.each k) (i.once k) (has_cell_in arcs.list (i.lists k) c has) in
    subst (λ (d : ArcCell). (after (marks now s n).added (Some c) ≡ (let x : Link = record { cell = c; attribute = d.attribute; to = d.to } in x) ∷ after (marks now s n).added next) × EndsOrHas (marks now s n).added next) this
    (subst (λ ls. (after ls (Some c) ≡ link_at arcs.list c ∷ after ls next) × EndsOrHas ls next) (sym l)
    (subst (λ o. (after ks (Some c) ≡ link_at arcs.list c ∷ after ks o) × EndsOrHas ks o) (ap (λ (d : ArcCell). d.next) this ∙ sym f) w))

pub first_is : (ms : List Mark) (arcs : WithRoom ArcCell) (pairs : WithRoom (Target × Target)) (visits order : WithRoom Place) (now : Contents) (s : Side) (n k : ℕ) (m : Mark) → IsLinked ms arcs.list
    → contents_of ms arcs pairs visits order ≡ now → k ≡ slot s n → m ≡ mark_at ms k → first_of m.added ≡ first_cell (marks now s n).added
first_is ms arcs pairs visits order now s n k m i e q h =
    let j = slot s n in
    ap (λ (u : Mark). first_of u.added) (h ∙ ap (mark_at ms) q)
    ∙ (sym (links_first arcs.list (first_of (mark_at ms j).added) (i.lists j) (i.each j)) ∙ ap first_cell (sym (list_is ms arcs pairs visits order now i s n e)))

pub begun_view : (ms : List Mark) (arcs : WithRoom ArcCell) (pairs : WithRoom (Target × Target)) (visits order : WithRoom Place) (now : Contents) (ms' : List Mark) (arcs' : WithRoom ArcCell) (pairs' : WithRoom (Target × Target)) (visits' order' : WithRoom Place)
    → contents_of ms arcs pairs visits order ≡ now → ms' ≡ no_marks (length ms) → arcs' ≡ record { list = []; room = arcs.room } → pairs' ≡ record { list = []; room = pairs.room } → visits' ≡ record { list = []; room = visits.room } → order' ≡ record { list = []; room = order.room }
    → contents_of ms' arcs' pairs' visits' order' ≡ begun now
begun_view ms arcs pairs visits order now ms' arcs' pairs' visits' order' e q a p v o =
    let fa : WithRoom ArcCell = record { list = []; room = arcs.room } in
    let fp : WithRoom (Target × Target) = record { list = []; room = pairs.room } in
    let fv : WithRoom Place = record { list = []; room = visits.room } in
    let fo : WithRoom Place = record { list = []; room = order.room } in
    let one : contents_of ms' arcs' pairs' visits' order' ≡ contents_of (no_marks (length ms)) fa fp fv fo = cc in
    one
    ∙ (ap (λ ps. record (contents_of (no_marks (length ms)) fa fp fv fo) { places = ps }) (places_blank [] (length ms) ∙ ap (λ n. replicate n unmarked) (sym (length-map ms (place_of arcs.list))))
    ∙ ap begun e)

-- a scratch that holds nothing holds nothing with more room
pub blank_grown : (ms : List Mark) (arcs : WithRoom ArcCell) (pairs : WithRoom (Target × Target)) (visits order : WithRoom Place) (was : Contents) (n : ℕ) (ms' : List Mark) (arcs' : WithRoom ArcCell) (pairs' : WithRoom (Target × Target)) (visits' order' : WithRoom Place)
    → contents_of ms arcs pairs visits order ≡ begun was → ms' ≡ ms ++ no_marks n → arcs'.list ≡ arcs.list → pairs'.list ≡ pairs.list → visits'.list ≡ visits.list → order'.list ≡ order.list → IsBlank (contents_of ms' arcs' pairs' visits' order')
blank_grown ms arcs pairs visits order was n ms' arcs' pairs' visits' order' e m a p v o =
    let k = length was.places in
    let places : map (place_of arcs'.list) ms' ≡ replicate (k + n) unmarked =
    ap (λ us. map (place_of us) ms') a
    ∙ (ap (λ us. map (place_of arcs.list) us) m
    ∙ (map-append (place_of arcs.list) ms (no_marks n)
    ∙ (ap (λ ps. ps ++ map (place_of arcs.list) (no_marks n)) (ap (λ (w : Contents). w.places) e)
    ∙ (ap (λ ps. replicate k unmarked ++ ps) (places_blank arcs.list n) ∙ replicate-append-replicate k n unmarked)))) in
    let count : length (map (place_of arcs'.list) ms') ≡ k + n = ap length places ∙ length-replicate (k + n) unmarked in
    record {
      places = places ∙ ap (λ j. replicate j unmarked) (sym count);
      arcs = ap length a ∙ ap (λ (w : Contents). w.arcs) e;
      pairs = p ∙ ap (λ (w : Contents). w.pairs) e;
      visits = v ∙ ap (λ (w : Contents). w.visits) e;
      order = o ∙ ap (λ (w : Contents). w.order) e;
    }

-- a place of the contents, by its list of cells
pub place_by : (ms : List Mark) (cells : List ArcCell) (i : IsLinked ms cells) (j : ℕ)
    → place_of cells (mark_at ms j) ≡ record { forward = (mark_at ms j).forward; copied = (mark_at ms j).copied; visit = (mark_at ms j).visit; added = links cells (i.lists j) }
place_by ms cells i j = ap (λ ls. (let p : PlaceMarks = record { forward = (mark_at ms j).forward; copied = (mark_at ms j).copied; visit = (mark_at ms j).visit; added = ls } in p)) (linked_read ms cells i j)

-- a mark without its list
abbrev pub with_list : Mark → List Link → PlaceMarks
with_list m ls = record { forward = m.forward; copied = m.copied; visit = m.visit; added = ls }
