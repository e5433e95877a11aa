-- One more arc in front of the list of a place.
use Rattle.std.proofs.Common.{◌≡◌, ◌≢◌, ℕ, ◌<◌, ◌⊎◌, inl, inr, cond, nat_eq, Option, Some, None, List, [], ◌∷◌, ◌++◌, length, length-append, length-set, map, set, get_or, get_or-set_other, get_or-set_same, refl, sym, ap, ◌∙◌, subst, arith, eq-eqb, ne_eqb}
use Rattle.std.proofs.lemmas.Bool.{cases_eq}
use Rattle.std.proofs.Math.Seq.{get_or-append_seam}
use Rattle.std.proofs.lemmas.List.{ext_get_or, length-map}
use Rattle.patr_lists.specs.Members.{IsIn, NoRepeats}
use Rattle.patr_scratch.specs.declared.arc.ArcCell.{ArcCell}
use Rattle.patr_scratch.specs.declared.Place.{Place}
use Rattle.patr_scratch.specs.declared.Side.{Side}
use Rattle.patr_scratch.specs.declared.Target.{Target}
use Rattle.patr_scratch.specs.declared.packed.Ends.{Ends}
use Rattle.patr_scratch.specs.Marks.{Mark}
use Rattle.patr_scratch.specs.Cells.{no_cell, read}
use Rattle.patr_scratch.specs.WithRoom.{WithRoom}
use Rattle.patr_scratch.specs.Marks.{mark_at, blank}
use Rattle.patr_scratch.specs.Contents.{Link, PlaceMarks, Contents, unmarked, slot, HasPlace, marks, put, with_arc}
use Rattle.patr_scratch.specs.Linked.{first_of, last_or, IsList, LastIs, IsLastOf, IsLinked, place_of, contents_of}
use Rattle.patr_scratch.proofs.Linking.{links, list_below, list_none, list_front, list_kept, links_kept, last_in, last_append}
use Rattle.patr_scratch.proofs.Views.{place_at, linked_read, place_by, with_list}

-- a new cell stands in front of the place's list
abbrev pub front_mark : List Mark → ℕ → ℕ → Mark
front_mark ms k n = record (mark_at ms k) { added = Some (record { first = n; last = last_or (mark_at ms k).added n }) }

pub front_lists : (ℕ → List ℕ) → ℕ → ℕ → ℕ → List ℕ
front_lists lists k n j = cond (nat_eq j k) (n ∷ lists j) (lists j)

front_owner : (ℕ → ℕ) → ℕ → ℕ → ℕ → ℕ
front_owner owner k n c = cond (nat_eq c n) k (owner c)

-- what the place has, and the others
front_cases : (ms : List Mark) (lists : ℕ → List ℕ) (k n j : ℕ) (m : Mark) → k < length ms
    → ((j ≡ k) × (front_lists lists k n j ≡ n ∷ lists k) × (mark_at (set ms k m) j ≡ m)) ⊎ ((j ≢ k) × (front_lists lists k n j ≡ lists j) × (mark_at (set ms k m) j ≡ mark_at ms j))
unfolding front_lists
front_cases ms lists k n j m l = elim (cases_eq j k) [
  | inl e ↦ inl (e, ap (λ b. cond b (n ∷ lists j) (lists j)) (eq-eqb j k e) ∙ ap (λ i. n ∷ lists i) e, ap (mark_at (set ms k m)) e ∙ get_or-set_same ms k m blank l)
  | inr ne ↦ inr (ne, ap (λ b. cond b (n ∷ lists j) (lists j)) (ne_eqb j k ne), get_or-set_other ms k j m blank ne)
]

last_front : (cells : List ArcCell) (a : Option Ends) (cs : List ℕ) (n : ℕ) → IsList cells (first_of a) cs → IsLastOf a cs → ((c : ℕ) → IsIn cs c → c < n) → LastIs (n ∷ cs) (last_or a n)
last_front cells None cs n h l b = subst (λ us. LastIs (n ∷ us) n) (sym (list_none cells None cs h refl)) refl
last_front cells (Some e) cs n h l b = last_append (n ∷ []) cs e.last l (λ i. elim i [ inl q ↦ let under = b e.last (last_in cs e.last l) in absurd (omega (arith, under, q)) | inr q ↦ q ])

owner_old : (owner : ℕ → ℕ) (k n c : ℕ) → c < n → front_owner owner k n c ≡ owner c
unfolding front_owner
owner_old owner k n c l = let ne : c ≢ n = omega arith in ap (λ b. cond b k (owner c)) (ne_eqb c n ne)

owner_new : (owner : ℕ → ℕ) (k n c : ℕ) → n ≡ c → front_owner owner k n c ≡ k
unfolding front_owner
owner_new owner k n c e = ap (λ b. cond b k (owner c)) (eq-eqb c n (sym e))

pub linked_front : (ms : List Mark) (cells : List ArcCell) (k : ℕ) (new : ArcCell) → IsLinked ms cells → k < length ms → new.next ≡ first_of (mark_at ms k).added
    → IsLinked (set ms k (front_mark ms k (length cells))) (cells ++ new ∷ [])
linked_front ms cells k new i l e =
    let n = length cells in
    let m = front_mark ms k n in
    let cells' = cells ++ new ∷ [] in
    let below : (j c : ℕ) → IsIn (i.lists j) c → c < n = λ j c. list_below cells (first_of (mark_at ms j).added) (i.lists j) c (i.each j) in
    record {
      lists = front_lists i.lists k n;
      owner = front_owner i.owner k n;
      each = λ j. elim (front_cases ms i.lists k n j m l) [
        | inl h ↦
            subst (λ us. IsList cells' (first_of (mark_at (set ms k m) j).added) us) (sym h.1) (subst (λ (u : Mark). IsList cells' (first_of u.added) (n ∷ i.lists k)) (sym h.2)
            (list_front cells new (i.lists k) (subst (λ o. IsList cells o (i.lists k)) (sym e) (i.each k))))
        | inr h ↦
            subst (λ us. IsList cells' (first_of (mark_at (set ms k m) j).added) us) (sym h.1) (subst (λ (u : Mark). IsList cells' (first_of u.added) (i.lists j)) (sym h.2)
            (list_kept cells new (first_of (mark_at ms j).added) (i.lists j) (i.each j)))
      ];
      last = λ j. elim (front_cases ms i.lists k n j m l) [
        | inl h ↦
            subst (λ us. IsLastOf (mark_at (set ms k m) j).added us) (sym h.1) (subst (λ (u : Mark). IsLastOf u.added (n ∷ i.lists k)) (sym h.2)
            (last_front cells (mark_at ms k).added (i.lists k) n (i.each k) (i.last k) (below k)))
        | inr h ↦ subst (λ us. IsLastOf (mark_at (set ms k m) j).added us) (sym h.1) (subst (λ (u : Mark). IsLastOf u.added (i.lists j)) (sym h.2) (i.last j))
      ];
      once = λ j. elim (front_cases ms i.lists k n j m l) [
        | inl h ↦ subst NoRepeats (sym h.1) ((λ q. let under = below k n q in absurd (omega (arith, under))), i.once k)
        | inr h ↦ subst NoRepeats (sym h.1) (i.once j)
      ];
      owned = λ j c q. elim (front_cases ms i.lists k n j m l) [
        | inl h ↦ elim (first_or_rest n (i.lists k) c (subst (λ us. IsIn us c) h.1 q)) [
          | inl r ↦ owner_new i.owner k n c r ∙ sym h.0
          | inr r ↦ owner_old i.owner k n c (below k c r) ∙ (i.owned k c r ∙ sym h.0)
        ]
        | inr h ↦ let r : IsIn (i.lists j) c = subst (λ us. IsIn us c) h.1 q in owner_old i.owner k n c (below j c r) ∙ i.owned j c r
      ];
    }
  where
    first_or_rest : (n : ℕ) (cs : List ℕ) (c : ℕ) → IsIn (n ∷ cs) c → (n ≡ c) ⊎ IsIn cs c
    first_or_rest n cs c h = h

front_same : (cells : List ArcCell) (new : ArcCell) (cs : List ℕ) → ((c : ℕ) → IsIn cs c → c < length cells) → links (cells ++ new ∷ []) (length cells ∷ cs) ≡ record { cell = length cells; attribute = new.attribute; to = new.to } ∷ links cells cs
front_same cells new cs b =
    ap (λ (d : ArcCell). (let l : Link = record { cell = length cells; attribute = d.attribute; to = d.to } in l) ∷ links (cells ++ new ∷ []) cs) (get_or-append_seam cells new [] no_cell)
    ∙ ap (λ ls. (let l : Link = record { cell = length cells; attribute = new.attribute; to = new.to } in l) ∷ ls) (links_kept cells new cs b)

pub front_places : (ms : List Mark) (cells : List ArcCell) (k : ℕ) (new : ArcCell) → IsLinked ms cells → k < length ms → new.next ≡ first_of (mark_at ms k).added
    → map (place_of (cells ++ new ∷ [])) (set ms k (front_mark ms k (length cells)))
    ≡ set (map (place_of cells) ms) k (record (place_of cells (mark_at ms k)) { added = record { cell = length cells; attribute = new.attribute; to = new.to } ∷ (place_of cells (mark_at ms k)).added })
unfolding linked_front
front_places ms cells k new i l e =
    let n = length cells in
    let m = front_mark ms k n in
    let cells' = cells ++ new ∷ [] in
    let ms' = set ms k m in
    let link : Link = record { cell = n; attribute = new.attribute; to = new.to } in
    let p : PlaceMarks = record (place_of cells (mark_at ms k)) { added = link ∷ (place_of cells (mark_at ms k)).added } in
    let i' = linked_front ms cells k new i l e in
    let below : (j c : ℕ) → IsIn (i.lists j) c → c < n = λ j c. list_below cells (first_of (mark_at ms j).added) (i.lists j) c (i.each j) in
    let lm : length (map (place_of cells) ms) ≡ length ms = length-map ms (place_of cells) in
    let ls : length ms' ≡ length ms = length-set ms k m in
    ext_get_or unmarked (map (place_of cells') ms') (set (map (place_of cells) ms) k p) (length-map ms' (place_of cells') ∙ (ls ∙ (sym lm ∙ sym (length-set (map (place_of cells) ms) k p))))
    (λ j h.
    place_at cells' ms' j ∙ (place_by ms' cells' i' j ∙
    elim (front_cases ms i.lists k n j m l) [
      | inl g ↦
          ap (with_list (mark_at ms' j)) (ap (links cells') g.1 ∙ (front_same cells new (i.lists k) (below k) ∙ ap (λ us. link ∷ us) (sym (linked_read ms cells i k))))
          ∙ (ap (λ (u : Mark). with_list u (link ∷ read n cells (first_of (mark_at ms k).added))) g.2
          ∙ (sym (get_or-set_same (map (place_of cells) ms) k p unmarked (omega (arith, l, lm))) ∙ ap (λ q. get_or (set (map (place_of cells) ms) k p) q unmarked) (sym g.0)))
      | inr g ↦
          ap (with_list (mark_at ms' j)) (ap (links cells') g.1 ∙ links_kept cells new (i.lists j) (below j))
          ∙ (ap (λ (u : Mark). with_list u (links cells (i.lists j))) g.2
          ∙ (sym (place_by ms cells i j) ∙ (sym (place_at cells ms j) ∙ sym (get_or-set_other (map (place_of cells) ms) k j p unmarked g.0))))
    ]))

pub with_arc_view : (ms : List Mark) (arcs : WithRoom ArcCell) (pairs : WithRoom (Target × Target)) (visits order : WithRoom Place) (now : Contents) (s : Side) (n : ℕ) (new : ArcCell) → IsLinked ms arcs.list
    → contents_of ms arcs pairs visits order ≡ now → HasPlace now s n → new.next ≡ first_of (mark_at ms (slot s n)).added
    → contents_of (set ms (slot s n) (front_mark ms (slot s n) (length arcs.list))) (record { list = arcs.list ++ new ∷ []; room = arcs.room }) pairs visits order ≡ with_arc now s n new.attribute new.to
with_arc_view ms arcs pairs visits order now s n new i e h f =
    let k = slot s n in
    let was = contents_of ms arcs pairs visits order in
    let l : k < length ms = omega (arith, h, ap (λ (v : Contents). length v.places) e, length-map ms (place_of arcs.list)) in
    let cells' : WithRoom ArcCell = record { list = arcs.list ++ new ∷ []; room = arcs.room } in
    ap (λ ps. record (contents_of ms cells' pairs visits order) { places = ps })
    (front_places ms arcs.list k new i l f
    ∙ ap (λ (p : PlaceMarks). set (map (place_of arcs.list) ms) k (record p { added = record { cell = length arcs.list; attribute = new.attribute; to = new.to } ∷ p.added })) (sym (place_at arcs.list ms k)))
    ∙ (ap (λ m. record (put was s n (record (marks was s n) { added = record { cell = length arcs.list; attribute = new.attribute; to = new.to } ∷ (marks was s n).added })) { arcs = m }) (length-append arcs.list (new ∷ []))
    ∙ ap (λ v. with_arc v s n new.attribute new.to) e)

-- what the code of `add_arc` comes to
pub arc_added : (ms : List Mark) (arcs : WithRoom ArcCell) (k n : ℕ) (m : Mark) (next : Option ℕ) (last cell attribute : ℕ) (to : Target) (ms' : List Mark) (arcs' : WithRoom ArcCell) (s : Side) (number : ℕ)
    → k ≡ slot s number → m ≡ mark_at ms k → cell ≡ length arcs.list → next ≡ first_of m.added → last ≡ last_or m.added cell
    → arcs' ≡ record { list = arcs.list ++ record { attribute = attribute; to = to; next = next } ∷ []; room = arcs.room } → ms' ≡ set ms k (record (mark_at ms k) { added = Some (record { first = cell; last = last }) })
    → (ms' ≡ set ms (slot s number) (front_mark ms (slot s number) (length arcs.list)))
    × (arcs' ≡ record { list = arcs.list ++ record { attribute = attribute; to = to; next = first_of (mark_at ms (slot s number)).added } ∷ []; room = arcs.room })
arc_added ms arcs k n m next last cell attribute to ms' arcs' s number q h c f l a w =
    let hk : m ≡ mark_at ms (slot s number) = h ∙ ap (mark_at ms) q in
    let fk : next ≡ first_of (mark_at ms (slot s number)).added = f ∙ ap (λ (u : Mark). first_of u.added) hk in
    let lk : last ≡ last_or (mark_at ms (slot s number)).added (length arcs.list) = l ∙ (ap (λ (u : Mark). last_or u.added cell) hk ∙ ap (last_or (mark_at ms (slot s number)).added) c) in
    (cc, cc)
