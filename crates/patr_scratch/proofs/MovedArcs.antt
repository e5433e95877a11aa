-- The list of one place before that of another.
use Rattle.std.proofs.Common.{◌≡◌, ◌≢◌, ℕ, ◌<◌, ◌⊎◌, inl, inr, cond, nat_eq, Option, Some, None, List, [], ◌++◌, length, length-set, map, set, get_or, get_or-set_other, get_or-set_same, refl, sym, ap, ◌∙◌, subst, arith, eq-eqb, ne_eqb, append-nil}
use Rattle.std.proofs.lemmas.Bool.{cases_eq}
use Rattle.std.proofs.lemmas.List.{ext_get_or, set-get_or, length-map}
use Rattle.patr_lists.proofs.Members.{once_append, in_cases}
use Rattle.patr_lists.specs.Members.{IsIn, NoRepeats}
use Rattle.patr_scratch.specs.declared.arc.ArcCell.{ArcCell}
use Rattle.patr_scratch.specs.declared.Place.{Place}
use Rattle.patr_scratch.specs.declared.Side.{Side}
use Rattle.patr_scratch.specs.declared.Target.{Target}
use Rattle.patr_scratch.specs.declared.packed.Ends.{Ends}
use Rattle.patr_scratch.specs.Marks.{Mark}
use Rattle.patr_scratch.specs.Cells.{no_cell, cell_at, relink, read}
use Rattle.patr_scratch.specs.WithRoom.{WithRoom}
use Rattle.patr_scratch.specs.Marks.{mark_at, blank}
use Rattle.patr_scratch.specs.Contents.{PlaceMarks, Contents, unmarked, slot, HasPlace, marks, put, with_moved}
use Rattle.patr_scratch.specs.Linked.{first_of, last_or, IsList, LastIs, IsLastOf, IsLinked, place_of, contents_of}
use Rattle.patr_scratch.proofs.Linking.{links, list_below, list_none, list_apart, list_joined, links_append, links_relinked, last_in, last_append}
use Rattle.patr_scratch.proofs.Views.{read_none, place_at, linked_read, place_is, get_or_any, place_by, with_list}

-- the list of one place goes before that of another
pub moved_lists : (ℕ → List ℕ) → ℕ → ℕ → ℕ → List ℕ
moved_lists lists A B j = cond (nat_eq j A) [] (cond (nat_eq j B) (lists A ++ lists B) (lists j))

moved_owner : (ℕ → ℕ) → ℕ → ℕ → ℕ → ℕ
moved_owner owner A B c = cond (nat_eq (owner c) A) B (owner c)

abbrev pub moved_marks : List Mark → ℕ → ℕ → Ends → List Mark
moved_marks ms A B a = set (set ms B (record (mark_at ms B) { added = Some (record { first = a.first; last = last_or (mark_at ms B).added a.last }) })) A (record (mark_at ms A) { added = None })

abbrev pub target_mark : List Mark → ℕ → Ends → Mark
target_mark ms B a = record (mark_at ms B) { added = Some (record { first = a.first; last = last_or (mark_at ms B).added a.last }) }

abbrev pub source_mark : List Mark → ℕ → Mark
source_mark ms A = record (mark_at ms A) { added = None }

-- a place is the emptied one, the one that gets the list, or another
abbrev pub Moved : List Mark → (ℕ → List ℕ) → ℕ → ℕ → Ends → ℕ → Type 0
Moved ms lists A B a j =
    ((j ≡ A) × (moved_lists lists A B j ≡ []) × (mark_at (moved_marks ms A B a) j ≡ source_mark ms A))
    ⊎ (((j ≡ B) × (moved_lists lists A B j ≡ lists A ++ lists B) × (mark_at (moved_marks ms A B a) j ≡ target_mark ms B a))
    ⊎ ((j ≢ A) × (j ≢ B) × (moved_lists lists A B j ≡ lists j) × (mark_at (moved_marks ms A B a) j ≡ mark_at ms j)))

moved_cases : (ms : List Mark) (lists : ℕ → List ℕ) (A B : ℕ) (a : Ends) (j : ℕ) → A ≢ B → A < length ms → B < length ms → Moved ms lists A B a j
unfolding moved_lists
moved_cases ms lists A B a j n lA lB =
    let one = set ms B (target_mark ms B a) in
    let lA' : A < length one = omega (arith, lA, length-set ms B (target_mark ms B a)) in
    elim (cases_eq j A) [
      | inl e ↦ inl (e, ap (λ b. cond b [] (cond (nat_eq j B) (lists A ++ lists B) (lists j))) (eq-eqb j A e), ap (mark_at (moved_marks ms A B a)) e ∙ get_or-set_same one A (source_mark ms A) blank lA')
      | inr nA ↦
          let step : moved_lists lists A B j ≡ cond (nat_eq j B) (lists A ++ lists B) (lists j) = ap (λ b. cond b [] (cond (nat_eq j B) (lists A ++ lists B) (lists j))) (ne_eqb j A nA) in
          let mark : mark_at (moved_marks ms A B a) j ≡ mark_at one j = get_or-set_other one A j (source_mark ms A) blank nA in
          elim (cases_eq j B) [
            | inl e ↦ inr (inl (e, step ∙ ap (λ b. cond b (lists A ++ lists B) (lists j)) (eq-eqb j B e), mark ∙ (ap (mark_at one) e ∙ get_or-set_same ms B (target_mark ms B a) blank lB)))
            | inr nB ↦ inr (inr (nA, nB, step ∙ ap (λ b. cond b (lists A ++ lists B) (lists j)) (ne_eqb j B nB), mark ∙ get_or-set_other ms B j (target_mark ms B a) blank nB))
          ]
    ]

last_joined : (cells : List ArcCell) (b : Option Ends) (cs ds : List ℕ) (z : ℕ) → LastIs cs z → IsList cells (first_of b) ds → IsLastOf b ds → ((c : ℕ) → IsIn cs c → IsIn ds c → ⊥) → LastIs (cs ++ ds) (last_or b z)
last_joined cells None cs ds z l h k n = subst (λ us. LastIs (cs ++ us) z) (sym (list_none cells None ds h refl)) (subst (λ us. LastIs us z) (sym (append-nil cs)) l)
last_joined cells (Some e) cs ds z l h k n = last_append cs ds e.last k (λ i. n e.last i (last_in ds e.last k))

moved_from : (owner : ℕ → ℕ) (A B c : ℕ) → owner c ≡ A → moved_owner owner A B c ≡ B
unfolding moved_owner
moved_from owner A B c e = ap (λ b. cond b B (owner c)) (eq-eqb (owner c) A e)

moved_other : (owner : ℕ → ℕ) (A B c : ℕ) → owner c ≢ A → moved_owner owner A B c ≡ owner c
unfolding moved_owner
moved_other owner A B c n = ap (λ b. cond b B (owner c)) (ne_eqb (owner c) A n)

pub linked_moved : (ms : List Mark) (cells : List ArcCell) (A B : ℕ) (a : Ends) → IsLinked ms cells → A ≢ B → A < length ms → B < length ms → (mark_at ms A).added ≡ Some a
    → IsLinked (moved_marks ms A B a) (relink cells a.last (first_of (mark_at ms B).added))
linked_moved ms cells A B a i n lA lB e =
    let next = first_of (mark_at ms B).added in
    let ms' = moved_marks ms A B a in
    let cells' = relink cells a.last next in
    let lastA : LastIs (i.lists A) a.last = subst (λ o. IsLastOf o (i.lists A)) e (i.last A) in
    let inA : IsIn (i.lists A) a.last = last_in (i.lists A) a.last lastA in
    let listA : IsList cells (Some a.first) (i.lists A) = subst (λ o. IsList cells (first_of o) (i.lists A)) e (i.each A) in
    let notIn : (j : ℕ) → j ≢ A → IsIn (i.lists j) a.last → ⊥ = λ j nj q. nj (sym (i.owned j a.last q) ∙ i.owned A a.last inA) in
    let disjoint : (c : ℕ) → IsIn (i.lists A) c → IsIn (i.lists B) c → ⊥ = λ c p q. n (sym (i.owned A c p) ∙ i.owned B c q) in
    record {
      lists = moved_lists i.lists A B;
      owner = moved_owner i.owner A B;
      each = λ j. elim (moved_cases ms i.lists A B a j n lA lB) [
        | inl h ↦ subst (λ us. IsList cells' (first_of (mark_at ms' j).added) us) (sym h.1) (subst (λ (u : Mark). IsList cells' (first_of u.added) []) (sym h.2) refl)
        | inr g ↦ elim g [
          | inl h ↦
              subst (λ us. IsList cells' (first_of (mark_at ms' j).added) us) (sym h.1) (subst (λ (u : Mark). IsList cells' (first_of u.added) (i.lists A ++ i.lists B)) (sym h.2)
              (list_joined cells a.last next (Some a.first) (i.lists A) (i.lists B) lastA (notIn B (λ q. n (sym q))) listA (i.each B)))
          | inr h ↦
              subst (λ us. IsList cells' (first_of (mark_at ms' j).added) us) (sym h.2) (subst (λ (u : Mark). IsList cells' (first_of u.added) (i.lists j)) (sym h.3)
              (list_apart cells a.last next (first_of (mark_at ms j).added) (i.lists j) (notIn j h.0) (i.each j)))
        ]
      ];
      last = λ j. elim (moved_cases ms i.lists A B a j n lA lB) [
        | inl h ↦ subst (λ us. IsLastOf (mark_at ms' j).added us) (sym h.1) (subst (λ (u : Mark). IsLastOf u.added []) (sym h.2) tt)
        | inr g ↦ elim g [
          | inl h ↦
              subst (λ us. IsLastOf (mark_at ms' j).added us) (sym h.1) (subst (λ (u : Mark). IsLastOf u.added (i.lists A ++ i.lists B)) (sym h.2)
              (last_joined cells (mark_at ms B).added (i.lists A) (i.lists B) a.last lastA (i.each B) (i.last B) disjoint))
          | inr h ↦ subst (λ us. IsLastOf (mark_at ms' j).added us) (sym h.2) (subst (λ (u : Mark). IsLastOf u.added (i.lists j)) (sym h.3) (i.last j))
        ]
      ];
      once = λ j. elim (moved_cases ms i.lists A B a j n lA lB) [
        | inl h ↦ subst NoRepeats (sym h.1) tt
        | inr g ↦ elim g [
          | inl h ↦ subst NoRepeats (sym h.1) (once_append (i.lists A) (i.lists B) (i.once A) (i.once B) disjoint)
          | inr h ↦ subst NoRepeats (sym h.2) (i.once j)
        ]
      ];
      owned = λ j c q. elim (moved_cases ms i.lists A B a j n lA lB) [
        | inl h ↦ absurd (subst (λ us. IsIn us c) h.1 q)
        | inr g ↦ elim g [
          | inl h ↦ elim (in_cases (i.lists A) (i.lists B) c (subst (λ us. IsIn us c) h.1 q)) [
            | inl r ↦ moved_from i.owner A B c (i.owned A c r) ∙ sym h.0
            | inr r ↦ moved_other i.owner A B c (λ w. n (sym w ∙ i.owned B c r)) ∙ (i.owned B c r ∙ sym h.0)
          ]
          | inr h ↦ let r : IsIn (i.lists j) c = subst (λ us. IsIn us c) h.2 q in moved_other i.owner A B c (λ w. h.0 (sym (i.owned j c r) ∙ w)) ∙ i.owned j c r
        ]
      ];
    }

pub moved_places : (ms : List Mark) (cells : List ArcCell) (A B : ℕ) (a : Ends) → IsLinked ms cells → A ≢ B → A < length ms → B < length ms → (mark_at ms A).added ≡ Some a
    → map (place_of (relink cells a.last (first_of (mark_at ms B).added))) (moved_marks ms A B a)
    ≡ set (set (map (place_of cells) ms) B (record (place_of cells (mark_at ms B)) { added = (place_of cells (mark_at ms A)).added ++ (place_of cells (mark_at ms B)).added })) A (record (place_of cells (mark_at ms A)) { added = [] })
unfolding linked_moved
moved_places ms cells A B a i n lA lB e =
    let next = first_of (mark_at ms B).added in
    let ms' = moved_marks ms A B a in
    let cells' = relink cells a.last next in
    let i' = linked_moved ms cells A B a i n lA lB e in
    let lastA : LastIs (i.lists A) a.last = subst (λ o. IsLastOf o (i.lists A)) e (i.last A) in
    let below : a.last < length cells = list_below cells (first_of (mark_at ms A).added) (i.lists A) a.last (i.each A) (last_in (i.lists A) a.last lastA) in
    let pB : PlaceMarks = record (place_of cells (mark_at ms B)) { added = (place_of cells (mark_at ms A)).added ++ (place_of cells (mark_at ms B)).added } in
    let pA : PlaceMarks = record (place_of cells (mark_at ms A)) { added = [] } in
    let ps = map (place_of cells) ms in
    let lm : length ps ≡ length ms = length-map ms (place_of cells) in
    let l1 : length (set ps B pB) ≡ length ms = length-set ps B pB ∙ lm in
    let l2 : length (set (set ps B pB) A pA) ≡ length ms = length-set (set ps B pB) A pA ∙ l1 in
    let l3 : length ms' ≡ length ms = length-set (set ms B (target_mark ms B a)) A (source_mark ms A) ∙ length-set ms B (target_mark ms B a) in
    ext_get_or unmarked (map (place_of cells') ms') (set (set ps B pB) A pA) (length-map ms' (place_of cells') ∙ (l3 ∙ sym l2))
    (λ j h.
    place_at cells' ms' j ∙ (place_by ms' cells' i' j ∙
    elim (moved_cases ms i.lists A B a j n lA lB) [
      | inl g ↦
          ap (with_list (mark_at ms' j)) (ap (links cells') g.1)
          ∙ (ap (λ (u : Mark). with_list u []) g.2
          ∙ (sym (get_or-set_same (set ps B pB) A pA unmarked (omega (arith, lA, l1))) ∙ ap (λ q. get_or (set (set ps B pB) A pA) q unmarked) (sym g.0)))
      | inr f ↦ elim f [
        | inl g ↦
            let nBA : B ≢ A = λ q. n (sym q) in
            ap (with_list (mark_at ms' j)) (ap (links cells') g.1 ∙ (links_relinked cells a.last next (i.lists A ++ i.lists B) below ∙ (links_append cells (i.lists A) (i.lists B)
            ∙ (ap (λ us. us ++ links cells (i.lists B)) (sym (linked_read ms cells i A)) ∙ ap (λ us. read (length cells) cells (first_of (mark_at ms A).added) ++ us) (sym (linked_read ms cells i B))))))
            ∙ (ap (λ (u : Mark). with_list u (read (length cells) cells (first_of (mark_at ms A).added) ++ read (length cells) cells next)) g.2
            ∙ (sym (get_or-set_same ps B pB unmarked (omega (arith, lB, lm))) ∙ (sym (get_or-set_other (set ps B pB) A B pA unmarked nBA) ∙ ap (λ q. get_or (set (set ps B pB) A pA) q unmarked) (sym g.0))))
        | inr g ↦
            ap (with_list (mark_at ms' j)) (ap (links cells') g.2 ∙ links_relinked cells a.last next (i.lists j) below)
            ∙ (ap (λ (u : Mark). with_list u (links cells (i.lists j))) g.3
            ∙ (sym (place_by ms cells i j) ∙ (sym (place_at cells ms j) ∙ (sym (get_or-set_other ps B j pB unmarked g.1) ∙ sym (get_or-set_other (set ps B pB) A j pA unmarked g.0)))))
      ]
    ]))

pub moved_view : (ms : List Mark) (arcs : WithRoom ArcCell) (pairs : WithRoom (Target × Target)) (visits order : WithRoom Place) (now : Contents) (s t : Side) (m n : ℕ) (a : Ends) → IsLinked ms arcs.list
    → contents_of ms arcs pairs visits order ≡ now → HasPlace now s m → HasPlace now t n → slot s m ≢ slot t n → (mark_at ms (slot s m)).added ≡ Some a
    → contents_of (moved_marks ms (slot s m) (slot t n) a) (record { list = relink arcs.list a.last (first_of (mark_at ms (slot t n)).added); room = arcs.room }) pairs visits order ≡ with_moved now s m t n
moved_view ms arcs pairs visits order now s t m n a i e hA hB ne f =
    let A = slot s m in
    let B = slot t n in
    let cells = arcs.list in
    let lA : A < length ms = omega (arith, hA, ap (λ (v : Contents). length v.places) e, length-map ms (place_of cells)) in
    let lB : B < length ms = omega (arith, hB, ap (λ (v : Contents). length v.places) e, length-map ms (place_of cells)) in
    let arcs' : WithRoom ArcCell = record { list = relink cells a.last (first_of (mark_at ms B).added); room = arcs.room } in
    ap (λ ps. record (contents_of ms arcs' pairs visits order) { places = ps })
    (moved_places ms cells A B a i ne lA lB f
    ∙ (ap (λ (p : PlaceMarks). set (set (map (place_of cells) ms) B (record (place_of cells (mark_at ms B)) { added = p.added ++ (place_of cells (mark_at ms B)).added })) A (record p { added = [] })) (sym (place_at cells ms A))
    ∙ ap (λ (p : PlaceMarks). set (set (map (place_of cells) ms) B (record p { added = (get_or (map (place_of cells) ms) A unmarked).added ++ p.added })) A (record (get_or (map (place_of cells) ms) A unmarked) { added = [] })) (sym (place_at cells ms B))))
    ∙ (ap (λ k. record (contents_of ms arcs pairs visits order) {
      places = set (set (map (place_of cells) ms) B (record (marks (contents_of ms arcs pairs visits order) t n) { added = (marks (contents_of ms arcs pairs visits order) s m).added ++ (marks (contents_of ms arcs pairs visits order) t n).added })) A (record (marks (contents_of ms arcs pairs visits order) s m) { added = [] });
      arcs = k;
    }) (length-set cells a.last (record (cell_at cells a.last) { next = first_of (mark_at ms B).added }))
    ∙ ap (λ v. with_moved v s m t n) e)

-- where the first place has no list, nothing changes
pub nothing_moved : (v : Contents) (s t : Side) (m n : ℕ) → (marks v s m).added ≡ [] → v ≡ with_moved v s m t n
nothing_moved v s t m n e =
    let one : put v t n (record (marks v t n) { added = (marks v s m).added ++ (marks v t n).added }) ≡ v =
    ap (λ us. put v t n (record (marks v t n) { added = us ++ (marks v t n).added })) e ∙ ap (λ ps. record v { places = ps }) (set-get_or v.places (slot t n) unmarked) in
    let two : put v s m (record (marks v s m) { added = [] }) ≡ v =
    ap (λ us. put v s m (record (marks v s m) { added = us })) (sym e) ∙ ap (λ ps. record v { places = ps }) (set-get_or v.places (slot s m) unmarked) in
    sym (ap (λ u. put u s m (record (marks v s m) { added = [] })) one ∙ two)

pub list_empty : (ms : List Mark) (arcs : WithRoom ArcCell) (pairs : WithRoom (Target × Target)) (visits order : WithRoom Place) (now : Contents) (s : Side) (n k : ℕ) (m : Mark)
    → contents_of ms arcs pairs visits order ≡ now → k ≡ slot s n → m ≡ mark_at ms k → m.added ≡ None → (marks now s n).added ≡ []
list_empty ms arcs pairs visits order now s n k m e q h z =
    ap (λ (p : PlaceMarks). p.added) (sym (place_is ms arcs pairs visits order now s n k m e q h)) ∙ (ap (λ o. read (length arcs.list) arcs.list (first_of o)) z ∙ read_none (length arcs.list) arcs.list)

-- the last cell of a list is one of the cells
pub last_below : (ms : List Mark) (cells : List ArcCell) (k : ℕ) (m : Mark) (a : Ends) → IsLinked ms cells → m ≡ mark_at ms k → m.added ≡ Some a → a.last < length cells
last_below ms cells k m a i h e =
    let z : (mark_at ms k).added ≡ Some a = ap (λ (u : Mark). u.added) (sym h) ∙ e in
    let l : LastIs (i.lists k) a.last = subst (λ o. IsLastOf o (i.lists k)) z (i.last k) in
    list_below cells (first_of (mark_at ms k).added) (i.lists k) a.last (i.each k) (last_in (i.lists k) a.last l)

-- what the code of `move_arcs` comes to
pub arcs_moved : (ms : List Mark) (arcs : WithRoom ArcCell) (A B : ℕ) (a : Ends) (mB : Mark) (next : Option ℕ) (last : ℕ) (joint : ArcCell) (arcs' : WithRoom ArcCell) (one two : List Mark) (s t : Side) (m n : ℕ)
    → A ≡ slot s m → B ≡ slot t n → mB ≡ mark_at ms B → next ≡ first_of mB.added → last ≡ last_or mB.added a.last → a.last < length arcs.list → joint ≡ get_or arcs.list a.last joint
    → arcs' ≡ record { list = set arcs.list a.last (record joint { next = next }); room = arcs.room }
    → slot s m ≢ slot t n → one ≡ set ms B (record (mark_at ms B) { added = Some (record { first = a.first; last = last }) }) → two ≡ set one A (record (mark_at one A) { added = None })
    → (two ≡ moved_marks ms (slot s m) (slot t n) a) × (arcs' ≡ record { list = relink arcs.list a.last (first_of (mark_at ms (slot t n)).added); room = arcs.room })
arcs_moved ms arcs A B a mB next last joint arcs' one two s t m n qA qB hB f l b g w ne x y =
    let hB' : mB ≡ mark_at ms (slot t n) = hB ∙ ap (mark_at ms) qB in
    let f' : next ≡ first_of (mark_at ms (slot t n)).added = f ∙ ap (λ (u : Mark). first_of u.added) hB' in
    let l' : last ≡ last_or (mark_at ms (slot t n)).added a.last = l ∙ ap (λ (u : Mark). last_or u.added a.last) hB' in
    let hA' : mark_at one (slot s m) ≡ mark_at ms (slot s m) = ap (λ us. mark_at us (slot s m)) x ∙ get_or-set_other ms B (slot s m) (record (mark_at ms B) { added = Some (record { first = a.first; last = last }) }) blank (λ e. ne (e ∙ qB)) in
    let j' : joint ≡ cell_at arcs.list a.last = g ∙ get_or_any arcs.list a.last joint no_cell b in
    (cc, cc)
