-- Lists of linked cells.
use Rattle.std.proofs.Common.{◌≡◌, ◌≢◌, ℕ, zero, suc, ◌<◌, ◌≤◌, inl, inr, cond, Option, Some, None, List, [], ◌∷◌, ◌++◌, length, length-append, length-set, get_or-set_other, get_or-set_same, refl, sym, ap, ◌∙◌, subst, arith, eq-eqb, ne_eqb}
use Rattle.std.proofs.lemmas.Bool.{cases_eq}
use Rattle.std.proofs.lemmas.List.{get_or_append_left}
use Rattle.std.proofs.Math.Seq.{get_or-append_seam}
use Rattle.patr_lists.specs.Members.{IsIn, NoRepeats}
use Rattle.patr_scratch.specs.declared.arc.ArcCell.{ArcCell}
use Rattle.patr_scratch.specs.Cells.{no_cell, cell_at, relink, link_at, read}
use Rattle.patr_scratch.specs.Contents.{Link, first_cell, from_cell, after, HasCell, EndsOrHas}
use Rattle.patr_scratch.specs.Linked.{IsList, LastIs}

-- a new cell leaves the lists that were there
pub list_kept : (cells : List ArcCell) (new : ArcCell) (first : Option ℕ) (cs : List ℕ) → IsList cells first cs → IsList (cells ++ new ∷ []) first cs
list_kept cells new first [] h = h
list_kept cells new first (c ∷ cs) h =
    let e : cell_at (cells ++ new ∷ []) c ≡ cell_at cells c = get_or_append_left cells (new ∷ []) no_cell c h.1 in
    (h.0, omega (arith, h.1, length-append cells (new ∷ [])), list_kept cells new (cell_at (cells ++ new ∷ []) c).next cs (subst (λ (d : ArcCell). IsList cells d.next cs) (sym e) h.2))

-- and stands in front of the one that it goes on with
pub list_front : (cells : List ArcCell) (new : ArcCell) (cs : List ℕ) → IsList cells new.next cs → IsList (cells ++ new ∷ []) (Some (length cells)) (length cells ∷ cs)
list_front cells new cs h =
    let e : cell_at (cells ++ new ∷ []) (length cells) ≡ new = get_or-append_seam cells new [] no_cell in
    (refl, omega (arith, length-append cells (new ∷ [])), subst (λ (d : ArcCell). IsList (cells ++ new ∷ []) d.next cs) (sym e) (list_kept cells new new.next cs h))

-- a list without the cell that is relinked stays
pub list_apart : (cells : List ArcCell) (last : ℕ) (next : Option ℕ) (first : Option ℕ) (cs : List ℕ) → (IsIn cs last → ⊥) → IsList cells first cs → IsList (relink cells last next) first cs
list_apart cells last next first [] n h = h
list_apart cells last next first (c ∷ cs) n h =
    let ne : c ≢ last = λ q. n (inl q) in
    let e : cell_at (relink cells last next) c ≡ cell_at cells c = get_or-set_other cells last c (record (cell_at cells last) { next = next }) no_cell ne in (
      h.0,
      omega (arith, h.1, length-set cells last (record (cell_at cells last) { next = next })),
      list_apart cells last next (cell_at (relink cells last next) c).next cs (λ q. n (inr q)) (subst (λ (d : ArcCell). IsList cells d.next cs) (sym e) h.2),
    )

-- the list that ends with the relinked cell goes on with the other
pub list_joined : (cells : List ArcCell) (last : ℕ) (next : Option ℕ) (first : Option ℕ) (cs ds : List ℕ) → LastIs cs last → (IsIn ds last → ⊥) → IsList cells first cs → IsList cells next ds
    → IsList (relink cells last next) first (cs ++ ds)
list_joined cells last next first [] ds z n h k = absurd z
list_joined cells last next first (c ∷ []) ds z n h k =
    let s : last < length cells = subst (λ q. q < length cells) z h.1 in
    let e : cell_at (relink cells last next) c ≡ record (cell_at cells last) { next = next } = ap (cell_at (relink cells last next)) z ∙ get_or-set_same cells last (record (cell_at cells last) { next = next }) no_cell s in (
      h.0,
      omega (arith, h.1, length-set cells last (record (cell_at cells last) { next = next })),
      subst (λ (d : ArcCell). IsList (relink cells last next) d.next ds) (sym e) (list_apart cells last next next ds n k),
    )
list_joined cells last next first (c ∷ d ∷ cs) ds z n h k =
    let e : cell_at (relink cells last next) c ≡ cell_at cells c = get_or-set_other cells last c (record (cell_at cells last) { next = next }) no_cell z.0 in (
      h.0,
      omega (arith, h.1, length-set cells last (record (cell_at cells last) { next = next })),
      list_joined cells last next (cell_at (relink cells last next) c).next (d ∷ cs) ds z.1 n (subst (λ (q : ArcCell). IsList cells q.next (d ∷ cs)) (sym e) h.2) k,
    )

pub list_below : (cells : List ArcCell) (first : Option ℕ) (cs : List ℕ) (c : ℕ) → IsList cells first cs → IsIn cs c → c < length cells
list_below cells first [] c h i = absurd i
list_below cells first (d ∷ cs) c h (inl e) = subst (λ q. q < length cells) e h.1
list_below cells first (d ∷ cs) c h (inr i) = list_below cells (cell_at cells d).next cs c h.2 i

-- a list that begins nowhere is empty
pub list_none : (cells : List ArcCell) (first : Option ℕ) (cs : List ℕ) → IsList cells first cs → first ≡ None → cs ≡ []
list_none cells first [] h e = refl
list_none cells first (c ∷ cs) h e = let bad : Some c ≡ None = sym h.0 ∙ e in cc

pub last_in : (cs : List ℕ) (z : ℕ) → LastIs cs z → IsIn cs z
last_in [] z h = absurd h
last_in (c ∷ []) z h = inl h
last_in (c ∷ d ∷ cs) z h = inr (last_in (d ∷ cs) z h.1)

pub last_append : (cs ds : List ℕ) (z : ℕ) → LastIs ds z → (IsIn cs z → ⊥) → LastIs (cs ++ ds) z
last_append [] ds z h n = h
last_append (c ∷ []) [] z h n = absurd h
last_append (c ∷ []) (d ∷ ds) z h n = (λ e. n (inl e), h)
last_append (c ∷ e ∷ cs) ds z h n = (λ q. n (inl q), last_append (e ∷ cs) ds z h (λ i. n (inr i)))

-- the arcs of these cells
abbrev pub links : List ArcCell → List ℕ → List Link
links cells [] = []
links cells (c ∷ cs) = link_at cells c ∷ links cells cs

pub read_links : (n : ℕ) (cells : List ArcCell) (first : Option ℕ) (cs : List ℕ) → IsList cells first cs → length cs ≤ n → read n cells first ≡ links cells cs
read_links zero cells first [] h l = refl
read_links zero cells first (c ∷ cs) h l = absurd (omega (arith, l))
read_links (suc n) cells first [] h l = ap (read (suc n) cells) h
read_links (suc n) cells first (c ∷ cs) h l =
    ap (read (suc n) cells) h.0 ∙ ap (λ ls. link_at cells c ∷ ls) (read_links n cells (cell_at cells c).next cs h.2 (omega (arith, l)))

pub links_append : (cells : List ArcCell) (cs ds : List ℕ) → links cells (cs ++ ds) ≡ links cells cs ++ links cells ds
links_append cells [] ds = refl
links_append cells (c ∷ cs) ds = ap (λ ls. link_at cells c ∷ ls) (links_append cells cs ds)

-- a new cell leaves the arcs of others
pub links_kept : (cells : List ArcCell) (new : ArcCell) (cs : List ℕ) → ((c : ℕ) → IsIn cs c → c < length cells) → links (cells ++ new ∷ []) cs ≡ links cells cs
links_kept cells new [] h = refl
links_kept cells new (c ∷ cs) h =
    let e : cell_at (cells ++ new ∷ []) c ≡ cell_at cells c = get_or_append_left cells (new ∷ []) no_cell c (h c (inl refl)) in
    ap (λ (d : ArcCell). (let l : Link = record { cell = c; attribute = d.attribute; to = d.to } in l) ∷ links (cells ++ new ∷ []) cs) e ∙ ap (λ ls. link_at cells c ∷ ls) (links_kept cells new cs (λ d i. h d (inr i)))

-- a relinked cell has its arc still
link_relinked : (cells : List ArcCell) (last : ℕ) (next : Option ℕ) (c : ℕ) → last < length cells → link_at (relink cells last next) c ≡ link_at cells c
link_relinked cells last next c l = elim (cases_eq c last) [
  | inl e ↦
      ap (λ (d : ArcCell). (let l : Link = record { cell = c; attribute = d.attribute; to = d.to } in l)) (ap (cell_at (relink cells last next)) e ∙ get_or-set_same cells last (record (cell_at cells last) { next = next }) no_cell l)
      ∙ ap (λ (d : ArcCell). (let l : Link = record { cell = c; attribute = d.attribute; to = d.to } in l)) (ap (cell_at cells) (sym e))
  | inr n ↦ ap (λ (d : ArcCell). (let l : Link = record { cell = c; attribute = d.attribute; to = d.to } in l)) (get_or-set_other cells last c (record (cell_at cells last) { next = next }) no_cell n)
]

pub links_relinked : (cells : List ArcCell) (last : ℕ) (next : Option ℕ) (cs : List ℕ) → last < length cells → links (relink cells last next) cs ≡ links cells cs
links_relinked cells last next [] l = refl
links_relinked cells last next (c ∷ cs) l =
    ap (λ u. u ∷ links (relink cells last next) cs) (link_relinked cells last next c l) ∙ ap (λ ls. link_at cells c ∷ ls) (links_relinked cells last next cs l)

-- the cells of the arcs
pub has_cell_in : (cells : List ArcCell) (cs : List ℕ) (c : ℕ) → HasCell (links cells cs) c → IsIn cs c
has_cell_in cells [] c h = h
has_cell_in cells (d ∷ cs) c (inl e) = inl e
has_cell_in cells (d ∷ cs) c (inr h) = inr (has_cell_in cells cs c h)

pub in_has_cell : (cells : List ArcCell) (cs : List ℕ) (c : ℕ) → IsIn cs c → HasCell (links cells cs) c
in_has_cell cells [] c i = absurd i
in_has_cell cells (d ∷ cs) c (inl e) = inl e
in_has_cell cells (d ∷ cs) c (inr h) = inr (in_has_cell cells cs c h)

pub links_first : (cells : List ArcCell) (first : Option ℕ) (cs : List ℕ) → IsList cells first cs → first_cell (links cells cs) ≡ first
links_first cells first [] h = sym h
links_first cells first (c ∷ cs) h = sym h.0

-- where the first arc's cell is another, the list from a cell on is that of its rest
after_other : (l : Link) (ls : List Link) (first : Option ℕ) → EndsOrHas ls first → (HasCell ls l.cell → ⊥) → after (l ∷ ls) first ≡ after ls first
after_other l ls None h n = refl
after_other l ls (Some c) h n = ap (λ b. cond b (l ∷ ls) (from_cell ls c)) (ne_eqb l.cell c (λ e. n (subst (HasCell ls) (sym e) h)))

pub after_first : (ls : List Link) → after ls (first_cell ls) ≡ ls
after_first [] = refl
after_first (l ∷ ls) = ap (λ b. cond b (l ∷ ls) (from_cell ls l.cell)) (eq-eqb l.cell l.cell refl)

first_has : (ls : List Link) → EndsOrHas ls (first_cell ls)
first_has [] = tt
first_has (l ∷ ls) = inl refl

wider_has : (l : Link) (ls : List Link) (first : Option ℕ) → EndsOrHas ls first → EndsOrHas (l ∷ ls) first
wider_has l ls None h = tt
wider_has l ls (Some c) h = inr h

-- from a cell on, the list is its arc, and then the list from the next cell on
pub after_cell : (cells : List ArcCell) (first : Option ℕ) (cs : List ℕ) (c : ℕ) → IsList cells first cs → NoRepeats cs → IsIn cs c
    → (after (links cells cs) (Some c) ≡ link_at cells c ∷ after (links cells cs) (cell_at cells c).next) × EndsOrHas (links cells cs) (cell_at cells c).next
after_cell cells first [] c h o i = absurd i
after_cell cells first (d ∷ cs) c h o (inl e) = subst (λ k. (after (links cells (d ∷ cs)) (Some k) ≡ link_at cells k ∷ after (links cells (d ∷ cs)) (cell_at cells k).next) × EndsOrHas (links cells (d ∷ cs)) (cell_at cells k).next) e (
    let ls = links cells cs in
    let f : first_cell ls ≡ (cell_at cells d).next = links_first cells (cell_at cells d).next cs h.2 in
    let has : EndsOrHas ls (cell_at cells d).next = subst (EndsOrHas ls) f (first_has ls) in
    let rest : after (link_at cells d ∷ ls) (cell_at cells d).next ≡ ls =
    after_other (link_at cells d) ls (cell_at cells d).next has (λ i. o.0 (has_cell_in cells cs d i)) ∙ (ap (after ls) (sym f) ∙ after_first ls) in
    let this : after (link_at cells d ∷ ls) (Some d) ≡ link_at cells d ∷ ls = ap (λ b. cond b (link_at cells d ∷ ls) (from_cell ls d)) (eq-eqb d d refl) in
    (this ∙ ap (λ us. link_at cells d ∷ us) (sym rest), wider_has (link_at cells d) ls (cell_at cells d).next has))
after_cell cells first (d ∷ cs) c h o (inr i) =
    let ls = links cells cs in
    let r = after_cell cells (cell_at cells d).next cs c h.2 o.1 i in
    let n : HasCell ls d → ⊥ = λ j. o.0 (has_cell_in cells cs d j) in (
      after_other (link_at cells d) ls (Some c) (in_has_cell cells cs c i) n ∙ (r.0 ∙ ap (λ us. link_at cells c ∷ us) (sym (after_other (link_at cells d) ls (cell_at cells c).next r.1 n))),
      wider_has (link_at cells d) ls (cell_at cells c).next r.1,
    )
