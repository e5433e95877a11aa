-- Marks of the present generation.
use Rattle.std.proofs.Common.{◌≡◌, ◌≢◌, ℕ, zero, suc, ◌+◌, ◌-◌, ◌^◌, ◌<◌, ◌≤◌, Option, Some, None, cond, List, [], ◌∷◌, ◌++◌, length, length-append, take, set, get_or, replicate, refl, sym, ap, ◌∙◌, arith, ne_eqb, eq-eqb}
use Rattle.std.specs.List.{All}
use Rattle.std.specs.Option.{SomeIff, unwrap_or}
use Rattle.patr_scratch.specs.declared.table.Cell.{Cell}
use Rattle.patr_scratch.specs.declared.packed.PackedMark.{PackedMark}
use Rattle.patr_scratch.specs.Marks.{Mark, blank, mark_at, no_marks, unpacked}
use Rattle.std.proofs.lemmas.List.{map-append, take_all, map-set, length-replicate}
use Rattle.patr_scratch.specs.Stamps.{mark_of, marks_of}
use Rattle.std.proofs.lemmas.List.Elements.{All-head, All-tail, All-weaker}

-- where every stamp is of an earlier generation, no mark is left
pub later_none : (stamp : ℕ) (cells : List Cell) → All (λ c. c.stamp < stamp) cells → marks_of stamp cells ≡ no_marks (length cells)
later_none stamp [] h = refl
later_none stamp (c ∷ cs) h =
    let head : c.stamp < stamp = All-head (λ c. c.stamp < stamp) c cs h in
    let n : c.stamp ≢ stamp = omega arith in
    ap (λ b. cond b (unpacked c.mark) blank ∷ marks_of stamp cs) (ne_eqb c.stamp stamp n)
    ∙ ap (λ ms. blank ∷ ms) (later_none stamp cs (All-tail (λ c. c.stamp < stamp) c cs h))

mark_read : (stamp : ℕ) (cells : List Cell) (k : ℕ) (c : Cell) → k < length cells → c ≡ get_or cells k c → mark_of stamp c ≡ mark_at (marks_of stamp cells) k
mark_read stamp [] k c l e = absurd (omega (arith, l))
mark_read stamp (d ∷ cs) zero c l e = ap (mark_of stamp) e
mark_read stamp (d ∷ cs) (suc k) c l e = mark_read stamp cs k c (omega (arith, l)) e

length_marks : (stamp : ℕ) (cells : List Cell) → length (marks_of stamp cells) ≡ length cells
length_marks stamp [] = refl
length_marks stamp (c ∷ cs) = ap suc (length_marks stamp cs)

pub marks_length : (stamp : ℕ) (cells : List Cell) (ms : List Mark) → marks_of stamp cells ≡ ms → length cells ≡ length ms
marks_length stamp cells ms e = sym (length_marks stamp cells) ∙ ap length e

-- a cell becomes one of the present generation, and its mark is changed
pub marks_changed : (stamp : ℕ) (cells : List Cell) (ms : List Mark) (k : ℕ) (old renewed : Cell) (new : PackedMark) (f : Mark → Mark) → marks_of stamp cells ≡ ms → k < length ms → old ≡ get_or cells k old
    → renewed.stamp ≡ stamp → unpacked renewed.mark ≡ mark_of stamp old → unpacked new ≡ f (unpacked renewed.mark)
    → marks_of stamp (set cells k (record { stamp = renewed.stamp; mark = new })) ≡ set ms k (f (mark_at ms k))
marks_changed stamp cells ms k old renewed new f e l q s r w =
    let read = mark_read stamp cells k old (omega (arith, l, marks_length stamp cells ms e)) q in
    map-set (mark_of stamp) cells k (record { stamp = renewed.stamp; mark = new })
    ∙ (ap (set (marks_of stamp cells) k) (ap (λ b. cond b (unpacked new) blank) (eq-eqb renewed.stamp stamp s) ∙ w ∙ ap f (r ∙ read))
    ∙ ap (λ us. set us k (f (mark_at us k))) e)

-- a later generation
pub marks_later : (stamp new : ℕ) (cells : List Cell) (ms : List Mark) (cells' : List Cell) → marks_of stamp cells ≡ ms → length cells' ≡ length cells → All (λ c. c.stamp < new) cells' → marks_of new cells' ≡ no_marks (length ms)
marks_later stamp new cells ms cells' e l h = later_none new cells' h ∙ ap no_marks (l ∙ marks_length stamp cells ms e)

pub all_later : (cells : List Cell) (m n : ℕ) → All (λ c. c.stamp ≤ m) cells → m < n → All (λ c. c.stamp < n) cells
all_later cells m n h l = All-weaker (λ c. c.stamp ≤ m) (λ c. c.stamp < n) (λ c q. omega (arith, q, l)) cells h

-- cells of another generation have no marks
marks_replicate : (stamp n : ℕ) (c : Cell) → c.stamp ≢ stamp → marks_of stamp (replicate n c) ≡ no_marks n
marks_replicate stamp zero c h = refl
marks_replicate stamp (suc n) c h =
    ap (λ b. cond b (unpacked c.mark) blank ∷ marks_of stamp (replicate n c)) (ne_eqb c.stamp stamp h)
    ∙ ap (λ ms. blank ∷ ms) (marks_replicate stamp n c h)

-- every cell is cleared
pub marks_cleared : (stamp new n : ℕ) (cells : List Cell) (ms : List Mark) (cells' : List Cell) (c : Cell) → marks_of stamp cells ≡ ms → n ≡ length cells → cells' ≡ replicate n c → c.stamp ≢ new
    → marks_of new cells' ≡ no_marks (length ms)
marks_cleared stamp new n cells ms cells' c e l q h =
    ap (marks_of new) q ∙ (marks_replicate new n c h ∙ ap no_marks (l ∙ marks_length stamp cells ms e))

-- more cells of another generation
pub marks_grown : (stamp room n : ℕ) (cells cells' : List Cell) (ms : List Mark) (c : Cell) → marks_of stamp cells ≡ ms → length cells ≤ room → cells' ≡ take room cells ++ replicate n c
    → c.stamp ≢ stamp → marks_of stamp cells' ≡ ms ++ no_marks (length (marks_of stamp cells') - length ms)
marks_grown stamp room n cells cells' ms c e l q h =
    let whole : cells' ≡ cells ++ replicate n c = q ∙ ap (λ us. us ++ replicate n c) (take_all room cells l) in
    let grown : marks_of stamp cells' ≡ ms ++ no_marks n =
    ap (marks_of stamp) whole
    ∙ (map-append (mark_of stamp) cells (replicate n c) ∙ (ap (λ us. us ++ marks_of stamp (replicate n c)) e ∙ ap (λ us. ms ++ us) (marks_replicate stamp n c h))) in
    let more : length (marks_of stamp cells') - length ms ≡ n = omega (arith, ap length grown, length-append ms (no_marks n), length-replicate n blank) in
    grown ∙ ap (λ k. ms ++ no_marks k) (sym more)

-- a generation that is not the first one comes after the one before
pub next_is_later : (next : Option ℕ) (stamp new : ℕ) → SomeIff next (stamp + 1 < 2 ^ 32) (stamp + 1) → new ≡ unwrap_or next 1 → new ≢ 1 → stamp < new
next_is_later None stamp new h e n = absurd (n e)
next_is_later (Some k) stamp new h e n = omega (arith, h, e)
