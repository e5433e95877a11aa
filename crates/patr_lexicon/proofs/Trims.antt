-- A text without spaces, tabs and CRs at its ends.
use Rattle.std.proofs.Common.{◌≡◌, ℕ, suc, ◌+◌, ◌-◌, ◌<◌, ◌≤◌, List, [], ◌∷◌, ◌++◌, length, get_or, take, drop, reverse, Bool, true, false, cond, not, ◌||◌, nat_eq, refl, sym, ap, ◌∙◌, subst, arith, length-drop}
use Rattle.patr_lexicon.proofs.Names.{prefix_len, suffix_len, IsUtf8, IsCharBoundary, drop-append_seam, take-append-drop, reverse-append, reverse-reverse, length-reverse, get_or-reverse, IsCharBoundary-after_ascii, is_blank, is_edge, begins_with, trimmed, trimmed_front}
use Rattle.std.proofs.lemmas.List.Sums.{prefix_len-le-length, prefix_len_passes, prefix_len_stops}
use Rattle.patr_lexicon.proofs.Lines.{edge_is_ascii, edge_is_boundary}

-- what stands behind the edges at the front begins where a character does
pub front_is_boundary : (bs : List ℕ) → IsUtf8 bs → 0 < prefix_len is_edge bs → IsCharBoundary bs (prefix_len is_edge bs)
front_is_boundary bs utf8 some =
    let n = prefix_len is_edge bs in
    let within = prefix_len-le-length is_edge bs in
    let edge : is_edge (get_or bs (n - 1) 0) ≡ true = prefix_len_passes is_edge bs (n - 1) 0 (omega arith) in
    subst (IsCharBoundary bs) (omega arith) (IsCharBoundary-after_ascii bs (n - 1) utf8 (omega arith) (edge_is_ascii (get_or bs (n - 1) 0) edge))

-- and the edges at the end
edge_at_end : (bs : List ℕ) (n : ℕ) → n + suffix_len is_edge bs ≡ length bs → n < length bs → is_edge (get_or bs n 0) ≡ true
edge_at_end bs n is lt =
    let k = length bs - 1 - n in
    let same : get_or (reverse bs) k 0 ≡ get_or bs n 0 = get_or-reverse bs k 0 (omega arith) ∙ ap (λ i. get_or bs i 0) (omega arith) in
    subst (λ b. is_edge b ≡ true) same (prefix_len_passes is_edge (reverse bs) k 0 (omega arith))

pub end_is_boundary : (bs : List ℕ) (n : ℕ) → n + suffix_len is_edge bs ≡ length bs → IsCharBoundary bs n
end_is_boundary bs n is = edge_is_boundary bs n (omega arith) (edge_at_end bs n is)

front_by : (t : Bool) (b : ℕ) (bs : List ℕ) → trimmed_front bs ≡ drop (prefix_len is_edge bs) bs → cond t (trimmed_front bs) (b ∷ bs) ≡ drop (cond t (1 + prefix_len is_edge bs) 0) (b ∷ bs)
front_by true b bs e =
    let n = prefix_len is_edge bs in
    let more : suc n ≡ 1 + n = omega arith in
    e ∙ ap (λ k. drop k (b ∷ bs)) more
front_by false b bs e = refl

front_is : (bs : List ℕ) → trimmed_front bs ≡ drop (prefix_len is_edge bs) bs
front_is [] = refl
front_is (b ∷ bs) = front_by (is_edge b) b bs (front_is bs)

-- a list from its end on
drop_reversed : {X : Type 0} (xs : List X) (n k : ℕ) → n + k ≡ length xs → reverse (drop k (reverse xs)) ≡ take n xs
drop_reversed xs n k is =
    let cut : reverse xs ≡ reverse (drop n xs) ++ reverse (take n xs) = ap reverse (sym (take-append-drop n xs)) ∙ reverse-append (take n xs) (drop n xs) in
    let len : k ≡ length (reverse (drop n xs)) = omega (arith, length-reverse (drop n xs), length-drop n xs) in
    ap (λ l. reverse (drop k l)) cut
    ∙ ap (λ j. reverse (drop j (reverse (drop n xs) ++ reverse (take n xs)))) len
    ∙ ap reverse (drop-append_seam (reverse (drop n xs)) (reverse (take n xs)))
    ∙ reverse-reverse (take n xs)

pub trimmed_is : (bs rest : List ℕ) (n : ℕ) → rest ≡ drop (prefix_len is_edge bs) bs → n + suffix_len is_edge rest ≡ length rest → take n rest ≡ trimmed bs
trimmed_is bs rest n front end =
    let same : rest ≡ trimmed_front bs = front ∙ sym (front_is bs) in
    sym (ap reverse (front_is (reverse (trimmed_front bs))) ∙ ap (λ l. reverse (drop (suffix_len is_edge l) (reverse l))) (sym same) ∙ drop_reversed rest n (suffix_len is_edge rest) end)

pub not_not : (t : Bool) → not t ≡ false → t ≡ true
not_not true h = refl
not_not false h = absurd cc

-- what stands behind a marker begins where a character does
pub marker_is_boundary : (text : List ℕ) (n : ℕ) → n ≡ prefix_len (λ b. not (is_edge b)) (drop 1 text) → 0 < length text → IsCharBoundary text (1 + n)
marker_is_boundary [] n is some = absurd (omega arith)
marker_is_boundary (b ∷ bs) n is some =
    let within : n ≤ length bs = rw is (prefix_len-le-length (λ b. not (is_edge b)) bs) in
    let more : suc n ≡ 1 + n = omega arith in
    let edge : n < length bs → is_edge (get_or bs n 0) ≡ true = λ lt. not_not (is_edge (get_or bs n 0)) (subst (λ k. not (is_edge (get_or bs k 0)) ≡ false) (sym is) (prefix_len_stops (λ b. not (is_edge b)) bs 0 (subst (λ k. k < length bs) is lt))) in
    edge_is_boundary (b ∷ bs) (1 + n) (omega arith) (λ lt. subst (λ k. is_edge (get_or (b ∷ bs) k 0) ≡ true) more (edge (omega arith)))

pub begins_some : (m : ℕ) (text : List ℕ) → begins_with m text ≡ true → 0 < length text
begins_some m [] h = absurd cc
begins_some m (b ∷ bs) h = omega arith

-- a space or a tab ends the first word of a text: there a character begins, and behind it
pub word_is_boundary : (text : List ℕ) (n : ℕ) → IsUtf8 text → n ≡ prefix_len (λ b. not (is_blank b)) text → (n ≡ length text → ⊥) → IsCharBoundary text n × IsCharBoundary text (n + 1)
word_is_boundary text n utf8 is short =
    let le : n ≤ length text = rw is (prefix_len-le-length (λ b. not (is_blank b)) text) in
    let lt : n < length text = omega (arith, short, le) in
    let blank : is_blank (get_or text n 0) ≡ true = not_not (is_blank (get_or text n 0)) (subst (λ k. not (is_blank (get_or text k 0)) ≡ false) (sym is) (prefix_len_stops (λ b. not (is_blank b)) text 0 (subst (λ k. k < length text) is lt))) in
    let edge : is_edge (get_or text n 0) ≡ true = ap (λ t. t || nat_eq (get_or text n 0) 13) blank in
    (edge_is_boundary text n (omega (arith, lt)) (λ _. edge), IsCharBoundary-after_ascii text n utf8 lt (edge_is_ascii (get_or text n 0) edge))
