-- The lists by place.
use Rattle.std.proofs.Common.{◌≡◌, ℕ, zero, suc, ◌+◌, ◌<◌, ◌≤◌, Bool, true, false, cond, nat_eq, List, [], ◌∷◌, ◌++◌, length, take, drop, get_or, set, refl, sym, ap, ◌∙◌, arith, eq-eqb, eqb-true, zero-add, append-nil, Vec, Global}
use Rattle.std.proofs.lemmas.List.{take-append-drop, get_or-set_same, get_or-set_other, get_or-map, map-set}
use Rattle.std.proofs.Math.Seq.{take-append_seam, map-set_same}
use Rattle.patr_lists.specs.Numbers.{places}
use Rattle.patr_lists.specs.Tables.{Table, numbers, with_number}

-- one more empty list
pub grown : (lists : List (Vec ℕ Global)) (v : Vec ℕ Global) (k : ℕ) → v.items ≡ [] → get_or (numbers (lists ++ v ∷ [])) k [] ≡ get_or (numbers lists) k []
grown [] v zero e = e
grown [] v (suc k) e = refl
grown (x ∷ lists) v zero e = refl
grown (x ∷ lists) v (suc k) e = grown lists v k e

-- a list with one more number
pub put_numbers : (lists : List (Vec ℕ Global)) (at : ℕ) (v w : Vec ℕ Global) (n : ℕ) → at < length lists → v ≡ get_or lists at v → w.items ≡ v.items ++ n ∷ [] → numbers (set lists at w) ≡ with_number (numbers lists) at n
put_numbers lists at v w n h is more =
    map-set (λ v. v.items) lists at w
    ∙ ap (λ l. set (numbers lists) at l) (more ∙ ap (λ l. l ++ n ∷ []) (ap (λ x. x.items) is ∙ sym (get_or-map (λ v. v.items) lists at v [] h)))

-- a list as it was
pub keep_numbers : (lists : List (Vec ℕ Global)) (at : ℕ) (v w : Vec ℕ Global) → v ≡ get_or lists at v → w.items ≡ v.items → numbers (set lists at w) ≡ numbers lists
keep_numbers lists at v w is same = map-set_same (λ v. v.items) lists at w v (same ∙ ap (λ x. x.items) is)

-- ---- the numbers of members that pass a test

-- those of two lists, one behind another
pub places_append : {X : Type 0} (test : X → Bool) (i : ℕ) (xs ys : List X) → places test i (xs ++ ys) ≡ places test i xs ++ places test (i + length xs) ys
places_append test i [] ys = ap (λ n. places test n ys) (omega arith)
places_append test i (x ∷ xs) ys = go (test x) (places_append test (suc i) xs ys ∙ ap (λ n. places test (suc i) xs ++ places test n ys) (omega arith))
  where
    go : (b : Bool) → places test (suc i) (xs ++ ys) ≡ places test (suc i) xs ++ places test (i + length (x ∷ xs)) ys
        → cond b (i ∷ places test (suc i) (xs ++ ys)) (places test (suc i) (xs ++ ys)) ≡ cond b (i ∷ places test (suc i) xs) (places test (suc i) xs) ++ places test (i + length (x ∷ xs)) ys
    go true e = ap (λ l. i ∷ l) e
    go false e = e

pub places_length : {X : Type 0} (test : X → Bool) (i : ℕ) (es : List X) → length (places test i es) ≤ length es
places_length test i [] = omega arith
places_length test i (e ∷ es) = go (test e) (places_length test (suc i) es)
  where
    go : (b : Bool) → length (places test (suc i) es) ≤ length es → length (cond b (i ∷ places test (suc i) es) (places test (suc i) es)) ≤ length (e ∷ es)
    go true h = omega (arith, h)
    go false h = omega (arith, h)

-- as many of the first as were found below k are those found below k
pub front : {X : Type 0} (test : X → Bool) (k : ℕ) (es : List X) → take (length (places test 0 (take k es))) (places test 0 es) ≡ places test 0 (take k es)
front test k es =
    let split = places_append test 0 (take k es) (drop k es) in
    let whole : places test 0 es ≡ places test 0 (take k es) ++ places test (0 + length (take k es)) (drop k es) = ap (λ l. places test 0 l) (sym (take-append-drop k es)) ∙ split in
    ap (λ l. take (length (places test 0 (take k es))) l) whole ∙ take-append_seam (places test 0 (take k es)) (places test (0 + length (take k es)) (drop k es))

-- the list at a place, with one more member entered
pub index_added : {X : Type 0} (T : X → Bool) (es : List X) (e : X) (L : Table) (at s : ℕ) → at < length L → T e ≡ nat_eq at s → get_or L s [] ≡ places T 0 es
    → get_or (with_number L at (length es)) s [] ≡ places T 0 (es ++ e ∷ [])
index_added T es e L at s h t is =
    go (nat_eq at s) refl ∙ sym (places_append T 0 es (e ∷ []) ∙ ap (λ b. places T 0 es ++ cond b ((0 + length es) ∷ []) []) t)
  where
    go : (b : Bool) → nat_eq at s ≡ b → get_or (with_number L at (length es)) s [] ≡ places T 0 es ++ cond (nat_eq at s) ((0 + length es) ∷ []) []
    go true q = let same : at ≡ s = eqb-true at s q in
        ap (λ n. get_or (with_number L at (length es)) n []) (sym same)
        ∙ (get_or-set_same L at (get_or L at [] ++ length es ∷ []) [] h
        ∙ (ap (λ n. get_or L n [] ++ length es ∷ []) same ∙ (ap (λ l. l ++ length es ∷ []) is ∙ (ap (λ n. places T 0 es ++ n ∷ []) (sym (zero-add (length es))) ∙ ap (λ b. places T 0 es ++ cond b ((0 + length es) ∷ []) []) (sym q)))))
    go false q = let other : s ≡ at → ⊥ = λ w. let bad : nat_eq at s ≡ true = eq-eqb at s (sym w) in cc in
        get_or-set_other L at s (get_or L at [] ++ length es ∷ []) [] other
        ∙ (is ∙ (sym (append-nil (places T 0 es)) ∙ ap (λ b. places T 0 es ++ cond b ((0 + length es) ∷ []) []) (sym q)))

-- and with one that is not entered
pub index_kept : {X : Type 0} (T : X → Bool) (es : List X) (e : X) (l : List ℕ) → T e ≡ false → l ≡ places T 0 es → l ≡ places T 0 (es ++ e ∷ [])
index_kept T es e l t is = is ∙ (sym (append-nil (places T 0 es)) ∙ sym (places_append T 0 es (e ∷ []) ∙ ap (λ b. places T 0 es ++ cond b ((0 + length es) ∷ []) []) t))
