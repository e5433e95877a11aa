-- Sums of sizes, and the places that they give.
use Rattle.std.proofs.Common.{◌≡◌, ℕ, zero, suc, ◌+◌, ◌<◌, List, [], ◌∷◌, ◌++◌, length, take, get_or, refl, ap, ◌∙◌, arith}
use Rattle.std.specs.List.{sum}
use Rattle.std.proofs.lemmas.List.Sums.{sum_by-cons}

sum-cons : (x : ℕ) (xs : List ℕ) → sum (x ∷ xs) ≡ x + sum xs
sum-cons x xs = sum_by-cons (λ y. y) x xs

-- a place in a part is a place in the whole
pub place_below : (sizes : List ℕ) (block offset : ℕ) → offset < get_or sizes block 0 → sum (take block sizes) + offset < sum sizes
place_below [] block offset h = absurd (omega arith)
place_below (n ∷ sizes) zero offset h = let all = sum-cons n sizes in omega (arith, h, all)
place_below (n ∷ sizes) (suc block) offset h =
    let all = sum-cons n sizes in let part = sum-cons n (take block sizes) in let rest = place_below sizes block offset h in omega (arith, all, part, rest)

-- a place in a part is not one in an earlier part
pub place_tells_block : (sizes : List ℕ) (b o c p : ℕ) → o < get_or sizes b 0 → p < get_or sizes c 0 → sum (take b sizes) + o ≡ sum (take c sizes) + p → b ≡ c
place_tells_block [] b o c p h k e = absurd (omega (arith, h))
place_tells_block (n ∷ sizes) zero o zero p h k e = refl
place_tells_block (n ∷ sizes) zero o (suc c) p h k e = let part = sum-cons n (take c sizes) in absurd (omega (arith, h, e, part))
place_tells_block (n ∷ sizes) (suc b) o zero p h k e = let part = sum-cons n (take b sizes) in absurd (omega (arith, k, e, part))
place_tells_block (n ∷ sizes) (suc b) o (suc c) p h k e =
    let one = sum-cons n (take b sizes) in
    let two = sum-cons n (take c sizes) in
    let same : sum (take b sizes) + o ≡ sum (take c sizes) + p = omega (arith, e, one, two) in
    ap suc (place_tells_block sizes b o c p h k same)

-- a place is in a part that is there
pub held_front : (xs : List ℕ) (n o : ℕ) → o < get_or xs n 0 → n < length xs
held_front [] n o h = absurd (omega (arith, h))
held_front (x ∷ xs) zero o h = omega arith
held_front (x ∷ xs) (suc n) o h = let rest = held_front xs n o h in omega (arith, rest)

pub sum_push : (xs : List ℕ) (x : ℕ) → sum (xs ++ x ∷ []) ≡ sum xs + x
sum_push [] x = refl
sum_push (y ∷ xs) x = let one = sum-cons y (xs ++ x ∷ []) in let two = sum-cons y xs in let rest = sum_push xs x in omega (arith, one, two, rest)

-- the places behind a front
pub place_above : (xs ys : List ℕ) (k : ℕ) → sum (take (length xs + k) (xs ++ ys)) ≡ sum xs + sum (take k ys)
place_above [] ys k = ap (λ n. sum (take n ys)) (none k) ∙ none_more (sum (take k ys))
  where
    none : (k : ℕ) → 0 + k ≡ k
    none k = omega arith

    none_more : (n : ℕ) → n ≡ 0 + n
    none_more n = omega arith
place_above (x ∷ xs) ys k =
    let one = ap (λ n. sum (take n (x ∷ xs ++ ys))) (next (length xs) k) in
    let two = sum-cons x (take (length xs + k) (xs ++ ys)) in
    let all = sum-cons x xs in
    let rest = place_above xs ys k in
    omega (arith, one, two, all, rest)
  where
    next : (n k : ℕ) → suc n + k ≡ suc (n + k)
    next n k = omega arith
