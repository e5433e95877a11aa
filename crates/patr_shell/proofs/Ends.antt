-- The ends of lines, and how much of a line matters.
use Rattle.std.proofs.Common.{◌≡◌, ◌≤◌, ◌<◌, ◌-◌, ◌+◌, ℕ, suc, nat_eq, eqb, List, [], ◌∷◌, ◌++◌, Bool, true, false, cond, length, take, drop, get_or, refl, sym, ◌∙◌, ap, subst, arith, append-nil, take-append-drop, Some, None, not, ltb, leb, min, add-one, drop-cons, length-drop}
use Rattle.patr_shell.proofs.Names.{length-take-le, take_all, take_at, take-append-le, nat_tests, without_cr, HasNoFeed}
use Rattle.std.proofs.Math.Seq.{take-append-add}
use Rattle.std.proofs.lemmas.List.Quantifiers.{position-Some}
use Rattle.std.specs.List.{position, position_or_len}
use Rattle.patr_shell.proofs.Cuts.{free_onto}

-- a CR at the end is the last byte
by_last : (b : ℕ) (ys : List ℕ) (n m : ℕ) (t : Bool) → m ≡ suc n → b ∷ cond t (take n ys) ys ≡ cond t (take m (b ∷ ys)) (b ∷ ys)
by_last b ys n m true is = ap (λ k. take k (b ∷ ys)) (sym is)
by_last b ys n m false is = refl

pub without_cr_is : (xs : List ℕ) → without_cr xs ≡ cond (eqb (get_or xs (length xs - 1) 0) 13) (take (length xs - 1) xs) xs
without_cr_is [] = refl
without_cr_is (b ∷ []) = refl
without_cr_is (b ∷ c ∷ bs) =
    let is : length (b ∷ c ∷ bs) - 1 ≡ suc (length (c ∷ bs) - 1) = omega arith in
    ap (λ (l : List ℕ). b ∷ l) (without_cr_is (c ∷ bs))
    ∙ by_last b (c ∷ bs) (length (c ∷ bs) - 1) (length (b ∷ c ∷ bs) - 1) (eqb (get_or (c ∷ bs) (length (c ∷ bs) - 1) 0) 13) is
    ∙ ap (λ (k : ℕ). cond (eqb (get_or (b ∷ c ∷ bs) k 0) 13) (take (length (b ∷ c ∷ bs) - 1) (b ∷ c ∷ bs)) (b ∷ c ∷ bs)) (sym is)

other_is : (b : ℕ) → eqb b 10 ≡ false → nat_eq 10 b ≡ false
other_is b other = grind (arith, nat_tests)

abbrev is_feed : ℕ → Bool
is_feed b = eqb b 10

-- no LF stands before the first one
free_before_first : (xs : List ℕ) → HasNoFeed (take (position_or_len is_feed xs) xs)
free_before_first [] = refl
free_before_first (b ∷ bs) =
    elim (eqb b 10) as (λ t. eqb b 10 ≡ t → HasNoFeed (take (cond (not t) (1 + position_or_len is_feed bs) 0) (b ∷ bs))) [
      | true ↦ λ _. refl
      | false ↦ λ other. one_more b bs (position_or_len is_feed bs) (other_is b other) (free_before_first bs)
    ] refl
  where
    one_more : (b : ℕ) (bs : List ℕ) (n : ℕ) → nat_eq 10 b ≡ false → HasNoFeed (take n bs) → HasNoFeed (take (1 + n) (b ∷ bs))
    one_more b bs n other free =
        let is : 1 + n ≡ suc n = omega arith in
        subst (λ k. HasNoFeed (take k (b ∷ bs))) (sym is) (free_onto b other (take n bs) free)

pub free_at : (xs : List ℕ) (i : ℕ) → position is_feed xs ≡ Some i → HasNoFeed (take i xs)
free_at xs i is = elim (ltb (position_or_len is_feed xs) (length xs)) as (λ t. cond t (Some (position_or_len is_feed xs)) None ≡ Some i → HasNoFeed (take i xs)) [
  | true ↦ λ e. let same : position_or_len is_feed xs ≡ i = cc in subst (λ k. HasNoFeed (take k xs)) same (free_before_first xs)
  | false ↦ λ e. cc
] is

pub free_of_none : (xs : List ℕ) → position is_feed xs ≡ None → HasNoFeed xs
free_of_none xs is = elim (ltb (position_or_len is_feed xs) (length xs)) as (λ t. ltb (position_or_len is_feed xs) (length xs) ≡ t → cond t (Some (position_or_len is_feed xs)) None ≡ None → HasNoFeed xs) [
  | true ↦ λ _ e. cc
  | false ↦ λ test e. subst HasNoFeed (take_all (position_or_len is_feed xs) xs (grind (arith, nat_tests))) (free_before_first xs)
] refl is

-- the bytes before the first LF, the LF, and those behind it
pub cut_at_feed : (xs : List ℕ) (i : ℕ) → position is_feed xs ≡ Some i → xs ≡ take i xs ++ 10 ∷ take (length xs - (i + 1)) (drop (i + 1) xs)
cut_at_feed xs i is =
    let at = position-Some is_feed xs i 0 is in
    let within : i < length xs = at.0 in
    let feed : get_or xs i 0 ≡ 10 = grind (arith, nat_tests, at.1) in
    let all : take (length xs - (i + 1)) (drop (i + 1) xs) ≡ drop (suc i) xs =
    rw add-one (take_all (length xs - suc i) (drop (suc i) xs) (omega (arith, length-drop (suc i) xs))) in
    sym (take-append-drop i xs)
    ∙ ap (λ (l : List ℕ). take i xs ++ l) (drop-cons xs i 0 within ∙ ap (λ (b : ℕ). b ∷ drop (suc i) xs) feed ∙ ap (λ (l : List ℕ). 10 ∷ l) (sym all))

take_within : (n m : ℕ) (ys : List ℕ) → m ≡ min n (length ys) → take m ys ≡ take n ys
take_within n m ys is = elim (leb n (length ys)) as (λ t. leb n (length ys) ≡ t → take m ys ≡ take n ys) [
  | true ↦ λ test. let same : m ≡ n = grind (arith, nat_tests) in ap (λ (k : ℕ). take k ys) same
  | false ↦ λ test.
      let all : length ys ≤ m = grind (arith, nat_tests) in
      let more : length ys ≤ n = grind (arith, nat_tests) in
      take_all m ys all ∙ sym (take_all n ys more)
] refl

pub take_two : (n : ℕ) (xs ys : List ℕ) → length xs ≤ n → take n (xs ++ ys) ≡ xs ++ take (n - length xs) ys
take_two n xs ys short =
    let is : n ≡ length xs + (n - length xs) = omega arith in
    let at : take (length xs + (n - length xs)) (xs ++ ys) ≡ xs ++ take (n - length xs) ys = take-append-add xs ys (n - length xs) in
    ap (λ (k : ℕ). take k (xs ++ ys)) is ∙ at

-- as much of more bytes as there is room for
pub kept_with : (n room : ℕ) (xs ys : List ℕ) → length xs ≤ n → room ≡ min (n - length xs) (length ys) → xs ++ take room ys ≡ take n (xs ++ ys)
kept_with n room xs ys short is = ap (λ (l : List ℕ). xs ++ l) (take_within (n - length xs) room ys is) ∙ sym (take_two n xs ys short)

-- what is kept goes on as the whole does
pub kept_behind : (n : ℕ) (xs ys : List ℕ) → take n (take n xs ++ ys) ≡ take n (xs ++ ys)
kept_behind n xs ys = elim (leb (length xs) n) as (λ t. leb (length xs) n ≡ t → take n (take n xs ++ ys) ≡ take n (xs ++ ys)) [
  | true ↦ λ test. let short : length xs ≤ n = grind (arith, nat_tests) in ap (λ (l : List ℕ). take n (l ++ ys)) (take_all n xs short)
  | false ↦ λ test.
      let long : n ≤ length xs = grind (arith, nat_tests) in
      take_at (take n xs) ys n (length-take-le n xs long) ∙ sym (take-append-le n xs ys long)
] refl

-- no more than one byte is dropped at the end
pub longer_by_one : (xs : List ℕ) → length xs ≤ suc (length (without_cr xs))
longer_by_one [] = omega arith
longer_by_one (b ∷ []) = elim (nat_eq b 13) as (λ t. length (b ∷ []) ≤ suc (length (cond t [] (b ∷ [])))) [ true ↦ omega arith | false ↦ omega arith ]
longer_by_one (b ∷ c ∷ bs) = let more = longer_by_one (c ∷ bs) in omega (arith, more)

pub take_once : (n : ℕ) (xs : List ℕ) → take n (take n xs) ≡ take n xs
take_once n xs = ap (take n) (sym (append-nil (take n xs))) ∙ kept_behind n xs [] ∙ ap (take n) (append-nil xs)
