-- Members at their places, and lists that are cut or go on.
use Rattle.std.proofs.Common.{◌≡◌, ◌⊎◌, inl, inr, ℕ, zero, suc, ◌+◌, ◌<◌, ◌≤◌, List, [], ◌∷◌, ◌++◌, length, take, Some, slice_get, refl, ap, arith}
use Rattle.std.specs.List.{Contains}

-- there is one at each place
pub get_there : {X : Type 0} (xs : List X) (i : ℕ) → i < length xs → (x : X) × (slice_get xs i ≡ Some x)
get_there [] i h = absurd (omega (arith, h))
get_there (x ∷ xs) zero h = (x, refl)
get_there (x ∷ xs) (suc i) h = get_there xs i (omega (arith, h))

-- what stands in a list stands there with others behind it
pub get_left : {X : Type 0} (xs ys : List X) (i : ℕ) (x : X) → slice_get xs i ≡ Some x → slice_get (xs ++ ys) i ≡ Some x
get_left [] ys i x h = cc
get_left (y ∷ xs) ys zero x h = h
get_left (y ∷ xs) ys (suc i) x h = get_left xs ys i x h

-- and what stands behind a list is what stands there
pub get_parts : {X : Type 0} (xs ys : List X) (i : ℕ) (x : X) → slice_get (xs ++ ys) i ≡ Some x → (slice_get xs i ≡ Some x) ⊎ ((n : ℕ) × (i ≡ length xs + n) × (slice_get ys n ≡ Some x))
get_parts [] ys i x h = inr (i, omega arith, h)
get_parts (y ∷ xs) ys zero x h = inl h
get_parts (y ∷ xs) ys (suc i) x h = elim (get_parts xs ys i x h) [ inl k ↦ inl k | inr r ↦ inr (r.0, omega (arith, r.1), r.2) ]

-- ---- with one more at the end

pub get_before : {X : Type 0} (xs : List X) (x : X) (i : ℕ) → i < length xs → slice_get (xs ++ x ∷ []) i ≡ slice_get xs i
get_before [] x i h = absurd (omega (arith, h))
get_before (y ∷ xs) x zero h = refl
get_before (y ∷ xs) x (suc i) h = get_before xs x i (omega (arith, h))

pub get_last : {X : Type 0} (xs : List X) (x : X) → slice_get (xs ++ x ∷ []) (length xs) ≡ Some x
get_last [] x = refl
get_last (y ∷ xs) x = get_last xs x

pub get_cases : {X : Type 0} (xs : List X) (x : X) (i : ℕ) (y : X) → slice_get (xs ++ x ∷ []) i ≡ Some y → ((i < length xs) × (slice_get xs i ≡ Some y)) ⊎ ((i ≡ length xs) × (x ≡ y))
get_cases [] x zero y h = inr (refl, cc)
get_cases [] x (suc i) y h = cc
get_cases (z ∷ xs) x zero y h = inl (omega arith, h)
get_cases (z ∷ xs) x (suc i) y h = elim (get_cases xs x i y h) [ inl k ↦ inl (omega (arith, k.0), k.1) | inr k ↦ inr (ap suc k.0, k.1) ]

-- ---- fronts

pub take_take : {X : Type 0} (n m : ℕ) (xs : List X) → n ≤ m → take n (take m xs) ≡ take n xs
take_take zero m xs h = refl
take_take (suc n) zero xs h = absurd (omega (arith, h))
take_take (suc n) (suc m) [] h = refl
take_take (suc n) (suc m) (x ∷ xs) h = ap (λ ys. x ∷ ys) (take_take n m xs (omega (arith, h)))

pub first_contained : {X : Type 0} (xs : List X) → (length xs ≡ 0 → ⊥) → (x : X) × Contains xs x
first_contained [] h = absurd (h refl)
first_contained (x ∷ xs) h = (x, (0, omega arith, refl))

-- a place is below another, or so many behind it
pub below_or_behind : (n k : ℕ) → (k < n) ⊎ ((j : ℕ) × (k ≡ n + j))
below_or_behind zero k = inr (k, omega arith)
below_or_behind (suc n) zero = inl (omega arith)
below_or_behind (suc n) (suc k) = elim (below_or_behind n k) [ inl h ↦ inl (omega (arith, h)) | inr r ↦ inr (r.0, omega (arith, r.1)) ]
