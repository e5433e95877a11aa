-- Lists of numbers, and sums over them.
use Rattle.std.specs.Prelude.{ℕ, zero, suc, ◌+◌, Bool, cond, List, [], ◌∷◌}

-- the numbers below n
abbrev pub upto : ℕ → List ℕ
upto zero = []
upto (suc n) = n ∷ upto n

-- the sum of f over the list
abbrev pub total : (ℕ → ℕ) → List ℕ → ℕ
total f [] = 0
total f (k ∷ ks) = f k + total f ks

-- the numbers, from i on, of the members that pass the test, rising
abbrev pub places : {X : Type 0} → (X → Bool) → ℕ → List X → List ℕ
places test i [] = []
places test i (x ∷ xs) = cond (test x) (i ∷ places test (suc i) xs) (places test (suc i) xs)
