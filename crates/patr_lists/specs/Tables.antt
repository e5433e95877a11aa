-- Lists of numbers, each found by its place.
use Rattle.std.specs.Prelude.{ℕ, List, [], ◌∷◌, ◌++◌, map, set, get_or}
use Rattle.std.proofs.Common.{Vec, Global}

-- for each place a list of numbers
abbrev pub Table : Type 0
Table = List (List ℕ)

-- the lists that vectors of numbers hold
abbrev pub numbers : List (Vec ℕ Global) → Table
numbers lists = map (λ v. v.items) lists

-- with one more number in the list at this place
abbrev pub with_number : Table → ℕ → ℕ → Table
with_number table place n = set table place (get_or table place [] ++ n ∷ [])
