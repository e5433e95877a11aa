-- Numbers that several lists share out.
use Rattle.std.specs.Prelude.{◌≡◌, ◌==◌, ℕ, ◌<◌, ◌≤◌, List, [], ◌∷◌, ◌++◌, count_by, flat_map}

-- how often a number stands in a list
abbrev pub times : ℕ → List ℕ → ℕ
times x xs = count_by (λ y. y == x) xs

-- these lists, one behind the other
abbrev pub all_of : List (List ℕ) → List ℕ
all_of lists = flat_map (λ list. list) lists

-- how often a number stands in these lists together
abbrev pub times_in : ℕ → List (List ℕ) → ℕ
times_in x lists = times x (all_of lists)

-- no number stands twice in these lists together
abbrev pub NoneTwice : List (List ℕ) → Type 0
NoneTwice lists = (x : ℕ) → times_in x lists ≤ 1

-- each number below n stands once in these lists together
abbrev pub EachBelow : ℕ → List (List ℕ) → Type 0
EachBelow n lists = (x : ℕ) → x < n → times_in x lists ≡ 1

-- no number from n on stands in these lists
abbrev pub NoneFrom : ℕ → List (List ℕ) → Type 0
NoneFrom n lists = (x : ℕ) → n ≤ x → times_in x lists ≡ 0

-- a task that did not stand in the old list stands behind it in the new one
pub record IsTaken (tasks task : ℕ) (old new : List ℕ) : Type 0 where
  pub below : task < tasks
  pub other : times task old ≡ 0
  pub appended : new ≡ old ++ task ∷ []
