-- The words of a sentence, and those of one that is not refused for them.
use Rattle.std.specs.Prelude.{◌≡◌, ℕ, ◌≤◌, nat_eq, List, length, take, Some, slice_get}
use Rattle.std.specs.List.{AllByRecursion, slice_split}
use Rattle.patr_model.specs.Session.{without_empty}
use Rattle.patr_library.specs.Stored.{Stored}
use Rattle.patr_parse.specs.Sentences.{AreNumbers, IsKnown}

-- the parts of a text between tabs that are not empty
abbrev pub between_tabs : List ℕ → List (List ℕ)
between_tabs text = without_empty (slice_split (λ b. nat_eq b 9) text)

-- the words are few, each of them has an entry, and these are their numbers
pub record AreKnown (s : Stored) (table : List (List ℕ)) (words : List (List ℕ)) (numbers : List ℕ) : Type 0 where
  pub short : length words ≤ 256
  pub known : AllByRecursion (IsKnown s table) words
  pub are : AreNumbers table words numbers

-- the word has an entry, and the table has this number for it
abbrev pub IsNumberOf : Stored → List (List ℕ) → List ℕ → ℕ → Type 0
IsNumberOf s table w n = IsKnown s table w × (slice_get table n ≡ Some w)

-- each of the first of the words has an entry, and these are their numbers
pub record AreKnownTo (s : Stored) (table : List (List ℕ)) (words : List (List ℕ)) (place : ℕ) (numbers : List ℕ) : Type 0 where
  pub known : AllByRecursion (IsKnown s table) (take place words)
  pub are : AreNumbers table (take place words) numbers
