-- How large rows are, told up to 2^32, and the things of a list as a row.
use Rattle.std.specs.Prelude.{◌≡◌, ℕ, ◌^◌, List, [], ◌∷◌, ◌++◌, length, min}
use Rattle.patr_model.specs.Grammar.{Row, Rows, single, variants, variants_of}
use Rattle.patr_model.specs.Productions.{Item, Single, Choice, Option'}
use Rattle.patr_model.specs.Build.{longest, longest_of}
use Rattle.patr_expand.specs.declared.size.Size.{Size}

-- a count, told up to 2^32
abbrev pub capped : ℕ → ℕ
capped n = min n (2 ^ 32)

-- so many variants, and so many things in the largest
pub record IsSize (count most : ℕ) (s : Size) : Type 0 where
  pub variants : s.variants ≡ capped count
  pub equations : s.equations ≡ capped most

module _ {X : Type 0} where
  -- the variants of one thing of a row
  abbrev pub item_variants : Item X → List (List X)
  item_variants (Single x) = single x
  item_variants (Choice rs) = variants_of single rs
  item_variants (Option' rs) = variants_of single rs ++ [] ∷ []

  -- how many things the largest of them has
  abbrev pub item_longest : Item X → ℕ
  item_longest (Single x) = 1
  item_longest (Choice rs) = longest_of (λ e. 1) rs
  item_longest (Option' rs) = longest_of (λ e. 1) rs

  -- the size of a row
  abbrev pub IsRowSize : Row X → Size → Type 0
  IsRowSize r s = IsSize (length (variants single r)) (longest (λ e. 1) r) s

  -- the size of alternatives
  abbrev pub AreSizeOf : Rows X → Size → Type 0
  AreSizeOf rs s = IsSize (length (variants_of single rs)) (longest_of (λ e. 1) rs) s

  -- the size of one thing of a row
  abbrev pub IsItemSize : Item X → Size → Type 0
  IsItemSize x s = IsSize (length (item_variants x)) (item_longest x) s
