-- The order of keys.
use Rattle.std.specs.Prelude.{◌≡◌, ℕ, List, map}
use Rattle.std.specs.declared.cmp.Ordering.{Ordering}
use Rattle.std.specs.declared.cmp.Ordering.TheVariants.{Less, Equal, Greater}
use Rattle.std.specs.Cmp.Lexicographic.{slice_cmp}
use Rattle.patr_model.specs.Session.{number_before, numbers}
use Rattle.patr_chart.specs.declared.key.KeyItem.{KeyItem}
use Rattle.patr_chart.specs.Edges.{item_of}

-- the first list of numbers stands before the second, is the second, or stands behind it
abbrev pub IsOrderOf : Ordering → List ℕ → List ℕ → Type 0
IsOrderOf Less ns ms = number_before ns ms
IsOrderOf Equal ns ms = ns ≡ ms
IsOrderOf Greater ns ms = number_before ms ns

-- lists of nodes compare, node by node in this order, as keys are ordered, number by number; only equal lists compare as equal
pub record AreOrdered (cmp : KeyItem → KeyItem → Ordering) (xs ys : List KeyItem) : Type 0 where
  pub order : IsOrderOf (slice_cmp cmp xs ys) (numbers (map item_of xs)) (numbers (map item_of ys))
  pub equal : slice_cmp cmp xs ys ≡ Equal → xs ≡ ys

-- by this order of nodes all keys are ordered
abbrev pub KeysAreOrdered : (KeyItem → KeyItem → Ordering) → Type 0
KeysAreOrdered cmp = (xs ys : List KeyItem) → AreOrdered cmp xs ys
