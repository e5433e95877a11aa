-- Items in room that was taken before.
use Rattle.std.specs.Prelude.{ℕ, List}

-- the items, and for how many there is room
pub record WithRoom (T : Type 0) : Type 0 where
  pub list : List T
  pub room : ℕ
