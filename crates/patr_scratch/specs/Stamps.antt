-- Which marks are of the present generation.
use Rattle.std.specs.Prelude.{ℕ, ◌≤◌, cond, nat_eq, List, map, All}
use Rattle.patr_scratch.specs.declared.table.Cell.{Cell}
use Rattle.patr_scratch.specs.Marks.{Mark, blank, unpacked}

-- the mark of a cell, if this generation set it
abbrev pub mark_of : ℕ → Cell → Mark
mark_of stamp c = cond (nat_eq c.stamp stamp) (unpacked c.mark) blank

-- the marks of all cells in this generation
abbrev pub marks_of : ℕ → List Cell → List Mark
marks_of stamp cells = map (mark_of stamp) cells

-- generations are numbered from 1, and no cell is of a later one than this
pub record IsStamped (stamp : ℕ) (cells : List Cell) : Type 0 where
  pub first : 1 ≤ stamp
  pub each : All (λ c. c.stamp ≤ stamp) cells
