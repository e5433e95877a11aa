use Rattle.std.proofs.Common.{ap, arith}
use Rattle.patr_arena.specs.Rows.{Row}
use Rattle.patr_arena.proofs.row.BlockRow.number.Goals as goal

pub returns : goal.returns
returns c =
    let first = ap (λ (r : Row). r.first_node) c.self.view_is in
    let there = c.place.ensures in
    omega arith
