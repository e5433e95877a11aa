use Rattle.std.proofs.Common.{ap, arith}
use Rattle.patr_arena.specs.Rows.{blocks_of}
use Rattle.patr_arena.proofs.Rows.{row_blocks_are}
use Rattle.patr_arena.proofs.row.BlockRow.blocks.Goals as goal

pub overflow_cast-result : goal.overflow_cast-result
overflow_cast-result c = omega (arith, row_blocks_are c.self.invariant, c.self.inside.node_ends.ok.0, c.len.ensures)

pub overflow_add-result : goal.overflow_add-result
overflow_add-result c = omega (arith, row_blocks_are c.self.invariant, c.self.inside.node_ends.ok.0, c.len.ensures)

pub returns : goal.returns
returns c = omega (arith, row_blocks_are c.self.invariant, c.self.inside.node_ends.ok.0, c.len.ensures, ap blocks_of c.self.view_is)
