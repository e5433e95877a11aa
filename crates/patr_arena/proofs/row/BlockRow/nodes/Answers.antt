use Rattle.std.proofs.Common.{ap, arith}
use Rattle.patr_arena.specs.Rows.{blocks_of, nodes_of}
use Rattle.patr_arena.proofs.Rows.{row_nodes_are}
use Rattle.patr_arena.proofs.row.BlockRow.nodes.Goals as goal

pub overflow_add-result : goal.overflow_add-result
overflow_add-result c = omega (arith, row_nodes_are c.self.invariant, c.self.inside.ends.ok.0, c.len.ensures)

pub returns-clause-count : goal.returns-clause-count
returns-clause-count c = omega (arith, row_nodes_are c.self.invariant, c.self.inside.ends.ok.0, c.len.ensures, ap nodes_of c.self.view_is)

pub returns-clause-few : goal.returns-clause-few
returns-clause-few c = omega (arith, row_nodes_are c.self.invariant, c.self.inside.ends.ok.0, c.len.ensures, ap blocks_of c.self.view_is)
