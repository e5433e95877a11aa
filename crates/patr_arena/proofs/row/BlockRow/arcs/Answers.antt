use Rattle.std.proofs.Common.{◌∙◌}
use Rattle.patr_arena.proofs.Rows.{kept, row_node}
use Rattle.patr_arena.proofs.row.BlockRow.arcs.Goals as goal

pub piece-requires-clause-inside : goal.piece-requires-clause-inside
piece-requires-clause-inside c = rw (c.deref-2.ensures.value) (row_node (kept c.self.view_is c.self.invariant) c.args.k c.args.offset c.place.result c.requires c.place.ensures).0

pub returns : goal.returns
returns c =
    c.piece.ensures
    ∙ rw (c.deref.ensures.value, c.deref-2.ensures.value) (row_node (kept c.self.view_is c.self.invariant) c.args.k c.args.offset c.place.result c.requires c.place.ensures).1
