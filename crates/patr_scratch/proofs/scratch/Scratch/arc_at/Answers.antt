use Rattle.patr_scratch.proofs.Views.{cell_below, cell_read}
use Rattle.patr_scratch.proofs.scratch.Scratch.arc_at.Goals as goal

pub get-held-requires : goal.get-held-requires
get-held-requires c = let was = c.self.inside in cell_below was.table was.arcs was.pairs was.visits was.order c.args.self.now c.args.cell c.self.invariant c.self.view_is c.requires

pub returns : goal.returns
returns c =
    let was = c.self.inside in
    cell_read was.table was.arcs was.pairs was.visits was.order c.args.self.now c.args.cell c.get-held.result c.seen.result c.self.invariant c.self.view_is c.requires c.get-held.ensures c.seen.ensures
