use Rattle.std.proofs.Common.{◌∙◌, ap}
use Rattle.patr_scratch.specs.Linked.{first_of}
use Rattle.patr_scratch.specs.Marks.{unpacked}
use Rattle.patr_scratch.proofs.Views.{first_is}
use Rattle.patr_scratch.proofs.scratch.Scratch.first_arc.Goals as goal

pub returns : goal.returns
returns c =
    let was = c.self.inside in
    c.seen.ensures ∙ c.first_of.ensures ∙ ap first_of c.added.ensures ∙ first_is was.table was.arcs was.pairs was.visits was.order c.args.self.now c.args.side c.args.number c.slot.result (unpacked c.get.result.now) c.self.invariant c.self.view_is c.slot.ensures c.get.ensures
