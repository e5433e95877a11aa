use Rattle.std.proofs.Common.{Some, refl}
use Rattle.patr_scratch.specs.Contents.{PlaceMarks}
use Rattle.patr_scratch.specs.Marks.{Mark}
use Rattle.patr_scratch.proofs.Views.{mark_changed}
use Rattle.patr_scratch.proofs.scratch.Scratch.set_forward.Goals as goal

pub returns : goal.returns
returns c =
    let was = c.self.inside in
    mark_changed was.table was.arcs was.pairs was.visits was.order c.args.self.now c.args.side c.args.number c.slot-slot.result c.set_forward.new.self (λ (m : Mark). record m { forward = Some c.args.to }) (λ (p : PlaceMarks). record p { forward = Some c.args.to })
    c.self.view_is c.slot-slot.ensures c.set_forward.ensures (λ m. refl)
