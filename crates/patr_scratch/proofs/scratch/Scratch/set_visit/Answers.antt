use Rattle.std.proofs.Common.{refl}
use Rattle.patr_scratch.specs.Contents.{PlaceMarks}
use Rattle.patr_scratch.specs.Marks.{Mark}
use Rattle.patr_scratch.proofs.Views.{mark_changed}
use Rattle.patr_scratch.proofs.scratch.Scratch.set_visit.Goals as goal

pub returns : goal.returns
returns c =
    let was = c.self.inside in
    mark_changed was.table was.arcs was.pairs was.visits was.order c.args.self.now c.args.side c.args.number c.slot-slot.result c.set_visit.new.self (λ (m : Mark). record m { visit = c.args.state }) (λ (p : PlaceMarks). record p { visit = c.args.state })
    c.self.view_is c.slot-slot.ensures c.set_visit.ensures (λ m. refl)
