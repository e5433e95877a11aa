use Rattle.std.proofs.Common.{Some, refl}
use Rattle.patr_scratch.specs.Contents.{PlaceMarks}
use Rattle.patr_scratch.specs.Marks.{Mark}
use Rattle.patr_scratch.proofs.Views.{mark_changed}
use Rattle.patr_scratch.proofs.scratch.Scratch.set_copy.Goals as goal

pub returns : goal.returns
returns c =
    let was = c.self.inside in
    mark_changed was.table was.arcs was.pairs was.visits was.order c.args.self.now c.args.side c.args.number c.slot-slot.result c.set_copied.new.self (λ (m : Mark). record m { copied = Some c.args.made }) (λ (p : PlaceMarks). record p { copied = Some c.args.made })
    c.self.view_is c.slot-slot.ensures c.set_copied.ensures (λ m. refl)
