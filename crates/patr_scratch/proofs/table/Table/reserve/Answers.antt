use Rattle.std.proofs.Common.{arith}
use Rattle.patr_scratch.proofs.Stamping.{marks_grown}
use Rattle.patr_scratch.proofs.table.Table.reserve.Goals as goal

pub returns-in_ok-resize-clause-marks : goal.returns-in_ok-resize-clause-marks
returns-in_ok-resize-clause-marks c =
    marks_grown c.self.inside.stamp c.args.room _ c.self.inside.cells.items c.resize.new.self.items c.args.self.now _ c.self.view_is (omega (arith, c.len.ensures, c.self.inside.cells.ok.0, c.if-len-room.true)) c.in_ok-resize.ensures.items (omega (arith, c.self.invariant.first))
