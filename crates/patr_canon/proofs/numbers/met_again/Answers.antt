use Rattle.std.proofs.Common.{sym, ◌∙◌}
use Rattle.patr_canon.proofs.Numbering.{again_added, again_kept}
use Rattle.patr_canon.proofs.numbers.met_again.Goals as goal

pub loop-event-preserved-in_default : goal.loop-event-preserved-in_default
loop-event-preserved-in_default c = again_kept c.args.events.now c.loop-event.event-index _ c.loop-event.again c.loop-event-test.true (sym c.in_default.is ∙ c.again.ensures) c.loop-event.invariant

pub loop-event-preserved : goal.loop-event-preserved
loop-event-preserved c =
    again_added c.args.events.now c.loop-event.event-index _ c.loop-event.again c.insert.new.self c.in-Some.node c.loop-event-test.true (sym c.in-Some.is ∙ c.again.ensures) c.loop-event.invariant c.in_ok-insert.ensures.updates.0
