use Rattle.std.proofs.Common.{length, ◌∙◌}
use Rattle.patr_canon.proofs.Names.{EventIsNumbered, EventIsSpelled, event_text, look_of, number_by, string_bytes}
use Rattle.patr_canon.proofs.Numbering.{all_at, text_more}
use Rattle.patr_canon.proofs.text.write_events.Goals as goal

pub write_event-requires-clause-spelled : goal.write_event-requires-clause-spelled
write_event-requires-clause-spelled c = all_at (EventIsSpelled (length c.args.look.now.symbols.now)) c.args.events.now c.loop-event.event-index _ c.loop-event-test.true c.requires.spelled

pub write_event-requires-clause-numbered : goal.write_event-requires-clause-numbered
write_event-requires-clause-numbered c = all_at (EventIsNumbered c.args.numbered.now.keys) c.args.events.now c.loop-event.event-index _ c.loop-event-test.true c.requires.numbered

pub loop-event-preserved : goal.loop-event-preserved
loop-event-preserved c =
    c.in_ok-write_event.ensures
    ∙ text_more (event_text (look_of c.args.look.now) (number_by c.args.numbered.now.keys)) c.args.events.now c.loop-event.event-index _ (string_bytes c.args.out.now) _ c.loop-event-test.true c.loop-event.invariant
