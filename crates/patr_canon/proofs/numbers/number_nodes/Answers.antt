use Rattle.std.proofs.Common.{refl, sym, ◌∙◌}
use Rattle.patr_canon.proofs.Names.{events_seen, met_again, opened}
use Rattle.patr_canon.proofs.Numbering.{none_kept, numbered_added, numbered_kept, numbered_left}
use Rattle.patr_arena.proofs.Maps.{nothing_waits}
use Rattle.patr_canon.proofs.Walks.{set_none}
use Rattle.patr_canon.proofs.numbers.number_nodes.Goals as goal

pub returns-then-is_empty : goal.returns-then-is_empty
returns-then-is_empty c =
    let none = nothing_waits c.args.again.now.keys (sym (c.if-is_empty.ensures.0 refl)) in
    c.clear.ensures.empty ∙ sym (none_kept (met_again (events_seen c.args.events.now)) (opened (events_seen c.args.events.now)) (λ m. sym (c.requires.again m) ∙ set_none c.args.again.now none m))

pub loop-event-preserved-in_default : goal.loop-event-preserved-in_default
loop-event-preserved-in_default c =
    numbered_kept (met_again (events_seen c.args.events.now)) c.args.events.now c.loop-event.event-index _ c.loop-event-test.true c.loop-event.numbered.keys (sym c.in_default.is ∙ c.opened.ensures) c.loop-event.invariant

pub loop-event-preserved-then-not-contains : goal.loop-event-preserved-then-not-contains
loop-event-preserved-then-not-contains c =
    numbered_left (met_again (events_seen c.args.events.now)) c.args.events.now c.loop-event.event-index _ c.loop-event-test.true c.loop-event.numbered.keys c.in-Some.node (sym c.in-Some.is ∙ c.opened.ensures)
    (sym (c.requires.again c.in-Some.node) ∙ sym c.if-not-contains.ensures) c.loop-event.invariant

pub loop-event-preserved : goal.loop-event-preserved
loop-event-preserved c =
    numbered_added (met_again (events_seen c.args.events.now)) c.args.events.now c.loop-event.event-index _ c.loop-event-test.true c.loop-event.numbered.keys c.insert.new.self.keys c.in-Some.node c.requires.once
    (sym c.in-Some.is ∙ c.opened.ensures) (sym (c.requires.again c.in-Some.node) ∙ sym c.if-not-contains.ensures) c.loop-event.invariant c.in_ok-insert.ensures.keys
