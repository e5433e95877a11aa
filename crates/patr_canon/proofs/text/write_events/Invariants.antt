use Rattle.std.proofs.Common.{◌≡◌, ◌++◌, flat_map, take}
use Rattle.patr_canon.proofs.Names.{event_text, events_seen, look_of, number_by, string_bytes}
use Rattle.patr_canon.proofs.text.write_events.Given as goal

-- the text of the events so far
abbrev pub invariant-loop-event : goal.invariant-loop-event
invariant-loop-event l =
    string_bytes l.out ≡ string_bytes l.fn.out ++ flat_map (event_text (look_of l.look) (number_by l.numbered.keys)) (events_seen (take l.event-index l.events))
