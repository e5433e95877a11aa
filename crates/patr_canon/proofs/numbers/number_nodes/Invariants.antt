use Rattle.std.proofs.Common.{◌≡◌, take}
use Rattle.patr_canon.proofs.Names.{events_seen, kept, met_again, opened}
use Rattle.patr_canon.proofs.numbers.number_nodes.Given as goal

-- the nodes with a number so far
abbrev pub invariant-loop-event : goal.invariant-loop-event
invariant-loop-event l = l.numbered.keys ≡ kept (met_again (events_seen l.events)) (opened (events_seen (take l.event-index l.events)))
