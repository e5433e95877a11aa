use Rattle.std.proofs.Common.{take}
use Rattle.patr_canon.proofs.Names.{IsDone, events_seen, met_again}
use Rattle.patr_canon.proofs.numbers.met_again.Given as goal

-- the nodes that are met again so far
abbrev pub invariant-loop-event : goal.invariant-loop-event
invariant-loop-event l = IsDone l.again (met_again (events_seen (take l.event-index l.events)))
