use Rattle.std.proofs.Common.{◌≡◌, ◌+◌, ◌≤◌, [], false, All, length, vec_capacity}
use Rattle.std.specs.Vec.Iter.{into_iter_items}
use Rattle.patr_pool.specs.Rounds.{CanRun}
use Rattle.patr_pool.proofs.workers.workers_of.Given as goal

abbrev pub invariant-loop-seat : goal.invariant-loop-seat
invariant-loop-seat g l = record {
  seats : All (λ seat. g.D.Desk.is_seat l.desk seat × (g.D.Desk.taken seat ≡ []) × (g.D.Desk.has_seen_none seat ≡ false)) (into_iter_items l.seat-iterator);
  locals : All (g.W.Work.second_fact l.work [] false) (into_iter_items l.locals);
  same : length (into_iter_items l.seat-iterator) ≡ length (into_iter_items l.locals);
  count : length l.workers.items + length (into_iter_items l.seat-iterator) ≡ length l.fn.seats.items;
  room : length l.fn.seats.items ≤ vec_capacity l.workers;
  each : All (CanRun (g.D.Desk.is_seat l.desk) g.D.Desk.taken g.D.Desk.has_seen_none (g.W.Work.first_fact l.work) (g.W.Work.second_fact l.work)) l.workers.items;
}
