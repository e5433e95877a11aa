use Rattle.std.proofs.Common.{◌≡◌, ◌+◌, All, length}
use Rattle.std.specs.Vec.Iter.{into_iter_items}
use Rattle.patr_pool.specs.Rounds.{HasRun, AreRuns}
use Rattle.patr_pool.proofs.gathered.gather.Given as goal

abbrev pub invariant-loop-worker : goal.invariant-loop-worker
invariant-loop-worker g l = record {
  rest : All (HasRun (g.D.Desk.is_seat l.desk) g.D.Desk.taken g.D.Desk.has_seen_none (g.W.Work.first_fact l.work) (g.W.Work.second_fact l.work)) (into_iter_items l.worker-iterator);
  runs : AreRuns (g.D.Desk.is_seat l.desk) g.D.Desk.taken g.D.Desk.has_seen_none (g.W.Work.first_fact l.work) (g.W.Work.second_fact l.work) l.all.seats.items l.all.locals.items l.all.yields.items l.all.stopped;
  count : length l.all.seats.items + length (into_iter_items l.worker-iterator) ≡ length l.fn.workers.items;
}
