use Rattle.std.proofs.Common.{◌≡◌, ◌-◌, false, length}
use Rattle.patr_pool.specs.Outcomes.{AreTasks, Yielded}
use Rattle.patr_pool.proofs.worker.work_through.Given as goal

abbrev pub invariant-loop-task : goal.invariant-loop-task
invariant-loop-task g l = record {
  here : g.D.Desk.is_seat l.desk l.seat;
  before_none : g.D.Desk.has_seen_none l.seat ≡ false;
  tasks : AreTasks l.of (g.D.Desk.taken l.seat);
  local : g.W.Work.second_fact l.work (g.D.Desk.taken l.seat) false l.local;
  yields : Yielded (g.W.Work.first_fact l.work) (g.D.Desk.taken l.seat) false l.yields.items;
}

abbrev pub decreases-loop-task : goal.decreases-loop-task
decreases-loop-task g l = l.of - length (g.D.Desk.taken l.seat)
