use Rattle.std.proofs.Common.{length, ap, arith}
use Rattle.patr_claims.proofs.Seats.{tail_are}
use Rattle.patr_pool.specs.declared.workers.Worker.{Worker}
use Rattle.patr_pool.specs.Rounds.{HasRun}
use Rattle.patr_pool.proofs.MoreRuns.{runs_none}
use Rattle.patr_pool.proofs.gathered.gather.Goals as goal

pub loop-worker-init : goal.loop-worker-init
loop-worker-init g c =
    let empty = c.none_yet-all.ensures in
    let given = c.into_iter-worker-iterator.ensures.into_iter_gives.0 in record {
      rest = rw given c.requires;
      runs = runs_none (g.D.Desk.is_seat c.args.desk.now) g.D.Desk.taken g.D.Desk.has_seen_none (g.W.Work.first_fact c.args.work.now) (g.W.Work.second_fact c.args.work.now) _ _ _ _ empty.0 empty.1 empty.2 empty.3;
      count = rw (empty.0, given) (omega arith);
    }

pub loop-worker-preserved : goal.loop-worker-preserved
loop-worker-preserved g c =
    let P : Worker g.row.D-Seat.Denot g.row.W-Local.Denot g.row.W-Out.Denot → Type 0 = HasRun (g.D.Desk.is_seat c.args.desk.now) g.D.Desk.taken g.D.Desk.has_seen_none (g.W.Work.first_fact c.args.work.now) (g.W.Work.second_fact c.args.work.now) in
    let i = c.loop-worker.invariant in
    let steps = c.in-Some.ensures.steps in
    record {
      rest = tail_are P _ _ _ i.rest steps.0;
      runs = c.in_ok-add.ensures.all;
      count = let was = i.count in let long = ap length steps.0 in let more = c.in_ok-add.ensures.count in omega arith;
    }
