use Rattle.patr_pool.proofs.MoreRuns.{runs_more}
use Rattle.patr_pool.proofs.gathered.add.Goals as goal

pub returns-clause-all : goal.returns-clause-all
returns-clause-all g c =
    rw (c.in_ok-push.ensures.items, c.in_ok-push-2.ensures.items, c.in_ok-append.ensures.items, c.either-all.ensures)
    (runs_more (g.D.Desk.is_seat c.args.desk.now) g.D.Desk.taken g.D.Desk.has_seen_none (g.W.Work.first_fact c.args.work.now) (g.W.Work.second_fact c.args.work.now) c.args.ran _ _ _ _ c.requires.ran c.requires.all)
