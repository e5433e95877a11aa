use Rattle.std.proofs.Common.{ℕ, List, map, sym, subst}
use Rattle.patr_claims.specs.Tasks.{NoneFrom, EachBelow}
use Rattle.patr_pool.proofs.MoreRuns.{yields_below, round_of}
use Rattle.patr_pool.proofs.round.finish.Goals as goal

pub rising-requires-clause-below : goal.rising-requires-clause-below
rising-requires-clause-below g c κs within =
    let lists : List (List ℕ) = map g.D.Desk.taken c.args.all.seats.items in
    yields_below c.args.of c.args.all.yields.items lists c.requires.runs.yielded.among (subst (λ (n : ℕ). NoneFrom n lists) (sym c.requires.tasks) c.close-lists.ensures.no_other)

pub returns : goal.returns
returns g c =
    let lists : List (List ℕ) = map g.D.Desk.taken c.args.all.seats.items in
    let closed = c.close-lists.ensures in
    let tasks = sym c.requires.tasks in
    round_of (g.D.Desk.is_seat c.args.desk) g.D.Desk.taken g.D.Desk.has_seen_none (g.W.Work.first_fact c.args.work.now) (g.W.Work.second_fact c.args.work.now) c.args.of c.args.all.seats.items c.args.all.yields.items _ c.requires.runs closed.lists c.in_ok-yields.ensures
    closed.once (subst (λ (n : ℕ). NoneFrom n lists) tasks closed.no_other) (λ each. subst (λ (n : ℕ). EachBelow n lists) tasks (closed.every each))
