use Rattle.std.proofs.Common.{◌∙◌, nat_eq, ap}
use Rattle.patr_canon.proofs.Walks.{tasks_more}
use Rattle.patr_canon.proofs.walk.push_arcs.Goals as goal

pub loop-arc-preserved : goal.loop-arc-preserved
loop-arc-preserved c =
    tasks_more c.loop-arc.arcs.items c.pop.new.self.items c.loop-arc.tasks.items c.push.new.self.items c.in-Some.arc c.is_empty.result c.in-Some.ensures.items (c.is_empty.ensures ∙ ap (λ n. nat_eq n 0) c.pop.new.self.ok.0)
    c.in_ok-push.ensures.items
    ∙ c.loop-arc.invariant
