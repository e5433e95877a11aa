use Rattle.std.proofs.Common.{◌≡◌, ◌++◌, reverse, true, vec_len}
use Rattle.patr_canon.specs.Walks.{arc_tasks}
use Rattle.patr_canon.proofs.walk.push_arcs.Given as goal

-- the arcs that are left, and then the tasks so far
abbrev pub invariant-loop-arc : goal.invariant-loop-arc
invariant-loop-arc l = arc_tasks true l.arcs.items ++ reverse l.tasks.items ≡ arc_tasks true l.fn.arcs.items ++ reverse l.fn.tasks.items

abbrev pub decreases-loop-arc : goal.decreases-loop-arc
decreases-loop-arc l = vec_len l.arcs
