use Rattle.std.proofs.Common.{◌-◌, length}
use Rattle.patr_canon.proofs.Names.{IsWalking, events, look_of, tree_of, value_of}
use Rattle.patr_canon.proofs.walk.walked.Given as goal

-- what was met, and then what is left, is all of the value
abbrev pub invariant-loop-task : goal.invariant-loop-task
invariant-loop-task g l =
    let v = g.N.Nodes.shown l.nodes in
    IsWalking v l.look (events (tree_of (look_of l.look) v.structure (value_of v l.fn.value))) l.walk.done l.walk.events.items l.walk.tasks.items

-- how much is left to meet
abbrev pub decreases-loop-task : goal.decreases-loop-task
decreases-loop-task g l =
    let v = g.N.Nodes.shown l.nodes in
    length (events (tree_of (look_of l.look) v.structure (value_of v l.fn.value))) - length l.walk.events.items
