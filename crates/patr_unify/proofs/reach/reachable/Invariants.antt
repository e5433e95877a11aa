use Rattle.std.proofs.Common.{◌+◌, length}
use Rattle.patr_arena.specs.Shown.{value_of}
use Rattle.patr_scratch.specs.Contents.{KeepsRoom}
use Rattle.patr_unify.specs.Counting.{IsCounting, ValuesHeld, seen_in, unseen_arcs}
use Rattle.patr_unify.proofs.reach.reachable.Given as goal

-- what was counted so far
abbrev pub invariant-loop-value : goal.invariant-loop-value
invariant-loop-value g l =
    let v = g.N.Nodes.shown l.nodes in
    record {
      counting : IsCounting v (seen_in l.scratch) (value_of v l.fn.from) l.waiting.items l.reach;
      held : ValuesHeld v l.waiting.items;
      room : KeepsRoom l.fn.scratch l.scratch;
    }

-- the values that wait, and the arcs of the nodes that were not seen
abbrev pub decreases-loop-value : goal.decreases-loop-value
decreases-loop-value g l = length l.waiting.items + unseen_arcs (g.N.Nodes.shown l.nodes) (seen_in l.scratch)
