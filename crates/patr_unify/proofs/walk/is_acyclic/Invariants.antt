use Rattle.std.proofs.Common.{◌+◌, ◌*◌, length}
use Rattle.patr_lists.specs.Numbers.{total, upto}
use Rattle.patr_arena.specs.Shown.{number_of}
use Rattle.patr_scratch.specs.Contents.{KeepsRoom}
use Rattle.patr_unify.specs.Walking.{HasWalked, IsWalkable, unseen_of}
use Rattle.patr_unify.proofs.walk.is_acyclic.Given as goal

abbrev pub invariant-loop-top : goal.invariant-loop-top
invariant-loop-top g l =
    let v = g.N.Nodes.shown l.nodes in
    let at = number_of v l.fn.left.block l.fn.left.offset in
    record {
      walked : (start : IsWalkable v l.fn.scratch at) → HasWalked v l.fn.scratch l.scratch at start l.from;
      room : KeepsRoom l.fn.scratch l.scratch;
    }

abbrev pub decreases-loop-top : goal.decreases-loop-top
decreases-loop-top g l =
    let v = g.N.Nodes.shown l.nodes in
    total (unseen_of v l.scratch) (upto (2 * length v.structure)) + length l.scratch.visits
