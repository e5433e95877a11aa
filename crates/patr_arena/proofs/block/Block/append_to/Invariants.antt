use Rattle.std.proofs.Common.{◌≡◌, ◌+◌, ◌≤◌, ◌++◌, length, take, vec_capacity}
use Rattle.patr_arena.proofs.Cutting.{shifted}
use Rattle.patr_arena.proofs.block.Block.append_to.Given as goal

-- the ends of the nodes so far were put behind the others
abbrev pub invariant-loop-end : goal.invariant-loop-end
invariant-loop-end l = record {
  ends : l.ends.items ≡ l.initial.ends.items ++ shifted l.before (take l.end-index l.end-items);
  room : length l.initial.ends.items + length l.end-items ≤ vec_capacity l.ends;
}
