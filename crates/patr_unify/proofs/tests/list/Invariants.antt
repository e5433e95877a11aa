use Rattle.std.proofs.Common.{◌≡◌, ◌+◌, length}
use Rattle.patr_arena.specs.Blocks.{OldIsHeld}
use Rattle.patr_arena.specs.Shown.{Shown}
use Rattle.patr_unify.proofs.tests.list.Given as goal

-- the nodes so far, none with old addresses
abbrev pub invariant-loop-below : goal.invariant-loop-below
invariant-loop-below l = record { size : length l.block ≡ l.below + 1; own : (v : Shown) → OldIsHeld v l.block }
