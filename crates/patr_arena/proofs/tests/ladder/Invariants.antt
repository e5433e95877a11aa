use Rattle.std.proofs.Common.{◌≡◌, ◌+◌, length}
use Rattle.patr_arena.specs.Blocks.{OldIsHeld}
use Rattle.patr_arena.specs.Shown.{Shown}
use Rattle.patr_arena.proofs.tests.ladder.Given as goal

-- the nodes so far, none with old addresses
abbrev pub invariant-loop-last : goal.invariant-loop-last
invariant-loop-last l = record { size : length l.block ≡ l.last + 1; own : (v : Shown) → OldIsHeld v l.block }
