use Rattle.std.proofs.Common.{◌≤◌, length}
use Rattle.patr_scratch.proofs.tests.a_generation_sees_its_own_marks.Given as goal

abbrev pub invariant-loop-round : goal.invariant-loop-round
invariant-loop-round g l = 4 ≤ length l.scratch.places
