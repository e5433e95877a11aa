use Rattle.std.proofs.Common.{◌+◌, ◌-◌, length}
use Rattle.patr_unify.proofs.clash.atoms_differ.Given as goal

abbrev pub decreases-loop-i : goal.decreases-loop-i
decreases-loop-i g l = (length l.ones + length l.others) - (l.i + l.j)
