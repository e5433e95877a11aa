use Rattle.std.proofs.Common.{length}
use Rattle.patr_library.proofs.solving.+solved.Given as goal

abbrev pub decreases-solved : goal.decreases-solved
decreases-solved l = length l.equations.now
