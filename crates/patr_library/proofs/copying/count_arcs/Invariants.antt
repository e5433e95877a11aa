use Rattle.std.proofs.Common.{◌≡◌, take, length}
use Rattle.patr_library.proofs.Names.{sum_by}
use Rattle.patr_library.proofs.copying.count_arcs.Given as goal

abbrev pub invariant-loop-offset : goal.invariant-loop-offset
invariant-loop-offset l = l.arcs ≡ sum_by length (take l.offset l.block)
