use Rattle.std.proofs.Common.{◌≡◌, [], replicate}
use Rattle.patr_library.proofs.Names.{IsOwnBlock, slot_features}
use Rattle.patr_library.proofs.solving.blank.Given as goal

abbrev pub invariant-loop-slot : goal.invariant-loop-slot
invariant-loop-slot l = (l.block ≡ replicate l.slot []) × IsOwnBlock l.block × (l.arcs.items ≡ slot_features 0 l.slot)
