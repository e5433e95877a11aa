use Rattle.std.proofs.Common.{◌≤◌, drop, length}
use Rattle.patr_library.proofs.Names.{ids, IsLedTo}
use Rattle.patr_library.proofs.stating.lead.Given as goal

abbrev pub invariant-loop-left : goal.invariant-loop-left
invariant-loop-left l = IsLedTo l.initial.block l.initial.root (ids (drop l.left l.path)) l.block l.root × (l.left ≤ length l.path)

abbrev pub decreases-loop-left : goal.decreases-loop-left
decreases-loop-left l = l.left
