use Rattle.std.proofs.Common.{length, ◌≤◌}
use Rattle.patr_library.proofs.Names.{shown_of, value_of}
use Rattle.patr_library.proofs.Marking.{IsMarking}
use Rattle.patr_library.proofs.copying.reached_from.Given as goal

abbrev pub invariant-loop-left : goal.invariant-loop-left
invariant-loop-left l = IsMarking (shown_of l.arena).structure (value_of (shown_of l.arena) l.fn.from) l.left l.reached.items × (l.left ≤ length l.places)

abbrev pub decreases-loop-left : goal.decreases-loop-left
decreases-loop-left l = l.left
