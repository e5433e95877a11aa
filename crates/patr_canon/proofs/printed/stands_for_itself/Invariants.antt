use Rattle.std.proofs.Common.{◌≡◌, false, length}
use Rattle.patr_model.specs.Text.{goes_on}
use Rattle.patr_canon.proofs.printed.stands_for_itself.Given as goal

abbrev pub invariant-loop-left : goal.invariant-loop-left
invariant-loop-left l = goes_on l.after l.left ≡ goes_on false l.text

abbrev pub decreases-loop-left : goal.decreases-loop-left
decreases-loop-left l = length l.left
