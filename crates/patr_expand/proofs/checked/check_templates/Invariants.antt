use Rattle.std.proofs.Common.{take}
use Rattle.patr_expand.proofs.Behind.{none_in}
use Rattle.patr_expand.proofs.checked.check_templates.Given as goal

abbrev pub invariant-loop-number : goal.invariant-loop-number
invariant-loop-number l = none_in (take l.number l.templates.items)
