use Rattle.std.proofs.Common.{take}
use Rattle.patr_expand.specs.Seen.{meant}
use Rattle.patr_expand.specs.Written.{IsMeasured}
use Rattle.patr_expand.proofs.Behind.{none_in}
use Rattle.patr_expand.proofs.templates.Templates.new.Given as goal

abbrev pub invariant-loop-template : goal.invariant-loop-template
invariant-loop-template l = record {
  measured : IsMeasured (meant (take l.template-index l.templates.items)) l.measured;
  none : none_in (take l.template-index l.templates.items);
}
