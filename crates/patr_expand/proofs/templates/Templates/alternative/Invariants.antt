use Rattle.std.proofs.Common.{drop}
use Rattle.patr_expand.specs.Meant.{meant_by}
use Rattle.patr_expand.specs.Written.{choice_written}
use Rattle.patr_expand.proofs.Rests.{IsRest}
use Rattle.patr_expand.proofs.templates.Templates.alternative.Given as goal

abbrev pub invariant-loop-alternative : goal.invariant-loop-alternative
invariant-loop-alternative l =
    let ms = meant_by l.self in
    IsRest (choice_written ms l.alternatives) l.fn.number (choice_written ms (drop l.alternative-index l.alternatives)) l.number
