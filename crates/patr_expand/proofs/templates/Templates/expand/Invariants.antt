use Rattle.std.proofs.Common.{◌≡◌, map, take}
use Rattle.patr_model.specs.Build.{feature_equation}
use Rattle.patr_model.specs.Grammar.{single, variants}
use Rattle.patr_expand.specs.Meant.{meant_by}
use Rattle.patr_expand.specs.Seen.{lists_at, number}
use Rattle.patr_expand.specs.Written.{written}
use Rattle.patr_expand.proofs.templates.Templates.expand.Given as goal

abbrev pub invariant-loop-number : goal.invariant-loop-number
invariant-loop-number l = lists_at l.found.items ≡ map (map (feature_equation number)) (take l.number (variants single (written (meant_by l.self) l.features)))
