use Rattle.std.proofs.Common.{◌≡◌, map, take}
use Rattle.patr_model.specs.Build.{feature_equation}
use Rattle.patr_grammar.specs.Levels.{equation_seen}
use Rattle.patr_expand.specs.Seen.{equations_at, number}
use Rattle.patr_expand.proofs.features.feature_equations.Given as goal

abbrev pub invariant-loop-equation : goal.invariant-loop-equation
invariant-loop-equation l = equations_at l.found.items ≡ map (λ e. feature_equation number (equation_seen e.now)) (take l.equation-index l.written)
