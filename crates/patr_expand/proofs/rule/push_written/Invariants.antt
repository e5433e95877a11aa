use Rattle.std.proofs.Common.{◌≡◌, ◌++◌, drop, filter_map, map}
use Rattle.patr_model.specs.Build.{placed_equation}
use Rattle.patr_grammar.specs.Reading.{equation_seen}
use Rattle.patr_expand.specs.Seen.{number, symbols_seen, equations_at}
use Rattle.patr_expand.proofs.rule.push_written.Given as goal

abbrev pub invariant-loop-equation : goal.invariant-loop-equation
invariant-loop-equation l =
    equations_at l.equations.items ++ filter_map (placed_equation number (symbols_seen l.symbols)) (map (λ e. equation_seen e.now) (drop l.equation-index l.written))
    ≡ equations_at l.initial.equations.items ++ filter_map (placed_equation number (symbols_seen l.symbols)) (map (λ e. equation_seen e.now) l.written)
