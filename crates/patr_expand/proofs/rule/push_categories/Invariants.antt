use Rattle.std.proofs.Common.{◌≡◌, ◌++◌, drop}
use Rattle.patr_model.specs.Build as written
use Rattle.patr_expand.specs.Seen.{number, cat, symbols_seen, equations_at}
use Rattle.patr_expand.proofs.rule.push_categories.Given as goal

abbrev pub invariant-loop-slot : goal.invariant-loop-slot
invariant-loop-slot l = equations_at l.equations.items ++ written.category_equations number cat l.slot (symbols_seen (drop l.slot l.symbols)) ≡ equations_at l.initial.equations.items ++ written.category_equations number cat 0 (symbols_seen l.symbols)
