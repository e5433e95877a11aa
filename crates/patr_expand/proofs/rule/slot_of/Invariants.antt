use Rattle.std.proofs.Common.{◌≡◌, drop, ◌+◌}
use Rattle.std.specs.Option.{option_map}
use Rattle.patr_model.specs.Build as written
use Rattle.patr_expand.specs.Seen.{number, symbols_seen}
use Rattle.patr_expand.proofs.rule.slot_of.Given as goal

abbrev pub invariant-loop-slot : goal.invariant-loop-slot
invariant-loop-slot l = written.slot_of number (symbols_seen l.symbols) l.symbol.0 ≡ option_map (λ n. l.slot + n) (written.slot_of number (symbols_seen (drop l.slot l.symbols)) l.symbol.0)
