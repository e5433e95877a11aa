use Rattle.std.proofs.Common.{◌≡◌, List, ℕ, map, flat_map, Bor}
use Rattle.patr_parse.specs.Words.{between_tabs}
use Rattle.patr_parse.proofs.sentence.words_of.Given as goal

abbrev pub invariant-loop-text : goal.invariant-loop-text
invariant-loop-text l = map (λ (w : Bor (List ℕ)). w.now) l.words.items ≡ flat_map between_tabs (map (λ (w : Bor (List ℕ)). w.now) l.yielded)
