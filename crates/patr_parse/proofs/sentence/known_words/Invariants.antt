use Rattle.std.proofs.Common.{List, ℕ, map, Bor}
use Rattle.patr_parse.proofs.Names.{ids, AreKnownTo}
use Rattle.patr_parse.proofs.sentence.known_words.Given as goal

abbrev pub invariant-loop-place : goal.invariant-loop-place
invariant-loop-place l = AreKnownTo l.library l.symbols (map (λ (w : Bor (List ℕ)). w.now) l.words) l.place (ids l.numbers.items)
