use Rattle.std.proofs.Common.{◌≡◌, ◌++◌, List, ℕ, map, Bor}
use Rattle.patr_model.specs.Session.{without_empty}
use Rattle.patr_parse.proofs.sentence.push_words.Given as goal

abbrev pub invariant-loop-word : goal.invariant-loop-word
invariant-loop-word l = map (λ (w : Bor (List ℕ)). w.now) l.words.items ≡ map (λ (w : Bor (List ℕ)). w.now) l.fn.words.items ++ without_empty (map (λ (w : Bor (List ℕ)). w.now) l.yielded)
