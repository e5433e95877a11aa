use Rattle.std.proofs.Common.{◌≡◌, ◌++◌, take, drop}
use Rattle.patr_model.specs.Lexemes.{after_first, without_index}
use Rattle.patr_grammar.proofs.words.without_index.Given as goal

abbrev pub invariant-loop-place : goal.invariant-loop-place
invariant-loop-place l = take l.place l.text ++ after_first (drop l.place l.text) ≡ without_index l.text
