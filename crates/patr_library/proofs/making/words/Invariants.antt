use Rattle.std.proofs.Common.{◌≡◌, map, take, Some}
use Rattle.patr_library.proofs.Names.{word_at}
use Rattle.patr_library.proofs.making.words.Given as goal

abbrev pub invariant-loop-item : goal.invariant-loop-item
invariant-loop-item l = map (λ key. Some key.0) l.keys.items ≡ map (λ i. word_at l.lexicon i.entry) (take l.item-index l.entries)
