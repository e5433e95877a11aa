use Rattle.std.proofs.Common.{take}
use Rattle.patr_lexicon.specs.Entries.{IsListed}
use Rattle.patr_lexicon.proofs.listing.numbers_by_word.Given as goal

abbrev pub invariant-loop-number : goal.invariant-loop-number
invariant-loop-number l = IsListed (take l.number l.entries) l.lists
