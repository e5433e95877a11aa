use Rattle.std.proofs.Common.{rules}
use Rattle.patr_library.proofs.Merged.{word_is}
use Rattle.patr_library.proofs.making.word_of.Goals as goal

pub returns : goal.returns
returns c = search (rules, word_is)
