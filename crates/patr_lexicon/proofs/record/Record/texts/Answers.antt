use Rattle.std.proofs.Common.{refl, ap}
use Rattle.patr_lexicon.proofs.Names.{NoWord, SeveralWords, NoCategory, words_seen, record_seen}
use Rattle.patr_lexicon.proofs.States.{closed_empty, closed_several, closed_other, not_one}
use Rattle.patr_lexicon.proofs.record.Record.texts.Goals as goal

pub returns-in-Empty : goal.returns-in-Empty
returns-in-Empty c =
    let o = record_seen c.args.self.now in
    (NoWord o.line, refl, closed_empty o (ap words_seen c.in-Empty.is))

pub returns-in-Several : goal.returns-in-Several
returns-in-Several c =
    let o = record_seen c.args.self.now in
    (SeveralWords o.line, refl, closed_several o (ap words_seen c.in-Several.is))

pub returns-in_default : goal.returns-in_default
returns-in_default c =
    let o = record_seen c.args.self.now in
    (NoCategory o.line, refl, closed_other o c.in-One.word.now (ap words_seen c.in-One.is) (not_one c.args.self.now.category c.in_default.not-One))
