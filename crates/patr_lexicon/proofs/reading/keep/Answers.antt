use Rattle.patr_lexicon.proofs.Steps.{none_kept, one_kept}
use Rattle.patr_lexicon.proofs.reading.keep.Goals as goal

pub returns-in_default-clause-kept : goal.returns-in_default-clause-kept
returns-in_default-clause-kept c = rw c.in_default.is (none_kept c.args.symbols.now c.args.entries.now.items)

pub returns-clause-kept : goal.returns-clause-kept
returns-clause-kept c =
    let read = c.in_ok-entry.ensures.reads in
    rw c.in-Some.is (one_kept c.entry.new.symbols c.args.entries.now.items c.push.new.self.items c.in-Some.record c.in_ok-entry.entry read.0 c.in_ok-push.ensures.items read.1 read.2)
