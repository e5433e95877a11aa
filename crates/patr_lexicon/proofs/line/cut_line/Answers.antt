use Rattle.std.proofs.Common.{lit<}
use Rattle.std.proofs.lemmas.Str.Pattern.{split_parts}
use Rattle.patr_lexicon.proofs.Lines.{line_ended, line_last}
use Rattle.patr_lexicon.proofs.line.cut_line.Goals as goal

pub returns-in-Some-clause-lines : goal.returns-in-Some-clause-lines
returns-in-Some-clause-lines c =
    let parts = rw c.in-Some.is at (split_parts 10 c.args.text.now c.split_once.result c.split_once.ensures.cases (lit< tt)) in
    line_ended c.args.text.now c.in-Some.line.now c.in-Some.rest.now parts.0 parts.1

pub returns-in-None-clause-lines : goal.returns-in-None-clause-lines
returns-in-None-clause-lines c =
    let lacks = rw c.in-None.is at (split_parts 10 c.args.text.now c.split_once.result c.split_once.ensures.cases (lit< tt)) in
    line_last c.args.text.now lacks

pub returns-in-Some-clause-no_lf : goal.returns-in-Some-clause-no_lf
returns-in-Some-clause-no_lf c = (rw c.in-Some.is at (split_parts 10 c.args.text.now c.split_once.result c.split_once.ensures.cases (lit< tt))).1

pub returns-in-None-clause-no_lf : goal.returns-in-None-clause-no_lf
returns-in-None-clause-no_lf c = rw c.in-None.is at (split_parts 10 c.args.text.now c.split_once.result c.split_once.ensures.cases (lit< tt))
