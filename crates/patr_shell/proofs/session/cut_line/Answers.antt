use Rattle.std.proofs.Common.{sym}
use Rattle.patr_shell.proofs.Ends.{free_at, free_of_none, cut_at_feed}
use Rattle.patr_shell.proofs.session.cut_line.Goals as goal

pub returns-in-None-clause-none : goal.returns-in-None-clause-none
returns-in-None-clause-none c = free_of_none c.args.bytes.now (sym c.in-None.ensures)

pub returns-in-Some-clause-free : goal.returns-in-Some-clause-free
returns-in-Some-clause-free c = free_at c.args.bytes.now c.in-Some.end (sym c.in-Some.ensures)

pub returns-in-Some-clause-cut : goal.returns-in-Some-clause-cut
returns-in-Some-clause-cut c = cut_at_feed c.args.bytes.now c.in-Some.end (sym c.in-Some.ensures)
