use Rattle.std.proofs.Common.{rules}
use Rattle.patr_shell.proofs.Ends.{without_cr_is}
use Rattle.patr_shell.proofs.session.trim.Goals as goal

pub returns-in-13 : goal.returns-in-13
returns-in-13 c = rw (without_cr_is c.args.line.now) (search rules)

pub returns-in_default-2 : goal.returns-in_default-2
returns-in_default-2 c = rw (without_cr_is c.args.line.now) (search rules)
