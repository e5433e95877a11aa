use Rattle.std.proofs.Common.{sym}
use Rattle.patr_shell.proofs.LineReplies.{one_other}
use Rattle.patr_shell.proofs.command.command_of_one.Goals as goal

pub returns-in_default-clause-command : goal.returns-in_default-clause-command
returns-in_default-clause-command c = sym (one_other c.args.name.now c.in_default.not-text)
