use Rattle.std.proofs.Common.{sym}
use Rattle.patr_shell.proofs.LineReplies.{two_others}
use Rattle.patr_shell.proofs.command.command_of_two.Goals as goal

pub returns-in_default-clause-command : goal.returns-in_default-clause-command
returns-in_default-clause-command c = sym (two_others c.args.name.now c.args.value.now c.in_default.not-text c.in_default.not-text-2 c.in_default.not-text-3 c.in_default.not-text-4)
