use Rattle.std.proofs.Common.{sym}
use Rattle.patr_shell.proofs.LineReplies.{switch_others}
use Rattle.patr_shell.proofs.command.switch.Goals as goal

pub returns-in_default : goal.returns-in_default
returns-in_default c = sym (switch_others c.args.word.now c.in_default.not-on c.in_default.not-off)
