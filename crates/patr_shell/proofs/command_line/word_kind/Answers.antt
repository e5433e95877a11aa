use Rattle.std.proofs.Common.{◌∙◌}
use Rattle.patr_shell.proofs.CommandLine.{kind_of_others}
use Rattle.patr_shell.proofs.command_line.word_kind.Goals as goal

pub returns-in_default : goal.returns-in_default
returns-in_default c = c.other_kind.ensures ∙ kind_of_others c.args.word.now c.in_default.not-text c.in_default.not-text-2 c.in_default.not-text-3
