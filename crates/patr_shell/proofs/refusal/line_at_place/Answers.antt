use Rattle.std.proofs.Common.{rules, append_assoc}
use Rattle.patr_shell.proofs.refusal.line_at_place.Goals as goal

pub returns : goal.returns
returns c = search (rules, append_assoc)
