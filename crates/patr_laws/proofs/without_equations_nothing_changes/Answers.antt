use Rattle.patr_laws.proofs.without_equations_nothing_changes.Goals as goal
use Rattle.patr_laws.proofs.PlainReplies.{nothing_changes}

pub returns : goal.returns
returns c = nothing_changes
