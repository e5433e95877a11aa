use Rattle.patr_laws.proofs.alternatives_are_rules.Goals as goal
use Rattle.patr_laws.proofs.WrittenOut.{alternatives_are_rules}

pub returns : goal.returns
returns c = alternatives_are_rules
