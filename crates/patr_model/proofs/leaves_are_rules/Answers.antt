use Rattle.patr_model.proofs.leaves_are_rules.Goals as goal
use Rattle.patr_model.proofs.Leaves.{leaves_are_rules}

pub returns : goal.returns
returns c = leaves_are_rules
