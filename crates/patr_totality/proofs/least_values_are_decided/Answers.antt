use Rattle.patr_totality.proofs.least_values_are_decided.Goals as goal
use Rattle.patr_totality.proofs.Least.{decide_least}

pub returns : goal.returns
returns c = decide_least
