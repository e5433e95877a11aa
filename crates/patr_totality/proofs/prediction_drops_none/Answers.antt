use Rattle.patr_totality.proofs.prediction_drops_none.Goals as goal
use Rattle.patr_totality.proofs.Charts.{drops_none}

pub returns : goal.returns
returns c = drops_none
