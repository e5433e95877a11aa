use Rattle.patr_consequences.proofs.some_restrictor_drops_an_edge.Goals as goal
use Rattle.patr_consequences.proofs.Falls.{falls}

pub returns : goal.returns
returns c = falls
