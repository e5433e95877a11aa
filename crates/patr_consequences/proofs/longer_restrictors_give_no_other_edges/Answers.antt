use Rattle.patr_consequences.proofs.longer_restrictors_give_no_other_edges.Goals as goal
use Rattle.patr_consequences.proofs.Restrictors.{no_other_edges}

pub returns : goal.returns
returns c = no_other_edges
