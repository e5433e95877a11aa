use Rattle.patr_laws.proofs.paths_are_spelled.Goals as goal
use Rattle.patr_laws.proofs.Spelled.{paths_are_spelled}

pub returns : goal.returns
returns c = paths_are_spelled
