use Rattle.patr_laws.proofs.equations_are_spelled.Goals as goal
use Rattle.patr_laws.proofs.Spelled.{equations_are_spelled}

pub returns : goal.returns
returns c = equations_are_spelled
