use Rattle.patr_laws.proofs.builds_are_bare.Goals as goal
use Rattle.patr_laws.proofs.BareBuilds.{builds_are_bare}

pub returns : goal.returns
returns c = builds_are_bare
