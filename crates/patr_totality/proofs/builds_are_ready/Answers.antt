use Rattle.patr_totality.proofs.builds_are_ready.Goals as goal
use Rattle.patr_totality.proofs.Ready.{builds_are_ready}

pub returns : goal.returns
returns c = builds_are_ready
