use Rattle.patr_model.proofs.builds.builds_ignore_numbers.Goals as goal
use Rattle.patr_model.proofs.SameBuilds.{same_grounds}

pub returns : goal.returns
returns c = same_grounds
