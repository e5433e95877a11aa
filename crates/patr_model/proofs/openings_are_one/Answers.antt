use Rattle.patr_model.specs.Notations.{lines_with_commands}
use Rattle.patr_model.proofs.openings_are_one.Goals as goal
use Rattle.patr_model.proofs.OneRun.{stage_openings}

pub returns : goal.returns
returns c = λ stage. stage_openings stage lines_with_commands
