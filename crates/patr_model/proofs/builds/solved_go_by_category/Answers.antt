use Rattle.patr_model.proofs.builds.solved_go_by_category.Goals as goal
use Rattle.patr_model.proofs.Wholes.{solved_go_by_category}

pub returns : goal.returns
returns c = solved_go_by_category
