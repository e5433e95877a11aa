use Rattle.patr_model.proofs.builds.builds_state_categories.Goals as goal
use Rattle.patr_model.proofs.StatedCategories.{are_built}

pub returns : goal.returns
returns c = record { by_texts = are_built; by_numbers = are_built }
