use Rattle.patr_chart.proofs.Shown.{is_tree}
use Rattle.patr_chart.proofs.laws.trees_are_made.Goals as goal

pub returns : goal.returns
returns c = λ words es k e all at. is_tree words es all k e at
