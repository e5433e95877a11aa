use Rattle.patr_chart.proofs.Ordered.{are_ordered}
use Rattle.patr_chart.proofs.laws.keys_are_ordered.Goals as goal

pub returns : goal.returns
returns c = are_ordered
