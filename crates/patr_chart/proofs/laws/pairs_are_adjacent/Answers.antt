use Rattle.patr_chart.proofs.Shown.{pairs_are}
use Rattle.patr_chart.proofs.laws.pairs_are_adjacent.Goals as goal

pub returns : goal.returns
returns c = λ g words es all fit k l a p at_k at_l. pairs_are words es all g fit k l a p at_k at_l
