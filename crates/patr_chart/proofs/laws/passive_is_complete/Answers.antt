use Rattle.patr_chart.proofs.Shown.{is_judged}
use Rattle.patr_chart.proofs.laws.passive_is_complete.Goals as goal

pub returns : goal.returns
returns c = λ g words es all fit k e at. is_judged words es all g fit k e at
