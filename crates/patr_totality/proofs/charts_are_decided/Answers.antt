use Rattle.patr_totality.proofs.charts_are_decided.Goals as goal
use Rattle.patr_totality.proofs.Charts.{decide_chart}

pub returns : goal.returns
returns c = decide_chart
