use Rattle.patr_totality.proofs.plain_charts_are_solved.Goals as goal
use Rattle.patr_totality.proofs.Charts.{plain_charts}

pub returns : goal.returns
returns c = plain_charts
