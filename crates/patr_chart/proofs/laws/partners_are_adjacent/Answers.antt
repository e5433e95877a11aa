use Rattle.patr_chart.proofs.Partners.{has_partners}
use Rattle.patr_chart.proofs.laws.partners_are_adjacent.Goals as goal

pub returns : goal.returns
returns c = has_partners
