use Rattle.patr_model.specs.Plain.{plain}
use Rattle.patr_model.specs.Solved.{solved}
use Rattle.patr_laws.proofs.chart_is_licensed.Goals as goal
use Rattle.patr_laws.proofs.Licensed.{has_list, in_list}

pub returns : goal.returns
returns c = record {
  of_solved = λ g cat ws t. record { has_list = has_list (solved g cat) g ws t; in_list = λ ts. in_list (solved g cat) g ws ts t };
  of_plain = λ g ws t. record { has_list = has_list (plain g) g ws t; in_list = λ ts. in_list (plain g) g ws ts t };
}
