use Rattle.std.proofs.Common.{[]}
use Rattle.patr_model.proofs.builds.following_is_category.Goals as goal
use Rattle.patr_model.proofs.PlainChart.{follows, plainly}

pub returns : goal.returns
returns c = λ g cat has restrictor a r k i rule part q A v la B w lb.
    (plainly g cat has restrictor [] a r k i part (rule, q), follows g cat has restrictor [] a r k i part (rule, q) A v la B w lb)
