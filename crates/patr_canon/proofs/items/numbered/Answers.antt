use Rattle.patr_canon.proofs.ItemFronts.{number_opening, number_again}
use Rattle.patr_canon.proofs.items.numbered.Goals as goal

pub returns-in-Some : goal.returns-in-Some
returns-in-Some c = number_opening c.args.text.now c.in_ok-number.rest.now c.in-Some.rest.now c.in_ok-number.number c.in_ok-number.ensures.0 c.in-Some.ensures.rest

pub returns-in-None : goal.returns-in-None
returns-in-None c = number_again c.args.text.now c.in_ok-number.rest.now c.in_ok-number.number c.in_ok-number.ensures.0 c.in-None.ensures.rest
