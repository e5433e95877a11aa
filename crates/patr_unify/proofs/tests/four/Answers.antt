use Rattle.patr_unify.proofs.tests.four.Goals as goal

pub returns-clause-own : goal.returns-clause-own
returns-clause-own c = c.in_ok-add-4.ensures.1 (c.in_ok-add-3.ensures.1 (c.in_ok-add-2.ensures.1 (c.in_ok-add.ensures.1 c.bare-block.ensures.own)))
