use Rattle.patr_unify.proofs.tests.one.Goals as goal

pub returns-clause-own : goal.returns-clause-own
returns-clause-own c = c.in_ok-add.ensures.1 c.bare-block.ensures.own
