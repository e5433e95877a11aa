use Rattle.std.proofs.Common.{ap}
use Rattle.patr_claims.proofs.CounterSteps.{ended}
use Rattle.patr_claims.proofs.counter.Gathered.close.Goals as goal

pub returns-clause-once : goal.returns-clause-once
returns-clause-once c = (ended _ _ _ _ _ _ _ _ _ (ap (λ m. m.0) c.args.self.knows) c.requires.all c.close_with.ensures.values.2).0

pub returns-clause-every : goal.returns-clause-every
returns-clause-every c = (ended _ _ _ _ _ _ _ _ _ (ap (λ m. m.0) c.args.self.knows) c.requires.all c.close_with.ensures.values.2).2

pub returns-clause-no_other : goal.returns-clause-no_other
returns-clause-no_other c = (ended _ _ _ _ _ _ _ _ _ (ap (λ m. m.0) c.args.self.knows) c.requires.all c.close_with.ensures.values.2).1
