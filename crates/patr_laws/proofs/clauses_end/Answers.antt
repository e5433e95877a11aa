use Rattle.patr_laws.proofs.clauses_end.Goals as goal
use Rattle.patr_laws.proofs.ClausesEnd.{clauses_end}

pub returns : goal.returns
returns c = clauses_end
