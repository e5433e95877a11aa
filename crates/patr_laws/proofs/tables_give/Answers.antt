use Rattle.patr_laws.proofs.tables_give.Goals as goal
use Rattle.patr_laws.proofs.Table.{gives}

pub returns : goal.returns
returns c = λ table order. gives table order
