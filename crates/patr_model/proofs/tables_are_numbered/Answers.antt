use Rattle.patr_model.proofs.tables_are_numbered.Goals as goal
use Rattle.patr_model.proofs.Numberings.{tables_are_numbered}

pub returns : goal.returns
returns c = tables_are_numbered
