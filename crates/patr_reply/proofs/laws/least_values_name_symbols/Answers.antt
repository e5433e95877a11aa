use Rattle.patr_reply.proofs.laws.least_values_name_symbols.Goals as goal
use Rattle.patr_reply.proofs.Naming.{least_values_name_symbols}

pub returns : goal.returns
returns c = least_values_name_symbols
