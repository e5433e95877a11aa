use Rattle.patr_laws.proofs.entries_are_spelled.Goals as goal
use Rattle.patr_laws.proofs.SpelledEntries.{entries_are_spelled}

pub returns : goal.returns
returns c = entries_are_spelled
