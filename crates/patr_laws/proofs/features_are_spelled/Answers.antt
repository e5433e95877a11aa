use Rattle.patr_laws.proofs.features_are_spelled.Goals as goal
use Rattle.patr_laws.proofs.SpelledLists.{features_are_spelled}

pub returns : goal.returns
returns c = features_are_spelled
