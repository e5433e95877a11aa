use Rattle.patr_laws.proofs.grammars_are_spelled.Goals as goal
use Rattle.patr_laws.proofs.SpelledGrammars.{grammars_are_spelled}

pub returns : goal.returns
returns c = grammars_are_spelled
