use Rattle.patr_laws.proofs.rules_are_spelled.Goals as goal
use Rattle.patr_laws.proofs.SpelledRules.{rules_are_spelled}

pub returns : goal.returns
returns c = rules_are_spelled
