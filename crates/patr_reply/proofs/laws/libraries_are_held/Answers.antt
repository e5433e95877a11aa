use Rattle.patr_reply.proofs.Reading.{libraries_are_held}
use Rattle.patr_reply.proofs.laws.libraries_are_held.Goals as goal

pub returns : goal.returns
returns c = libraries_are_held
