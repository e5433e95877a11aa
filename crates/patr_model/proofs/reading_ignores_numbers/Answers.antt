use Rattle.patr_model.proofs.reading_ignores_numbers.Goals as goal
use Rattle.patr_model.proofs.Agreeing.{numbers_read}

pub returns : goal.returns
returns c = numbers_read
