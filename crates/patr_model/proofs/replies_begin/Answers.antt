use Rattle.patr_model.specs.Solved.{solved}
use Rattle.patr_model.specs.Notations.{lines_with_commands}
use Rattle.patr_model.proofs.replies_begin.Goals as goal
use Rattle.patr_model.proofs.Canonical.{least_texts}
use Rattle.patr_model.proofs.Lines.{replies_begin}
use Rattle.patr_model.proofs.Shown.{one_more}

pub returns : goal.returns
returns c = λ s. replies_begin solved lines_with_commands s (least_texts s) (one_more s)
