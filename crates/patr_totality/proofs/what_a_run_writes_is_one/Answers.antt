use Rattle.patr_totality.proofs.what_a_run_writes_is_one.Goals as goal
use Rattle.patr_totality.proofs.Runs.{runs_write_one}

pub returns : goal.returns
returns c = runs_write_one
