-- Laws of the definitions, as they are used here.
use Rattle.patr_shell.proofs.Names.{lines_with_commands, stage, built, IgnoresNumbers, HasOneOpening, TablesAreNumbered, stage_openings}
use Rattle.patr_model.proofs.Numberings.{tables_are_numbered}
use Rattle.patr_model.proofs.RenamedRuns.{stage_same}
use Rattle.patr_model.proofs.Shown.{more_same, one_more}

pub one_opening : HasOneOpening built
one_opening = stage_openings stage lines_with_commands

pub numbered_tables : TablesAreNumbered
numbered_tables = tables_are_numbered

pub any_numbering : IgnoresNumbers built
any_numbering = stage_same stage lines_with_commands more_same one_more
