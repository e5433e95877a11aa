-- The notations that are built, as a run reads them: rules and entries with path equations, templates, options and alternatives, sentences, and the commands of a session as far as they are built.
use Rattle.patr_model.specs.Run.{Notations}
use Rattle.patr_model.specs.Stages.{Stage, with_groups}
use Rattle.patr_model.specs.Notations.{lines_with_commands, notations}

-- the forms that are built
abbrev pub stage : Stage
stage = with_groups

-- the notations at this stage
abbrev pub built : Notations
built = notations stage lines_with_commands
