use Rattle.patr_library.proofs.workspace.Workspace.unify.Given as goal

abbrev pub ghosts-unifier : goal.ghosts-unifier
ghosts-unifier a = record { name = a.blank.name; parts = a.blank.parts }
