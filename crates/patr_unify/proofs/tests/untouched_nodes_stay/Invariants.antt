use Rattle.patr_unify.proofs.tests.untouched_nodes_stay.Given as goal

abbrev pub ghosts-made_of : goal.ghosts-made_of
ghosts-made_of g a = record { name = a.blank.name; parts = a.blank.parts }
