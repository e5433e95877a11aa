use Rattle.patr_unify.proofs.tests.unifiers_are_least.Given as goal

abbrev pub ghosts-are_so : goal.ghosts-are_so
ghosts-are_so g a = record { name = a.blank.name; parts = a.blank.parts }
