use Rattle.patr_unify.proofs.tests.exact_room_suffices.Given as goal

abbrev pub ghosts-decide_within : goal.ghosts-decide_within
ghosts-decide_within g a = record { name = a.blank.name; parts = a.blank.parts }
