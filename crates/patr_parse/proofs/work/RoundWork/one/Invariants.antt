use Rattle.patr_parse.proofs.work.RoundWork.one.Given as goal

abbrev pub ghosts-decide_pairs : goal.ghosts-decide_pairs
ghosts-decide_pairs g a = record { name = a.blank.name; parts = a.blank.parts }
