use Rattle.patr_parse.proofs.tests.sentences_are_parsed.Given as goal

abbrev pub ghosts-outcome : goal.ghosts-outcome
ghosts-outcome g a = record { name = a.blank.name; parts = a.blank.parts }
