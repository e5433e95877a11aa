use Rattle.patr_parse.proofs.tests.long_sentences_are_refused.Given as goal

abbrev pub ghosts-outcome : goal.ghosts-outcome
ghosts-outcome g a = record { name = a.blank.name; parts = a.blank.parts }
