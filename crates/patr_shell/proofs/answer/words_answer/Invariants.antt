use Rattle.patr_shell.proofs.answer.words_answer.Given as goal

abbrev pub ghosts-sentence_reply : goal.ghosts-sentence_reply
ghosts-sentence_reply g a = record { name = a.blank.name; parts = a.blank.parts }
