use Rattle.std.proofs.Common.{◌≡◌, Some, None, map, drop, string_bytes}
use Rattle.patr_shell.proofs.Names.{said, said_in_all}
use Rattle.patr_shell.proofs.command_line.read_words.Given as goal

abbrev pub invariant-loop-word : goal.invariant-loop-word
invariant-loop-word l = said_in_all l.said (Some l.next) (drop l.word-index (map string_bytes l.words)) ≡ said None (map string_bytes l.words)
