use Rattle.std.proofs.Common.{arith, lit<}
use Rattle.std.proofs.lemmas.Str.Pattern.{starts_char}
use Rattle.patr_shell.proofs.LineReplies.{first_word}
use Rattle.patr_shell.proofs.answer.begins_with_colon.Goals as goal

pub returns-in-len1-up-clause-some : goal.returns-in-len1-up-clause-some
returns-in-len1-up-clause-some c =
    first_word c.args.words.now _ c.starts_with.result (omega (arith, c.in-len1-up.len_at_least)) (starts_char 58 _ c.starts_with.result c.starts_with.ensures.cases (lit< tt) (lit< tt))
