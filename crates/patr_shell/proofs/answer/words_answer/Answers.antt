use Rattle.std.proofs.Common.{map, Bor, List, ℕ}
use Rattle.patr_shell.proofs.Names.{IfOk-weaker, IsAnswerToCommand, IsAnswerToWords}
use Rattle.patr_shell.proofs.LineReplies.{no_words, sentence_answer, bad_answer, command_answers}
use Rattle.patr_shell.proofs.answer.words_answer.Goals as goal

pub returns-in_default-clause-answer : goal.returns-in_default-clause-answer
returns-in_default-clause-answer g c = no_words c.args.language.now c.args.state _ _ c.in_default.ensures.none c.new-text.ensures.bytes

pub returns-then-not-colon-clause-answer : goal.returns-then-not-colon-clause-answer
returns-then-not-colon-clause-answer g c = sentence_answer c.args.language.now c.args.state _ _ _ c.in-Some.ensures.some c.if-not-colon.true c.in_ok-text.ensures

pub returns-in-Some-command_of-clause-answer : goal.returns-in-Some-command_of-clause-answer
returns-in-Some-command_of-clause-answer g c =
    let words = map (λ (w : Bor (List ℕ)). w.now) c.args.words.now in
    IfOk-weaker c.command_answer.result (IsAnswerToCommand c.args.language.now c.args.state c.in-Some-command_of.command) (IsAnswerToWords c.args.language.now c.args.state words)
    (λ a h. command_answers c.args.language.now c.args.state words c.in-Some-command_of.command a c.in-Some-command_of.ensures.command h) c.command_answer.ensures.answer

pub returns-in_ok-text-in-None-clause-answer : goal.returns-in_ok-text-in-None-clause-answer
returns-in_ok-text-in-None-clause-answer g c = bad_answer c.args.language.now c.args.state _ _ _ c.in-Some.ensures.some c.if-not-colon.false c.in-None.ensures.command c.in_ok-text-in-None.ensures.ok
