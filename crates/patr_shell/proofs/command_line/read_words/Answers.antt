use Rattle.std.proofs.Common.{[], Some, string_bytes, sym, ap, ◌∙◌}
use Rattle.patr_shell.specs.Words.{said_in_all}
use Rattle.patr_shell.proofs.CommandLine.{ends, ends_without_value, takes, no_words_left}
use Rattle.patr_shell.proofs.command_line.read_words.Goals as goal

pub returns-in-None : goal.returns-in-None
returns-in-None c =
    takes string_bytes c.args.words.now _ _ _ c.loop-word-test.true c.word-item.is c.as_str.ensures.value c.loop-word.said c.take.new.self c.loop-word.next _ _ _ c.in-None.is c.in_ok-after.ensures c.loop-word.invariant

pub loop-word-preserved : goal.loop-word-preserved
loop-word-preserved c =
    takes string_bytes c.args.words.now _ _ _ c.loop-word-test.true c.word-item.is c.as_str.ensures.value c.loop-word.said c.take.new.self c.loop-word.next _ _ _ c.in-Some.is c.in_ok-after.ensures c.loop-word.invariant

pub returns-in-Value : goal.returns-in-Value
returns-in-Value c =
    let left = no_words_left string_bytes c.args.words.now c.loop-word.word-index c.loop-word-test.false in
    sym (ends_without_value c.loop-word.said c.in-Value.field-0)
    ∙ (ap (λ next. said_in_all c.loop-word.said (Some next) []) (sym c.in-Value.is) ∙ (ap (said_in_all c.loop-word.said (Some c.loop-word.next)) (sym left) ∙ c.loop-word.invariant))

pub returns : goal.returns
returns c =
    let left = no_words_left string_bytes c.args.words.now c.loop-word.word-index c.loop-word-test.false in
    sym (ends c.loop-word.said c.loop-word.next c.in_default.not-Value) ∙ (ap (said_in_all c.loop-word.said (Some c.loop-word.next)) (sym left) ∙ c.loop-word.invariant)
