use Rattle.std.proofs.Common.{sym, ◌∙◌}
use Rattle.patr_model.specs.Lexemes.{without_index}
use Rattle.patr_grammar.proofs.Texts.{walk_goes_on}
use Rattle.patr_grammar.proofs.words.without_index.Goals as goal

pub loop-place-preserved : goal.loop-place-preserved
loop-place-preserved c =
    let same = c.as_bytes-bytes.ensures.value in
    walk_goes_on c.args.text.now (without_index c.args.text.now) c.loop-place.place
    (rw (← same) c.loop-place-test.true)
    (rw (← same) (sym c.is_index.ensures ∙ c.if-is_index.false))
    c.loop-place.invariant
