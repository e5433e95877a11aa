use Rattle.std.proofs.Common.{◌∙◌, arith}
use Rattle.patr_lexicon.proofs.Listed.{list_more}
use Rattle.patr_lexicon.proofs.listing.numbers_by_word.Goals as goal

pub loop-number-preserved : goal.loop-number-preserved
loop-number-preserved c = λ w.
    list_more w c.loop-number.number c.args.entries.now c.index-entries-number.result c.grow.new.self c.put.new.self (omega (arith, c.loop-number-test.true)) c.index-entries-number.is c.in_ok-grow.ensures.long
    (rw c.if-not-put.false at c.put.ensures) (c.in_ok-grow.ensures.same w ∙ c.loop-number.invariant w)
