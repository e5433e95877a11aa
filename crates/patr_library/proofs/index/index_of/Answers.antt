use Rattle.std.proofs.Common.{◌∙◌, arith}
use Rattle.patr_library.proofs.Merged.{index_next}
use Rattle.patr_library.proofs.index.index_of.Goals as goal

pub loop-place-preserved : goal.loop-place-preserved
loop-place-preserved c =
    λ s. index_next c.args.keys.now c.loop-place.place _ c.grow.new.self c.put.new.self s (omega (arith, c.loop-place-test.true)) c.in_ok-grow.ensures.long
    (rw c.if-not-put.false at c.put.ensures) (c.grow.ensures.same s ∙ c.loop-place.invariant s)
