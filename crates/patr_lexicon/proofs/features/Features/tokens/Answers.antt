use Rattle.patr_lexicon.proofs.Cuts.{next_cut}
use Rattle.patr_lexicon.proofs.features.Features.tokens.Goals as goal

pub loop-piece-preserved : goal.loop-piece-preserved
loop-piece-preserved c =
    next_cut c.args.text.now c.deref-piece-items.result.now c.loop-piece.piece-index _ c.loop-piece.all.items c.append.new.self.items c.in_ok-tokens.tokens.items c.loop-piece-test.true c.loop-piece.invariant
    c.in_ok-tokens.ensures c.in_ok-append.ensures.items
