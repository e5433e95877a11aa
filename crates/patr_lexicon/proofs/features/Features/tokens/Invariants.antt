use Rattle.std.proofs.Common.{take}
use Rattle.patr_lexicon.proofs.Names.{pieces_seen, AreCutFrom}
use Rattle.patr_lexicon.proofs.features.Features.tokens.Given as goal

abbrev pub invariant-loop-piece : goal.invariant-loop-piece
invariant-loop-piece l = AreCutFrom l.text (pieces_seen (take l.piece-index l.piece-items)) l.all.items
