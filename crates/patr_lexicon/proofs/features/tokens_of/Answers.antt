use Rattle.std.proofs.Common.{arith}
use Rattle.patr_lexicon.specs.Parts.{piece_seen}
use Rattle.patr_lexicon.proofs.Places.{line_bound, column_bound}
use Rattle.patr_lexicon.proofs.Cuts.{piece_cut, bad_cut}
use Rattle.patr_lexicon.proofs.features.tokens_of.Goals as goal

pub tokens-requires-clause-line : goal.tokens-requires-clause-line
tokens-requires-clause-line c = omega (arith, line_bound c.args.text.now c.args.piece.start (piece_seen c.args.piece) c.requires.stands, c.requires.short)

pub tokens-requires-clause-column : goal.tokens-requires-clause-column
tokens-requires-clause-column c = omega (arith, column_bound c.args.text.now c.args.piece.start (piece_seen c.args.piece) c.requires.stands, c.requires.short)

pub returns-in-Ok : goal.returns-in-Ok
returns-in-Ok c = piece_cut c.args.text.now c.args.piece.start (piece_seen c.args.piece) c.requires.stands c.in-Ok.tokens.items c.in-Ok.ensures.read c.in-Ok.ensures.cut c.in-Ok.ensures.order

pub returns-in-Err-Refused : goal.returns-in-Err-Refused
returns-in-Err-Refused c =
    let read = rw c.in-Err-Refused.field-0-is at c.in-Err-Refused.ensures.read in
    bad_cut c.args.text.now c.args.piece.start (piece_seen c.args.piece) c.requires.stands _ c.new.result.items read c.new.ensures.items
