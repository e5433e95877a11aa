use Rattle.std.proofs.Common.{sym, ap, ◌∙◌, arith}
use Rattle.patr_lexicon.proofs.Names.{err_from_is_err_and, end_byte, piece_seen, from_record, ended_before, record_of}
use Rattle.patr_model.specs.declared.field.Marker.TheVariants as markers
use Rattle.patr_lexicon.proofs.States.{word_begins}
use Rattle.patr_lexicon.proofs.Places.{record_later}
use Rattle.patr_lexicon.proofs.state.State.begins.Goals as goal

pub returns-in_err-field-in_default : goal.returns-in_err-field-in_default
returns-in_err-field-in_default c =
    let p = err_from_is_err_and c.from_residual.result c.from_residual.ensures.1 in
    rw (p.1, p.2) (record { reads = λ fs. c.in_err-field-in_default.ensures.reads fs; most_texts = tt; laid = λ text stands laid. tt })

pub returns-in-Word-clause-reads : goal.returns-in-Word-clause-reads
returns-in-Word-clause-reads c = λ fs.
    let p = piece_seen c.args.piece in
    rw (c.in-Word.is, c.record.ensures) (word_begins c.args.self c.args.piece.line p fs ∙ ap (λ o. ended_before (record_of c.args.self) (from_record markers.Word o fs)) (sym c.new.ensures.seen))

pub returns-in-Word-clause-laid : goal.returns-in-Word-clause-laid
returns-in-Word-clause-laid c = λ text stands laid.
    rw c.record.ensures (record_later text c.args.piece.start (end_byte c.args.piece) (record_of c.args.self) (omega arith) laid, c.new.ensures.laid text (end_byte c.args.piece))
