use Rattle.std.proofs.Common.{◌+◌, [], ◌∷◌, length, refl, sym, ap, ◌∙◌, arith}
use Rattle.patr_lexicon.proofs.Names.{NoWord, with_field, with_pieces, piece_seen, record_seen, from_record, most_texts}
use Rattle.patr_lexicon.proofs.States.{field_within, before_record, most_with, most_begun}
use Rattle.patr_lexicon.proofs.state.State.field.Goals as goal

pub returns-in_ok-push-in-Within-clause-reads : goal.returns-in_ok-push-in-Within-clause-reads
returns-in_ok-push-in-Within-clause-reads c = λ fs.
    let m = c.args.marker in
    let p = piece_seen c.args.piece in
    rw c.in-Within.is (field_within c.in-Within.field-0 m (record_seen c.in-Within.record) c.args.piece.line p fs c.requires.marker
    ∙ ap (λ o. from_record m o fs) (sym (c.in_ok-push-in-Within.ensures.seen ∙ ap (λ o. with_pieces o m (p ∷ [])) c.begin.ensures.seen)))

pub returns-in_ok-push-in-Within-clause-most_texts : goal.returns-in_ok-push-in-Within-clause-most_texts
returns-in_ok-push-in-Within-clause-most_texts c =
    let m = c.args.marker in
    let o = record_seen c.in-Within.record in
    let p = piece_seen c.args.piece in
    let n = 1 + length c.args.piece.text.now in
    let seen = c.in_ok-push-in-Within.ensures.seen ∙ ap (λ o. with_pieces o m (p ∷ [])) c.begin.ensures.seen in
    rw c.in-Within.is (omega (arith, ap most_texts seen, most_with (with_field o m) m p n (omega arith) (omega arith), most_begun o m))

pub returns-in_default : goal.returns-in_default
returns-in_default c = record {
  reads = λ fs. (NoWord c.args.piece.line, refl, before_record c.args.self c.in-Start.is c.args.marker c.args.piece.line (piece_seen c.args.piece) fs c.requires.marker c.in_default.not-Other);
  most_texts = tt;
  laid = λ text stands laid. tt;
}
