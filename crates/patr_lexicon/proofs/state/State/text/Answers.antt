use Rattle.std.proofs.Common.{length, refl, sym, ap, ◌∙◌, arith}
use Rattle.patr_lexicon.proofs.Names.{NoWord, piece_seen, record_seen, from_record, most_texts}
use Rattle.patr_lexicon.proofs.States.{text_within, most_with}
use Rattle.patr_lexicon.proofs.state.State.text.Goals as goal

pub returns-in-Start-clause-reads : goal.returns-in-Start-clause-reads
returns-in-Start-clause-reads c = λ fs. rw c.in-Start.is (NoWord c.args.piece.line, refl, refl)

pub returns-in_ok-push-in-Within-clause-reads : goal.returns-in_ok-push-in-Within-clause-reads
returns-in_ok-push-in-Within-clause-reads c = λ fs.
    rw c.in-Within.is (text_within c.in-Within.field (record_seen c.in-Within.record) (piece_seen c.args.piece) fs ∙ ap (λ o. from_record c.in-Within.field o fs) (sym c.in_ok-push-in-Within.ensures.seen))

pub returns-in_ok-push-in-Within-clause-most_texts : goal.returns-in_ok-push-in-Within-clause-most_texts
returns-in_ok-push-in-Within-clause-most_texts c =
    rw c.in-Within.is (omega (arith, ap most_texts c.in_ok-push-in-Within.ensures.seen, most_with (record_seen c.in-Within.record) c.in-Within.field (piece_seen c.args.piece) (length c.args.piece.text.now) (omega (arith, c.requires.some)) (omega arith)))
