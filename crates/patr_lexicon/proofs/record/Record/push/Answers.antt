use Rattle.patr_lexicon.proofs.Places.{laid_push}
use Rattle.patr_lexicon.proofs.record.Record.push.Goals as goal

pub returns-in_ok-push-in-Features-clause-laid : goal.returns-in_ok-push-in-Features-clause-laid
returns-in_ok-push-in-Features-clause-laid c = λ text stands laid.
    laid_push text c.args.self.now.features c.push-in-Features.new.self c.args.piece laid stands c.in_ok-push-in-Features.ensures.pieces c.in_ok-push-in-Features.ensures.end
