use Rattle.std.proofs.Common.{Ok, Err, IfOk}
use Rattle.patr_parse.proofs.Names.{HasMark}
use Rattle.patr_parse.proofs.prediction.predict_category.Goals as goal

pub returns-then-branch-clause-marked : goal.returns-then-branch-clause-marked
returns-then-branch-clause-marked c =
    let u = c.in_ok-insert.ensures.updates in
    elim c.push_items.result as (λ r. IfOk r (λ _. HasMark c.args.marks.now.keys c.insert.new.self.keys c.args.mark.category c.args.mark.at)) [ Ok x ↦ λ d j. u.0 (record { category = d; at = j }) | Err e ↦ tt ]
