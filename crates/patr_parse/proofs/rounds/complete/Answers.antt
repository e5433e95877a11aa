use Rattle.patr_parse.proofs.Drafted.{completed}
use Rattle.patr_parse.proofs.rounds.complete.Goals as goal

pub push_all-requires : goal.push_all-requires
push_all-requires g c = (c.args.limit, (rw c.in-Some.is at c.in_ok-drafts.ensures.gave).drafts)

pub returns-in_default-clause-more : goal.returns-in_default-clause-more
returns-in_default-clause-more g c = λ ws s u. rw c.in_default.is at (c.in_ok-drafts.ensures.more ws s)

pub returns-clause-completed : goal.returns-clause-completed
returns-clause-completed g c = λ u.
    completed c.args.library.now c.args.limit c.args.worked c.args.closing.now _ c.in-Some.drafts.items c.args.closing.now.arena.lawful c.push_all.new.arena.lawful c.requires.ready (rw c.in-Some.is at c.in_ok-drafts.ensures.gave) c.in_ok-push_all.ensures.placed c.in_ok-push_all.ensures.words
