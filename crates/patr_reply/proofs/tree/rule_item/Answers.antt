use Rattle.patr_reply.proofs.Names.{slice_get-get_or}
use Rattle.patr_reply.proofs.Mothers.{mother_of}
use Rattle.patr_reply.proofs.tree.rule_item.Goals as goal

pub returns : goal.returns
returns c = rw c.rules.ensures.same (λ n rule variant of.
    mother_of n c.args.library.now c.rules.ensures.stored rule variant c.args.place of _ (slice_get-get_or c.args.library.now.rules c.args.place _ c.requires))
