use Rattle.std.proofs.Common.{subst}
use Rattle.patr_arena.specs.Shown.{ValueIsHeld, value_of}
use Rattle.patr_unify.specs.Copying.{IsOld}
use Rattle.patr_unify.proofs.Keeping.{old_is}
use Rattle.patr_unify.proofs.keep.is_old.Goals as goal

pub returns-in-Node-clause-apart : goal.returns-in-Node-clause-apart
returns-in-Node-clause-apart g c e o =
    let v = g.N.Nodes.shown c.args.nodes.now in
    c.same_ref-in-Node.ensures.apart e
    (old_is v c.args.to c.in-Node.at c.requires.to (subst (ValueIsHeld v) c.in-Node.is c.requires.value) (subst (λ x. IsOld v c.args.to (value_of v x)) c.in-Node.is o))
