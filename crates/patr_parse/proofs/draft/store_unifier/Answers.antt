use Rattle.std.proofs.Common.{sym, subst}
use Rattle.patr_parse.proofs.Names.{sentence_of, Shown, value_of, made_of, kind_passive, HasMother, IsRootBy}
use Rattle.patr_parse.proofs.Placed.{value_placed}
use Rattle.patr_parse.proofs.draft.store_unifier.Goals as goal

pub root_for-requires-clause-mother : goal.root_for-requires-clause-mother
root_for-requires-clause-mother c = λ passive.
    let v = sentence_of c.args.arena.now in
    let w = sentence_of c.push.new.self in
    let is = value_placed v w c.args.block c.args.root c.in-Ok.number c.in-Ok.ensures.0 c.in-Ok.ensures.1 c.requires.fits.1 (value_of w c.resolve-slots.result) c.resolve-slots.ensures.same in
    subst (λ u. HasMother w.structure u) (sym is) (subst (λ (z : Shown). HasMother z.structure (made_of v c.args.root)) (sym c.in-Ok.ensures.1) (c.requires.mother passive))

pub returns-clause-root : goal.returns-clause-root
returns-clause-root c =
    let v = sentence_of c.args.arena.now in
    let w = sentence_of c.push.new.self in
    let is = value_placed v w c.args.block c.args.root c.in-Ok.number c.in-Ok.ensures.0 c.in-Ok.ensures.1 c.requires.fits.1 (value_of w c.resolve-slots.result) c.resolve-slots.ensures.same in
    subst (λ u. IsRootBy (kind_passive c.args.kind) w.structure u (value_of w c.root_for.result)) is c.root_for.ensures.root
