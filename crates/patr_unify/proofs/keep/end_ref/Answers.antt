use Rattle.std.proofs.Common.{Some, None, sym, subst, refl}
use Rattle.patr_scratch.specs.declared.Target.TheVariants as target
use Rattle.patr_arena.specs.declared.value.Ref.TheVariants as ref
use Rattle.patr_unify.specs.Copying.{IsEndRef}
use Rattle.patr_unify.specs.Reading.{key}
use Rattle.patr_unify.proofs.Keeping.{copied_is, mark_fits, none_ref, some_ref}
use Rattle.patr_unify.proofs.Walks.{end_found}
use Rattle.patr_unify.proofs.keep.end_ref.Goals as goal

pub returns-in-Atom-clause-same : goal.returns-in-Atom-clause-same
returns-in-Atom-clause-same g c =
    let v = g.N.Nodes.shown c.args.nodes.now in
    let w = c.args.scratch.now in
    subst (λ x. IsEndRef v w x (ref.Atom (record { 0 = c.in-Atom.atom }))) (sym (end_found v w c.args.target (target.Atom c.in-Atom.atom) c.requires.ending c.in-Atom.ensures)) refl

pub returns-in-Some : goal.returns-in-Some
returns-in-Some g c =
    let v = g.N.Nodes.shown c.args.nodes.now in
    let w = c.args.scratch.now in
    let p = c.in-Place.place in
    let made = c.in-Some.made in
    let mark = copied_is v w (g.met.N.Nodes.lawful c.args.nodes.now) p c.in-Place.number (Some made) c.in-Place.ensures.0.held c.in-Place.ensures.1 c.in-Some.ensures in
    record {
      same = subst (λ x. IsEndRef v w x c.ref_to.result) (sym (end_found v w c.args.target (target.Place p) c.requires.ending c.in-Place.ensures.0)) (some_ref v w (key v p) (Some made) made c.ref_to.result mark refl c.ref_to.ensures);
      fits = λ size fit. mark_fits v w size (key v p) (Some made) made c.ref_to.result fit mark refl c.ref_to.ensures;
    }

pub returns-in-None-clause-same : goal.returns-in-None-clause-same
returns-in-None-clause-same g c =
    let v = g.N.Nodes.shown c.args.nodes.now in
    let w = c.args.scratch.now in
    let p = c.in-Place.place in
    let mark = copied_is v w (g.met.N.Nodes.lawful c.args.nodes.now) p c.in-Place.number None c.in-Place.ensures.0.held c.in-Place.ensures.1 c.in-None.ensures in
    subst (λ x. IsEndRef v w x (ref.Old c.address.result)) (sym (end_found v w c.args.target (target.Place p) c.requires.ending c.in-Place.ensures.0)) (none_ref v w (key v p) None (ref.Old c.address.result) mark refl)
