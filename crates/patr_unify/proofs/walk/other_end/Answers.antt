use Rattle.std.proofs.Common.{◌∙◌, sym, subst}
use Rattle.patr_scratch.specs.declared.Target.TheVariants as target
use Rattle.patr_unify.specs.Walking.{IsDone}
use Rattle.patr_unify.proofs.Walks.{end_found, visit_is}
use Rattle.patr_unify.proofs.walk.other_end.Goals as goal

pub returns-in-Atom : goal.returns-in-Atom
returns-in-Atom g c =
    let v = g.N.Nodes.shown c.args.nodes.now in
    let w = c.args.scratch.now in
    subst (IsDone v w) (sym (end_found v w c.args.target (target.Atom c.in-Atom.field-0) c.requires.ending c.in-Atom.ensures)) tt

pub returns-then-same_visit : goal.returns-then-same_visit
returns-then-same_visit g c =
    let v = g.N.Nodes.shown c.args.nodes.now in
    let w = c.args.scratch.now in
    let p = c.in-Place.place in
    let visit = visit_is v w (g.met.N.Nodes.lawful c.args.nodes.now) p c.in-Place.number c.visit-visit.result c.in-Place.ensures.0.held c.in-Place.ensures.1 c.visit-visit.ensures in
    subst (IsDone v w) (sym (end_found v w c.args.target (target.Place p) c.requires.ending c.in-Place.ensures.0)) (sym visit ∙ c.same_visit.ensures.same c.if-same_visit.true)

pub returns-else-same_visit : goal.returns-else-same_visit
returns-else-same_visit g c =
    let v = g.N.Nodes.shown c.args.nodes.now in
    let w = c.args.scratch.now in
    let p = c.in-Place.place in
    let visit = visit_is v w (g.met.N.Nodes.lawful c.args.nodes.now) p c.in-Place.number c.visit-visit.result c.in-Place.ensures.0.held c.in-Place.ensures.1 c.visit-visit.ensures in (
      c.in-Place.ensures.0.held,
      end_found v w c.args.target (target.Place p) c.requires.ending c.in-Place.ensures.0,
      λ e. c.same_visit.ensures.apart c.if-same_visit.false (visit ∙ e),
    )
