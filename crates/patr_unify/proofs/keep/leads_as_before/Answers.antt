use Rattle.std.proofs.Common.{◌+◌, get_or, drop, subst}
use Rattle.patr_marks.specs.Machine.{own}
use Rattle.patr_marks.specs.Sides.{sides}
use Rattle.patr_arena.proofs.Addresses.{value_below}
use Rattle.patr_unify.specs.Copying.{LeadsAsBefore}
use Rattle.patr_unify.specs.Reading.{key}
use Rattle.patr_unify.specs.Walking.{AllButRest}
use Rattle.patr_unify.proofs.Keeping.{leads_before, leads_elsewhere}
use Rattle.patr_unify.proofs.Loops.{blank, own_arc, own_end}
use Rattle.patr_unify.proofs.Takes.{arc_of}
use Rattle.patr_unify.proofs.Walks.{none_left, one_less}
use Rattle.patr_unify.proofs.keep.leads_as_before.Goals as goal

pub resolve-before-requires : goal.resolve-before-requires
resolve-before-requires g c =
    let v = g.N.Nodes.shown c.args.nodes.now in
    let items = c.arcs-feature-items in
    (own_arc v (g.met.N.Nodes.lawful c.args.nodes.now) c.args.scratch.now c.args.place c.requires.place c.address-at.result c.address-at.ensures items.result.now items.ensures.held items.ensures.same c.loop-feature.feature-index c.loop-feature-test.true).held

pub returns-then-not-is_old : goal.returns-then-not-is_old
returns-then-not-is_old g c =
    let v = g.N.Nodes.shown c.args.nodes.now in
    let w = c.args.scratch.now in
    let p = c.args.place in
    let items = c.arcs-feature-items in
    let f = get_or items.result.now c.loop-feature.feature-index blank in
    (f.attribute.0, (arc_of v p f).to, (own_arc v (g.met.N.Nodes.lawful c.args.nodes.now) w p c.requires.place c.address-at.result c.address-at.ensures items.result.now items.ensures.held items.ensures.same c.loop-feature.feature-index c.loop-feature-test.true).has, leads_elsewhere v w p f c.resolve-before.result c.target_on.result c.end_ref-now.result (value_below v (g.met.N.Nodes.lawful c.args.nodes.now) c.resolve-before.result c.resolve-before.ensures.held) c.resolve-before.ensures.same c.target_on.ensures c.end_ref-now.ensures.same (c.is_old.ensures.apart c.if-not-is_old.true))

pub loop-feature-preserved : goal.loop-feature-preserved
loop-feature-preserved g c =
    let v = g.N.Nodes.shown c.args.nodes.now in
    let w = c.args.scratch.now in
    let p = c.args.place in
    let items = c.arcs-feature-items in
    let f = get_or items.result.now c.loop-feature.feature-index blank in
    let a = own_arc v (g.met.N.Nodes.lawful c.args.nodes.now) w p c.requires.place c.address-at.result c.address-at.ensures items.result.now items.ensures.held items.ensures.same c.loop-feature.feature-index c.loop-feature-test.true in
    let all = own (sides v.structure) (key v p) in
    one_less (LeadsAsBefore v w) all (arc_of v p f) (drop (c.loop-feature.feature-index + 1) all) (subst (AllButRest (LeadsAsBefore v w) all) a.next c.loop-feature.invariant)
    (leads_before v w p f c.resolve-before.result c.target_on.result c.end_ref-now.result (value_below v (g.met.N.Nodes.lawful c.args.nodes.now) c.resolve-before.result c.resolve-before.ensures.held) c.resolve-before.ensures.same c.target_on.ensures c.end_ref-now.ensures.same (c.is_old.ensures.same c.if-not-is_old.false))

pub returns : goal.returns
returns g c =
    let v = g.N.Nodes.shown c.args.nodes.now in
    let w = c.args.scratch.now in
    let items = c.arcs-feature-items in
    let all = own (sides v.structure) (key v c.args.place) in
    none_left (LeadsAsBefore v w) all (subst (AllButRest (LeadsAsBefore v w) all)
    (own_end v (g.met.N.Nodes.lawful c.args.nodes.now) w c.args.place c.requires.place c.address-at.result c.address-at.ensures items.result.now items.ensures.held items.ensures.same c.loop-feature.feature-index c.loop-feature-test.false) c.loop-feature.invariant)
