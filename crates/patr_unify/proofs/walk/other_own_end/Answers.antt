use Rattle.std.proofs.Common.{◌+◌, ◌++◌, get_or, drop, subst}
use Rattle.patr_model.specs.Structure.{Value}
use Rattle.patr_marks.specs.Machine.{own}
use Rattle.patr_marks.specs.Sides.{sides}
use Rattle.patr_unify.specs.Merging.{both}
use Rattle.patr_unify.specs.Reading.{added_of, key}
use Rattle.patr_unify.specs.Walking.{IsDone, IsOther, IsPassed, end_value}
use Rattle.patr_unify.proofs.Loops.{blank, own_arc, own_end}
use Rattle.patr_unify.proofs.Takes.{arc_of}
use Rattle.patr_unify.proofs.Walks.{found_there, none_found, one_less}
use Rattle.patr_unify.proofs.walk.other_own_end.Goals as goal

pub loop-index-init : goal.loop-index-init
loop-index-init g c = c.requires.paused.before

pub own_target-target-requires : goal.own_target-target-requires
own_target-target-requires g c =
    let v = g.N.Nodes.shown c.args.nodes.now in
    let arcs = c.arcs-arcs in
    (own_arc v (g.met.N.Nodes.lawful c.args.nodes.now) c.args.scratch.now c.args.place c.requires.place c.address.result c.address.ensures arcs.result.now arcs.ensures.held arcs.ensures.same c.loop-index.index c.loop-index-test.true).held

pub returns-in-Some : goal.returns-in-Some
returns-in-Some g c =
    let v = g.N.Nodes.shown c.args.nodes.now in
    let w = c.args.scratch.now in
    let p = c.args.place in
    let k = key v p in
    let arcs = c.arcs-arcs in
    let i = c.loop-index.index in
    let a = own_arc v (g.met.N.Nodes.lawful c.args.nodes.now) w p c.requires.place c.address.result c.address.ensures arcs.result.now arcs.ensures.held arcs.ensures.same i c.loop-index-test.true in
    let f = get_or arcs.result.now i blank in
    let found : IsOther v w (arc_of v p f).to c.in-Some.found = subst (λ (x : Value). IsOther v w x c.in-Some.found) c.own_target-target.ensures.same c.in-Some.ensures in (
      (f.attribute.0, (arc_of v p f).to, a.among, found),
      record {
        there = tt;
        before = found_there v w k c.in-Some.found (arc_of v p f) (drop (i + 1) (own (sides v.structure) k) ++ added_of v w k) (subst (λ es. IsPassed v w (both v w k) (es ++ added_of v w k)) a.next c.loop-index.invariant) found.1;
      },
    )

pub loop-index-preserved : goal.loop-index-preserved
loop-index-preserved g c =
    let v = g.N.Nodes.shown c.args.nodes.now in
    let w = c.args.scratch.now in
    let p = c.args.place in
    let k = key v p in
    let arcs = c.arcs-arcs in
    let i = c.loop-index.index in
    let a = own_arc v (g.met.N.Nodes.lawful c.args.nodes.now) w p c.requires.place c.address.result c.address.ensures arcs.result.now arcs.ensures.held arcs.ensures.same i c.loop-index-test.true in
    one_less (λ x. IsDone v w (end_value v w x)) (both v w k) (arc_of v p (get_or arcs.result.now i blank)) (drop (i + 1) (own (sides v.structure) k) ++ added_of v w k) (subst (λ es. IsPassed v w (both v w k) (es ++ added_of v w k)) a.next c.loop-index.invariant)
    (subst (λ (x : Value). IsDone v w (end_value v w x)) c.own_target-target.ensures.same (none_found v w _ c.other_end.result c.other_end.ensures c.in_default.not-Some))

pub returns : goal.returns
returns g c =
    let v = g.N.Nodes.shown c.args.nodes.now in
    let w = c.args.scratch.now in
    let k = key v c.args.place in
    let arcs = c.arcs-arcs in
    subst (λ es. IsPassed v w (both v w k) (es ++ added_of v w k))
    (own_end v (g.met.N.Nodes.lawful c.args.nodes.now) w c.args.place c.requires.place c.address.result c.address.ensures arcs.result.now arcs.ensures.held arcs.ensures.same c.loop-index.index c.loop-index-test.false)
    c.loop-index.invariant
