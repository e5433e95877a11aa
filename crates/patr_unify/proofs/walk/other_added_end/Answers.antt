use Rattle.std.proofs.Common.{length, sym, ap, subst, arith}
use Rattle.patr_marks.specs.Machine.{own}
use Rattle.patr_marks.specs.Sides.{sides}
use Rattle.patr_marks.proofs.Lists.{has_right}
use Rattle.patr_scratch.specs.Contents.{Link, after}
use Rattle.patr_unify.specs.Merging.{both}
use Rattle.patr_unify.specs.Reading.{added_of, arcs_at, key, marks_of, value_at}
use Rattle.patr_unify.specs.Walking.{IsDone, IsPassed, IsPausedFor, end_value}
use Rattle.patr_unify.proofs.Loops.{is_cell, link_of}
use Rattle.patr_unify.proofs.Walks.{added_paused, found_there, none_found, one_less, links_passed}
use Rattle.patr_unify.proofs.walk.other_added_end.Goals as goal

pub arc_at-arc-requires : goal.arc_at-arc-requires
arc_at-arc-requires g c =
    is_cell (g.N.Nodes.shown c.args.nodes.now) c.args.scratch.now (g.met.N.Nodes.lawful c.args.nodes.now) c.requires.held c.args.place c.requires.place c.loop-next.next c.in-Some.cell c.loop-next.invariant.cell c.in-Some.is

pub other_end-requires-clause-target : goal.other_end-requires-clause-target
other_end-requires-clause-target g c =
    (link_of (g.N.Nodes.shown c.args.nodes.now) c.args.scratch.now (g.met.N.Nodes.lawful c.args.nodes.now) c.requires.held c.args.place c.requires.place c.loop-next.next c.in-Some.cell c.arc_at-arc.result c.loop-next.invariant.cell c.in-Some.is c.arc_at-arc.ensures).held

pub returns-in-Some-other_end : goal.returns-in-Some-other_end
returns-in-Some-other_end g c =
    let v = g.N.Nodes.shown c.args.nodes.now in
    let w = c.args.scratch.now in
    let k = key v c.args.place in
    let r = c.arc_at-arc.result in
    let link = link_of v w (g.met.N.Nodes.lawful c.args.nodes.now) c.requires.held c.args.place c.requires.place c.loop-next.next c.in-Some.cell r c.loop-next.invariant.cell c.in-Some.is c.arc_at-arc.ensures in
    let f = c.in-Some-other_end.ensures in
    let left = found_there v w k c.in-Some-other_end.found (record { attribute = r.attribute; to = value_at v r.to }) (arcs_at v (after (marks_of v w k).added r.next)) (subst (IsPassed v w (both v w k)) link.arcs c.loop-next.invariant.passed) f.1 in (
      (r.attribute, value_at v r.to, has_right (own (sides v.structure) k) (added_of v w k) r.attribute (value_at v r.to) link.has, f),
      subst (IsPausedFor v w (key v c.in-Some-other_end.found) k) (sym c.at_added.ensures) (added_paused v w (key v c.in-Some-other_end.found) k r.next link.left left),
    )

pub loop-next-preserved : goal.loop-next-preserved
loop-next-preserved g c =
    let v = g.N.Nodes.shown c.args.nodes.now in
    let w = c.args.scratch.now in
    let k = key v c.args.place in
    let r = c.arc_at-arc.result in
    let link = link_of v w (g.met.N.Nodes.lawful c.args.nodes.now) c.requires.held c.args.place c.requires.place c.loop-next.next c.in-Some.cell r c.loop-next.invariant.cell c.in-Some.is c.arc_at-arc.ensures in
    record {
      cell = link.left;
      passed = one_less (λ x. IsDone v w (end_value v w x)) (both v w k) (record { attribute = r.attribute; to = value_at v r.to }) (arcs_at v (after (marks_of v w k).added r.next)) (subst (IsPassed v w (both v w k)) link.arcs c.loop-next.invariant.passed)
          (none_found v w (value_at v r.to) c.other_end.result c.other_end.ensures c.in_default-other_end.not-Some);
    }

pub returns : goal.returns
returns g c =
    let v = g.N.Nodes.shown c.args.nodes.now in
    let k = key v c.args.place in
    links_passed v c.args.scratch.now (both v c.args.scratch.now k) (marks_of v c.args.scratch.now k).added c.loop-next.next c.loop-next.invariant.passed c.in_default.not-Some

pub loop-next-smaller : goal.loop-next-smaller
loop-next-smaller g c =
    let link = link_of (g.N.Nodes.shown c.args.nodes.now) c.args.scratch.now (g.met.N.Nodes.lawful c.args.nodes.now) c.requires.held c.args.place c.requires.place c.loop-next.next c.in-Some.cell c.arc_at-arc.result c.loop-next.invariant.cell c.in-Some.is c.arc_at-arc.ensures in
    let size = ap (length {A = Link}) link.step in
    omega (arith, size)
