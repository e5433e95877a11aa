use Rattle.std.proofs.Common.{◌+◌, ◌≤◌, length, sym, subst}
use Rattle.patr_marks.specs.Machine.{matches}
use Rattle.patr_scratch.specs.Contents.{Link, PlaceMarks, after, marks}
use Rattle.patr_unify.specs.Merging.{both}
use Rattle.patr_unify.specs.Reading.{arcs_at, key}
use Rattle.patr_unify.proofs.Keys.{key_marks}
use Rattle.patr_unify.proofs.Loops.{link_at}
use Rattle.patr_unify.proofs.Merges.{place_room}
use Rattle.patr_unify.proofs.Pushes.{link_fits, link_pushed, pushed_all}
use Rattle.patr_unify.proofs.merge.pair_added.Goals as goal

pub pair_arc-requires-clause-target : goal.pair_arc-requires-clause-target
pair_arc-requires-clause-target g c =
    let i = c.loop-next.invariant in
    (link_at (g.N.Nodes.shown c.args.nodes.now) (g.met.N.Nodes.lawful c.args.nodes.now) c.args.scratch.now c.loop-next.scratch c.requires.held c.args.from c.number-number.result c.requires.from c.number-number.ensures i.rest c.loop-next.next c.in-Some.cell c.arc_at-arc.result i.cell c.in-Some.is c.arc_at-arc.ensures).held

pub pair_arc-requires-clause-room : goal.pair_arc-requires-clause-room
pair_arc-requires-clause-room g c =
    let v = g.N.Nodes.shown c.args.nodes.now in
    let w = c.args.scratch.now in
    let s = g.met.N.Nodes.lawful c.args.nodes.now in
    let p = c.args.from in
    let n = c.number-number.result in
    let i = c.loop-next.invariant in
    let r = c.arc_at-arc.result in
    let link = link_at v s w c.loop-next.scratch c.requires.held p n c.requires.from c.number-number.ensures i.rest c.loop-next.next c.in-Some.cell r i.cell c.in-Some.is c.arc_at-arc.ensures in
    let ls = (marks w p.side n).added in
    let B = key v c.args.to in
    link_fits v w c.loop-next.scratch p.side n (record { cell = c.in-Some.cell; attribute = r.attribute; to = r.to }) r.next (after ls c.loop-next.next) B (matches (arcs_at v ls) (both v w B)) i.rest link.step i.pairs
    (subst (λ (m : PlaceMarks). length w.pairs + length (matches (arcs_at v m.added) (both v w B)) ≤ w.pair_room) (sym (key_marks v w s p n c.requires.from c.number-number.ensures)) c.requires.room)

pub loop-next-preserved : goal.loop-next-preserved
loop-next-preserved g c =
    let v = g.N.Nodes.shown c.args.nodes.now in
    let w = c.args.scratch.now in
    let p = c.args.from in
    let n = c.number-number.result in
    let i = c.loop-next.invariant in
    let r = c.arc_at-arc.result in
    let link = link_at v (g.met.N.Nodes.lawful c.args.nodes.now) w c.loop-next.scratch c.requires.held p n c.requires.from c.number-number.ensures i.rest c.loop-next.next c.in-Some.cell r i.cell c.in-Some.is c.arc_at-arc.ensures in
    let l : Link = record { cell = c.in-Some.cell; attribute = r.attribute; to = r.to } in
    let pushed = link_pushed v w c.loop-next.scratch c.pair_arc.new.scratch p.side n l r.next (after (marks w p.side n).added c.loop-next.next) (key v c.args.to) _ i.rest link.step i.pairs c.pair_arc.ensures in
    record { rest = pushed.0; cell = link.left; pairs = pushed.1; held = c.pair_arc.ensures.held }

pub first_arc-next-requires : goal.first_arc-next-requires
first_arc-next-requires g c = place_room (g.N.Nodes.shown c.args.nodes.now) c.args.scratch.now (g.met.N.Nodes.lawful c.args.nodes.now) c.requires.held c.args.from c.number-number.result c.requires.from c.number-number.ensures

pub returns : goal.returns
returns g c =
    let v = g.N.Nodes.shown c.args.nodes.now in
    let i = c.loop-next.invariant in
    pushed_all v c.args.scratch.now c.loop-next.scratch c.args.from c.number-number.result (key v c.args.to) c.loop-next.next (g.met.N.Nodes.lawful c.args.nodes.now) c.requires.from c.number-number.ensures i.rest i.pairs i.held c.in_default.not-Some
