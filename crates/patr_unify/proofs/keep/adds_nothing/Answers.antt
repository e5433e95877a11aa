use Rattle.std.proofs.Common.{◌∙◌, refl, sym, ap}
use Rattle.patr_marks.specs.Machine.{own}
use Rattle.patr_marks.specs.Settled.{covered}
use Rattle.patr_marks.specs.Sides.{sides}
use Rattle.patr_scratch.specs.Contents.{PlaceMarks, after, marks}
use Rattle.patr_unify.specs.Reading.{arcs_at, key, value_at}
use Rattle.patr_unify.proofs.Keeping.{covered_all, covered_off, covered_on}
use Rattle.patr_unify.proofs.Keys.{key_marks}
use Rattle.patr_unify.proofs.Loops.{link_at}
use Rattle.patr_unify.proofs.Takes.{none_has, some_has}
use Rattle.patr_unify.proofs.keep.adds_nothing.Goals as goal

pub returns-in-None : goal.returns-in-None
returns-in-None g c =
    let v = g.N.Nodes.shown c.args.nodes.now in
    let w = c.args.scratch.now in
    let s = g.met.N.Nodes.lawful c.args.nodes.now in
    let p = c.args.place in
    let n = c.number-number.result in
    let ls = (marks w p.side n).added in
    let r = c.arc_at-arc.result in
    let all = own (sides v.structure) (key v p) in
    let link = link_at v s w w c.requires.held p n c.requires.place c.number-number.ensures refl c.loop-next.next c.in-Some.cell r c.loop-next.invariant.cell c.in-Some.is c.arc_at-arc.ensures in
    covered_off (arcs_at v ls) all (arcs_at v (after ls r.next)) (record { attribute = r.attribute; to = value_at v r.to }) (ap (λ es. covered es all) (sym link.arcs) ∙ c.loop-next.invariant.rest) (none_has all r.attribute (sym c.in-None.ensures.same))
    ∙ ap (λ (m : PlaceMarks). covered (arcs_at v m.added) all) (key_marks v w s p n c.requires.place c.number-number.ensures)

pub loop-next-preserved : goal.loop-next-preserved
loop-next-preserved g c =
    let v = g.N.Nodes.shown c.args.nodes.now in
    let w = c.args.scratch.now in
    let p = c.args.place in
    let n = c.number-number.result in
    let ls = (marks w p.side n).added in
    let r = c.arc_at-arc.result in
    let all = own (sides v.structure) (key v p) in
    let link = link_at v (g.met.N.Nodes.lawful c.args.nodes.now) w w c.requires.held p n c.requires.place c.number-number.ensures refl c.loop-next.next c.in-Some.cell r c.loop-next.invariant.cell c.in-Some.is c.arc_at-arc.ensures in
    record {
      cell = link.left;
      rest = covered_on (arcs_at v ls) all (arcs_at v (after ls r.next)) (record { attribute = r.attribute; to = value_at v r.to }) (ap (λ es. covered es all) (sym link.arcs) ∙ c.loop-next.invariant.rest) (some_has all r.attribute (value_at v c.in-Some-find_own.field-0) (sym c.in-Some-find_own.ensures.same));
    }

pub returns : goal.returns
returns g c =
    let v = g.N.Nodes.shown c.args.nodes.now in
    let w = c.args.scratch.now in
    let p = c.args.place in
    let n = c.number-number.result in
    let all = own (sides v.structure) (key v p) in
    covered_all v (marks w p.side n).added c.loop-next.next all c.loop-next.invariant.rest c.in_default.not-Some
    ∙ ap (λ (m : PlaceMarks). covered (arcs_at v m.added) all) (key_marks v w (g.met.N.Nodes.lawful c.args.nodes.now) p n c.requires.place c.number-number.ensures)
