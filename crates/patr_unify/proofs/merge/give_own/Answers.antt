use Rattle.std.proofs.Common.{◌≤◌, ◌+◌, ◌∙◌, ◌∷◌, length, get_or, drop, sym, subst}
use Rattle.patr_model.specs.Structure.{Value, Arcs, along}
use Rattle.patr_marks.specs.Machine.{own}
use Rattle.patr_marks.specs.Sides.{sides}
use Rattle.patr_unify.specs.Merging.{IsTaken, IsGiven, both, one_pair}
use Rattle.patr_unify.specs.Reading.{key}
use Rattle.patr_unify.proofs.Loops.{blank, own_arc, own_end}
use Rattle.patr_unify.proofs.Takes.{taken_step, pair_fits, arc_fits, arc_of, found_in_own, rest_lacks}
use Rattle.patr_unify.proofs.merge.give_own.Goals as goal

pub own_target-target-requires : goal.own_target-target-requires
own_target-target-requires g c =
    let v = g.N.Nodes.shown c.args.nodes.now in
    let items = c.arcs-feature-items in
    (own_arc v (g.met.N.Nodes.lawful c.args.nodes.now) c.args.scratch.now c.args.from c.requires.from c.address-at.result c.address-at.ensures items.result.now items.ensures.held items.ensures.same c.loop-feature.feature-index c.loop-feature-test.true).held

pub has_added-later-requires : goal.has_added-later-requires
has_added-later-requires g c =
    record { place = c.requires.from; held = c.loop-feature.invariant.held; extended = λ bare. c.loop-feature.invariant.others _ c.requires.apart ∙ c.is_extended-from_extended.ensures bare }

pub give_arc-requires : goal.give_arc-requires
give_arc-requires g c =
    let v = g.N.Nodes.shown c.args.nodes.now in
    let s = g.met.N.Nodes.lawful c.args.nodes.now in
    let p = c.args.from in
    let A = key v p in
    let B = key v c.args.to in
    let w = c.args.scratch.now in
    let t = c.loop-feature.scratch in
    let items = c.arcs-feature-items in
    let i = c.loop-feature.feature-index in
    let a = own_arc v s w p c.requires.from c.address-at.result c.address-at.ensures items.result.now items.ensures.held items.ensures.same i c.loop-feature-test.true in
    let e = arc_of v p (get_or items.result.now i blank) in
    let rest : Arcs = drop (i + 1) (own (sides v.structure) A) in
    let taken : IsTaken v w t A B (e ∷ rest) = subst (IsTaken v w t A B) a.next c.loop-feature.invariant in
    record {
      to = c.requires.to;
      target = c.own_target-target.ensures.held;
      held = taken.held;
      pairs_held = taken.pairs_held;
      pair_room = subst (λ (x : Value). length t.pairs + length (one_pair c.has_added-later.result (along (both v t B) e.attribute) x) ≤ t.pair_room) (sym c.own_target-target.ensures.same)
          (pair_fits v w t A B c.has_added-later.result e rest c.requires.apart (rest_lacks v s A i e rest a.next) c.has_added-later.ensures taken c.requires.room);
      arc_room = arc_fits v w t A B e rest taken c.requires.room;
      extended = λ bare. found_in_own v w t A B e rest taken (c.is_extended-to_extended.ensures bare);
    }

pub loop-feature-preserved : goal.loop-feature-preserved
loop-feature-preserved g c =
    let v = g.N.Nodes.shown c.args.nodes.now in
    let s = g.met.N.Nodes.lawful c.args.nodes.now in
    let p = c.args.from in
    let A = key v p in
    let B = key v c.args.to in
    let w = c.args.scratch.now in
    let t = c.loop-feature.scratch in
    let items = c.arcs-feature-items in
    let i = c.loop-feature.feature-index in
    let a = own_arc v s w p c.requires.from c.address-at.result c.address-at.ensures items.result.now items.ensures.held items.ensures.same i c.loop-feature-test.true in
    let e = arc_of v p (get_or items.result.now i blank) in
    let rest : Arcs = drop (i + 1) (own (sides v.structure) A) in
    taken_step v w t c.give_arc.new.scratch A B c.has_added-later.result e rest c.requires.apart (rest_lacks v s A i e rest a.next) c.has_added-later.ensures (subst (IsTaken v w t A B) a.next c.loop-feature.invariant)
    (subst (λ (x : Value). IsGiven v t c.give_arc.new.scratch c.has_added-later.result B e.attribute x) c.own_target-target.ensures.same c.give_arc.ensures)

pub returns : goal.returns
returns g c =
    let v = g.N.Nodes.shown c.args.nodes.now in
    let w = c.args.scratch.now in
    let items = c.arcs-feature-items in
    subst (IsTaken v w c.loop-feature.scratch (key v c.args.from) (key v c.args.to))
    (own_end v (g.met.N.Nodes.lawful c.args.nodes.now) w c.args.from c.requires.from c.address-at.result c.address-at.ensures items.result.now items.ensures.held items.ensures.same c.loop-feature.feature-index c.loop-feature-test.false)
    c.loop-feature.invariant
