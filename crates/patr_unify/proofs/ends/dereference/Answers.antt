use Rattle.std.proofs.Common.{◌≡◌, ◌<◌, sym, subst, ap, ◌∙◌, None, Some}
use Rattle.patr_model.specs.Structure.{Node}
use Rattle.patr_marks.specs.Settled.{follow, IsFinal}
use Rattle.patr_arena.specs.Shown.{IsHeld}
use Rattle.patr_scratch.specs.declared.Target.{Target}
use Rattle.patr_unify.specs.Following.{chain}
use Rattle.patr_unify.specs.Reading.{key, value_at, forward_of, TargetIsHeld, IsEnding}
use Rattle.patr_unify.proofs.Follow.{step_on, followed_on}
use Rattle.patr_unify.proofs.Keys.{forward_is, forward_held}
use Rattle.patr_unify.proofs.ends.dereference.Goals as goal

pub forwards-smaller : goal.forwards-smaller
forwards-smaller g c =
    let v = g.N.Nodes.shown c.args.nodes.now in
    let w = c.args.scratch.now in
    let p = c.in-Place.place in
    let f = forward_of v w in
    let held : IsHeld v p.block p.offset = subst (TargetIsHeld v) c.in-Place.is c.forwards.invariant.target in
    let ending : IsFinal f (follow w.pair_room f (Node (key v p))) = subst (λ (t : Target). IsEnding v w t) c.in-Place.is c.forwards.invariant.ending in
    let is : f (key v p) ≡ Some (value_at v c.in-Some.next) = forward_is v w (g.met.N.Nodes.lawful c.args.nodes.now) p c.number-number.result (Some c.in-Some.next) held c.number-number.ensures c.in-Some.ensures in
    subst (λ (t : Target). chain w.pair_room f (value_at v c.in-Some.next) < chain w.pair_room f (value_at v t)) (sym c.in-Place.is) (step_on w.pair_room f (key v p) (value_at v c.in-Some.next) is ending).0

pub forwards-preserved : goal.forwards-preserved
forwards-preserved g c =
    let v = g.N.Nodes.shown c.args.nodes.now in
    let w = c.args.scratch.now in
    let p = c.in-Place.place in
    let f = forward_of v w in
    let s = g.met.N.Nodes.lawful c.args.nodes.now in
    let held : IsHeld v p.block p.offset = subst (TargetIsHeld v) c.in-Place.is c.forwards.invariant.target in
    let ending : IsFinal f (follow w.pair_room f (Node (key v p))) = subst (λ (t : Target). IsEnding v w t) c.in-Place.is c.forwards.invariant.ending in
    let is : f (key v p) ≡ Some (value_at v c.in-Some.next) = forward_is v w s p c.number-number.result (Some c.in-Some.next) held c.number-number.ensures c.in-Some.ensures in
    record {
      target = forward_held v w s c.requires.held p c.number-number.result (Some c.in-Some.next) held c.number-number.ensures c.in-Some.ensures;
      ending = (step_on w.pair_room f (key v p) (value_at v c.in-Some.next) is ending).1;
      followed = followed_on f (value_at v c.args.from) (key v p) (value_at v c.in-Some.next) is (c.forwards.invariant.followed.0, c.forwards.invariant.followed.1 ∙ ap (value_at v) c.in-Place.is);
    }

pub returns-in-Atom : goal.returns-in-Atom
returns-in-Atom g c =
    let f = c.forwards.invariant.followed in
    record { held = tt; last = tt; steps = f.0; follows = f.1 ∙ ap (value_at (g.N.Nodes.shown c.args.nodes.now)) c.in-Atom.is }

pub returns-in-None : goal.returns-in-None
returns-in-None g c =
    let v = g.N.Nodes.shown c.args.nodes.now in
    let w = c.args.scratch.now in
    let p = c.in-Place.place in
    let f = c.forwards.invariant.followed in
    let held : IsHeld v p.block p.offset = subst (TargetIsHeld v) c.in-Place.is c.forwards.invariant.target in
    let last = forward_is v w (g.met.N.Nodes.lawful c.args.nodes.now) p c.number-number.result None held c.number-number.ensures c.in-None.ensures in
    (record { held = held; last = last; steps = f.0; follows = f.1 ∙ ap (value_at v) c.in-Place.is }, c.number-number.ensures)
