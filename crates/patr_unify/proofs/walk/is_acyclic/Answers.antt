use Rattle.std.proofs.Common.{rules, inl, inr, refl, sym, ap, subst}
use Rattle.patr_arena.specs.Shown.{number_of}
use Rattle.patr_scratch.specs.declared.Target.TheVariants as target
use Rattle.patr_unify.specs.Reading.{key, value_at}
use Rattle.patr_unify.specs.Walking.{HasWalked, IsAtPlace, IsWalkable}
use Rattle.patr_unify.proofs.Outcomes.{log_ends}
use Rattle.patr_unify.proofs.Walked.{at_place, atom_walked, entered_on, has_order_room, has_room, led_back, left_on, none_popped, not_turned, root_is, root_room, still_ends, still_held, turn_falls, walked_off, walked_starts}
use Rattle.patr_unify.proofs.walk.is_acyclic.Given.{Over}
use Rattle.patr_unify.proofs.walk.is_acyclic.Goals.{In-Some}
use Rattle.patr_unify.proofs.walk.is_acyclic.Goals as goal

pub dereference-requires-clause-ending : goal.dereference-requires-clause-ending
dereference-requires-clause-ending g c =
    let v = g.N.Nodes.shown c.args.nodes.now in
    log_ends v c.args.scratch.now c.requires.start.log c.requires.start.has_log c.requires.start.short (value_at v c.left_target.result)

pub returns-in_default-clause-walked : goal.returns-in_default-clause-walked
returns-in_default-clause-walked g c i =
    let v = g.N.Nodes.shown c.args.nodes.now in
    let w = c.args.scratch.now in
    let l = number_of v c.args.left.block c.args.left.offset in
    atom_walked v w l i c.in_default.field-0 (root_is v w l i c.left_target.result (target.Atom c.in_default.field-0) (ap (value_at v) c.left_target.ensures) c.in_default.ensures).0

pub enter-requires-clause-room : goal.enter-requires-clause-room
enter-requires-clause-room g c =
    let v = g.N.Nodes.shown c.args.nodes.now in
    let w = c.args.scratch.now in
    let l = number_of v c.args.left.block c.args.left.offset in
    let i = c.requires.start in
    root_room v w l i (key v c.in-Place.root) (root_is v w l i c.left_target.result (target.Place c.in-Place.root) (ap (value_at v) c.left_target.ensures) c.in-Place.ensures.0).0

pub loop-top-init : goal.loop-top-init
loop-top-init g c =
    let v = g.N.Nodes.shown c.args.nodes.now in
    let w = c.args.scratch.now in
    let l = number_of v c.args.left.block c.args.left.offset in
    record {
      walked = λ i.
          (let root = root_is v w l i c.left_target.result (target.Place c.in-Place.root) (ap (value_at v) c.left_target.ensures) c.in-Place.ensures.0 in
          walked_starts v w c.enter.new.scratch l i c.in-Place.root c.in-Place.ensures.0.held root.0 root.1 c.enter.ensures.visited c.enter.ensures.pushed c.enter.ensures.pairs c.enter.ensures.order);
      room = search rules;
    }

-- the walk at the place that was popped
at_facts : (g : Over) (c : In-Some g) (i : IsWalkable (g.N.Nodes.shown c.args.nodes.now) c.args.scratch.now (number_of (g.N.Nodes.shown c.args.nodes.now) c.args.left.block c.args.left.offset))
    → IsAtPlace (g.N.Nodes.shown c.args.nodes.now) c.args.scratch.now c.pop_visit.new.self (number_of (g.N.Nodes.shown c.args.nodes.now) c.args.left.block c.args.left.offset) i c.in-Some.top c.loop-top.from
at_facts g c i = at_place (g.N.Nodes.shown c.args.nodes.now) c.args.scratch.now c.loop-top.scratch c.pop_visit.new.self _ i c.in-Some.top c.loop-top.from (c.loop-top.invariant.walked i) c.in-Some.ensures.rest c.in-Some.ensures.last

pub go_on-requires : goal.go_on-requires
go_on-requires g c =
    let v = g.N.Nodes.shown c.args.nodes.now in
    let w = c.args.scratch.now in
    let t = c.pop_visit.new.self in
    let i = c.requires.start in
    let at = at_facts g (goal.at.go_on-requires g c).In-Some i in
    record { top = at.top_held; held = still_held v w t at.has.still i.held; ending = still_ends v w t _ i at.has.still; room = has_room v w t _ i c.in-Some.top c.loop-top.from at; order = has_order_room v w t _ i c.in-Some.top c.loop-top.from at; paused = at.paused.0 }

pub returns-in_default-go_on-clause-walked : goal.returns-in_default-go_on-clause-walked
returns-in_default-go_on-clause-walked g c i =
    let v = g.N.Nodes.shown c.args.nodes.now in
    let t = c.pop_visit.new.self in
    led_back v c.args.scratch.now t _ i c.in-Some.top c.loop-top.from (at_facts g (goal.at.returns-in_default-go_on-clause-walked g c).In-Some i)
    (not_turned v t c.go_on.new.scratch c.in-Some.top c.go_on.result c.go_on.ensures.turned c.in_default-go_on.not-Some)

pub loop-top-smaller : goal.loop-top-smaller
loop-top-smaller g c =
    let v = g.N.Nodes.shown c.args.nodes.now in
    let at = at_facts g (goal.at.loop-top-smaller g c).In-Some c.requires.start in
    turn_falls v (g.met.N.Nodes.lawful c.args.nodes.now) c.loop-top.scratch c.pop_visit.new.self c.go_on.new.scratch c.in-Some.top (at.has.entered (key v c.in-Some.top) (inl refl)) c.in-Some.ensures.rest c.in-Some.ensures.last
    c.in-Some-go_on.next c.in-Some-go_on.ensures.turned

pub loop-top-preserved : goal.loop-top-preserved
loop-top-preserved g c =
    let v = g.N.Nodes.shown c.args.nodes.now in
    let w = c.args.scratch.now in
    let t = c.pop_visit.new.self in
    record {
      walked = λ i.
          (let at = at_facts g (goal.at.loop-top-preserved g c).In-Some i in
          elim c.in-Some-go_on.ensures.turned [
            | inl left ↦ left_on v w t _ i c.in-Some.top c.loop-top.from at c.go_on.new.scratch c.in-Some-go_on.next left
            | inr entered ↦ subst (HasWalked v w c.go_on.new.scratch _ i) (sym entered.1) (entered_on v w t _ i c.in-Some.top c.loop-top.from at c.go_on.new.scratch entered.0)
          ]);
      room = search rules;
    }

pub returns-clause-walked : goal.returns-clause-walked
returns-clause-walked g c i =
    let v = g.N.Nodes.shown c.args.nodes.now in
    let w = c.args.scratch.now in
    let l = number_of v c.args.left.block c.args.left.offset in
    let none = none_popped c.loop-top.scratch c.pop_visit.new.self c.pop_visit.result c.pop_visit.ensures.last c.in_default-pop_visit.not-Some in
    walked_off v w c.loop-top.scratch c.pop_visit.new.self l i c.loop-top.from (c.loop-top.invariant.walked i) c.pop_visit.ensures.rest none.0 none.1
