use Rattle.std.proofs.Common.{Bool, sym, subst}
use Rattle.patr_arena.specs.Paths.{ids}
use Rattle.patr_arena.specs.Shown.{number_of, value_of}
use Rattle.patr_arena.proofs.Addresses.{value_below}
use Rattle.patr_arena.proofs.Showing.{held_below}
use Rattle.patr_scratch.specs.declared.Side.TheVariants as side
use Rattle.patr_unify.specs.Reading.{target_on}
use Rattle.patr_unify.specs.Walking.{IsWalked}
use Rattle.patr_unify.proofs.Deciding.{HasBegun, circle_refutes, decision_begins, first_pushed, settled_for, walkable}
use Rattle.patr_unify.proofs.solve.decide.Given.{Over}
use Rattle.patr_unify.proofs.solve.decide.Goals.{After-push_pair}
use Rattle.patr_unify.proofs.solve.decide.Goals as goal

-- what is there once the first pair is pushed
decide_facts : (g : Over) (c : After-push_pair g) → HasBegun (g.N.Nodes.shown c.args.nodes.now) c.push_pair.new.self (number_of (g.N.Nodes.shown c.args.nodes.now) c.args.left.block c.args.left.offset) (ids c.args.path.now) (value_of (g.N.Nodes.shown c.args.nodes.now) c.in-Some.target) (value_of (g.N.Nodes.shown c.args.nodes.now) c.args.right)
decide_facts g c =
    let v = g.N.Nodes.shown c.args.nodes.now in
    let s = g.met.N.Nodes.lawful c.args.nodes.now in
    let w = c.args.scratch.now in
    let x = c.in-Some.target in
    let pushed = first_pushed w c.begin.new.self c.push_pair.new.self c.target_on-left_target.result c.target_on-right_target.result (target_on side.Left x) (target_on side.Right c.args.right) c.begin.ensures c.target_on-left_target.ensures c.target_on-right_target.ensures c.push_pair.ensures in
    decision_begins v s w (number_of v c.args.left.block c.args.left.offset) (held_below v s c.args.left.block c.args.left.offset c.requires.left) (ids c.args.path.now) x c.args.right c.in-Some.ensures.held c.requires.right (sym c.in-Some.ensures.same) c.requires.room c.push_pair.new.self pushed

pub unify_pairs-requires : goal.unify_pairs-requires
unify_pairs-requires g c =
    let b = decide_facts g (goal.at.unify_pairs-requires g c).After-push_pair in
    (_, _, _, b.ks, b.covers, b.running)

pub returns-then-not-unify_pairs-clause-none : goal.returns-then-not-unify_pairs-clause-none
returns-then-not-unify_pairs-clause-none g c e =
    let b = decide_facts g (goal.at.returns-then-not-unify_pairs-clause-none g c).After-push_pair in
    c.unify_pairs.ensures.clash c.if-not-unify_pairs.true _ _ _ b.ks b.covers b.running _ b.below b.value b.there

pub is_acyclic-requires-clause-start : goal.is_acyclic-requires-clause-start
is_acyclic-requires-clause-start g c =
    let b = decide_facts g (goal.at.is_acyclic-requires-clause-start g c).After-push_pair in
    let done = c.unify_pairs.ensures.done c.if-not-unify_pairs.false _ _ _ b.ks b.covers b.running in
    walkable (g.N.Nodes.shown c.args.nodes.now) (g.met.N.Nodes.lawful c.args.nodes.now) c.unify_pairs.new.scratch _ _ _ b.ks b.covers done.0 done.1

pub returns-then-not-is_acyclic-clause-none : goal.returns-then-not-is_acyclic-clause-none
returns-then-not-is_acyclic-clause-none g c e =
    let v = g.N.Nodes.shown c.args.nodes.now in
    let s = g.met.N.Nodes.lawful c.args.nodes.now in
    let b = decide_facts g (goal.at.returns-then-not-is_acyclic-clause-none g c).After-push_pair in
    let done = c.unify_pairs.ensures.done c.if-not-unify_pairs.false _ _ _ b.ks b.covers b.running in
    let u = c.unify_pairs.new.scratch in
    let start = walkable v s u _ _ _ b.ks b.covers done.0 done.1 in
    let back = subst (λ (b : Bool). IsWalked v u c.is_acyclic.new.scratch _ start b) c.if-not-is_acyclic.true (c.is_acyclic.ensures.walked start) in
    circle_refutes v s u _ _ _ b.ks b.covers done.0 done.1 b.below b.value _ b.there back

pub returns-clause-solvable : goal.returns-clause-solvable
returns-clause-solvable g c e =
    let v = g.N.Nodes.shown c.args.nodes.now in
    let s = g.met.N.Nodes.lawful c.args.nodes.now in
    let b = decide_facts g (goal.at.returns-clause-solvable g c).After-push_pair in
    let done = c.unify_pairs.ensures.done c.if-not-unify_pairs.false _ _ _ b.ks b.covers b.running in
    let u = c.unify_pairs.new.scratch in
    let t = c.is_acyclic.new.scratch in
    let start = walkable v s u _ _ _ b.ks b.covers done.0 done.1 in
    let off = subst (λ (b : Bool). IsWalked v u t _ start b) c.if-not-is_acyclic.false (c.is_acyclic.ensures.walked start) in
    settled_for v s u t _ _ _ b.ks b.covers done.0 b.below b.value _ b.there done.1 off (value_below v s c.args.right c.requires.right) (b.stays u t done.0.rooms off.still)
