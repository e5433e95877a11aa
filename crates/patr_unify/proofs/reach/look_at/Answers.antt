use Rattle.std.proofs.Common.{rules, ◌≡◌, ◌+◌, ◌∙◌, ℕ, true, false, sym, ap, subst, arith}
use Rattle.patr_model.specs.Structure.{Node}
use Rattle.patr_arena.specs.declared.value.Value.{Value}
use Rattle.patr_arena.specs.Shown.{ValueIsHeld, number_of, value_of}
use Rattle.patr_arena.proofs.Showing.{held_below}
use Rattle.patr_unify.specs.Counting.{is_seen, seen_in}
use Rattle.patr_unify.proofs.Counting.{IsSeen, looked_known, looked_new, seen_put, seen_visit, visited_at}
use Rattle.patr_unify.proofs.reach.look_at.Goals as goal

pub returns-in_default-clause-looked : goal.returns-in_default-clause-looked
returns-in_default-clause-looked g c =
    let v = g.N.Nodes.shown c.args.nodes.now in
    let seen = seen_in c.args.scratch.now in
    looked_known v seen c.args.value c.args.waiting.now.items c.args.reach (subst (λ (x : Value). IsSeen seen (value_of v x)) (sym c.in_default.is) tt) c.requires.waiting

pub returns-then-not-same_visit-clause-looked : goal.returns-then-not-same_visit-clause-looked
returns-then-not-same_visit-clause-looked g c =
    let v = g.N.Nodes.shown c.args.nodes.now in
    let seen = seen_in c.args.scratch.now in
    let there : seen c.number-number.result ≡ true = ap is_seen (sym c.visit.ensures) ∙ seen_visit c.visit.result (c.same_visit.ensures.apart c.if-not-same_visit.true) in
    looked_known v seen c.args.value c.args.waiting.now.items c.args.reach (subst (λ (x : Value). IsSeen seen (value_of v x)) (sym c.in-Node.is) (subst (λ (k : ℕ). IsSeen seen (Node k)) c.number-number.ensures there)) c.requires.waiting

pub returns-clause-looked : goal.returns-clause-looked
returns-clause-looked g c =
    let v = g.N.Nodes.shown c.args.nodes.now in
    let w = c.args.scratch.now in
    let at = c.in-Node.at in
    let n = number_of v at.block at.offset in
    let inside = held_below v (g.met.N.Nodes.lawful c.args.nodes.now) at.block at.offset (subst (ValueIsHeld v) c.in-Node.is c.requires.value) in
    let unseen = ap is_seen (sym c.visit.ensures ∙ c.same_visit.ensures.same c.if-not-same_visit.false) in
    let put = c.set_visit.ensures ∙ ap (λ j. visited_at w j) c.number-number.ensures in
    let one : c.in_ok-ok_or.field-0 ≡ c.args.reach.nodes + 1 = search rules in
    let more : c.in_ok-ok_or-2.field-0 ≡ c.args.reach.arcs + c.in_ok-arcs.arcs = search rules in
    looked_new v (g.met.N.Nodes.lawful c.args.nodes.now) (seen_in w) (seen_in c.set_visit.new.self) c.args.value n c.args.waiting.now.items c.push_targets.new.waiting.items c.args.reach
    (record { nodes = c.in_ok-ok_or.field-0; arcs = c.in_ok-ok_or-2.field-0 }) (ap (value_of v) c.in-Node.is) inside (subst (λ (k : ℕ). seen_in w k ≡ false) c.number-number.ensures unseen)
    (λ k. ap (λ u. seen_in u k) put ∙ seen_put w n (let table = c.requires.table in omega (arith, inside, table)) k) one (more ∙ ap (λ a. c.args.reach.arcs + a) c.in_ok-arcs.ensures.arcs)
    c.in_ok-arcs.ensures.targets c.in_ok-arcs.ensures.held
