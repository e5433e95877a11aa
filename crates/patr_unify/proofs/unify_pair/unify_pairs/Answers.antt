use Rattle.std.proofs.Common.{rules, ◌+◌, ◌*◌, ◌<◌, ℕ, Bool, List, length, sym, subst}
use Rattle.patr_lists.specs.Numbers.{total, upto}
use Rattle.patr_model.specs.Structure.{Value}
use Rattle.patr_scratch.specs.Contents.{Contents}
use Rattle.patr_unify.specs.Stepping.{Covers, IsRunning, Outcome, weight_of}
use Rattle.patr_unify.proofs.Running.{with_pair, was_pushed, pair_held, still_held, log_there, same_log, running_on, falls_on, clash_refutes}
use Rattle.patr_unify.proofs.unify_pair.unify_pairs.Given.{Over}
use Rattle.patr_unify.proofs.unify_pair.unify_pairs.Goals.{In-Some}
use Rattle.patr_unify.proofs.unify_pair.unify_pairs.Goals as goal

-- the pair that was popped is still to be worked off
pair_facts : (g : Over) (c : In-Some g) (l : ℕ) (r target : Value) (ks : List ℕ) → Covers (g.N.Nodes.shown c.args.nodes.now) l r ks → IsRunning (g.N.Nodes.shown c.args.nodes.now) c.args.scratch.now l r target ks
    → IsRunning (g.N.Nodes.shown c.args.nodes.now) (with_pair c.pop_pair.new.self c.in-Some.a c.in-Some.b) l r target ks
pair_facts g c l r target ks covers start =
    subst (λ (z : Contents). IsRunning (g.N.Nodes.shown c.args.nodes.now) z l r target ks) (was_pushed c.loop-a.scratch c.pop_pair.new.self (c.in-Some.a, c.in-Some.b) c.in-Some.ensures.rest c.in-Some.ensures.last)
    (c.loop-a.invariant.running l r target ks covers start)

pub unify_pair-requires : goal.unify_pair-requires
unify_pair-requires g c =
    let v = g.N.Nodes.shown c.args.nodes.now in
    let t = c.pop_pair.new.self in
    let a = c.in-Some.a in
    let b = c.in-Some.b in
    let q = c.requires in
    let run = pair_facts g (goal.at.unify_pair-requires g c).In-Some q.0 q.1 q.2 q.3 q.4 q.5 in
    let held = pair_held v t.pairs (a, b) run.pairs_held in
    record { a = held.1; b = held.2; held = still_held v t a b q.0 q.1 q.2 q.3 run; pairs_held = held.0; log = log_there v t a b q.0 q.1 q.2 q.3 q.4 run }

pub returns-then-not-unify_pair-clause-clash : goal.returns-then-not-unify_pair-clause-clash
returns-then-not-unify_pair-clause-clash g c _ l r target ks covers start =
    let v = g.N.Nodes.shown c.args.nodes.now in
    let t = c.pop_pair.new.self in
    let run = pair_facts g (goal.at.returns-then-not-unify_pair-clause-clash g c).In-Some l r target ks covers start in
    clash_refutes v t c.unify_pair.new.scratch c.in-Some.a c.in-Some.b l r target ks run (g.met.N.Nodes.lawful c.args.nodes.now)
    (subst (λ (b : Bool). Outcome v t c.unify_pair.new.scratch run.log c.in-Some.a c.in-Some.b b) c.if-not-unify_pair.true (c.unify_pair.ensures.outcome run.log (same_log v t c.in-Some.a c.in-Some.b run.log run.has_log)))

pub loop-a-smaller : goal.loop-a-smaller
loop-a-smaller g c =
    let v = g.N.Nodes.shown c.args.nodes.now in
    let t = c.pop_pair.new.self in
    let q = c.requires in
    let run = pair_facts g (goal.at.loop-a-smaller g c).In-Some q.0 q.1 q.2 q.3 q.4 q.5 in
    let out = subst (λ (b : Bool). Outcome v t c.unify_pair.new.scratch run.log c.in-Some.a c.in-Some.b b) c.if-not-unify_pair.false (c.unify_pair.ensures.outcome run.log (same_log v t c.in-Some.a c.in-Some.b run.log run.has_log)) in
    subst (λ (z : Contents). total (weight_of v c.unify_pair.new.scratch) (upto (2 * length v.structure)) + length c.unify_pair.new.scratch.pairs < total (weight_of v z) (upto (2 * length v.structure)) + length z.pairs)
    (sym (was_pushed c.loop-a.scratch t (c.in-Some.a, c.in-Some.b) c.in-Some.ensures.rest c.in-Some.ensures.last)) (falls_on v t c.unify_pair.new.scratch c.in-Some.a c.in-Some.b q.0 q.1 q.2 q.3 run out)

pub loop-a-preserved : goal.loop-a-preserved
loop-a-preserved g c =
    let v = g.N.Nodes.shown c.args.nodes.now in
    let t = c.pop_pair.new.self in
    record {
      running = λ l r target ks covers start.
          (let run = pair_facts g (goal.at.loop-a-preserved g c).In-Some l r target ks covers start in
          running_on v t c.unify_pair.new.scratch c.in-Some.a c.in-Some.b l r target ks run covers c.unify_pair.ensures.steady
          (subst (λ (b : Bool). Outcome v t c.unify_pair.new.scratch run.log c.in-Some.a c.in-Some.b b) c.if-not-unify_pair.false (c.unify_pair.ensures.outcome run.log (same_log v t c.in-Some.a c.in-Some.b run.log run.has_log))));
      room = search rules;
    }
