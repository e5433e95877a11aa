use Rattle.std.proofs.Common.{◌≡◌, ℕ, ◌+◌, ◌-◌, ◌<◌, ◌≤◌, [], List, length, sym, ◌∙◌, subst, arith}
use Rattle.patr_canon.proofs.Names.{IsWalking, Task, events, look_of, tree_of, value_of}
use Rattle.patr_arena.proofs.Maps.{nothing_waits}
use Rattle.patr_canon.proofs.Walks.{enter_first, next_ready, set_none, walked_all, walked_part}
use Rattle.patr_canon.proofs.walk.walked.Goals as goal

falls : (all n m : ℕ) → n + 1 ≤ m → m ≤ all → all - m < all - n
falls all n m h j = omega (arith, h, j)

pub loop-task-init : goal.loop-task-init
loop-task-init g c =
    let v = g.N.Nodes.shown c.args.nodes.now in
    let s = g.met.N.Nodes.lawful c.args.nodes.now in
    c.in_ok-enter.ensures.walking _ (enter_first v s c.args.look.now c.clear.new.self c.args.value c.clear-2.new.self.items c.clear-3.new.self.items (set_none c.clear.new.self c.clear.ensures.empty) c.clear-2.ensures.items c.clear-3.ensures.items)

pub step-requires-clause-task : goal.step-requires-clause-task
step-requires-clause-task g c =
    let v = g.N.Nodes.shown c.args.nodes.now in
    let s = g.met.N.Nodes.lawful c.args.nodes.now in
    let total = events (tree_of (look_of c.args.look.now) v.structure (value_of v c.args.value)) in
    next_ready v s c.args.look.now total c.loop-task.walk.done c.in-Some.task c.loop-task.walk.events.items c.pop.new.self.items
    (subst (λ (ts : List Task). IsWalking v c.args.look.now total c.loop-task.walk.done c.loop-task.walk.events.items ts) c.in-Some.ensures.items c.loop-task.invariant)

pub loop-task-preserved : goal.loop-task-preserved
loop-task-preserved g c =
    let v = g.N.Nodes.shown c.args.nodes.now in
    let total = events (tree_of (look_of c.args.look.now) v.structure (value_of v c.args.value)) in
    c.in_ok-step.ensures.walking total
    (subst (λ (ts : List Task). IsWalking v c.args.look.now total c.loop-task.walk.done c.loop-task.walk.events.items ts) c.in-Some.ensures.items c.loop-task.invariant)

pub loop-task-smaller : goal.loop-task-smaller
loop-task-smaller g c =
    let v = g.N.Nodes.shown c.args.nodes.now in
    let s = g.met.N.Nodes.lawful c.args.nodes.now in
    let total = events (tree_of (look_of c.args.look.now) v.structure (value_of v c.args.value)) in
    let next = c.in_ok-step.ensures.walking total
    (subst (λ (ts : List Task). IsWalking v c.args.look.now total c.loop-task.walk.done c.loop-task.walk.events.items ts) c.in-Some.ensures.items c.loop-task.invariant) in
    falls (length total) (length c.loop-task.walk.events.items) (length c.step.new.self.events.items) c.in_ok-step.ensures.grows
    (walked_part v s c.args.look.now total c.step.new.self.done c.step.new.self.events.items c.step.new.self.tasks.items next)

pub returns-clause-events : goal.returns-clause-events
returns-clause-events g c =
    let v = g.N.Nodes.shown c.args.nodes.now in
    let s = g.met.N.Nodes.lawful c.args.nodes.now in
    let none : c.loop-task.walk.tasks.items ≡ [] = nothing_waits c.loop-task.walk.tasks.items (sym c.in_default.ensures.cases.0 ∙ c.loop-task.walk.tasks.ok.0) in
    walked_all v s c.args.look.now (events (tree_of (look_of c.args.look.now) v.structure (value_of v c.args.value))) c.loop-task.walk.done c.loop-task.walk.events.items c.loop-task.walk.tasks.items none c.loop-task.invariant

pub returns-clause-spelled : goal.returns-clause-spelled
returns-clause-spelled g c = c.loop-task.invariant.spelled
