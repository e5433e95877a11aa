use Rattle.std.proofs.Common.{ℕ, ◌≤◌, arith, ◌++◌, ◌∷◌, [], length, subst}
use Rattle.patr_canon.proofs.Names.{IsWalking, Task, TaskIsReady}
use Rattle.patr_canon.proofs.Walks.{step_close, step_arc, one_longer}
use Rattle.patr_canon.proofs.walk.Walk.step.Goals as goal

further : (n m k : ℕ) → n ≤ m → m ≤ k → n ≤ k
further n m k h j = omega (arith, h, j)

pub returns-in_ok-push-in-Close : goal.returns-in_ok-push-in-Close
returns-in_ok-push-in-Close g c =
    let v = g.N.Nodes.shown c.args.nodes.now in
    let s = g.met.N.Nodes.lawful c.args.nodes.now in
    record {
      walking = λ total w. step_close v s c.args.look.now total c.args.self.now.done c.insert.new.self c.in-Close.node c.args.self.now.events.items c.push.new.self.items c.args.self.now.tasks.items
          c.in_ok-insert-in-Close.ensures.updates.0 c.in_ok-push-in-Close.ensures.items
          (subst (λ (t : Task). IsWalking v c.args.look.now total c.args.self.now.done c.args.self.now.events.items (c.args.self.now.tasks.items ++ t ∷ [])) c.in-Close.is w);
      grows = one_longer c.args.self.now.events.items c.push.new.self.items _ c.in_ok-push-in-Close.ensures.items;
    }

pub enter-requires-clause-value : goal.enter-requires-clause-value
enter-requires-clause-value g c = (subst (TaskIsReady (g.N.Nodes.shown c.args.nodes.now) (length c.args.look.now.symbols.now)) c.in-Arc.is c.requires.task).1

pub enter-requires-clause-spelled : goal.enter-requires-clause-spelled
enter-requires-clause-spelled g c = (subst (TaskIsReady (g.N.Nodes.shown c.args.nodes.now) (length c.args.look.now.symbols.now)) c.in-Arc.is c.requires.task).2

pub returns-in_ok-enter-in-Arc : goal.returns-in_ok-enter-in-Arc
returns-in_ok-enter-in-Arc g c =
    let v = g.N.Nodes.shown c.args.nodes.now in
    let s = g.met.N.Nodes.lawful c.args.nodes.now in
    record {
      walking = λ total w. c.in_ok-enter-in-Arc.ensures.walking total (step_arc v s c.args.look.now total c.args.self.now.done c.in-Arc.first c.in-Arc.attribute c.in-Arc.to c.args.self.now.events.items c.push-in-Arc.new.self.items
          c.args.self.now.tasks.items c.in_ok-push-in-Arc.ensures.items
          (subst (λ (t : Task). IsWalking v c.args.look.now total c.args.self.now.done c.args.self.now.events.items (c.args.self.now.tasks.items ++ t ∷ [])) c.in-Arc.is w));
      grows = further _ _ _ (one_longer c.args.self.now.events.items c.push-in-Arc.new.self.items _ c.in_ok-push-in-Arc.ensures.items) c.in_ok-enter-in-Arc.ensures.grows;
    }
