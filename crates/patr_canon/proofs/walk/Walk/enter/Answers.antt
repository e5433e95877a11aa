use Rattle.std.proofs.Common.{length, sym, subst}
use Rattle.patr_arena.specs.declared.value.Value.{Value}
use Rattle.patr_canon.proofs.Names.{AreSpelled, HasEntered, IsEntering, ValueIsHeld, value_of}
use Rattle.patr_canon.proofs.Walks.{enter_atom, enter_again, no_shorter}
use Rattle.patr_canon.proofs.walk.Walk.enter.Goals as goal

pub returns-in_ok-push-in-Atom : goal.returns-in_ok-push-in-Atom
returns-in_ok-push-in-Atom g c =
    let v = g.N.Nodes.shown c.args.nodes.now in
    let s = g.met.N.Nodes.lawful c.args.nodes.now in
    record {
      walking = λ total w. enter_atom v s c.args.look.now total c.args.self.now.done c.in-Atom.atom c.args.self.now.events.items c.push.new.self.items c.args.self.now.tasks.items
          (subst (λ (x : Value). AreSpelled (length c.args.look.now.symbols.now) v.structure (value_of v x)) c.in-Atom.is c.requires.spelled) c.in_ok-push-in-Atom.ensures.items
          (subst (λ (x : Value). IsEntering v c.args.look.now x total c.args.self.now.done c.args.self.now.events.items c.args.self.now.tasks.items) c.in-Atom.is w);
      grows = no_shorter c.args.self.now.events.items c.push.new.self.items _ c.in_ok-push-in-Atom.ensures.items;
    }

pub open-requires-clause-spelled : goal.open-requires-clause-spelled
open-requires-clause-spelled g c =
    let v = g.N.Nodes.shown c.args.nodes.now in
    subst (λ (x : Value). AreSpelled (length c.args.look.now.symbols.now) v.structure (value_of v x)) c.in-Node.is c.requires.spelled

pub returns-in_ok-push-in-Node : goal.returns-in_ok-push-in-Node
returns-in_ok-push-in-Node g c =
    let v = g.N.Nodes.shown c.args.nodes.now in
    let s = g.met.N.Nodes.lawful c.args.nodes.now in
    record {
      walking = λ total w. enter_again v s c.args.look.now total c.args.self.now.done c.in-Node.at c.number-node.result c.args.self.now.events.items c.push-then-contains.new.self.items c.args.self.now.tasks.items
          (subst (ValueIsHeld v) c.in-Node.is c.requires.value) c.number-node.ensures (sym c.if-contains.ensures) c.in_ok-push-in-Node.ensures.items
          (subst (λ (x : Value). IsEntering v c.args.look.now x total c.args.self.now.done c.args.self.now.events.items c.args.self.now.tasks.items) c.in-Node.is w);
      grows = no_shorter c.args.self.now.events.items c.push-then-contains.new.self.items _ c.in_ok-push-in-Node.ensures.items;
    }

pub returns-in_ok-open-in-Node : goal.returns-in_ok-open-in-Node
returns-in_ok-open-in-Node g c =
    let v = g.N.Nodes.shown c.args.nodes.now in
    subst (λ (x : Value). HasEntered v c.args.look.now x c.args.self.now c.open.new.self) (sym c.in-Node.is) c.in_ok-open-in-Node.ensures
