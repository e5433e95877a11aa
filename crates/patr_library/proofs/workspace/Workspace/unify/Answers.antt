use Rattle.std.proofs.Common.{[], ap, sym, subst, IfNone, IfSome}
use Rattle.patr_library.proofs.Names.{Value, Structure, TakesBoth, IsUnifier, shown_of, value_of, with_block, made_of, own_nodes, own_value}
use Rattle.patr_library.specs.Solved.{HaveNoUnifier, IsMadeOf}
use Rattle.patr_library.proofs.Placed.{held_anywhere}
use Rattle.patr_library.proofs.Steps.{same_none}
use Rattle.patr_library.proofs.Workspaces.{before_same, put_same, is_unified}
use Rattle.patr_library.proofs.workspace.Workspace.unify.Goals as goal

pub put-requires-clause-block : goal.put-requires-clause-block
put-requires-clause-block c = held_anywhere (shown_of c.args.self.now.arena) c.args.right.block c.requires.right.own

pub returns-in_default-2-clause-unified : goal.returns-in_default-2-clause-unified
returns-in_default-2-clause-unified c =
    let v = shown_of c.args.self.now.arena in
    let w = shown_of c.put.new.self.arena in
    let s = c.args.self.now.arena.lawful in
    let left = c.args.left in
    let right = c.args.right in
    let x = c.in_ok-stated.stated in
    let put = c.in_ok-stated.ensures in
    let none : HaveNoUnifier w c.in-Node.node x = subst (λ o. IfNone o (HaveNoUnifier w c.in-Node.node x)) c.in_default-2.is c.in_ok-made.ensures.none in
    same_none w.structure (value_of w left) w.structure (value_of w x) v.structure (value_of v left) (own_nodes right.block) (own_value right.root)
    (before_same v w s right.block put.pushed left c.requires.left.held) (put_same v w s right.block put.pushed right.root (value_of w x) c.requires.right put.value)
    (subst (λ z. (G : Structure) (y : Value) → TakesBoth w.structure z [] w.structure (value_of w x) G y → ⊥) (sym (ap (value_of w) c.in-Node.is)) none)

pub returns-clause-unified : goal.returns-clause-unified
returns-clause-unified c =
    let v = shown_of c.args.self.now.arena in
    let w = shown_of c.put.new.self.arena in
    let m = c.in-Some.made in
    let x = c.in_ok-stated.stated in
    let put = c.in_ok-stated.ensures in
    let more = c.in_ok-whole.ensures in
    let made : IsMadeOf w c.in-Node.node x m = subst (λ o. IfSome o (λ m. IsMadeOf w c.in-Node.node x m)) c.in-Some.is c.in_ok-made.ensures.some in
    is_unified v w c.args.self.now.arena.lawful c.args.right.block put.pushed (shown_of c.put-2.new.self.arena) c.args.left x c.in_ok-whole.whole c.args.right.root c.requires.left c.requires.right put.value
    m.block m.root more.pushed more.value more.held
    (subst (λ z. IsUnifier w.structure z [] w.structure (value_of w x) (with_block w m.block).structure (made_of w m.root)) (sym (ap (value_of w) c.in-Node.is)) made.unifier)
