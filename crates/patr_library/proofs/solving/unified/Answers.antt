use Rattle.std.proofs.Common.{◌++◌, subst, None, Some}
use Rattle.patr_library.proofs.Names.{within_append, shown_of, AreUnified}
use Rattle.patr_arena.specs.declared.value.Ref.TheVariants as ref
use Rattle.patr_library.proofs.Parts.{least_of_both}
use Rattle.patr_library.proofs.Placed.{held_anywhere}
use Rattle.patr_library.proofs.Workspaces.{put_least, least_alone}
use Rattle.patr_library.proofs.solving.unified.Goals as goal

pub put-requires-clause-block : goal.put-requires-clause-block
put-requires-clause-block c = held_anywhere (shown_of c.new-space.result.arena) c.args.left.block c.requires.left.2.2.rooted.own

pub unify-requires-clause-left : goal.unify-requires-clause-left
unify-requires-clause-left c =
    let left = c.requires.left in
    let put = c.in_ok-first.ensures in
    (put_least (shown_of c.new-space.result.arena) (shown_of c.put.new.self.arena) c.new-space.result.arena.lawful c.args.left.block put.pushed left.0 left.1 c.args.left.root c.in_ok-first.first c.put.new.self.arena.lawful left.2.0 left.2.1 left.2.2 put.held put.value).0

pub returns-in_default : goal.returns-in_default
returns-in_default c =
    let w = shown_of c.put.new.self.arena in
    let u = shown_of c.unify.new.self.arena in
    let x = c.in_ok-first.first in
    let put = c.in_ok-first.ensures in
    let r = ref.New c.args.right.root in
    λ slots es fs begun within right.
    least_of_both slots es fs w u x c.args.right.block c.args.right.root None begun.1 within
    (put_least (shown_of c.new-space.result.arena) w c.new-space.result.arena.lawful c.args.left.block put.pushed slots es c.args.left.root x c.put.new.self.arena.lawful begun.0 begun.1 begun.2 put.held put.value)
    right (subst (AreUnified w u x c.args.right.block r) c.in_default.is c.in_ok-whole.ensures.unified)

pub compacted-requires-clause-from : goal.compacted-requires-clause-from
compacted-requires-clause-from c =
    (subst (AreUnified (shown_of c.put.new.self.arena) (shown_of c.unify.new.self.arena) c.in_ok-first.first c.args.right.block (ref.New c.args.right.root)) c.in-Some.is c.in_ok-whole.ensures.unified).slots

pub returns : goal.returns
returns c =
    let w = shown_of c.put.new.self.arena in
    let u = shown_of c.unify.new.self.arena in
    let x = c.in_ok-first.first in
    let put = c.in_ok-first.ensures in
    let r = ref.New c.args.right.root in
    let least = c.in_ok-least.least in
    λ slots es fs begun within right.
    least_alone u slots (es ++ fs) c.in-Some.whole least.block least.root (within_append slots es fs begun.1 within)
    (least_of_both slots es fs w u x c.args.right.block c.args.right.root (Some c.in-Some.whole) begun.1 within
    (put_least (shown_of c.new-space.result.arena) w c.new-space.result.arena.lawful c.args.left.block put.pushed slots es c.args.left.root x c.put.new.self.arena.lawful begun.0 begun.1 begun.2 put.held put.value)
    right (subst (AreUnified w u x c.args.right.block r) c.in-Some.is c.in_ok-whole.ensures.unified))
    c.in_ok-least.ensures.rooted c.in_ok-least.ensures.same
