use Rattle.std.proofs.Common.{arith}
use Rattle.patr_unify.proofs.tests.list.Goals as goal

pub loop-below-init : goal.loop-below-init
loop-below-init c =
    let none = c.bare-block.ensures.empty in
    let one = c.in_ok-add.ensures.0 in
    let two = c.in_ok-add-2.ensures.0 in
    let three = c.in_ok-add-3.ensures.0 in
    record { size = omega (arith, none, one, two, three); own = c.in_ok-add-3.ensures.1 (c.in_ok-add-2.ensures.1 (c.in_ok-add.ensures.1 c.bare-block.ensures.own)) }

pub loop-below-preserved : goal.loop-below-preserved
loop-below-preserved c =
    let size = c.in_ok-add-4.ensures.0 in
    let before = c.loop-below.invariant.size in
    record { size = omega (arith, size, before); own = c.in_ok-add-4.ensures.1 c.loop-below.invariant.own }

pub arena_of-requires : goal.arena_of-requires
arena_of-requires c = c.loop-below.invariant.own
