use Rattle.std.proofs.Common.{◌∙◌, ◌+◌, List, length, ap, subst, sym, arith}
use Rattle.patr_arena.specs.declared.value.Feature.{Feature}
use Rattle.patr_arena.specs.Blocks.{OldIsHeld}
use Rattle.patr_arena.specs.Shown.{Shown}
use Rattle.patr_arena.specs.Arenas.{shown_of}
use Rattle.patr_arena.proofs.tests.ladder.Goals as goal

pub loop-last-init : goal.loop-last-init
loop-last-init c =
    let start : (v : Shown) → OldIsHeld v c.new-block.result = λ v. subst (λ (nodes : List (List Feature)). OldIsHeld v nodes) (sym c.new-block.ensures) (λ n. tt) in
    record { size = c.in_ok-add.ensures.0 ∙ ap (λ (nodes : List (List Feature)). length nodes + 1) c.new-block.ensures; own = c.in_ok-add.ensures.1 start }

pub loop-last-preserved : goal.loop-last-preserved
loop-last-preserved c =
    let size = c.in_ok-add_two.ensures.0 in
    let before = c.loop-last.invariant.size in
    record { size = omega (arith, size, before); own = c.in_ok-add_two.ensures.1 c.loop-last.invariant.own }

pub push-requires : goal.push-requires
push-requires c = c.loop-last.invariant.own (shown_of c.new-arena.result)
