use Rattle.std.proofs.Common.{◌≡◌, ◌∙◌, ◌++◌, ◌∷◌, [], List, length, length-append, ap, subst, sym}
use Rattle.patr_arena.specs.declared.value.Feature.{Feature}
use Rattle.patr_arena.specs.Blocks.{OldIsHeld}
use Rattle.patr_arena.proofs.Showing.{old_push}
use Rattle.patr_unify.proofs.tests.add.Goals as goal

pub returns : goal.returns
returns c =
    let new : c.add.new.self ≡ c.args.block.now ++ c.args.arcs.now ∷ [] = c.in_ok-add.ensures.ok.1 in (
      ap length new ∙ length-append c.args.block.now (c.args.arcs.now ∷ []),
      λ old v. subst (λ (nodes : List (List Feature)). OldIsHeld v nodes) (sym new) (old_push v c.args.block.now c.args.arcs.now (old v) (c.requires.own v)),
    )
