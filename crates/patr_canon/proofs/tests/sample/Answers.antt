use Rattle.std.proofs.Common.{sym, ap, subst, ◌∙◌}
use Rattle.patr_canon.proofs.Names.{AreSpelled, Node, Shown, shown_of, with_block}
use Rattle.patr_canon.proofs.Spelled.{block_spelled, nodes_own}
use Rattle.patr_canon.proofs.tests.sample.Goals as goal

pub push-requires : goal.push-requires
push-requires c = nodes_own 44 c.in_ok-block.block c.in_ok-block.ensures.symbols (shown_of c.new-arena.result)

pub returns-clause-spelled : goal.returns-clause-spelled
returns-clause-spelled c = λ k.
    subst (λ (u : Shown). AreSpelled 44 u.structure (Node k)) (sym (c.in-Ok.ensures.1 ∙ ap (λ (u : Shown). with_block u c.in_ok-block.block) c.new-arena.ensures))
    (block_spelled 44 c.in_ok-block.block c.in_ok-block.ensures.symbols (Node k) tt)
