use Rattle.std.proofs.Common.{◌∙◌}
use Rattle.patr_arena.specs.Blocks.{nothing}
use Rattle.patr_arena.proofs.RowsShow.{nothing_shown, row_count}
use Rattle.patr_arena.proofs.plain.PlainArenaNodes.count.Goals as goal

pub returns : goal.returns
returns c =
    let arena = c.args.self.now in
    c.nodes.ensures.count ∙ row_count nothing nothing_shown arena.row arena.first_block arena.first_node arena.blocks
