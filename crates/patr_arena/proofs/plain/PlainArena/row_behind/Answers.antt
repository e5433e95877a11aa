use Rattle.std.proofs.Common.{◌∙◌}
use Rattle.patr_arena.specs.Blocks.{nothing}
use Rattle.patr_arena.proofs.RowsShow.{empty_row, nothing_shown, row_blocks, row_count}
use Rattle.patr_arena.proofs.plain.PlainArena.row_behind.Goals as goal

pub returns : goal.returns
returns c =
    let arena = c.args.self.now in
    c.behind.ensures
    ∙ empty_row _ _ _ _ (row_blocks nothing nothing_shown arena.row arena.first_block arena.first_node arena.blocks) (row_count nothing nothing_shown arena.row arena.first_block arena.first_node arena.blocks)
