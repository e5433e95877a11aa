use Rattle.std.proofs.Common.{◌∙◌}
use Rattle.patr_arena.specs.Arenas.{shown_of}
use Rattle.patr_arena.proofs.RowsShow.{row_count}
use Rattle.patr_arena.proofs.sentence.SentenceArenaNodes.count.Goals as goal

pub returns : goal.returns
returns c =
    let arena = c.args.self.now in
    c.nodes.ensures.count ∙ row_count (shown_of arena.base.now) arena.base.now.lawful arena.row arena.first_block arena.first_node arena.blocks
