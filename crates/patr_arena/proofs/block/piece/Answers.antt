use Rattle.std.proofs.Common.{◌∙◌}
use Rattle.patr_arena.proofs.Cutting.{cut_read}
use Rattle.patr_arena.proofs.block.piece.Goals as goal

pub between-requires : goal.between-requires
between-requires g c =
    let read = cut_read c.args.items.now c.args.ends.now c.args.n c.start_of.result c.requires.ends c.requires.inside c.start_of.ensures in
    (read.0, read.1)

pub returns : goal.returns
returns g c = c.between.ensures ∙ (cut_read c.args.items.now c.args.ends.now c.args.n c.start_of.result c.requires.ends c.requires.inside c.start_of.ensures).2
