use Rattle.std.proofs.Common.{length, ap, arith}
use Rattle.patr_arena.proofs.Cutting.{cut_length}
use Rattle.patr_arena.proofs.block.Block.arcs.Goals as goal

pub piece-requires-clause-inside : goal.piece-requires-clause-inside
piece-requires-clause-inside c =
    let size = cut_length c.self.inside.features.items 0 c.self.inside.ends.items in
    let view = ap length c.self.view_is in
    let same = ap length c.deref-2.ensures.value in
    let below = c.requires in
    omega arith
