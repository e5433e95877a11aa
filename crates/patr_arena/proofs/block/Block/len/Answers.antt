use Rattle.std.proofs.Common.{◌∙◌, sym, ap, length}
use Rattle.patr_arena.proofs.Cutting.{cut_length}
use Rattle.patr_arena.proofs.block.Block.len.Goals as goal

pub returns-clause-len : goal.returns-clause-len
returns-clause-len c = c.len.ensures ∙ (c.self.inside.ends.ok.0 ∙ (sym (cut_length c.self.inside.features.items 0 c.self.inside.ends.items) ∙ ap length c.self.view_is))
