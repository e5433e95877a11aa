use Rattle.std.proofs.Common.{◌∙◌}
use Rattle.patr_arena.proofs.InArenas.{in_plain}
use Rattle.patr_arena.proofs.plain.PlainArenaNodes.number.Goals as goal

pub number-requires : goal.number-requires
number-requires c = (in_plain c.args.self.now c.args.at c.requires).has

pub returns : goal.returns
returns c = c.number.ensures ∙ (in_plain c.args.self.now c.args.at c.requires).number
