use Rattle.std.proofs.Common.{◌∙◌, sym}
use Rattle.patr_arena.proofs.InArenas.{before_own, in_own}
use Rattle.patr_arena.proofs.sentence.SentenceArenaNodes.number.Goals as goal

pub number-requires : goal.number-requires
number-requires c = (before_own c.args.self.now c.args.at c.blocks_before-own.result c.blocks_before-own.ensures c.if-at-own.true c.requires).held

pub number-requires-else-at-own : goal.number-requires-else-at-own
number-requires-else-at-own c = (in_own c.args.self.now c.args.at c.blocks_before-own.result c.blocks_before-own.ensures c.if-at-own.false c.requires).has

pub returns-then-at-own : goal.returns-then-at-own
returns-then-at-own c = c.number.ensures ∙ sym (before_own c.args.self.now c.args.at c.blocks_before-own.result c.blocks_before-own.ensures c.if-at-own.true c.requires).number

pub returns-else-at-own : goal.returns-else-at-own
returns-else-at-own c = c.number-else-at-own.ensures ∙ (in_own c.args.self.now c.args.at c.blocks_before-own.result c.blocks_before-own.ensures c.if-at-own.false c.requires).number
