use Rattle.std.proofs.Common.{◌∙◌, List, sym, ap, subst}
use Rattle.patr_arena.specs.declared.value.Feature.{Feature}
use Rattle.patr_arena.specs.Shown.{AllHeld, arcs_from}
use Rattle.patr_arena.specs.Sentences.{sentence_of}
use Rattle.patr_arena.proofs.InArenas.{before_own, in_own}
use Rattle.patr_arena.proofs.sentence.SentenceArenaNodes.arcs.Goals as goal

pub arcs-requires : goal.arcs-requires
arcs-requires c = (before_own c.args.self.now c.args.at c.blocks_before-own.result c.blocks_before-own.ensures c.if-at-own.true c.requires).held

pub arcs-requires-else-at-own : goal.arcs-requires-else-at-own
arcs-requires-else-at-own c = (in_own c.args.self.now c.args.at c.blocks_before-own.result c.blocks_before-own.ensures c.if-at-own.false c.requires).has

pub returns-then-at-own-clause-same : goal.returns-then-at-own-clause-same
returns-then-at-own-clause-same c =
    ((before_own c.args.self.now c.args.at c.blocks_before-own.result c.blocks_before-own.ensures c.if-at-own.true c.requires).node c.arcs.result.now c.arcs.ensures.same c.arcs.ensures.held).0

pub returns-then-at-own-clause-held : goal.returns-then-at-own-clause-held
returns-then-at-own-clause-held c =
    ((before_own c.args.self.now c.args.at c.blocks_before-own.result c.blocks_before-own.ensures c.if-at-own.true c.requires).node c.arcs.result.now c.arcs.ensures.same c.arcs.ensures.held).1

pub returns-else-at-own-clause-same : goal.returns-else-at-own-clause-same
returns-else-at-own-clause-same c =
    ap (λ (fs : List Feature). arcs_from (sentence_of c.args.self.now) c.args.at.block fs) c.arcs-else-at-own.ensures
    ∙ (in_own c.args.self.now c.args.at c.blocks_before-own.result c.blocks_before-own.ensures c.if-at-own.false c.requires).same

pub returns-else-at-own-clause-held : goal.returns-else-at-own-clause-held
returns-else-at-own-clause-held c =
    subst (λ (fs : List Feature). AllHeld (sentence_of c.args.self.now) c.args.at.block fs) (sym c.arcs-else-at-own.ensures)
    (in_own c.args.self.now c.args.at c.blocks_before-own.result c.blocks_before-own.ensures c.if-at-own.false c.requires).held
