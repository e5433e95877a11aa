use Rattle.patr_parse.proofs.Names.{sentence_of}
use Rattle.patr_parse.proofs.ItemEdges.{leaf_alone}
use Rattle.patr_parse.proofs.Tasks.{item_at}
use Rattle.patr_parse.proofs.prediction.leaf_edge.Goals as goal

pub returns-clause-edge : goal.returns-clause-edge
returns-clause-edge c =
    let s = c.args.library.now in
    leaf_alone s c.entries.ensures.stored (sentence_of c.args.arena.now) c.requires.base.shown c.args.arena.now.lawful c.requires.base.longer
    c.args.number _ (item_at c.entries.result.now s.entries c.entries.ensures.same c.args.number _ c.requires.number) c.args.at
