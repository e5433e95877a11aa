use Rattle.patr_parse.proofs.Names.{sentence_of}
use Rattle.patr_parse.proofs.ItemEdges.{begun_alone, begun_mother}
use Rattle.patr_parse.proofs.Tasks.{item_at}
use Rattle.patr_parse.proofs.prediction.begin_edge.Goals as goal

pub root_for-root-requires-clause-mother : goal.root_for-root-requires-clause-mother
root_for-root-requires-clause-mother c =
    let s = c.args.library.now in
    begun_mother s c.rules.ensures.stored (sentence_of c.args.arena.now) c.requires.base.shown c.args.arena.now.lawful c.requires.base.longer
    c.args.number _ (item_at c.rules.result.now s.rules c.rules.ensures.same c.args.number _ c.requires.number) c.args.at

pub returns-clause-edge : goal.returns-clause-edge
returns-clause-edge c =
    let s = c.args.library.now in
    begun_alone s c.rules.ensures.stored (sentence_of c.args.arena.now) c.requires.base.shown c.args.arena.now.lawful c.requires.base.longer
    c.args.number _ (item_at c.rules.result.now s.rules c.rules.ensures.same c.args.number _ c.requires.number) c.args.at c.root_for-root.result c.root_for-root.ensures.held c.root_for-root.ensures.root
