use Rattle.patr_unify.proofs.Loops.{none_added}
use Rattle.patr_unify.proofs.Merges.{place_room}
use Rattle.patr_unify.proofs.lists.is_extended.Goals as goal

pub returns-in-None : goal.returns-in-None
returns-in-None g c _ =
    none_added (g.N.Nodes.shown c.args.nodes.now) c.args.scratch.now (g.met.N.Nodes.lawful c.args.nodes.now) c.args.place c.number.result c.requires.place c.number.ensures c.in-None.ensures

pub first_arc-requires : goal.first_arc-requires
first_arc-requires g c = place_room (g.N.Nodes.shown c.args.nodes.now) c.args.scratch.now (g.met.N.Nodes.lawful c.args.nodes.now) c.requires.held c.args.place c.number.result c.requires.place c.number.ensures
