use Rattle.patr_unify.proofs.Merges.{place_room}
use Rattle.patr_unify.proofs.unify_pair.bind.Goals as goal

pub set_forward-requires : goal.set_forward-requires
set_forward-requires g c = place_room (g.N.Nodes.shown c.args.nodes.now) c.args.scratch.now (g.met.N.Nodes.lawful c.args.nodes.now) c.requires.held c.args.place c.number.result c.requires.place c.number.ensures
