use Rattle.patr_unify.specs.Reading.{key}
use Rattle.patr_unify.proofs.Keys.{found_own, found_added, found_held}
use Rattle.patr_unify.proofs.Merges.{place_room}
use Rattle.patr_unify.proofs.lists.find.Goals as goal

pub returns-in-Some-clause-same : goal.returns-in-Some-clause-same
returns-in-Some-clause-same g c =
    let v = g.N.Nodes.shown c.args.nodes.now in
    found_own v c.args.scratch.now (key v c.args.place) c.args.attribute c.in-Some.target c.in-Some.ensures.same

pub returns-then-extended-clause-same : goal.returns-then-extended-clause-same
returns-then-extended-clause-same g c =
    let v = g.N.Nodes.shown c.args.nodes.now in
    found_added v c.args.scratch.now (g.met.N.Nodes.lawful c.args.nodes.now) c.args.place c.number.result c.args.attribute c.find_added.result c.requires.place c.number.ensures c.in-None.ensures.same c.find_added.ensures

pub returns-then-extended-clause-held : goal.returns-then-extended-clause-held
returns-then-extended-clause-held g c =
    let v = g.N.Nodes.shown c.args.nodes.now in
    found_held v c.args.scratch.now (g.met.N.Nodes.lawful c.args.nodes.now) c.requires.held c.args.place c.number.result c.args.attribute c.find_added.result c.requires.place c.number.ensures c.find_added.ensures

pub find_added-requires : goal.find_added-requires
find_added-requires g c = place_room (g.N.Nodes.shown c.args.nodes.now) c.args.scratch.now (g.met.N.Nodes.lawful c.args.nodes.now) c.requires.held c.args.place c.number.result c.requires.place c.number.ensures
