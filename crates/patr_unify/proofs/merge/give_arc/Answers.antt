use Rattle.std.proofs.Common.{sym, false}
use Rattle.patr_model.specs.Structure.{along}
use Rattle.patr_unify.specs.Merging.{both}
use Rattle.patr_unify.specs.Reading.{key, value_at}
use Rattle.patr_unify.proofs.Merges.{given_later, given_pair, given_more, pair_room_left, place_room}
use Rattle.patr_unify.proofs.merge.give_arc.Goals as goal

pub returns-then-later : goal.returns-then-later
returns-then-later g c =
    let v = g.N.Nodes.shown c.args.nodes.now in
    given_later v c.args.scratch.now c.args.later (key v c.args.to) c.args.attribute (value_at v c.args.target) c.requires.held c.requires.pairs_held c.if-later.true

pub push_pair-requires : goal.push_pair-requires
push_pair-requires g c =
    let v = g.N.Nodes.shown c.args.nodes.now in
    let w = c.args.scratch.now in
    pair_room_left v w c.args.later false (along (both v w (key v c.args.to)) c.args.attribute) (value_at v c.in-Some.other) (value_at v c.args.target) c.requires.pair_room c.if-later.false (sym c.in-Some.ensures.same)

pub returns-in-Some : goal.returns-in-Some
returns-in-Some g c =
    let v = g.N.Nodes.shown c.args.nodes.now in
    given_pair v c.args.scratch.now c.push_pair.new.self c.args.later (key v c.args.to) c.args.attribute c.args.target c.in-Some.other c.requires.held c.requires.pairs_held c.requires.target c.in-Some.ensures.held
    c.if-later.false c.in-Some.ensures.same c.push_pair.ensures

pub returns-in-None : goal.returns-in-None
returns-in-None g c =
    let v = g.N.Nodes.shown c.args.nodes.now in
    given_more v c.args.scratch.now c.add_arc.new.self c.args.later c.args.to c.number.result c.args.attribute c.args.target (g.met.N.Nodes.lawful c.args.nodes.now) c.requires.held c.requires.pairs_held c.requires.target c.requires.to
    c.number.ensures c.if-later.false c.in-None.ensures.same c.add_arc.ensures

pub add_arc-requires-clause-place : goal.add_arc-requires-clause-place
add_arc-requires-clause-place g c = place_room (g.N.Nodes.shown c.args.nodes.now) c.args.scratch.now (g.met.N.Nodes.lawful c.args.nodes.now) c.requires.held c.args.to c.number.result c.requires.to c.number.ensures
