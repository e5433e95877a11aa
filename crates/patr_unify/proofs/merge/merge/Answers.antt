use Rattle.patr_unify.specs.Reading.{key}
use Rattle.patr_unify.proofs.Pushes.{added_fits, merged, pushed_room, moved_room}
use Rattle.patr_unify.proofs.Outcomes.{numbers_apart}
use Rattle.patr_unify.proofs.merge.merge.Goals as goal

pub pair_added-requires-clause-room : goal.pair_added-requires-clause-room
pair_added-requires-clause-room g c =
    let v = g.N.Nodes.shown c.args.nodes.now in
    added_fits v c.args.scratch.now c.give_own.new.scratch (key v c.args.from) (key v c.args.to) c.requires.apart c.give_own.ensures c.requires.room

pub returns : goal.returns
returns g c =
    let v = g.N.Nodes.shown c.args.nodes.now in
    merged v c.args.scratch.now c.give_own.new.scratch c.pair_added.new.scratch c.move_arcs.new.self c.set_forward.new.self c.args.from c.args.to c.number-source.result c.number-destination.result
    (g.met.N.Nodes.lawful c.args.nodes.now) c.requires.from c.requires.to c.requires.apart c.number-source.ensures c.number-destination.ensures c.give_own.ensures c.pair_added.ensures c.move_arcs.ensures c.set_forward.ensures

pub move_arcs-requires-clause-from : goal.move_arcs-requires-clause-from
move_arcs-requires-clause-from g c =
    let v = g.N.Nodes.shown c.args.nodes.now in
    pushed_room v c.give_own.new.scratch c.pair_added.new.scratch c.args.from c.number-source.result (g.met.N.Nodes.lawful c.args.nodes.now) c.give_own.ensures.held c.requires.from c.number-source.ensures c.pair_added.ensures.rest

pub move_arcs-requires-clause-to : goal.move_arcs-requires-clause-to
move_arcs-requires-clause-to g c =
    let v = g.N.Nodes.shown c.args.nodes.now in
    pushed_room v c.give_own.new.scratch c.pair_added.new.scratch c.args.to c.number-destination.result (g.met.N.Nodes.lawful c.args.nodes.now) c.give_own.ensures.held c.requires.to c.number-destination.ensures c.pair_added.ensures.rest

pub move_arcs-requires-clause-apart : goal.move_arcs-requires-clause-apart
move_arcs-requires-clause-apart g c =
    numbers_apart (g.N.Nodes.shown c.args.nodes.now) c.args.from c.args.to c.number-source.result c.number-destination.result c.number-source.ensures c.number-destination.ensures c.requires.apart

pub set_forward-requires : goal.set_forward-requires
set_forward-requires g c =
    let v = g.N.Nodes.shown c.args.nodes.now in
    let has = pushed_room v c.give_own.new.scratch c.pair_added.new.scratch c.args.from c.number-source.result (g.met.N.Nodes.lawful c.args.nodes.now) c.give_own.ensures.held c.requires.from c.number-source.ensures c.pair_added.ensures.rest in
    moved_room c.pair_added.new.scratch c.move_arcs.new.self c.args.from.side c.args.to.side c.number-source.result c.number-destination.result has c.move_arcs.ensures
