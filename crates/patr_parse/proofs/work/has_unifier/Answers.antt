use Rattle.std.proofs.Common.{refl, subst}
use Rattle.patr_parse.proofs.Names.{number_of, value_of, value_below, held_below}
use Rattle.patr_scratch.specs.Contents.{HasRoom}
use Rattle.patr_library.proofs.Room.{decision_room}
use Rattle.patr_parse.proofs.work.has_unifier.Goals as goal

pub decide-requires-clause-room : goal.decide-requires-clause-room
decide-requires-clause-room g c =
    let v = g.N.Nodes.shown c.args.nodes.now in
    let sv = g.met.N.Nodes.lawful c.args.nodes.now in
    let at = c.args.pair.left in
    decision_room v sv c.make_room.new.self (number_of v at.block at.offset) (value_of v c.args.pair.right)
    (held_below v sv at.block at.offset c.requires.left) (value_below v sv c.args.pair.right c.requires.right)
    c.args.pair.reach.nodes c.args.pair.reach.arcs c.requires.within
    (subst (λ n. HasRoom c.make_room.new.self n c.args.pair.reach.nodes c.args.pair.reach.arcs) c.count.ensures c.in_ok-make_room.ensures.room)

pub returns-in-Solvable-clause-some : goal.returns-in-Solvable-clause-some
returns-in-Solvable-clause-some g c = λ u. c.in-Solvable.ensures.solvable refl

pub returns-in-NoUnifier-clause-none : goal.returns-in-NoUnifier-clause-none
returns-in-NoUnifier-clause-none g c = λ u. c.in-NoUnifier.ensures.none refl
