use Rattle.std.proofs.Common.{◌≡◌, ◌*◌, [], arith, rules, refl, length}
use Rattle.patr_library.proofs.Names.{shown_of, number_of, value_of, value_below, held_below}
use Rattle.patr_library.proofs.Room.{whole_room}
use Rattle.patr_library.proofs.workspace.Workspace.unifier.Goals as goal

pub decide-requires-clause-room : goal.decide-requires-clause-room
decide-requires-clause-room g c =
    let v = shown_of c.args.self.now.arena in
    let s = c.args.self.now.arena.lawful in
    let at = c.args.left in
    let r = c.in_ok-reserve.ensures.room in
    let nodes : c.count-nodes.result ≡ length v.structure = search rules in
    let visits : c.in_ok-visits.visits ≡ c.count-nodes.result * 2 = search rules in
    let arcs : c.in_ok-arcs.arcs ≡ c.args.self.now.arcs * 2 = search rules in
    let whole = c.requires.whole.arcs in
    whole_room v s c.reserve.new.self (number_of v at.block at.offset) (value_of v c.args.right) (held_below v s at.block at.offset c.requires.left) (value_below v s c.args.right c.requires.right)
    (record {
      for_places = (let p = r.for_places in omega (arith, p, nodes));
      for_visits = (let p = r.for_visits in omega (arith, p, nodes, visits));
      for_order = (let p = r.for_order in omega (arith, p, nodes, visits));
      for_arcs = (let p = r.for_arcs in omega (arith, p, arcs, whole));
      for_pairs = (let p = r.for_pairs in omega (arith, p, arcs, whole));
    })

pub returns-in-NoUnifier-clause-none : goal.returns-in-NoUnifier-clause-none
returns-in-NoUnifier-clause-none g c = c.in-NoUnifier.ensures.none refl

pub copy-requires-clause-settled : goal.copy-requires-clause-settled
copy-requires-clause-settled g c = ([], value_of (shown_of c.args.self.now.arena) c.args.right, c.in-Solvable.ensures.solvable refl)
