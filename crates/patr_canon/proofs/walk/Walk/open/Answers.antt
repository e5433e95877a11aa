use Rattle.std.proofs.Common.{length}
use Rattle.patr_arena.specs.Shown.{number_of}
use Rattle.patr_canon.proofs.Walks.{attributes_below, enter_new, no_shorter, with_close}
use Rattle.patr_canon.proofs.walk.Walk.open.Goals as goal

pub arcs_in_order-requires-clause-symbols : goal.arcs_in_order-requires-clause-symbols
arcs_in_order-requires-clause-symbols g c =
    let v = g.N.Nodes.shown c.args.nodes.now in
    let s = g.met.N.Nodes.lawful c.args.nodes.now in
    attributes_below (length c.args.look.now.symbols.now) v.structure (number_of v c.args.at.block c.args.at.offset) s.structure c.requires.spelled

pub returns : goal.returns
returns g c =
    let v = g.N.Nodes.shown c.args.nodes.now in
    let s = g.met.N.Nodes.lawful c.args.nodes.now in
    record {
      walking = λ total w. enter_new v s c.args.look.now total c.args.self.now.done c.args.at c.args.node c.arcs_in_order.new.arcs.items c.args.self.now.events.items c.push.new.self.items c.args.self.now.tasks.items c.push_arcs.new.tasks.items
          c.requires.at c.requires.node c.requires.new c.requires.spelled c.in_ok-arcs_in_order.ensures.order c.in_ok-arcs_in_order.ensures.held c.in_ok-push.ensures.items
          (with_close c.arcs_in_order.new.arcs.items c.args.node c.args.self.now.tasks.items c.push-2.new.self.items c.push_arcs.new.tasks.items c.in_ok-push-2.ensures.items c.in_ok-push_arcs.ensures) w;
      grows = no_shorter c.args.self.now.events.items c.push.new.self.items _ c.in_ok-push.ensures.items;
    }
