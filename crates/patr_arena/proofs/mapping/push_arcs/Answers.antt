use Rattle.std.proofs.Common.{sym, subst}
use Rattle.patr_arena.specs.Mapping.{PairsAreHeld}
use Rattle.patr_arena.proofs.Maps.{arc_pushed, held_push, rest_held}
use Rattle.patr_arena.proofs.mapping.push_arcs.Goals as goal

pub loop-arc-preserved : goal.loop-arc-preserved
loop-arc-preserved g c =
    let v = g.N.Nodes.shown c.args.nodes.now in
    let at = c.args.at in
    let fs = c.arcs-arc-items.result.now in
    let i = c.loop-arc.arc-index in
    record {
      so_far = arc_pushed v at.block c.args.value _ fs i _ c.args.waiting.now.items c.loop-arc.waiting.items c.push.new.self.items c.resolve.result c.in-Some.to c.loop-arc-test.true c.loop-arc.invariant.so_far c.in-Some.ensures.same
          c.resolve.ensures.same c.in_ok-push.ensures.items;
      pairs = subst (PairsAreHeld v) (sym c.in_ok-push.ensures.items) (held_push v c.loop-arc.waiting.items c.resolve.result c.in-Some.to c.loop-arc.invariant.pairs c.resolve.ensures.held c.in-Some.ensures.held);
      arcs = rest_held v at.block fs i c.loop-arc-test.true c.loop-arc.invariant.arcs;
    }
