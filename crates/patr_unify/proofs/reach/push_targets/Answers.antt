use Rattle.std.proofs.Common.{◌++◌, sym, subst}
use Rattle.patr_arena.proofs.Maps.{rest_held}
use Rattle.patr_model.specs.Structure.{Node, arcs_of}
use Rattle.patr_arena.specs.Shown.{number_of}
use Rattle.patr_unify.specs.Counting.{ValuesHeld, targets, values}
use Rattle.patr_unify.proofs.Counting.{target_pushed, values_held_push}
use Rattle.patr_unify.proofs.reach.push_targets.Goals as goal

pub loop-arc-preserved : goal.loop-arc-preserved
loop-arc-preserved g c =
    let v = g.N.Nodes.shown c.args.nodes.now in
    let at = c.args.at in
    let fs = c.arcs-arcs.result.now in
    let i = c.loop-arc.arc-index in
    let all = values v c.args.waiting.now.items ++ targets (arcs_of v.structure (Node (number_of v at.block at.offset))) in
    record {
      so_far = target_pushed v at.block fs i _ c.loop-arc.waiting.items c.push.new.self.items c.resolve.result all c.loop-arc-test.true c.in_ok-push.ensures.items c.resolve.ensures.same c.loop-arc.invariant.so_far;
      held = subst (ValuesHeld v) (sym c.in_ok-push.ensures.items) (values_held_push v c.loop-arc.waiting.items c.resolve.result c.loop-arc.invariant.held c.resolve.ensures.held);
      arcs = rest_held v at.block fs i c.loop-arc-test.true c.loop-arc.invariant.arcs;
    }
