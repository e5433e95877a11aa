use Rattle.std.proofs.Common.{◌≡◌, ◌++◌, drop}
use Rattle.patr_model.specs.Structure.{Node, arcs_of}
use Rattle.patr_arena.specs.Shown.{AllHeld, arcs_from, number_of}
use Rattle.patr_unify.specs.Counting.{ValuesHeld, targets, values}
use Rattle.patr_unify.proofs.reach.push_targets.Given as goal

-- what waits, and then what the arcs that are left lead to, is what all arcs lead to behind what waited
abbrev pub invariant-loop-arc : goal.invariant-loop-arc
invariant-loop-arc g l =
    let v = g.N.Nodes.shown l.nodes in
    record {
      so_far : values v l.waiting.items ++ targets (arcs_from v l.at.block (drop l.arc-index l.arcs))
          ≡ values v l.fn.waiting.items ++ targets (arcs_of v.structure (Node (number_of v l.fn.at.block l.fn.at.offset)));
      held : ValuesHeld v l.waiting.items;
      arcs : AllHeld v l.at.block (drop l.arc-index l.arcs);
    }
