use Rattle.std.proofs.Common.{◌≡◌, List, ◌++◌, drop, option_map}
use Rattle.patr_model.specs.Pairs.{Pair, pairs_of}
use Rattle.patr_model.specs.Structure.{Node, arcs_of}
use Rattle.patr_arena.specs.Mapping.{PairsAreHeld, pairs_at}
use Rattle.patr_arena.specs.Shown.{AllHeld, arcs_from, number_of, value_of}
use Rattle.patr_arena.proofs.mapping.push_arcs.Given as goal

-- the pairs so far, and then those of the arcs that are left, are the pairs of all arcs
abbrev pub invariant-loop-arc : goal.invariant-loop-arc
invariant-loop-arc g l =
    let v = g.N.Nodes.shown l.nodes in
    record {
      so_far : (ps : List Pair) × (pairs_at v l.waiting.items ≡ pairs_at v l.fn.waiting.items ++ ps)
          × (pairs_of v.structure (value_of v l.value) (arcs_of v.structure (Node (number_of v l.fn.at.block l.fn.at.offset)))
          ≡ option_map (λ qs. ps ++ qs) (pairs_of v.structure (value_of v l.value) (arcs_from v l.at.block (drop l.arc-index l.arc-items))));
      pairs : PairsAreHeld v l.waiting.items;
      arcs : AllHeld v l.at.block (drop l.arc-index l.arc-items);
    }
