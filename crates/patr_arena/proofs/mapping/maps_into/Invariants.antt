use Rattle.std.proofs.Common.{◌+◌, length}
use Rattle.patr_model.specs.Pairs.{IsOnPairs, left_over}
use Rattle.patr_arena.specs.Mapping.{ImagesAreHeld, PairsAreHeld, images_at, pairs_at}
use Rattle.patr_arena.specs.Shown.{value_of}
use Rattle.patr_arena.proofs.mapping.maps_into.Given as goal

-- what is known of a map, and what is still to be looked at
abbrev pub invariant-loop-left : goal.invariant-loop-left
invariant-loop-left g l =
    let v = g.N.Nodes.shown l.nodes in
    record {
      pairs : IsOnPairs v.structure (value_of v l.fn.from) v.structure (value_of v l.fn.to) (images_at v l.images) (pairs_at v l.waiting.items);
      images_held : ImagesAreHeld v l.images;
      pairs_held : PairsAreHeld v l.waiting.items;
    }

abbrev pub decreases-loop-left : goal.decreases-loop-left
decreases-loop-left g l =
    let v = g.N.Nodes.shown l.nodes in
    length l.waiting.items + left_over (images_at v l.images) 0 v.structure
