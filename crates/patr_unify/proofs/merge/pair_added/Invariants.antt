use Rattle.std.proofs.Common.{◌≡◌, ◌++◌, length}
use Rattle.patr_marks.specs.Machine.{matches}
use Rattle.patr_scratch.specs.Contents.{EndsOrHas, after, marks}
use Rattle.patr_unify.specs.Merging.{both}
use Rattle.patr_unify.specs.Reading.{PairsHeld, arcs_at, key, pairs_at}
use Rattle.patr_unify.proofs.merge.pair_added.Given as goal

abbrev pub invariant-loop-next : goal.invariant-loop-next
invariant-loop-next g l =
    let v = g.N.Nodes.shown l.nodes in
    let w = l.initial.scratch in
    let list = (marks w l.from.side l.number).added in
    record {
      rest : l.scratch ≡ record w { pairs = l.scratch.pairs };
      cell : EndsOrHas list l.next;
      pairs : pairs_at v l.scratch.pairs ++ matches (arcs_at v (after list l.next)) (both v w (key v l.to)) ≡ pairs_at v w.pairs ++ matches (arcs_at v list) (both v w (key v l.to));
      held : PairsHeld v l.scratch.pairs;
    }

abbrev pub decreases-loop-next : goal.decreases-loop-next
decreases-loop-next g l = length (after (marks l.initial.scratch l.from.side l.number).added l.next)
