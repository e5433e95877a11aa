use Rattle.std.proofs.Common.{length}
use Rattle.patr_scratch.specs.Contents.{EndsOrHas, after}
use Rattle.patr_unify.specs.Merging.{both}
use Rattle.patr_unify.specs.Reading.{arcs_at, key, marks_of}
use Rattle.patr_unify.specs.Walking.{IsPassed}
use Rattle.patr_unify.proofs.walk.other_added_end.Given as goal

abbrev pub invariant-loop-next : goal.invariant-loop-next
invariant-loop-next g l =
    let v = g.N.Nodes.shown l.nodes in
    let k = key v l.fn.place in
    let list = (marks_of v l.scratch k).added in
    record {
      cell : EndsOrHas list l.next;
      passed : IsPassed v l.scratch (both v l.scratch k) (arcs_at v (after list l.next));
    }

abbrev pub decreases-loop-next : goal.decreases-loop-next
decreases-loop-next g l =
    let v = g.N.Nodes.shown l.nodes in
    length (after (marks_of v l.scratch (key v l.fn.place)).added l.next)
