use Rattle.std.proofs.Common.{◌≡◌, length}
use Rattle.patr_marks.specs.Machine.{own}
use Rattle.patr_marks.specs.Settled.{covered}
use Rattle.patr_marks.specs.Sides.{sides}
use Rattle.patr_scratch.specs.Contents.{EndsOrHas, after, marks}
use Rattle.patr_unify.specs.Reading.{arcs_at, key}
use Rattle.patr_unify.proofs.keep.adds_nothing.Given as goal

abbrev pub invariant-loop-next : goal.invariant-loop-next
invariant-loop-next g l =
    let v = g.N.Nodes.shown l.nodes in
    let list = (marks l.scratch l.place.side l.number).added in
    let own_arcs = own (sides v.structure) (key v l.place) in
    record {
      cell : EndsOrHas list l.next;
      rest : covered (arcs_at v (after list l.next)) own_arcs ≡ covered (arcs_at v list) own_arcs;
    }

abbrev pub decreases-loop-next : goal.decreases-loop-next
decreases-loop-next g l = length (after (marks l.scratch l.place.side l.number).added l.next)
