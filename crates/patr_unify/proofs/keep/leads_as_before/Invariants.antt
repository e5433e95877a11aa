use Rattle.std.proofs.Common.{drop}
use Rattle.patr_marks.specs.Machine.{own}
use Rattle.patr_marks.specs.Sides.{sides}
use Rattle.patr_unify.specs.Reading.{key}
use Rattle.patr_unify.specs.Copying.{LeadsAsBefore}
use Rattle.patr_unify.specs.Walking.{AllButRest}
use Rattle.patr_unify.proofs.keep.leads_as_before.Given as goal

abbrev pub invariant-loop-feature : goal.invariant-loop-feature
invariant-loop-feature g l =
    let v = g.N.Nodes.shown l.nodes in
    let all = own (sides v.structure) (key v l.place) in
    AllButRest (LeadsAsBefore v l.scratch) all (drop l.feature-index all)
