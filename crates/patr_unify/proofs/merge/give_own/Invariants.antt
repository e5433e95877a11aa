use Rattle.std.proofs.Common.{drop}
use Rattle.patr_marks.specs.Machine.{own}
use Rattle.patr_marks.specs.Sides.{sides}
use Rattle.patr_unify.specs.Merging.{IsTaken}
use Rattle.patr_unify.specs.Reading.{key}
use Rattle.patr_unify.proofs.merge.give_own.Given as goal

abbrev pub invariant-loop-feature : goal.invariant-loop-feature
invariant-loop-feature g l =
    let v = g.N.Nodes.shown l.nodes in
    IsTaken v l.initial.scratch l.scratch (key v l.from) (key v l.to) (drop l.feature-index (own (sides v.structure) (key v l.from)))
