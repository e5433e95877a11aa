use Rattle.std.proofs.Common.{◌++◌, drop}
use Rattle.patr_marks.specs.Machine.{own}
use Rattle.patr_marks.specs.Sides.{sides}
use Rattle.patr_unify.specs.Merging.{both}
use Rattle.patr_unify.specs.Reading.{added_of, key}
use Rattle.patr_unify.specs.Walking.{IsPassed}
use Rattle.patr_unify.proofs.walk.other_own_end.Given as goal

abbrev pub invariant-loop-index : goal.invariant-loop-index
invariant-loop-index g l =
    let v = g.N.Nodes.shown l.nodes in
    let k = key v l.place in
    IsPassed v l.scratch (both v l.scratch k) (drop l.index (own (sides v.structure) k) ++ added_of v l.scratch k)
