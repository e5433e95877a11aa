use Rattle.std.proofs.Common.{◌≡◌, ℕ}
use Rattle.patr_marks.specs.Settled.{follow}
use Rattle.patr_unify.specs.Following.{chain}
use Rattle.patr_unify.specs.Reading.{IsEnding, TargetIsHeld, forward_of, value_at}
use Rattle.patr_unify.proofs.ends.dereference.Given as goal

abbrev pub invariant-forwards : goal.invariant-forwards
invariant-forwards g l = record {
  target : TargetIsHeld (g.N.Nodes.shown l.nodes) l.target;
  ending : IsEnding (g.N.Nodes.shown l.nodes) l.scratch l.target;
  followed : (n : ℕ) × (follow n (forward_of (g.N.Nodes.shown l.nodes) l.scratch) (value_at (g.N.Nodes.shown l.nodes) l.fn.from) ≡ value_at (g.N.Nodes.shown l.nodes) l.target);
}

abbrev pub decreases-forwards : goal.decreases-forwards
decreases-forwards g l = chain l.scratch.pair_room (forward_of (g.N.Nodes.shown l.nodes) l.scratch) (value_at (g.N.Nodes.shown l.nodes) l.target)
