use Rattle.std.proofs.Common.{ℕ, List, ◌+◌, ◌*◌, length}
use Rattle.patr_lists.specs.Numbers.{total, upto}
use Rattle.patr_model.specs.Structure.{Value}
use Rattle.patr_scratch.specs.Contents.{KeepsRoom}
use Rattle.patr_unify.specs.Stepping.{Covers, IsRunning, weight_of}
use Rattle.patr_unify.proofs.unify_pair.unify_pairs.Given as goal

abbrev pub invariant-loop-a : goal.invariant-loop-a
invariant-loop-a g l =
    let v = g.N.Nodes.shown l.nodes in
    record {
      running : (k : ℕ) (r target : Value) (ks : List ℕ) → Covers v k r ks → IsRunning v l.initial.scratch k r target ks → IsRunning v l.scratch k r target ks;
      room : KeepsRoom l.fn.scratch l.scratch;
    }

abbrev pub decreases-loop-a : goal.decreases-loop-a
decreases-loop-a g l =
    let v = g.N.Nodes.shown l.nodes in
    total (weight_of v l.scratch) (upto (2 * length v.structure)) + length l.scratch.pairs
