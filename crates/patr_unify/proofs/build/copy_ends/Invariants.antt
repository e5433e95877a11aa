use Rattle.std.proofs.Common.{◌<◌, ℕ, List, length, take}
use Rattle.patr_model.specs.Structure.{Value}
use Rattle.patr_scratch.specs.Contents.{KeepsRoom}
use Rattle.patr_unify.specs.Copying.{HasCopied}
use Rattle.patr_unify.specs.Deciding.{IsSettledFor}
use Rattle.patr_unify.specs.Walking.{stack_of}
use Rattle.patr_unify.proofs.build.copy_ends.Given as goal

abbrev pub invariant-loop-index : goal.invariant-loop-index
invariant-loop-index g q =
    let v = g.N.Nodes.shown q.nodes in
    let w = q.fn.scratch in
    record {
      copied : (l : ℕ) (p : List ℕ) (r : Value) → l < length v.structure → IsSettledFor v w l p r → HasCopied v w q.scratch l r q.draft.block q.draft.nodes q.draft.arcs (stack_of v (take q.index w.order));
      room : KeepsRoom w q.scratch;
    }
