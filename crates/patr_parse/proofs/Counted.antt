-- How much is reached from values.
use Rattle.std.proofs.Common.{ℕ, ◌≤◌, length, arith}
use Rattle.patr_lists.proofs.Members.{no_longer}
use Rattle.patr_lists.proofs.Totals.{total_room}
use Rattle.patr_lists.specs.Members.{IsIn}
use Rattle.patr_parse.proofs.Names.{Value, Structure, IsReached, own, Counts}

-- from what is reached, no more is reached
pub counts_below : (S : Structure) (x y : Value) → ((k : ℕ) → IsReached S y k → IsReached S x k) → (N A n a : ℕ) → Counts S x N A → Counts S y n a → (n ≤ N) × (a ≤ A)
counts_below S x y on N A n a c d =
    let within : (k : ℕ) → IsIn d.list k → IsIn c.list k = λ k i. c.is.all k (on k (d.is.reached k i)) in
    let nodes = no_longer d.list c.list d.is.once within in
    let arcs = total_room (λ k. length (own S k)) d.list c.list d.is.once within in
    (omega (arith, nodes, c.nodes_are, d.nodes_are), omega (arith, arcs, c.arcs_are, d.arcs_are))
