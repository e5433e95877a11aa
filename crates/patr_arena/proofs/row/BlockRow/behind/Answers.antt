use Rattle.std.proofs.Common.{◌≤◌, ◌*◌, ◌^◌, subst, sym, rules}
use Rattle.patr_arena.proofs.Rows.{empty_is_row}
use Rattle.patr_arena.proofs.row.BlockRow.behind.Goals as goal

pub invariant_of-result : goal.invariant_of-result
invariant_of-result c =
    rw (c.new.ensures.items, c.new-2.ensures.items, c.new-3.ensures.items)
    (empty_is_row c.blocks-2.result c.nodes.result (search rules) (subst (λ n. c.nodes.result ≤ n * 2 ^ 32) (sym c.blocks-2.ensures) c.nodes.ensures.few))
