use Rattle.std.proofs.Common.{◌∙◌, ℕ, List, ap, arith}
use Rattle.patr_arena.specs.Cuts.{begin}
use Rattle.patr_arena.proofs.Rows.{kept, row_start}
use Rattle.patr_arena.proofs.row.BlockRow.place.Goals as goal

pub start_of-requires : goal.start_of-requires
start_of-requires c = rw (c.deref.ensures.value) (row_start (kept c.self.view_is c.self.invariant) c.args.k c.args.offset c.requires).0

pub returns : goal.returns
returns c =
    let first = (row_start (kept c.self.view_is c.self.invariant) c.args.k c.args.offset c.requires).1 in
    let begins = c.start_of.ensures ∙ ap (λ (es : List ℕ). begin 0 es c.args.k) c.deref.ensures.value in
    omega arith
