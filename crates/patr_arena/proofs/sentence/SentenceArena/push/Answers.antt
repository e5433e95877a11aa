use Rattle.std.proofs.Common.{◌∙◌, inl, inr, sym, ap}
use Rattle.std.proofs.lemmas.Result.{MatchResult-weaker}
use Rattle.patr_arena.specs.Arenas.{shown_of}
use Rattle.patr_arena.specs.Blocks.{with_blocks}
use Rattle.patr_arena.specs.Rows.{Row}
use Rattle.patr_arena.proofs.Results.{either}
use Rattle.patr_arena.proofs.RowsShow.{blocks_push, kept_row, row_blocks}
use Rattle.patr_arena.proofs.SameArenas.{same_sentence}
use Rattle.patr_arena.proofs.sentence.SentenceArena.push.Goals as goal

pub invariant_of-self : goal.invariant_of-self
invariant_of-self c =
    let arena = c.args.self.now in
    let kept = kept_row (shown_of arena.base.now) arena.base.now.lawful arena.row arena.first_block arena.first_node arena.blocks c.args.block c.len-length.ensures.block c.requires _
    (either c.push.result c.push.ensures (λ number p. inl p.1) (λ back p. inr p.1)) in
    record { first_block = kept.first_block; first_node = kept.first_node; blocks = kept.blocks; lawful = kept.lawful }

pub returns : goal.returns
returns c =
    let arena = c.args.self.now in
    let v = shown_of arena.base.now in
    MatchResult-weaker c.push.result c.push.ensures
    (λ number p. (p.0 ∙ row_blocks v arena.base.now.lawful arena.row arena.first_block arena.first_node arena.blocks, ap (λ (r : Row). with_blocks v r.blocks) p.1 ∙ blocks_push v arena.row.blocks c.args.block))
    (λ back p. (p.0, same_sentence arena _ _ _ _ _ (sym p.1)))
