-- Arenas with the same blocks are the same.
use Rattle.std.proofs.Common.{◌≡◌, length, sym, subst}
use Rattle.std.specs.Coded.{Coded-set, coded_ℕ}
use Rattle.patr_arena.specs.declared.plain.PlainArena.{PlainArena}
use Rattle.patr_arena.specs.declared.sentence.SentenceArena.{SentenceArena}
use Rattle.patr_arena.specs.Arenas.{shown_of}
use Rattle.patr_arena.specs.Shown.{IsShown}
use Rattle.patr_arena.specs.Blocks.{AreBlocks, nothing, with_blocks}
use Rattle.patr_arena.specs.Facts.{AreBlocks-prop, IsShown-prop}
use Rattle.patr_arena.specs.Rows.{Row}

pub same_plain : (a b : PlainArena) → a.row ≡ b.row → a ≡ b
same_plain a b e =
    subst (λ (r : Row). (f : r.first_block ≡ 0) (n : r.first_node ≡ 0) (bs : AreBlocks nothing r.blocks) (l : IsShown (with_blocks nothing r.blocks))
    → a ≡ record { row = r; first_block = f; first_node = n; blocks = bs; lawful = l }) e
    (λ f n bs l i. record {
      row = a.row;
      first_block = Coded-set coded_ℕ _ _ a.first_block f i;
      first_node = Coded-set coded_ℕ _ _ a.first_node n i;
      blocks = AreBlocks-prop _ _ a.blocks bs i;
      lawful = IsShown-prop _ a.lawful l i;
    })
    b.first_block b.first_node b.blocks b.lawful

pub same_sentence : (a : SentenceArena) (r : Row) (f : r.first_block ≡ length (shown_of a.base.now).sizes) (n : r.first_node ≡ length (shown_of a.base.now).structure) (bs : AreBlocks (shown_of a.base.now) r.blocks)
    (l : IsShown (with_blocks (shown_of a.base.now) r.blocks)) → a.row ≡ r → record { base = a.base; row = r; first_block = f; first_node = n; blocks = bs; lawful = l } ≡ a
same_sentence a r f n bs l e =
    sym (subst (λ (r : Row). (f : r.first_block ≡ length (shown_of a.base.now).sizes) (n : r.first_node ≡ length (shown_of a.base.now).structure) (bs : AreBlocks (shown_of a.base.now) r.blocks)
    (l : IsShown (with_blocks (shown_of a.base.now) r.blocks)) → a ≡ record { base = a.base; row = r; first_block = f; first_node = n; blocks = bs; lawful = l }) e
    (λ f n bs l i. record {
      base = a.base;
      row = a.row;
      first_block = Coded-set coded_ℕ _ _ a.first_block f i;
      first_node = Coded-set coded_ℕ _ _ a.first_node n i;
      blocks = AreBlocks-prop _ _ a.blocks bs i;
      lawful = IsShown-prop _ a.lawful l i;
    })
    f n bs l)
