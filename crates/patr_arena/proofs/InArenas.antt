-- What an arena shows at an address.
use Rattle.std.proofs.Common.{◌≡◌, ℕ, ◌-◌, ◌<◌, ◌≤◌, arith}
use Rattle.patr_arena.specs.declared.plain.PlainArena.{PlainArena}
use Rattle.patr_arena.specs.declared.sentence.SentenceArena.{SentenceArena}
use Rattle.patr_arena.specs.declared.value.Addr.{Addr}
use Rattle.patr_arena.specs.Arenas.{shown_of}
use Rattle.patr_arena.specs.Blocks.{nothing}
use Rattle.patr_arena.specs.Sentences.{sentence_of}
use Rattle.patr_arena.specs.Shown.{IsHeld}
use Rattle.patr_arena.proofs.RowsShow.{IsInBase, IsInRow, in_base, in_row, nothing_shown}

pub in_plain : (arena : PlainArena) (at : Addr) → IsHeld (shown_of arena) at.block at.offset → IsInRow nothing arena.row at.block at.block at.offset
in_plain arena at h = in_row nothing nothing_shown arena.row arena.first_block arena.first_node arena.blocks at.block at.block at.offset (omega arith) h

-- a sentence's arena: own is how many blocks the base has, which stand before its row
module _ (arena : SentenceArena) (at : Addr) (own : ℕ) (count : own ≡ arena.row.first_block) where
  pub before_own : at.block < own → IsHeld (sentence_of arena) at.block at.offset → IsInBase (shown_of arena.base.now) arena.row.blocks at.block at.offset
  before_own below h = in_base (shown_of arena.base.now) arena.base.now.lawful arena.row.blocks at.block at.offset (omega (arith, below, count, arena.first_block)) h

  pub in_own : own ≤ at.block → IsHeld (sentence_of arena) at.block at.offset → IsInRow (shown_of arena.base.now) arena.row (at.block - own) at.block at.offset
  in_own above h =
      in_row (shown_of arena.base.now) arena.base.now.lawful arena.row arena.first_block arena.first_node arena.blocks at.block (at.block - own) at.offset
      (omega (arith, above, count, arena.first_block)) h
