-- What the arenas show.
use Rattle.patr_arena.specs.declared.plain.PlainArena.{PlainArena}
use Rattle.patr_arena.specs.Shown.{Shown}
use Rattle.patr_arena.specs.Blocks.{nothing, with_blocks}

-- what a plain arena shows: its blocks, one behind another
abbrev pub shown_of : PlainArena → Shown
shown_of arena = with_blocks nothing arena.row.blocks
