-- What a sentence's arena shows.
use Rattle.patr_arena.specs.declared.sentence.SentenceArena.{SentenceArena}
use Rattle.patr_arena.specs.Arenas.{shown_of}
use Rattle.patr_arena.specs.Shown.{Shown}
use Rattle.patr_arena.specs.Blocks.{with_blocks}

-- what a sentence's arena shows: the base's blocks, and behind them its own
abbrev pub sentence_of : SentenceArena → Shown
sentence_of arena = with_blocks (shown_of arena.base.now) arena.row.blocks
