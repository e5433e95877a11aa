-- What a view shows.
use Rattle.patr_arena.specs.declared.view.View.{View}
use Rattle.patr_arena.specs.Sentences.{sentence_of}
use Rattle.patr_arena.specs.Shown.{Shown}

-- what a view shows: what its arena shows
abbrev pub view_of : View → Shown
view_of view = sentence_of view.arena.now
