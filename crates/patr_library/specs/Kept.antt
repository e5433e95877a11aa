-- What the fields of a library keep.
use Rattle.std.specs.Prelude.{◌≡◌, ℕ, [], get_or}
use Rattle.patr_lists.specs.Numbers.{places}
use Rattle.patr_lists.specs.Tables.{Table}
use Rattle.patr_arena.specs.Arenas.{shown_of}
use Rattle.patr_library.specs.declared.library.Library.TheInside.{Inside}
use Rattle.patr_library.specs.Stored.{Stored, IsStored, is_of_mother, is_of_word}

-- the library that the fields stand for
abbrev pub stored : Inside → Stored
stored l = record { grammar = l.grammar; lexicon = l.lexicon; shown = shown_of l.arena; rules = l.rules.items; entries = l.entries.items }

-- the lists by number of a symbol are those of the items with this mother, and of this word
pub record AreFound (s : Stored) (mothers words : Table) : Type 0 where
  pub by_mother : (m : ℕ) → get_or mothers m [] ≡ places (is_of_mother m) 0 s.rules
  pub by_word : (w : ℕ) → get_or words w [] ≡ places (is_of_word s.lexicon w) 0 s.entries

-- the items are those of the grammar and the lexicon, and they are found
pub record IsKept (l : Inside) : Type 0 where
  pub items : IsStored (stored l)
  pub found : AreFound (stored l) l.by_mother l.by_word
