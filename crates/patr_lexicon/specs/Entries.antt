-- The entries of a lexicon by their words.
use Rattle.std.specs.Prelude.{◌≡◌, ℕ, Bool, nat_eq, List, [], get_or}
use Rattle.patr_lists.specs.Numbers.{places}
use Rattle.patr_lists.specs.Tables.{Table}
use Rattle.patr_lexicon.specs.declared.lexicon.Entry.{Entry}

-- the entry is one of this word
abbrev pub is_of : ℕ → Entry → Bool
is_of w e = nat_eq e.word.0 w

-- the list of each word has the numbers of its entries
abbrev pub IsListed : List Entry → Table → Type 0
IsListed es lists = (w : ℕ) → get_or lists w [] ≡ places (is_of w) 0 es
