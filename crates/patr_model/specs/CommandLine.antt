-- The words of the command line: `GRAMMAR LEXICON [--workers N] [--limit N]`.
use Rattle.std.specs.Prelude.{ℕ, List, [], ◌∷◌, Bool, false, cond, nat_eq, Option, Some, None, option_map, option_and_then, codes}
use Rattle.patr_model.specs.Bytes.{same_text}
use Rattle.patr_model.specs.Session.{number_of}
use Rattle.patr_model.specs.Run.{Setup}

-- the options, each of which has a number as its value
pub data Flag : Type 0 where
  Workers : Flag
  Limit : Flag

-- what a word is, before a word `--`: that word, an option whose value is the next word, one with its value, another word with `-`, or a name
pub data WordKind : Type 0 where
  EndOfOptions : WordKind
  Opens : Flag → WordKind
  Holds : Flag → List ℕ → WordKind
  NoOption : WordKind
  Name : WordKind

-- the word begins with `-` and is not `-` alone
abbrev pub begins_with_dash : List ℕ → Bool
begins_with_dash [] = false
begins_with_dash (b ∷ []) = false
begins_with_dash (b ∷ c ∷ bs) = nat_eq b 45

-- what stands behind this front, where the text begins with it
abbrev pub behind : List ℕ → List ℕ → Option (List ℕ)
behind [] text = Some text
behind (f ∷ fs) [] = None
behind (f ∷ fs) (b ∷ bs) = cond (nat_eq f b) (behind fs bs) None

-- an option with its value, where there is a value, or else another kind
abbrev pub holds_or : Flag → Option (List ℕ) → WordKind → WordKind
holds_or o None k = k
holds_or o (Some v) k = Holds o v

-- what a word is, before a word `--`
abbrev pub word_kind : List ℕ → WordKind
word_kind w =
    cond (same_text w (codes "--")) EndOfOptions (cond (same_text w (codes "--workers")) (Opens Workers) (cond (same_text w (codes "--limit")) (Opens Limit)
    (holds_or Workers (behind (codes "--workers=") w) (holds_or Limit (behind (codes "--limit=") w) (cond (begins_with_dash w) NoOption Name)))))

-- what words say: the names, and the values of each option, in their order
pub record Said : Type 0 where
  pub names : List (List ℕ)
  pub workers : List (List ℕ)
  pub limits : List (List ℕ)

-- these names alone
abbrev pub only : List (List ℕ) → Said
only names = record { names = names; workers = []; limits = [] }

-- an option's value in front of what is said behind it
abbrev pub with_value : Flag → List ℕ → Said → Said
with_value Workers v said = record said { workers = v ∷ said.workers }
with_value Limit v said = record said { limits = v ∷ said.limits }

-- a name in front of what is said behind it
abbrev pub with_name : List ℕ → Said → Said
with_name w said = record said { names = w ∷ said.names }

-- a word of this kind, the words behind it, and what they say behind an option or not
abbrev pub by_kind : WordKind → List ℕ → List (List ℕ) → (Option Flag → Option Said) → Option Said
by_kind EndOfOptions w ws rest = Some (only ws)
by_kind (Opens o) w ws rest = rest (Some o)
by_kind (Holds o v) w ws rest = option_map (with_value o v) (rest None)
by_kind NoOption w ws rest = None
by_kind Name w ws rest = option_map (with_name w) (rest None)

-- what words say, behind an option that takes the next word or not; none where a value is missing or a word is of no form
unfoldable pub said : Option Flag → List (List ℕ) → Option Said
said None [] = Some (only [])
said (Some o) [] = None
said (Some o) (w ∷ ws) = option_map (with_value o w) (said None ws)
said None (w ∷ ws) = by_kind (word_kind w) w ws (λ o. said o ws)

-- the value of an option that stands at most once: a number from 1 to the greatest, or the number where it doesn't stand
abbrev pub value_or : ℕ → ℕ → List (List ℕ) → Option ℕ
value_or most default [] = Some default
value_or most default (v ∷ []) = number_of most v
value_or most default (v ∷ w ∷ vs) = None

-- exactly two names
abbrev pub named : List (List ℕ) → ℕ → Option Setup
named (g ∷ l ∷ []) limit = Some (record { grammar = g; lexicon = l; limit = limit })
named _ limit = None

-- what is said, as it is meant: 1 to 16 workers, and a limit of 1 to 200,000 edges, 20,000 where none is given
abbrev pub setup_of : Said → Option Setup
setup_of s = option_and_then (λ workers. option_and_then (λ limit. named s.names limit) (value_or 200000 20000 s.limits)) (value_or 16 1 s.workers)

-- the words as they are meant; none where they are not of the form
abbrev pub command_words : List (List ℕ) → Option Setup
command_words ws = option_and_then setup_of (said None ws)
