-- The words of a sentence in a library, and why a sentence is refused.
use Rattle.std.specs.Prelude.{◌≡◌, ℕ, suc, ◌<◌, ◌≤◌, List, length, Some, slice_get}
use Rattle.std.specs.List.{AllByRecursion}
use Rattle.patr_model.specs.Renaming.{Each}
use Rattle.patr_model.specs.Chart.{HasMoreThan}
use Rattle.patr_model.specs.Solved.{solved}
use Rattle.patr_text.specs.declared.fault.Fault.{Fault}
use Rattle.patr_text.specs.declared.fault.Fault.TheVariants as fault
use Rattle.patr_lexicon.specs.declared.lexicon.Entry.{Entry}
use Rattle.patr_library.specs.Stored.{Stored, keys, rules_of}
use Rattle.patr_parse.specs.declared.parse.ParseCause.{ParseCause}
use Rattle.patr_parse.specs.declared.parse.ParseCause.TheVariants as cause
use Rattle.patr_parse.specs.Found.{Found, IsSound}

-- the numbers that the table has for these texts
abbrev pub AreNumbers : List (List ℕ) → List (List ℕ) → List ℕ → Type 0
AreNumbers table words ws = Each (λ text n. slice_get table n ≡ Some text) words ws

-- the lexicon has an entry of this word
abbrev pub IsKnown : Stored → List (List ℕ) → List ℕ → Type 0
IsKnown s table w = (n : ℕ) × (e : Entry) × (slice_get s.lexicon n ≡ Some e) × (slice_get table e.word.0 ≡ Some w)

-- the sentence's chart is found, for the numbers of its words, each of which has an entry
pub record IsParsed (s : Stored) (table : List (List ℕ)) (words : List (List ℕ)) (limit : ℕ) (p : Found) : Type 0 where
  pub short : length words ≤ 256
  pub known : AllByRecursion (IsKnown s table) words
  pub numbers : List ℕ
  pub are : AreNumbers table words numbers
  pub sound : IsSound (rules_of s) keys.cat s numbers limit p

-- the word at this position, counted from 1, has no entry, and those before it have one
pub record IsFirstUnknown (s : Stored) (table : List (List ℕ)) (words : List (List ℕ)) (position : ℕ) : Type 0 where
  pub place : ℕ
  pub position_is : position ≡ suc place
  pub word : List ℕ
  pub here : slice_get words place ≡ Some word
  pub unknown : IsKnown s table word → ⊥
  pub before : (j : ℕ) (w : List ℕ) → j < place → slice_get words j ≡ Some w → IsKnown s table w

-- the first reason for which the sentence is refused
abbrev pub IsFirstCause : Stored → List (List ℕ) → List (List ℕ) → ℕ → ParseCause → Type 0
IsFirstCause s table words limit (cause.TooManyWords count) = (256 < length words) × (count ≡ length words)
IsFirstCause s table words limit (cause.UnknownWord position) = (length words ≤ 256) × IsFirstUnknown s table words position
IsFirstCause s table words limit (cause.TooManyEdges n) = (n ≡ limit) × (length words ≤ 256) × AllByRecursion (IsKnown s table) words
    × (ws : List ℕ) × AreNumbers table words ws × HasMoreThan (solved (rules_of s) keys.cat) (rules_of s) ws limit

-- the sentence is refused for this reason; want of memory may come at any time
abbrev pub IsRefusedFor : Stored → List (List ℕ) → List (List ℕ) → ℕ → Fault ParseCause → Type 0
IsRefusedFor s table words limit fault.Memory = Unit {0}
IsRefusedFor s table words limit (fault.Refused c) = IsFirstCause s table words limit c
