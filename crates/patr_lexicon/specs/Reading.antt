-- What a lexicon's bytes stand for, by the numbers of a table, and where they stop.
use Rattle.std.specs.Prelude.{◌≡◌, ℕ, List, map, Result, Ok}
use Rattle.patr_model.specs.Tokens.{Place}
use Rattle.patr_model.specs.Grammar.{Row}
use Rattle.patr_model.specs.Renaming.{Each, SameRow}
use Rattle.patr_model.specs.Parsing.{Expected, PathTooLong, TooDeep}
use Rattle.patr_model.specs.Productions.{FeatureText}
use Rattle.patr_model.specs.Faults.{NotText, Misread}
use Rattle.patr_model.specs.LexiconText.{EntryText, EntryFault, NoWord, SeveralWords, NoCategory, BadFeatures, BadToken, Fails, LexiconFault, ReadsLexicon, RefusesLexicon}
use Rattle.patr_model.specs.Agreeing.{SameFeatureText, SameEntryText}
use Rattle.patr_model.specs.Built.{stage}
use Rattle.patr_text.specs.declared.fault.Fault.{Fault}
use Rattle.patr_text.specs.declared.fault.Fault.TheVariants.{Memory, Refused}
use Rattle.patr_grammar.specs.declared.grammar.Element.{Element}
use Rattle.patr_grammar.specs.Reading.{IsText, features_seen}
use Rattle.patr_lexicon.specs.declared.lexicon.Entry as code
use Rattle.patr_lexicon.specs.Seen.{entry_seen}
use Rattle.patr_lexicon.specs.declared.lexicon.LexiconCause.{LexiconCause}
use Rattle.patr_lexicon.specs.declared.lexicon.LexiconCause.TheVariants as cause

-- the numbers of the entry are those of this entry's texts in the table
abbrev pub IsEntryOf : List (List ℕ) → code.Entry → EntryText → Type 0
IsEntryOf table e t = SameEntryText (IsText table) (entry_seen e) t

-- the entries are these, one by one
abbrev pub AreEntriesOf : List (List ℕ) → List code.Entry → List EntryText → Type 0
AreEntriesOf table es ts = Each (SameEntryText (IsText table)) (map entry_seen es) ts

-- the elements are the features that were read
abbrev pub AreFeaturesOf : List (List ℕ) → List Element → Result (Row (FeatureText (List ℕ))) EntryFault → Type 0
AreFeaturesOf table es read = (r : Row (FeatureText (List ℕ))) × (read ≡ Ok r) × SameRow (SameFeatureText (IsText table)) (features_seen es) r

-- the entries are what the bytes stand for
abbrev pub StandsFor : List (List ℕ) → List ℕ → List code.Entry → Type 0
StandsFor table bytes es = (ts : List EntryText) × ReadsLexicon stage bytes ts × AreEntriesOf table es ts

-- the place of this line and this column
abbrev pub place_at : ℕ → ℕ → Place
place_at n k = record { line = n; column = k }

-- a cause as the fault that it tells of
abbrev pub fault_of : LexiconCause → LexiconFault
fault_of (cause.NotUtf8 at) = NotText at
fault_of (cause.BadToken n k) = Misread (BadToken (place_at n k))
fault_of (cause.NoWord n) = Misread (Fails (NoWord n))
fault_of (cause.SeveralWords n) = Misread (Fails (SeveralWords n))
fault_of (cause.NoCategory n) = Misread (Fails (NoCategory n))
fault_of (cause.Expected n k what) = Misread (Fails (BadFeatures (Expected what) (place_at n k)))
fault_of (cause.PathTooLong n k) = Misread (Fails (BadFeatures PathTooLong (place_at n k)))
fault_of (cause.TooDeep n k) = Misread (Fails (BadFeatures TooDeep (place_at n k)))

-- the bytes stand for no entries for this cause, or memory was short
abbrev pub IsRefusedFor : List ℕ → Fault LexiconCause → Type 0
IsRefusedFor bytes Memory = Unit {0}
IsRefusedFor bytes (Refused c) = RefusesLexicon stage bytes (fault_of c)
