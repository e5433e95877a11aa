-- How far a lexicon is read, and what the lines that are left make of it.
use Rattle.std.specs.Prelude.{◌≡◌, ℕ, ◌+◌, ◌≤◌, List, [], ◌∷◌, ◌++◌, length, Option, Some, None, Result, Ok, Err}
use Rattle.std.specs.List.{filter}
use denote.Ref.{Bor}
use Rattle.patr_model.specs.declared.field.Marker.{Marker}
use Rattle.patr_model.specs.LexiconLines.{Field, Fields}
use Rattle.patr_model.specs.Faults.{Misread}
use Rattle.patr_model.specs.LexiconText.{EntryText, EntryFault, Records, Fails, ◌>>=◌, is_known, records_of, entries, read_fields}
use Rattle.patr_model.specs.Built.{stage}
use Rattle.patr_text.specs.declared.fault.Fault.{Fault}
use Rattle.patr_text.specs.declared.fault.Fault.TheVariants.{Memory, Refused}
use Rattle.patr_text.specs.declared.token.Token.{Token}
use Rattle.patr_grammar.specs.declared.grammar.GrammarCause.{GrammarCause}
use Rattle.patr_grammar.specs.Features.{features_in, AreRefusedFor}
use Rattle.patr_lexicon.specs.declared.lexicon.Entry as code
use Rattle.patr_lexicon.specs.declared.lexicon.LexiconCause.{LexiconCause}
use Rattle.patr_lexicon.specs.declared.record.Record as code_record
use Rattle.patr_lexicon.specs.declared.state.State.{State}
use Rattle.patr_lexicon.specs.declared.state.State.TheVariants.{Start, Skipped, Within}
use Rattle.patr_lexicon.specs.Reading.{AreEntriesOf, fault_of}
use Rattle.patr_lexicon.specs.Records.{Words, Empty, One, Several, Open, bytes_in, with_pieces, with_fields, closed}
use Rattle.patr_lexicon.specs.Parts.{record_seen}

-- the records of fields, ignored fields left out
abbrev pub known_records : List Field → Records
known_records fs = records_of (filter (λ (f : Field). is_known f.marker) fs)

-- an entry, and those behind it
abbrev pub then_rest : Result EntryText EntryFault → Result (List EntryText) EntryFault → Result (List EntryText) EntryFault
then_rest e es = e >>= λ x. es >>= λ xs. Ok (x ∷ xs)

-- entries, and those behind them
abbrev pub then_more : List EntryText → Result (List EntryText) EntryFault → Result (List EntryText) EntryFault
then_more [] es = es
then_more (x ∷ xs) es = then_rest (Ok x) (then_more xs es)

-- what is read from an open record on, whose last field has this marker
abbrev pub from_record : Marker → Open → Fields → Result (List EntryText) EntryFault
from_record m o fs = then_rest (closed (with_fields (with_pieces o m fs.pieces) (known_records fs.fields).fields)) (entries stage (known_records fs.fields).records)

-- what is read from a state on
abbrev pub goes_on : State → Fields → Result (List EntryText) EntryFault
goes_on Start fs = read_fields stage fs
goes_on Skipped fs = read_fields stage (record { pieces = []; fields = fs.fields })
goes_on (Within m r) fs = from_record m (record_seen r) fs

-- the record that ended, and what is read behind it
abbrev pub ended_before : Option code_record.Record → Result (List EntryText) EntryFault → Result (List EntryText) EntryFault
ended_before None es = es
ended_before (Some r) es = then_rest (closed (record_seen r)) es

-- the record of a state
abbrev pub record_of : State → Option code_record.Record
record_of Start = None
record_of Skipped = None
record_of (Within m r) = Some r

-- the cause tells of this fault
abbrev pub Tells : LexiconCause → EntryFault → Type 0
Tells c f = fault_of c ≡ Misread (Fails f)

-- the reading fails, and its fault is told, or memory was short
abbrev pub FailsFor : {X : Type 0} → Result X EntryFault → Fault LexiconCause → Type 0
FailsFor r Memory = Unit {0}
FailsFor r (Refused c) = (f : EntryFault) × Tells c f × (r ≡ Err f)

-- what is read goes on so, or fails
abbrev pub Follows : {X : Type 0} → Result (List EntryText) EntryFault → Result X (Fault LexiconCause) → (X → Result (List EntryText) EntryFault) → Type 0
Follows now (Ok x) next = now ≡ next x
Follows now (Err e) next = FailsFor now e

-- features of some tokens are refused for this cause
abbrev pub RefusesSome : GrammarCause → Type 0
RefusesSome c = (text : List ℕ) × (ts : List Token) × AreRefusedFor stage text ts (Refused c)

-- where features are refused for the one cause, the other tells of their fault
abbrev pub TellsOf : GrammarCause → LexiconCause → Type 0
TellsOf c d = (text : List ℕ) (ts : List Token) → AreRefusedFor stage text ts (Refused c) → FailsFor (features_in stage text ts) (Refused d)

-- the word and the category of an entry, or its fault
abbrev pub Closes : Open → Result (Bor (List ℕ) × Bor (List ℕ)) LexiconCause → Type 0
Closes o (Ok x) = (o.word ≡ One x.0.now) × (o.category ≡ One x.1.now)
Closes o (Err c) = (f : EntryFault) × Tells c f × (closed o ≡ Err f)

-- ---- how many texts are still to be numbered

-- one where there are words
abbrev pub some_words : Words → ℕ
some_words Empty = 0
some_words (One w) = 1
some_words Several = 1

-- one where there is a text
abbrev pub some_text : List ℕ → ℕ
some_text [] = 0
some_text (b ∷ bs) = 1

-- how many texts a record has at most
abbrev pub most_texts : Open → ℕ
most_texts o = 1 + some_words o.category + some_text o.gloss + bytes_in o.features

-- how many texts the record has at most, where there is one
abbrev pub most_texts_of : Option code_record.Record → ℕ
most_texts_of None = 0
most_texts_of (Some r) = most_texts (record_seen r)

-- ---- entries that are kept

-- the entry of the record that ended was put behind the others
pub record IsKept (table : List (List ℕ)) (old new : List code.Entry) (ended : Option code_record.Record) : Type 0 where
  pub more : List code.Entry
  pub texts : List EntryText
  pub items : new ≡ old ++ more
  pub numbers : AreEntriesOf table more texts
  pub few : length more ≤ most_texts_of ended
  pub read : (es : Result (List EntryText) EntryFault) → ended_before ended es ≡ then_more texts es
