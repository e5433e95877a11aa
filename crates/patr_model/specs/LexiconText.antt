-- The entries that the bytes of a lexicon stand for, and the faults of the others.
use Rattle.std.specs.Prelude.{◌≡◌, ℕ, ◌+◌, List, [], ◌∷◌, ◌++◌, length, map, reverse, Bool, true, false, cond, Option, Some, None, Result, Ok, Err, IsUtf8, codes, decimal}
use Rattle.std.specs.List.{flat_map, filter}
use Rattle.patr_model.specs.declared.field.Marker.{Marker}
use Rattle.patr_model.specs.declared.field.Marker.TheVariants as marker
use Rattle.patr_model.specs.Grammar.{Row, Done}
use Rattle.patr_model.specs.Session.{words_of}
use Rattle.patr_model.specs.Tokens.{Place, Token, Scanned, start_place, scan}
use Rattle.patr_model.specs.Lexemes.{by_text}
use Rattle.patr_model.specs.Parsing.{Refusal, LaterForm, Parse, Got, Stops}
use Rattle.patr_model.specs.Stages.{Stage}
use Rattle.patr_model.specs.Productions.{FeatureText, elements}
use Rattle.patr_model.specs.Faults.{FileFault, NotText, Misread, RefusesBytes, of_file, at_line, at_place}
use Rattle.patr_model.specs.GrammarText.{place_of, refusal_text}
use Rattle.patr_model.specs.LexiconLines.{Piece, Field, Fields, is_edge, lines, bad_token, fields_of}

-- ---- texts of fields

-- without spaces, tabs and CRs at the front
abbrev pub trimmed_front : List ℕ → List ℕ
trimmed_front [] = []
trimmed_front (b ∷ bs) = cond (is_edge b) (trimmed_front bs) (b ∷ bs)

-- and at both ends
abbrev pub trimmed : List ℕ → List ℕ
trimmed text = reverse (trimmed_front (reverse (trimmed_front text)))

-- one text, a space, and another; an empty one is left out
abbrev pub spaced : List ℕ → List ℕ → List ℕ
spaced [] t = t
spaced (b ∷ bs) [] = b ∷ bs
spaced (b ∷ bs) (c ∷ cs) = (b ∷ bs) ++ 32 ∷ c ∷ cs

-- texts with a space between two
abbrev pub joined : List (List ℕ) → List ℕ
joined [] = []
joined (t ∷ ts) = spaced t (joined ts)

-- the text of a field
abbrev pub field_text : Field → List ℕ
field_text f = joined (map (λ (p : Piece). trimmed p.text) f.pieces)

-- ---- records

-- a `\w` field, and the fields behind it up to the next
pub record Record : Type 0 where
  pub word : Field
  pub others : List Field

-- the fields before the first `\w`, and the records
pub record Records : Type 0 where
  pub fields : List Field
  pub records : List Record

-- the marker is `\w`
abbrev pub is_word : Marker → Bool
is_word marker.Word = true
is_word _ = false

-- the marker is `\c`
abbrev pub is_category : Marker → Bool
is_category marker.Category = true
is_category _ = false

-- the marker is `\f`
abbrev pub is_features : Marker → Bool
is_features marker.Features = true
is_features _ = false

-- the marker is `\g`
abbrev pub is_gloss : Marker → Bool
is_gloss marker.Gloss = true
is_gloss _ = false

-- the field is not ignored
abbrev pub is_known : Marker → Bool
is_known marker.Other = false
is_known _ = true

-- a field in front of records
abbrev pub field_before : Field → Records → Records
field_before f rs = cond (is_word f.marker) (record { fields = []; records = record { word = f; others = rs.fields } ∷ rs.records }) (record { fields = f ∷ rs.fields; records = rs.records })

-- the records of fields
abbrev pub records_of : List Field → Records
records_of [] = record { fields = []; records = [] }
records_of (f ∷ fs) = field_before f (records_of fs)

-- the field that was found, or this one where it passes
abbrev pub or_field : (Marker → Bool) → Field → Option Field → Option Field
or_field test f None = cond (test f.marker) (Some f) None
or_field test f (Some g) = Some g

-- the last field whose marker passes
abbrev pub last_field : (Marker → Bool) → List Field → Option Field
last_field test [] = None
last_field test (f ∷ fs) = or_field test f (last_field test fs)

-- ---- entries

-- an entry: the line of its `\w`, its word, its category, its gloss where it has one, and its features
pub record EntryOf (W : Type 0) : Type 0 where
  pub line : ℕ
  pub word : W
  pub category : W
  pub gloss : Option W
  pub features : Row (FeatureText W)

-- an entry as its texts are written
abbrev pub EntryText : Type 0
EntryText = EntryOf (List ℕ)

-- why records stand for no entries
pub data EntryFault : Type 0 where
  NoWord : ℕ → EntryFault
  SeveralWords : ℕ → EntryFault
  NoCategory : ℕ → EntryFault
  BadFeatures : Refusal (List ℕ) → Place → EntryFault

-- one reading of a record, and then another
infixl 10 ◌>>=◌
abbrev pub ◌>>=◌ : {X Y : Type 0} → Result X EntryFault → (X → Result Y EntryFault) → Result Y EntryFault
(Ok x) >>= f = f x
(Err e) >>= f = Err e

-- exactly one word
abbrev pub one_word : ℕ → List (List ℕ) → Result (List ℕ) EntryFault
one_word n [] = Err (NoWord n)
one_word n (w ∷ []) = Ok w
one_word n (w ∷ v ∷ ws) = Err (SeveralWords n)

-- a category is one word
abbrev pub one_category : ℕ → List (List ℕ) → Result (List ℕ) EntryFault
one_category n (w ∷ []) = Ok w
one_category n _ = Err (NoCategory n)

-- the text of a field that may be there
abbrev pub text_of : Option Field → List ℕ
text_of None = []
text_of (Some f) = field_text f

-- an empty gloss is none
abbrev pub gloss_of : List ℕ → Option (List ℕ)
gloss_of [] = None
gloss_of (b ∷ bs) = Some (b ∷ bs)

-- the tokens of a scan; none of one that stopped at a bad character
abbrev pub scanned_tokens : Scanned → List Token
scanned_tokens (Ok ts) = ts
scanned_tokens (Err p) = []

-- the tokens of a piece: none goes on in the next
abbrev pub piece_tokens : Piece → List Token
piece_tokens p = scanned_tokens (scan 0 0 p.place p.text)

-- the place behind a piece
abbrev pub piece_end : Piece → Place
piece_end p = record { line = p.place.line; column = p.place.column + length p.text }

-- the end of the last piece
abbrev pub end_of : Place → List Piece → Place
end_of p [] = p
end_of p (q ∷ qs) = end_of (piece_end q) qs

-- the features that were read, or a fault at the token that was refused or at the end
abbrev pub as_features : Place → Parse Token (List ℕ) (List Token) (Row (FeatureText (List ℕ))) → Result (Row (FeatureText (List ℕ))) EntryFault
as_features end (Got x rest) = Ok x
as_features end (Stops r rest) = Err (BadFeatures r (place_of end rest))

-- before equations are built, each token is a later form
abbrev pub none_yet : List Token → Result (Row (FeatureText (List ℕ))) EntryFault
none_yet [] = Ok Done
none_yet (t ∷ ts) = Err (BadFeatures LaterForm t.place)

-- the features that pieces stand for
abbrev pub features_of : Stage → List Piece → Result (Row (FeatureText (List ℕ))) EntryFault
features_of s ps =
    let ts = flat_map piece_tokens ps in
    cond s.equations (as_features (end_of start_place ps) (elements by_text s ts)) (none_yet ts)

-- the entry that a record stands for
abbrev pub entry : Stage → Record → Result EntryText EntryFault
entry s r =
    one_word r.word.line (words_of (field_text r.word)) >>= λ word.
    one_category r.word.line (words_of (text_of (last_field is_category r.others))) >>= λ category.
    features_of s (flat_map (λ (f : Field). f.pieces) (filter (λ (f : Field). is_features f.marker) r.others)) >>= λ features.
    Ok (record { line = r.word.line; word = word; category = category; gloss = gloss_of (text_of (last_field is_gloss r.others)); features = features })

-- the entries that records stand for, or the first fault
abbrev pub entries : Stage → List Record → Result (List EntryText) EntryFault
entries s [] = Ok []
entries s (r ∷ rs) = entry s r >>= λ e. entries s rs >>= λ es. Ok (e ∷ es)

-- text before the first `\w`
abbrev pub stray : List Piece → List Field → Result (List EntryText) EntryFault → Result (List EntryText) EntryFault
stray (p ∷ ps) fs rest = Err (NoWord p.place.line)
stray [] (f ∷ fs) rest = Err (NoWord f.line)
stray [] [] rest = rest

-- the entries that records stand for, where no text stands before the first `\w`
abbrev pub read_records : Stage → List Piece → Records → Result (List EntryText) EntryFault
read_records s ps rs = stray ps rs.fields (entries s rs.records)

-- the entries that fields stand for
abbrev pub read_fields : Stage → Fields → Result (List EntryText) EntryFault
read_fields s fs = read_records s fs.pieces (records_of (filter (λ (f : Field). is_known f.marker) fs.fields))

-- what a text is read as
pub data Reading : Type 0 where
  Reads : List EntryText → Reading
  BadToken : Place → Reading
  Fails : EntryFault → Reading

-- entries, or a fault of records, as the reading of a text
abbrev pub of_result : Result (List EntryText) EntryFault → Reading
of_result (Ok es) = Reads es
of_result (Err f) = Fails f

-- a bad character comes before every other fault
abbrev pub unless_bad : Option Place → Result (List EntryText) EntryFault → Reading
unless_bad None r = of_result r
unless_bad (Some p) r = BadToken p

-- what the bytes of a text are read as
abbrev pub reading : Stage → List ℕ → Reading
reading s bytes = unless_bad (bad_token false (lines bytes)) (read_fields s (fields_of (lines bytes)))

-- the bytes stand for these entries
abbrev pub ReadsLexicon : Stage → List ℕ → List EntryText → Type 0
ReadsLexicon s bytes es = IsUtf8 bytes × (reading s bytes ≡ Reads es)

-- they are entries that were read
abbrev pub AreRead : Reading → Type 0
AreRead (Reads es) = Unit {0}
AreRead _ = ⊥

-- why bytes stand for no entries
abbrev pub LexiconFault : Type 0
LexiconFault = FileFault Reading

-- the bytes stand for no entries, for this reason
abbrev pub RefusesLexicon : Stage → List ℕ → LexiconFault → Type 0
RefusesLexicon s = RefusesBytes (reading s) AreRead

-- ---- fault lines

-- the fault line of records
abbrev pub entry_fault_line : EntryFault → List ℕ
entry_fault_line (NoWord n) = at_line (codes "lexicon") n (codes "no word")
entry_fault_line (SeveralWords n) = at_line (codes "lexicon") n (codes "several words")
entry_fault_line (NoCategory n) = at_line (codes "lexicon") n (codes "no category")
entry_fault_line (BadFeatures r p) = at_place (codes "lexicon") p (refusal_text r)

-- the fault line of a text that is read as no entries
abbrev pub misread_line : Reading → List ℕ
misread_line (Reads es) = []
misread_line (BadToken p) = at_place (codes "lexicon") p (codes "bad character")
misread_line (Fails f) = entry_fault_line f

-- the fault line of a lexicon
abbrev pub lexicon_fault_line : LexiconFault → List ℕ
lexicon_fault_line (NotText n) = of_file (codes "lexicon") (codes "not UTF-8 at byte " ++ decimal n)
lexicon_fault_line (Misread r) = misread_line r

-- the bytes stand for no entries, and have this fault line
abbrev pub HasLexiconFault : Stage → List ℕ → List ℕ → Type 0
HasLexiconFault s bytes text = (fault : LexiconFault) × RefusesLexicon s bytes fault × (text ≡ lexicon_fault_line fault)
