-- A record of a lexicon while it is read, and what it becomes with the pieces and fields behind.
use Rattle.std.specs.Prelude.{ℕ, ◌+◌, List, [], ◌∷◌, ◌++◌, length, map, Option, Some, None, Result, Ok, Err}
use Rattle.std.specs.List.{flat_map, filter}
use Rattle.patr_model.specs.declared.field.Marker.{Marker}
use Rattle.patr_model.specs.declared.field.Marker.TheVariants as marker
use Rattle.patr_model.specs.Session.{words_of}
use Rattle.patr_model.specs.LexiconLines.{Piece, Field}
use Rattle.patr_model.specs.LexiconText.{EntryText, EntryFault, NoWord, SeveralWords, NoCategory, ◌>>=◌, trimmed, spaced, joined, field_text, is_features, is_gloss, is_category, last_field, gloss_of, features_of}
use Rattle.patr_model.specs.Built.{stage}

-- how many words there are: none, this one, or several
pub data Words : Type 0 where
  Empty : Words
  One : List ℕ → Words
  Several : Words

-- how many words a list has
abbrev pub counted : List (List ℕ) → Words
counted [] = Empty
counted (w ∷ []) = One w
counted (w ∷ v ∷ ws) = Several

-- words, and then others
abbrev pub plus : Words → Words → Words
plus Empty y = y
plus (One w) Empty = One w
plus (One w) (One v) = Several
plus (One w) Several = Several
plus Several y = Several

-- the words of pieces
abbrev pub words_in : List Piece → List (List ℕ)
words_in ps = flat_map (λ (p : Piece). words_of (trimmed p.text)) ps

-- the text of pieces
abbrev pub text_in : List Piece → List ℕ
text_in ps = joined (map (λ (p : Piece). trimmed p.text) ps)

-- how many bytes pieces have
abbrev pub bytes_in : List Piece → ℕ
bytes_in [] = 0
bytes_in (p ∷ ps) = length p.text + bytes_in ps

-- the pieces of features of fields
abbrev pub feature_pieces : List Field → List Piece
feature_pieces fs = flat_map (λ (f : Field). f.pieces) (filter (λ (f : Field). is_features f.marker) fs)

-- a record as far as it is read: the line of its `\w`, its words, those of its last category, its last gloss, and the pieces of its features
pub record Open : Type 0 where
  pub line : ℕ
  pub word : Words
  pub category : Words
  pub gloss : List ℕ
  pub features : List Piece

-- the record that a `\w` on this line begins
abbrev pub opened : ℕ → Open
opened n = record { line = n; word = Empty; category = Empty; gloss = []; features = [] }

-- a field of this marker begins in a record
abbrev pub with_field : Open → Marker → Open
with_field o marker.Category = record o { category = Empty }
with_field o marker.Gloss = record o { gloss = [] }
with_field o _ = o

-- pieces of the field that has begun, which has this marker
abbrev pub with_pieces : Open → Marker → List Piece → Open
with_pieces o marker.Word ps = record o { word = plus o.word (counted (words_in ps)) }
with_pieces o marker.Category ps = record o { category = plus o.category (counted (words_in ps)) }
with_pieces o marker.Gloss ps = record o { gloss = spaced o.gloss (text_in ps) }
with_pieces o marker.Features ps = record o { features = o.features ++ ps }
with_pieces o marker.Other ps = o

-- the words of a field, where there is one
abbrev pub words_or : Words → Option Field → Words
words_or ws None = ws
words_or ws (Some f) = counted (words_of (field_text f))

-- the text of a field, where there is one
abbrev pub text_or : List ℕ → Option Field → List ℕ
text_or t None = t
text_or t (Some f) = field_text f

-- fields that belong to a record, none of them a `\w`
abbrev pub with_fields : Open → List Field → Open
with_fields o fs = record {
  line = o.line;
  word = o.word;
  category = words_or o.category (last_field is_category fs);
  gloss = text_or o.gloss (last_field is_gloss fs);
  features = o.features ++ feature_pieces fs;
}

-- exactly one word
abbrev pub one_word : ℕ → Words → Result (List ℕ) EntryFault
one_word n Empty = Err (NoWord n)
one_word n (One w) = Ok w
one_word n Several = Err (SeveralWords n)

-- a category is one word
abbrev pub one_category : ℕ → Words → Result (List ℕ) EntryFault
one_category n (One w) = Ok w
one_category n _ = Err (NoCategory n)

-- the entry that a record stands for
abbrev pub closed : Open → Result EntryText EntryFault
closed o =
    one_word o.line o.word >>= λ word.
    one_category o.line o.category >>= λ category.
    features_of stage o.features >>= λ features.
    Ok (record { line = o.line; word = word; category = category; gloss = gloss_of o.gloss; features = features })
