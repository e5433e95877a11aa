-- The lines and pieces of the code, and what they are in the definition of lexicons.
use Rattle.std.specs.Prelude.{◌≢◌, ℕ, Bool, ◌+◌, ◌<◌, List, [], ◌∷◌, length, get_or, map, Option, Some, None, nat_eq}
use Rattle.std.specs.Str.{IsCharBoundary}
use Rattle.std.specs.String.{string_bytes}
use denote.Ref.{Bor}
use Rattle.patr_model.specs.declared.field.LexiconLine.{LexiconLine}
use Rattle.patr_model.specs.declared.field.LexiconLine.TheVariants.{Begins}
use Rattle.patr_model.specs.Session.{pieces}
use Rattle.patr_model.specs.Tokens.{Place}
use Rattle.patr_model.specs.LexiconLines.{Piece}
use Rattle.patr_text.specs.declared.token.BadToken.{BadToken}
use Rattle.patr_lexicon.specs.declared.line.Piece as code_piece
use Rattle.patr_lexicon.specs.declared.words.Words as code_words
use Rattle.patr_lexicon.specs.declared.words.Words.TheVariants as code_count
use Rattle.patr_lexicon.specs.declared.gloss.Gloss as code_gloss
use Rattle.patr_lexicon.specs.declared.record.Record as code_record
use Rattle.patr_lexicon.specs.Reading.{place_at}
use Rattle.patr_lexicon.specs.Records.{Words, Empty, One, Several, Open}

-- no byte of these is an LF
abbrev pub NoLf : List ℕ → Type 0
NoLf bs = (i : ℕ) → i < length bs → get_or bs i 0 ≢ 10

-- the pieces of a rest that may be there, cut at the bytes that pass a test
abbrev pub rest_pieces : (ℕ → Bool) → Option (Bor (List ℕ)) → List (List ℕ)
rest_pieces test None = []
rest_pieces test (Some rest) = pieces test rest.now

-- its lines
abbrev pub rest_lines : Option (Bor (List ℕ)) → List (List ℕ)
rest_lines rest = rest_pieces (nat_eq 10) rest

-- a rest, and the LF before it
abbrev pub rest_text : Option (Bor (List ℕ)) → List ℕ
rest_text None = []
rest_text (Some rest) = 10 ∷ rest.now

-- how many bytes a rest has, and the LF before it
abbrev pub rest_len : Option (Bor (List ℕ)) → ℕ
rest_len None = 0
rest_len (Some rest) = 1 + length rest.now

-- a field's text begins where a character does
abbrev pub IsCut : List ℕ → LexiconLine → Type 0
IsCut text (Begins m n) = IsCharBoundary text n
IsCut text _ = Unit {0}

-- the place so many bytes behind another on its line
abbrev pub past : ℕ → ℕ → ℕ → Place
past n k more = place_at n (k + more)

-- a place of the code as one of the definition
abbrev pub place_seen : BadToken → Place
place_seen p = place_at p.line p.column

-- a piece of the code as one of the definition
abbrev pub piece_seen : code_piece.Piece → Piece
piece_seen p = record { place = place_at p.line p.column; text = p.text.now }

-- pieces of the code
abbrev pub pieces_seen : List code_piece.Piece → List Piece
pieces_seen ps = map piece_seen ps

-- words of the code, by their texts
abbrev pub words_seen : code_words.Words → Words
words_seen code_count.Empty = Empty
words_seen (code_count.One w) = One w.now
words_seen code_count.Several = Several

-- the joined text, or else the part
abbrev pub or_part : List ℕ → List ℕ → List ℕ
or_part [] part = part
or_part (b ∷ bs) part = b ∷ bs

-- the text of a gloss
abbrev pub gloss_seen : code_gloss.Gloss → List ℕ
gloss_seen g = or_part (string_bytes g.joined) g.part.now

-- a record as far as it is read
abbrev pub record_seen : code_record.Record → Open
record_seen r = record { line = r.line; word = words_seen r.word; category = words_seen r.category; gloss = gloss_seen r.gloss; features = pieces_seen r.features.pieces.items }
