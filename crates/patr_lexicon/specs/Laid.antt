-- Where pieces of features stand in the whole text of a lexicon.
use Rattle.std.specs.Prelude.{◌≡◌, ℕ, ◌+◌, ◌<◌, ◌≤◌, List, length, take, drop, Option, None, Some}
use Rattle.std.specs.List.{All}
use Rattle.std.specs.Str.{IsCharBoundary}
use Rattle.patr_model.specs.Tokens.{after, start_place}
use Rattle.patr_model.specs.LexiconLines.{Piece, behind}
use Rattle.patr_model.specs.LexiconText.{end_of}
use Rattle.patr_lexicon.specs.declared.line.Piece as code_piece
use Rattle.patr_lexicon.specs.declared.features.Features as code_features
use Rattle.patr_lexicon.specs.declared.record.Record as code_record
use Rattle.patr_lexicon.specs.Parts.{piece_seen, pieces_seen}

-- a piece stands in a text from this byte on, and its bytes have the places there that it says
pub record StandsAt (text : List ℕ) (start : ℕ) (p : Piece) : Type 0 where
  pub begins : IsCharBoundary text start
  pub ends : IsCharBoundary text (start + length p.text)
  pub slice : drop start (take (start + length p.text) text) ≡ p.text
  pub places : (k : ℕ) → k ≤ length p.text → after start_place (take (start + k) text) ≡ (behind k p).place

-- the byte of the text behind a piece
abbrev pub end_byte : code_piece.Piece → ℕ
end_byte p = p.start + length p.text.now

-- a piece stands in a text where it says, and ends at this byte or before
pub record EndsBy (text : List ℕ) (end : ℕ) (p : code_piece.Piece) : Type 0 where
  pub stands : StandsAt text p.start (piece_seen p)
  pub within : end_byte p ≤ end

-- the pieces of features stand in a text where they say, and the last of them ends where the features say
pub record AreLaid (text : List ℕ) (f : code_features.Features) : Type 0 where
  pub pieces : All (EndsBy text f.end) f.pieces.items
  pub cut : 0 < f.end → IsCharBoundary text f.end
  pub end : end_of start_place (pieces_seen f.pieces.items) ≡ after start_place (take f.end text)

-- and all of them end at this byte or before
pub record AreLaidBefore (text : List ℕ) (at : ℕ) (f : code_features.Features) : Type 0 where
  pub laid : AreLaid text f
  pub before : f.end ≤ at

-- so do the pieces of features of a record, where there is one
abbrev pub IsLaidBefore : List ℕ → ℕ → Option code_record.Record → Type 0
IsLaidBefore text at None = Unit {0}
IsLaidBefore text at (Some r) = AreLaidBefore text at r.features
