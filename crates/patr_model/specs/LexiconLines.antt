-- The lines of a lexicon, and its fields.
use Rattle.std.specs.Prelude.{ℕ, suc, ◌+◌, List, [], ◌∷◌, take, drop, Bool, true, false, cond, not, ◌&&◌, ◌||◌, nat_eq, Option, Some, None}
use Rattle.std.specs.List.{prefix_len, list_all}
use Rattle.patr_model.specs.declared.field.Marker.{Marker}
use Rattle.patr_model.specs.declared.field.Marker.TheVariants as marker
use Rattle.patr_model.specs.declared.field.LexiconLine.{LexiconLine}
use Rattle.patr_model.specs.declared.field.LexiconLine.TheVariants.{Ignored, Begins, Text}
use Rattle.patr_model.specs.Session.{is_blank, pieces}
use Rattle.patr_model.specs.Tokens.{Place, is_control}

-- a piece of a line, from its place up to the line's end, without the LF
pub record Piece : Type 0 where
  pub place : Place
  pub text : List ℕ

-- line n whole
abbrev pub line_at : ℕ → List ℕ → Piece
line_at n text = record { place = record { line = n; column = 1 }; text = text }

-- lines that are numbered from n on
abbrev pub numbered : ℕ → List (List ℕ) → List Piece
numbered n [] = []
numbered n (l ∷ ls) = line_at n l ∷ numbered (suc n) ls

-- the lines of a lexicon, the last of which may be empty
abbrev pub lines : List ℕ → List Piece
lines bytes = numbered 1 (pieces (nat_eq 10) bytes)

-- ---- one line

-- a space, a tab or a CR
abbrev pub is_edge : ℕ → Bool
is_edge b = is_blank b || nat_eq b 13

-- how many bytes stand before the first edge
abbrev pub marker_len : List ℕ → ℕ
marker_len text = prefix_len (λ b. not (is_edge b)) text

-- how many spaces and tabs stand at the front
abbrev pub blank_len : List ℕ → ℕ
blank_len text = prefix_len is_blank text

-- the text begins with this byte
abbrev pub begins_with : ℕ → List ℕ → Bool
begins_with c [] = false
begins_with c (b ∷ bs) = nat_eq b c

-- white space alone
abbrev pub is_white_line : List ℕ → Bool
is_white_line text = list_all is_edge text

-- a comment: the first character that isn't a space or a tab is `;`
abbrev pub is_comment : List ℕ → Bool
is_comment text = begins_with 59 (drop (blank_len text) text)

-- the marker that a text is
abbrev pub marker_of : List ℕ → Marker
marker_of (b ∷ []) = cond (nat_eq b 119) marker.Word (cond (nat_eq b 99) marker.Category (cond (nat_eq b 102) marker.Features (cond (nat_eq b 103) marker.Gloss marker.Other)))
marker_of _ = marker.Other

-- a field begins: its marker is the run of characters behind the `\` up to an edge or the end
abbrev pub begun : List ℕ → LexiconLine
begun rest = Begins (marker_of (take (marker_len rest) rest)) (1 + marker_len rest)

-- what a line is
abbrev pub kind : List ℕ → LexiconLine
kind text = cond (is_white_line text || is_comment text) Ignored (cond (begins_with 92 text) (begun (drop 1 text)) Text)

-- the piece behind so many bytes
abbrev pub behind : ℕ → Piece → Piece
behind n l = record { place = record { line = l.place.line; column = l.place.column + n }; text = drop n l.text }

-- ---- characters that are refused

-- the first of two places, where there is one
abbrev pub or_later : Option Place → Option Place → Option Place
or_later None q = q
or_later (Some p) q = Some p

-- the first control character, up to a comment where comments are read
unfoldable pub control : Bool → Place → List ℕ → Option Place
control comments p [] = None
control comments p (b ∷ bs) = cond (is_control b) (Some p) (cond (comments && nat_eq b 59) None (control comments (record { line = p.line; column = p.column + 1 }) bs))

-- a `;` begins a comment in fields of this marker
abbrev pub reads_comments : Marker → Bool
reads_comments marker.Features = true
reads_comments _ = false

-- the first control character of a line of this kind, in a field that reads comments or not
abbrev pub control_in : Bool → Piece → LexiconLine → Option Place
control_in comments l Ignored = None
control_in comments l (Begins m n) = control (reads_comments m) l.place l.text
control_in comments l Text = control comments l.place l.text

-- whether comments are read behind a line of this kind
abbrev pub comments_after : Bool → LexiconLine → Bool
comments_after comments Ignored = comments
comments_after comments (Begins m n) = reads_comments m
comments_after comments Text = comments

-- the first character that is refused
abbrev pub bad_token : Bool → List Piece → Option Place
bad_token comments [] = None
bad_token comments (l ∷ ls) = or_later (control_in comments l (kind l.text)) (bad_token (comments_after comments (kind l.text)) ls)

-- ---- fields

-- a field: its marker, the line that begins it, and its pieces, ignored lines left out
pub record Field : Type 0 where
  pub marker : Marker
  pub line : ℕ
  pub pieces : List Piece

-- the pieces that belong to the field before, and the fields behind them
pub record Fields : Type 0 where
  pub pieces : List Piece
  pub fields : List Field

-- a line of this kind in front of fields
abbrev pub line_before : Piece → LexiconLine → Fields → Fields
line_before l Ignored fs = fs
line_before l (Begins m n) fs = record { pieces = []; fields = record { marker = m; line = l.place.line; pieces = behind n l ∷ fs.pieces } ∷ fs.fields }
line_before l Text fs = record { pieces = l ∷ fs.pieces; fields = fs.fields }

-- the fields of lines
abbrev pub fields_of : List Piece → Fields
fields_of [] = record { pieces = []; fields = [] }
fields_of (l ∷ ls) = line_before l (kind l.text) (fields_of ls)
