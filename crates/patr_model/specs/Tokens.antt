-- The tokens of a text, with their places: what stands at the front of the bytes, and then what stands behind it.
--     front bytes            what stands at the front, and how many bytes it has
--     scan skip at p bytes   the tokens of the bytes, or the place of the first character that is refused
use Rattle.std.specs.Prelude.{◌≡◌, ℕ, zero, suc, ◌+◌, ◌-◌, List, [], ◌∷◌, take, Bool, false, cond, not, ◌&&◌, ◌||◌, nat_eq, nat_lt, Option, Some, None, Result, Ok, Err}
use Rattle.std.specs.List.{AllByRecursion, prefix_len}
use Rattle.patr_model.specs.declared.lookahead.Kind.{Kind}
use Rattle.patr_model.specs.declared.lookahead.Kind.TheVariants.{Less, Greater, Equal, OpenBrace, CloseBrace, OpenParen, CloseParen, OpenBracket, CloseBracket, Slash, Colon, Dot, Arrow, Word}
use Rattle.patr_model.specs.declared.lookahead.Lookahead.{Lookahead}
use Rattle.patr_model.specs.declared.lookahead.Lookahead.TheVariants.{Blank, Piece, Control}
use Rattle.patr_model.specs.Text.{is_plain, begins_with_greater}

-- a line from 1, and a column: 1 and the number of bytes before it on its line
pub record Place : Type 0 where
  pub line : ℕ
  pub column : ℕ

-- a token with its text, the byte at which it starts, and its place
pub record Token : Type 0 where
  pub kind : Kind
  pub text : List ℕ
  pub start : ℕ
  pub place : Place

-- ---- characters

-- a space, a tab, an LF or a CR
abbrev pub is_white : ℕ → Bool
is_white b = nat_eq b 32 || nat_eq b 9 || nat_eq b 10 || nat_eq b 13

-- a control character that is no white space
abbrev pub is_control : ℕ → Bool
is_control b = (nat_lt b 32 && not (is_white b)) || nat_eq b 127

-- the bytes are no white space and no control characters, and there is one at least
abbrev pub IsPlainWord : List ℕ → Type 0
IsPlainWord [] = ⊥
IsPlainWord (b ∷ bs) = AllByRecursion (λ c. (is_white c ≡ false) × (is_control c ≡ false)) (b ∷ bs)

-- the kind of a token that is this character alone
abbrev pub single : ℕ → Option Kind
single b =
    cond (nat_eq b 60) (Some Less) (cond (nat_eq b 62) (Some Greater) (cond (nat_eq b 61) (Some Equal)
    (cond (nat_eq b 123) (Some OpenBrace) (cond (nat_eq b 125) (Some CloseBrace) (cond (nat_eq b 40) (Some OpenParen) (cond (nat_eq b 41) (Some CloseParen)
    (cond (nat_eq b 91) (Some OpenBracket) (cond (nat_eq b 93) (Some CloseBracket)
    (cond (nat_eq b 47) (Some Slash) (cond (nat_eq b 58) (Some Colon) (cond (nat_eq b 46) (Some Dot) None)))))))))))

-- an Arrow stands at the front
abbrev pub begins_arrow : List ℕ → Bool
begins_arrow [] = false
begins_arrow (b ∷ bs) = nat_eq b 45 && begins_with_greater bs

-- a plain character that is not the `-` of an Arrow
abbrev pub begins_plain : List ℕ → Bool
begins_plain [] = false
begins_plain (b ∷ bs) = is_plain b && not (nat_eq b 45 && begins_with_greater bs)

-- a Word goes on here: with a plain character, or with a `.` before one
abbrev pub word_goes_on : List ℕ → Bool
word_goes_on [] = false
word_goes_on (b ∷ bs) = begins_plain (b ∷ bs) || (nat_eq b 46 && begins_plain bs)

-- how many bytes a Word has from here on
unfoldable pub word_len : List ℕ → ℕ
word_len [] = 0
word_len (b ∷ bs) = cond (word_goes_on (b ∷ bs)) (suc (word_len bs)) 0

-- how many bytes stand before the next LF
abbrev pub line_len : List ℕ → ℕ
line_len bs = prefix_len (λ b. not (nat_eq b 10)) bs

-- one character as a token: of its kind, or a Word where it has none
abbrev pub piece : Option Kind → Lookahead
piece None = Piece Word 1
piece (Some k) = Piece k 1

-- What stands at the front, and how many bytes it has: white space, a comment up to its line's end, an Arrow, a Word, a control character, or another character alone.
abbrev pub front : List ℕ → Lookahead
front [] = Blank 0
front (b ∷ bs) =
    cond (is_white b) (Blank 1)
    (cond (nat_eq b 59) (Blank (1 + line_len bs))
    (cond (begins_arrow (b ∷ bs)) (Piece Arrow 2)
    (cond (begins_plain (b ∷ bs)) (Piece Word (1 + word_len bs))
    (cond (is_control b) Control (piece (single b))))))

-- ---- places

-- the place after a byte
abbrev pub step : Place → ℕ → Place
step p b = cond (nat_eq b 10) (record { line = p.line + 1; column = 1 }) (record { line = p.line; column = p.column + 1 })

-- the place after several bytes
abbrev pub after : Place → List ℕ → Place
after p [] = p
after p (b ∷ bs) = after (step p b) bs

-- the place behind what begins with this byte and has so many, none of the others an LF
abbrev pub passed : Place → ℕ → ℕ → Place
passed p b n = cond (nat_eq b 10) (record { line = p.line + 1; column = 1 }) (record { line = p.line; column = p.column + n })

-- the place of the first byte of a text
abbrev pub start_place : Place
start_place = record { line = 1; column = 1 }

-- ---- the tokens, or the place of the first character that is refused

-- what a scan gives
abbrev pub Scanned : Type 0
Scanned = Result (List Token) Place

-- a token before what is read behind it
abbrev pub with_token : Token → Scanned → Scanned
with_token t (Ok ts) = Ok (t ∷ ts)
with_token t (Err p) = Err p

-- what is read where this stands at the front of the bytes, and rest is what is read behind it, where so many more bytes belong to it
abbrev pub read_front : Lookahead → ℕ → Place → List ℕ → (ℕ → Scanned) → Scanned
read_front (Blank n) at p bytes rest = rest (n - 1)
read_front (Piece k n) at p bytes rest = with_token (record { kind = k; text = take n bytes; start = at; place = p }) (rest (n - 1))
read_front Control at p bytes rest = Err p

-- What the bytes from here on give, after so many that belong to what stands before.
unfoldable pub scan : ℕ → ℕ → Place → List ℕ → Scanned
scan skip at p [] = Ok []
scan (suc n) at p (b ∷ bs) = scan n (at + 1) (step p b) bs
scan zero at p (b ∷ bs) = read_front (front (b ∷ bs)) at p (b ∷ bs) (λ n. scan n (at + 1) (step p b) bs)

-- the tokens of a whole text
abbrev pub tokens_of : List ℕ → Scanned
tokens_of bytes = scan 0 0 start_place bytes
