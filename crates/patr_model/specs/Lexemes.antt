-- What the notation of grammars needs to know of tokens.
use Rattle.std.specs.Prelude.{ℕ, ◌+◌, List, [], ◌∷◌, map, Bool, true, false, cond, not, ◌&&◌, ◌||◌, nat_eq, nat_le, codes}
use Rattle.patr_model.specs.Bytes.{same_text}
use Rattle.patr_model.specs.declared.lookahead.Kind.{Kind}
use Rattle.patr_model.specs.declared.lookahead.Kind.TheVariants.{Less, Greater, Equal, OpenBrace, CloseBrace, OpenParen, CloseParen, OpenBracket, CloseBracket, Slash, Colon, Dot, Arrow, Word}
use Rattle.patr_model.specs.declared.notation.Keyword.{Keyword}
use Rattle.patr_model.specs.declared.notation.Keyword.TheVariants as key
use Rattle.patr_model.specs.Tokens.{Place, Token}

-- ---- words of the notation

-- an ASCII letter in lower case
abbrev pub lower : ℕ → ℕ
lower b = cond (nat_le 65 b && nat_le b 90) (b + 32) b

-- the text is this keyword, whatever the case of its letters
abbrev pub is_keyword : List ℕ → List ℕ → Bool
is_keyword word text = same_text (map lower text) word

-- which word of the notation a text is: a keyword, or `in` or `out` as they are written
abbrev pub key_of : List ℕ → Keyword
key_of text =
    cond (is_keyword (codes "rule") text) key.Rule (cond (is_keyword (codes "let") text) key.Let (cond (is_keyword (codes "define") text) key.Define
    (cond (is_keyword (codes "parameter") text) key.Parameter (cond (is_keyword (codes "be") text) key.Be (cond (is_keyword (codes "as") text) key.As
    (cond (is_keyword (codes "is") text) key.Is (cond (is_keyword (codes "start") text) key.Start (cond (is_keyword (codes "symbol") text) key.Symbol
    (cond (is_keyword (codes "restrictor") text) key.Restrictor (cond (is_keyword (codes "attribute") text) key.Attribute (cond (is_keyword (codes "order") text) key.Order
    (cond (same_text text (codes "in")) key.In (cond (same_text text (codes "out")) key.Out key.Plain)))))))))))))

-- ---- the category of a symbol

-- digits alone
abbrev pub all_digits : List ℕ → Bool
all_digits [] = true
all_digits (b ∷ bs) = nat_le 48 b && nat_le b 57 && all_digits bs

-- a `_` and digits, one at least
abbrev pub is_index : List ℕ → Bool
is_index [] = false
is_index (b ∷ []) = false
is_index (b ∷ c ∷ bs) = nat_eq b 95 && all_digits (c ∷ bs)

-- what stands behind a symbol's first character, without an index at the end
abbrev pub after_first : List ℕ → List ℕ
after_first [] = []
after_first (b ∷ bs) = cond (is_index (b ∷ bs)) [] (b ∷ after_first bs)

-- a symbol's text without its index: a `_` and digits at the end, behind another character
abbrev pub without_index : List ℕ → List ℕ
without_index [] = []
without_index (b ∷ bs) = b ∷ after_first bs

-- ---- tokens

-- How tokens of the type T are read, whose texts are of the type W: as texts, or as numbers of texts. A token has a kind, a text, which may be a word of the notation, the category of the symbol that it may be, and a place; and texts are compared.
pub record Words (T W : Type 0) : Type 0 where
  pub kind : T → Kind
  pub key : T → Keyword
  pub word : T → W
  pub category : T → W
  pub place : T → Place
  pub same : W → W → Bool

-- tokens by their texts
abbrev pub by_text : Words Token (List ℕ)
by_text = record { kind = λ t. t.kind; key = λ t. key_of t.text; word = λ t. t.text; category = λ t. without_index t.text; place = λ t. t.place; same = same_text }

-- ---- tests

-- the kinds by number
abbrev pub kind_number : Kind → ℕ
kind_number Less = 0
kind_number Greater = 1
kind_number Equal = 2
kind_number OpenBrace = 3
kind_number CloseBrace = 4
kind_number OpenParen = 5
kind_number CloseParen = 6
kind_number OpenBracket = 7
kind_number CloseBracket = 8
kind_number Slash = 9
kind_number Colon = 10
kind_number Dot = 11
kind_number Arrow = 12
kind_number Word = 13

-- the words of the notation by number
abbrev pub key_number : Keyword → ℕ
key_number key.Plain = 0
key_number key.Rule = 1
key_number key.Let = 2
key_number key.Define = 3
key_number key.Parameter = 4
key_number key.Be = 5
key_number key.As = 6
key_number key.Is = 7
key_number key.Start = 8
key_number key.Symbol = 9
key_number key.Restrictor = 10
key_number key.Attribute = 11
key_number key.Order = 12
key_number key.In = 13
key_number key.Out = 14

module _ {T W : Type 0} (words : Words T W) where
  -- the token is of this kind
  abbrev pub is_kind : Kind → T → Bool
  is_kind k t = nat_eq (kind_number (words.kind t)) (kind_number k)

  -- the token is this word of the notation
  abbrev pub is_key : Keyword → T → Bool
  is_key k t = is_kind Word t && nat_eq (key_number (words.key t)) (key_number k)

  -- the token is a word that begins a clause
  abbrev pub is_clause_word : T → Bool
  is_clause_word t = is_key key.Rule t || is_key key.Let t || is_key key.Define t || is_key key.Parameter t

  -- a Word that begins no clause: a Symbol, and a Name
  abbrev pub is_symbol : T → Bool
  is_symbol t = is_kind Word t && not (is_clause_word t)

-- the first token passes the test
abbrev pub begins : {T : Type 0} → (T → Bool) → List T → Bool
begins test [] = false
begins test (t ∷ ts) = test t
