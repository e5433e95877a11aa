-- The tokens of pieces of features, cut from the whole text.
use Rattle.std.specs.Prelude.{◌≡◌, ℕ, ◌≤◌, List, map}
use Rattle.std.specs.List.{All, flat_map}
use Rattle.patr_model.specs.Tokens.{Token}
use Rattle.patr_model.specs.LexiconLines.{Piece}
use Rattle.patr_model.specs.LexiconText.{piece_tokens}
use Rattle.patr_text.specs.declared.token.Token as code
use Rattle.patr_text.specs.Tokens.{seen}
use Rattle.patr_grammar.specs.Views.{IsSpelled, bytes_of}
use Rattle.patr_lexicon.specs.Records.{bytes_in}

-- a token, wherever it starts
abbrev pub anywhere : Token → Token
anywhere t = record { kind = t.kind; text = t.text; start = 0; place = t.place }

-- tokens of a text are those of pieces but for the bytes at which they start
pub record AreCutFrom (text : List ℕ) (ps : List Piece) (ts : List code.Token) : Type 0 where
  pub spelled : All (IsSpelled text) ts
  pub same : map anywhere (map (seen text) ts) ≡ map anywhere (flat_map piece_tokens ps)
  pub few : bytes_of ts ≤ bytes_in ps
