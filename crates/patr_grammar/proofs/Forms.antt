-- What lexemes of names, paths and symbols give.
use Rattle.std.proofs.Common.{◌≡◌, ℕ, zero, suc, ◌-◌, ◌≤◌, Bool, true, false, cond, List, [], ◌∷◌, ◌++◌, nat_eq, refl, sym, ap, ◌∙◌, arith, append-nil}
use Rattle.patr_model.specs.declared.notation.What.{What}
use Rattle.patr_model.specs.declared.notation.What.TheVariants as what
use Rattle.patr_grammar.proofs.Names.{CloseBrace, Expected, Got, Id, Item, Left, Lexeme, OpenBrace, Parse, PathTooLong, Single, Stops, SymbolText, TooManySymbols, Word, Words, ◌>>=◌, begins, by_id, is_kind, is_symbol, name_tokens, nat_tests, one, onto, symbol_item, symbol_of, word_list}
use Rattle.patr_model.specs.Parsing.{maybe}
use Rattle.patr_grammar.proofs.Loops.{onto_one}

module _ {T W : Type 0} (words : Words T W) where
  -- ---- names

  pub name_goes_on : (front : List W) (t : T) (ts : List T) → is_kind words CloseBrace t ≡ false → is_kind words OpenBrace t ≡ false → onto front (name_tokens words (t ∷ ts)) ≡ onto (front ++ words.word t ∷ []) (name_tokens words ts)
  unfolding name_tokens
  name_goes_on front t ts a b = rw (a, b) (onto_one front (words.word t) (name_tokens words ts))

  pub name_ends : (front : List W) (t : T) (ts : List T) → is_kind words CloseBrace t ≡ true → onto front (name_tokens words (t ∷ ts)) ≡ Got front ts
  unfolding name_tokens
  name_ends front t ts a = rw a (ap (λ (xs : List W). Got xs ts) (append-nil front))

  pub name_stops : (front : List W) (t : T) (ts : List T) → is_kind words CloseBrace t ≡ false → is_kind words OpenBrace t ≡ true → onto front (name_tokens words (t ∷ ts)) ≡ Stops (Expected what.CloseBrace) (t ∷ ts)
  unfolding name_tokens
  name_stops front t ts a b = rw (a, b) refl

  pub name_missing : (front : List W) → onto front (name_tokens words []) ≡ Stops (Expected what.CloseBrace) []
  unfolding name_tokens
  name_missing front = refl

  -- ---- a symbol of a right side

  abbrev ItemParse : Type 0
  ItemParse = Parse T W (Left T) (Item (SymbolText W))

  symbol_step : ℕ → T → List T → Bool → ItemParse
  symbol_step left t ts b = cond b (Got t ts) (Stops (Expected what.Symbol) (t ∷ ts)) >>= λ t' ts'. cond (nat_eq left 0) (Stops TooManySymbols (t ∷ ts)) (Got (Single (symbol_of words t')) (record { symbols = left - 1; tokens = ts' }))

  pub symbol_read : (left : ℕ) (t : T) (ts : List T) → is_symbol words t ≡ true → (left ≡ 0 → ⊥) → symbol_item words (record { symbols = left; tokens = t ∷ ts }) ≡ Got (Single (symbol_of words t)) (record { symbols = left - 1; tokens = ts })
  unfolding symbol_step
  symbol_read left t ts a h = let e : nat_eq left 0 ≡ false = grind (arith, nat_tests) in
      ap (symbol_step left t ts) a ∙ ap (λ (b : Bool). cond b (Stops TooManySymbols (t ∷ ts)) (Got (Single (symbol_of words t)) (record { symbols = left - 1; tokens = ts }))) e

  pub symbol_too_many : (left : ℕ) (t : T) (ts : List T) → is_symbol words t ≡ true → left ≡ 0 → symbol_item words (record { symbols = left; tokens = t ∷ ts }) ≡ Stops TooManySymbols (t ∷ ts)
  unfolding symbol_step
  symbol_too_many left t ts a h = let e : nat_eq left 0 ≡ true = grind (arith, nat_tests) in
      ap (symbol_step left t ts) a ∙ ap (λ (b : Bool). cond b (Stops TooManySymbols (t ∷ ts)) (Got (Single (symbol_of words t)) (record { symbols = left - 1; tokens = ts }))) e

  pub symbol_missing : (left : ℕ) (t : T) (ts : List T) → is_symbol words t ≡ false → symbol_item words (record { symbols = left; tokens = t ∷ ts }) ≡ Stops (Expected what.Symbol) (t ∷ ts)
  unfolding symbol_step
  symbol_missing left t ts a = ap (symbol_step left t ts) a

-- a token that is there is read, and is passed
pub passes : {T W : Type 0} (test : T → Bool) (w : What) (ts : List T) → begins test ts ≡ true → (t : T) × (one {W = W} test w ts ≡ Got t (maybe test ts))
passes test w [] h = absurd cc
passes test w (t ∷ ts) h = (t, ap (λ b. cond b (Got t ts) (Stops (Expected w) (t ∷ ts))) h ∙ ap (λ b. Got t (cond b ts (t ∷ ts))) (sym h))

-- ---- the words of a path

words_end : (left n : ℕ) (ts : (List Lexeme)) → begins (is_kind by_id Word) ts ≡ false → word_list by_id left n ts ≡ Got [] ts
unfolding word_list
words_end left zero ts h = refl
words_end left (suc n) [] h = refl
words_end zero (suc n) (t ∷ ts) h = rw h refl
words_end (suc left) (suc n) (t ∷ ts) h = rw h refl

abbrev WordParse : Type 0
WordParse = Parse Lexeme Id (List Lexeme) (List Id)

pub word_goes_on : (front : List Id) (left n : ℕ) (t : Lexeme) (ts : (List Lexeme)) (total : WordParse) → is_kind by_id Word t ≡ true → (left ≡ 0 → ⊥) → 1 ≤ n → onto front (word_list by_id left n (t ∷ ts)) ≡ total → onto (front ++ t.word ∷ []) (word_list by_id (left - 1) (n - 1) ts) ≡ total
unfolding word_list
word_goes_on front zero n t ts total h some one e = absurd (some refl)
word_goes_on front (suc left) zero t ts total h some one e = absurd (omega arith)
word_goes_on front (suc left) (suc n) t ts total h some one e =
    let a : suc left - 1 ≡ left = omega arith in
    let b : suc n - 1 ≡ n = omega arith in
    ap (λ (k : ℕ). onto (front ++ t.word ∷ []) (word_list by_id k (suc n - 1) ts)) a ∙ ap (λ (k : ℕ). onto (front ++ t.word ∷ []) (word_list by_id left k ts)) b ∙ sym (onto_one front t.word (word_list by_id left n ts))
    ∙ ap (λ (x : Bool). onto front (cond x (word_list by_id left n ts >>= λ vs r. Got (t.word ∷ vs) r) (Got [] (t ∷ ts)))) (sym h) ∙ e

pub word_too_many : (front : List Id) (left n : ℕ) (t : Lexeme) (ts : (List Lexeme)) (total : WordParse) → is_kind by_id Word t ≡ true → left ≡ 0 → 1 ≤ n → onto front (word_list by_id left n (t ∷ ts)) ≡ total → total ≡ Stops PathTooLong (t ∷ ts)
unfolding word_list
word_too_many front zero zero t ts total h none one e = absurd (omega arith)
word_too_many front zero (suc n) t ts total h none one e = sym e ∙ ap (λ (x : Bool). onto front (cond x (Stops PathTooLong (t ∷ ts)) (Got [] (t ∷ ts)))) h
word_too_many front (suc left) n t ts total h none one e = absurd (omega arith)

pub words_stop : (front : List Id) (left n : ℕ) (ts : (List Lexeme)) (total : WordParse) → begins (is_kind by_id Word) ts ≡ false → onto front (word_list by_id left n ts) ≡ total → total ≡ Got front ts
words_stop front left n ts total h e = sym e ∙ ap (onto front) (words_end left n ts h) ∙ ap (λ (xs : List Id). Got xs ts) (append-nil front)
