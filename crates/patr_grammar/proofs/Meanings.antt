-- From what lexemes stand for to what the bytes of a text stand for.
use Rattle.std.proofs.Common.{◌≡◌, ℕ, List, [], ◌∷◌, codes, slice_get, Some, Result, Ok, Err, IfOk, IfErr, IsUtf8, IsTrue, nat_eq, refl, sym, ap, ◌∙◌, subst, arith}
use Rattle.patr_grammar.proofs.Names.{Answers, Each, Extends, Fault, Id, IsLexeme, IsRefusedAt, IsRefusedFor, IsText, Lexeme, Memory, NoRules, Outcome, Place, Refused, SameOutcome, SameRefusal, Stands, StandsFor, Token, WordsAgree, after, by_id, by_text, cause_at, first_place, first_texts, grammar, grammar_seen, nat_tests, place_seen, refusal_seen, stage, start_place, tokens_of}
use Rattle.patr_model.specs.Bytes.{same_text}
use Rattle.patr_model.specs.Table.{IsTable}
use Rattle.patr_model.specs.Parsing as parsing
use Rattle.patr_model.specs.Productions as production
use Rattle.patr_model.specs.GrammarText as told
use Rattle.patr_model.specs.GrammarText.{place_of, of_outcome, of_scanned, reading}
use Rattle.patr_model.specs.Faults.{Misread}
use Rattle.patr_grammar.specs.declared.place.Place as code_place
use Rattle.patr_grammar.specs.declared.grammar.Grammar.{Grammar}
use Rattle.patr_grammar.specs.declared.grammar.GrammarCause.{GrammarCause}
use Rattle.patr_grammar.specs.declared.grammar.GrammarCause.TheVariants as cause
use Rattle.patr_grammar.specs.declared.reader.Refusal.{Refusal}
use Rattle.patr_grammar.specs.declared.reader.Refusal.TheVariants.{Expected, NotAConstituent, TwiceNamed, PathTooLong, TooManySymbols, TooDeep, LaterForm}
use Rattle.patr_grammar.specs.Defaults.{cat_number}
use Rattle.patr_grammar.specs.Reading.{IsFault, refused_at}
use Rattle.patr_model.proofs.Agreeing.{grammars_agree}
use Rattle.patr_text.proofs.Extending.{text_still}
use Rattle.patr_grammar.proofs.Texts.{same_by}

-- ---- lexemes and tokens are read alike

true_is : (a b : ℕ) → IsTrue (nat_eq a b) → a ≡ b
true_is a b h = grind (arith, nat_tests)

is_true : (a b : ℕ) → a ≡ b → IsTrue (nat_eq a b)
is_true a b h = grind (arith, nat_tests)

pub same_texts : (table : List (List ℕ)) → IsTable table → (a b : Id) (c d : List ℕ) → IsText table a c → IsText table b d → nat_eq a.0 b.0 ≡ same_text c d
same_texts table once a b c d h k = same_by (nat_eq a.0 b.0) c d (to, from)
  where
    to : IsTrue (nat_eq a.0 b.0) → c ≡ d
    to t = let e : slice_get table a.0 ≡ slice_get table b.0 = ap (slice_get table) (true_is a.0 b.0 t) in cc

    from : c ≡ d → IsTrue (nat_eq a.0 b.0)
    from e = is_true a.0 b.0 (once a.0 b.0 c h (k ∙ ap (λ (t : List ℕ). Some t) (sym e)))

pub words_agree : (table : List (List ℕ)) → IsTable table → WordsAgree (IsLexeme table) (IsText table) by_id by_text
words_agree table once = record {
  kind = λ l t h. h.kind;
  key = λ l t h. h.key;
  word = λ l t h. h.word;
  category = λ l t h. h.category;
  place = λ l t h. h.place;
  same = same_texts table once;
}

has_cat : (table : List (List ℕ)) → Extends first_texts table → IsText table cat_number (codes "cat")
unfolding first_texts
has_cat table e = text_still first_texts table e 33 (codes "cat") refl

pub places : (table : List (List ℕ)) (end : Place) (ls : List Lexeme) (ts : List Token) → Each (IsLexeme table) ls ts → first_place end ls ≡ place_of end ts
places table end [] [] h = refl
places table end [] (t ∷ ts) h = absurd h
places table end (l ∷ ls) [] h = absurd h
places table end (l ∷ ls) (t ∷ ts) h = h.0.place

-- ---- refusals

-- a refusal of the code is this one by the table
abbrev pub IsRefusal : List (List ℕ) → Refusal → parsing.Refusal (List ℕ) → Type 0
IsRefusal table (Expected what) s = s ≡ parsing.Expected what
IsRefusal table NotAConstituent s = s ≡ parsing.NotAConstituent
IsRefusal table (TwiceNamed name) s = (t : List ℕ) × IsText table name t × (s ≡ parsing.TwiceNamed t)
IsRefusal table PathTooLong s = s ≡ parsing.PathTooLong
IsRefusal table TooManySymbols s = s ≡ parsing.TooManySymbols
IsRefusal table TooDeep s = s ≡ parsing.TooDeep
IsRefusal table LaterForm s = s ≡ parsing.LaterForm

pub same_refusal : (table : List (List ℕ)) (r : Refusal) (s : parsing.Refusal (List ℕ)) → SameRefusal (IsText table) (refusal_seen r) s → IsRefusal table r s
same_refusal table (Expected what) (parsing.Expected other) h = ap (λ w. parsing.Expected w) (sym h)
same_refusal table NotAConstituent parsing.NotAConstituent h = refl
same_refusal table (TwiceNamed name) (parsing.TwiceNamed t) h = (t, h, refl)
same_refusal table PathTooLong parsing.PathTooLong h = refl
same_refusal table TooManySymbols parsing.TooManySymbols h = refl
same_refusal table TooDeep parsing.TooDeep h = refl
same_refusal table LaterForm parsing.LaterForm h = refl
same_refusal table r s h = absurd h

abbrev at_place : ℕ → ℕ → code_place.Place
at_place line column = record { line = line; column = column }

-- a refusal at a place is the fault of its cause
fault_is : (table : List (List ℕ)) (r : Refusal) (s : parsing.Refusal (List ℕ)) (p : code_place.Place) → IsRefusal table r s → IsFault table (cause_at r p) (refused_at s p.line p.column)
fault_is table (Expected what) s p h = ap (λ s. refused_at s p.line p.column) h
fault_is table NotAConstituent s p h = ap (λ s. refused_at s p.line p.column) h
fault_is table (TwiceNamed name) s p h = (h.0, h.1, ap (λ s. refused_at s p.line p.column) h.2)
fault_is table PathTooLong s p h = ap (λ s. refused_at s p.line p.column) h
fault_is table TooManySymbols s p h = ap (λ s. refused_at s p.line p.column) h
fault_is table TooDeep s p h = ap (λ s. refused_at s p.line p.column) h
fault_is table LaterForm s p h = ap (λ s. refused_at s p.line p.column) h

-- ---- a text, its tokens, and its lexemes by a table

module _ (table : List (List ℕ)) (bytes : List ℕ) (ts : List Token) (utf8 : IsUtf8 bytes) (scanned : tokens_of bytes ≡ Ok ts) where
  abbrev end : Place
  end = after start_place bytes

  abbrev by_tokens : Outcome Token (List ℕ)
  by_tokens = grammar by_text stage (codes "cat") ts

  abbrev Same : Outcome Lexeme Id → Outcome Token (List ℕ) → Type 0
  Same o p = SameOutcome (IsLexeme table) (IsText table) o p

  is_read : (p : Outcome Token (List ℕ)) → by_tokens ≡ p → reading stage bytes ≡ of_outcome end p
  is_read p e = ap (of_scanned stage end) scanned ∙ ap (of_outcome end) e

  stands_for : (g : Grammar) (p : Outcome Token (List ℕ)) → by_tokens ≡ p → Same (Stands (grammar_seen g)) p → StandsFor table bytes g
  stands_for g (Stands h) e same = (h, (utf8, is_read (Stands h) e), same)
  stands_for g NoRules e same = absurd same
  stands_for g (production.Refused r rest) e same = absurd same

  without_rules : (p : Outcome Token (List ℕ)) → by_tokens ≡ p → Same NoRules p → reading stage bytes ≡ told.NoRules
  without_rules (Stands h) e same = absurd same
  without_rules NoRules e same = is_read NoRules e
  without_rules (production.Refused r rest) e same = absurd same

  -- the token at this place, or the end, is refused so
  abbrev IsRefusedSo : Refusal → Place → Type 0
  IsRefusedSo r place = (s : parsing.Refusal (List ℕ)) × (reading stage bytes ≡ told.Refused s place) × IsRefusal table r s

  refused : (r : Refusal) (place : Place) (rest : List Lexeme) (p : Outcome Token (List ℕ)) → by_tokens ≡ p → place ≡ first_place end rest → Same (production.Refused (refusal_seen r) rest) p → IsRefusedSo r place
  refused r place rest (Stands h) e at same = absurd same
  refused r place rest NoRules e at same = absurd same
  refused r place rest (production.Refused s us) e at same =
      (s, is_read (production.Refused s us) e ∙ ap (told.Refused s) (sym (at ∙ places table end rest us same.1)), same_refusal table r s same.0)

  refused_for : (r : Refusal) (p : code_place.Place) (o : Outcome Lexeme Id) → IsRefusedAt (refusal_seen r) p.line p.column end o → Same o by_tokens → IsRefusedFor table bytes (Refused (cause_at r p))
  refused_for r p o h same =
      let so : IsRefusedSo r (place_seen p) = refused r (place_seen p) h.0 by_tokens refl h.2 (subst (λ (o : Outcome Lexeme Id). Same o by_tokens) h.1 same) in
      (Misread (told.Refused so.0 (place_seen p)), (utf8, so.1, λ x. x), fault_is table r so.0 p so.2)

  refusal_is : (c : GrammarCause) (o : Outcome Lexeme Id) → Answers end (Err (Refused c)) o → Same o by_tokens → IsRefusedFor table bytes (Refused c)
  refusal_is (cause.NotUtf8 at) o h same = absurd h
  refusal_is (cause.BadToken line column) o h same = absurd h
  refusal_is (cause.Expected line column what) o h same = refused_for (Expected what) (at_place line column) o h same
  refusal_is (cause.NotAConstituent line column) o h same = refused_for NotAConstituent (at_place line column) o h same
  refusal_is (cause.TwiceNamed line column name) o h same = refused_for (TwiceNamed name) (at_place line column) o h same
  refusal_is (cause.PathTooLong line column) o h same = refused_for PathTooLong (at_place line column) o h same
  refusal_is (cause.TooManySymbols line column) o h same = refused_for TooManySymbols (at_place line column) o h same
  refusal_is cause.NoRules o h same = (Misread told.NoRules, (utf8, without_rules by_tokens refl (subst (λ (o : Outcome Lexeme Id). Same o by_tokens) h same), λ x. x), refl)
  refusal_is (cause.TooDeep line column) o h same = refused_for TooDeep (at_place line column) o h same
  refusal_is (cause.LaterForm line column) o h same = refused_for LaterForm (at_place line column) o h same

  -- what is answered of the lexemes is so of the bytes
  pub answered : (ls : List Lexeme) (result : Result Grammar (Fault GrammarCause)) → IsTable table → Extends first_texts table → Each (IsLexeme table) ls ts → Answers end result (grammar by_id stage cat_number ls)
      → IfOk result (λ g. StandsFor table bytes g) × IfErr result (λ fault. IsRefusedFor table bytes fault)
  answered ls result once begins each answers = by result answers
    where
      same : Same (grammar by_id stage cat_number ls) by_tokens
      same = grammars_agree (IsLexeme table) (IsText table) by_id by_text (words_agree table once) stage cat_number (codes "cat") (has_cat table begins) ls ts each

      by : (result : Result Grammar (Fault GrammarCause)) → Answers end result (grammar by_id stage cat_number ls) → IfOk result (λ g. StandsFor table bytes g) × IfErr result (λ fault. IsRefusedFor table bytes fault)
      by (Ok g) h = (stands_for g by_tokens refl (subst (λ (o : Outcome Lexeme Id). Same o by_tokens) h same), tt)
      by (Err Memory) h = (tt, tt)
      by (Err (Refused c)) h = (tt, refusal_is c (grammar by_id stage cat_number ls) h same)
