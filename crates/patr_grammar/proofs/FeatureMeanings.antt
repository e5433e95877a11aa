-- From what the lexemes of features stand for to what their tokens stand for.
use Rattle.std.proofs.Common.{◌≡◌, ℕ, List, map, Result, Ok, Err, IfOk, IfErr, Vec, Global, refl, sym, ap, ◌∙◌, subst}
use Rattle.patr_grammar.proofs.Names.{AnswersFeatures, Each, Fault, FeatureText, Got, Id, IsLexeme, IsText, Lexeme, Memory, Parse, Place, Refused, Row, SameFeatureText, SameRow, Stops, StopsAt, Token, after, by_id, by_text, cause_at, elements, features_seen, first_place, place_seen, refusal_seen, seen, stage, start_place}
use Rattle.patr_model.specs.Table.{IsTable}
use Rattle.patr_model.specs.Parsing as parsing
use Rattle.patr_model.specs.LexiconText.{BadFeatures, as_features}
use Rattle.patr_model.proofs.SameParses.{SameParse}
use Rattle.patr_text.specs.declared.token.Token as code
use Rattle.patr_grammar.specs.declared.place.Place as code_place
use Rattle.patr_grammar.specs.declared.grammar.Element.{Element}
use Rattle.patr_grammar.specs.declared.grammar.GrammarCause.{GrammarCause}
use Rattle.patr_grammar.specs.declared.grammar.GrammarCause.TheVariants as cause
use Rattle.patr_grammar.specs.declared.reader.Refusal.{Refusal}
use Rattle.patr_grammar.specs.declared.reader.Refusal.TheVariants.{Expected, NotAConstituent, TwiceNamed, PathTooLong, TooManySymbols, TooDeep, LaterForm}
use Rattle.patr_grammar.specs.Features.{features_in, StandForFeatures, refused_at, AreRefusedFor}
use Rattle.patr_grammar.proofs.FeatureRefusals.{IsRefusedSo, refused_so}
use Rattle.patr_grammar.proofs.Meanings.{words_agree, places, IsRefusal, same_refusal}
use Rattle.patr_grammar.proofs.SameFeatures.{elements_agree}

abbrev Features : Type 0
Features = Parse Lexeme Id (List Lexeme) (Row (FeatureText Id))

-- ---- what the code answers of lexemes

answers_at : (end : Place) (r : Refusal) (at : code_place.Place) (ts rest : List Lexeme) (p : Features) → IsRefusedSo p → p ≡ Stops (refusal_seen r) rest → place_seen at ≡ first_place end rest
    → AnswersFeatures end (Err (Refused (cause_at r at))) p
answers_at end (Expected what) at ts rest p so e is = (rest, e, is)
answers_at end NotAConstituent at ts rest p so e is = (subst (λ (p : Features). IsRefusedSo p) e so).is
answers_at end PathTooLong at ts rest p so e is = (rest, e, is)
answers_at end TooManySymbols at ts rest p so e is = (subst (λ (p : Features). IsRefusedSo p) e so).is
answers_at end (TwiceNamed name) at ts rest p so e is = (subst (λ (p : Features). IsRefusedSo p) e so).is
answers_at end TooDeep at ts rest p so e is = (rest, e, is)
answers_at end LaterForm at ts rest p so e is = (subst (λ (p : Features). IsRefusedSo p) e so).is

pub features_refused : (end : Place) (r : Refusal) (at : code_place.Place) (ts rest : List Lexeme) → elements by_id stage ts ≡ Stops (refusal_seen r) rest → place_seen at ≡ first_place end rest
    → AnswersFeatures end (Err (Refused (cause_at r at))) (elements by_id stage ts)
features_refused end r at ts rest e is = answers_at end r at ts rest (elements by_id stage ts) (refused_so by_id ts) e is

-- ---- what it is of tokens

abbrev TextFeatures : Type 0
TextFeatures = Parse Token (List ℕ) (List Token) (Row (FeatureText (List ℕ)))

module _ (table : List (List ℕ)) (text : List ℕ) (tokens : List code.Token) where
  abbrev end : Place
  end = after start_place text

  abbrev by_tokens : TextFeatures
  by_tokens = elements by_text stage (map (seen text) tokens)

  abbrev Same : Features → TextFeatures → Type 0
  Same p q = SameParse (IsLexeme table) (IsText table) (Each (IsLexeme table)) (SameRow (SameFeatureText (IsText table))) p q

  is_read : (q : TextFeatures) → by_tokens ≡ q → features_in stage text tokens ≡ as_features end q
  is_read q e = ap (as_features end) e

  stand_for : (v : Vec Element Global) (rest : List Lexeme) (q : TextFeatures) → by_tokens ≡ q → Same (Got (features_seen v.items) rest) q → StandForFeatures stage table text tokens v.items
  stand_for v rest (Got r us) e same = (r, is_read (Got r us) e, same.together.0)
  stand_for v rest (Stops r us) e same = absurd same.together

  -- the token at this place, or the end, is refused so
  abbrev AreRefusedSo : Refusal → Place → Type 0
  AreRefusedSo r place = (s : parsing.Refusal (List ℕ)) × (features_in stage text tokens ≡ Err (BadFeatures s place)) × IsRefusal table r s

  refused : (r : Refusal) (place : Place) (rest : List Lexeme) (q : TextFeatures) → by_tokens ≡ q → place ≡ first_place end rest → Same (Stops (refusal_seen r) rest) q → AreRefusedSo r place
  refused r place rest (Got x us) e at same = absurd same.together
  refused r place rest (Stops s us) e at same =
      (s, is_read (Stops s us) e ∙ ap (λ (p : Place). Err (BadFeatures s p)) (sym (at ∙ places table end rest us same.together.1)), same_refusal table r s same.together.0)

  stops_at : (r : Refusal) (line column : ℕ) (p : Features) → StopsAt (refusal_seen r) line column end p → Same p by_tokens → AreRefusedSo r (record { line = line; column = column })
  stops_at r line column p h same = refused r (record { line = line; column = column }) h.0 by_tokens refl h.2 (subst (λ (p : Features). Same p by_tokens) h.1 same)

  -- the same, of this refusal
  is_refused : (r s : parsing.Refusal (List ℕ)) (line column : ℕ) → features_in stage text tokens ≡ refused_at s line column → s ≡ r → features_in stage text tokens ≡ refused_at r line column
  is_refused r s line column e h = e ∙ ap (λ s. refused_at s line column) h

  refusal_is : (c : GrammarCause) (p : Features) → AnswersFeatures end (Err (Refused c)) p → Same p by_tokens → AreRefusedFor stage text tokens (Refused c)
  refusal_is (cause.Expected line column what) p h same = let so = stops_at (Expected what) line column p h same in is_refused (parsing.Expected what) so.0 line column so.1 so.2
  refusal_is (cause.PathTooLong line column) p h same = let so = stops_at PathTooLong line column p h same in is_refused parsing.PathTooLong so.0 line column so.1 so.2
  refusal_is (cause.TooDeep line column) p h same = let so = stops_at TooDeep line column p h same in is_refused parsing.TooDeep so.0 line column so.1 so.2
  refusal_is (cause.NotUtf8 at) p h same = absurd h
  refusal_is (cause.BadToken line column) p h same = absurd h
  refusal_is (cause.NotAConstituent line column) p h same = absurd h
  refusal_is (cause.TooManySymbols line column) p h same = absurd h
  refusal_is (cause.TwiceNamed line column name) p h same = absurd h
  refusal_is cause.NoRules p h same = absurd h
  refusal_is (cause.LaterForm line column) p h same = absurd h

  -- what is answered of the lexemes is so of the tokens
  pub features_answered : (ls : List Lexeme) (result : Result (Vec Element Global) (Fault GrammarCause)) → IsTable table → Each (IsLexeme table) ls (map (seen text) tokens)
      → AnswersFeatures end result (elements by_id stage ls) → IfOk result (λ v. StandForFeatures stage table text tokens v.items) × IfErr result (λ fault. AreRefusedFor stage text tokens fault)
  features_answered ls result once each h = by result h
    where
      same : Same (elements by_id stage ls) by_tokens
      same = elements_agree (IsLexeme table) (IsText table) by_id by_text (words_agree table once) stage ls (map (seen text) tokens) each

      by : (result : Result (Vec Element Global) (Fault GrammarCause)) → AnswersFeatures end result (elements by_id stage ls) → IfOk result (λ v. StandForFeatures stage table text tokens v.items) × IfErr result (λ fault. AreRefusedFor stage text tokens fault)
      by (Ok v) h = (stand_for v h.0 by_tokens refl (subst (λ (p : Features). Same p by_tokens) h.1 same), tt)
      by (Err Memory) h = (tt, tt)
      by (Err (Refused c)) h = (tt, refusal_is c (elements by_id stage ls) h same)
