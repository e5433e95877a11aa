-- Steps of readings, and what is read of a rule behind each of its parts.
use Rattle.std.proofs.Common.{◌≡◌, ℕ, List, ◌∷◌, Ok, Err, codes, refl, ap}
use Rattle.patr_model.specs.declared.lookahead.Kind.TheVariants.{Colon, Dot, Arrow}
use Rattle.patr_model.specs.declared.notation.What.TheVariants as what
use Rattle.patr_model.specs.Grammar.{Row}
use Rattle.patr_model.specs.Tokens.{Place, Token, Scanned}
use Rattle.patr_model.specs.Lexemes.{Words, by_text, is_kind, is_symbol}
use Rattle.patr_model.specs.Parsing.{Parse, Got, Stops, ◌>>=◌, Reads, one, maybe}
use Rattle.patr_model.specs.Stages.{Stage}
use Rattle.patr_model.specs.Productions.{Item, Single, Choice, Option', row, rows, SymbolText, RuleText, Clause, RuleClause, LetClause, DefineClause, StartClause, RestrictorClause, OrderClause, AmongSymbols, Left, things, things_of, symbols_of, with_name, begins_inner, begins_outer, many_right, star_right, row_right, alts, symbol_of, symbol_item, item, right_side, ruleitems, rule_name, rule, template, lexical_rule, parameter, clause, clauses, Grammar, Settings, before, settings, with_rules, Outcome, concluded, outcome, grammar}
use Rattle.patr_model.specs.Productions as production
use Rattle.patr_model.specs.GrammarText as text
use Rattle.patr_model.specs.GrammarText.{of_outcome, of_scanned, ReadsGrammar}

-- what is read in two steps is read in each
pub bind_got : {T W S R X Y : Type 0} (p : Parse T W S X) (f : X → S → Parse T W R Y) (y : Y) (r : R) → p >>= f ≡ Got y r → (x : X) × (s : S) × (p ≡ Got x s) × (f x s ≡ Got y r)
bind_got (Got x s) f y r e = (x, s, refl, e)
bind_got (Stops c ts) f y r e = cc

module _ {T W : Type 0} (words : Words T W) where
  -- what is read of a rule behind its right side, its arrow, its mother, its name and its first word
  abbrev pub behind_right : Stage → T → List W → T → Row (SymbolText W) → Reads T W (RuleText W)
  behind_right s t name mother right ts = ruleitems words s (AmongSymbols (words.word mother ∷ symbols_of right)) (maybe (is_kind words Colon) ts) >>= λ equations ts.
      Got (record { line = (words.place t).line; name = name; mother = symbol_of words mother; right = right; equations = equations }) (maybe (is_kind words Dot) ts)

  abbrev pub behind_arrow : Stage → T → List W → T → Reads T W (RuleText W)
  behind_arrow s t name mother ts = right_side words s ts >>= λ right ts. behind_right s t name mother right ts

  abbrev pub behind_mother : Stage → T → List W → T → Reads T W (RuleText W)
  behind_mother s t name mother ts = one (is_kind words Arrow) what.Arrow ts >>= λ _ ts. behind_arrow s t name mother ts

  abbrev pub behind_name : Stage → T → List W → Reads T W (RuleText W)
  behind_name s t name ts = one (is_symbol words) what.Symbol ts >>= λ mother ts. behind_mother s t name mother ts

  abbrev pub behind_word : Stage → T → Reads T W (RuleText W)
  behind_word s t ts = rule_name words ts >>= λ name ts. behind_name s t name ts

-- the tokens of a text that is read
pub of_tokens : (s : Stage) (end : Place) (o : Scanned) (g : Grammar (List ℕ)) → of_scanned s end o ≡ text.Reads g → (ts : List Token) × (o ≡ Ok ts) × (grammar by_text s (codes "cat") ts ≡ production.Stands g)
of_tokens s end (Err p) g e = cc
of_tokens s end (Ok ts) g e = (ts, refl, of_grammar (grammar by_text s (codes "cat") ts) e)
  where
    of_grammar : (o : Outcome Token (List ℕ)) → of_outcome end o ≡ text.Reads g → o ≡ production.Stands g
    of_grammar (production.Stands h) e = let f : h ≡ g = cc in ap (λ z. production.Stands z) f
    of_grammar production.NoRules e = cc
    of_grammar (production.Refused r rest) e = cc
