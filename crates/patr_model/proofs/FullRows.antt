-- Rows of which a variant can be taken: those that are read, and what they are written out to.
use Rattle.std.proofs.Common.{◌≡◌, ◌↔◌, ℕ, zero, suc, ◌<◌, Bool, true, false, cond, ◌||◌, nat_eq, List, [], ◌∷◌, ◌++◌, length, filter, flat_map, is_some, Option, Some, None, Result, Ok, Err, refl, subst, arith}
use Rattle.std.specs.List.{AllByRecursion}
use Rattle.patr_lists.proofs.Alls.{all_more}
use Rattle.patr_model.specs.declared.lookahead.Kind.TheVariants.{OpenBrace, CloseBrace, OpenParen, CloseParen, Slash, Colon, Arrow}
use Rattle.patr_model.specs.declared.notation.Keyword.TheVariants as key
use Rattle.patr_model.specs.declared.notation.What.{What}
use Rattle.patr_model.specs.declared.notation.What.TheVariants as what
use Rattle.patr_model.specs.Grammar.{Row, Rows, Done, One, OneOf, Optional, None', Or, products, variants, variants_of, IsFull, AreFull}
use Rattle.patr_model.specs.Tokens.{Place, Token, start_place}
use Rattle.patr_model.specs.Lexemes.{Words, by_text, begins, is_kind, is_key, is_symbol}
use Rattle.patr_model.specs.Parsing.{Refusal, Parse, Got, Stops, ◌>>=◌, Reads, one, maybe, many, star, plus}
use Rattle.patr_model.specs.Stages.{Stage}
use Rattle.patr_model.specs.Productions.{Item, Single, Choice, Option', row, SymbolText, FeatureText, Equates, Names, RuleText, Template, Clause, RuleClause, LetClause, DefineClause, StartClause, RestrictorClause, OrderClause, Left, AmongSymbols, symbols_of, things, things_of, alternative, choices, braced, begins_ruleitem, rule_equation, rule_name, begins_inner, begins_outer, plain, many_right, star_right, row_right, alts, symbol_item, item, rule, begins_feature, single_feature, feature, elements, fresh_name, template, lexical_rule, paths, setting, parameter, clause, with_name, clauses, Grammar, Settings, settings, with_rules, Outcome, Stands, concluded, outcome, grammar}
use Rattle.patr_model.specs.LexiconLines.{Piece, Field, lines, bad_token, fields_of}
use Rattle.patr_model.specs.Session.{words_of}
use Rattle.patr_model.specs.LexiconText as lexicon
use Rattle.patr_model.specs.LexiconText.{field_text, Record, Records, is_category, is_features, is_known, last_field, text_of, piece_tokens, EntryOf, EntryText, EntryFault}
use Rattle.patr_model.specs.Renaming.{SameRow, SameRows'}
use Rattle.patr_model.specs.Build.{Meaning, chosen, meaning_of, written_out, all_written_out, with_template, meanings_from, meanings, ExpandFault, UnknownName, TooManyVariants, TooManyEquations, first_fault, unknown_name, templates_fault_from, templates_fault}

-- ---- variants

module _ {X Y : Type 0} (f : X → List (List Y)) (some : (x : X) → 0 < length (f x)) where
  products_there : (vs ws : List (List Y)) → 0 < length vs → 0 < length ws → 0 < length (products vs ws)
  products_there [] ws h k = absurd (omega (arith, h))
  products_there (v ∷ vs) [] h k = absurd (omega (arith, k))
  products_there (v ∷ vs) (w ∷ ws) h k = omega arith

  front_there : {A : Type 0} (vs ws : List A) → 0 < length vs → 0 < length (vs ++ ws)
  front_there [] ws h = absurd (omega (arith, h))
  front_there (v ∷ vs) ws h = omega arith

  mutual
    -- a full row, whose single things have a variant each, has one
    pub first_variant : (r : Row X) → IsFull r → 0 < length (variants f r)
    first_variant Done h = omega arith
    first_variant (One x r) h = products_there (f x) (variants f r) (some x) (first_variant r h)
    first_variant (OneOf rs r) h = products_there (variants_of f rs) (variants f r) (first_of_choice rs h.0) (first_variant r h.1)
    first_variant (Optional rs r) h = products_there (variants_of f rs ++ [] ∷ []) (variants f r) (front_there (variants_of f rs) ([] ∷ []) (first_of_choice rs h.0)) (first_variant r h.1)

    first_of_choice : (rs : Rows X) → AreFull rs → 0 < length (variants_of f rs)
    first_of_choice None' h = absurd h
    first_of_choice (Or r rs) h = front_there (variants f r) (variants_of f rs) (first_variant r h)

both_full : {A B C D : Type 0} → A ↔ B → C ↔ D → (A × C) ↔ (B × D)
both_full f g = (λ h. (f.0 h.0, g.0 h.1), λ h. (f.1 h.0, g.1 h.1))

module _ {X Y : Type 0} (R : X → Y → Type 0) where
  mutual
    -- of rows that are the same, both are full or neither
    pub same_full : (r : Row X) (s : Row Y) → SameRow R r s → IsFull r ↔ IsFull s
    same_full Done Done k = (λ h. h, λ h. h)
    same_full (One x r) (One y s) k = same_full r s k.1
    same_full (OneOf rs r) (OneOf ss s) k = both_full (choice_full rs ss k.0) (same_full r s k.1)
    same_full (Optional rs r) (Optional ss s) k = both_full (choice_full rs ss k.0) (same_full r s k.1)
    same_full _ _ k = absurd k

    choice_full : (rs : Rows X) (ss : Rows Y) → SameRows' R rs ss → AreFull rs ↔ AreFull ss
    choice_full None' None' k = (λ h. h, λ h. h)
    choice_full (Or r rs) (Or s ss) k = same_full r s k.0
    choice_full _ _ k = absurd k

-- ---- what names stand for

-- what a name stands for is full
abbrev pub MeaningIsFull : {W : Type 0} → Meaning W → Type 0
MeaningIsFull m = IsFull m.body

-- so is the body of a template
abbrev pub TemplateIsFull : {W : Type 0} → Template W → Type 0
TemplateIsFull t = IsFull t.body

no_fault : {W : Type 0} (w : W) (p : Place) → Some (UnknownName w p) ≡ None → ⊥
no_fault w p h = cc

module _ {W : Type 0} (same : W → W → Bool) where
  -- features in front of others have no unknown name, and nor have the others
  unknown_split : (ms : List (Meaning W)) (fs gs : List (FeatureText W)) → unknown_name same ms (fs ++ gs) ≡ None → (unknown_name same ms fs ≡ None) × (unknown_name same ms gs ≡ None)
  unknown_split ms [] gs h = (refl, h)
  unknown_split ms (Equates e ∷ fs) gs h = unknown_split ms fs gs h
  unknown_split ms (Names w p ∷ fs) gs h = go (is_some (meaning_of same ms w)) (unknown_split ms fs gs) h
    where
      go : (b : Bool) → (unknown_name same ms (fs ++ gs) ≡ None → (unknown_name same ms fs ≡ None) × (unknown_name same ms gs ≡ None))
          → cond b (unknown_name same ms (fs ++ gs)) (Some (UnknownName w p)) ≡ None → (cond b (unknown_name same ms fs) (Some (UnknownName w p)) ≡ None) × (unknown_name same ms gs ≡ None)
      go true rest k = rest k
      go false rest k = absurd (no_fault w p k)

  known_full : (ms : List (Meaning W)) → AllByRecursion MeaningIsFull ms → (w : W) (p : Place) (rest : Option (ExpandFault W))
      → cond (is_some (meaning_of same ms w)) rest (Some (UnknownName w p)) ≡ None → AreFull (chosen (meaning_of same ms w)) × (rest ≡ None)
  known_full [] full w p rest h = absurd (no_fault w p h)
  known_full (m ∷ ms) full w p rest h = go (same m.name w) (known_full ms full.1 w p rest) h
    where
      go : (b : Bool) → (cond (is_some (meaning_of same ms w)) rest (Some (UnknownName w p)) ≡ None → AreFull (chosen (meaning_of same ms w)) × (rest ≡ None))
          → cond (is_some (cond b (Some m.body) (meaning_of same ms w))) rest (Some (UnknownName w p)) ≡ None → AreFull (chosen (cond b (Some m.body) (meaning_of same ms w))) × (rest ≡ None)
      go true later k = (full.0, k)
      go false later k = later k

  module _ (ms : List (Meaning W)) (full : AllByRecursion MeaningIsFull ms) where
    mutual
      -- features that are full and have no unknown name are full when written out
      pub written_full : (r : Row (FeatureText W)) → IsFull r → unknown_name same ms (things r) ≡ None → IsFull (written_out same ms r)
      written_full Done h k = tt
      written_full (One (Equates e) r) h k = written_full r h k
      written_full (One (Names w p) r) h k = let known = known_full ms full w p (unknown_name same ms (things r)) k in (known.0, written_full r h known.1)
      written_full (OneOf rs r) h k = let parts = unknown_split ms (things_of rs) (things r) k in (all_written_full rs h.0 parts.0, written_full r h.1 parts.1)
      written_full (Optional rs r) h k = let parts = unknown_split ms (things_of rs) (things r) k in (all_written_full rs h.0 parts.0, written_full r h.1 parts.1)

      all_written_full : (rs : Rows (FeatureText W)) → AreFull rs → unknown_name same ms (things_of rs) ≡ None → AreFull (all_written_out same ms rs)
      all_written_full None' h k = h
      all_written_full (Or r rs) h k = written_full r h (unknown_split ms (things r) (things_of rs) k).0

  pub none_first : (o p : Option (ExpandFault W)) → first_fault o p ≡ None → (o ≡ None) × (p ≡ None)
  none_first None p h = (refl, h)
  none_first (Some (UnknownName w q)) p h = absurd (no_fault w q h)
  none_first (Some (TooManyVariants n k)) p h = let bad : Some (TooManyVariants n k) ≡ None = h in absurd cc
  none_first (Some (TooManyEquations n k)) p h = let bad : Some (TooManyEquations n k) ≡ None = h in absurd cc

  full_from : (ts : List (Template W)) → AllByRecursion TemplateIsFull ts → (ms : List (Meaning W)) → AllByRecursion MeaningIsFull ms → templates_fault_from same ms ts ≡ None
      → AllByRecursion MeaningIsFull (meanings_from same ms ts)
  full_from [] full ms known h = known
  full_from (t ∷ ts) full ms known h =
      let parts = none_first (unknown_name same ms (things t.body)) (templates_fault_from same (with_template same ms t) ts) h in
      full_from ts full.1 (with_template same ms t)
      (all_more MeaningIsFull ms (record { name = t.name; body = written_out same ms t.body }) known (written_full ms known t.body full.0 parts.0)) parts.1

  -- templates that are full and have no unknown name stand for what is full
  pub meanings_full : (ts : List (Template W)) → AllByRecursion TemplateIsFull ts → templates_fault same ts ≡ None → AllByRecursion MeaningIsFull (meanings same ts)
  meanings_full ts full h = full_from ts full [] tt h

-- ---- what is read

abbrev GotSo : {T W S X : Type 0} → (X → Type 0) → Parse T W S X → Type 0
GotSo P (Got x s) = P x
GotSo P (Stops r ts) = Unit {0}

-- what is read has the property
record IsReadSo {T W S X : Type 0} (P : X → Type 0) (p : Parse T W S X) : Type 0 where
  pub is : GotSo P p

got : {T W S X : Type 0} {P : X → Type 0} {x : X} {s : S} → P x → IsReadSo {T = T} {W = W} P (Got x s)
got h = record { is = h }

stops : {T W S X : Type 0} {P : X → Type 0} {r : Refusal W} {ts : List T} → IsReadSo {S = S} P (Stops r ts)
stops = record { is = tt }

binds : {T W S R X Y : Type 0} {P : X → Type 0} {Q : Y → Type 0} {p : Parse T W S X} {f : X → S → Parse T W R Y} → IsReadSo P p → ((x : X) (s : S) → P x → IsReadSo Q (f x s)) → IsReadSo Q (p >>= f)
binds {p = Got x s} h k = k x s h.is
binds {p = Stops r ts} h k = stops

passes : {T W S R X Y : Type 0} {Q : Y → Type 0} (p : Parse T W S X) {f : X → S → Parse T W R Y} → ((x : X) (s : S) → IsReadSo Q (f x s)) → IsReadSo Q (p >>= f)
passes (Got x s) k = k x s
passes (Stops r ts) k = stops

chooses : {T W S X : Type 0} {P : X → Type 0} (b : Bool) {p q : Parse T W S X} → IsReadSo P p → IsReadSo P q → IsReadSo P (cond b p q)
chooses true h k = h
chooses false h k = k

-- an item is full
abbrev ItemIsFull : {X : Type 0} → Item X → Type 0
ItemIsFull (Single x) = Unit {0}
ItemIsFull (Choice rs) = AreFull rs
ItemIsFull (Option' rs) = AreFull rs

row_full : {X : Type 0} (xs : List (Item X)) → AllByRecursion ItemIsFull xs → IsFull (row xs)
row_full [] h = tt
row_full (Single x ∷ xs) h = row_full xs h.1
row_full (Choice rs ∷ xs) h = (h.0, row_full xs h.1)
row_full (Option' rs ∷ xs) h = (h.0, row_full xs h.1)

-- the right side and the equations of a rule are full
abbrev pub RuleIsFull : {W : Type 0} → RuleText W → Type 0
RuleIsFull r = IsFull r.right × IsFull r.equations

-- the rows of a clause are full
abbrev ClauseIsFull : {W : Type 0} → Clause W → Type 0
ClauseIsFull (RuleClause r) = RuleIsFull r
ClauseIsFull (LetClause t) = TemplateIsFull t
ClauseIsFull _ = Unit {0}

module _ {T W X : Type 0} {P : X → Type 0} where
  many_so : (n : ℕ) (starts : List T → Bool) (read : Reads T W X) → ((ts : List T) → IsReadSo P (read ts)) → (ts : List T) → IsReadSo (AllByRecursion P) (many n starts read ts)
  unfolding many
  many_so zero starts read h ts = got tt
  many_so (suc n) starts read h ts = chooses (starts ts) (binds (h ts) (λ x rest p. binds (many_so n starts read h rest) (λ xs rest ps. got (p, ps)))) (got tt)

  plus_so : (starts : List T → Bool) (read : Reads T W X) → ((ts : List T) → IsReadSo P (read ts)) → (ts : List T) → IsReadSo (AllByRecursion P) (plus starts read ts)
  plus_so starts read h ts = binds (h ts) (λ x rest p. binds (many_so (length rest) starts read h rest) (λ xs rest ps. got (p, ps)))

module _ {T W : Type 0} (words : Words T W) where
  -- ---- rows in braces

  choices_so : {X : Type 0} (starts : List T → Bool) (read : Reads T W (Item X)) → ((ts : List T) → IsReadSo ItemIsFull (read ts)) → (closes : T → Bool) (w : What) (ts : List T)
      → IsReadSo AreFull (choices words starts read closes w ts)
  choices_so starts read h closes w ts =
      binds {P = IsFull} (binds (plus_so starts read h ts) (λ xs ts p. got (row_full xs p))) (λ r ts p.
      passes (star (begins (is_kind words Slash)) (λ ts. one (is_kind words Slash) w ts >>= λ _ ts. alternative words starts read ts) ts) (λ rs ts.
      passes (one closes w ts) (λ _ ts. got p)))

  braced_so : {X : Type 0} (n : ℕ) (built : Bool) (starts : List T → Bool) (read : Reads T W X) (ts : List T) → IsReadSo ItemIsFull (braced words n built starts read ts)
  unfolding braced
  braced_so zero built starts read ts = chooses (begins (is_kind words OpenBrace) ts) stops (passes (read ts) (λ x ts. got tt))
  braced_so (suc n) built starts read ts =
      chooses (begins (is_kind words OpenBrace) ts)
      (chooses built
      (passes (one (is_kind words OpenBrace) what.Equation ts) (λ _ ts.
      binds (choices_so starts (braced words n built starts read) (braced_so n built starts read) (is_kind words CloseBrace) what.CloseBrace ts) (λ rs ts p. got p)))
      stops)
      (passes (read ts) (λ x ts. got tt))

  -- ---- right sides

  -- a production of a right side reads such things
  abbrev RightReadsSo : {X : Type 0} → (X → Type 0) → (Left T → Parse T W (Left T) X) → Type 0
  RightReadsSo P f = (s : Left T) → IsReadSo P (f s)

  many_right_so : {X : Type 0} {P : X → Type 0} (n : ℕ) (starts : List T → Bool) (read : Left T → Parse T W (Left T) X) → RightReadsSo P read → RightReadsSo (AllByRecursion P) (many_right words n starts read)
  unfolding many_right
  many_right_so zero starts read h s = got tt
  many_right_so (suc n) starts read h s = chooses (starts s.tokens) (binds (h s) (λ x s p. binds (many_right_so n starts read h s) (λ xs s ps. got (p, ps)))) (got tt)

  alts_so : (read : Left T → Parse T W (Left T) (Item (SymbolText W))) → RightReadsSo ItemIsFull read → RightReadsSo AreFull (alts words read)
  alts_so read h s =
      binds {P = IsFull} (binds (h s) (λ x s p. binds (many_right_so (length s.tokens) (begins_inner words) read h s) (λ xs s ps. got (row_full (x ∷ xs) (p, ps))))) (λ r s p.
      passes (star_right words (begins (is_kind words Slash)) (λ s. plain words (one (is_kind words Slash) what.Symbol) s >>= λ _ s. row_right words read s) s) (λ rs s. got p))

  symbol_item_so : RightReadsSo ItemIsFull (symbol_item words)
  symbol_item_so s = passes (one (is_symbol words) what.Symbol s.tokens) (λ t ts. chooses (nat_eq s.symbols 0) stops (got tt))

  item_so : (built : Bool) (n : ℕ) → RightReadsSo ItemIsFull (item words built n)
  unfolding item
  item_so built zero s = chooses (begins (is_kind words OpenParen) s.tokens || begins (is_kind words OpenBrace) s.tokens) stops (symbol_item_so s)
  item_so built (suc n) s =
      chooses (begins (is_kind words OpenParen) s.tokens)
      (chooses built (passes (plain words (one (is_kind words OpenParen) what.Symbol) s) (λ _ s. binds (alts_so (item words built n) (item_so built n) s) (λ rs s p. passes (plain words (one (is_kind words CloseParen) what.CloseParen) s) (λ _ s. got p)))) stops)
      (chooses (begins (is_kind words OpenBrace) s.tokens)
      (chooses built (passes (plain words (one (is_kind words OpenBrace) what.Symbol) s) (λ _ s. binds (alts_so (item words built n) (item_so built n) s) (λ rs s p. passes (plain words (one (is_kind words CloseBrace) what.CloseBrace) s) (λ _ s. got p)))) stops)
      (symbol_item_so s))

  -- ---- clauses

  rule_so : (s : Stage) (ts : List T) → IsReadSo RuleIsFull (rule words s ts)
  unfolding rule
  rule_so s ts =
      passes (one (is_key words key.Rule) what.Clause ts) (λ t ts. passes (rule_name words ts) (λ name ts. passes (one (is_symbol words) what.Symbol ts) (λ mother ts. passes (one (is_kind words Arrow) what.Arrow ts) (λ _ ts.
      binds {P = IsFull} (binds (many_right_so (length ts) (begins_outer words) (item words s.groups 16) (item_so s.groups 16) (record { symbols = 32; tokens = ts })) (λ xs s p. got (row_full xs p))) (λ right ts p.
      let h = AmongSymbols (words.word mother ∷ symbols_of right) in
      binds {P = IsFull} (binds (many_so (length (maybe (is_kind words Colon) ts)) (begins_ruleitem words) (braced words 16 s.groups (begins_ruleitem words) (rule_equation words s h))
      (braced_so 16 s.groups (begins_ruleitem words) (rule_equation words s h)) (maybe (is_kind words Colon) ts)) (λ xs ts p. got (row_full xs p))) (λ equations ts q. got (p, q)))))))

  features_so : (s : Stage) (ts : List T) → IsReadSo (AllByRecursion ItemIsFull) (star (begins_feature words) (feature words s) ts)
  features_so s ts = many_so (length ts) (begins_feature words) (feature words s) (braced_so 16 s.groups (begins_feature words) (single_feature words s)) ts

  -- features that are read are full
  elements_so : (s : Stage) (ts : List T) → IsReadSo IsFull (elements words s ts)
  unfolding elements
  elements_so s ts = by (star (begins_feature words) (feature words s) ts) refl (features_so s ts)
    where
      by : (p : Parse T W (List T) (List (Item (FeatureText W)))) → star (begins_feature words) (feature words s) ts ≡ p → IsReadSo (AllByRecursion ItemIsFull) p → IsReadSo IsFull (elements words s ts)
      by (Got xs []) e h = rw e (got (row_full xs h.is))
      by (Got xs (t ∷ us)) e h = rw e stops
      by (Stops r us) e h = rw e stops

  template_so : (s : Stage) (names : List W) (ts : List T) → IsReadSo TemplateIsFull (template words s names ts)
  unfolding template
  template_so s names ts = chooses s.groups
      (passes (one (is_key words key.Let) what.Clause ts) (λ t ts. passes (fresh_name words names ts) (λ name ts. passes (one (is_key words key.Be) what.Be ts) (λ _ ts.
      binds (plus_so (begins_feature words) (feature words s) (braced_so 16 s.groups (begins_feature words) (single_feature words s)) ts) (λ xs ts p. got (row_full xs p))))))
      stops

  -- a parse of a clause that has no rows
  without_rows : {X : Type 0} (f : X → Clause W) → ((x : X) → ClauseIsFull (f x)) → (p : Parse T W (List T) X) → IsReadSo ClauseIsFull (p >>= λ x ts. Got (f x) ts)
  without_rows f h p = passes p (λ x ts. got (h x))

  setting_so : (ts : List T) → IsReadSo ClauseIsFull (setting words ts)
  setting_so ts = chooses (begins (is_key words key.Start) ts)
      (passes (one (is_key words key.Start) what.Parameter ts) (λ _ ts. passes (one (is_key words key.Symbol) what.SymbolWord ts) (λ _ ts. passes (one (is_key words key.Is) what.Is ts) (λ _ ts.
      passes (one (is_symbol words) what.Symbol ts) (λ t ts. got tt)))))
      (chooses (begins (is_key words key.Restrictor) ts)
      (passes (one (is_key words key.Restrictor) what.Parameter ts) (λ _ ts. passes (one (is_key words key.Is) what.Is ts) (λ _ ts. passes (paths words ts) (λ ps ts. got tt))))
      (passes (one (is_key words key.Attribute) what.Parameter ts) (λ _ ts. passes (one (is_key words key.Order) what.OrderWord ts) (λ _ ts. passes (one (is_key words key.Is) what.Is ts) (λ _ ts.
      passes (plus (begins (is_symbol words)) (one (is_symbol words) what.Attribute) ts) (λ ws ts. got tt))))))

  parameter_so : (s : Stage) (ts : List T) → IsReadSo ClauseIsFull (parameter words s ts)
  unfolding parameter
  parameter_so s ts = chooses s.parameters (passes (one (is_key words key.Parameter) what.Clause ts) (λ _ ts. binds (setting_so (maybe (is_kind words Colon) ts)) (λ c ts p. got p))) stops

  clause_so : (s : Stage) (names : List W) (ts : List T) → IsReadSo ClauseIsFull (clause words s names ts)
  clause_so s names ts =
      chooses (begins (is_key words key.Let) ts) (binds (template_so s names ts) (λ t ts p. got p))
      (chooses (begins (is_key words key.Define) ts) (passes (lexical_rule words s names ts) (λ d ts. got tt))
      (chooses (begins (is_key words key.Parameter) ts) (parameter_so s ts) (binds (rule_so s ts) (λ r ts p. got p))))

  clauses_so : (s : Stage) (n : ℕ) (names : List W) (ts : List T) → IsReadSo (AllByRecursion ClauseIsFull) (clauses words s n names ts)
  unfolding clauses
  clauses_so s n names [] = got tt
  clauses_so s zero names (t ∷ ts) = got tt
  clauses_so s (suc n) names (t ∷ ts) = binds (clause_so s names (t ∷ ts)) (λ c rest p. binds (clauses_so s n (with_name c names) rest) (λ cs rest ps. got (p, ps)))

-- ---- grammars and lexicons

-- the rows of a grammar's rules and templates are full
pub record GrammarIsFull {W : Type 0} (g : Grammar W) : Type 0 where
  pub rules : AllByRecursion RuleIsFull g.rules
  pub templates : AllByRecursion TemplateIsFull g.templates

module _ {W : Type 0} where
  settings_full : (cs : List (Clause W)) → AllByRecursion ClauseIsFull cs → AllByRecursion RuleIsFull (settings cs).rules × AllByRecursion TemplateIsFull (settings cs).templates
  settings_full [] h = (tt, tt)
  settings_full (RuleClause r ∷ cs) h = let rest = settings_full cs h.1 in ((h.0, rest.0), rest.1)
  settings_full (LetClause t ∷ cs) h = let rest = settings_full cs h.1 in (rest.0, (h.0, rest.1))
  settings_full (DefineClause d ∷ cs) h = settings_full cs h.1
  settings_full (StartClause c ∷ cs) h = settings_full cs h.1
  settings_full (RestrictorClause ps ∷ cs) h = settings_full cs h.1
  settings_full (OrderClause ws ∷ cs) h = settings_full cs h.1

  -- an outcome that is a grammar is a full one
  abbrev OutcomeIsFull : {T : Type 0} → Outcome T W → Type 0
  OutcomeIsFull (Stands g) = GrammarIsFull g
  OutcomeIsFull _ = Unit {0}

  concluded_full : (T : Type 0) (cat : W) (g : Settings W) (rs : List (RuleText W)) → AllByRecursion RuleIsFull rs → AllByRecursion TemplateIsFull g.templates → OutcomeIsFull {T = T} (concluded (with_rules cat g rs))
  concluded_full T cat g [] h k = tt
  concluded_full T cat g (r ∷ rs) h k = record { rules = h; templates = k }

-- a grammar that is read is full
pub grammar_full : {T W : Type 0} (words : Words T W) (s : Stage) (cat : W) (ts : List T) (g : Grammar W) → grammar words s cat ts ≡ Stands g → GrammarIsFull g
grammar_full {T = T} {W = W} words s cat ts g e = subst OutcomeIsFull e (go (clauses words s (length ts) [] ts) (clauses_so words s (length ts) [] ts))
  where
    go : (p : Parse T W (List T) (List (Clause W))) → IsReadSo (AllByRecursion ClauseIsFull) p → OutcomeIsFull (outcome cat p)
    go (Got cs rest) h = let full = settings_full cs h.is in concluded_full T cat (settings cs) (settings cs).rules full.0 full.1
    go (Stops r rest) h = tt

-- the features of an entry are full
abbrev pub EntryIsFull : {W : Type 0} → EntryOf W → Type 0
EntryIsFull e = IsFull e.features

abbrev OkSo : {X : Type 0} → (X → Type 0) → Result X EntryFault → Type 0
OkSo P (Ok x) = P x
OkSo P (Err f) = Unit {0}

-- what a result gives has the property
record IsOkSo {X : Type 0} (P : X → Type 0) (r : Result X EntryFault) : Type 0 where
  pub is : OkSo P r

then_so : {X Y : Type 0} {P : X → Type 0} {Q : Y → Type 0} {r : Result X EntryFault} {f : X → Result Y EntryFault} → IsOkSo P r → ((x : X) → P x → IsOkSo Q (f x)) → IsOkSo Q (lexicon.◌>>=◌ r f)
then_so {r = Ok x} h k = k x h.is
then_so {r = Err e} h k = record { is = tt }

anything_so : {X : Type 0} (r : Result X EntryFault) → IsOkSo (λ x. Unit {0}) r
anything_so (Ok x) = record { is = tt }
anything_so (Err e) = record { is = tt }

choice_so : {X : Type 0} {P : X → Type 0} (b : Bool) {p q : Result X EntryFault} → IsOkSo P p → IsOkSo P q → IsOkSo P (cond b p q)
choice_so true h k = h
choice_so false h k = k

features_full : (s : Stage) (ps : List Piece) → IsOkSo IsFull (lexicon.features_of s ps)
features_full s ps =
    let ts = flat_map piece_tokens ps in
    choice_so s.equations (of_pieces (elements by_text s ts) (elements_so by_text s ts)) (nothing ts)
  where
    of_pieces : (p : Parse Token (List ℕ) (List Token) (Row (FeatureText (List ℕ)))) → IsReadSo IsFull p → IsOkSo IsFull (lexicon.as_features (lexicon.end_of start_place ps) p)
    of_pieces (Got x rest) h = record { is = h.is }
    of_pieces (Stops r rest) h = record { is = tt }

    nothing : (ts : List Token) → IsOkSo IsFull (lexicon.none_yet ts)
    nothing [] = record { is = tt }
    nothing (t ∷ ts) = record { is = tt }

entry_full : (s : Stage) (r : Record) → IsOkSo EntryIsFull (lexicon.entry s r)
entry_full s r =
    let pieces = flat_map (λ (f : Field). f.pieces) (filter (λ (f : Field). is_features f.marker) r.others) in
    then_so (anything_so (lexicon.one_word r.word.line (words_of (field_text r.word)))) (λ word u.
    then_so (anything_so (lexicon.one_category r.word.line (words_of (text_of (last_field is_category r.others))))) (λ category u.
    then_so (features_full s pieces) (λ features h. record { is = h })))

entries_full : (s : Stage) (rs : List Record) → IsOkSo (AllByRecursion EntryIsFull) (lexicon.entries s rs)
entries_full s [] = record { is = tt }
entries_full s (r ∷ rs) = then_so (entry_full s r) (λ e h. then_so (entries_full s rs) (λ es k. record { is = (h, k) }))

-- a reading whose entries are full
abbrev ReadingIsFull : lexicon.Reading → Type 0
ReadingIsFull (lexicon.Reads es) = AllByRecursion EntryIsFull es
ReadingIsFull _ = Unit {0}

-- the features of the entries that bytes are read as are full
pub lexicon_full : (s : Stage) (bytes : List ℕ) (es : List EntryText) → lexicon.reading s bytes ≡ lexicon.Reads es → AllByRecursion EntryIsFull es
lexicon_full s bytes es e = subst ReadingIsFull e (go (bad_token false (lines bytes)))
  where
    strayed : (ps : List Piece) (fs : List Field) (rest : Result (List EntryText) EntryFault) → IsOkSo (AllByRecursion EntryIsFull) rest → IsOkSo (AllByRecursion EntryIsFull) (lexicon.stray ps fs rest)
    strayed (p ∷ ps) fs rest h = record { is = tt }
    strayed [] (f ∷ fs) rest h = record { is = tt }
    strayed [] [] rest h = h

    result : (r : Result (List EntryText) EntryFault) → IsOkSo (AllByRecursion EntryIsFull) r → ReadingIsFull (lexicon.of_result r)
    result (Ok es) h = h.is
    result (Err f) h = tt

    go : (bad : Option Place) → ReadingIsFull (lexicon.unless_bad bad (lexicon.read_fields s (fields_of (lines bytes))))
    go None =
        let fields = fields_of (lines bytes) in
        let records = lexicon.records_of (filter (λ (f : Field). is_known f.marker) fields.fields) in
        result (lexicon.read_fields s fields) (strayed fields.pieces records.fields (lexicon.entries s records.records) (entries_full s records.records))
    go (Some p) = tt
