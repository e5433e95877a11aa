-- Productions by words of two types that agree: each reads what belongs together.
use Rattle.std.proofs.Common.{◌≡◌, ℕ, zero, suc, ◌-◌, Bool, true, false, cond, not, nat_eq, List, [], ◌∷◌, length, refl, ap, ◌∙◌, subst}
use Rattle.std.specs.List.{list_any}
use Rattle.patr_model.specs.declared.lookahead.Kind.{Kind}
use Rattle.patr_model.specs.declared.lookahead.Kind.TheVariants.{Less, Greater, Equal, OpenBrace, CloseBrace, OpenParen, CloseParen, Slash, Colon, Dot, Arrow, Word}
use Rattle.patr_model.specs.declared.notation.Keyword.{Keyword}
use Rattle.patr_model.specs.declared.notation.Keyword.TheVariants as key
use Rattle.patr_model.specs.declared.notation.What.{What}
use Rattle.patr_model.specs.declared.notation.What.TheVariants as what
use Rattle.patr_model.specs.Grammar.{Row}
use Rattle.patr_model.specs.Renaming.{Each, SameRow, SameRows'}
use Rattle.patr_model.specs.Lexemes.{Words, kind_number, key_number, is_kind, is_key, is_clause_word, is_symbol}
use Rattle.patr_model.specs.Parsing.{TooDeep, LaterForm, Parse, Reads, maybe}
use Rattle.patr_model.specs.Stages.{Stage}
use Rattle.patr_model.specs.Productions.{Item, SymbolText, Clause, RuleClause, LetClause, DefineClause, StartClause, RestrictorClause, OrderClause, Left, Head, AmongSymbols, InOrOut, AnyAttribute, first_word, headed, room, things, symbols_of, with_name, fits_head, word_list, attributes, head, path, term, equation, alternative, choices, braced, begins_ruleitem, rule_equation, ruleitems, name_tokens, rule_name, symbol_of, opens_equations, begins_inner, begins_outer, plain, many_right, star_right, row_right, alts, symbol_item, item, right_side, rule, begins_feature, single_feature, feature, fresh_name, template, lexical_rule, more_paths, paths, start_setting, restrictor_setting, order_setting, setting, parameter, clause, clauses}
use Rattle.patr_model.specs.Agreeing.{SameSymbolText, SamePathText, SameTermText, SameEquationText, SameFeatureText, SameRuleText, SameTemplate, SameLexicalRule, SameRefusal, WordsAgree}
use Rattle.patr_model.proofs.Renaming.{each_length}
use Rattle.patr_model.proofs.SameParses.{each_map, SameItem, row_agrees, rows_agree, things_agree, either_agrees, both_agree, SameTest, SameStart, maybe_agrees, begins_agrees, SameParse, SameReads, got, stops, bind_agrees, cond_agrees, one_at, one_agrees, star_agrees, plus_agrees}

module _ {W V : Type 0} (S : W → V → Type 0) where
  -- ---- what stands for a word

  -- first words of paths that are asked for alike
  abbrev pub SameHead : Head W → Head V → Type 0
  SameHead (AmongSymbols xs) (AmongSymbols ys) = Each S xs ys
  SameHead InOrOut InOrOut = Unit {0}
  SameHead AnyAttribute AnyAttribute = Unit {0}
  SameHead _ _ = ⊥

  first_word_agrees : (h : Head W) (g : Head V) → SameHead h g → first_word h ≡ first_word g
  first_word_agrees (AmongSymbols xs) (AmongSymbols ys) e = refl
  first_word_agrees InOrOut InOrOut e = refl
  first_word_agrees AnyAttribute AnyAttribute e = refl
  first_word_agrees _ _ e = absurd e

  room_agrees : (h : Head W) (g : Head V) → SameHead h g → room h ≡ room g
  room_agrees (AmongSymbols xs) (AmongSymbols ys) e = refl
  room_agrees InOrOut InOrOut e = refl
  room_agrees AnyAttribute AnyAttribute e = refl
  room_agrees _ _ e = absurd e

  headed_agrees : (h : Head W) (g : Head V) → SameHead h g → (w : W) (v : V) → S w v → (ws : List W) (vs : List V) → Each S ws vs → SamePathText S (headed h w ws) (headed g v vs)
  headed_agrees (AmongSymbols xs) (AmongSymbols ys) e w v b ws vs k = record { head = b; attributes = k }
  headed_agrees InOrOut InOrOut e w v b ws vs k = record { head = b; attributes = k }
  headed_agrees AnyAttribute AnyAttribute e w v b ws vs k = record { head = tt; attributes = (b, k) }
  headed_agrees _ _ e w v b ws vs k = absurd e

  too_deep_agrees : (b : Bool) → SameRefusal S (cond b TooDeep LaterForm) (cond b TooDeep LaterForm)
  too_deep_agrees true = tt
  too_deep_agrees false = tt

  symbols_agree : (r : Row (SymbolText W)) (s : Row (SymbolText V)) → SameRow (SameSymbolText S) r s → Each S (symbols_of r) (symbols_of s)
  symbols_agree r s h = each_map S (SameSymbolText S) (λ x. x.symbol) (λ y. y.symbol) (λ x y b. b.symbol) (things r) (things s) (things_agree (SameSymbolText S) r s h)

  -- clauses of one form, whose parts belong together
  abbrev pub SameClause : Clause W → Clause V → Type 0
  SameClause (RuleClause r) (RuleClause s) = SameRuleText S r s
  SameClause (LetClause t) (LetClause u) = SameTemplate S t u
  SameClause (DefineClause d) (DefineClause f) = SameLexicalRule S d f
  SameClause (StartClause c) (StartClause d) = S c d
  SameClause (RestrictorClause ps) (RestrictorClause qs) = Each (Each S) ps qs
  SameClause (OrderClause ws) (OrderClause vs) = Each S ws vs
  SameClause _ _ = ⊥

  with_name_agrees : (c : Clause W) (d : Clause V) → SameClause c d → (ns : List W) (ms : List V) → Each S ns ms → Each S (with_name c ns) (with_name d ms)
  with_name_agrees (RuleClause r) (RuleClause s) h ns ms e = e
  with_name_agrees (LetClause t) (LetClause u) h ns ms e = (h.name, e)
  with_name_agrees (DefineClause d) (DefineClause f) h ns ms e = (h.name, e)
  with_name_agrees (StartClause c) (StartClause d) h ns ms e = e
  with_name_agrees (RestrictorClause ps) (RestrictorClause qs) h ns ms e = e
  with_name_agrees (OrderClause ws) (OrderClause vs) h ns ms e = e
  with_name_agrees _ _ h ns ms e = absurd h

module _ {T U W V : Type 0} (R : T → U → Type 0) (S : W → V → Type 0) where
  -- ---- right sides

  -- as many symbols may still come, and the tokens belong together
  record SameLeft (s : Left T) (t : Left U) : Type 0 where
    pub symbols : s.symbols ≡ t.symbols
    pub tokens : Each R s.tokens t.tokens

  -- a production of a right side reads what belongs together
  abbrev SameRightReads : {X Y : Type 0} → (X → Y → Type 0) → (Left T → Parse T W (Left T) X) → (Left U → Parse U V (Left U) Y) → Type 0
  SameRightReads B f g = (s : Left T) (t : Left U) → SameLeft s t → SameParse R S SameLeft B (f s) (g t)

  -- ---- productions

  module _ (words : Words T W) (others : Words U V) (same : WordsAgree R S words others) where
    pub kind_agrees : (k : Kind) → SameTest R (is_kind words k) (is_kind others k)
    kind_agrees k t u r = ap (λ x. nat_eq (kind_number x) (kind_number k)) (same.kind t u r)

    pub key_agrees : (k : Keyword) → SameTest R (is_key words k) (is_key others k)
    key_agrees k t u r = both_agree (kind_agrees Word t u r) (ap (λ x. nat_eq (key_number x) (key_number k)) (same.key t u r))

    clause_word_agrees : SameTest R (is_clause_word words) (is_clause_word others)
    clause_word_agrees t u r = either_agrees (either_agrees (either_agrees (key_agrees key.Rule t u r) (key_agrees key.Let t u r)) (key_agrees key.Define t u r)) (key_agrees key.Parameter t u r)

    pub symbol_agrees : SameTest R (is_symbol words) (is_symbol others)
    symbol_agrees t u r = both_agree (kind_agrees Word t u r) (ap not (clause_word_agrees t u r))

    among_agrees : (a : W) (b : V) → S a b → (xs : List W) (ys : List V) → Each S xs ys → list_any (words.same a) xs ≡ list_any (others.same b) ys
    among_agrees a b k [] [] e = refl
    among_agrees a b k [] (y ∷ ys) e = absurd e
    among_agrees a b k (x ∷ xs) [] e = absurd e
    among_agrees a b k (x ∷ xs) (y ∷ ys) e = either_agrees (same.same a x b y k e.0) (among_agrees a b k xs ys e.1)

    fits_head_agrees : (h : Head W) (g : Head V) → SameHead S h g → SameTest R (fits_head words h) (fits_head others g)
    fits_head_agrees (AmongSymbols xs) (AmongSymbols ys) e t u r = both_agree (ap not (clause_word_agrees t u r)) (among_agrees (words.word t) (others.word u) (same.word t u r) xs ys e)
    fits_head_agrees InOrOut InOrOut e t u r = either_agrees (key_agrees key.In t u r) (key_agrees key.Out t u r)
    fits_head_agrees AnyAttribute AnyAttribute e t u r = refl
    fits_head_agrees _ _ e t u r = absurd e

    -- ---- paths and equations

    word_list_agrees : (left n : ℕ) → SameReads R S (Each S) (word_list words left n) (word_list others left n)
    unfolding word_list
    word_list_agrees left zero ts us e = got tt e
    word_list_agrees left (suc n) [] [] e = got tt tt
    word_list_agrees left (suc n) [] (u ∷ us) e = absurd e
    word_list_agrees left (suc n) (t ∷ ts) [] e = absurd e
    word_list_agrees zero (suc n) (t ∷ ts) (u ∷ us) e = cond_agrees (kind_agrees Word t u e.0) (stops tt e) (got tt e)
    word_list_agrees (suc left) (suc n) (t ∷ ts) (u ∷ us) e = cond_agrees (kind_agrees Word t u e.0)
        (bind_agrees (word_list_agrees left n ts us e.1) (λ ws vs k ts us rest. got (same.word t u e.0, k) rest))
        (got tt e)

    attributes_agree : (left right : ℕ) → left ≡ right → SameReads R S (Each S) (attributes words left) (attributes others right)
    attributes_agree left right l ts us e =
        subst (λ m. SameParse R S (Each R) (Each S) (word_list words left (length ts) ts) (word_list others m (length us) us)) l
        (subst (λ n. SameParse R S (Each R) (Each S) (word_list words left (length ts) ts) (word_list others left n us)) (each_length R ts us e) (word_list_agrees left (length ts) ts us e))

    head_agrees : (h : Head W) (g : Head V) → SameHead S h g → SameReads R S R (head words h) (head others g)
    head_agrees h g k ts us e = bind_agrees (one_at (kind_agrees Word) (first_word_agrees S h g k) ts us e) (λ t u r rest rest' e'. cond_agrees (fits_head_agrees h g k t u r) (got r e') (stops tt e))

    path_agrees : (h : Head W) (g : Head V) → SameHead S h g → (w : What) → SameReads R S (SamePathText S) (path words h w) (path others g w)
    unfolding path
    path_agrees h g k w ts us e =
        bind_agrees (one_agrees (kind_agrees Less) w ts us e) (λ _ _ _ ts us e.
        bind_agrees (head_agrees h g k ts us e) (λ t u r ts us e.
        bind_agrees (attributes_agree (room h) (room g) (room_agrees S h g k) ts us e) (λ ws vs b ts us e.
        bind_agrees (one_agrees (kind_agrees Greater) what.Greater ts us e) (λ _ _ _ ts us e.
        got (headed_agrees S h g k (words.word t) (others.word u) (same.word t u r) ws vs b) e))))

    term_agrees : (h : Head W) (g : Head V) → SameHead S h g → SameReads R S (SameTermText S) (term words h) (term others g)
    unfolding term
    term_agrees h g k ts us e = cond_agrees (begins_agrees (kind_agrees Less) ts us e)
        (bind_agrees (path_agrees h g k what.PathOrAtom ts us e) (λ p q b ts us e. got b e))
        (bind_agrees (one_agrees (kind_agrees Word) what.PathOrAtom ts us e) (λ t u r ts us e. got (same.word t u r) e))

    pub equation_agrees : (h : Head W) (g : Head V) → SameHead S h g → (w : What) → SameReads R S (SameEquationText S) (equation words h w) (equation others g w)
    unfolding equation
    equation_agrees h g k w ts us e =
        bind_agrees (path_agrees h g k w ts us e) (λ p q b ts us e.
        bind_agrees (one_agrees (kind_agrees Equal) what.Equal ts us e) (λ _ _ _ ts us e.
        bind_agrees (term_agrees h g k ts us e) (λ x y c ts us e.
        got (record { left = b; right = c }) e)))

    -- ---- rows

    alternative_agrees : {X Y : Type 0} {B : X → Y → Type 0} {starts : List T → Bool} {starts' : List U → Bool} {read : Reads T W (Item X)} {read' : Reads U V (Item Y)}
        → SameStart R starts starts' → SameReads R S (SameItem B) read read' → SameReads R S (SameRow B) (alternative words starts read) (alternative others starts' read')
    alternative_agrees {B = B} start reads ts us e = bind_agrees (plus_agrees start reads ts us e) (λ xs ys b ts us e. got (row_agrees B xs ys b) e)

    choices_agree : {X Y : Type 0} {B : X → Y → Type 0} {starts : List T → Bool} {starts' : List U → Bool} {read : Reads T W (Item X)} {read' : Reads U V (Item Y)}
        → SameStart R starts starts' → SameReads R S (SameItem B) read read' → (k : Kind) (w : What)
        → SameReads R S (SameRows' B) (choices words starts read (is_kind words k) w) (choices others starts' read' (is_kind others k) w)
    choices_agree {B = B} start reads k w ts us e =
        bind_agrees (alternative_agrees start reads ts us e) (λ r s b ts us e.
        bind_agrees (star_agrees (begins_agrees (kind_agrees Slash)) (λ ts us e. bind_agrees (one_agrees (kind_agrees Slash) w ts us e) (λ _ _ _ ts us e. alternative_agrees start reads ts us e)) ts us e) (λ rs ss c ts us e.
        bind_agrees (one_agrees (kind_agrees k) w ts us e) (λ _ _ _ ts us e.
        got (b, rows_agree B rs ss c) e)))

    pub braced_agrees : {X Y : Type 0} {B : X → Y → Type 0} {starts : List T → Bool} {starts' : List U → Bool} {single : Reads T W X} {single' : Reads U V Y} (n : ℕ) (built : Bool)
        → SameStart R starts starts' → SameReads R S B single single' → SameReads R S (SameItem B) (braced words n built starts single) (braced others n built starts' single')
    unfolding braced
    braced_agrees zero built start reads ts us e = cond_agrees (begins_agrees (kind_agrees OpenBrace) ts us e)
        (stops (too_deep_agrees S built) e)
        (bind_agrees (reads ts us e) (λ x y b ts us e. got b e))
    braced_agrees (suc n) built start reads ts us e = cond_agrees (begins_agrees (kind_agrees OpenBrace) ts us e)
        (cond_agrees {b = built} refl
        (bind_agrees (one_agrees (kind_agrees OpenBrace) what.Equation ts us e) (λ _ _ _ ts us e.
        bind_agrees (choices_agree start (braced_agrees n built start reads) CloseBrace what.CloseBrace ts us e) (λ rs ss b ts us e. got b e)))
        (stops tt e))
        (bind_agrees (reads ts us e) (λ x y b ts us e. got b e))

    -- ---- rules

    begins_ruleitem_agrees : SameStart R (begins_ruleitem words) (begins_ruleitem others)
    begins_ruleitem_agrees ts us e = either_agrees (begins_agrees (kind_agrees Less) ts us e) (begins_agrees (kind_agrees OpenBrace) ts us e)

    rule_equation_agrees : (s : Stage) (h : Head W) (g : Head V) → SameHead S h g → SameReads R S (SameEquationText S) (rule_equation words s h) (rule_equation others s g)
    rule_equation_agrees s h g k ts us e = cond_agrees (both_agree (begins_agrees (kind_agrees Less) ts us e) refl) (stops tt e) (equation_agrees h g k what.Equation ts us e)

    ruleitems_agree : (s : Stage) (h : Head W) (g : Head V) → SameHead S h g → SameReads R S (SameRow (SameEquationText S)) (ruleitems words s h) (ruleitems others s g)
    ruleitems_agree s h g k ts us e =
        bind_agrees (star_agrees begins_ruleitem_agrees (braced_agrees 16 s.groups begins_ruleitem_agrees (rule_equation_agrees s h g k)) ts us e) (λ xs ys b ts us e.
        got (row_agrees (SameEquationText S) xs ys b) e)

    name_tokens_agree : SameReads R S (Each S) (name_tokens words) (name_tokens others)
    unfolding name_tokens
    name_tokens_agree [] [] e = stops refl e
    name_tokens_agree [] (u ∷ us) e = absurd e
    name_tokens_agree (t ∷ ts) [] e = absurd e
    name_tokens_agree (t ∷ ts) (u ∷ us) e = cond_agrees (kind_agrees CloseBrace t u e.0)
        (got tt e.1)
        (cond_agrees (kind_agrees OpenBrace t u e.0)
        (stops refl e)
        (bind_agrees (name_tokens_agree ts us e.1) (λ ws vs b ts us rest. got (same.word t u e.0, b) rest)))

    rule_name_agrees : SameReads R S (Each S) (rule_name words) (rule_name others)
    rule_name_agrees [] [] e = got tt e
    rule_name_agrees [] (u ∷ us) e = absurd e
    rule_name_agrees (t ∷ ts) [] e = absurd e
    rule_name_agrees (t ∷ ts) (u ∷ us) e = cond_agrees (kind_agrees OpenBrace t u e.0) (name_tokens_agree ts us e.1) (got tt e)

    symbol_of_agrees : (t : T) (u : U) → R t u → SameSymbolText S (symbol_of words t) (symbol_of others u)
    symbol_of_agrees t u r = record { symbol = same.word t u r; category = same.category t u r }

    opens_equations_agrees : SameStart R (opens_equations words) (opens_equations others)
    opens_equations_agrees [] [] e = refl
    opens_equations_agrees [] (u ∷ us) e = absurd e
    opens_equations_agrees (t ∷ ts) [] e = absurd e
    opens_equations_agrees (t ∷ ts) (u ∷ us) e =
        ap (λ b. cond b (opens_equations words ts) (is_kind words Less t)) (kind_agrees OpenBrace t u e.0)
        ∙ (ap (λ b. cond (is_kind others OpenBrace u) b (is_kind words Less t)) (opens_equations_agrees ts us e.1)
        ∙ ap (λ b. cond (is_kind others OpenBrace u) (opens_equations others us) b) (kind_agrees Less t u e.0))

    begins_inner_agrees : SameStart R (begins_inner words) (begins_inner others)
    begins_inner_agrees ts us e = either_agrees (either_agrees (begins_agrees symbol_agrees ts us e) (begins_agrees (kind_agrees OpenParen) ts us e)) (begins_agrees (kind_agrees OpenBrace) ts us e)

    begins_outer_agrees : SameStart R (begins_outer words) (begins_outer others)
    begins_outer_agrees ts us e = either_agrees (either_agrees (begins_agrees symbol_agrees ts us e) (begins_agrees (kind_agrees OpenParen) ts us e))
        (both_agree (begins_agrees (kind_agrees OpenBrace) ts us e) (ap not (opens_equations_agrees ts us e)))

    plain_agrees : {X Y : Type 0} {B : X → Y → Type 0} {read : Reads T W X} {read' : Reads U V Y} → SameReads R S B read read' → SameRightReads B (plain words read) (plain others read')
    plain_agrees reads s t e = bind_agrees (reads s.tokens t.tokens e.tokens) (λ x y b ts us k. got b (record { symbols = e.symbols; tokens = k }))

    many_right_agrees : {X Y : Type 0} {B : X → Y → Type 0} {starts : List T → Bool} {starts' : List U → Bool} {read : Left T → Parse T W (Left T) X} {read' : Left U → Parse U V (Left U) Y}
        → SameStart R starts starts' → SameRightReads B read read' → (n : ℕ) → SameRightReads (Each B) (many_right words n starts read) (many_right others n starts' read')
    unfolding many_right
    many_right_agrees start reads zero s t e = got tt e
    many_right_agrees start reads (suc n) s t e = cond_agrees (start s.tokens t.tokens e.tokens)
        (bind_agrees (reads s t e) (λ x y b s t e. bind_agrees (many_right_agrees start reads n s t e) (λ xs ys bs s t e. got (b, bs) e)))
        (got tt e)

    star_right_agrees : {X Y : Type 0} {B : X → Y → Type 0} {starts : List T → Bool} {starts' : List U → Bool} {read : Left T → Parse T W (Left T) X} {read' : Left U → Parse U V (Left U) Y}
        → SameStart R starts starts' → SameRightReads B read read' → SameRightReads (Each B) (star_right words starts read) (star_right others starts' read')
    star_right_agrees {B = B} {starts = starts} {starts' = starts'} {read = read} {read' = read'} start reads s t e =
        subst (λ n. SameParse R S SameLeft (Each B) (many_right words (length s.tokens) starts read s) (many_right others n starts' read' t)) (each_length R s.tokens t.tokens e.tokens)
        (many_right_agrees start reads (length s.tokens) s t e)

    abbrev SameItemReads : (Left T → Parse T W (Left T) (Item (SymbolText W))) → (Left U → Parse U V (Left U) (Item (SymbolText V))) → Type 0
    SameItemReads read read' = SameRightReads (SameItem (SameSymbolText S)) read read'

    row_right_agrees : {read : Left T → Parse T W (Left T) (Item (SymbolText W))} {read' : Left U → Parse U V (Left U) (Item (SymbolText V))}
        → SameItemReads read read' → SameRightReads (SameRow (SameSymbolText S)) (row_right words read) (row_right others read')
    row_right_agrees reads s t e =
        bind_agrees (reads s t e) (λ x y b s t e.
        bind_agrees (star_right_agrees begins_inner_agrees reads s t e) (λ xs ys bs s t e.
        got (row_agrees (SameSymbolText S) (x ∷ xs) (y ∷ ys) (b, bs)) e))

    alts_agree : {read : Left T → Parse T W (Left T) (Item (SymbolText W))} {read' : Left U → Parse U V (Left U) (Item (SymbolText V))}
        → SameItemReads read read' → SameRightReads (SameRows' (SameSymbolText S)) (alts words read) (alts others read')
    alts_agree reads s t e =
        bind_agrees (row_right_agrees reads s t e) (λ r r' b s t e.
        bind_agrees (star_right_agrees (begins_agrees (kind_agrees Slash)) (λ s t e. bind_agrees (plain_agrees (one_agrees (kind_agrees Slash) what.Symbol) s t e) (λ _ _ _ s t e. row_right_agrees reads s t e)) s t e) (λ rs ss c s t e.
        got (b, rows_agree (SameSymbolText S) rs ss c) e))

    symbol_item_agrees : SameItemReads (symbol_item words) (symbol_item others)
    symbol_item_agrees s t e = bind_agrees (one_agrees symbol_agrees what.Symbol s.tokens t.tokens e.tokens) (λ x y r ts us k.
        cond_agrees (ap (λ n. nat_eq n 0) e.symbols) (stops tt e.tokens) (got (symbol_of_agrees x y r) (record { symbols = ap (λ n. n - 1) e.symbols; tokens = k })))

    item_agrees : (built : Bool) (n : ℕ) → SameItemReads (item words built n) (item others built n)
    unfolding item
    item_agrees built zero s t e = cond_agrees (either_agrees (begins_agrees (kind_agrees OpenParen) s.tokens t.tokens e.tokens) (begins_agrees (kind_agrees OpenBrace) s.tokens t.tokens e.tokens))
        (stops (too_deep_agrees S built) e.tokens)
        (symbol_item_agrees s t e)
    item_agrees built (suc n) s t e =
        cond_agrees (begins_agrees (kind_agrees OpenParen) s.tokens t.tokens e.tokens)
        (cond_agrees {b = built} refl
        (bind_agrees (plain_agrees (one_agrees (kind_agrees OpenParen) what.Symbol) s t e) (λ _ _ _ s t e.
        bind_agrees (alts_agree (item_agrees built n) s t e) (λ rs ss b s t e.
        bind_agrees (plain_agrees (one_agrees (kind_agrees CloseParen) what.CloseParen) s t e) (λ _ _ _ s t e. got b e))))
        (stops tt e.tokens))
        (cond_agrees (begins_agrees (kind_agrees OpenBrace) s.tokens t.tokens e.tokens)
        (cond_agrees {b = built} refl
        (bind_agrees (plain_agrees (one_agrees (kind_agrees OpenBrace) what.Symbol) s t e) (λ _ _ _ s t e.
        bind_agrees (alts_agree (item_agrees built n) s t e) (λ rs ss b s t e.
        bind_agrees (plain_agrees (one_agrees (kind_agrees CloseBrace) what.CloseBrace) s t e) (λ _ _ _ s t e. got b e))))
        (stops tt e.tokens))
        (symbol_item_agrees s t e))

    right_side_agrees : (s : Stage) → SameReads R S (SameRow (SameSymbolText S)) (right_side words s) (right_side others s)
    right_side_agrees s ts us e =
        bind_agrees (star_right_agrees begins_outer_agrees (item_agrees s.groups 16) (record { symbols = 32; tokens = ts }) (record { symbols = 32; tokens = us }) (record { symbols = refl; tokens = e })) (λ xs ys b s t e.
        got (row_agrees (SameSymbolText S) xs ys b) e.tokens)

    line_agrees : (t : T) (u : U) → R t u → (words.place t).line ≡ (others.place u).line
    line_agrees t u r = ap (λ p. p.line) (same.place t u r)

    rule_agrees : (s : Stage) → SameReads R S (SameRuleText S) (rule words s) (rule others s)
    unfolding rule
    rule_agrees s ts us e =
        bind_agrees (one_agrees (key_agrees key.Rule) what.Clause ts us e) (λ t u r ts us e.
        bind_agrees (rule_name_agrees ts us e) (λ ns ms n ts us e.
        bind_agrees (one_agrees symbol_agrees what.Symbol ts us e) (λ x y m ts us e.
        bind_agrees (one_agrees (kind_agrees Arrow) what.Arrow ts us e) (λ _ _ _ ts us e.
        bind_agrees (right_side_agrees s ts us e) (λ rs ss b ts us e.
        bind_agrees (ruleitems_agree s (AmongSymbols (words.word x ∷ symbols_of rs)) (AmongSymbols (others.word y ∷ symbols_of ss)) (same.word x y m, symbols_agree S rs ss b)
        (maybe (is_kind words Colon) ts) (maybe (is_kind others Colon) us) (maybe_agrees (kind_agrees Colon) ts us e)) (λ es fs c ts us e.
        got (record { line = line_agrees t u r; name = n; mother = symbol_of_agrees x y m; right = b; equations = c }) (maybe_agrees (kind_agrees Dot) ts us e)))))))

    -- ---- features

    pub begins_feature_agrees : SameStart R (begins_feature words) (begins_feature others)
    begins_feature_agrees ts us e = either_agrees (either_agrees (begins_agrees (kind_agrees Less) ts us e) (begins_agrees symbol_agrees ts us e)) (begins_agrees (kind_agrees OpenBrace) ts us e)

    pub single_feature_agrees : (s : Stage) → SameReads R S (SameFeatureText S) (single_feature words s) (single_feature others s)
    single_feature_agrees s ts us e = cond_agrees (begins_agrees (kind_agrees Less) ts us e)
        (bind_agrees (equation_agrees AnyAttribute AnyAttribute tt what.EquationOrName ts us e) (λ f g b ts us e. got b e))
        (bind_agrees (one_agrees symbol_agrees what.EquationOrName ts us e) (λ t u r rest rest' k. cond_agrees {b = s.groups} refl (got (same.word t u r, same.place t u r) k) (stops tt e)))

    pub feature_agrees : (s : Stage) → SameReads R S (SameItem (SameFeatureText S)) (feature words s) (feature others s)
    feature_agrees s = braced_agrees 16 s.groups begins_feature_agrees (single_feature_agrees s)

    -- ---- templates and lexical rules

    fresh_name_agrees : (ns : List W) (ms : List V) → Each S ns ms → SameReads R S R (fresh_name words ns) (fresh_name others ms)
    fresh_name_agrees ns ms k ts us e = bind_agrees (one_agrees symbol_agrees what.Name ts us e) (λ t u r rest rest' e'.
        cond_agrees (among_agrees (words.word t) (others.word u) (same.word t u r) ns ms k) (stops (same.word t u r) e) (got r e'))

    template_agrees : (s : Stage) (ns : List W) (ms : List V) → Each S ns ms → SameReads R S (SameTemplate S) (template words s ns) (template others s ms)
    unfolding template
    template_agrees s ns ms k ts us e = cond_agrees {b = s.groups} refl
        (bind_agrees (one_agrees (key_agrees key.Let) what.Clause ts us e) (λ t u r ts us e.
        bind_agrees (fresh_name_agrees ns ms k ts us e) (λ x y n ts us e.
        bind_agrees (one_agrees (key_agrees key.Be) what.Be ts us e) (λ _ _ _ ts us e.
        bind_agrees (plus_agrees begins_feature_agrees (feature_agrees s) ts us e) (λ xs ys b ts us e.
        got (record { line = line_agrees t u r; name = same.word x y n; body = row_agrees (SameFeatureText S) xs ys b }) (maybe_agrees (kind_agrees Dot) ts us e))))))
        (stops tt e)

    lexical_rule_agrees : (s : Stage) (ns : List W) (ms : List V) → Each S ns ms → SameReads R S (SameLexicalRule S) (lexical_rule words s ns) (lexical_rule others s ms)
    unfolding lexical_rule
    lexical_rule_agrees s ns ms k ts us e = cond_agrees {b = s.lexical_rules} refl
        (bind_agrees (one_agrees (key_agrees key.Define) what.Clause ts us e) (λ t u r ts us e.
        bind_agrees (fresh_name_agrees ns ms k ts us e) (λ x y n ts us e.
        bind_agrees (one_agrees (key_agrees key.As) what.As ts us e) (λ _ _ _ ts us e.
        bind_agrees (plus_agrees (begins_agrees (kind_agrees Less)) (equation_agrees InOrOut InOrOut tt what.Equation) ts us e) (λ es fs b ts us e.
        got (record { line = line_agrees t u r; name = same.word x y n; equations = b }) (maybe_agrees (kind_agrees Dot) ts us e))))))
        (stops tt e)

    -- ---- parameters

    more_paths_agree : (left n : ℕ) → SameReads R S (Each (Each S)) (more_paths words left n) (more_paths others left n)
    unfolding more_paths
    more_paths_agree left zero ts us e = got tt e
    more_paths_agree zero (suc n) ts us e = cond_agrees (begins_agrees (kind_agrees Less) ts us e) (stops tt e) (got tt e)
    more_paths_agree (suc left) (suc n) ts us e = cond_agrees (begins_agrees (kind_agrees Less) ts us e)
        (bind_agrees (path_agrees AnyAttribute AnyAttribute tt what.Path ts us e) (λ p q b ts us e.
        bind_agrees (more_paths_agree left n ts us e) (λ ps qs bs ts us e.
        got (b.attributes, bs) e)))
        (got tt e)

    paths_agree : SameReads R S (Each (Each S)) (paths words) (paths others)
    paths_agree ts us e =
        bind_agrees (path_agrees AnyAttribute AnyAttribute tt what.Path ts us e) (λ p q b ts us e.
        bind_agrees (subst (λ n. SameParse R S (Each R) (Each (Each S)) (more_paths words 15 (length ts) ts) (more_paths others 15 n us)) (each_length R ts us e) (more_paths_agree 15 (length ts) ts us e)) (λ ps qs bs ts us e.
        got (b.attributes, bs) e))

    start_setting_agrees : SameReads R S (SameClause S) (start_setting words) (start_setting others)
    start_setting_agrees ts us e =
        bind_agrees (one_agrees (key_agrees key.Start) what.Parameter ts us e) (λ _ _ _ ts us e.
        bind_agrees (one_agrees (key_agrees key.Symbol) what.SymbolWord ts us e) (λ _ _ _ ts us e.
        bind_agrees (one_agrees (key_agrees key.Is) what.Is ts us e) (λ _ _ _ ts us e.
        bind_agrees (one_agrees symbol_agrees what.Symbol ts us e) (λ t u r ts us e.
        got (same.category t u r) e))))

    restrictor_setting_agrees : SameReads R S (SameClause S) (restrictor_setting words) (restrictor_setting others)
    restrictor_setting_agrees ts us e =
        bind_agrees (one_agrees (key_agrees key.Restrictor) what.Parameter ts us e) (λ _ _ _ ts us e.
        bind_agrees (one_agrees (key_agrees key.Is) what.Is ts us e) (λ _ _ _ ts us e.
        bind_agrees (paths_agree ts us e) (λ ps qs b ts us e.
        got b e)))

    order_setting_agrees : SameReads R S (SameClause S) (order_setting words) (order_setting others)
    order_setting_agrees ts us e =
        bind_agrees (one_agrees (key_agrees key.Attribute) what.Parameter ts us e) (λ _ _ _ ts us e.
        bind_agrees (one_agrees (key_agrees key.Order) what.OrderWord ts us e) (λ _ _ _ ts us e.
        bind_agrees (one_agrees (key_agrees key.Is) what.Is ts us e) (λ _ _ _ ts us e.
        bind_agrees (plus_agrees (begins_agrees symbol_agrees) (one_agrees symbol_agrees what.Attribute) ts us e) (λ xs ys b ts us e.
        got (each_map S R words.word others.word same.word xs ys b) e))))

    setting_agrees : SameReads R S (SameClause S) (setting words) (setting others)
    setting_agrees ts us e = cond_agrees (begins_agrees (key_agrees key.Start) ts us e) (start_setting_agrees ts us e)
        (cond_agrees (begins_agrees (key_agrees key.Restrictor) ts us e) (restrictor_setting_agrees ts us e) (order_setting_agrees ts us e))

    parameter_agrees : (s : Stage) → SameReads R S (SameClause S) (parameter words s) (parameter others s)
    unfolding parameter
    parameter_agrees s ts us e = cond_agrees {b = s.parameters} refl
        (bind_agrees (one_agrees (key_agrees key.Parameter) what.Clause ts us e) (λ _ _ _ ts us e.
        bind_agrees (setting_agrees (maybe (is_kind words Colon) ts) (maybe (is_kind others Colon) us) (maybe_agrees (kind_agrees Colon) ts us e)) (λ c d b ts us e.
        got b (maybe_agrees (kind_agrees Dot) ts us e))))
        (stops tt e)

    -- ---- clauses

    clause_agrees : (s : Stage) (ns : List W) (ms : List V) → Each S ns ms → SameReads R S (SameClause S) (clause words s ns) (clause others s ms)
    clause_agrees s ns ms k ts us e =
        cond_agrees (begins_agrees (key_agrees key.Let) ts us e) (bind_agrees (template_agrees s ns ms k ts us e) (λ t u b ts us e. got b e))
        (cond_agrees (begins_agrees (key_agrees key.Define) ts us e) (bind_agrees (lexical_rule_agrees s ns ms k ts us e) (λ d f b ts us e. got b e))
        (cond_agrees (begins_agrees (key_agrees key.Parameter) ts us e) (parameter_agrees s ts us e) (bind_agrees (rule_agrees s ts us e) (λ r q b ts us e. got b e))))

    -- the clauses up to the end
    pub clauses_agree : (s : Stage) (n : ℕ) (ns : List W) (ms : List V) → Each S ns ms → SameReads R S (Each (SameClause S)) (clauses words s n ns) (clauses others s n ms)
    unfolding clauses
    clauses_agree s n ns ms k [] [] e = got tt e
    clauses_agree s n ns ms k [] (u ∷ us) e = absurd e
    clauses_agree s n ns ms k (t ∷ ts) [] e = absurd e
    clauses_agree s zero ns ms k (t ∷ ts) (u ∷ us) e = got tt e
    clauses_agree s (suc n) ns ms k (t ∷ ts) (u ∷ us) e =
        bind_agrees (clause_agrees s ns ms k (t ∷ ts) (u ∷ us) e) (λ c d b ts us e.
        bind_agrees (clauses_agree s n (with_name c ns) (with_name d ms) (with_name_agrees S c d b ns ms k) ts us e) (λ cs ds bs ts us e.
        got (b, bs) e))
