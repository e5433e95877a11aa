-- Each clause takes a token at least, so a list of clauses that is read leaves none.
use Rattle.std.proofs.Common.{◌≡◌, ℕ, zero, suc, ◌≤◌, Bool, true, false, cond, ◌||◌, List, [], ◌∷◌, length, sym, ap, ◌∙◌, arith}
use Rattle.patr_model.specs.declared.lookahead.Kind.TheVariants.{Less, Greater, Equal, OpenBrace, CloseBrace, OpenParen, CloseParen, Slash, Colon, Dot, Arrow, Word}
use Rattle.patr_model.specs.declared.notation.Keyword.TheVariants as key
use Rattle.patr_model.specs.declared.notation.What.{What}
use Rattle.patr_model.specs.declared.notation.What.TheVariants as what
use Rattle.patr_model.specs.Lexemes.{Words, by_text, is_kind, is_key, is_symbol, begins}
use Rattle.patr_model.specs.Parsing.{Refusal, Parse, Got, Stops, ◌>>=◌, Reads, one, maybe, many, star, plus}
use Rattle.patr_model.specs.Stages.{Stage}
use Rattle.patr_model.specs.Productions.{Item, SymbolText, Clause, with_name, Left, Head, AnyAttribute, InOrOut, room, word_list, head, path, term, equation, alternative, choices, braced, begins_ruleitem, rule_equation, ruleitems, name_tokens, rule_name, begins_inner, begins_outer, plain, many_right, star_right, row_right, alts, symbol_item, item, right_side, rule, begins_feature, single_feature, feature, fresh_name, template, lexical_rule, more_paths, paths, start_setting, restrictor_setting, order_setting, setting, parameter, clause, clauses}
use Rattle.patr_laws.specs.Spelling.{ClausesEnd}
use Rattle.patr_laws.proofs.Readings.{bind_got}

-- ---- how much is left

-- what is left of a reading, measured so, is at most so much
abbrev Leaves : {T W S X : Type 0} → (S → ℕ) → ℕ → Parse T W S X → Type 0
Leaves size n (Got x s) = size s ≤ n
Leaves size n (Stops r ts) = Unit {0}

record AtMost {T W S X : Type 0} (size : S → ℕ) (n : ℕ) (p : Parse T W S X) : Type 0 where
  left : Leaves size n p

bind_at : {T W R S X Y : Type 0} {older : R → ℕ} {size : S → ℕ} {m n : ℕ} {p : Parse T W R X} {f : X → R → Parse T W S Y}
    → AtMost older m p → ((x : X) (s : R) → older s ≤ m → AtMost size n (f x s)) → AtMost size n (p >>= f)
bind_at {p = Got x s} h k = k x s h.left
bind_at {p = Stops r ts} h k = record { left = tt }

got : {T W S X : Type 0} {size : S → ℕ} {n : ℕ} {x : X} {s : S} → size s ≤ n → AtMost {T = T} {W = W} size n (Got x s)
got h = record { left = h }

stops : {T W S X : Type 0} {size : S → ℕ} {n : ℕ} {r : Refusal W} {ts : List T} → AtMost {T = T} {W = W} {X = X} size n (Stops r ts)
stops = record { left = tt }

cond_at : {T W S X : Type 0} {size : S → ℕ} {n : ℕ} {p q : Parse T W S X} (b : Bool) → AtMost size n p → AtMost size n q → AtMost size n (cond b p q)
cond_at true h k = h
cond_at false h k = k

maybe_keeps : {T : Type 0} (test : T → Bool) (ts : List T) (n : ℕ) → length ts ≤ n → length (maybe test ts) ≤ n
maybe_keeps test [] n h = h
maybe_keeps test (t ∷ ts) n h = go (test t)
  where
    go : (b : Bool) → length (cond b ts (t ∷ ts)) ≤ n
    go true = omega (arith, h)
    go false = h

module _ {T W : Type 0} where
  -- a reading lengthens nothing
  abbrev Keeps : {X : Type 0} → Reads T W X → Type 0
  Keeps f = (ts : List T) (n : ℕ) → length ts ≤ n → AtMost length n (f ts)

  -- a reading takes a token at least
  abbrev Shortens : {X : Type 0} → Reads T W X → Type 0
  Shortens f = (ts : List T) (n : ℕ) → length ts ≤ suc n → AtMost length n (f ts)

  one_shortens : (test : T → Bool) (w : What) → Shortens (one test w)
  one_shortens test w [] n h = stops
  one_shortens test w (t ∷ ts) n h = cond_at _ (got (omega (arith, h))) stops

  one_keeps : (test : T → Bool) (w : What) → Keeps (one test w)
  one_keeps test w ts n h = one_shortens test w ts n (omega (arith, h))

  many_keeps : {X : Type 0} (starts : List T → Bool) (f : Reads T W X) → Keeps f → (m : ℕ) → Keeps (many m starts f)
  unfolding many
  many_keeps starts f k zero ts n h = got h
  many_keeps starts f k (suc m) ts n h = cond_at _ (bind_at (k ts n h) (λ x ts h. bind_at (many_keeps starts f k m ts n h) (λ xs ts h. got h))) (got h)

  star_keeps : {X : Type 0} (starts : List T → Bool) (f : Reads T W X) → Keeps f → Keeps (star starts f)
  star_keeps starts f k ts n h = many_keeps starts f k (length ts) ts n h

  plus_keeps : {X : Type 0} (starts : List T → Bool) (f : Reads T W X) → Keeps f → Keeps (plus starts f)
  plus_keeps starts f k ts n h = bind_at (k ts n h) (λ x ts h. bind_at (star_keeps starts f k ts n h) (λ xs ts h. got h))

-- ---- productions

module _ {T W : Type 0} (words : Words T W) where
  word_list_keeps : (left m : ℕ) → Keeps (word_list words left m)
  unfolding word_list
  word_list_keeps left zero ts n h = got h
  word_list_keeps left (suc m) [] n h = got h
  word_list_keeps zero (suc m) (t ∷ ts) n h = cond_at _ stops (got h)
  word_list_keeps (suc left) (suc m) (t ∷ ts) n h = cond_at _ (bind_at (word_list_keeps left m ts n (omega (arith, h))) (λ ws ts h. got h)) (got h)

  head_keeps : (h : Head W) → Keeps (head words h)
  head_keeps h ts n l = bind_at (one_keeps _ _ ts n l) (λ w ts l. cond_at _ (got l) stops)

  path_keeps : (h : Head W) (expected : What) → Keeps (path words h expected)
  unfolding path
  path_keeps h expected ts n l =
      bind_at (one_keeps (is_kind words Less) expected ts n l) (λ _ ts l. bind_at (head_keeps h ts n l) (λ w ts l. bind_at (word_list_keeps (room h) (length ts) ts n l) (λ ws ts l. bind_at (one_keeps (is_kind words Greater) what.Greater ts n l) (λ _ ts l. got l))))

  term_keeps : (h : Head W) → Keeps (term words h)
  unfolding term
  term_keeps h ts n l = cond_at _ (bind_at (path_keeps h what.PathOrAtom ts n l) (λ p ts l. got l)) (bind_at (one_keeps (is_kind words Word) what.PathOrAtom ts n l) (λ w ts l. got l))

  equation_keeps : (h : Head W) (expected : What) → Keeps (equation words h expected)
  unfolding equation
  equation_keeps h expected ts n l = bind_at (path_keeps h expected ts n l) (λ p ts l. bind_at (one_keeps (is_kind words Equal) what.Equal ts n l) (λ _ ts l. bind_at (term_keeps h ts n l) (λ r ts l. got l)))

  alternative_keeps : {X : Type 0} (starts : List T → Bool) (f : Reads T W (Item X)) → Keeps f → Keeps (alternative words starts f)
  alternative_keeps starts f k ts n l = bind_at (plus_keeps starts f k ts n l) (λ xs ts l. got l)

  choices_keep : {X : Type 0} (starts : List T → Bool) (f : Reads T W (Item X)) → Keeps f → (closes : T → Bool) (expected : What) → Keeps (choices words starts f closes expected)
  choices_keep starts f k closes expected ts n l =
      bind_at (alternative_keeps starts f k ts n l) (λ r ts l. bind_at (star_keeps (begins (is_kind words Slash)) _ (λ ts n l. bind_at (one_keeps (is_kind words Slash) expected ts n l) (λ _ ts l. alternative_keeps starts f k ts n l)) ts n l)
      (λ rs ts l. bind_at (one_keeps closes expected ts n l) (λ _ ts l. got l)))

  braced_keeps : {X : Type 0} (levels : ℕ) (built : Bool) (starts : List T → Bool) (f : Reads T W X) → Keeps f → Keeps (braced words levels built starts f)
  unfolding braced
  braced_keeps zero built starts f k ts n l = cond_at _ stops (bind_at (k ts n l) (λ x ts l. got l))
  braced_keeps (suc levels) built starts f k ts n l =
      cond_at _ (cond_at _ (bind_at (one_keeps (is_kind words OpenBrace) what.Equation ts n l) (λ _ ts l. bind_at (choices_keep starts (braced words levels built starts f) (braced_keeps levels built starts f k) (is_kind words CloseBrace) what.CloseBrace ts n l) (λ rs ts l. got l))) stops)
      (bind_at (k ts n l) (λ x ts l. got l))

  rule_equation_keeps : (s : Stage) (h : Head W) → Keeps (rule_equation words s h)
  rule_equation_keeps s h ts n l = cond_at _ stops (equation_keeps h what.Equation ts n l)

  ruleitems_keep : (s : Stage) (h : Head W) → Keeps (ruleitems words s h)
  ruleitems_keep s h ts n l = bind_at (star_keeps (begins_ruleitem words) _ (braced_keeps 16 s.groups (begins_ruleitem words) (rule_equation words s h) (rule_equation_keeps s h)) ts n l) (λ xs ts l. got l)

  name_tokens_keep : Keeps (name_tokens words)
  unfolding name_tokens
  name_tokens_keep [] n l = stops
  name_tokens_keep (t ∷ ts) n l = cond_at _ (got (omega (arith, l))) (cond_at _ stops (bind_at (name_tokens_keep ts n (omega (arith, l))) (λ ws ts l. got l)))

  rule_name_keeps : Keeps (rule_name words)
  rule_name_keeps [] n l = got l
  rule_name_keeps (t ∷ ts) n l = cond_at _ (name_tokens_keep ts n (omega (arith, l))) (got l)

  -- ---- right sides

  abbrev tokens_left : Left T → ℕ
  tokens_left s = length s.tokens

  abbrev KeepsRight : {X : Type 0} → (Left T → Parse T W (Left T) X) → Type 0
  KeepsRight f = (s : Left T) (n : ℕ) → tokens_left s ≤ n → AtMost tokens_left n (f s)

  plain_keeps : {X : Type 0} (f : Reads T W X) → Keeps f → KeepsRight (plain words f)
  plain_keeps f k s n l = bind_at (k s.tokens n l) (λ x ts l. got l)

  many_right_keeps : {X : Type 0} (starts : List T → Bool) (f : Left T → Parse T W (Left T) X) → KeepsRight f → (m : ℕ) → KeepsRight (many_right words m starts f)
  unfolding many_right
  many_right_keeps starts f k zero s n l = got l
  many_right_keeps starts f k (suc m) s n l = cond_at _ (bind_at (k s n l) (λ x s l. bind_at (many_right_keeps starts f k m s n l) (λ xs s l. got l))) (got l)

  star_right_keeps : {X : Type 0} (starts : List T → Bool) (f : Left T → Parse T W (Left T) X) → KeepsRight f → KeepsRight (star_right words starts f)
  star_right_keeps starts f k s n l = many_right_keeps starts f k (length s.tokens) s n l

  row_right_keeps : (f : Left T → Parse T W (Left T) (Item (SymbolText W))) → KeepsRight f → KeepsRight (row_right words f)
  row_right_keeps f k s n l = bind_at (k s n l) (λ x s l. bind_at (star_right_keeps (begins_inner words) f k s n l) (λ xs s l. got l))

  alts_keep : (f : Left T → Parse T W (Left T) (Item (SymbolText W))) → KeepsRight f → KeepsRight (alts words f)
  alts_keep f k s n l =
      bind_at (row_right_keeps f k s n l) (λ r s l. bind_at (star_right_keeps (begins (is_kind words Slash)) _ (λ s n l. bind_at (plain_keeps (one (is_kind words Slash) what.Symbol) (one_keeps (is_kind words Slash) what.Symbol) s n l) (λ _ s l. row_right_keeps f k s n l)) s n l) (λ rs s l. got l))

  symbol_item_keeps : KeepsRight (symbol_item words)
  symbol_item_keeps s n l = bind_at (one_keeps (is_symbol words) what.Symbol s.tokens n l) (λ t ts l. cond_at _ stops (got l))

  item_keeps : (built : Bool) (levels : ℕ) → KeepsRight (item words built levels)
  unfolding item
  item_keeps built zero s n l = cond_at (begins (is_kind words OpenParen) s.tokens || begins (is_kind words OpenBrace) s.tokens) stops (symbol_item_keeps s n l)
  item_keeps built (suc levels) s n l =
      cond_at (begins (is_kind words OpenParen) s.tokens) (cond_at built (bind_at (plain_keeps (one (is_kind words OpenParen) what.Symbol) (one_keeps (is_kind words OpenParen) what.Symbol) s n l) (λ _ s l. bind_at (alts_keep (item words built levels) (item_keeps built levels) s n l)
      (λ rs s l. bind_at (plain_keeps (one (is_kind words CloseParen) what.CloseParen) (one_keeps (is_kind words CloseParen) what.CloseParen) s n l) (λ _ s l. got l)))) stops)
      (cond_at (begins (is_kind words OpenBrace) s.tokens) (cond_at built (bind_at (plain_keeps (one (is_kind words OpenBrace) what.Symbol) (one_keeps (is_kind words OpenBrace) what.Symbol) s n l) (λ _ s l. bind_at (alts_keep (item words built levels) (item_keeps built levels) s n l)
      (λ rs s l. bind_at (plain_keeps (one (is_kind words CloseBrace) what.CloseBrace) (one_keeps (is_kind words CloseBrace) what.CloseBrace) s n l) (λ _ s l. got l)))) stops)
      (symbol_item_keeps s n l))

  right_side_keeps : (s : Stage) → Keeps (right_side words s)
  right_side_keeps s ts n l = bind_at (star_right_keeps (begins_outer words) (item words s.groups 16) (item_keeps s.groups 16) (record { symbols = 32; tokens = ts }) n l) (λ xs s l. got l)

  -- ---- clauses

  rule_shortens : (s : Stage) → Shortens (rule words s)
  unfolding rule
  rule_shortens s ts n l =
      bind_at (one_shortens (is_key words key.Rule) what.Clause ts n l) (λ t ts l. bind_at (rule_name_keeps ts n l) (λ name ts l. bind_at (one_keeps (is_symbol words) what.Symbol ts n l)
      (λ mother ts l. bind_at (one_keeps (is_kind words Arrow) what.Arrow ts n l) (λ _ ts l. bind_at (right_side_keeps s ts n l)
      (λ right ts l. bind_at (ruleitems_keep s _ (maybe (is_kind words Colon) ts) n (maybe_keeps (is_kind words Colon) ts n l)) (λ equations ts l. got (maybe_keeps (is_kind words Dot) ts n l)))))))

  single_feature_keeps : (s : Stage) → Keeps (single_feature words s)
  single_feature_keeps s ts n l =
      cond_at _ (bind_at (equation_keeps AnyAttribute what.EquationOrName ts n l) (λ e ts l. got l)) (bind_at (one_keeps (is_symbol words) what.EquationOrName ts n l) (λ t ts l. cond_at _ (got l) stops))

  feature_keeps : (s : Stage) → Keeps (feature words s)
  feature_keeps s = braced_keeps 16 s.groups (begins_feature words) (single_feature words s) (single_feature_keeps s)

  fresh_name_keeps : (names : List W) → Keeps (fresh_name words names)
  fresh_name_keeps names ts n l = bind_at (one_keeps (is_symbol words) what.Name ts n l) (λ t ts l. cond_at _ stops (got l))

  template_shortens : (s : Stage) (names : List W) → Shortens (template words s names)
  unfolding template
  template_shortens s names ts n l =
      cond_at _ (bind_at (one_shortens (is_key words key.Let) what.Clause ts n l) (λ t ts l. bind_at (fresh_name_keeps names ts n l) (λ name ts l. bind_at (one_keeps (is_key words key.Be) what.Be ts n l)
      (λ _ ts l. bind_at (plus_keeps (begins_feature words) (feature words s) (feature_keeps s) ts n l) (λ xs ts l. got (maybe_keeps (is_kind words Dot) ts n l)))))) stops

  lexical_rule_shortens : (s : Stage) (names : List W) → Shortens (lexical_rule words s names)
  unfolding lexical_rule
  lexical_rule_shortens s names ts n l =
      cond_at _ (bind_at (one_shortens (is_key words key.Define) what.Clause ts n l) (λ t ts l. bind_at (fresh_name_keeps names ts n l) (λ name ts l. bind_at (one_keeps (is_key words key.As) what.As ts n l)
      (λ _ ts l. bind_at (plus_keeps (begins (is_kind words Less)) _ (equation_keeps InOrOut what.Equation) ts n l) (λ es ts l. got (maybe_keeps (is_kind words Dot) ts n l)))))) stops

  more_paths_keep : (left m : ℕ) → Keeps (more_paths words left m)
  unfolding more_paths
  more_paths_keep left zero ts n l = got l
  more_paths_keep zero (suc m) ts n l = cond_at _ stops (got l)
  more_paths_keep (suc left) (suc m) ts n l = cond_at _ (bind_at (path_keeps AnyAttribute what.Path ts n l) (λ p ts l. bind_at (more_paths_keep left m ts n l) (λ ps ts l. got l))) (got l)

  paths_keep : Keeps (paths words)
  paths_keep ts n l = bind_at (path_keeps AnyAttribute what.Path ts n l) (λ p ts l. bind_at (more_paths_keep 15 (length ts) ts n l) (λ ps ts l. got l))

  start_keeps : Keeps (start_setting words)
  start_keeps ts n l =
      bind_at (one_keeps (is_key words key.Start) what.Parameter ts n l) (λ _ ts l. bind_at (one_keeps (is_key words key.Symbol) what.SymbolWord ts n l) (λ _ ts l. bind_at (one_keeps (is_key words key.Is) what.Is ts n l)
      (λ _ ts l. bind_at (one_keeps (is_symbol words) what.Symbol ts n l) (λ t ts l. got l))))

  restrictor_keeps : Keeps (restrictor_setting words)
  restrictor_keeps ts n l =
      bind_at (one_keeps (is_key words key.Restrictor) what.Parameter ts n l) (λ _ ts l. bind_at (one_keeps (is_key words key.Is) what.Is ts n l) (λ _ ts l. bind_at (paths_keep ts n l) (λ ps ts l. got l)))

  order_keeps : Keeps (order_setting words)
  order_keeps ts n l =
      bind_at (one_keeps (is_key words key.Attribute) what.Parameter ts n l) (λ _ ts l. bind_at (one_keeps (is_key words key.Order) what.OrderWord ts n l) (λ _ ts l. bind_at (one_keeps (is_key words key.Is) what.Is ts n l)
      (λ _ ts l. bind_at (plus_keeps (begins (is_symbol words)) _ (one_keeps (is_symbol words) what.Attribute) ts n l) (λ ws ts l. got l))))

  setting_keeps : Keeps (setting words)
  setting_keeps ts n l = cond_at _ (start_keeps ts n l) (cond_at _ (restrictor_keeps ts n l) (order_keeps ts n l))

  parameter_shortens : (s : Stage) → Shortens (parameter words s)
  unfolding parameter
  parameter_shortens s ts n l =
      cond_at _ (bind_at (one_shortens (is_key words key.Parameter) what.Clause ts n l) (λ _ ts l. bind_at (setting_keeps (maybe (is_kind words Colon) ts) n (maybe_keeps (is_kind words Colon) ts n l)) (λ c ts l. got (maybe_keeps (is_kind words Dot) ts n l)))) stops

  clause_shortens : (s : Stage) (names : List W) → Shortens (clause words s names)
  clause_shortens s names ts n l =
      cond_at _ (bind_at (template_shortens s names ts n l) (λ t ts l. got l)) (cond_at _ (bind_at (lexical_rule_shortens s names ts n l) (λ d ts l. got l))
      (cond_at _ (parameter_shortens s ts n l) (bind_at (rule_shortens s ts n l) (λ r ts l. got l))))

  -- what is left of a clause is shorter
  pub clause_takes : (s : Stage) (names : List W) (t : T) (ts rest : List T) (c : Clause W) → clause words s names (t ∷ ts) ≡ Got c rest → length rest ≤ length ts
  clause_takes s names t ts rest c e = go (clause words s names (t ∷ ts)) e (clause_shortens s names (t ∷ ts) (length ts) (omega arith))
    where
      go : (p : Parse T W (List T) (Clause W)) → p ≡ Got c rest → AtMost length (length ts) p → length rest ≤ length ts
      go (Got d us) e h = let f : us ≡ rest = cc in omega (arith, h.left, ap length f)
      go (Stops r us) e h = cc

  pub clauses_done : (s : Stage) (n : ℕ) (names : List W) (ts rest : List T) (cs : List (Clause W)) → length ts ≤ n → clauses words s n names ts ≡ Got cs rest → rest ≡ []
  unfolding clauses
  clauses_done s n names [] rest cs h e = cc
  clauses_done s zero names (t ∷ ts) rest cs h e = absurd (omega (arith, h))
  clauses_done s (suc n) names (t ∷ ts) rest cs h e =
      let a = bind_got (clause words s names (t ∷ ts)) (λ c rest. clauses words s n (with_name c names) rest >>= λ cs rest. Got (c ∷ cs) rest) cs rest e in
      let b = bind_got (clauses words s n (with_name a.0 names) a.1) (λ cs rest. Got (a.0 ∷ cs) rest) cs rest a.3 in
      let c : Got (a.0 ∷ b.0) b.1 ≡ Got cs rest = b.3 in
      let f : b.1 ≡ rest = cc in
      let k = clause_takes s names t ts a.1 a.0 a.2 in
      sym f ∙ clauses_done s n (with_name a.0 names) a.1 b.1 b.0 (omega (arith, h, k)) b.2

pub clauses_end : ClausesEnd
clauses_end s names ts rest cs e = clauses_done by_text s (length ts) names ts rest cs (omega arith) e
