-- The right sides and the names of rules are read exactly as they are spelled.
use Rattle.std.proofs.Common.{◌≡◌, inl, inr, ℕ, zero, suc, ◌+◌, ◌-◌, ◌≤◌, Bool, true, false, cond, not, ◌&&◌, ◌||◌, nat_eq, eqb-true, true≢false, List, [], ◌∷◌, ◌++◌, length, map, refl, sym, ap, ◌∙◌, subst, arith, append_assoc, length-append}
use Rattle.std.specs.List.{AllByRecursion}
use Rattle.std.proofs.lemmas.Bool.{and_parts, ne_eqb}
use Rattle.patr_model.specs.declared.lookahead.Kind.{Kind}
use Rattle.patr_model.specs.declared.lookahead.Kind.TheVariants.{OpenBrace, CloseBrace, OpenParen, Word}
use Rattle.patr_model.specs.declared.notation.Keyword.{Keyword}
use Rattle.patr_model.specs.declared.notation.Keyword.TheVariants as key
use Rattle.patr_model.specs.declared.notation.What.TheVariants as what
use Rattle.patr_model.specs.Grammar.{Row}
use Rattle.patr_model.specs.Lexemes.{Words, kind_number, key_number, is_kind, is_key, is_clause_word, is_symbol, begins}
use Rattle.patr_model.specs.Parsing.{Expected, TooManySymbols, LaterForm, Parse, Got, Stops, ◌>>=◌, Reads, one, maybe, many}
use Rattle.patr_model.specs.Stages.{with_equations}
use Rattle.patr_model.specs.Productions.{Item, Single, row, SymbolText, Left, name_tokens, rule_name, symbol_of, opens_equations, begins_outer, many_right, star_right, symbol_item, item, right_side}
use Rattle.patr_laws.specs.Spelling.{IsMaybe, IsKind, IsSymbol, IsNoBrace, IsRuleName, Takes}
use Rattle.patr_laws.proofs.Readings.{bind_got}
use Rattle.patr_laws.proofs.Spelled.{got_value, got_rest, one_got, one_again}

-- ---- lists

-- the first thing, where there is one, is such
abbrev pub First : {T : Type 0} → (T → Type 0) → List T → Type 0
First P [] = Unit {0}
First P (t ∷ ts) = P t

pub begins_none : {T : Type 0} (P : T → Type 0) (test : T → Bool) → ((t : T) → P t → test t ≡ false) → (ts : List T) → First P ts → begins test ts ≡ false
begins_none P test none [] h = refl
begins_none P test none (t ∷ ts) h = none t h

pub first_weaker : {T : Type 0} (P Q : T → Type 0) → ((t : T) → P t → Q t) → (ts : List T) → First P ts → First Q ts
first_weaker P Q k [] h = tt
first_weaker P Q k (t ∷ ts) h = k t h

-- what `maybe` takes is a token that passes the test, or none
pub maybe_found : {T : Type 0} (test : T → Bool) (ts : List T) → (front : List T) × (ts ≡ front ++ maybe test ts) × IsMaybe test front
maybe_found test [] = ([], refl, inl refl)
maybe_found {T = T} test (t ∷ ts) = go (test t) refl
  where
    go : (b : Bool) → test t ≡ b → (front : List T) × (t ∷ ts ≡ front ++ cond b ts (t ∷ ts)) × IsMaybe test front
    go true e = (t ∷ [], refl, inr (t, refl, e))
    go false e = ([], refl, inl refl)

maybe_none : {T : Type 0} (test : T → Bool) (ts : List T) → begins test ts ≡ false → maybe test ts ≡ ts
maybe_none test [] h = refl
maybe_none test (t ∷ ts) h = ap (λ b. cond b ts (t ∷ ts)) h

pub maybe_again : {T : Type 0} (test : T → Bool) (front ts : List T) → IsMaybe test front → begins test ts ≡ false → maybe test (front ++ ts) ≡ ts
maybe_again test front ts (inl e) h = ap (λ u. maybe test (u ++ ts)) e ∙ maybe_none test ts h
maybe_again test front ts (inr m) h = ap (λ u. maybe test (u ++ ts)) m.1 ∙ ap (λ b. cond b ts (m.0 ∷ ts)) m.2

pub maybe_first : {T : Type 0} (P : T → Type 0) (test : T → Bool) (front ts : List T) → IsMaybe test front → ((t : T) → test t ≡ true → P t) → First P ts → First P (front ++ ts)
maybe_first P test front ts (inl e) k h = subst (λ u. First P (u ++ ts)) (sym e) h
maybe_first P test front ts (inr m) k h = subst (λ u. First P (u ++ ts)) (sym m.1) (k m.0 m.2)

pub many_none : {T W X : Type 0} (n : ℕ) (starts : List T → Bool) (f : Reads T W X) (ts : List T) → starts ts ≡ false → many n starts f ts ≡ Got [] ts
unfolding many
many_none zero starts f ts h = refl
many_none (suc n) starts f ts h = ap (λ b. cond b (f ts >>= λ x rest. many n starts f rest >>= λ xs rest'. Got (x ∷ xs) rest') (Got [] ts)) h

module _ {T W : Type 0} (words : Words T W) where
  -- ---- kinds and words of the notation

  pub other_kind : (a b : Kind) (t : T) → IsKind words a t → nat_eq (kind_number a) (kind_number b) ≡ false → is_kind words b t ≡ false
  other_kind a b t h e = ap (λ n. nat_eq n (kind_number b)) (eqb-true (kind_number (words.kind t)) (kind_number a) h) ∙ e

  pub is_word : (k : Keyword) (t : T) → is_key words k t ≡ true → IsKind words Word t
  is_word k t h = (and_parts (is_kind words Word t) (nat_eq (key_number (words.key t)) (key_number k)) h).0

  pub other_key : (a b : Keyword) (t : T) → is_key words a t ≡ true → nat_eq (key_number a) (key_number b) ≡ false → is_key words b t ≡ false
  other_key a b t h e =
      let p = and_parts (is_kind words Word t) (nat_eq (key_number (words.key t)) (key_number a)) h in
      ap (λ c. c && nat_eq (key_number (words.key t)) (key_number b)) p.0 ∙ (ap (λ n. nat_eq n (key_number b)) (eqb-true (key_number (words.key t)) (key_number a) p.1) ∙ e)

  pub symbol_word : (t : T) → IsSymbol words t → IsKind words Word t
  symbol_word t h = (and_parts (is_kind words Word t) _ h).0

  pub no_symbol : (k : Kind) (t : T) → IsKind words k t → nat_eq (kind_number k) (kind_number Word) ≡ false → is_symbol words t ≡ false
  no_symbol k t h e = ap (λ b. b && not (is_clause_word words t)) (other_kind k Word t h e)

  pub rule_no_symbol : (t : T) → is_key words key.Rule t ≡ true → is_symbol words t ≡ false
  rule_no_symbol t h =
      ap (λ b. is_kind words Word t && not (b || is_key words key.Let t || is_key words key.Define t || is_key words key.Parameter t)) h ∙ ap (λ b. b && false) (is_word key.Rule t h)

  -- ---- right sides

  -- one symbol was taken
  record TakesSymbol (s : Left T) (x : Item (SymbolText W)) (s' : Left T) : Type 0 where
    token : T
    tokens : s.tokens ≡ token ∷ s'.tokens
    is : IsSymbol words token
    value : x ≡ Single (symbol_of words token)
    symbols : suc s'.symbols ≡ s.symbols

  symbol_got : (s : Left T) (x : Item (SymbolText W)) (s' : Left T) → symbol_item words s ≡ Got x s' → TakesSymbol s x s'
  symbol_got s x s' e =
      let a = bind_got (one (is_symbol words) what.Symbol s.tokens) (λ t ts. made t ts (nat_eq s.symbols 0)) x s' e in
      let o = one_got {W = W} (is_symbol words) what.Symbol s.tokens a.0 a.1 a.2 in
      go a.0 a.1 (nat_eq s.symbols 0) s.symbols refl refl a.3 o.0 o.1
    where
      made : T → List T → Bool → Parse T W (Left T) (Item (SymbolText W))
      made t ts full = cond full (Stops TooManySymbols s.tokens) (Got (Single (symbol_of words t)) (record { symbols = s.symbols - 1; tokens = ts }))

      go : (t : T) (ts : List T) (b : Bool) (n : ℕ) → s.symbols ≡ n → nat_eq s.symbols 0 ≡ b → made t ts b ≡ Got x s' → s.tokens ≡ t ∷ ts → IsSymbol words t → TakesSymbol s x s'
      go t ts true n m q f p h = absurd cc
      go t ts false zero m q f p h = absurd (true≢false (sym (ap (λ k. nat_eq k 0) m) ∙ q))
      go t ts false (suc n) m q f p h =
          let left : Left T = record { symbols = s.symbols - 1; tokens = ts } in
          let same : left ≡ s' = got_rest (Single (symbol_of words t)) x left s' f in
          record {
            token = t;
            tokens = p ∙ ap (λ (z : Left T). t ∷ z.tokens) same;
            is = h;
            value = sym (got_value (Single (symbol_of words t)) x left s' f);
            symbols = let k = ap (λ (z : Left T). z.symbols) same in omega (arith, k, m);
          }

  symbol_again : (m : ℕ) (t : T) (ts : List T) → IsSymbol words t → symbol_item words (record { symbols = suc m; tokens = t ∷ ts }) ≡ Got (Single (symbol_of words t)) (record { symbols = m; tokens = ts })
  symbol_again m t ts h =
      let same : suc m - 1 ≡ m = omega arith in
      ap (λ (p : Parse T W (List T) T). p >>= λ u us. cond (nat_eq (suc m) 0) (Stops TooManySymbols (t ∷ ts)) (Got (Single (symbol_of words u)) (record { symbols = suc m - 1; tokens = us }))) (one_again (is_symbol words) what.Symbol t ts h)
      ∙ (ap (λ b. cond b (Stops TooManySymbols (t ∷ ts)) (Got (Single (symbol_of words t)) (record { symbols = suc m - 1; tokens = ts }))) (ne_eqb (suc m) 0 (λ e. omega (arith, e)))
      ∙ ap (λ i. Got (Single (symbol_of words t)) (record { symbols = i; tokens = ts })) same)

  -- before groups are built, an item is a symbol
  item_got : (n : ℕ) (s : Left T) (x : Item (SymbolText W)) (s' : Left T) → item words false n s ≡ Got x s' → TakesSymbol s x s'
  unfolding item
  item_got zero s x s' e = go (begins (is_kind words OpenParen) s.tokens || begins (is_kind words OpenBrace) s.tokens) e
    where
      go : (b : Bool) → cond b (Stops LaterForm s.tokens) (symbol_item words s) ≡ Got x s' → TakesSymbol s x s'
      go true f = absurd cc
      go false f = symbol_got s x s' f
  item_got (suc n) s x s' e = go (begins (is_kind words OpenParen) s.tokens) (begins (is_kind words OpenBrace) s.tokens) e
    where
      go : (p b : Bool) → cond p (Stops LaterForm s.tokens) (cond b (Stops LaterForm s.tokens) (symbol_item words s)) ≡ Got x s' → TakesSymbol s x s'
      go true b f = absurd cc
      go false true f = absurd cc
      go false false f = symbol_got s x s' f

  item_again : (n m : ℕ) (t : T) (ts : List T) → IsSymbol words t → item words false n (record { symbols = suc m; tokens = t ∷ ts }) ≡ Got (Single (symbol_of words t)) (record { symbols = m; tokens = ts })
  unfolding item
  item_again zero m t ts h =
      ap (λ b. cond (b || is_kind words OpenBrace t) (Stops LaterForm (t ∷ ts)) (symbol_item words (record { symbols = suc m; tokens = t ∷ ts }))) (other_kind Word OpenParen t (symbol_word t h) refl)
      ∙ (ap (λ b. cond b (Stops LaterForm (t ∷ ts)) (symbol_item words (record { symbols = suc m; tokens = t ∷ ts }))) (other_kind Word OpenBrace t (symbol_word t h) refl) ∙ symbol_again m t ts h)
  item_again (suc n) m t ts h =
      ap (λ b. cond b (Stops LaterForm (t ∷ ts)) (cond (is_kind words OpenBrace t) (Stops LaterForm (t ∷ ts)) (symbol_item words (record { symbols = suc m; tokens = t ∷ ts })))) (other_kind Word OpenParen t (symbol_word t h) refl)
      ∙ (ap (λ b. cond b (Stops LaterForm (t ∷ ts)) (symbol_item words (record { symbols = suc m; tokens = t ∷ ts }))) (other_kind Word OpenBrace t (symbol_word t h) refl) ∙ symbol_again m t ts h)

  -- symbols were taken
  record TakesSymbols (s : Left T) (xs : List (Item (SymbolText W))) (s' : Left T) : Type 0 where
    front : List T
    tokens : s.tokens ≡ front ++ s'.tokens
    are : AllByRecursion (IsSymbol words) front
    value : xs ≡ map (λ t. Single (symbol_of words t)) front
    few : length front ≤ s.symbols

  no_symbols : (s : Left T) (xs : List (Item (SymbolText W))) (s' : Left T) → ◌≡◌ {A = Parse T W (Left T) (List (Item (SymbolText W)))} (Got [] s) (Got xs s') → TakesSymbols s xs s'
  no_symbols s xs s' e = record { front = []; tokens = ap (λ (z : Left T). z.tokens) (got_rest [] xs s s' e); are = tt; value = sym (got_value [] xs s s' e); few = omega arith }

  many_symbols_found : (k n : ℕ) (s : Left T) (xs : List (Item (SymbolText W))) (s' : Left T) → many_right words n (begins_outer words) (item words false k) s ≡ Got xs s' → TakesSymbols s xs s'
  unfolding many_right
  many_symbols_found k zero s xs s' e = no_symbols s xs s' e
  many_symbols_found k (suc n) s xs s' e = go (begins_outer words s.tokens) e (many_symbols_found k n)
    where
      go : (b : Bool) → cond b (item words false k s >>= λ x s. many_right words n (begins_outer words) (item words false k) s >>= λ xs s. Got (x ∷ xs) s) (Got [] s) ≡ Got xs s'
          → ((s : Left T) (xs : List (Item (SymbolText W))) (s' : Left T) → many_right words n (begins_outer words) (item words false k) s ≡ Got xs s' → TakesSymbols s xs s') → TakesSymbols s xs s'
      go false f more = no_symbols s xs s' f
      go true f more =
          let a = bind_got (item words false k s) (λ x s. many_right words n (begins_outer words) (item words false k) s >>= λ xs s. Got (x ∷ xs) s) xs s' f in
          let b = bind_got (many_right words n (begins_outer words) (item words false k) a.1) (λ xs s. Got (a.0 ∷ xs) s) xs s' a.3 in
          let x = item_got k s a.0 a.1 a.2 in
          let m = more a.1 b.0 b.1 b.2 in
          record {
            front = x.token ∷ m.front;
            tokens = x.tokens ∙ ap (λ u. x.token ∷ u) (m.tokens ∙ ap (λ (z : Left T). m.front ++ z.tokens) (got_rest (a.0 ∷ b.0) xs b.1 s' b.3));
            are = (x.is, m.are);
            value = sym (got_value (a.0 ∷ b.0) xs b.1 s' b.3) ∙ (ap (λ y. y ∷ b.0) x.value ∙ ap (λ ys. Single (symbol_of words x.token) ∷ ys) m.value);
            few = omega (arith, m.few, x.symbols);
          }

  many_symbols_again : (k : ℕ) (ts : List T) (m left n : ℕ) (rest : List T) → AllByRecursion (IsSymbol words) ts → m ≡ length ts + left → length ts ≤ n → begins_outer words rest ≡ false
      → many_right words n (begins_outer words) (item words false k) (record { symbols = m; tokens = ts ++ rest }) ≡ Got (map (λ t. Single (symbol_of words t)) ts) (record { symbols = left; tokens = rest })
  unfolding many_right
  many_symbols_again k [] m left zero rest a e enough stops = let f : m ≡ left = omega (arith, e) in ap (λ i. Got [] (record { symbols = i; tokens = rest })) f
  many_symbols_again k [] m left (suc n) rest a e enough stops =
      let f : m ≡ left = omega (arith, e) in
      let from : Left T = record { symbols = m; tokens = rest } in
      ap (λ b. cond b (item words false k from >>= λ x s. many_right words n (begins_outer words) (item words false k) s >>= λ xs s. Got (x ∷ xs) s) (Got [] from)) stops ∙ ap (λ i. Got [] (record { symbols = i; tokens = rest })) f
  many_symbols_again k (t ∷ ts) zero left n rest a e enough stops = absurd (omega (arith, e))
  many_symbols_again k (t ∷ ts) (suc m) left zero rest a e enough stops = absurd (omega (arith, enough))
  many_symbols_again k (t ∷ ts) (suc m) left (suc n) rest a e enough stops =
      let from : Left T = record { symbols = suc m; tokens = t ∷ ts ++ rest } in
      let more = λ (x : Item (SymbolText W)) (s : Left T). many_right words n (begins_outer words) (item words false k) s >>= λ xs s. Got (x ∷ xs) s in
      ap (λ b. cond (b || begins (is_kind words OpenParen) (t ∷ ts ++ rest) || (begins (is_kind words OpenBrace) (t ∷ ts ++ rest) && not (opens_equations words (t ∷ ts ++ rest)))) (item words false k from >>= more) (Got [] from)) a.0
      ∙ (ap (λ (p : Parse T W (Left T) (Item (SymbolText W))). p >>= more) (item_again k m t (ts ++ rest) a.0)
      ∙ ap (λ (p : Parse T W (Left T) (List (Item (SymbolText W)))). p >>= λ xs s. Got (Single (symbol_of words t) ∷ xs) s) (many_symbols_again k ts m left n rest a.1 (omega (arith, e)) (omega (arith, enough)) stops))

  -- the symbols of a right side
  pub record AreSymbols (ts : List T) (r : Row (SymbolText W)) (rest : List T) : Type 0 where
    pub front : List T
    pub tokens : ts ≡ front ++ rest
    pub are : AllByRecursion (IsSymbol words) front
    pub value : r ≡ row (map (λ t. Single (symbol_of words t)) front)
    pub few : length front ≤ 32

  pub right_found : (ts : List T) (r : Row (SymbolText W)) (rest : List T) → right_side words with_equations ts ≡ Got r rest → AreSymbols ts r rest
  right_found ts r rest e =
      let from : Left T = record { symbols = 32; tokens = ts } in
      let a = bind_got (star_right words (begins_outer words) (item words false 16) from) (λ xs s. Got (row xs) s.tokens) r rest e in
      let m = many_symbols_found 16 (length ts) from a.0 a.1 a.2 in
      record {
        front = m.front;
        tokens = m.tokens ∙ ap (λ u. m.front ++ u) (got_rest (row a.0) r (a.1).tokens rest a.3);
        are = m.are;
        value = sym (got_value (row a.0) r (a.1).tokens rest a.3) ∙ ap row m.value;
        few = m.few;
      }

  pub right_again : (ts rest : List T) → AllByRecursion (IsSymbol words) ts → length ts ≤ 32 → begins_outer words rest ≡ false → right_side words with_equations (ts ++ rest) ≡ Got (row (map (λ t. Single (symbol_of words t)) ts)) rest
  right_again ts rest a few stops =
      ap (λ (p : Parse T W (Left T) (List (Item (SymbolText W)))). p >>= λ xs s. Got (row xs) s.tokens)
      (many_symbols_again 16 ts 32 (32 - length ts) (length (ts ++ rest)) rest a (omega (arith, few)) (omega (arith, length-append ts rest)) stops)

  -- ---- names

  record IsInner (ts : List T) (name : List W) (rest : List T) : Type 0 where
    inner : List T
    closing : T
    tokens : ts ≡ inner ++ closing ∷ rest
    are : AllByRecursion (IsNoBrace words) inner
    closing_is : IsKind words CloseBrace closing
    value : name ≡ map words.word inner

  inner_found : (ts : List T) (name : List W) (rest : List T) → name_tokens words ts ≡ Got name rest → IsInner ts name rest
  unfolding name_tokens
  inner_found [] name rest e = absurd cc
  inner_found (t ∷ ts) name rest e = go (is_kind words CloseBrace t) (is_kind words OpenBrace t) refl refl e (inner_found ts)
    where
      go : (c o : Bool) → is_kind words CloseBrace t ≡ c → is_kind words OpenBrace t ≡ o
          → cond c (Got [] ts) (cond o (Stops (Expected what.CloseBrace) (t ∷ ts)) (name_tokens words ts >>= λ ws rest. Got (words.word t ∷ ws) rest)) ≡ Got name rest
          → ((name : List W) (rest : List T) → name_tokens words ts ≡ Got name rest → IsInner ts name rest) → IsInner (t ∷ ts) name rest
      go true o p q f more = record { inner = []; closing = t; tokens = ap (λ u. t ∷ u) (got_rest [] name ts rest f); are = tt; closing_is = p; value = sym (got_value [] name ts rest f) }
      go false true p q f more = absurd cc
      go false false p q f more =
          let a = bind_got (name_tokens words ts) (λ ws rest. Got (words.word t ∷ ws) rest) name rest f in
          let m = more a.0 a.1 a.2 in
          record {
            inner = t ∷ m.inner;
            closing = m.closing;
            tokens = ap (λ u. t ∷ u) (m.tokens ∙ ap (λ u. m.inner ++ m.closing ∷ u) (got_rest (words.word t ∷ a.0) name a.1 rest a.3));
            are = ((q, p), m.are);
            closing_is = m.closing_is;
            value = sym (got_value (words.word t ∷ a.0) name a.1 rest a.3) ∙ ap (λ ws. words.word t ∷ ws) m.value;
          }

  inner_again : (inner : List T) (closing : T) (rest : List T) → AllByRecursion (IsNoBrace words) inner → IsKind words CloseBrace closing → name_tokens words (inner ++ closing ∷ rest) ≡ Got (map words.word inner) rest
  unfolding name_tokens
  inner_again [] closing rest a h = ap (λ b. cond b (Got [] rest) (cond (is_kind words OpenBrace closing) (Stops (Expected what.CloseBrace) (closing ∷ rest)) (name_tokens words rest >>= λ ws rest. Got (words.word closing ∷ ws) rest))) h
  inner_again (t ∷ ts) closing rest a h =
      let us = ts ++ closing ∷ rest in
      ap (λ b. cond b (Got [] us) (cond (is_kind words OpenBrace t) (Stops (Expected what.CloseBrace) (t ∷ us)) (name_tokens words us >>= λ ws rest. Got (words.word t ∷ ws) rest))) (a.0).1
      ∙ (ap (λ b. cond b (Stops (Expected what.CloseBrace) (t ∷ us)) (name_tokens words us >>= λ ws rest. Got (words.word t ∷ ws) rest)) (a.0).0
      ∙ ap (λ (p : Parse T W (List T) (List W)). p >>= λ ws rest. Got (words.word t ∷ ws) rest) (inner_again ts closing rest a.1 h))

  pub name_found : (ts : List T) (name : List W) (rest : List T) → rule_name words ts ≡ Got name rest → Takes (IsRuleName words) ts name rest
  name_found [] name rest e = record { front = []; parts = got_rest [] name [] rest e; spelled = inl (refl, sym (got_value [] name [] rest e)) }
  name_found (t ∷ ts) name rest e = go (is_kind words OpenBrace t) refl e
    where
      go : (b : Bool) → is_kind words OpenBrace t ≡ b → cond b (name_tokens words ts) (Got [] (t ∷ ts)) ≡ Got name rest → Takes (IsRuleName words) (t ∷ ts) name rest
      go false q f = record { front = []; parts = got_rest [] name (t ∷ ts) rest f; spelled = inl (refl, sym (got_value [] name (t ∷ ts) rest f)) }
      go true q f =
          let m = inner_found ts name rest f in
          record {
            front = t ∷ m.inner ++ m.closing ∷ [];
            parts = ap (λ u. t ∷ u) (m.tokens ∙ sym (append_assoc m.inner (m.closing ∷ []) rest));
            spelled = inr (record { opening = t; inner = m.inner; closing = m.closing; parts = refl; opening_is = q; inner_are = m.are; closing_is = m.closing_is; value = m.value });
          }

  pub name_again : (ts : List T) (name : List W) (t : T) (rest : List T) → IsRuleName words ts name → is_kind words OpenBrace t ≡ false → rule_name words (ts ++ t ∷ rest) ≡ Got name (t ∷ rest)
  name_again ts name t rest (inl e) h =
      ap (λ u. rule_name words (u ++ t ∷ rest)) e.0 ∙ (ap (λ b. cond b (name_tokens words rest) (Got [] (t ∷ rest))) h ∙ ap (λ ws. Got ws (t ∷ rest)) (sym e.1))
  name_again ts name t rest (inr n) h =
      ap (λ u. rule_name words (u ++ t ∷ rest)) n.parts
      ∙ (ap (λ u. rule_name words (n.opening ∷ u)) (append_assoc n.inner (n.closing ∷ []) (t ∷ rest))
      ∙ (ap (λ b. cond b (name_tokens words (n.inner ++ n.closing ∷ t ∷ rest)) (Got [] (n.opening ∷ n.inner ++ n.closing ∷ t ∷ rest))) n.opening_is
      ∙ (inner_again n.inner n.closing (t ∷ rest) n.inner_are n.closing_is ∙ ap (λ ws. Got ws (t ∷ rest)) (sym n.value))))
