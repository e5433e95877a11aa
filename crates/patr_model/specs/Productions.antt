-- The notation of grammars, a definition for each production.
--     rule, template, lexical_rule, parameter     the clauses
--     grammar s cat ts                            what tokens stand for, as far as the stage s has its forms
use Rattle.std.specs.Prelude.{ℕ, zero, suc, ◌-◌, List, [], ◌∷◌, ◌++◌, length, map, Bool, true, false, cond, not, ◌&&◌, ◌||◌, nat_eq, Option, Some, None}
use Rattle.std.specs.List.{list_any}
use Rattle.patr_model.specs.declared.lookahead.Kind.TheVariants.{Less, Greater, Equal, OpenBrace, CloseBrace, OpenParen, CloseParen, Slash, Colon, Dot, Arrow, Word}
use Rattle.patr_model.specs.declared.notation.Keyword.TheVariants as key
use Rattle.patr_model.specs.declared.notation.What.{What}
use Rattle.patr_model.specs.declared.notation.What.TheVariants as what
use Rattle.patr_model.specs.Grammar.{Row, Rows, Done, One, OneOf, Optional, None', Or}
use Rattle.patr_model.specs.Tokens.{Place}
use Rattle.patr_model.specs.Lexemes.{Words, is_kind, is_key, is_clause_word, is_symbol, begins}
use Rattle.patr_model.specs.Parsing.{Refusal, Expected, NotAConstituent, TwiceNamed, PathTooLong, TooManySymbols, TooManyPaths, TooDeep, LaterForm, Parse, Got, Stops, ◌>>=◌, Reads, one, maybe, star, plus}
use Rattle.patr_model.specs.Stages.{Stage}

-- ---- what is read

-- one thing of a row: a single one, a choice among rows, or a choice that may be left out
pub data Item (X : Type 0) : Type 0 where
  Single : X → Item X
  Choice : Rows X → Item X
  Option' : Rows X → Item X

-- a thing in front of a row
abbrev pub in_front : {X : Type 0} → Item X → Row X → Row X
in_front (Single x) r = One x r
in_front (Choice rs) r = OneOf rs r
in_front (Option' rs) r = Optional rs r

-- things as a row
abbrev pub row : {X : Type 0} → List (Item X) → Row X
row [] = Done
row (x ∷ xs) = in_front x (row xs)

-- rows as the alternatives of a choice
abbrev pub rows : {X : Type 0} → List (Row X) → Rows X
rows [] = None'
rows (r ∷ rs) = Or r (rows rs)

-- a symbol and its category
pub record SymbolText (W : Type 0) : Type 0 where
  pub symbol : W
  pub category : W

-- a path: the constituent at which it begins, where it has one, and its attributes
pub record PathText (W : Type 0) : Type 0 where
  pub head : Option W
  pub attributes : List W

-- what an equation's left path equals: an atom, or another path
pub data TermText (W : Type 0) : Type 0 where
  AtomText : W → TermText W
  OfPath : PathText W → TermText W

-- a path equation as written
pub record EquationText (W : Type 0) : Type 0 where
  pub left : PathText W
  pub right : TermText W

-- a feature: an equation, or the name of a template or a lexical rule, with its place
pub data FeatureText (W : Type 0) : Type 0 where
  Equates : EquationText W → FeatureText W
  Names : W → Place → FeatureText W

-- a rule as written: its line, its name, its mother, its right side and its equations
pub record RuleText (W : Type 0) : Type 0 where
  pub line : ℕ
  pub name : List W
  pub mother : SymbolText W
  pub right : Row (SymbolText W)
  pub equations : Row (EquationText W)

-- a template: its line, its name, and the features that the name stands for
pub record Template (W : Type 0) : Type 0 where
  pub line : ℕ
  pub name : W
  pub body : Row (FeatureText W)

-- a lexical rule: its line, its name, and its equations between the values `in` and `out`
pub record LexicalRule (W : Type 0) : Type 0 where
  pub line : ℕ
  pub name : W
  pub equations : List (EquationText W)

-- a clause: a rule, a template, a lexical rule, or a parameter, which is the start symbol, the restrictor or the order of attributes
pub data Clause (W : Type 0) : Type 0 where
  RuleClause : RuleText W → Clause W
  LetClause : Template W → Clause W
  DefineClause : LexicalRule W → Clause W
  StartClause : W → Clause W
  RestrictorClause : List (List W) → Clause W
  OrderClause : List W → Clause W

-- Right sides count their symbols: what is left is the tokens, and how many symbols may still come.
pub record Left (T : Type 0) : Type 0 where
  pub symbols : ℕ
  pub tokens : List T

-- what the first word of a path has to be: a symbol among these, `in` or `out`, or any attribute
pub data Head (W : Type 0) : Type 0 where
  AmongSymbols : List W → Head W
  InOrOut : Head W
  AnyAttribute : Head W

-- what is expected as the first word of a path
abbrev pub first_word : {W : Type 0} → Head W → What
first_word (AmongSymbols xs) = what.Symbol
first_word InOrOut = what.Symbol
first_word AnyAttribute = what.Attribute

-- a path of a constituent, or of attributes alone
abbrev pub headed : {W : Type 0} → Head W → W → List W → PathText W
headed (AmongSymbols xs) w ws = record { head = Some w; attributes = ws }
headed InOrOut w ws = record { head = Some w; attributes = ws }
headed AnyAttribute w ws = record { head = None; attributes = w ∷ ws }

-- how many words may follow the first: a path has at most 32 attributes
abbrev pub room : {W : Type 0} → Head W → ℕ
room (AmongSymbols xs) = 32
room InOrOut = 32
room AnyAttribute = 31

-- the single things of a row, those of its choices too
abbrev mutual
  pub things : {X : Type 0} → Row X → List X
  things Done = []
  things (One x r) = x ∷ things r
  things (OneOf rs r) = things_of rs ++ things r
  things (Optional rs r) = things_of rs ++ things r

  -- the single things of a choice, one alternative after another
  pub things_of : {X : Type 0} → Rows X → List X
  things_of None' = []
  things_of (Or r rs) = things r ++ things_of rs

-- the symbols of a right side
abbrev pub symbols_of : {W : Type 0} → Row (SymbolText W) → List W
symbols_of r = map (λ x. x.symbol) (things r)

-- the names after a clause: those of templates and lexical rules
abbrev pub with_name : {W : Type 0} → Clause W → List W → List W
with_name (RuleClause r) names = names
with_name (LetClause t) names = t.name ∷ names
with_name (DefineClause d) names = d.name ∷ names
with_name (StartClause c) names = names
with_name (RestrictorClause ps) names = names
with_name (OrderClause ws) names = names

module _ {T W : Type 0} (words : Words T W) where
  -- ---- paths and equations

  -- the token is such a first word
  abbrev pub fits_head : Head W → T → Bool
  fits_head (AmongSymbols xs) t = not (is_clause_word words t) && list_any (words.same (words.word t)) xs
  fits_head InOrOut t = is_key words key.In t || is_key words key.Out t
  fits_head AnyAttribute t = true

  -- words as long as they follow: no more than so many may
  unfoldable pub word_list : ℕ → ℕ → Reads T W (List W)
  word_list left zero ts = Got [] ts
  word_list left (suc n) [] = Got [] []
  word_list zero (suc n) (t ∷ ts) = cond (is_kind words Word t) (Stops PathTooLong (t ∷ ts)) (Got [] (t ∷ ts))
  word_list (suc left) (suc n) (t ∷ ts) = cond (is_kind words Word t) (word_list left n ts >>= λ ws rest. Got (words.word t ∷ ws) rest) (Got [] (t ∷ ts))

  -- the words of a path behind the first, where no more than so many may follow
  abbrev pub attributes : ℕ → Reads T W (List W)
  attributes left ts = word_list left (length ts) ts

  -- the first word of a path
  abbrev pub head : Head W → Reads T W T
  head h ts = one (is_kind words Word) (first_word h) ts >>= λ w rest. cond (fits_head h w) (Got w rest) (Stops NotAConstituent ts)

  -- path = "<" Word+ ">"
  unfoldable pub path : Head W → What → Reads T W (PathText W)
  path h expected ts =
      one (is_kind words Less) expected ts >>= λ _ ts. head h ts >>= λ w ts. attributes (room h) ts >>= λ ws ts. one (is_kind words Greater) what.Greater ts >>= λ _ ts.
      Got (headed h (words.word w) ws) ts

  -- path | Word
  unfoldable pub term : Head W → Reads T W (TermText W)
  term h ts = cond (begins (is_kind words Less) ts) (path h what.PathOrAtom ts >>= λ p ts. Got (OfPath p) ts) (one (is_kind words Word) what.PathOrAtom ts >>= λ w ts. Got (AtomText (words.word w)) ts)

  -- equation = path "=" ( path | Word )
  unfoldable pub equation : Head W → What → Reads T W (EquationText W)
  equation h expected ts = path h expected ts >>= λ l ts. one (is_kind words Equal) what.Equal ts >>= λ _ ts. term h ts >>= λ r ts. Got (record { left = l; right = r }) ts

  -- ---- rows of a single thing and of choices in braces

  -- item+
  abbrev pub alternative : {X : Type 0} → (List T → Bool) → Reads T W (Item X) → Reads T W (Row X)
  alternative starts item ts = plus starts item ts >>= λ xs ts. Got (row xs) ts

  -- item+ ( "/" item+ )* and the closing token
  abbrev pub choices : {X : Type 0} → (List T → Bool) → Reads T W (Item X) → (T → Bool) → What → Reads T W (Rows X)
  choices starts item closes expected ts =
      alternative starts item ts >>= λ r ts. star (begins (is_kind words Slash)) (λ ts. one (is_kind words Slash) expected ts >>= λ _ ts. alternative starts item ts) ts >>= λ rs ts.
      one closes expected ts >>= λ _ ts. Got (rows (r ∷ rs)) ts

  -- item = single | "{" item+ ( "/" item+ )* "}", with so many levels left
  unfoldable pub braced : {X : Type 0} → ℕ → Bool → (List T → Bool) → Reads T W X → Reads T W (Item X)
  braced zero built starts single ts = cond (begins (is_kind words OpenBrace) ts) (Stops (cond built TooDeep LaterForm) ts) (single ts >>= λ x ts. Got (Single x) ts)
  braced (suc n) built starts single ts = cond (begins (is_kind words OpenBrace) ts)
      (cond built (one (is_kind words OpenBrace) what.Equation ts >>= λ _ ts. choices starts (braced n built starts single) (is_kind words CloseBrace) what.CloseBrace ts >>= λ rs ts. Got (Choice rs) ts) (Stops LaterForm ts))
      (single ts >>= λ x ts. Got (Single x) ts)

  -- ---- rules

  -- a rule item may begin here
  abbrev pub begins_ruleitem : List T → Bool
  begins_ruleitem ts = begins (is_kind words Less) ts || begins (is_kind words OpenBrace) ts

  -- an equation of a rule; before equations are built it is a later form
  abbrev pub rule_equation : Stage → Head W → Reads T W (EquationText W)
  rule_equation s h ts = cond (begins (is_kind words Less) ts && not s.equations) (Stops LaterForm ts) (equation h what.Equation ts)

  -- ruleitem*, where ruleitem = equation | "{" ruleitem+ ( "/" ruleitem+ )* "}", with 16 levels
  abbrev pub ruleitems : Stage → Head W → Reads T W (Row (EquationText W))
  ruleitems s h ts = star begins_ruleitem (braced 16 s.groups begins_ruleitem (rule_equation s h)) ts >>= λ xs ts. Got (row xs) ts

  -- the name of a rule: the tokens between braces, none of which is a brace
  unfoldable pub name_tokens : Reads T W (List W)
  name_tokens [] = Stops (Expected what.CloseBrace) []
  name_tokens (t ∷ ts) = cond (is_kind words CloseBrace t) (Got [] ts) (cond (is_kind words OpenBrace t) (Stops (Expected what.CloseBrace) (t ∷ ts)) (name_tokens ts >>= λ ws rest. Got (words.word t ∷ ws) rest))

  -- the name of a rule, in braces; empty where no brace stands there
  abbrev pub rule_name : Reads T W (List W)
  rule_name [] = Got [] []
  rule_name (t ∷ ts) = cond (is_kind words OpenBrace t) (name_tokens ts) (Got [] (t ∷ ts))

  -- the symbol that a token is, with its category
  abbrev pub symbol_of : T → SymbolText W
  symbol_of t = record { symbol = words.word t; category = words.category t }

  -- the first token that isn't `{` is `<`
  abbrev pub opens_equations : List T → Bool
  opens_equations [] = false
  opens_equations (t ∷ ts) = cond (is_kind words OpenBrace t) (opens_equations ts) (is_kind words Less t)

  -- an item of a right side may begin here, in a group
  abbrev pub begins_inner : List T → Bool
  begins_inner ts = begins (is_symbol words) ts || begins (is_kind words OpenParen) ts || begins (is_kind words OpenBrace) ts

  -- and outside groups
  abbrev pub begins_outer : List T → Bool
  begins_outer ts = begins (is_symbol words) ts || begins (is_kind words OpenParen) ts || (begins (is_kind words OpenBrace) ts && not (opens_equations ts))

  -- a production of a right side
  abbrev pub RightReads : Type 0 → Type 0
  RightReads X = Left T → Parse T W (Left T) X

  -- a production that has no symbols
  abbrev pub plain : {X : Type 0} → Reads T W X → RightReads X
  plain f s = f s.tokens >>= λ x ts. Got x (record { symbols = s.symbols; tokens = ts })

  -- things while one may begin, at most so many
  unfoldable pub many_right : {X : Type 0} → ℕ → (List T → Bool) → RightReads X → RightReads (List X)
  many_right zero starts item s = Got [] s
  many_right (suc n) starts item s = cond (starts s.tokens) (item s >>= λ x s. many_right n starts item s >>= λ xs s. Got (x ∷ xs) s) (Got [] s)

  -- any number of things of a right side
  abbrev pub star_right : {X : Type 0} → (List T → Bool) → RightReads X → RightReads (List X)
  star_right starts item s = many_right (length s.tokens) starts item s

  -- item+
  abbrev pub row_right : RightReads (Item (SymbolText W)) → RightReads (Row (SymbolText W))
  row_right item s = item s >>= λ x s. star_right begins_inner item s >>= λ xs s. Got (row (x ∷ xs)) s

  -- alts = item+ ( "/" item+ )*
  abbrev pub alts : RightReads (Item (SymbolText W)) → RightReads (Rows (SymbolText W))
  alts item s = row_right item s >>= λ r s. star_right (begins (is_kind words Slash)) (λ s. plain (one (is_kind words Slash) what.Symbol) s >>= λ _ s. row_right item s) s >>= λ rs s. Got (rows (r ∷ rs)) s

  -- one symbol of a right side, where one may still come
  abbrev pub symbol_item : RightReads (Item (SymbolText W))
  symbol_item s = one (is_symbol words) what.Symbol s.tokens >>= λ t ts. cond (nat_eq s.symbols 0) (Stops TooManySymbols s.tokens) (Got (Single (symbol_of t)) (record { symbols = s.symbols - 1; tokens = ts }))

  -- item = Symbol | "(" alts ")" | "{" alts "}", with so many levels left
  unfoldable pub item : Bool → ℕ → RightReads (Item (SymbolText W))
  item built zero s = cond (begins (is_kind words OpenParen) s.tokens || begins (is_kind words OpenBrace) s.tokens) (Stops (cond built TooDeep LaterForm) s.tokens) (symbol_item s)
  item built (suc n) s =
      cond (begins (is_kind words OpenParen) s.tokens)
      (cond built (plain (one (is_kind words OpenParen) what.Symbol) s >>= λ _ s. alts (item built n) s >>= λ rs s. plain (one (is_kind words CloseParen) what.CloseParen) s >>= λ _ s. Got (Option' rs) s) (Stops LaterForm s.tokens))
      (cond (begins (is_kind words OpenBrace) s.tokens)
      (cond built (plain (one (is_kind words OpenBrace) what.Symbol) s >>= λ _ s. alts (item built n) s >>= λ rs s. plain (one (is_kind words CloseBrace) what.CloseBrace) s >>= λ _ s. Got (Choice rs) s) (Stops LaterForm s.tokens))
      (symbol_item s))

  -- the items behind an arrow, with at most 32 symbols
  abbrev pub right_side : Stage → Reads T W (Row (SymbolText W))
  right_side s ts = star_right begins_outer (item s.groups 16) (record { symbols = 32; tokens = ts }) >>= λ xs s. Got (row xs) s.tokens

  -- rule = "Rule" ( "{" token* "}" )? Symbol "->" item* ":"? ruleitem* "."?
  unfoldable pub rule : Stage → Reads T W (RuleText W)
  rule s ts =
      one (is_key words key.Rule) what.Clause ts >>= λ t ts. rule_name ts >>= λ name ts. one (is_symbol words) what.Symbol ts >>= λ mother ts. one (is_kind words Arrow) what.Arrow ts >>= λ _ ts.
      right_side s ts >>= λ right ts. ruleitems s (AmongSymbols (words.word mother ∷ symbols_of right)) (maybe (is_kind words Colon) ts) >>= λ equations ts.
      Got (record { line = (words.place t).line; name = name; mother = symbol_of mother; right = right; equations = equations }) (maybe (is_kind words Dot) ts)

  -- ---- features

  -- a feature may begin here
  abbrev pub begins_feature : List T → Bool
  begins_feature ts = begins (is_kind words Less) ts || begins (is_symbol words) ts || begins (is_kind words OpenBrace) ts

  -- equation | Name
  abbrev pub single_feature : Stage → Reads T W (FeatureText W)
  single_feature s ts = cond (begins (is_kind words Less) ts) (equation AnyAttribute what.EquationOrName ts >>= λ e ts. Got (Equates e) ts)
      (one (is_symbol words) what.EquationOrName ts >>= λ t rest. cond s.groups (Got (Names (words.word t) (words.place t)) rest) (Stops LaterForm ts))

  -- feature = equation | Name | "{" feature+ ( "/" feature+ )* "}", with 16 levels
  abbrev pub feature : Stage → Reads T W (Item (FeatureText W))
  feature s ts = braced 16 s.groups begins_feature (single_feature s) ts

  -- features that end with the tokens
  unfoldable pub elements : Stage → Reads T W (Row (FeatureText W))
  elements s ts = star begins_feature (feature s) ts >>= λ xs rest. ended xs rest
    where
      ended : List (Item (FeatureText W)) → Reads T W (Row (FeatureText W))
      ended xs [] = Got (row xs) []
      ended xs (t ∷ ts) = Stops (Expected what.EquationOrName) (t ∷ ts)

  -- ---- templates and lexical rules

  -- a name that no template or lexical rule before it has
  abbrev pub fresh_name : List W → Reads T W T
  fresh_name names ts = one (is_symbol words) what.Name ts >>= λ t rest. cond (list_any (words.same (words.word t)) names) (Stops (TwiceNamed (words.word t)) ts) (Got t rest)

  -- let = "Let" Name "be" feature+ "."?
  unfoldable pub template : Stage → List W → Reads T W (Template W)
  template s names ts = cond s.groups
      (one (is_key words key.Let) what.Clause ts >>= λ t ts. fresh_name names ts >>= λ name ts. one (is_key words key.Be) what.Be ts >>= λ _ ts. plus begins_feature (feature s) ts >>= λ xs ts.
      Got (record { line = (words.place t).line; name = words.word name; body = row xs }) (maybe (is_kind words Dot) ts))
      (Stops LaterForm ts)

  -- define = "Define" Name "as" equation+ "."?
  unfoldable pub lexical_rule : Stage → List W → Reads T W (LexicalRule W)
  lexical_rule s names ts = cond s.lexical_rules
      (one (is_key words key.Define) what.Clause ts >>= λ t ts. fresh_name names ts >>= λ name ts. one (is_key words key.As) what.As ts >>= λ _ ts.
      plus (begins (is_kind words Less)) (equation InOrOut what.Equation) ts >>= λ es ts.
      Got (record { line = (words.place t).line; name = words.word name; equations = es }) (maybe (is_kind words Dot) ts))
      (Stops LaterForm ts)

  -- ---- parameters

  -- at most so many more paths
  unfoldable pub more_paths : ℕ → ℕ → Reads T W (List (List W))
  more_paths left zero ts = Got [] ts
  more_paths zero (suc n) ts = cond (begins (is_kind words Less) ts) (Stops TooManyPaths ts) (Got [] ts)
  more_paths (suc left) (suc n) ts = cond (begins (is_kind words Less) ts) (path AnyAttribute what.Path ts >>= λ p ts. more_paths left n ts >>= λ ps ts. Got (p.attributes ∷ ps) ts) (Got [] ts)

  -- the paths of a restrictor, 1 to 16
  abbrev pub paths : Reads T W (List (List W))
  paths ts = path AnyAttribute what.Path ts >>= λ p ts. more_paths 15 (length ts) ts >>= λ ps ts. Got (p.attributes ∷ ps) ts

  -- setting = "start" "symbol" "is" Symbol
  abbrev pub start_setting : Reads T W (Clause W)
  start_setting ts =
      one (is_key words key.Start) what.Parameter ts >>= λ _ ts. one (is_key words key.Symbol) what.SymbolWord ts >>= λ _ ts. one (is_key words key.Is) what.Is ts >>= λ _ ts.
      one (is_symbol words) what.Symbol ts >>= λ t ts. Got (StartClause (words.category t)) ts

  -- | "restrictor" "is" path+
  abbrev pub restrictor_setting : Reads T W (Clause W)
  restrictor_setting ts = one (is_key words key.Restrictor) what.Parameter ts >>= λ _ ts. one (is_key words key.Is) what.Is ts >>= λ _ ts. paths ts >>= λ ps ts. Got (RestrictorClause ps) ts

  -- | "attribute" "order" "is" Word+
  abbrev pub order_setting : Reads T W (Clause W)
  order_setting ts =
      one (is_key words key.Attribute) what.Parameter ts >>= λ _ ts. one (is_key words key.Order) what.OrderWord ts >>= λ _ ts. one (is_key words key.Is) what.Is ts >>= λ _ ts.
      plus (begins (is_symbol words)) (one (is_symbol words) what.Attribute) ts >>= λ ws ts. Got (OrderClause (map words.word ws)) ts

  -- a setting, by its first word
  abbrev pub setting : Reads T W (Clause W)
  setting ts = cond (begins (is_key words key.Start) ts) (start_setting ts) (cond (begins (is_key words key.Restrictor) ts) (restrictor_setting ts) (order_setting ts))

  -- parameter = "Parameter" ":"? setting "."?
  unfoldable pub parameter : Stage → Reads T W (Clause W)
  parameter s ts = cond s.parameters
      (one (is_key words key.Parameter) what.Clause ts >>= λ _ ts. setting (maybe (is_kind words Colon) ts) >>= λ c ts. Got c (maybe (is_kind words Dot) ts))
      (Stops LaterForm ts)

  -- ---- grammars

  -- clause = rule | let | define | parameter
  abbrev pub clause : Stage → List W → Reads T W (Clause W)
  clause s names ts =
      cond (begins (is_key words key.Let) ts) (template s names ts >>= λ t ts. Got (LetClause t) ts)
      (cond (begins (is_key words key.Define) ts) (lexical_rule s names ts >>= λ d ts. Got (DefineClause d) ts)
      (cond (begins (is_key words key.Parameter) ts) (parameter s ts) (rule s ts >>= λ r ts. Got (RuleClause r) ts)))

  -- clauses up to the end, at most so many
  unfoldable pub clauses : Stage → ℕ → List W → Reads T W (List (Clause W))
  clauses s n names [] = Got [] []
  clauses s zero names (t ∷ ts) = Got [] (t ∷ ts)
  clauses s (suc n) names (t ∷ ts) = clause s names (t ∷ ts) >>= λ c rest. clauses s n (with_name c names) rest >>= λ cs rest. Got (c ∷ cs) rest

-- ---- what clauses make

-- a grammar: its rules, templates and lexical rules, its start symbol, its restrictor, and the order of its attributes
pub record Grammar (W : Type 0) : Type 0 where
  pub rules : List (RuleText W)
  pub templates : List (Template W)
  pub lexical_rules : List (LexicalRule W)
  pub start : W
  pub restrictor : List (List W)
  pub order : List W

-- What clauses give: of parameters the last holds.
pub record Settings (W : Type 0) : Type 0 where
  pub rules : List (RuleText W)
  pub templates : List (Template W)
  pub lexical_rules : List (LexicalRule W)
  pub start : Option W
  pub restrictor : Option (List (List W))
  pub order : Option (List W)

-- what is there, or else this
abbrev pub or_else : {X : Type 0} → Option X → X → X
or_else None x = x
or_else (Some y) x = y

-- a clause in front of others
abbrev pub before : {W : Type 0} → Clause W → Settings W → Settings W
before (RuleClause r) g = record g { rules = r ∷ g.rules }
before (LetClause t) g = record g { templates = t ∷ g.templates }
before (DefineClause d) g = record g { lexical_rules = d ∷ g.lexical_rules }
before (StartClause c) g = record g { start = Some (or_else g.start c) }
before (RestrictorClause ps) g = record g { restrictor = Some (or_else g.restrictor ps) }
before (OrderClause ws) g = record g { order = Some (or_else g.order ws) }

-- all that clauses give, one after another
abbrev pub settings : {W : Type 0} → List (Clause W) → Settings W
settings [] = record { rules = []; templates = []; lexical_rules = []; start = None; restrictor = None; order = None }
settings (c ∷ cs) = before c (settings cs)

-- the grammar, where there is a rule: the first gives the start symbol where no clause does, and `cat` is the restrictor where none is given
abbrev pub with_rules : {W : Type 0} → W → Settings W → List (RuleText W) → Option (Grammar W)
with_rules cat g [] = None
with_rules cat g (r ∷ rs) = Some (record {
  rules = r ∷ rs;
  templates = g.templates;
  lexical_rules = g.lexical_rules;
  start = or_else g.start r.mother.category;
  restrictor = or_else g.restrictor ((cat ∷ []) ∷ []);
  order = or_else g.order [];
})

-- the grammar that clauses make up; none where no rule is among them
abbrev pub assembled : {W : Type 0} → W → List (Clause W) → Option (Grammar W)
assembled cat cs = with_rules cat (settings cs) (settings cs).rules

-- What tokens stand for: a grammar, or nothing, since there is no rule, or a token or the end is refused.
pub data Outcome (T W : Type 0) : Type 0 where
  Stands : Grammar W → Outcome T W
  NoRules : Outcome T W
  Refused : Refusal W → List T → Outcome T W

-- clauses that were read to their end stand for the grammar that they make up
abbrev pub concluded : {T W : Type 0} → Option (Grammar W) → Outcome T W
concluded None = NoRules
concluded (Some g) = Stands g

-- what tokens stand for, by the clauses that were read from them or the first refusal
abbrev pub outcome : {T W : Type 0} → W → Parse T W (List T) (List (Clause W)) → Outcome T W
outcome cat (Got cs rest) = concluded (assembled cat cs)
outcome cat (Stops r rest) = Refused r rest

-- what tokens stand for, `cat` being this word
abbrev pub grammar : {T W : Type 0} → Words T W → Stage → W → List T → Outcome T W
grammar words s cat ts = outcome cat (clauses words s (length ts) [] ts)
