-- How what is read is spelled, by its parts: no lookahead, no count of steps, no order of tests.
--     IsPath, IsTerm, IsEquation          paths and equations
--     IsRuleSpelled, AreRulesSpelled      rules of symbols and equations
--     SpellsGrammar                       a whole text of such rules
--     AreFeaturesSpelled                  the features of an entry
--     entry_lines                         entries of a word and a category
-- The laws: what is read is spelled so, and what is spelled so is read.
use Rattle.std.specs.Prelude.{◌≡◌, ◌⊎◌, ◌↔◌, ℕ, suc, ◌≤◌, List, [], ◌∷◌, ◌++◌, map, length, Bool, true, false, None, Ok, IsUtf8, codes}
use Rattle.std.specs.List.{AllByRecursion, flat_map}
use Rattle.patr_model.specs.declared.lookahead.Kind.{Kind}
use Rattle.patr_model.specs.declared.lookahead.Kind.TheVariants.{Less, Greater, Equal, OpenBrace, CloseBrace, Colon, Dot, Arrow, Word}
use Rattle.patr_model.specs.declared.notation.Keyword.TheVariants as key
use Rattle.patr_model.specs.declared.notation.What.{What}
use Rattle.patr_model.specs.Grammar.{Row, Done}
use Rattle.patr_model.specs.Tokens.{Token, tokens_of, IsPlainWord}
use Rattle.patr_model.specs.Lexemes.{Words, by_text, is_kind, is_key, is_symbol}
use Rattle.patr_model.specs.Parsing as parsing
use Rattle.patr_model.specs.Parsing.{Got}
use Rattle.patr_model.specs.Stages.{Stage, with_equations}
use Rattle.patr_model.specs.Productions.{Single, row, PathText, TermText, AtomText, OfPath, EquationText, FeatureText, Equates, RuleText, Clause, RuleClause, Head, AmongSymbols, AnyAttribute, fits_head, headed, room, path, equation, symbol_of, clauses, Grammar}
use Rattle.patr_model.specs.GrammarText.{ReadsGrammar}
use Rattle.patr_model.specs.LexiconLines.{Piece}
use Rattle.patr_model.specs.LexiconText.{EntryText, Reads, piece_tokens, features_of, reading}

-- a token that passes the test, or none
abbrev pub IsMaybe : {T : Type 0} → (T → Bool) → List T → Type 0
IsMaybe {T = T} test ts = (ts ≡ []) ⊎ ((t : T) × (ts ≡ t ∷ []) × (test t ≡ true))

module _ {T W : Type 0} (words : Words T W) where
  -- the token is of this kind
  abbrev pub IsKind : Kind → T → Type 0
  IsKind k t = is_kind words k t ≡ true

  -- the token may stand as a symbol
  abbrev pub IsSymbol : T → Type 0
  IsSymbol t = is_symbol words t ≡ true

  -- the tokens are `<`, a first word, further words and `>`, and spell this path
  pub record IsPath (h : Head W) (ts : List T) (p : PathText W) : Type 0 where
    pub less : T
    pub first : T
    pub others : List T
    pub greater : T
    pub parts : ts ≡ less ∷ first ∷ others ++ greater ∷ []
    pub less_is : IsKind Less less
    pub first_is : IsKind Word first
    pub first_fits : fits_head words h first ≡ true
    pub others_are : AllByRecursion (IsKind Word) others
    pub few : length others ≤ room h
    pub greater_is : IsKind Greater greater
    pub value : p ≡ headed h (words.word first) (map words.word others)

  -- the tokens are a word, which is the atom, or spell the path
  abbrev pub IsTerm : Head W → List T → TermText W → Type 0
  IsTerm h ts (AtomText x) = (t : T) × (ts ≡ t ∷ []) × IsKind Word t × (x ≡ words.word t)
  IsTerm h ts (OfPath p) = IsPath h ts p

  -- the tokens are a path, `=`, and a path or a word, and spell this equation
  pub record IsEquation (h : Head W) (ts : List T) (e : EquationText W) : Type 0 where
    pub left : List T
    pub equal : T
    pub right : List T
    pub parts : ts ≡ left ++ equal ∷ right
    pub left_is : IsPath h left e.left
    pub equal_is : IsKind Equal equal
    pub right_is : IsTerm h right e.right

  -- the token is no brace
  abbrev pub IsNoBrace : T → Type 0
  IsNoBrace t = (is_kind words OpenBrace t ≡ false) × (is_kind words CloseBrace t ≡ false)

  -- the tokens are braces around others that are no braces, whose texts are the name
  pub record IsBracedName (ts : List T) (name : List W) : Type 0 where
    pub opening : T
    pub inner : List T
    pub closing : T
    pub parts : ts ≡ opening ∷ inner ++ closing ∷ []
    pub opening_is : IsKind OpenBrace opening
    pub inner_are : AllByRecursion IsNoBrace inner
    pub closing_is : IsKind CloseBrace closing
    pub value : name ≡ map words.word inner

  -- a name in braces, or no tokens and no name
  abbrev pub IsRuleName : List T → List W → Type 0
  IsRuleName ts name = ((ts ≡ []) × (name ≡ [])) ⊎ IsBracedName ts name

  -- the tokens are these equations, one behind another
  abbrev pub AreEquations : Head W → List T → List (EquationText W) → Type 0
  AreEquations h ts [] = ts ≡ []
  AreEquations h ts (e ∷ es) =
      (front rest : List T) × (ts ≡ front ++ rest) × IsEquation h front e × AreEquations h rest es

  -- the first word of each path of the rule is one of its symbols: any other is no constituent
  abbrev pub symbols_among : T → List T → Head W
  symbols_among mother right = AmongSymbols (map words.word (mother ∷ right))

  -- The tokens are the word `Rule`, maybe a name in braces, a symbol, an arrow, at most 32 symbols,
  -- maybe a colon, equations between constituents, and maybe a dot, and spell this rule.
  pub record IsRuleSpelled (ts : List T) (r : RuleText W) : Type 0 where
    pub first : T
    pub name : List T
    pub mother : T
    pub arrow : T
    pub right : List T
    pub colon : List T
    pub body : List T
    pub dot : List T
    pub equations : List (EquationText W)
    pub parts : ts ≡ first ∷ (name ++ mother ∷ arrow ∷ (right ++ (colon ++ (body ++ dot))))
    pub first_is : is_key words key.Rule first ≡ true
    pub name_is : IsRuleName name r.name
    pub mother_is : IsSymbol mother
    pub arrow_is : IsKind Arrow arrow
    pub right_are : AllByRecursion IsSymbol right
    pub few : length right ≤ 32
    pub colon_is : IsMaybe (is_kind words Colon) colon
    pub body_is : AreEquations (symbols_among mother right) body equations
    pub dot_is : IsMaybe (is_kind words Dot) dot
    pub value : r ≡ record {
      line = (words.place first).line;
      name = r.name;
      mother = symbol_of words mother;
      right = row (map (λ t. Single (symbol_of words t)) right);
      equations = row (map (λ e. Single e) equations);
    }

  -- the tokens are these rules, one behind another
  abbrev pub AreRulesSpelled : List T → List (RuleText W) → Type 0
  AreRulesSpelled ts [] = ts ≡ []
  AreRulesSpelled ts (r ∷ rs) = (front rest : List T) × (ts ≡ front ++ rest)
      × IsRuleSpelled front r × AreRulesSpelled rest rs

  -- The tokens are one rule at least, and spell the grammar that has these rules and starts at the
  -- first one's mother; its restrictor is the path of `cat`.
  abbrev pub IsGrammarSpelled : W → List T → Grammar W → Type 0
  IsGrammarSpelled cat ts g =
      (r : RuleText W) × (rs : List (RuleText W)) × AreRulesSpelled ts (r ∷ rs) × (g ≡ record {
        rules = r ∷ rs;
        templates = [];
        lexical_rules = [];
        start = r.mother.category;
        restrictor = (cat ∷ []) ∷ [];
        order = [];
      })

  -- the tokens are equations between paths of attributes, and spell these features
  abbrev pub AreFeaturesSpelled : List T → Row (FeatureText W) → Type 0
  AreFeaturesSpelled ts r = (es : List (EquationText W)) × AreEquations AnyAttribute ts es
      × (r ≡ row (map (λ e. Single (Equates e)) es))

-- the bytes are UTF-8, and their tokens spell this grammar
abbrev pub SpellsGrammar : List ℕ → Grammar (List ℕ) → Type 0
SpellsGrammar bytes g = IsUtf8 bytes × (ts : List Token) × (tokens_of bytes ≡ Ok ts)
    × IsGrammarSpelled by_text (codes "cat") ts g

-- ---- laws

-- what was taken from the front spells what was read
pub record Takes {T X : Type 0} (P : List T → X → Type 0) (ts : List T) (x : X) (rest : List T)
    : Type 0 where
  pub front : List T
  pub parts : ts ≡ front ++ rest
  pub spelled : P front x

-- what is read is spelled so
abbrev pub IsFound : {T W X : Type 0} → (List T → X → Type 0) → parsing.Reads T W X → Type 0
IsFound {T = T} {X = X} P f = (ts : List T) (x : X) (rest : List T)
    → f ts ≡ Got x rest → Takes P ts x rest

-- what is spelled so is read, whatever follows
abbrev pub IsOnly : {T W X : Type 0} → (List T → X → Type 0) → parsing.Reads T W X → Type 0
IsOnly {T = T} {X = X} P f = (front : List T) (x : X) (rest : List T)
    → P front x → f (front ++ rest) ≡ Got x rest

-- a list of clauses that is read leaves no tokens, at each stage
abbrev pub ClausesEnd : Type 0
ClausesEnd = (s : Stage) (names : List (List ℕ)) (ts rest : List Token) (cs : List (Clause (List ℕ)))
    → clauses by_text s (length ts) names ts ≡ Got cs rest → rest ≡ []

-- paths are read exactly as they are spelled
abbrev pub PathsAreSpelled : Type 0
PathsAreSpelled = (h : Head (List ℕ)) (expected : What)
    → IsFound (IsPath by_text h) (path by_text h expected)
    × IsOnly (IsPath by_text h) (path by_text h expected)

-- equations are read exactly as they are spelled
abbrev pub EquationsAreSpelled : Type 0
EquationsAreSpelled = (h : Head (List ℕ)) (expected : What)
    → IsFound (IsEquation by_text h) (equation by_text h expected)
    × IsOnly (IsEquation by_text h) (equation by_text h expected)

-- with equations, and no later form, tokens are read as rules exactly where they spell them
abbrev pub RulesAreSpelled : Type 0
RulesAreSpelled = (ts : List Token) (rs : List (RuleText (List ℕ)))
    → (clauses by_text with_equations (length ts) [] ts ≡ Got (map RuleClause rs) [])
    ↔ AreRulesSpelled by_text ts rs

-- so bytes stand for a grammar exactly where they are a text whose tokens spell it
abbrev pub GrammarsAreSpelled : Type 0
GrammarsAreSpelled = (bytes : List ℕ) (g : Grammar (List ℕ))
    → ReadsGrammar with_equations bytes g ↔ SpellsGrammar bytes g

-- and pieces of a lexicon's `\f` stand for features exactly where their tokens spell them
abbrev pub FeaturesAreSpelled : Type 0
FeaturesAreSpelled = (pieces : List Piece) (r : Row (FeatureText (List ℕ)))
    → (features_of with_equations pieces ≡ Ok r)
    ↔ AreFeaturesSpelled by_text (flat_map piece_tokens pieces) r

-- ---- entries of lexicons

-- a word and its category, which are plain words
pub record PlainEntry : Type 0 where
  pub word : List ℕ
  pub category : List ℕ
  pub word_is : IsPlainWord word
  pub category_is : IsPlainWord category

-- a line of `\`, this letter, a space and the text
abbrev pub field_line : ℕ → List ℕ → List ℕ
field_line letter text = 92 ∷ letter ∷ 32 ∷ (text ++ 10 ∷ [])

-- the lines of an entry: `\w` and the word, `\c` and the category
abbrev pub entry_lines : PlainEntry → List ℕ
entry_lines e = field_line 119 e.word ++ field_line 99 e.category

-- the entries, the first of which stands at this line, and each behind it two lines below
abbrev pub entries_from : ℕ → List PlainEntry → List EntryText
entries_from n [] = []
entries_from n (e ∷ es) =
    record { line = n; word = e.word; category = e.category; gloss = None; features = Done }
    ∷ entries_from (suc (suc n)) es

-- lines of words and their categories are read as these entries, at each stage
abbrev pub EntriesAreSpelled : Type 0
EntriesAreSpelled = (s : Stage) (es : List PlainEntry)
    → reading s (flat_map entry_lines es) ≡ Reads (entries_from 1 es)
