-- What the reader passes on, as the definitions see it.
use Rattle.std.specs.Prelude.{◌≡◌, ℕ, zero, suc, ◌+◌, ◌-◌, ◌<◌, ◌≤◌, List, [], ◌∷◌, ◌++◌, length, map, Bool, true, false, nat_eq, None, Result, Ok, Err}
use Rattle.std.specs.List.{list_any}
use Rattle.std.specs.HashSet.{HashSet, contains}
use Rattle.std.specs.declared.vec.Vec.{Vec}
use Rattle.std.specs.declared.alloc.Global.{Global}
use Rattle.patr_model.specs.declared.lookahead.Kind.{Kind}
use Rattle.patr_model.specs.declared.notation.What.{What}
use Rattle.patr_model.specs.declared.notation.What.TheVariants as what
use Rattle.patr_model.specs.Grammar.{Row, Rows}
use Rattle.patr_model.specs.Tokens.{Place, Token}
use Rattle.patr_model.specs.Lexemes.{Words, is_kind, key_of, without_index}
use Rattle.patr_model.specs.Parsing as parsing
use Rattle.patr_model.specs.Parsing.{Parse, Got, Stops, ◌>>=◌, one}
use Rattle.patr_model.specs.Productions as production
use Rattle.patr_model.specs.Productions.{Item, Single, SymbolText, EquationText, FeatureText, Left, Clause, Settings, Outcome, Stands, Refused, RightReads, row, rows, things_of, symbols_of, with_name, plain, begins_inner, begins_outer, item, alts, begins_ruleitem, rule_equation, begins_feature, single_feature, braced, clause, clauses, settings, grammar}
use Rattle.patr_model.specs.Built.{stage}
use Rattle.patr_text.specs.declared.fault.Fault as fault
use Rattle.patr_text.specs.declared.fault.Fault.TheVariants as faulty
use Rattle.patr_text.specs.declared.symbols.Id.{Id}
use Rattle.patr_text.specs.declared.token.Token as code
use Rattle.patr_text.specs.Tokens.{IsCut}
use Rattle.patr_grammar.specs.declared.place.Place as code_place
use Rattle.patr_grammar.specs.declared.lexeme.Lexeme.{Lexeme}
use Rattle.patr_grammar.specs.declared.grammar.Item as code_item
use Rattle.patr_grammar.specs.declared.grammar.Element.{Element}
use Rattle.patr_grammar.specs.declared.grammar.RuleText.{RuleText}
use Rattle.patr_grammar.specs.declared.grammar.Template.{Template}
use Rattle.patr_grammar.specs.declared.grammar.Grammar.{Grammar}
use Rattle.patr_grammar.specs.declared.grammar.GrammarCause.{GrammarCause}
use Rattle.patr_grammar.specs.declared.grammar.GrammarCause.TheVariants as cause
use Rattle.patr_grammar.specs.declared.clauses.Clauses.{Clauses}
use Rattle.patr_grammar.specs.declared.reader.Refusal.{Refusal}
use Rattle.patr_grammar.specs.declared.reader.Refusal.TheVariants.{Expected, NotAConstituent, TwiceNamed, PathTooLong, TooManySymbols, TooDeep, LaterForm}
use Rattle.patr_grammar.specs.declared.head.Head as code_head
use Rattle.patr_grammar.specs.declared.head.Head.TheVariants as heads
use Rattle.patr_grammar.specs.Defaults.{cat_number}
use Rattle.patr_grammar.specs.Reading.{IsText, item_seen, element_seen, feature_seen, features_seen, rule_seen, template_seen, grammar_seen}

-- ---- tokens

-- a place of the code
abbrev pub place_seen : code_place.Place → Place
place_seen p = record { line = p.line; column = p.column }

-- a token that has bytes, and whose slice of the text is text
pub record IsSpelled (text : List ℕ) (t : code.Token) : Type 0 where
  pub some : t.start < t.end
  pub cut : IsCut text t

-- how many bytes tokens have
abbrev pub bytes_of : List code.Token → ℕ
bytes_of [] = 0
bytes_of (t ∷ ts) = (t.end - t.start) + bytes_of ts

-- how lexemes are read: by the numbers of their texts
abbrev pub by_id : Words Lexeme Id
by_id = record {
  kind = λ t. t.kind;
  key = λ t. t.key;
  word = λ t. t.word;
  category = λ t. t.category;
  place = λ t. record { line = t.line; column = t.column };
  same = λ a b. nat_eq a.0 b.0;
}

-- a lexeme is by the table what the token is by its text
pub record IsLexeme (table : List (List ℕ)) (l : Lexeme) (t : Token) : Type 0 where
  pub kind : l.kind ≡ t.kind
  pub key : l.key ≡ key_of t.text
  pub word : IsText table l.word t.text
  pub category : IsText table l.category (without_index t.text)
  pub place : by_id.place l ≡ t.place

-- the place of the first of these lexemes, or of the end
abbrev pub first_place : Place → List Lexeme → Place
first_place end [] = end
first_place end (t ∷ ts) = by_id.place t

-- ---- what is read

-- a refusal of the code
abbrev pub refusal_seen : Refusal → parsing.Refusal Id
refusal_seen (Expected what) = parsing.Expected what
refusal_seen NotAConstituent = parsing.NotAConstituent
refusal_seen (TwiceNamed name) = parsing.TwiceNamed name
refusal_seen PathTooLong = parsing.PathTooLong
refusal_seen TooManySymbols = parsing.TooManySymbols
refusal_seen TooDeep = parsing.TooDeep
refusal_seen LaterForm = parsing.LaterForm

-- what the first word of a path has to be
abbrev pub head_seen : code_head.Head → production.Head Id
head_seen (heads.AmongSymbols symbols) = production.AmongSymbols symbols.now
head_seen heads.AnyAttribute = production.AnyAttribute

-- a call that failed did so as the production, unless memory ran out; a refusal leaves these lexemes
abbrev pub Fails : {S Y : Type 0} → fault.Fault Refusal → List Lexeme → Parse Lexeme Id S Y → Type 0
Fails faulty.Memory rest p = Unit {0}
Fails (faulty.Refused r) rest p = p ≡ Stops (refusal_seen r) rest

-- what a call returned, and what is left, is what the production gives, unless memory ran out; a refusal leaves these lexemes
abbrev pub GivesAt : {S X Y : Type 0} → (X → Y) → Result X (fault.Fault Refusal) → S → List Lexeme → Parse Lexeme Id S Y → Type 0
GivesAt view (Ok x) state rest p = p ≡ Got (view x) state
GivesAt view (Err f) state rest p = Fails f rest p

-- the same, where lexemes alone are left
abbrev pub Gives : {X Y : Type 0} → (X → Y) → Result X (fault.Fault Refusal) → List Lexeme → Parse Lexeme Id (List Lexeme) Y → Type 0
Gives view result rest p = GivesAt view result rest rest p

-- things that were read before, in front of those that are read
abbrev pub onto : {T W S X : Type 0} → List X → Parse T W S (List X) → Parse T W S (List X)
onto front p = p >>= λ xs s. Got (front ++ xs) s

-- alternatives, each a list of things that are seen by f
abbrev pub choices_seen : {A X : Type 0} → (A → Item X) → List (Vec A Global) → Rows X
choices_seen f vs = rows (map (λ v. row (map f v.items)) vs)

-- ---- right sides

-- alternatives of a right side
abbrev pub rights_seen : Vec (Vec code_item.Item Global) Global → Rows (SymbolText Id)
rights_seen v = choices_seen item_seen v.items

-- the symbols of items
abbrev pub symbols_in : List (Item (SymbolText Id)) → List Id
symbols_in is = symbols_of (row is)

-- the symbols of alternatives
abbrev pub symbols_in_all : Vec (Vec code_item.Item Global) Global → List Id
symbols_in_all v = map (λ x. x.symbol) (things_of (rights_seen v))

-- these symbols were put behind those before, and there are no more than a rule may have
pub record Gathers (before after these : List Id) : Type 0 where
  pub all : after ≡ before ++ these
  pub few : length before ≤ 33 → length after ≤ 33

-- lexemes of a right side, whose rule has these symbols so far
abbrev pub right_left : List Id → List Lexeme → Left Lexeme
right_left symbols rest = record { symbols = 33 - length symbols; tokens = rest }

-- an item may begin here: outside of groups, or in one
abbrev pub begins_right : Bool → List Lexeme → Bool
begins_right true = begins_outer by_id
begins_right false = begins_inner by_id

-- a group, from the token that opens it to the one that closes it, with so many levels left
abbrev pub group_right : Kind → Kind → What → ℕ → RightReads by_id (Rows (SymbolText Id))
group_right opens closes w zero s = Stops parsing.TooDeep s.tokens
group_right opens closes w (suc n) s =
    plain by_id (one (is_kind by_id opens) what.Symbol) s >>= λ _ s. alts by_id (item by_id true n) s >>= λ rs s. plain by_id (one (is_kind by_id closes) w) s >>= λ _ s. Got rs s

-- ---- elements: what the first word of a path has to be tells the equations of a rule from features

-- what an element stands for
abbrev pub Written : code_head.Head → Type 0
Written (heads.AmongSymbols symbols) = EquationText Id
Written heads.AnyAttribute = FeatureText Id

-- an element of the code
abbrev pub seen_by : (h : code_head.Head) → Element → Item (Written h)
seen_by (heads.AmongSymbols symbols) = element_seen
seen_by heads.AnyAttribute = feature_seen

-- an element may begin here
abbrev pub begins_by : code_head.Head → List Lexeme → Bool
begins_by (heads.AmongSymbols symbols) = begins_ruleitem by_id
begins_by heads.AnyAttribute = begins_feature by_id

-- an element that is no choice
abbrev pub single_by : (h : code_head.Head) → parsing.Reads Lexeme Id (Written h)
single_by (heads.AmongSymbols symbols) = rule_equation by_id stage (production.AmongSymbols symbols.now)
single_by heads.AnyAttribute = single_feature by_id stage

-- a thing that is no choice, as one of a row
abbrev pub as_item : {X : Type 0} → parsing.Reads Lexeme Id X → parsing.Reads Lexeme Id (Item X)
as_item read ts = read ts >>= λ x ts. Got (Single x) ts

-- an element, with so many levels left
abbrev pub element_by : (h : code_head.Head) → ℕ → parsing.Reads Lexeme Id (Item (Written h))
element_by h levels = braced by_id levels true (begins_by h) (single_by h)

-- ---- clauses

-- these are the names of the list
abbrev pub AreNames : {S : Type 0} → HashSet ℕ S → List Id → Type 0
AreNames named names = (n : ℕ) → contains nat_eq named n ≡ list_any (λ (x : Id). nat_eq n x.0) names

-- the names after more clauses
abbrev pub names_after : List Id → List (Clause Id) → List Id
names_after names [] = names
names_after names (c ∷ cs) = names_after (with_name c names) cs

-- rules and templates alone
abbrev pub of_rules : List RuleText → List Template → Settings Id
of_rules rules templates = record { rules = map rule_seen rules; templates = map template_seen templates; lexical_rules = []; start = None; restrictor = None; order = None }

-- these clauses were read
pub record AreRead (found : Clauses) (cs : List (Clause Id)) : Type 0 where
  pub settings : settings cs ≡ of_rules found.rules.items found.templates.items
  pub named : AreNames found.named (names_after [] cs)

-- behind these clauses one more was read of lexemes, or is refused
abbrev pub Taken : List (Clause Id) → Clauses → Result (Unit {0}) (fault.Fault Refusal) → List Lexeme → List Lexeme → Type 0
Taken cs new (Ok u) ts rest = (c : Clause Id) × (clause by_id stage (names_after [] cs) ts ≡ Got c rest) × AreRead new (cs ++ c ∷ [])
Taken cs new (Err f) ts rest = Fails f rest (clause by_id stage (names_after [] cs) ts)

-- so it is, whatever clauses were read before
abbrev pub TakesIn : Clauses → Clauses → Result (Unit {0}) (fault.Fault Refusal) → List Lexeme → List Lexeme → Type 0
TakesIn old new result ts rest = (cs : List (Clause Id)) → AreRead old cs → Taken cs new result ts rest

-- all clauses of these lexemes were read, or one is refused
abbrev pub ReadsClauses : Result Clauses (fault.Fault Refusal) → List Lexeme → List Lexeme → Type 0
ReadsClauses (Ok found) ts rest = (cs : List (Clause Id)) × (clauses by_id stage (length ts) [] ts ≡ Got cs rest) × AreRead found cs
ReadsClauses (Err f) ts rest = Fails f rest (clauses by_id stage (length ts) [] ts)

-- ---- what lexemes stand for

-- the cause of a refusal at a place
abbrev pub cause_at : Refusal → code_place.Place → GrammarCause
cause_at (Expected what) p = cause.Expected p.line p.column what
cause_at NotAConstituent p = cause.NotAConstituent p.line p.column
cause_at (TwiceNamed name) p = cause.TwiceNamed p.line p.column name
cause_at PathTooLong p = cause.PathTooLong p.line p.column
cause_at TooManySymbols p = cause.TooManySymbols p.line p.column
cause_at TooDeep p = cause.TooDeep p.line p.column
cause_at LaterForm p = cause.LaterForm p.line p.column

-- a lexeme, or the end, is refused at this place
abbrev pub IsRefusedAt : parsing.Refusal Id → ℕ → ℕ → Place → Outcome Lexeme Id → Type 0
IsRefusedAt r line column end o = (rest : List Lexeme) × (o ≡ Refused r rest) × (record { line = line; column = column } ≡ first_place end rest)

-- the answer is what lexemes stand for that end at this place, unless memory ran out
abbrev pub Answers : Place → Result Grammar (fault.Fault GrammarCause) → Outcome Lexeme Id → Type 0
Answers end (Ok g) o = o ≡ Stands (grammar_seen g)
Answers end (Err faulty.Memory) o = Unit {0}
Answers end (Err (faulty.Refused (cause.NotUtf8 at))) o = ⊥
Answers end (Err (faulty.Refused (cause.BadToken line column))) o = ⊥
Answers end (Err (faulty.Refused (cause.Expected line column what))) o = IsRefusedAt (parsing.Expected what) line column end o
Answers end (Err (faulty.Refused (cause.NotAConstituent line column))) o = IsRefusedAt parsing.NotAConstituent line column end o
Answers end (Err (faulty.Refused (cause.TwiceNamed line column name))) o = IsRefusedAt (parsing.TwiceNamed name) line column end o
Answers end (Err (faulty.Refused (cause.PathTooLong line column))) o = IsRefusedAt parsing.PathTooLong line column end o
Answers end (Err (faulty.Refused (cause.TooManySymbols line column))) o = IsRefusedAt parsing.TooManySymbols line column end o
Answers end (Err (faulty.Refused cause.NoRules)) o = o ≡ production.NoRules
Answers end (Err (faulty.Refused (cause.TooDeep line column))) o = IsRefusedAt parsing.TooDeep line column end o
Answers end (Err (faulty.Refused (cause.LaterForm line column))) o = IsRefusedAt parsing.LaterForm line column end o

-- the answer is what lexemes stand for whose clauses make this up
abbrev pub AnswersClauses : Clauses → Result Grammar (fault.Fault GrammarCause) → Type 0
AnswersClauses found result = (end : Place) (ls rest : List Lexeme) → ReadsClauses (Ok found) ls rest → Answers end result (grammar by_id stage cat_number ls)

-- ---- what the lexemes of features stand for

-- a lexeme, or the end, is refused at this place
abbrev pub StopsAt : {X : Type 0} → parsing.Refusal Id → ℕ → ℕ → Place → Parse Lexeme Id (List Lexeme) X → Type 0
StopsAt r line column end p = (rest : List Lexeme) × (p ≡ Stops r rest) × (record { line = line; column = column } ≡ first_place end rest)

-- the answer is what was read of lexemes that end at this place, unless memory ran out
abbrev pub AnswersFeatures : Place → Result (Vec Element Global) (fault.Fault GrammarCause) → Parse Lexeme Id (List Lexeme) (Row (FeatureText Id)) → Type 0
AnswersFeatures end (Ok v) p = (rest : List Lexeme) × (p ≡ Got (features_seen v.items) rest)
AnswersFeatures end (Err faulty.Memory) p = Unit {0}
AnswersFeatures end (Err (faulty.Refused (cause.Expected line column what))) p = StopsAt (parsing.Expected what) line column end p
AnswersFeatures end (Err (faulty.Refused (cause.PathTooLong line column))) p = StopsAt parsing.PathTooLong line column end p
AnswersFeatures end (Err (faulty.Refused (cause.TooDeep line column))) p = StopsAt parsing.TooDeep line column end p
AnswersFeatures end (Err (faulty.Refused _)) p = ⊥
