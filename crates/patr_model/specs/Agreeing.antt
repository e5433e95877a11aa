-- What is read does not depend on what stands for the words: texts, or their numbers in a table.
--     SameGrammar S g h     g is by words of one type what h is by words of another, where S tells which words belong together
--     WordsAgree R S        two ways of reading tokens tell the same of tokens that belong together
use Rattle.std.specs.Prelude.{◌≡◌, ℕ, List, nat_eq, codes}
use Rattle.patr_model.specs.Session.{Numbering}
use Rattle.patr_model.specs.Tokens.{Token}
use Rattle.patr_model.specs.Renaming.{Each, Both, SameRow}
use Rattle.patr_model.specs.Lexemes.{Words, by_text, key_of, without_index}
use Rattle.patr_model.specs.Parsing.{Refusal, Expected, NotAConstituent, TwiceNamed, PathTooLong, TooManySymbols, TooManyPaths, TooDeep, LaterForm}
use Rattle.patr_model.specs.Stages.{Stage}
use Rattle.patr_model.specs.LexiconText.{EntryOf}
use Rattle.patr_model.specs.Productions.{SymbolText, PathText, TermText, AtomText, OfPath, EquationText, FeatureText, Equates, Names, RuleText, Template, LexicalRule, Grammar, Outcome, Stands, NoRules, Refused, grammar}
use Rattle.patr_model.specs.Build.{Meaning, ExpandFault, UnknownName, TooManyVariants, TooManyEquations, BuildFault, InGrammar, InLexicon}

module _ {W V : Type 0} (S : W → V → Type 0) where
  -- the same symbol of a rule, of the same category
  pub record SameSymbolText (x : SymbolText W) (y : SymbolText V) : Type 0 where
    pub symbol : S x.symbol y.symbol
    pub category : S x.category y.category

  -- the same path: from the same constituent, or from none, along the same attributes
  pub record SamePathText (p : PathText W) (q : PathText V) : Type 0 where
    pub head : Both S p.head q.head
    pub attributes : Each S p.attributes q.attributes

  -- the same right side of an equation: one atom, or one path
  abbrev pub SameTermText : TermText W → TermText V → Type 0
  SameTermText (AtomText a) (AtomText b) = S a b
  SameTermText (AtomText a) (OfPath q) = ⊥
  SameTermText (OfPath p) (AtomText b) = ⊥
  SameTermText (OfPath p) (OfPath q) = SamePathText p q

  -- the same path equation
  pub record SameEquationText (e : EquationText W) (f : EquationText V) : Type 0 where
    pub left : SamePathText e.left f.left
    pub right : SameTermText e.right f.right

  -- the same feature: one equation, or one name of a template or a lexical rule at one place
  abbrev pub SameFeatureText : FeatureText W → FeatureText V → Type 0
  SameFeatureText (Equates e) (Equates f) = SameEquationText e f
  SameFeatureText (Equates e) (Names b q) = ⊥
  SameFeatureText (Names a p) (Equates f) = ⊥
  SameFeatureText (Names a p) (Names b q) = S a b × (p ≡ q)

  -- the same rule, on one line
  pub record SameRuleText (r : RuleText W) (s : RuleText V) : Type 0 where
    pub line : r.line ≡ s.line
    pub name : Each S r.name s.name
    pub mother : SameSymbolText r.mother s.mother
    pub right : SameRow SameSymbolText r.right s.right
    pub equations : SameRow SameEquationText r.equations s.equations

  -- the same template, on one line
  pub record SameTemplate (t : Template W) (u : Template V) : Type 0 where
    pub line : t.line ≡ u.line
    pub name : S t.name u.name
    pub body : SameRow SameFeatureText t.body u.body

  -- the same lexical rule, on one line
  pub record SameLexicalRule (r : LexicalRule W) (s : LexicalRule V) : Type 0 where
    pub line : r.line ≡ s.line
    pub name : S r.name s.name
    pub equations : Each SameEquationText r.equations s.equations

  -- the same grammar: the same rules, templates and lexical rules one by one, and the same parameters
  pub record SameGrammar (g : Grammar W) (h : Grammar V) : Type 0 where
    pub rules : Each SameRuleText g.rules h.rules
    pub templates : Each SameTemplate g.templates h.templates
    pub lexical_rules : Each SameLexicalRule g.lexical_rules h.lexical_rules
    pub start : S g.start h.start
    pub restrictor : Each (Each S) g.restrictor h.restrictor
    pub order : Each S g.order h.order

  -- the same entry, on one line
  pub record SameEntryText (e : EntryOf W) (f : EntryOf V) : Type 0 where
    pub line : e.line ≡ f.line
    pub word : S e.word f.word
    pub category : S e.category f.category
    pub gloss : Both S e.gloss f.gloss
    pub features : SameRow SameFeatureText e.features f.features

  -- the same features, in what one name stands for
  pub record SameMeaning (m : Meaning W) (n : Meaning V) : Type 0 where
    pub name : S m.name n.name
    pub body : SameRow SameEquationText m.body n.body

  -- the same fault of a template, a rule or an entry
  abbrev pub SameExpandFault : ExpandFault W → ExpandFault V → Type 0
  SameExpandFault (UnknownName a p) (UnknownName b q) = S a b × (p ≡ q)
  SameExpandFault (TooManyVariants n k) (TooManyVariants m l) = (n ≡ m) × (k ≡ l)
  SameExpandFault (TooManyEquations n k) (TooManyEquations m l) = (n ≡ m) × (k ≡ l)
  SameExpandFault _ _ = ⊥

  -- the same fault of a grammar or of a lexicon
  abbrev pub SameBuildFault : BuildFault W → BuildFault V → Type 0
  SameBuildFault (InGrammar f) (InGrammar h) = SameExpandFault f h
  SameBuildFault (InLexicon f) (InLexicon h) = SameExpandFault f h
  SameBuildFault _ _ = ⊥

  -- a token, or the end, is refused for one reason
  abbrev pub SameRefusal : Refusal W → Refusal V → Type 0
  SameRefusal (Expected a) (Expected b) = a ≡ b
  SameRefusal NotAConstituent NotAConstituent = Unit {0}
  SameRefusal (TwiceNamed a) (TwiceNamed b) = S a b
  SameRefusal PathTooLong PathTooLong = Unit {0}
  SameRefusal TooManySymbols TooManySymbols = Unit {0}
  SameRefusal TooManyPaths TooManyPaths = Unit {0}
  SameRefusal TooDeep TooDeep = Unit {0}
  SameRefusal LaterForm LaterForm = Unit {0}
  SameRefusal r s = ⊥

-- tokens that belong together, and words that do
module _ {T U W V : Type 0} (R : T → U → Type 0) (S : W → V → Type 0) where
  -- two ways of reading tokens tell the same of tokens that belong together, and find the same words equal
  pub record WordsAgree (words : Words T W) (others : Words U V) : Type 0 where
    pub kind : (t : T) (u : U) → R t u → words.kind t ≡ others.kind u
    pub key : (t : T) (u : U) → R t u → words.key t ≡ others.key u
    pub word : (t : T) (u : U) → R t u → S (words.word t) (others.word u)
    pub category : (t : T) (u : U) → R t u → S (words.category t) (others.category u)
    pub place : (t : T) (u : U) → R t u → words.place t ≡ others.place u
    pub same : (a b : W) (c d : V) → S a c → S b d → words.same a b ≡ others.same c d

  -- the tokens stand for the same grammar, or both for none, for one reason and from the same token on
  abbrev pub SameOutcome : Outcome T W → Outcome U V → Type 0
  SameOutcome (Stands g) (Stands h) = SameGrammar S g h
  SameOutcome NoRules NoRules = Unit {0}
  SameOutcome (Refused r ts) (Refused s us) = SameRefusal S r s × Each R ts us
  SameOutcome o p = ⊥

-- tokens by the numbers of their texts
abbrev pub by_number : Numbering → Words Token ℕ
by_number N = record {
  kind = λ t. t.kind;
  key = λ t. key_of t.text;
  word = λ t. N.number t.text;
  category = λ t. N.number (without_index t.text);
  place = λ t. t.place;
  same = nat_eq;
}

-- tokens stand for the same grammar by their texts and by the texts' numbers, at each stage and for each numbering
abbrev pub ReadingIgnoresNumbers : Type 0
ReadingIgnoresNumbers = (N : Numbering) (s : Stage) (ts : List Token)
    → SameOutcome (λ t u. t ≡ u) (λ text n. n ≡ N.number text) (grammar by_text s (codes "cat") ts) (grammar (by_number N) s (N.number (codes "cat")) ts)
