-- A table that has the texts of a library.
--     AreHeldBy n s       the symbols of the library's grammar and lexicon are numbers below n, and each entry has a variant
--     LibrariesAreHeld    what was read by a table is held by it
use Rattle.std.specs.Prelude.{◌≡◌, ℕ, ◌<◌, List, length, Option, Some, None}
use Rattle.std.specs.List.{AllByRecursion}
use Rattle.patr_model.specs.Grammar.{Row, Rows, Done, One, OneOf, Optional, None', Or, IsFull}
use Rattle.patr_model.specs.Productions.{SymbolText, PathText, TermText, AtomText, OfPath, EquationText, FeatureText, Equates, Names, RuleText, Template, Grammar}
use Rattle.patr_model.specs.Build.{build_fault}
use Rattle.patr_model.specs.LexiconText.{EntryOf, EntryText}
use Rattle.patr_text.specs.declared.symbols.Id.{Id}
use Rattle.patr_grammar.specs.Reading.{IsGrammar}
use Rattle.patr_lexicon.specs.Reading.{AreEntriesOf}
use Rattle.patr_library.specs.Stored.{Stored, grammar_of, entries_of, rules_of, same}

-- each single thing of a row has the property
abbrev mutual
  pub AllIn : {X : Type 0} → (X → Type 0) → Row X → Type 0
  AllIn P Done = Unit {0}
  AllIn P (One x r) = P x × AllIn P r
  AllIn P (OneOf rs r) = AllInRows P rs × AllIn P r
  AllIn P (Optional rs r) = AllInRows P rs × AllIn P r

  -- the same of a choice
  pub AllInRows : {X : Type 0} → (X → Type 0) → Rows X → Type 0
  AllInRows P None' = Unit {0}
  AllInRows P (Or r rs) = AllIn P r × AllInRows P rs

module _ (n : ℕ) where
  -- a number of the table
  abbrev pub IsBelow : Id → Type 0
  IsBelow i = i.0 < n

  -- the number, where there is one
  abbrev pub MayBeBelow : Option Id → Type 0
  MayBeBelow None = Unit {0}
  MayBeBelow (Some i) = IsBelow i

  -- the category of a symbol
  abbrev pub SymbolIsHeld : SymbolText Id → Type 0
  SymbolIsHeld x = IsBelow x.category

  -- the attributes of a path
  abbrev pub PathIsHeld : PathText Id → Type 0
  PathIsHeld p = AllByRecursion IsBelow p.attributes

  -- the atom, or the attributes of the path
  abbrev pub TermIsHeld : TermText Id → Type 0
  TermIsHeld (AtomText a) = IsBelow a
  TermIsHeld (OfPath p) = PathIsHeld p

  -- the attributes and the atom of an equation
  abbrev pub EquationIsHeld : EquationText Id → Type 0
  EquationIsHeld e = PathIsHeld e.left × TermIsHeld e.right

  -- the attributes and the atom of a feature
  abbrev pub FeatureIsHeld : FeatureText Id → Type 0
  FeatureIsHeld (Equates e) = EquationIsHeld e
  FeatureIsHeld (Names w p) = Unit {0}

  -- the categories of a rule, and the attributes and atoms of its equations
  pub record RuleIsHeld (r : RuleText Id) : Type 0 where
    pub mother : SymbolIsHeld r.mother
    pub right : AllIn SymbolIsHeld r.right
    pub equations : AllIn EquationIsHeld r.equations

  -- the attributes and atoms of a template's features
  abbrev pub TemplateIsHeld : Template Id → Type 0
  TemplateIsHeld t = AllIn FeatureIsHeld t.body

  -- the word, the category and the gloss of an entry, and the attributes and atoms of its features
  pub record EntryIsHeld (e : EntryOf Id) : Type 0 where
    pub word : IsBelow e.word
    pub category : IsBelow e.category
    pub gloss : MayBeBelow e.gloss
    pub features : AllIn FeatureIsHeld e.features

-- the symbols of the library's rules, templates and entries, and a variant of each entry
pub record AreHeldBy (n : ℕ) (s : Stored) : Type 0 where
  pub rules : AllByRecursion (RuleIsHeld n) (grammar_of s.grammar).rules
  pub templates : AllByRecursion (TemplateIsHeld n) (grammar_of s.grammar).templates
  pub entries : AllByRecursion (EntryIsHeld n) (entries_of s.lexicon)
  pub variants : AllByRecursion (λ vs. 0 < length vs) (rules_of s).entries

-- what was read by a table, and is not refused by the build, is held by it
abbrev pub LibrariesAreHeld : Type 0
LibrariesAreHeld = (table : List (List ℕ)) (s : Stored) (g : Grammar (List ℕ)) (l : List EntryText) → IsGrammar table s.grammar g → AreEntriesOf table s.lexicon l
    → AllByRecursion (λ t. IsFull t.body) g.templates → AllByRecursion (λ e. IsFull e.features) l → build_fault same (grammar_of s.grammar) (entries_of s.lexicon) ≡ None
    → AreHeldBy (length table) s
