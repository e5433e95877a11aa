-- A library: a grammar and a lexicon, the nodes that an arena shows, and the items.
--     Stored                what a library is
--     rules_of s            the variants of its grammar and lexicon, by the numbers of their symbols
--     IsStored s            its items are exactly the variants that have a solution, each with its least value
use Rattle.std.specs.Prelude.{◌≡◌, ◌⊎◌, ℕ, suc, ◌<◌, ◌≤◌, nat_eq, Bool, false, List, [], ◌∷◌, length, map, Option, Some, None, slice_get}
use Rattle.std.specs.List.{AllByRecursion}
use Rattle.patr_model.specs.Structure.{Value, Node}
use Rattle.patr_model.specs.Derivation.{Rules, RuleVariant, EntryVariant, Leaf, Begin, rule_variant, entry_variant}
use Rattle.patr_model.specs.Solution.{IsSolvable, IsLeastValue}
use Rattle.patr_model.specs.Variants.{RuleAt, IsLeastOf}
use Rattle.patr_model.specs.Productions as production
use Rattle.patr_model.specs.LexiconText.{EntryOf}
use Rattle.patr_model.specs.Build as model
use Rattle.patr_model.specs.Build.{Keys, build, build_fault}
use Rattle.patr_text.specs.declared.symbols.Id.{Id}
use Rattle.patr_arena.specs.Shown.{Shown, IsHeld, ValueIsHeld, number_of, value_of}
use Rattle.patr_unify.specs.Deciding.{Counts}
use Rattle.patr_grammar.specs.declared.grammar.Grammar.{Grammar}
use Rattle.patr_grammar.specs.Reading.{grammar_seen}
use Rattle.patr_lexicon.specs.declared.lexicon.Entry.{Entry}
use Rattle.patr_lexicon.specs.Seen.{entry_seen}
use Rattle.patr_expand.specs.Seen.{cause_seen}
pub use Rattle.patr_expand.specs.Seen.{meant, same}
use Rattle.patr_library.specs.declared.item.RuleItem.{RuleItem}
use Rattle.patr_library.specs.declared.item.EntryItem.{EntryItem}
use Rattle.patr_library.specs.declared.item.BuildFault.{BuildFault}
use Rattle.patr_library.specs.declared.item.BuildFault.TheVariants as fault

-- a library: what was read, the nodes, and the items of rules and of entries
pub record Stored : Type 0 where
  pub grammar : Grammar
  pub lexicon : List Entry
  pub shown : Shown
  pub rules : List RuleItem
  pub entries : List EntryItem

-- ---- what is built

-- the numbers that each table of symbols gives to `cat`, `lex` and `gloss`
abbrev pub keys : Keys
keys = record { cat = 33; lex = 34; gloss = 35 }

-- a symbol's number
abbrev pub number : Id → ℕ
number i = i.0

-- the grammar as the definitions see it
abbrev pub grammar_of : Grammar → production.Grammar Id
grammar_of g = grammar_seen g

-- the entries as the definitions see them
abbrev pub entries_of : List Entry → List (EntryOf Id)
entries_of l = map entry_seen l

-- the variants of a grammar and a lexicon
abbrev pub built_rules : Grammar → List Entry → Rules
built_rules g l = build number same keys (grammar_of g) (entries_of l)

-- the variants of a library's grammar and lexicon
abbrev pub rules_of : Stored → Rules
rules_of s = built_rules s.grammar s.lexicon

-- ---- items

-- no more nodes and arcs are reached from a value than it says
abbrev pub Bounds : Shown → Value → ℕ → ℕ → Type 0
Bounds v x nodes arcs = (n a : ℕ) → Counts v.structure x n a → (n ≤ nodes) × (a ≤ arcs)

-- where a rule's root stands
abbrev pub root_of : Shown → RuleItem → Value
root_of v i = Node (number_of v i.root.block i.root.offset)

-- an item of a rule: a variant with its mother's category and its number of daughters, and the least value of its slots
pub record IsRuleItem (g : Rules) (v : Shown) (i : RuleItem) : Type 0 where
  pub variant : RuleVariant
  pub is : rule_variant g i.rule i.variant ≡ Some variant
  pub slots : length variant.categories ≡ suc i.slots
  pub mother : slice_get variant.categories 0 ≡ Some i.mother.0
  pub held : IsHeld v i.root.block i.root.offset
  pub least : IsLeastOf (RuleAt variant) v.structure (root_of v i)
  pub bounds : Bounds v (root_of v i) i.nodes i.arcs

-- an item of an entry: a variant with its least value, at whichever place it stands
pub record IsEntryItem (g : Rules) (v : Shown) (i : EntryItem) : Type 0 where
  pub variant : EntryVariant
  pub is : entry_variant g i.entry i.variant ≡ Some variant
  pub held : ValueIsHeld v i.root
  pub least : (from to : ℕ) → IsLeastValue g (Leaf i.entry i.variant from to) v.structure (value_of v i.root)
  pub bounds : Bounds v (value_of v i.root) i.nodes i.arcs

-- the pairs of numbers rise: by the first, and where it is the same by the second
abbrev pub Rises : List (ℕ × ℕ) → Type 0
Rises [] = Unit {0}
Rises (x ∷ []) = Unit {0}
Rises (x ∷ y ∷ zs) = ((x.0 < y.0) ⊎ ((x.0 ≡ y.0) × (x.1 < y.1))) × Rises (y ∷ zs)

-- the items are exactly the variants that have a solution, in order, each with its least value
pub record HasItems (g : Rules) (v : Shown) (rules : List RuleItem) (entries : List EntryItem) : Type 0 where
  pub rule_items : AllByRecursion (IsRuleItem g v) rules
  pub rules_rise : Rises (map (λ i. (i.rule, i.variant)) rules)
  pub every_rule : (r k at : ℕ) → IsSolvable g (Begin r k at) → (n : ℕ) × (i : RuleItem) × (slice_get rules n ≡ Some i) × (i.rule ≡ r) × (i.variant ≡ k)
  pub entry_items : AllByRecursion (IsEntryItem g v) entries
  pub entries_rise : Rises (map (λ i. (i.entry, i.variant)) entries)
  pub every_entry : (e k from to : ℕ) → IsSolvable g (Leaf e k from to) → (n : ℕ) × (i : EntryItem) × (slice_get entries n ≡ Some i) × (i.entry ≡ e) × (i.variant ≡ k)

-- a library's items are exactly the variants that have a solution
abbrev pub IsStored : Stored → Type 0
IsStored s = HasItems (rules_of s) s.shown s.rules s.entries

-- ---- what is found

-- the word of an entry, by its number
abbrev pub word_at : List Entry → ℕ → Option ℕ
word_at l e = go (slice_get l e)
  where
    go : Option Entry → Option ℕ
    go None = None
    go (Some x) = Some x.word.0

-- each item is one of the first so many entries
abbrev pub AreOfEntries : ℕ → List EntryItem → Type 0
AreOfEntries n items = AllByRecursion (λ i. i.entry < n) items

-- both are one number
abbrev pub is_number : Option ℕ → ℕ → Bool
is_number None n = false
is_number (Some m) n = nat_eq m n

-- an item of an entry of this word
abbrev pub is_of_word : List Entry → ℕ → EntryItem → Bool
is_of_word l w i = is_number (word_at l i.entry) w

-- an item of a rule with this mother
abbrev pub is_of_mother : ℕ → RuleItem → Bool
is_of_mother m i = nat_eq i.mother.0 m

-- ---- the build

-- a library is of this grammar and lexicon, and neither is refused
pub record IsBuiltFrom (g : Grammar) (l : List Entry) (s : Stored) : Type 0 where
  pub grammar : s.grammar ≡ g
  pub lexicon : s.lexicon ≡ l
  pub faultless : build_fault same (grammar_of g) (entries_of l) ≡ None

-- the grammar or the lexicon is refused for this reason, which is the first; want of memory may come at any time
abbrev pub IsRefusedFor : Grammar → List Entry → BuildFault → Type 0
IsRefusedFor g l fault.Memory = Unit {0}
IsRefusedFor g l (fault.InGrammar c) = build_fault same (grammar_of g) (entries_of l) ≡ Some (model.InGrammar (cause_seen c))
IsRefusedFor g l (fault.InLexicon c) = build_fault same (grammar_of g) (entries_of l) ≡ Some (model.InLexicon (cause_seen c))
