-- Edges by the library that they are of.
--     IsOfLibrary n s k       the library's item of an edge's kind has the texts of its variant
--     IsReady n v es k        the value of edge k is one that may be written
use Rattle.std.specs.Prelude.{◌≡◌, ℕ, ◌<◌, List, Option, Some, None, slice_get}
use Rattle.std.specs.List.{AllByRecursion}
use Rattle.patr_model.specs.Structure.{Value, Atom}
use Rattle.patr_model.specs.Derivation.{RuleVariant, entry_variant, rule_variant}
use Rattle.patr_model.specs.Text.{entry_category, entry_word}
use Rattle.patr_lexicon.specs.declared.lexicon.Entry as code
use Rattle.patr_arena.specs.Shown.{Shown, ValueIsHeld, value_of}
use Rattle.patr_chart.specs.declared.edge.EdgeKind.{EdgeKind}
use Rattle.patr_chart.specs.declared.edge.EdgeKind.TheVariants.{Entry, Rule}
use Rattle.patr_chart.specs.declared.edge.Edge.{Edge}
use Rattle.patr_library.specs.declared.item.RuleItem.{RuleItem}
use Rattle.patr_library.specs.declared.item.EntryItem.{EntryItem}
use Rattle.patr_library.specs.Stored.{Stored, rules_of}
use Rattle.patr_canon.specs.Walks.{AreSpelled}

-- an entry of the lexicon has the category and the word of this variant of it, and both have texts
pub record IsEntryOf (n : ℕ) (s : Stored) (entry variant : ℕ) : Type 0 where
  pub entry_is : code.Entry
  pub there : slice_get s.lexicon entry ≡ Some entry_is
  pub category : entry_is.category.0 < n
  pub word : entry_is.word.0 < n
  pub same_category : entry_category (entry_variant (rules_of s) entry variant) ≡ entry_is.category.0
  pub same_word : entry_word (entry_variant (rules_of s) entry variant) ≡ entry_is.word.0

-- the library has an item of this variant of a rule, and its categories have texts
pub record IsRuleOf (n : ℕ) (s : Stored) (rule variant item : ℕ) : Type 0 where
  pub item_is : RuleItem
  pub there : slice_get s.rules item ≡ Some item_is
  pub same_rule : item_is.rule ≡ rule
  pub same_variant : item_is.variant ≡ variant
  pub variant_is : RuleVariant
  pub is : rule_variant (rules_of s) rule variant ≡ Some variant_is
  pub categories : AllByRecursion (λ c. c < n) variant_is.categories

-- the library has what stands at the root of an edge of this kind
abbrev pub IsOfLibrary : ℕ → Stored → EdgeKind → Type 0
IsOfLibrary n s (Entry entry variant) = IsEntryOf n s entry variant
IsOfLibrary n s (Rule rule variant item seen slots) = IsRuleOf n s rule variant item

-- the library has what stands at the roots of the edges without daughters
abbrev pub AreOfLibrary : ℕ → Stored → List Edge → Type 0
AreOfLibrary n s es = (k : ℕ) (e : Edge) → slice_get es k ≡ Some e → e.back ≡ None → IsOfLibrary n s e.kind

-- the value of an edge, where there is one
abbrev pub edge_value : Shown → Option Edge → Value
edge_value v None = Atom 0
edge_value v (Some e) = value_of v e.root

-- the value of edge k
abbrev pub value_at : Shown → List Edge → ℕ → Value
value_at v es k = edge_value v (slice_get es k)

-- edge k is there, its root is held, and the symbols to which paths from it lead have texts
pub record IsReady (n : ℕ) (v : Shown) (es : List Edge) (k : ℕ) : Type 0 where
  pub edge : Edge
  pub there : slice_get es k ≡ Some edge
  pub held : ValueIsHeld v edge.root
  pub spelled : AreSpelled n v.structure (value_of v edge.root)

-- the item of an entry at place k is there, its root is held, and the symbols to which paths from it lead have texts
pub record IsItemReady (n : ℕ) (v : Shown) (items : List EntryItem) (k : ℕ) : Type 0 where
  pub item : EntryItem
  pub there : slice_get items k ≡ Some item
  pub held : ValueIsHeld v item.root
  pub spelled : AreSpelled n v.structure (value_of v item.root)
