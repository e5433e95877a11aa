-- The edges that need no passive edge, as they are put into a chart.
use Rattle.std.specs.Prelude.{◌≡◌, ℕ, suc, ◌+◌, ◌<◌, ◌≤◌, Bool, true, false, cond, ◌&&◌, nat_eq, List, [], ◌∷◌, ◌++◌, length, map, Option, Some, None, slice_get}
use Rattle.std.specs.List.{list_any}
use Rattle.patr_lists.specs.Numbers.{places}
use Rattle.patr_model.specs.Derivation.{Rules, Derivation, Leaf, Begin, seen}
use Rattle.patr_model.specs.Plain.{slot_category}
use Rattle.patr_model.specs.Renaming.{Each}
use Rattle.patr_arena.specs.Shown.{Shown}
use Rattle.patr_chart.specs.declared.edge.Edge.{Edge}
use Rattle.patr_chart.specs.Charted.{IsAlone, alone}
use Rattle.patr_chart.specs.Laws.{KindFits}
use Rattle.patr_library.specs.declared.item.RuleItem.{RuleItem}
use Rattle.patr_library.specs.declared.item.EntryItem.{EntryItem}
use Rattle.patr_library.specs.Stored.{Stored, is_of_mother, is_of_word}
use Rattle.patr_parse.specs.declared.prediction.ItemKind.{ItemKind}
use Rattle.patr_parse.specs.declared.prediction.ItemKind.TheVariants as kind
use Rattle.patr_parse.specs.declared.prediction.Mark.{Mark}
use Rattle.patr_parse.specs.Found.{IsSoundEdge}

-- ---- derivations

-- a rule variant that has begun
abbrev pub begun_of : Option RuleItem → ℕ → Derivation
begun_of None i = Begin 0 0 i
begun_of (Some r) i = Begin r.rule r.variant i

-- the rule variant of an item, begun at i
abbrev pub begun : Stored → ℕ → ℕ → Derivation
begun s i n = begun_of (slice_get s.rules n) i

-- a leaf over the word at i
abbrev pub leaf_of : Option EntryItem → ℕ → Derivation
leaf_of None i = Leaf 0 0 i (suc i)
leaf_of (Some e) i = Leaf e.entry e.variant i (suc i)

-- the entry variant of an item, over the word at i
abbrev pub leaf : Stored → ℕ → ℕ → Derivation
leaf s i n = leaf_of (slice_get s.entries n) i

-- the items of a mother, or of a word
abbrev pub places_named : ItemKind → Stored → ℕ → List ℕ
places_named kind.Rule s c = places (is_of_mother c) 0 s.rules
places_named kind.Entry s w = places (is_of_word s.lexicon w) 0 s.entries

-- the derivation of an item that stands alone, by its number
abbrev pub derivation_of : ItemKind → Stored → ℕ → ℕ → Derivation
derivation_of kind.Rule = begun
derivation_of kind.Entry = leaf

-- how many items there are
abbrev pub count_of : ItemKind → Stored → ℕ
count_of kind.Rule s = length s.rules
count_of kind.Entry s = length s.entries

-- how many words an item spans that stands alone
abbrev pub width : ItemKind → ℕ
width kind.Rule = 0
width kind.Entry = 1

-- the items with the mother c, begun at i
abbrev pub begun_at : Stored → ℕ → ℕ → List Derivation
begun_at s c i = map (begun s i) (places (is_of_mother c) 0 s.rules)

-- the entries of the word w, at i
abbrev pub leaves_at : Stored → ℕ → ℕ → List Derivation
leaves_at s w i = map (leaf s i) (places (is_of_word s.lexicon w) 0 s.entries)

-- the entries of the words, of which the first stands at i
abbrev pub leaves_from : Stored → ℕ → List ℕ → List Derivation
leaves_from s i [] = []
leaves_from s i (w ∷ ws) = leaves_at s w i ++ leaves_from s (suc i) ws

-- the category of the next daughter, where one is missing
abbrev pub next_of : Rules → Derivation → Option ℕ
next_of g t = slot_category g t (suc (seen t))

-- ---- marks

-- the mark is of this category at this position
abbrev pub is_mark : ℕ → ℕ → Mark → Bool
is_mark c i m = nat_eq c m.category && nat_eq i m.at

-- the category is marked at the position
abbrev pub is_marked : List Mark → ℕ → ℕ → Bool
is_marked marks c i = list_any (is_mark c i) marks

-- the items with the mother c at i, if they are not there yet
abbrev pub begun_unless : Bool → Stored → ℕ → ℕ → List Derivation
begun_unless true s c i = []
begun_unless false s c i = begun_at s c i

-- one more category is marked
abbrev pub HasMark : List Mark → List Mark → ℕ → ℕ → Type 0
HasMark old new c i = (d j : ℕ) → is_marked new d j ≡ cond (nat_eq c d && nat_eq i j) true (is_marked old d j)

-- what an edge predicts: the items of the next category where it ends, if a daughter is missing
abbrev pub begun_by : List Mark → Stored → Option ℕ → ℕ → List Derivation
begun_by marks s None i = []
begun_by marks s (Some c) i = begun_unless (is_marked marks c i) s c i

-- the next category of an edge, if a daughter is missing, is marked where the edge ends
abbrev pub HasMarkOf : List Mark → List Mark → Option ℕ → ℕ → Type 0
HasMarkOf old new None i = new ≡ old
HasMarkOf old new (Some c) i = HasMark old new c i

-- ---- edges

-- an edge that is made of no others, with what is promised of it
pub record IsAloneEdge (g : Rules) (s : Stored) (v : Shown) (t : Derivation) (e : Edge) : Type 0 where
  pub back : e.back ≡ None
  pub is : alone e.kind e ≡ t
  pub place : IsAlone e.kind e
  pub fits : KindFits g e.kind
  pub sound : IsSoundEdge g s v [] t e

-- edges for these derivations stand behind the old ones, or with them they are more than the limit
abbrev pub ArePushed : Rules → Stored → Shown → ℕ → List Edge → List Derivation → List Edge → Bool → Type 0
ArePushed g s v limit old ts new true = (ys : List Edge) × (new ≡ old ++ ys) × Each (IsAloneEdge g s v) ts ys × (length new ≤ limit)
ArePushed g s v limit old ts new false = limit < length old + length ts
