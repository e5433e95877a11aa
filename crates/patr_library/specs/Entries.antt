-- What a build keeps of an entry's variant.
--     IsEntryStored          an item of an entry's variant: what the one slot of its least value has, in a block of its own
--     AreEntriesDealt        these variants more have an item each, or no solution
use Rattle.std.specs.Prelude.{◌≡◌, ℕ, List, length, map, take, Some}
use Rattle.std.specs.declared.vec.Vec.{Vec}
use Rattle.std.specs.declared.alloc.Global.{Global}
use Rattle.std.specs.List.{sum_by}
use Rattle.patr_model.specs.Structure.{Node, arc}
use Rattle.patr_model.specs.Derivation.{EntryVariant}
use Rattle.patr_model.specs.Variants.{AreWithin}
use Rattle.patr_model.specs.Build.{Meaning, entry_variant_of, entry_variants}
use Rattle.patr_lexicon.specs.declared.lexicon.Entry.{Entry}
use Rattle.patr_lexicon.specs.Seen.{entry_seen}
use Rattle.patr_arena.specs.declared.value.Ref.{Ref}
use Rattle.patr_arena.specs.declared.value.Feature.{Feature}
use Rattle.patr_arena.specs.Shown.{Shown, ValueIsHeld, ref_of, value_of}
use Rattle.patr_expand.specs.declared.equation.Equation.{Equation}
use Rattle.patr_text.specs.declared.symbols.Id.{Id}
use Rattle.patr_expand.specs.Seen.{equations_at, number, same}
use Rattle.patr_library.specs.declared.item.EntryItem.{EntryItem}
use Rattle.patr_library.specs.Own.{IsOwn, own_nodes, own_value}
use Rattle.patr_library.specs.Solved.{HasNone, IsLeastAt}
use Rattle.patr_library.specs.Stored.{keys}
use Rattle.patr_library.specs.Built.{AreDealt, HasBlock, IsDealt}

-- an item of this variant of an entry, both by their numbers
pub record IsEntryStored (v : Shown) (e k : ℕ) (entry : EntryVariant) (i : EntryItem) : Type 0 where
  pub entry_is : i.entry ≡ e
  pub variant_is : i.variant ≡ k
  -- the least value of one slot, the node of that slot, and what is in the slot
  pub whole : List (List Feature)
  pub slots : ℕ
  pub to : Ref
  pub least : IsLeastAt 1 entry.equations whole slots
  pub slot : arc (own_nodes whole) (Node slots) 0 ≡ Some (own_value to)
  -- the block, which has the nodes before that node, and its number
  pub nodes : List (List Feature)
  pub number : ℕ
  pub front : nodes ≡ take slots whole
  pub block : HasBlock v number nodes
  pub own : IsOwn (length nodes) to
  pub root : value_of v i.root ≡ ref_of v number to
  pub held : ValueIsHeld v i.root
  pub nodes_are : i.nodes ≡ length nodes
  pub arcs_are : i.arcs ≡ sum_by length nodes

-- a variant of an entry with both numbers
abbrev pub NumberedEntry : Type 0
NumberedEntry = ℕ × ℕ × EntryVariant

-- the item of a numbered variant
abbrev pub HasEntryItem : Shown → NumberedEntry → EntryItem → Type 0
HasEntryItem v d i = IsEntryStored v d.0 d.1 d.2 i

-- the numbered variant has no solution
abbrev pub HasNoEntry : NumberedEntry → Type 0
HasNoEntry d = HasNone 1 d.2.equations

-- one variant more was dealt with: it has an item, or no solution
abbrev pub IsEntryDealt : Shown → Shown → ℕ → ℕ → EntryVariant → List EntryItem → List EntryItem → Type 0
IsEntryDealt v w e k entry old new = IsDealt HasEntryItem HasNoEntry v w (e, k, entry) old new

-- these variants more were dealt with
abbrev pub AreEntriesDealt : Shown → Shown → List NumberedEntry → List EntryItem → List EntryItem → Type 0
AreEntriesDealt v w ds old new = AreDealt HasEntryItem HasNoEntry v w ds old new

-- the variant of an entry of the code with these equations of its features
abbrev pub variant_of : Entry → List Equation → EntryVariant
variant_of e es = entry_variant_of number keys (entry_seen e) (equations_at es)

-- those with each of these lists of equations
abbrev pub all_variants_of : Entry → List (Vec Equation Global) → List EntryVariant
all_variants_of e vs = map (λ es. variant_of e es.items) vs

-- the equations of the entry's variant with these equations of its features speak of its one value
abbrev pub StaysAlone : Entry → Vec Equation Global → Type 0
StaysAlone e es = AreWithin 1 (variant_of e es.items).equations

-- the variants of an entry of the code, whose names stand for this
abbrev pub entry_variants_of : List (Meaning Id) → Entry → List EntryVariant
entry_variants_of ms e = entry_variants number same keys ms (entry_seen e)
