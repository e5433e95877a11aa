-- Blocks of nodes, and what they show one behind another.
--     IsBlock nodes        the law of a block
--     OldIsHeld v nodes    its old addresses are held in v
--     with_block v nodes   what is shown with one block more
--     with_blocks v blocks what is shown with these blocks more
use Rattle.std.specs.Prelude.{◌≡◌, ℕ, ◌<◌, List, [], ◌∷◌, ◌++◌, length, map, slice_index_or}
use Rattle.std.specs.List.{fold}
use Rattle.std.specs.List.Sorted.{IsStrictlyIncreasing}
use Rattle.patr_model.specs.Structure.{Structure}
use Rattle.patr_arena.specs.declared.value.Ref.{Ref}
use Rattle.patr_arena.specs.declared.value.Ref.TheVariants as ref
use Rattle.patr_arena.specs.declared.value.Feature.{Feature}
use Rattle.patr_arena.specs.Shown.{Shown, IsHeld, arcs_from}

-- the attributes of a node's arcs
abbrev pub attributes : List Feature → List ℕ
attributes fs = map (λ f. f.attribute.0) fs

-- the arc leads to no node of its block at this offset or behind it
abbrev pub LeadsBelow : ℕ → Ref → Type 0
LeadsBelow offset (ref.Atom c) = Unit {0}
LeadsBelow offset (ref.Old at) = Unit {0}
LeadsBelow offset (ref.New k) = k < offset

-- no arc leads to a node of its block at this offset or behind it
abbrev pub AllBelow : ℕ → List Feature → Type 0
AllBelow offset [] = Unit {0}
AllBelow offset (f ∷ fs) = LeadsBelow offset f.to × AllBelow offset fs

-- in each node attributes rise, and arcs lead to earlier nodes of the block or out of it
pub record IsBlock (nodes : List (List Feature)) : Type 0 where
  pub rising : (n : ℕ) → IsStrictlyIncreasing (attributes (slice_index_or nodes n []))
  pub below : (n : ℕ) → AllBelow n (slice_index_or nodes n [])

-- an old address of an arc is held
abbrev pub OldRefIsHeld : Shown → Ref → Type 0
OldRefIsHeld v (ref.Atom c) = Unit {0}
OldRefIsHeld v (ref.Old at) = IsHeld v at.block at.offset
OldRefIsHeld v (ref.New k) = Unit {0}

-- the old addresses of a node's arcs are held
abbrev pub AllOldHeld : Shown → List Feature → Type 0
AllOldHeld v [] = Unit {0}
AllOldHeld v (f ∷ fs) = OldRefIsHeld v f.to × AllOldHeld v fs

-- the old addresses of a block are held
abbrev pub OldIsHeld : Shown → List (List Feature) → Type 0
OldIsHeld v nodes = (n : ℕ) → AllOldHeld v (slice_index_or nodes n [])

-- nothing is shown
abbrev pub nothing : Shown
nothing = record { structure = []; sizes = [] }

-- what is shown with the nodes of one block behind the others
abbrev pub with_block : Shown → List (List Feature) → Shown
with_block v nodes = record { structure = v.structure ++ map (arcs_from v (length v.sizes)) nodes; sizes = v.sizes ++ length nodes ∷ [] }

-- what is shown with the nodes of these blocks behind the others
abbrev pub with_blocks : Shown → List (List (List Feature)) → Shown
with_blocks v blocks = fold with_block v blocks

-- w shows what v does, and maybe more behind it
pub record Extends (v : Shown) (w : Shown) : Type 0 where
  pub sizes : (more : List ℕ) × (w.sizes ≡ v.sizes ++ more)
  pub structure : (more : Structure) × (w.structure ≡ v.structure ++ more)

-- each is a block whose old addresses are held in what stands before it
abbrev pub AreBlocks : Shown → List (List (List Feature)) → Type 0
AreBlocks v [] = Unit {0}
AreBlocks v (nodes ∷ blocks) = IsBlock nodes × OldIsHeld v nodes × AreBlocks (with_block v nodes) blocks
