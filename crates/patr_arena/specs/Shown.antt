-- What an arena shows, and what addresses, arcs and values mean in it.
--     Shown            a list of nodes, block after block
--     number_of v b o  the place of a node in that list
--     ref_of v b r     where an arc of a node of the block b leads
--     arcs_from v b fs the arcs of a node of the block b
--     value_of v x     what a value stands for
--     IsShown v        the law of what is shown
use Rattle.std.specs.Prelude.{◌≡◌, ℕ, ◌+◌, ◌<◌, List, [], ◌∷◌, length, map, take, slice_index, slice_index_or}
use Rattle.std.specs.List.{sum}
use Rattle.std.specs.List.Sorted.{IsStrictlyIncreasing}
use Rattle.patr_model.specs.Structure.{Value, Atom, Node, Arc, Arcs, Structure, IsStructure}
use Rattle.patr_arena.specs.declared.value.Value as its
use Rattle.patr_arena.specs.declared.value.Value.TheVariants as value
use Rattle.patr_arena.specs.declared.value.Ref.{Ref}
use Rattle.patr_arena.specs.declared.value.Ref.TheVariants as ref
use Rattle.patr_arena.specs.declared.value.Feature.{Feature}

-- a list of nodes, block after block, and how many nodes each block has
pub record Shown : Type 0 where
  pub structure : Structure
  pub sizes : List ℕ

-- the address is that of a node
abbrev pub IsHeld : Shown → ℕ → ℕ → Type 0
IsHeld v block offset = offset < slice_index v.sizes block

-- the place of the node at this address: how many nodes stand before it
abbrev pub number_of : Shown → ℕ → ℕ → ℕ
number_of v block offset = sum (take block v.sizes) + offset

-- what an arc of a node of this block leads to
abbrev pub ref_of : Shown → ℕ → Ref → Value
ref_of v block (ref.Atom c) = Atom c.0
ref_of v block (ref.Old at) = Node (number_of v at.block at.offset)
ref_of v block (ref.New k) = Node (number_of v block k)

-- an arc of a node of this block leads to an atom or a node that is there
abbrev pub RefIsHeld : Shown → ℕ → Ref → Type 0
RefIsHeld v block (ref.Atom c) = Unit {0}
RefIsHeld v block (ref.Old at) = IsHeld v at.block at.offset
RefIsHeld v block (ref.New k) = IsHeld v block k

-- the arc that a feature of a node of this block stands for
abbrev pub arc_from : Shown → ℕ → Feature → Arc
arc_from v block f = record { attribute = f.attribute.0; to = ref_of v block f.to }

-- the arcs of a node of this block
abbrev pub arcs_from : Shown → ℕ → List Feature → Arcs
arcs_from v block fs = map (arc_from v block) fs

-- each arc of a node of this block leads to an atom or a node that is there
abbrev pub AllHeld : Shown → ℕ → List Feature → Type 0
AllHeld v block [] = Unit {0}
AllHeld v block (f ∷ fs) = RefIsHeld v block f.to × AllHeld v block fs

-- the value that an arc of a node of this block leads to
abbrev pub resolved : ℕ → Ref → its.Value
resolved block (ref.Atom c) = value.Atom c
resolved block (ref.Old at) = value.Node at
resolved block (ref.New k) = value.Node (record { block = block; offset = k })

-- what a value stands for
abbrev pub value_of : Shown → its.Value → Value
value_of v (value.Atom c) = Atom c.0
value_of v (value.Node at) = Node (number_of v at.block at.offset)

-- the value is an atom or a node that is there
abbrev pub ValueIsHeld : Shown → its.Value → Type 0
ValueIsHeld v (value.Atom c) = Unit {0}
ValueIsHeld v (value.Node at) = IsHeld v at.block at.offset

-- what is shown is a structure, the nodes are those of the blocks, and each node's attributes rise
pub record IsShown (v : Shown) : Type 0 where
  pub structure : IsStructure v.structure
  pub whole : sum v.sizes ≡ length v.structure
  pub rising : (n : ℕ) → IsStrictlyIncreasing (map (λ e. e.attribute) (slice_index_or v.structure n []))
