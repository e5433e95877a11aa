-- Blocks one behind another, and what stands before them.
use Rattle.std.specs.Prelude.{◌≡◌, ℕ, ◌+◌, ◌*◌, ◌^◌, ◌<◌, ◌≤◌, List, [], ◌∷◌, ◌++◌, length, slice_index_or, take}
use Rattle.std.specs.List.{sum_by}
use Rattle.patr_arena.specs.declared.value.Feature.{Feature}
use Rattle.patr_arena.specs.Cuts.{AreEndsOf, cut}

-- blocks, and how many blocks and nodes stand before them
pub record Row : Type 0 where
  pub first_block : ℕ
  pub first_node : ℕ
  pub blocks : List (List (List Feature))

-- how many nodes stand before the block k of the row
abbrev pub start : Row → ℕ → ℕ
start row k = row.first_node + sum_by length (take k row.blocks)

-- how many nodes there are, with those before the row
abbrev pub nodes_of : Row → ℕ
nodes_of row = row.first_node + sum_by length row.blocks

-- how many blocks there are, with those before the row
abbrev pub blocks_of : Row → ℕ
blocks_of row = row.first_block + length row.blocks

-- the arcs of the node at this offset of the block k of the row
abbrev pub node_in : Row → ℕ → ℕ → List Feature
node_in row k offset = slice_index_or (slice_index_or row.blocks k []) offset []

-- the row has the node at this offset of its block k
abbrev pub HasNode : Row → ℕ → ℕ → Type 0
HasNode row k offset = (k < length row.blocks) × (offset < length (slice_index_or row.blocks k []))

-- the row with one block more
abbrev pub appended : Row → List (List Feature) → Row
appended row block = record { first_block = row.first_block; first_node = row.first_node; blocks = row.blocks ++ block ∷ [] }

-- the blocks whose nodes are cut out of these arcs, and which are cut out of these nodes
abbrev pub blocks_in : List Feature → List ℕ → List ℕ → List (List (List Feature))
blocks_in features ends node_ends = cut (cut features 0 ends) 0 node_ends

-- how a row is kept: where each node and each block ends, and that the numbers of blocks and nodes fit
pub record IsRow (row : Row) (features : List Feature) (ends : List ℕ) (node_ends : List ℕ) : Type 0 where
  pub blocks_are : row.blocks ≡ blocks_in features ends node_ends
  pub arcs : AreEndsOf features ends
  pub nodes : AreEndsOf (cut features 0 ends) node_ends
  pub few_blocks : blocks_of row < 2 ^ 32
  pub few_nodes : nodes_of row ≤ blocks_of row * 2 ^ 32
