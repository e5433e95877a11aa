-- Blocks without old addresses, as structures of their own.
--     own_nodes b       the nodes of the block as a structure
--     pointed b r       the structure and a value of it
--     IsOwnBlock b      its arcs lead to atoms and to earlier nodes of it
use Rattle.std.specs.Prelude.{◌≡◌, ℕ, zero, suc, ◌+◌, ◌<◌, ◌≤◌, List, [], ◌∷◌, ◌++◌, length, map, slice_index_or, slice_get, ◌⊎◌, Option, Some, None}
use Rattle.patr_model.specs.Structure.{Value, Atom, Node, Arc, Arcs, Structure}
use Rattle.patr_model.specs.Subsumption.{Same}
use Rattle.patr_model.specs.Equation as model
use Rattle.patr_model.specs.EquationStructures.{Pointed, led, one_place}
use Rattle.patr_model.specs.Variants.{equation_at}
use Rattle.patr_arena.specs.declared.value.Ref.{Ref}
use Rattle.patr_arena.specs.declared.value.Ref.TheVariants as ref
use Rattle.patr_arena.specs.declared.value.Feature.{Feature}
use Rattle.patr_arena.specs.declared.value.Addr.{Addr}
use Rattle.patr_arena.specs.Shown.{Shown, IsHeld, number_of}
use Rattle.patr_arena.specs.Blocks.{IsBlock}

-- what an arc of a block leads to, in the block's own structure
abbrev pub own_value : Ref → Value
own_value (ref.Atom c) = Atom c.0
own_value (ref.Old at) = Node at.offset
own_value (ref.New k) = Node k

-- an arc of a block
abbrev pub own_arc : Feature → Arc
own_arc f = record { attribute = f.attribute.0; to = own_value f.to }

-- the arcs of a node of a block
abbrev pub own_arcs : List Feature → Arcs
own_arcs fs = map own_arc fs

-- the nodes of a block
abbrev pub own_nodes : List (List Feature) → Structure
own_nodes nodes = map own_arcs nodes

-- a block's structure, and a value of it
abbrev pub pointed : List (List Feature) → Ref → Pointed
pointed nodes r = record { nodes = own_nodes nodes; root = own_value r }

-- it leads to an atom, or to one of the first n nodes of the block
abbrev pub IsOwn : ℕ → Ref → Type 0
IsOwn n (ref.Atom c) = Unit {0}
IsOwn n (ref.Old at) = ⊥
IsOwn n (ref.New k) = k < n

-- each arc leads to an atom, or to one of the first n nodes of the block
abbrev pub AllOwn : ℕ → List Feature → Type 0
AllOwn n [] = Unit {0}
AllOwn n (f ∷ fs) = IsOwn n f.to × AllOwn n fs

-- attributes rise in each node, and arcs lead to atoms and to earlier nodes of the block
pub record IsOwnBlock (nodes : List (List Feature)) : Type 0 where
  pub block : IsBlock nodes
  pub own : (n : ℕ) → AllOwn n (slice_index_or nodes n [])

-- a block with a value of it
pub record IsRooted (nodes : List (List Feature)) (r : Ref) : Type 0 where
  pub own : IsOwnBlock nodes
  pub root : IsOwn (length nodes) r

-- nodes along a path to a value were put behind the others
pub record IsLedTo (old : List (List Feature)) (to : Ref) (path : List ℕ) (new : List (List Feature)) (root : Ref) : Type 0 where
  pub rooted : IsRooted new root
  pub longer : (more : List (List Feature)) × (new ≡ old ++ more)
  pub is : led (own_nodes old) (own_value to) path ≡ pointed new root

-- below nodes along a path
abbrev pub led_all : List ℕ → Option Pointed → Option Pointed
led_all c None = None
led_all c (Some x) = Some (led x.nodes x.root c)

-- the paths do not begin with the same attribute
abbrev pub ArePartedAt : List ℕ → List ℕ → Type 0
ArePartedAt (a ∷ p) (b ∷ q) = a ≡ b → ⊥
ArePartedAt _ _ = Unit {0}

-- the structure of two paths to one place, in either order
abbrev pub IsPlaceOf : List ℕ → List ℕ → Pointed → Type 0
IsPlaceOf p q x = (one_place p q ≡ Some x) ⊎ (one_place q p ≡ Some x)

-- both are one structure but for the order of nodes and for nodes that are not reached
pub record IsStatement (e : model.Equation) (x : Pointed) : Type 0 where
  pub stated : Pointed
  pub is : equation_at e ≡ Some stated
  pub same : Same stated.nodes stated.root x.nodes x.root

-- each place has its address
pub record ArePlaces (v : Shown) (places : List Addr) : Type 0 where
  pub long : length places ≡ length v.structure
  pub each : (n : ℕ) (at : Addr) → slice_get places n ≡ Some at → IsHeld v at.block at.offset × (number_of v at.block at.offset ≡ n)

-- the addresses of the first nodes of a block, from a place on
abbrev pub offsets_of : ℕ → ℕ → ℕ → List Addr
offsets_of block k zero = []
offsets_of block k (suc n) = record { block = block; offset = k } ∷ offsets_of block (suc k) n

-- behind the addresses stand those of the first nodes of a block
abbrev pub ArePlacesUpTo : ℕ → ℕ → List Addr → List Addr → Type 0
ArePlacesUpTo block n old new = new ≡ old ++ offsets_of block 0 n

-- what an arc of a block leads to in a structure in which the block's nodes stand from a place on
abbrev pub shift : ℕ → Ref → Value
shift p (ref.Atom c) = Atom c.0
shift p (ref.Old at) = Node at.offset
shift p (ref.New k) = Node (p + k)

-- the arcs of a node there
abbrev pub shifted : ℕ → List Feature → Arcs
shifted p fs = map (λ f. record { attribute = f.attribute.0; to = shift p f.to }) fs

-- the block's nodes stand in the structure from a place on
pub record IsPlacedAt (S : Structure) (p : ℕ) (nodes : List (List Feature)) : Type 0 where
  pub within : p + length nodes ≤ length S
  pub each : (k : ℕ) → k < length nodes → slice_index_or S (p + k) [] ≡ shifted p (slice_index_or nodes k [])
