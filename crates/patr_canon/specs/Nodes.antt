-- The symbols of a block's nodes.
use Rattle.std.specs.Prelude.{ℕ, ◌<◌, List}
use Rattle.std.specs.List.{AllByRecursion}
use Rattle.patr_arena.specs.declared.value.Ref.{Ref}
use Rattle.patr_arena.specs.declared.value.Ref.TheVariants as ref
use Rattle.patr_arena.specs.declared.value.Feature.{Feature}

-- an atom is a number below n, and an address is none of an earlier block
abbrev pub IsRefBelow : ℕ → Ref → Type 0
IsRefBelow n (ref.Atom c) = c.0 < n
IsRefBelow n (ref.Old at) = ⊥
IsRefBelow n (ref.New k) = Unit {0}

-- the attributes and atoms of a node are numbers below n, and no arc leads to an earlier block
abbrev pub NodeIsBelow : ℕ → List Feature → Type 0
NodeIsBelow n fs = AllByRecursion (λ f. (f.attribute.0 < n) × IsRefBelow n f.to) fs

-- the attributes and atoms of a block's nodes are numbers below n, and no arc leads to an earlier block
abbrev pub NodesAreBelow : ℕ → List (List Feature) → Type 0
NodesAreBelow n nodes = AllByRecursion (NodeIsBelow n) nodes
