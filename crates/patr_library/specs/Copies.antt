-- A structure's nodes copied into a block.
--     AreReached S x m    the marks of the nodes that are reached from a value
--     IsImage to x r      the arc leads to the copy of the value
--     Corresponds         places and nodes of a block that are copies of one another
use Rattle.std.specs.Prelude.{◌≡◌, ◌↔◌, ℕ, ◌<◌, Bool, true, false, List, [], ◌∷◌, ◌++◌, length, set, slice_index_or, slice_get, get_or, Option, Some, None, is_some}
use Rattle.std.specs.List.{AllByRecursion}
use Rattle.patr_model.specs.Structure.{Value, Atom, Node, Arcs, Structure, IsReached, arcs_of}
use Rattle.patr_arena.specs.declared.value.Addr.{Addr}
use Rattle.patr_arena.specs.Shown.{Shown, number_of}
use Rattle.patr_arena.specs.declared.value.Ref.{Ref}
use Rattle.patr_arena.specs.declared.value.Ref.TheVariants as ref
use Rattle.patr_arena.specs.declared.value.Feature.{Feature}
use Rattle.patr_library.specs.Own.{IsOwnBlock}

-- the arcs of the node at an address
abbrev pub arcs_at : Shown → Addr → Arcs
arcs_at v at = arcs_of v.structure (Node (number_of v at.block at.offset))

-- exactly the nodes that are reached from the value are marked
abbrev pub AreReached : Structure → Value → List Bool → Type 0
AreReached S x marks = (n : ℕ) → (slice_index_or marks n false ≡ true) ↔ IsReached S x n

-- the marks with that of a value, if it is a node
abbrev pub with_mark : List Bool → Value → List Bool
with_mark marks (Atom c) = marks
with_mark marks (Node n) = set marks n true

-- the marks with those of what arcs lead to
abbrev pub with_marks : List Bool → Arcs → List Bool
with_marks marks [] = marks
with_marks marks (e ∷ es) = with_marks (with_mark marks e.to) es

-- the arc leads to the copy of the value
abbrev pub IsImage : (ℕ → Option ℕ) → Value → Ref → Type 0
IsImage to (Atom c) (ref.Atom d) = c ≡ d.0
IsImage to (Node n) (ref.New k) = to n ≡ Some k
IsImage to _ _ = ⊥

-- the arcs of a block's node are those of a place, and lead to copies
abbrev pub AreCopies : (ℕ → Option ℕ) → Arcs → List Feature → Type 0
AreCopies to [] [] = Unit {0}
AreCopies to (e ∷ es) (f ∷ fs) = (e.attribute ≡ f.attribute.0) × IsImage to e.to f.to × AreCopies to es fs
AreCopies to _ _ = ⊥

-- to leads from places of S to the nodes of the block that are their copies, and from leads back
pub record Corresponds (S : Structure) (nodes : List (List Feature)) (to : ℕ → Option ℕ) (from : ℕ → Option ℕ) : Type 0 where
  pub forth : (n k : ℕ) → to n ≡ Some k → (k < length nodes) × (n < length S) × (from k ≡ Some n) × AreCopies to (arcs_of S (Node n)) (slice_index_or nodes k [])
  pub back : (k n : ℕ) → from k ≡ Some n → to n ≡ Some k

-- the copy that a place has
abbrev pub image_at : List (Option ℕ) → ℕ → Option ℕ
image_at images n = get_or images n None

-- the value is an atom, or a node that has a copy
abbrev pub HasCopy : (ℕ → Option ℕ) → Value → Type 0
HasCopy to (Atom c) = Unit {0}
HasCopy to (Node n) = (k : ℕ) × (to n ≡ Some k)

-- whatever the arcs lead to has a copy
abbrev pub HaveCopies : (ℕ → Option ℕ) → Arcs → Type 0
HaveCopies to es = AllByRecursion (λ e. HasCopy to e.to) es

-- one place more has a copy, or none where it is not reached
abbrev pub IsNextImage : Bool → List (Option ℕ) → List (Option ℕ) → Type 0
IsNextImage reached old new = (image : Option ℕ) × (new ≡ old ++ image ∷ []) × (is_some image ≡ reached)

-- the first places have these copies, and no other node is in the block
pub record AreImages (S : Structure) (images : List (Option ℕ)) (nodes : List (List Feature)) : Type 0 where
  pub own : IsOwnBlock nodes
  -- the places that the block's nodes are copies of
  pub origins : List ℕ
  pub long : length origins ≡ length nodes
  pub corresponds : Corresponds S nodes (image_at images) (slice_get origins)
