-- Least values of equations over slots, in blocks of their own.
use Rattle.std.specs.Prelude.{◌≡◌, ℕ, zero, suc, List, [], ◌∷◌, length, Option, Some, None}
use Rattle.patr_model.specs.Structure.{Value, Node, Structure, IsValue, IsStructure, arc}
use Rattle.patr_model.specs.Subsumption.{TakesBoth, IsUnifier}
use Rattle.patr_model.specs.Equation.{Equation}
use Rattle.patr_model.specs.Variants.{variant, RuleAt, IsLeastOf}
use Rattle.patr_arena.specs.declared.value.Ref.{Ref}
use Rattle.patr_arena.specs.declared.value.Ref.TheVariants as ref
use Rattle.patr_arena.specs.declared.value.Feature.{Feature}
use Rattle.patr_arena.specs.declared.value.Addr.{Addr}
use Rattle.patr_arena.specs.declared.value.Value as its
use Rattle.patr_arena.specs.Shown.{Shown, ValueIsHeld, number_of, value_of}
use Rattle.patr_unify.specs.declared.build.Made.{Made}
use Rattle.patr_unify.specs.Copying.{IsMade}
use Rattle.patr_library.specs.Own.{own_nodes, own_value, IsRooted}

-- the arcs of a node of slots, from slot k on
abbrev pub slot_features : ℕ → ℕ → List Feature
slot_features k zero = []
slot_features k (suc n) = record { attribute = record { 0 = k }; to = ref.New k } ∷ slot_features (suc k) n

-- the node of the block is the least value of slots, so many, at which the equations hold
pub record IsLeastAt (slots : ℕ) (es : List Equation) (nodes : List (List Feature)) (root : ℕ) : Type 0 where
  pub rooted : IsRooted nodes (ref.New root)
  pub least : (cs : List ℕ) → length cs ≡ slots → IsLeastOf (RuleAt (variant cs es)) (own_nodes nodes) (Node root)

-- the value has a first slot
abbrev pub HasSlot : Structure → Value → Type 0
HasSlot S v = (x : Value) × (arc S v 0 ≡ Some x)

-- it is a node of its block
abbrev pub IsNew : Ref → Type 0
IsNew (ref.New k) = Unit {0}
IsNew _ = ⊥

-- the equations hold at no slots
abbrev pub HasNone : ℕ → List Equation → Type 0
HasNone slots es = (cs : List ℕ) → length cs ≡ slots → (G : Structure) (v : Value) → IsStructure G → IsValue G v → RuleAt (variant cs es) G v → ⊥

-- a value that stands there and has a first slot, so it is a node
pub record IsSlots (v : Shown) (x : its.Value) : Type 0 where
  pub held : ValueIsHeld v x
  pub slot : HasSlot v.structure (value_of v x)

-- the value is the least value of slots, so many, at which the equations hold
abbrev pub IsLeastIn : Shown → ℕ → List Equation → its.Value → Type 0
IsLeastIn v slots es x = (cs : List ℕ) → length cs ≡ slots → IsLeastOf (RuleAt (variant cs es)) v.structure (value_of v x)

-- the value is a unifier of one that stood there before and of the block's value
pub record IsUnified (v w : Shown) (left : its.Value) (right : List (List Feature)) (r : Ref) (made : its.Value) : Type 0 where
  pub slots : IsSlots w made
  pub unifier : IsUnifier v.structure (value_of v left) [] (own_nodes right) (own_value r) w.structure (value_of w made)

-- what unification made of a node and a value that stand in one arena
abbrev pub IsMadeOf : Shown → Addr → its.Value → Made → Type 0
IsMadeOf v left right m = IsMade v (number_of v left.block left.offset) [] (value_of v right) m.block m.root m.nodes m.arcs

-- no structure takes both, which stand in one arena
abbrev pub HaveNoUnifier : Shown → Addr → its.Value → Type 0
HaveNoUnifier v left right = (G : Structure) (y : Value) → TakesBoth v.structure (Node (number_of v left.block left.offset)) [] v.structure (value_of v right) G y → ⊥

-- a unifier of both, or no structure takes both
abbrev pub AreUnified : Shown → Shown → its.Value → List (List Feature) → Ref → Option its.Value → Type 0
AreUnified v w left right r None = (G : Structure) (y : Value) → TakesBoth v.structure (value_of v left) [] (own_nodes right) (own_value r) G y → ⊥
AreUnified v w left right r (Some made) = IsUnified v w left right r made
