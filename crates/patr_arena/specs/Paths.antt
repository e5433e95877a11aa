-- Attributes, arcs found by their attribute, and what a search for a value gives.
use Rattle.std.specs.Prelude.{ℕ, List, [], ◌∷◌, map, cond, nat_eq, Option, Some, None}
use Rattle.patr_model.specs.Structure as structure
use Rattle.patr_text.specs.declared.symbols.Id.{Id}
use Rattle.patr_arena.specs.declared.value.Value.{Value}
use Rattle.patr_arena.specs.declared.value.Ref.{Ref}
use Rattle.patr_arena.specs.declared.value.Feature.{Feature}
use Rattle.patr_arena.specs.Shown.{Shown, ValueIsHeld, value_of}

-- the numbers of a path's attributes
abbrev pub ids : List Id → List ℕ
ids path = map (λ attribute. attribute.0) path

-- where the arc with this attribute leads
abbrev pub feature_to : List Feature → ℕ → Option Ref
feature_to [] a = None
feature_to (f ∷ fs) a = cond (nat_eq f.attribute.0 a) (Some f.to) (feature_to fs a)

-- what a value that may be missing stands for
abbrev pub found_of : Shown → Option Value → Option structure.Value
found_of v None = None
found_of v (Some x) = Some (value_of v x)

-- a value that is not missing is an atom or a node that is there
abbrev pub FoundIsHeld : Shown → Option Value → Type 0
FoundIsHeld v None = Unit {0}
FoundIsHeld v (Some x) = ValueIsHeld v x
