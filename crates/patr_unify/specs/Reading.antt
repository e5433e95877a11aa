-- What a scratch says of the nodes of both sides, where the right side's places stand behind those of the left.
--     key v p            the place p of a side as a place of both sides
--     value_at v t       what a target stands for
--     forward_of v w k   where the forward of the place k leads
--     added_of v w k     the added arcs of the place k
--     state_of v w log   the state that the scratch stands for
use Rattle.std.specs.Prelude.{◌≡◌, ◌≢◌, ℕ, ◌+◌, ◌-◌, ◌*◌, ◌≤◌, Bool, false, cond, nat_lt, nat_eq, ◌||◌, Option, Some, None, List, [], ◌∷◌, length, get_or}
use Rattle.patr_model.specs.Structure.{Value, Atom, Node, Arcs}
use Rattle.patr_marks.specs.Machine.{Forward, Pair, State}
use Rattle.patr_marks.specs.Settled.{follow, IsFinal}
use Rattle.patr_marks.specs.Sides.{shift, shifted}
use Rattle.patr_text.specs.declared.symbols.Id.{Id}
use Rattle.patr_arena.specs.declared.value.Feature.{Feature}
use Rattle.patr_arena.specs.declared.value.Ref.TheVariants as ref
use Rattle.patr_arena.specs.declared.value.Value as its
use Rattle.patr_arena.specs.declared.value.Value.TheVariants as value
use Rattle.patr_arena.specs.Shown.{Shown, IsHeld, number_of}
use Rattle.patr_scratch.specs.declared.Side.{Side}
use Rattle.patr_scratch.specs.declared.Side.TheVariants as side
use Rattle.patr_scratch.specs.declared.Place.{Place}
use Rattle.patr_scratch.specs.declared.Target.{Target}
use Rattle.patr_scratch.specs.declared.Target.TheVariants as target
use Rattle.patr_scratch.specs.Contents.{Link, PlaceMarks, Contents, unmarked}

-- a place of a side among the places of both sides
abbrev pub behind : Side → ℕ → ℕ → ℕ
behind side.Left n k = k
behind side.Right n k = n + k

-- the place of an address of a side among the places of both sides
abbrev pub key : Shown → Place → ℕ
key v p = behind p.side (length v.structure) (number_of v p.block p.offset)

-- what a target stands for
abbrev pub value_at : Shown → Target → Value
value_at v (target.Atom c) = Atom c
value_at v (target.Place p) = Node (key v p)

-- the target is an atom or a node that is there
abbrev pub TargetIsHeld : Shown → Target → Type 0
TargetIsHeld v (target.Atom c) = Unit {0}
TargetIsHeld v (target.Place p) = IsHeld v p.block p.offset

-- the slot of a place of both sides
abbrev pub slot_of : ℕ → ℕ → ℕ
slot_of n k = cond (nat_lt k n) (2 * k) (2 * (k - n) + 1)

-- the marks in a slot
abbrev pub marks_in : Contents → ℕ → PlaceMarks
marks_in w j = get_or w.places j unmarked

-- the marks of a place of both sides
abbrev pub marks_of : Shown → Contents → ℕ → PlaceMarks
marks_of v w k = marks_in w (slot_of (length v.structure) k)

-- two arcs of nodes have one attribute, and lead to unequal atoms
abbrev pub AreTwoAtoms : Feature → Feature → Type 0
AreTwoAtoms f g = (c d : Id) × (f.to ≡ ref.Atom c) × (g.to ≡ ref.Atom d) × (f.attribute.0 ≡ g.attribute.0) × (c.0 ≢ d.0)

-- what a target that may be missing stands for
abbrev pub option_at : Shown → Option Target → Option Value
option_at v None = None
option_at v (Some t) = Some (value_at v t)

-- where the forward of a place leads
abbrev pub forward_of : Shown → Contents → ℕ → Option Value
forward_of v w k = option_at v (marks_of v w k).forward

-- the arcs that a list of added arcs stands for
abbrev pub arcs_at : Shown → List Link → Arcs
arcs_at v [] = []
arcs_at v (l ∷ ls) = record { attribute = l.attribute; to = value_at v l.to } ∷ arcs_at v ls

-- the added arcs of a place
abbrev pub added_of : Shown → Contents → ℕ → Arcs
added_of v w k = arcs_at v (marks_of v w k).added

-- the pairs that the stack of pairs stands for
abbrev pub pairs_at : Shown → List (Target × Target) → List Pair
pairs_at v [] = []
pairs_at v (p ∷ ps) = record { left = value_at v p.0; right = value_at v p.1 } ∷ pairs_at v ps

-- the state that the scratch stands for, with this log of its forwards
abbrev pub state_of : Shown → Contents → List Forward → State
state_of v w log = record { log = log; added = added_of v w; pending = pairs_at v w.pairs }

-- each added arc leads to an atom or a node that is there
abbrev pub LinksHeld : Shown → List Link → Type 0
LinksHeld v [] = Unit {0}
LinksHeld v (l ∷ ls) = TargetIsHeld v l.to × LinksHeld v ls

-- each pair is of atoms or nodes that are there
abbrev pub PairsHeld : Shown → List (Target × Target) → Type 0
PairsHeld v [] = Unit {0}
PairsHeld v (p ∷ ps) = TargetIsHeld v p.0 × TargetIsHeld v p.1 × PairsHeld v ps

-- a target that is not missing is an atom or a node that is there
abbrev pub OptionIsHeld : Shown → Option Target → Type 0
OptionIsHeld v None = Unit {0}
OptionIsHeld v (Some t) = TargetIsHeld v t

-- the scratch has each place of both sides, and what it leads to is held
pub record AreHeld (v : Shown) (w : Contents) : Type 0 where
  pub room : 2 * length v.structure ≤ length w.places
  pub forwards : (j : ℕ) → OptionIsHeld v (marks_in w j).forward
  pub added : (j : ℕ) → LinksHeld v (marks_in w j).added

-- following the forwards ends, within the room of the pairs
abbrev pub IsEnding : Shown → Contents → Target → Type 0
IsEnding v w t = IsFinal (forward_of v w) (follow w.pair_room (forward_of v w) (value_at v t))

-- what following them leads to
pub record IsEndOf (v : Shown) (w : Contents) (from : Target) (t : Target) : Type 0 where
  pub held : TargetIsHeld v t
  pub last : IsFinal (forward_of v w) (value_at v t)
  pub steps : ℕ
  pub follows : follow steps (forward_of v w) (value_at v from) ≡ value_at v t

-- one of the added arcs has this attribute
abbrev pub has_link : List Link → ℕ → Bool
has_link [] a = false
has_link (l ∷ ls) a = nat_eq l.attribute a || has_link ls a

-- where the first of the added arcs with this attribute leads
abbrev pub link_to : List Link → ℕ → Option Target
link_to [] a = None
link_to (l ∷ ls) a = cond (nat_eq l.attribute a) (Some l.to) (link_to ls a)

-- a side's values and arcs among those of both sides
abbrev pub value_on : Side → ℕ → Value → Value
value_on side.Left n x = x
value_on side.Right n x = shift n x

-- a side's arcs among those of both sides
abbrev pub arcs_on : Side → ℕ → Arcs → Arcs
arcs_on side.Left n es = es
arcs_on side.Right n es = shifted n es

-- the target that a value of a side is
abbrev pub target_on : Side → its.Value → Target
target_on s (value.Atom c) = target.Atom c.0
target_on s (value.Node a) = target.Place (record { side = s; block = a.block; offset = a.offset })
