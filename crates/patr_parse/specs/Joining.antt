-- What two edges come to together.
use Rattle.std.specs.Prelude.{◌≡◌, ◌+◌, ◌≤◌, ℕ, Bool, true, false, Some}
use Rattle.patr_model.specs.Structure.{Value, Structure, arc}
use Rattle.patr_arena.specs.Shown.{Shown}
use Rattle.patr_unify.specs.Deciding.{Counts}

-- two values reach no more nodes and arcs, those that both reach counted twice
abbrev pub AreWithin : Shown → Value → Value → ℕ → ℕ → Type 0
AreWithin v x y nodes arcs = (n a m b : ℕ) → Counts v.structure x n a → Counts v.structure y m b → (n + m ≤ nodes) × (a + b ≤ arcs)

-- the node of the slots has a mother's slot
abbrev pub HasMother : Structure → Value → Type 0
HasMother S u = (m : Value) × (arc S u 0 ≡ Some m)

-- of an edge without missing daughters the mother's slot, and else the node of the slots itself
abbrev pub IsRootBy : Bool → Structure → Value → Value → Type 0
IsRootBy true S u root = arc S u 0 ≡ Some root
IsRootBy false S u root = root ≡ u
