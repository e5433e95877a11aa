-- How far forwards are followed.
use Rattle.std.specs.Prelude.{◌≡◌, ℕ, zero, suc, Bool, true, false, cond, Option, Some, None}
use Rattle.patr_model.specs.Structure.{Value, Atom, Node}
use Rattle.patr_marks.specs.Settled.{onward}
use Rattle.patr_arena.specs.Shown.{Shown, number_of}
use Rattle.patr_scratch.specs.declared.Target.{Target}
use Rattle.patr_scratch.specs.declared.Target.TheVariants as target
use Rattle.patr_scratch.specs.Contents.{Contents}
use Rattle.patr_unify.specs.declared.ends.End.{End}
use Rattle.patr_unify.specs.declared.ends.End.TheVariants as end
use Rattle.patr_unify.specs.Reading.{IsEndOf}

-- there is a value
abbrev pub is_some : Option Value → Bool
is_some None = false
is_some (Some v) = true

-- a forward stands at the value
abbrev pub goes_on : (ℕ → Option Value) → Value → Bool
goes_on f (Atom c) = false
goes_on f (Node k) = is_some (f k)

-- how many forwards are followed, at most n
abbrev pub chain : ℕ → (ℕ → Option Value) → Value → ℕ
chain zero f v = 0
chain (suc n) f v = cond (goes_on f v) (suc (chain n f (onward f v))) 0

-- what following the forwards leads to, and a place's number
abbrev pub IsEndAt : Shown → Contents → Target → End → Type 0
IsEndAt v w from (end.Atom c) = IsEndOf v w from (target.Atom c)
IsEndAt v w from (end.Place p n) = IsEndOf v w from (target.Place p) × (n ≡ number_of v p.block p.offset)
