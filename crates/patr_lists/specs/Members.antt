-- Members of lists.
use Rattle.std.specs.Prelude.{◌≡◌, ◌⊎◌, List, [], ◌∷◌}

-- the list has this member
abbrev pub IsIn : {X : Type 0} → List X → X → Type 0
IsIn [] x = ⊥
IsIn (y ∷ ys) x = (y ≡ x) ⊎ IsIn ys x

-- no member stands twice in the list
abbrev pub NoRepeats : {X : Type 0} → List X → Type 0
NoRepeats [] = Unit {0}
NoRepeats (x ∷ xs) = (IsIn xs x → ⊥) × NoRepeats xs
