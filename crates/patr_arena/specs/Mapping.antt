-- What the search for a map has found, and what is still to be looked at.
use Rattle.std.specs.Prelude.{◌≡◌, ℕ, ◌+◌, Bool, true, false, List, [], ◌∷◌, ◌++◌, length, map, Option, Some, None, nat_eq}
use Rattle.std.specs.HashMap as hash
use Rattle.std.specs.HashMap.{HashMap}
use Rattle.patr_model.specs.Structure as structure
use Rattle.patr_model.specs.Structure.{Node, IsValue, arcs_of}
use Rattle.patr_model.specs.Subsumption.{MapsInto}
use Rattle.patr_model.specs.Pairs.{IsOnPairs, Pair, left_over, pair, pairs_of}
use Rattle.patr_arena.specs.declared.value.Value.{Value}
use Rattle.patr_arena.specs.Paths.{FoundIsHeld, found_of}
use Rattle.patr_arena.specs.Shown.{Shown, ValueIsHeld, value_of}

-- the pairs that are still to be looked at
abbrev pub pairs_at : Shown → List (Value × Value) → List Pair
pairs_at v waiting = map (λ p. pair (value_of v p.0) (value_of v p.1)) waiting

-- both values of each pair are held
abbrev pub PairsAreHeld : Shown → List (Value × Value) → Type 0
PairsAreHeld v [] = Unit {0}
PairsAreHeld v (p ∷ ps) = ValueIsHeld v p.0 × ValueIsHeld v p.1 × PairsAreHeld v ps

-- the images of the nodes by their places
abbrev pub images_at : {S : Type 0} → Shown → HashMap ℕ Value S → ℕ → Option structure.Value
images_at v images n = found_of v (hash.get nat_eq images n)

-- the images are held
abbrev pub ImagesAreHeld : {S : Type 0} → Shown → HashMap ℕ Value S → Type 0
ImagesAreHeld v images = (n : ℕ) → FoundIsHeld v (hash.get nat_eq images n)

-- each arc of the node of the first value has its pair in new, or the second value lacks an attribute
abbrev pub HasPushed : Shown → ℕ → Value → List (Value × Value) → List (Value × Value) → Bool → Type 0
HasPushed v n y old new true = (qs : List Pair) × (pairs_of v.structure (value_of v y) (arcs_of v.structure (Node n)) ≡ Some qs) × (pairs_at v new ≡ pairs_at v old ++ qs) × PairsAreHeld v new
HasPushed v n y old new false = pairs_of v.structure (value_of v y) (arcs_of v.structure (Node n)) ≡ None

-- a pair was looked at: what is known and what is left
pub record IsLookedAt {S : Type 0} (v : Shown) (images : HashMap ℕ Value S) (now : HashMap ℕ Value S) (x : Value) (y : Value) (waiting : List (Value × Value)) (rest : List (Value × Value)) : Type 0 where
  pub images_held : ImagesAreHeld v now
  pub pairs_held : PairsAreHeld v rest
  pub pairs : (from to : structure.Value) → IsValue v.structure to → IsOnPairs v.structure from v.structure to (images_at v images) (pair (value_of v x) (value_of v y) ∷ pairs_at v waiting)
      → IsOnPairs v.structure from v.structure to (images_at v now) (pairs_at v rest)
  pub fewer : length rest + left_over (images_at v now) 0 v.structure ≡ length waiting + left_over (images_at v images) 0 v.structure

-- a pair was looked at, or it shows that there is no map
abbrev pub IsSettled : {S : Type 0} → Shown → HashMap ℕ Value S → HashMap ℕ Value S → Value → Value → List (Value × Value) → List (Value × Value) → Bool → Type 0
IsSettled v images now x y waiting rest true = IsLookedAt v images now x y waiting rest
IsSettled v images now x y waiting rest false =
    (from to : structure.Value) → IsValue v.structure to → IsOnPairs v.structure from v.structure to (images_at v images) (pair (value_of v x) (value_of v y) ∷ pairs_at v waiting)
    → MapsInto v.structure from v.structure to → ⊥
