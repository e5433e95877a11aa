-- The count of what a value reaches.
--     IsReaching     a list of nodes that are reached, where what their arcs lead to is in it or waits
--     seen_in        whether a number was visited
--     IsCounting     the same of the visited nodes and a list of values
--     IsLookedAt     what a look at one value leaves
use Rattle.std.specs.Prelude.{◌≡◌, ℕ, ◌+◌, ◌≤◌, ◌⊎◌, Bool, true, false, cond, Some, List, [], ◌∷◌, ◌++◌, length, map}
use Rattle.patr_lists.specs.Members.{NoRepeats, IsIn}
use Rattle.patr_lists.specs.Numbers.{total, upto}
use Rattle.patr_model.specs.Structure.{Value, Atom, Node, Arcs, Structure, arc, at, IsReached}
use Rattle.patr_marks.specs.Machine.{own}
use Rattle.patr_arena.specs.declared.value.Value as its
use Rattle.patr_arena.specs.Shown.{Shown, ValueIsHeld, value_of}
use Rattle.patr_scratch.specs.declared.Side.TheVariants as side
use Rattle.patr_scratch.specs.declared.Visit.{Visit}
use Rattle.patr_scratch.specs.declared.Visit.TheVariants as visit
use Rattle.patr_scratch.specs.Contents.{Contents, marks}
use Rattle.patr_unify.specs.declared.reach.Reach.{Reach}

-- what the arcs lead to
abbrev pub targets : Arcs → List Value
targets es = map (λ e. e.to) es

-- what a list of values stands for
abbrev pub values : Shown → List its.Value → List Value
values v xs = map (value_of v) xs

-- each value is an atom or a node that is there
abbrev pub ValuesHeld : Shown → List its.Value → Type 0
ValuesHeld v [] = Unit {0}
ValuesHeld v (x ∷ xs) = ValueIsHeld v x × ValuesHeld v xs

-- an atom, or a node that is in the one list or in the other
abbrev pub IsNoted : List ℕ → List Value → Value → Type 0
IsNoted ks ws (Atom c) = Unit {0}
IsNoted ks ws (Node k) = IsIn ks k ⊎ IsIn ws (Node k)

-- nodes that are reached, each once; what their arcs lead to is in the list or waits
pub record IsReaching (S : Structure) (x : Value) (ks : List ℕ) (ws : List Value) : Type 0 where
  pub once : NoRepeats ks
  pub reached : (k : ℕ) → IsIn ks k → IsReached S x k
  pub waits : (y : Value) → IsIn ws y → (p : List ℕ) × (at S x p ≡ Some y)
  pub first : IsNoted ks ws x
  pub closed : (k a : ℕ) (y : Value) → IsIn ks k → arc S (Node k) a ≡ Some y → IsNoted ks ws y

-- whether the walk has come to a place with this visit
abbrev pub is_seen : Visit → Bool
is_seen visit.Unseen = false
is_seen visit.Entered = true
is_seen visit.Left = true

abbrev pub seen_in : Contents → ℕ → Bool
seen_in w k = is_seen (marks w side.Left k).visit

-- what was seen are such nodes, so many, the values that wait are held, and the nodes have so many arcs
pub record IsCounting (v : Shown) (seen : ℕ → Bool) (x : Value) (ws : List its.Value) (reach : Reach) : Type 0 where
  pub list : List ℕ
  pub reaching : IsReaching v.structure x list (values v ws)
  pub in_list : (k : ℕ) → seen k ≡ true → IsIn list k
  pub in_set : (k : ℕ) → IsIn list k → seen k ≡ true
  pub nodes_are : length list ≡ reach.nodes
  pub arcs_are : total (λ k. length (own v.structure k)) list ≡ reach.arcs

-- how many arcs the nodes have that were not seen
abbrev pub unseen_arcs : Shown → (ℕ → Bool) → ℕ
unseen_arcs v seen = total (λ k. cond (seen k) 0 (length (own v.structure k))) (upto (length v.structure))

-- the value was looked at: it no longer waits, and it is counted
pub record IsLookedAt (v : Shown) (seen now : ℕ → Bool) (value : its.Value) (waiting rest : List its.Value) (old new : Reach) : Type 0 where
  pub held : ValuesHeld v rest
  pub counts : (x : Value) → IsCounting v seen x (waiting ++ value ∷ []) old → IsCounting v now x rest new
  pub fewer : length rest + unseen_arcs v now ≤ length waiting + unseen_arcs v seen
