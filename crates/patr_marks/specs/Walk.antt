-- The walk over the ends that are places, depth first.
use Rattle.std.specs.Prelude.{◌≡◌, ℕ, zero, suc, ◌⊎◌, List, [], ◌∷◌}
use Rattle.patr_lists.specs.Members.{NoRepeats, IsIn}
use Rattle.patr_model.specs.Structure.{Value, Node, Structure}
use Rattle.patr_marks.specs.Machine.{ends, Has, State, arcs_at, IsEnd}
use Rattle.patr_marks.specs.Quotient.{IsOrder}

-- an arc of the end j leads to the end k
abbrev pub Leads : Structure → State → ℕ → ℕ → Type 0
Leads D s j k = (a : ℕ) × (x : Value) × Has (arcs_at D s j) a x × (ends s.log x ≡ Node k)

-- an arc of the first of these ends leads to the end k
abbrev pub LeadsFrom : Structure → State → List ℕ → ℕ → Type 0
LeadsFrom D s [] k = Unit {0}
LeadsFrom D s (j ∷ js) k = Leads D s j k

-- each end of the stack is reached by an arc of the one below it; the top stands first
abbrev pub IsChain : Structure → State → List ℕ → Type 0
IsChain D s [] = Unit {0}
IsChain D s (k ∷ ks) = LeadsFrom D s ks k × IsChain D s ks

-- an end that n arcs of ends lead to
abbrev pub ReachedIn : Structure → State → ℕ → ℕ → ℕ → Type 0
ReachedIn D s r zero k = r ≡ k
ReachedIn D s r (suc n) k = (j : ℕ) × ReachedIn D s r n j × Leads D s j k

-- the walk from the end r: what it has left, the last one first, and what it is in
pub record IsWalk (D : Structure) (s : State) (r : ℕ) (stack : List ℕ) (order : List ℕ) : Type 0 where
  pub ordered : IsOrder D s order
  pub chain : IsChain D s stack
  pub ends : (k : ℕ) → IsIn stack k → IsEnd s k
  pub once : NoRepeats stack
  pub apart : (k : ℕ) → IsIn stack k → IsIn order k → ⊥
  pub root : IsIn order r ⊎ IsIn stack r
  pub reached : (k : ℕ) → IsIn order k ⊎ IsIn stack k → (n : ℕ) × ReachedIn D s r n k
