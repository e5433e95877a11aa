-- Unification by forwards, as a machine over plain data.
--     ends log v       what following the forwards leads to
--     arcs_at D s k    the arcs of a place: its own and its added ones
--     IsMerge, IsBind, IsSkip, IsClash   what becomes of a state as one pair is worked off
--     IsMarked, IsWithin, IsForced       what holds at each moment
-- D is one structure that holds both sides, the right one behind the left one.
use Rattle.std.specs.Prelude.{◌≡◌, ◌≢◌, ℕ, zero, suc, ◌⊎◌, Bool, false, cond, ◌||◌, List, [], ◌∷◌, ◌++◌, length, Option, Some, None, nat_eq}
use Rattle.patr_model.specs.Structure.{Value, Atom, Node, Arcs, Structure, along, arcs_of}

-- a forward: the place that it stands at, and where it leads
pub record Forward : Type 0 where
  pub from : ℕ
  pub to : Value

-- two values that have to be one
pub record Pair : Type 0 where
  pub left : Value
  pub right : Value

-- the value, or where the forward leads that stands at it
abbrev pub redirect : Forward → Value → Value
redirect e (Atom c) = Atom c
redirect e (Node k) = cond (nat_eq k e.from) e.to (Node k)

-- what following the forwards leads to; the newest stands first
abbrev pub ends : List Forward → Value → Value
ends [] v = v
ends (e ∷ log) v = redirect e (ends log v)

-- each forward was made at an end, and leads to another end
abbrev pub IsLog : List Forward → Type 0
IsLog [] = Unit {0}
IsLog (e ∷ log) = (ends log (Node e.from) ≡ Node e.from) × (ends log e.to ≡ e.to) × (e.to ≢ Node e.from) × IsLog log

-- a value for each node that is one along each forward, and for each pair
abbrev pub Agrees : (Value → Value) → List Forward → Type 0
Agrees m [] = Unit {0}
Agrees m (e ∷ log) = (m (Node e.from) ≡ m e.to) × Agrees m log

-- the two values of each pair have one value
abbrev pub Meets : (Value → Value) → List Pair → Type 0
Meets m [] = Unit {0}
Meets m (p ∷ ps) = (m p.left ≡ m p.right) × Meets m ps

-- an arc of the list
abbrev pub Has : Arcs → ℕ → Value → Type 0
Has [] a x = ⊥
Has (e ∷ es) a x = ((e.attribute ≡ a) × (e.to ≡ x)) ⊎ Has es a x

-- one of the arcs has this attribute
abbrev pub has_attribute : Arcs → ℕ → Bool
has_attribute [] a = false
has_attribute (e ∷ es) a = nat_eq e.attribute a || has_attribute es a

-- one more pair, where there is a value to pair with
abbrev pub pair_with : Option Value → Value → List Pair → List Pair
pair_with None x ps = ps
pair_with (Some y) x ps = record { left = x; right = y } ∷ ps

-- the pairs of the targets of two nodes' arcs, one for each attribute of both: the first node's last arc of it, and the other's first
abbrev pub matches : Arcs → Arcs → List Pair
matches [] bs = []
matches (e ∷ es) bs = cond (has_attribute es e.attribute) (matches es bs) (pair_with (along bs e.attribute) e.to (matches es bs))

-- the arcs of the first list whose attributes neither its rest nor the others have
abbrev pub missing : Arcs → Arcs → Arcs → Arcs
missing [] later bs = []
missing (e ∷ es) later bs = cond (has_attribute (es ++ later) e.attribute || has_attribute bs e.attribute) (missing es later bs) (e ∷ missing es later bs)

-- what stands while pairs are worked off
pub record State : Type 0 where
  pub log : List Forward
  pub added : ℕ → Arcs
  pub pending : List Pair

-- the arcs that a node has in the structure
abbrev pub own : Structure → ℕ → Arcs
own D k = arcs_of D (Node k)

-- the arcs of a place: its own, and then the added ones
abbrev pub arcs_at : Structure → State → ℕ → Arcs
arcs_at D s k = own D k ++ s.added k

-- no forward stands at the place
abbrev pub IsEnd : State → ℕ → Type 0
IsEnd s k = ends s.log (Node k) ≡ Node k

-- the end of a pair's one side is v, and that of its other side w
abbrev pub Ends : State → Pair → Value → Value → Type 0
Ends s p v w = ((ends s.log p.left ≡ v) × (ends s.log p.right ≡ w)) ⊎ ((ends s.log p.left ≡ w) × (ends s.log p.right ≡ v))

-- the last pair is worked off, its ends being places: the place A is forwarded to the place B
pub record IsMerge (D : Structure) (s : State) (t : State) (A : ℕ) (B : ℕ) (rest : List Pair) (p : Pair) : Type 0 where
  pub popped : s.pending ≡ rest ++ (p ∷ [])
  pub ends_are : Ends s p (Node A) (Node B)
  pub apart : A ≢ B
  pub from_end : IsEnd s A
  pub to_end : IsEnd s B
  pub log : t.log ≡ record { from = A; to = Node B } ∷ s.log
  pub pending : t.pending ≡ rest ++ matches (arcs_at D s A) (arcs_at D s B)
  pub emptied : t.added A ≡ []
  pub others : (k : ℕ) → k ≢ A → k ≢ B → t.added k ≡ s.added k
  -- in whatever order: what A had added, what B lacked, and what B had added
  pub only : (a : ℕ) (x : Value) → Has (t.added B) a x → Has (s.added A ++ (missing (own D A) (s.added A) (arcs_at D s B) ++ s.added B)) a x
  pub each : (a : ℕ) (x : Value) → Has (s.added A ++ (missing (own D A) (s.added A) (arcs_at D s B) ++ s.added B)) a x → Has (t.added B) a x

-- the last pair is worked off, its ends being a place without arcs and an atom
pub record IsBind (D : Structure) (s : State) (t : State) (A : ℕ) (c : ℕ) (rest : List Pair) (p : Pair) : Type 0 where
  pub popped : s.pending ≡ rest ++ (p ∷ [])
  pub ends_are : Ends s p (Node A) (Atom c)
  pub from_end : IsEnd s A
  pub bare : arcs_at D s A ≡ []
  pub log : t.log ≡ record { from = A; to = Atom c } ∷ s.log
  pub pending : t.pending ≡ rest
  pub others : (k : ℕ) → t.added k ≡ s.added k

-- the last pair is worked off, its ends being the same
pub record IsSkip (s : State) (t : State) (rest : List Pair) (p : Pair) : Type 0 where
  pub popped : s.pending ≡ rest ++ (p ∷ [])
  pub same : ends s.log p.left ≡ ends s.log p.right
  pub log : t.log ≡ s.log
  pub pending : t.pending ≡ rest
  pub others : (k : ℕ) → t.added k ≡ s.added k

-- arcs of both lists have one attribute, and lead to unequal atoms
abbrev pub HaveTwoAtoms : Arcs → Arcs → Type 0
HaveTwoAtoms es fs = (a c d : ℕ) × Has es a (Atom c) × Has fs a (Atom d) × (c ≢ d)

-- no structure takes the last pair: two atoms, an atom and a node with an arc, or two nodes with own arcs to unequal atoms
pub record IsClash (D : Structure) (s : State) (rest : List Pair) (p : Pair) : Type 0 where
  pub popped : s.pending ≡ rest ++ (p ∷ [])
  pub clash : ((c d : ℕ) × Ends s p (Atom c) (Atom d) × (c ≢ d))
      ⊎ (((A c a : ℕ) × (x : Value) × Ends s p (Node A) (Atom c) × Has (arcs_at D s A) a x)
      ⊎ ((A B : ℕ) × Ends s p (Node A) (Node B) × HaveTwoAtoms (own D A) (own D B)))

-- whoever agrees with the forwards and the pending pairs has one value for both
abbrev pub Tied : State → Value → Value → Type 0
Tied s x y = (m : Value → Value) → Agrees m s.log → Meets m s.pending → m x ≡ m y

-- what holds at each moment
pub record IsMarked (D : Structure) (s : State) : Type 0 where
  pub is_log : IsLog s.log
  -- two arcs of an end with one attribute lead to one thing
  pub one : (k a : ℕ) (x y : Value) → IsEnd s k → Has (arcs_at D s k) a x → Has (arcs_at D s k) a y → Tied s x y
  -- the arcs of a place are arcs of its end
  pub carried : (k j a : ℕ) (x : Value) → ends s.log (Node k) ≡ Node j → Has (own D k) a x → (y : Value) × Has (arcs_at D s j) a y × Tied s x y
  -- a place that became an atom had no arcs
  pub bare : (k c a : ℕ) (x : Value) → ends s.log (Node k) ≡ Atom c → Has (own D k) a x → ⊥

-- a value of D that is an atom, or a place for which P holds
abbrev pub Within : (ℕ → Type 0) → Value → Type 0
Within P (Atom c) = Unit {0}
Within P (Node k) = P k

-- the forwards stand at places for which P holds, and lead to such
abbrev pub LogWithin : (ℕ → Type 0) → List Forward → Type 0
LogWithin P [] = Unit {0}
LogWithin P (e ∷ log) = P e.from × Within P e.to × LogWithin P log

-- the pairs are of such values
abbrev pub PairsWithin : (ℕ → Type 0) → List Pair → Type 0
PairsWithin P [] = Unit {0}
PairsWithin P (p ∷ ps) = Within P p.left × Within P p.right × PairsWithin P ps

-- the marks stand at places for which P holds, and lead to such
pub record IsWithin (P : ℕ → Type 0) (s : State) : Type 0 where
  pub log : LogWithin P s.log
  pub pending : PairsWithin P s.pending
  pub added : (k a : ℕ) (x : Value) → Has (s.added k) a x → P k × Within P x

-- the places for which P holds are closed along their arcs
abbrev pub IsClosed : Structure → (ℕ → Type 0) → Type 0
IsClosed D P = (k a : ℕ) (x : Value) → P k → Has (own D k) a x → Within P x

-- M takes the places for which P holds into the structure G
pub record Takes (D : Structure) (P : ℕ → Type 0) (G : Structure) (M : Value → Value) : Type 0 where
  pub atoms : (c : ℕ) → M (Atom c) ≡ Atom c
  pub arcs : (k a : ℕ) (x : Value) → P k → Has (own D k) a x → along (arcs_of G (M (Node k))) a ≡ Some (M x)

-- and it respects the marks
pub record IsForced (G : Structure) (M : Value → Value) (s : State) : Type 0 where
  pub log : Agrees M s.log
  pub pending : Meets M s.pending
  pub added : (k a : ℕ) (x : Value) → Has (s.added k) a x → along (arcs_of G (M (Node k))) a ≡ Some (M x)

-- how many attributes the arcs have
abbrev pub degree : Arcs → ℕ
degree [] = 0
degree (e ∷ es) = cond (has_attribute es e.attribute) (degree es) (suc (degree es))

-- a forward stands at the place
abbrev pub is_forwarded : List Forward → ℕ → Bool
is_forwarded [] k = false
is_forwarded (e ∷ log) k = nat_eq k e.from || is_forwarded log k

-- the forward that stands at a place
abbrev pub lookup : List Forward → ℕ → Option Value
lookup [] k = None
lookup (e ∷ log) k = cond (nat_eq k e.from) (Some e.to) (lookup log k)

-- the number of attributes of an end's arcs, and nothing for a place that was forwarded
abbrev pub weight : Structure → State → ℕ → ℕ
weight D s k = cond (is_forwarded s.log k) 0 (degree (arcs_at D s k))

-- the number of own arcs of a place that was not forwarded
abbrev pub left_over : Structure → State → ℕ → ℕ
left_over D s k = cond (is_forwarded s.log k) 0 (length (own D k))

-- so many of these arcs lead from the place k to the place j
abbrev pub Reaches : (ℕ → Arcs) → ℕ → ℕ → ℕ → Type 0
Reaches f k zero j = k ≡ j
Reaches f k (suc n) j = (i a : ℕ) × Has (f k) a (Node i) × Reaches f i n j
