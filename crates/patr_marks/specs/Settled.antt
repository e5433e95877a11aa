-- Settled marks, over the places of both sides in one structure, and what is copied from them.
--     IsSettled       the marks stand for a unifier
--     IsCopy          the copies of these ends
--     IsSparing       whatever may stay where it is was kept
--     IsAlone         a side node that no other one is merged with
--     IsUntouched     a side node that keeps its place
--     IsTidy          what the end of a run has besides
use Rattle.std.specs.Prelude.{◌≡◌, ℕ, zero, suc, ◌+◌, ◌-◌, ◌<◌, ◌⊎◌, Bool, true, false, cond, ◌&&◌, nat_eq, nat_lt, List, [], ◌∷◌, ◌++◌, length, Option, Some, None}
use Rattle.patr_lists.specs.Members.{IsIn}
use Rattle.patr_model.specs.Structure.{Value, Atom, Node, Arcs, Structure, arc, at, IsStructure, IsValue}
use Rattle.patr_model.specs.Subsumption.{IsUnifier}
use Rattle.patr_marks.specs.Machine.{Has, has_attribute, own, Within, Reaches}
use Rattle.patr_marks.specs.Quotient.{Below}
use Rattle.patr_marks.specs.Sides.{shift, sides, IsSide}

-- where the forward at a thing leads, or where it stands
abbrev pub onward : (ℕ → Option Value) → Value → Value
onward f (Atom c) = Atom c
onward f (Node k) = elim (f k) as (λ o. Value) [ None ↦ Node k | Some v ↦ v ]

-- what so many forwards lead to
abbrev pub follow : ℕ → (ℕ → Option Value) → Value → Value
follow zero f v = v
follow (suc n) f v = follow n f (onward f v)

-- no forward stands there
abbrev pub IsFinal : (ℕ → Option Value) → Value → Type 0
IsFinal f (Atom c) = Unit {0}
IsFinal f (Node k) = f k ≡ None

-- the marks of a scratch, over both sides' places
pub record Marks : Type 0 where
  pub forward : ℕ → Option Value
  pub added : ℕ → Arcs

-- a place's own arcs, and then the added ones
abbrev pub marked_arcs : Structure → Marks → ℕ → Arcs
marked_arcs S m k = own (sides S) k ++ m.added k

-- an end that is a place
abbrev pub IsEndNode : Structure → ℕ → Value → Marks → ℕ → Type 0
IsEndNode S l r m k = IsSide S l r k × (m.forward k ≡ None)

-- the marks stand for a unifier
pub record IsSettled (S : Structure) (l : ℕ) (p : List ℕ) (r : Value) (m : Marks) : Type 0 where
  pub unifier : Structure
  pub top : Value
  pub is_unifier : IsUnifier S (Node l) p S r unifier top
  -- after so many forwards each side node is at its end
  pub steps : ℕ
  pub image : Value → Value
  pub atoms : (c : ℕ) → image (Atom c) ≡ Atom c
  pub held : (k : ℕ) → IsSide S l r k → IsValue unifier (image (Node k))
  pub root : image (Node l) ≡ top
  pub right : at unifier top p ≡ Some (image (shift (length S) r))
  pub ended : (k : ℕ) → IsSide S l r k → IsFinal m.forward (follow steps m.forward (Node k)) × Within (IsSide S l r) (follow steps m.forward (Node k)) × (image (follow steps m.forward (Node k)) ≡ image (Node k))
  pub node : (k : ℕ) → IsEndNode S l r m k → (i : ℕ) × (image (Node k) ≡ Node i)
  pub apart : (j k : ℕ) → IsEndNode S l r m j → IsEndNode S l r m k → image (Node j) ≡ image (Node k) → j ≡ k
  pub arcs : (k a : ℕ) (x : Value) → IsEndNode S l r m k → Has (marked_arcs S m k) a x → Within (IsSide S l r) x × (arc unifier (image (Node k)) a ≡ Some (image x))
  pub only : (k a : ℕ) (v : Value) → IsEndNode S l r m k → arc unifier (image (Node k)) a ≡ Some v → (x : Value) × Has (marked_arcs S m k) a x

-- the end of a value
abbrev pub end_by : (S : Structure) (l : ℕ) (p : List ℕ) (r : Value) (m : Marks) → IsSettled S l p r m → Value → Value
end_by S l p r m i v = follow i.steps m.forward v

-- what copy reads: the nodes, ends, arcs, and the places that may be kept
pub record Copying : Type 0 where
  pub nodes : Structure
  pub ends : Value → Value
  pub own : ℕ → Arcs
  pub added : ℕ → Arcs
  pub free : ℕ → Bool

-- a place of either side as a place of the nodes
abbrev pub base : ℕ → Value → Value
base n (Atom c) = Atom c
base n (Node k) = Node (cond (nat_lt k n) k (k - n))

-- whether two values are the same
abbrev pub value_eq : Value → Value → Bool
value_eq (Atom c) (Atom d) = nat_eq c d
value_eq (Atom c) (Node k) = false
value_eq (Node k) (Atom c) = false
value_eq (Node k) (Node j) = nat_eq k j

-- a value, where f says what each place is
abbrev pub through : (ℕ → Value) → Value → Value
through f (Atom c) = Atom c
through f (Node k) = f k

-- each attribute of the first arcs is one of the others
abbrev pub covered : Arcs → Arcs → Bool
covered [] fs = true
covered (e ∷ es) fs = has_attribute fs e.attribute && covered es fs

-- each own arc leads to where it led before
abbrev pub stays : Copying → (ℕ → Value) → Arcs → Bool
stays y f [] = true
stays y f (e ∷ es) = value_eq (through f (y.ends e.to)) (base (length y.nodes) e.to) && stays y f es

-- the end k is kept, where f says what those before it became
abbrev pub keeps : Copying → (ℕ → Value) → ℕ → Bool
keeps y f k = y.free k && (covered (y.added k) (y.own k) && stays y f (y.own k))

-- what the ends became so far, and the new nodes
pub record Copy : Type 0 where
  pub value : ℕ → Value
  pub new : Structure

-- f, changed at one place
abbrev pub put : ℕ → Value → (ℕ → Value) → ℕ → Value
put j v f k = cond (nat_eq j k) v (f k)

-- the arcs, led by g; of each attribute the last one
abbrev pub led_by : (Value → Value) → Arcs → Arcs
led_by g [] = []
led_by g (e ∷ es) = cond (has_attribute es e.attribute) (led_by g es) (record { attribute = e.attribute; to = g e.to } ∷ led_by g es)

-- the end stays at its place
abbrev pub keep_end : Copying → Copy → ℕ → Copy
keep_end y c j = record { value = put j (base (length y.nodes) (Node j)) c.value; new = c.new }

-- the end gets a new node
abbrev pub new_end : Copying → Copy → ℕ → Copy
new_end y c j = record { value = put j (Node ((length y.nodes) + length c.new)) c.value; new = c.new ++ (led_by (λ x. through c.value (y.ends x)) (y.own j ++ y.added j) ∷ []) }

-- one more end is copied
abbrev pub extend : Copying → Copy → ℕ → Copy
extend y c j = cond (keeps y c.value j) (keep_end y c j) (new_end y c j)

-- what copy reads is of S, and of two places of one node the right side's is not free
pub record Fits (P : ℕ → Type 0) (y : Copying) : Type 0 where
  pub structure : IsStructure y.nodes
  pub own_is : (k : ℕ) → y.own k ≡ own (sides y.nodes) k
  pub range : (k : ℕ) → P k → k < length y.nodes + length y.nodes
  pub free_is : (k : ℕ) → P k → P (length y.nodes + k) → k < length y.nodes → y.free (length y.nodes + k) ≡ false

-- a place's own arcs, and then the added ones
abbrev pub all_arcs : Copying → ℕ → Arcs
all_arcs y k = y.own k ++ y.added k

-- the ends that arcs of ends lead to
abbrev pub CopyReach : Copying → ℕ → ℕ → ℕ → Type 0
CopyReach y r zero k = r ≡ k
CopyReach y r (suc n) k = (j : ℕ) × (a : ℕ) × (x : Value) × CopyReach y r n j × Has (all_arcs y j) a x × (y.ends x ≡ Node k)

-- the copies of the ends ks
pub record IsCopy (P : ℕ → Type 0) (y : Copying) (ks : List ℕ) (c : Copy) : Type 0 where
  pub structure : IsStructure (y.nodes ++ c.new)
  pub sides : (k : ℕ) → IsIn ks k → P k
  pub below : (k : ℕ) → IsIn ks k → IsValue (y.nodes ++ c.new) (c.value k)
  pub node : (k : ℕ) → IsIn ks k → ((c.value k ≡ base (length y.nodes) (Node k)) × (y.free k ≡ true)) ⊎ ((i : ℕ) × (c.value k ≡ Node ((length y.nodes) + i)) × (i < length c.new))
  pub apart : (j k : ℕ) → IsIn ks j → IsIn ks k → c.value j ≡ c.value k → j ≡ k
  pub order : (k a : ℕ) (x : Value) → IsIn ks k → Has (all_arcs y k) a x → Below ks (y.ends x)
  pub has : (k a : ℕ) (x : Value) → IsIn ks k → Has (all_arcs y k) a x → (z : Value) × Has (all_arcs y k) a z × (arc (y.nodes ++ c.new) (c.value k) a ≡ Some (through c.value (y.ends z)))
  pub only : (k a : ℕ) (v : Value) → IsIn ks k → arc (y.nodes ++ c.new) (c.value k) a ≡ Some v → (x : Value) × Has (all_arcs y k) a x × (v ≡ through c.value (y.ends x))

-- whatever may stay where it is was kept, and each new node is that of an end
pub record IsSparing (y : Copying) (ks : List ℕ) (c : Copy) : Type 0 where
  pub kept : (k : ℕ) → IsIn ks k → y.free k ≡ true → covered (y.added k) (y.own k) ≡ true → ((a : ℕ) (x : Value) → Has (y.own k) a x → through c.value (y.ends x) ≡ base (length y.nodes) x)
      → c.value k ≡ base (length y.nodes) (Node k)
  pub from_end : (i : ℕ) → i < length c.new → (k : ℕ) × IsIn ks k × (c.value k ≡ Node (length y.nodes + i))

-- the value that a side node goes to
abbrev pub goes_to : Copying → Copy → ℕ → Value
goes_to y c k = through c.value (y.ends (Node k))

-- a side node that is alone: no other one goes where it goes, which is a node with its attributes
pub record IsAlone (P : ℕ → Type 0) (y : Copying) (c : Copy) (k : ℕ) : Type 0 where
  pub side : P k
  pub only_one : (j : ℕ) → P j → goes_to y c j ≡ goes_to y c k → j ≡ k
  pub place : ℕ
  pub node : goes_to y c k ≡ Node place
  pub attributes : (a : ℕ) (v : Value) → arc (y.nodes ++ c.new) (goes_to y c k) a ≡ Some v → (x : Value) × Has (y.own k) a x

-- each place that own arcs lead to is alone and may be kept
abbrev pub IsUntouched : (ℕ → Type 0) → Copying → Copy → ℕ → Type 0
IsUntouched P y c k = (n j : ℕ) → Reaches y.own k n j → IsAlone P y c j × (y.free j ≡ true)

-- What the end of a run has besides: the own arcs of each side node go where those of its image go, no forward stands elsewhere, and added arcs lead to side nodes. With it side nodes go where their paths lead.
pub record IsTidy (S : Structure) (l : ℕ) (p : List ℕ) (r : Value) (m : Marks) (i : IsSettled S l p r m) : Type 0 where
  pub own_arcs : (k a : ℕ) (x : Value) → IsSide S l r k → Has (own (sides S) k) a x → arc i.unifier (i.image (Node k)) a ≡ Some (i.image x)
  pub sides_only : (k : ℕ) (v : Value) → m.forward k ≡ Some v → IsSide S l r k
  pub sides_added : (k a : ℕ) (x : Value) → Has (m.added k) a x → Within (IsSide S l r) x
