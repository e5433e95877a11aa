-- What a copy is made from, and what it is.
--     copying_by v w     what a copy reads
--     made_of v r        what an arc of the new block leads to
--     HasCopied          what was copied so far
--     IsMade             the copy is a unifier that keeps what is untouched
use Rattle.std.specs.Prelude.{◌≡◌, ◌≢◌, ℕ, ◌+◌, ◌-◌, ◌<◌, ◌≤◌, ◌⊎◌, Bool, true, false, cond, nat_lt, Option, Some, None, List, [], ◌∷◌, ◌++◌, length, map, get_or}
use Rattle.std.specs.List.{insert}
use Rattle.std.specs.List.Sorted.{IsStrictlyIncreasing}
use Rattle.patr_lists.specs.Members.{IsIn}
use Rattle.patr_lists.specs.Numbers.{total}
use Rattle.patr_model.specs.Structure.{Value, Atom, Node, Arcs, Structure, IsReached, arcs_of}
use Rattle.patr_model.specs.Settled.{Images, Keeps}
use Rattle.patr_model.specs.Subsumption.{IsUnifier}
use Rattle.patr_marks.specs.Machine.{Has, own}
use Rattle.patr_marks.specs.Settled.{Copying, IsCopy, IsSparing, base, covered}
use Rattle.patr_marks.specs.Sides.{IsSide, sides}
use Rattle.patr_arena.specs.declared.value.Feature.{Feature}
use Rattle.patr_arena.specs.declared.value.Ref.{Ref}
use Rattle.patr_arena.specs.declared.value.Ref.TheVariants as ref
use Rattle.patr_arena.specs.Blocks.{AllBelow, AllOldHeld, LeadsBelow, OldIsHeld, OldRefIsHeld, attributes, with_block}
use Rattle.patr_arena.specs.Paths.{feature_to}
use Rattle.patr_arena.specs.Shown.{Shown, arcs_from, number_of, ref_of}
use Rattle.patr_scratch.specs.declared.Copied.{Copied}
use Rattle.patr_scratch.specs.declared.Copied.TheVariants as copied
use Rattle.patr_scratch.specs.declared.Visit.{Visit}
use Rattle.patr_scratch.specs.declared.Visit.TheVariants as visit
use Rattle.patr_scratch.specs.Contents.{Contents}
use Rattle.patr_unify.specs.Deciding.{Counts}
use Rattle.patr_unify.specs.Reading.{added_of, forward_of, key, marks_in, marks_of}
use Rattle.patr_unify.specs.Merging.{both}
use Rattle.patr_unify.specs.declared.draft.Draft.{Draft}
use Rattle.patr_scratch.specs.declared.Place.{Place}
use Rattle.patr_unify.specs.Walking.{bare, end_value, visit_of}

-- the right side's node at a place may stay there: the left side's node there has neither a forward nor a visit
abbrev pub stays_free : Option Value → Visit → Bool
stays_free None visit.Unseen = true
stays_free None visit.Entered = false
stays_free None visit.Left = false
stays_free (Some x) state = false

-- whether an end that is not changed may stay at its place
abbrev pub free_of : Shown → Contents → ℕ → Bool
free_of v w k = cond (nat_lt k (length v.structure)) true (stays_free (forward_of v w (k - length v.structure)) (visit_of v w (k - length v.structure)))

-- what a copy reads: the nodes, the ends, the arcs, and which places may stay
abbrev pub copying_by : Shown → Contents → Copying
copying_by v w = record { nodes = v.structure; ends = end_value v w; own = own (sides v.structure); added = added_of v w; free = free_of v w }

-- what an arc of the new block leads to
abbrev pub made_of : Shown → Ref → Value
made_of v r = ref_of v (length v.sizes) r

-- the arc leads to an atom, a node that is there, or one of the first nodes of the new block
abbrev pub Fits : Shown → ℕ → Ref → Type 0
Fits v size r = LeadsBelow size r × OldRefIsHeld v r

-- the arc that leads to a copy
abbrev pub ref_to : Copied → Ref
ref_to (copied.Old block offset) = ref.Old (record { block = block; offset = offset })
ref_to (copied.New k) = ref.New k

-- what a place was copied to
abbrev pub copied_of : Shown → Contents → ℕ → Option Copied
copied_of v w k = (marks_of v w k).copied

-- the mark says that a place was copied to this value
abbrev pub IsCopiedTo : Shown → ℕ → Option Copied → Value → Type 0
IsCopiedTo v size None x = ⊥
IsCopiedTo v size (Some d) x = (made_of v (ref_to d) ≡ x) × Fits v size (ref_to d)

-- a mark of a copy, if there is one, leads to a node that is there or to one of the first nodes of the new block
abbrev pub MarkFits : Shown → ℕ → Option Copied → Type 0
MarkFits v size None = Unit {0}
MarkFits v size (Some d) = Fits v size (ref_to d)

-- the marks of copies lead to nodes that are there and to the first nodes of the new block
abbrev pub CopiesFit : Shown → ℕ → Contents → Type 0
CopiesFit v size w = (j : ℕ) → MarkFits v size (marks_in w j).copied

-- the arc leads to an end's copy
abbrev pub IsEndRef : Shown → Contents → Value → Ref → Type 0
IsEndRef v w (Atom c) r = r ≡ ref.Atom (record { 0 = c })
IsEndRef v w (Node k) r = (d : Copied) → copied_of v w k ≡ Some d → r ≡ ref_to d

-- the arc leads to an old value
abbrev pub IsOld : Shown → Ref → Value → Type 0
IsOld v (ref.Atom c) x = x ≡ Atom c.0
IsOld v (ref.Old at) x = x ≡ Node (number_of v at.block at.offset)
IsOld v (ref.New k) x = ⊥

-- the end of an arc's target was copied to where the arc led before
abbrev pub LeadsAsBefore : Shown → Contents → Value → Type 0
LeadsAsBefore v w x = (r : Ref) × IsEndRef v w (end_value v w x) r × IsOld v r (base (length v.structure) x)

-- the end of an arc's target was copied elsewhere
abbrev pub LeadsElsewhere : Shown → Contents → Value → Type 0
LeadsElsewhere v w x = (r : Ref) × IsEndRef v w (end_value v w x) r × (IsOld v r (base (length v.structure) x) → ⊥)

-- each of the arcs leads where it led before, or one does not
abbrev pub AllLead : Shown → Contents → Arcs → Bool → Type 0
AllLead v w es true = (a : ℕ) (x : Value) → Has es a x → LeadsAsBefore v w x
AllLead v w es false = (a : ℕ) × (x : Value) × Has es a x × LeadsElsewhere v w x

-- an end may stay at its place: nothing else needs the place, it has no new attribute, and its arcs lead where they led before
abbrev pub IsKeptOrNot : Shown → Contents → ℕ → Bool → Type 0
IsKeptOrNot v w k true = (free_of v w k ≡ true) × (covered (added_of v w k) (own (sides v.structure) k) ≡ true) × AllLead v w (own (sides v.structure) k) true
IsKeptOrNot v w k false = (free_of v w k ≡ false) ⊎ ((covered (added_of v w k) (own (sides v.structure) k) ≡ false) ⊎ AllLead v w (own (sides v.structure) k) false)

-- where an arc with this attribute belongs: behind one with a lower attribute, and before one whose attribute is not lower
pub record IsPlaceIn (fs : List Feature) (a : ℕ) (i : ℕ) : Type 0 where
  pub within : i ≤ length fs
  pub above : (d : Feature) → 0 < i → (get_or fs (i - 1) d).attribute.0 < a
  pub below : (d : Feature) → i < length fs → a ≤ (get_or fs i d).attribute.0

-- the arc was put at its place, or one with its attribute was there
abbrev pub IsPut : List Feature → Feature → List Feature → Type 0
IsPut old f new = (i : ℕ) × IsPlaceIn old f.attribute.0 i
    × (((i < length old) × ((d : Feature) → (get_or old i d).attribute.0 ≡ f.attribute.0) × (new ≡ old)) ⊎ (((d : Feature) → i < length old → f.attribute.0 < (get_or old i d).attribute.0) × (new ≡ insert old i f)))

-- the arcs of a new node, to the copies of the ends: of each attribute one, but for the rest of the arcs
pub record IsNodeOf (v : Shown) (w : Contents) (size : ℕ) (es : Arcs) (rest : Arcs) (fs : List Feature) : Type 0 where
  pub only : (a : ℕ) (r : Ref) → feature_to fs a ≡ Some r → (x : Value) × Has es a x × IsEndRef v w (end_value v w x) r
  pub each : (a : ℕ) (x : Value) → Has es a x → Has rest a x ⊎ ((r : Ref) × (feature_to fs a ≡ Some r))
  pub rising : IsStrictlyIncreasing (attributes fs)
  pub below : AllBelow size fs
  pub old : AllOldHeld v fs

-- forwards and added arcs are the same
pub record SameArcs (w : Contents) (t : Contents) : Type 0 where
  pub places : length t.places ≡ length w.places
  pub pair_room : t.pair_room ≡ w.pair_room
  pub forward : (j : ℕ) → (marks_in t j).forward ≡ (marks_in w j).forward
  pub added : (j : ℕ) → (marks_in t j).added ≡ (marks_in w j).added

-- what stays while a copy is made
abbrev pub IsWorked : Contents → Contents → Type 0
IsWorked w t = SameArcs (bare w) (bare t)

-- one place's copy is marked, and no other one
pub record IsCopyMarked (v : Shown) (w : Contents) (t : Contents) (k : ℕ) (d : Copied) : Type 0 where
  pub still : IsWorked w t
  pub arc_room : t.arc_room ≡ w.arc_room
  pub pairs : t.pairs ≡ w.pairs
  pub visits : t.visits ≡ w.visits
  pub visit_room : t.visit_room ≡ w.visit_room
  pub order : t.order ≡ w.order
  pub order_room : t.order_room ≡ w.order_room
  pub visit : (j : ℕ) → (marks_in t j).visit ≡ (marks_in w j).visit
  pub here : copied_of v t k ≡ Some d
  pub others : (j : ℕ) → j ≢ k → copied_of v t j ≡ copied_of v w j
  pub each : (j : ℕ) → ((marks_in t j).copied ≡ Some d) ⊎ ((marks_in t j).copied ≡ (marks_in w j).copied)

-- an end stayed at its place
pub record HasStayed (v : Shown) (w : Contents) (t : Contents) (top : Place) (old : Draft) (new : Draft) : Type 0 where
  pub kept : IsKeptOrNot v w (key v top) true
  pub marked : IsCopyMarked v w t (key v top) (copied.Old top.block top.offset)
  pub block : new.block ≡ old.block
  pub nodes : new.nodes ≡ old.nodes + 1
  pub arcs : new.arcs ≡ old.arcs + length (own (sides v.structure) (key v top))

-- an end got a new node
pub record HasNewNode (v : Shown) (w : Contents) (t : Contents) (top : Place) (old : Draft) (new : Draft) : Type 0 where
  pub changed : IsKeptOrNot v w (key v top) false
  pub features : List Feature
  pub node : IsNodeOf v w (length old.block) (both v w (key v top)) [] features
  pub marked : IsCopyMarked v w t (key v top) (copied.New (length old.block))
  pub block : new.block ≡ old.block ++ features ∷ []
  pub nodes : new.nodes ≡ old.nodes + 1
  pub arcs : new.arcs ≡ old.arcs + length features

-- an end was copied
abbrev pub HasFinished : Shown → Contents → Contents → Place → Draft → Draft → Type 0
HasFinished v w t top old new = HasStayed v w t top old new ⊎ HasNewNode v w t top old new

-- the new nodes
abbrev pub new_nodes : Shown → List (List Feature) → Structure
new_nodes v block = map (arcs_from v (length v.sizes)) block

-- these ends are copied: what each became, as its mark says, and how many nodes and arcs the copies have
pub record HasCopied (v : Shown) (w : Contents) (t : Contents) (l : ℕ) (r : Value) (block : List (List Feature)) (nodes : ℕ) (arcs : ℕ) (ks : List ℕ) : Type 0 where
  pub still : IsWorked w t
  pub order : t.order ≡ w.order
  pub visit : (k : ℕ) → visit_of v t k ≡ visit_of v w k
  pub value : ℕ → Value
  pub copy : IsCopy (IsSide v.structure l r) (copying_by v w) ks (record { value = value; new = new_nodes v block })
  pub sparing : IsSparing (copying_by v w) ks (record { value = value; new = new_nodes v block })
  pub marked : (k : ℕ) → IsIn ks k → IsCopiedTo v (length block) (copied_of v t k) (value k)
  pub fits : CopiesFit v (length block) t
  pub old : OldIsHeld v block
  pub nodes_are : nodes ≡ length ks
  pub arcs_are : arcs ≡ total (λ k. length (arcs_of (v.structure ++ new_nodes v block) (value k))) ks

-- the block and the root are a unifier that keeps the untouched nodes; each new node is reached from the root, and the counts are those of what is reached
pub record IsMade (v : Shown) (l : ℕ) (p : List ℕ) (r : Value) (block : List (List Feature)) (root : Ref) (nodes : ℕ) (arcs : ℕ) : Type 0 where
  pub unifier : IsUnifier v.structure (Node l) p v.structure r (with_block v block).structure (made_of v root)
  pub keeps : (images : Images v.structure (Node l) p v.structure r (with_block v block).structure (made_of v root)) → Keeps v.structure (Node l) p v.structure r (with_block v block).structure (made_of v root) images
  pub reached : (n : ℕ) → n < length block → IsReached (with_block v block).structure (made_of v root) (length v.structure + n)
  pub counts : Counts (with_block v block).structure (made_of v root) nodes arcs
  -- the block's old addresses are held, and so is the root
  pub old : OldIsHeld v block
  pub fits : Fits v (length block) root
