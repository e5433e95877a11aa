-- What is done with one pair.
use Rattle.std.specs.Prelude.{◌≡◌, ◌≢◌, ℕ, suc, ◌+◌, ◌*◌, ◌<◌, ◌≤◌, ◌⊎◌, Bool, true, false, cond, Some, None, List, [], ◌∷◌, ◌++◌, length}
use Rattle.patr_lists.specs.Members.{NoRepeats, IsIn}
use Rattle.patr_lists.specs.Numbers.{total}
use Rattle.patr_model.specs.Structure.{Value, Node}
use Rattle.patr_marks.specs.Machine.{Forward, Pair, State, Has, IsLog, Ends, IsMerge, IsBind, IsSkip, IsClash, own, weight, left_over, degree, lookup}
use Rattle.patr_marks.specs.Sides.{sides, IsSide}
use Rattle.patr_marks.specs.Run.{IsRun}
use Rattle.patr_unify.specs.Following.{is_some}
use Rattle.patr_arena.specs.Shown.{Shown, number_of}
use Rattle.patr_scratch.specs.declared.Place.{Place}
use Rattle.patr_scratch.specs.declared.Target.{Target}
use Rattle.patr_scratch.specs.declared.Target.TheVariants as target
use Rattle.patr_scratch.specs.declared.Visit.TheVariants as visit
use Rattle.patr_scratch.specs.Contents.{HasRoom, Contents, marks, put}
use Rattle.patr_unify.specs.Merging.{HasMergeRoom, IsKept, both}
use Rattle.patr_unify.specs.Reading.{AreHeld, PairsHeld, added_of, forward_of, key, marks_in, pairs_at, state_of, value_at}

-- the forwards of the scratch are those of the log
pub record HasLog (v : Shown) (w : Contents) (log : List Forward) : Type 0 where
  pub is_log : IsLog log
  pub table : (k : ℕ) → forward_of v w k ≡ lookup log k

-- the pair that two targets stand for
abbrev pub pair_of : Shown → Target → Target → Pair
pair_of v a b = record { left = value_at v a; right = value_at v b }

-- the state before the pair was popped
abbrev pub before : Shown → Contents → List Forward → Target → Target → State
before v w log a b = record { log = log; added = added_of v w; pending = pairs_at v w.pairs ++ (pair_of v a b ∷ []) }

-- there is room to merge the pair's ends, whichever of them is forwarded
abbrev pub MergesFit : Shown → Contents → List Forward → Target → Target → Type 0
MergesFit v w log a b = (A B : ℕ) → Ends (before v w log a b) (pair_of v a b) (Node A) (Node B) → A ≢ B → HasMergeRoom v w A B

-- what becomes of the state as the popped pair is worked off: a step, or a clash
abbrev pub Outcome : Shown → Contents → Contents → List Forward → Target → Target → Bool → Type 0
Outcome v w t log a b true =
    (new : List Forward) × HasLog v t new × (length new ≤ suc (length log))
    × (((A B : ℕ) × (t.arcs ≤ w.arcs + length (own (sides v.structure) A)) × (A < 2 * length v.structure) × (B < 2 * length v.structure) × IsMerge (sides v.structure) (before v w log a b) (state_of v t new) A B (pairs_at v w.pairs) (pair_of v a b))
    ⊎ (((A c : ℕ) × (t.arcs ≡ w.arcs) × IsBind (sides v.structure) (before v w log a b) (state_of v t new) A c (pairs_at v w.pairs) (pair_of v a b))
    ⊎ ((t.arcs ≡ w.arcs) × IsSkip (before v w log a b) (state_of v t new) (pairs_at v w.pairs) (pair_of v a b))))
Outcome v w t log a b false = IsClash (sides v.structure) (before v w log a b) (pairs_at v w.pairs) (pair_of v a b)

-- what every step leaves
pub record IsSteady (v : Shown) (w : Contents) (t : Contents) : Type 0 where
  pub kept : IsKept w t
  pub held : AreHeld v t
  pub pairs_held : PairsHeld v t.pairs

-- whether a place has no arc
abbrev pub BareOrNot : Shown → Contents → ℕ → Bool → Type 0
BareOrNot v w k true = both v w k ≡ []
BareOrNot v w k false = (a : ℕ) × (x : Value) × Has (both v w k) a x

-- the scratch with the place forwarded to the atom
abbrev pub bound : Shown → Contents → Place → ℕ → Contents
bound v w p c = put w p.side (number_of v p.block p.offset) (record (marks w p.side (number_of v p.block p.offset)) { forward = Some (target.Atom c) })

-- a place without arcs is forwarded to an atom, or has an arc
abbrev pub BoundOrNot : Shown → Contents → Contents → Place → ℕ → Bool → Type 0
BoundOrNot v w t p c true = (both v w (key v p) ≡ []) × (t ≡ bound v w p c)
BoundOrNot v w t p c false = ((a : ℕ) × (x : Value) × Has (both v w (key v p)) a x) × (t ≡ w)

-- a list of all side nodes: beside the two roots it has no more than these nodes have arcs
pub record Covers (v : Shown) (l : ℕ) (r : Value) (ks : List ℕ) : Type 0 where
  pub once : NoRepeats ks
  pub all : (k : ℕ) → IsSide v.structure l r k → IsIn ks k
  pub few : length ks ≤ total (λ k. length (own (sides v.structure) k)) ks + 2

-- while pairs are worked off: the marks, and room for all that can come
pub record IsRunning (v : Shown) (w : Contents) (l : ℕ) (r : Value) (target : Value) (ks : List ℕ) : Type 0 where
  pub held : AreHeld v w
  pub pairs_held : PairsHeld v w.pairs
  pub log : List Forward
  pub has_log : HasLog v w log
  pub run : IsRun v.structure l r target (state_of v w log)
  pub pair_room : length log + (total (weight (sides v.structure) (state_of v w log)) ks + length w.pairs) ≤ w.pair_room
  pub arc_room : total (left_over (sides v.structure) (state_of v w log)) ks + w.arcs ≤ w.arc_room
  pub rooms : HasRoom w (length v.structure) (length ks) (total (λ k. length (own (sides v.structure) k)) ks)
  -- nothing is visited or copied
  pub unseen : (j : ℕ) → (marks_in w j).visit ≡ visit.Unseen
  pub uncopied : (j : ℕ) → (marks_in w j).copied ≡ None
  pub empty : w.visits ≡ []
  pub no_order : w.order ≡ []

-- the attributes of a place that was not forwarded, as the scratch tells them
abbrev pub weight_of : Shown → Contents → ℕ → ℕ
weight_of v w k = cond (is_some (forward_of v w k)) 0 (degree (both v w k))
