-- The walk over the ends that are places.
--     end_value v w x     what following the forwards from a value leads to
--     visit_of v w k      what was set as the visit of the place k
--     IsFoundAt           an end of arcs that the walk has not left
--     rest_at v w k c     the arcs of the place k from the cursor c on
--     IsPaused            all arcs before the cursor lead to ends that the walk has left
--     IsPausedFor         the same but for those that lead to this end
--     ArePaused           so it is for each place of the stack
--     IsWalkable          where the walk begins
--     IsAtPlace           the walk has taken the top of its stack
--     HasWalked           what the walk has entered and left
--     IsWalked            what it comes to
use Rattle.std.specs.Prelude.{◌≡◌, ◌≢◌, ◌≤◌, ◌+◌, ◌⊎◌, ℕ, Bool, true, false, Option, Some, None, List, [], ◌∷◌, ◌++◌, length, map, reverse, drop, ◌<◌, ◌^◌}
use Rattle.patr_lists.specs.Members.{IsIn}
use Rattle.patr_model.specs.Structure.{Value, Atom, Node, Arcs}
use Rattle.patr_marks.specs.Machine.{Forward, Has, ends, own}
use Rattle.patr_marks.specs.Quotient.{Below, IsOrder}
use Rattle.patr_marks.specs.Settled.{follow, IsFinal}
use Rattle.patr_marks.specs.Sides.{sides}
use Rattle.patr_marks.specs.Walk.{IsWalk, Leads, ReachedIn}
use Rattle.patr_arena.specs.Shown.{Shown, IsHeld}
use Rattle.patr_scratch.specs.declared.Place.{Place}
use Rattle.patr_scratch.specs.declared.Target.{Target}
use Rattle.patr_scratch.specs.declared.Target.TheVariants as target
use Rattle.patr_scratch.specs.declared.Visit.{Visit}
use Rattle.patr_scratch.specs.declared.Visit.TheVariants as visit
use Rattle.patr_scratch.specs.Contents.{Contents, HasCell, after}
use Rattle.patr_unify.specs.declared.cursor.Cursor.{Cursor}
use Rattle.patr_unify.specs.declared.cursor.Cursor.TheVariants as cursor
use Rattle.patr_unify.specs.declared.walk.Found.{Found}
use Rattle.patr_unify.specs.Merging.{both}
use Rattle.patr_unify.specs.Reading.{AreHeld, added_of, arcs_at, forward_of, key, marks_in, marks_of, state_of}
use Rattle.patr_unify.specs.Stepping.{HasLog}

-- what following the forwards from a value leads to
abbrev pub end_value : Shown → Contents → Value → Value
end_value v w x = follow w.pair_room (forward_of v w) x

-- from every value the forwards lead to an end
abbrev pub AllEnd : Shown → Contents → Type 0
AllEnd v w = (x : Value) → IsFinal (forward_of v w) (end_value v w x)

-- what was set as the visit of a place
abbrev pub visit_of : Shown → Contents → ℕ → Visit
visit_of v w k = (marks_of v w k).visit

-- an atom, or a place that the walk has left
abbrev pub IsDone : Shown → Contents → Value → Type 0
IsDone v w (Atom c) = Unit {0}
IsDone v w (Node k) = visit_of v w k ≡ visit.Left

-- the place is the end of the value, and the walk has not left it
abbrev pub IsOther : Shown → Contents → Value → Place → Type 0
IsOther v w x p = IsHeld v p.block p.offset × (end_value v w x ≡ Node (key v p)) × (visit_of v w (key v p) ≢ visit.Left)

-- the end of the value, if it is a place that the walk has not left
abbrev pub IsFound : Shown → Contents → Value → Option Place → Type 0
IsFound v w x None = IsDone v w (end_value v w x)
IsFound v w x (Some p) = IsOther v w x p

-- the end of one of the arcs that is such a place, or there is none
abbrev pub IsFoundAt : Shown → Contents → Arcs → Option Place → Type 0
IsFoundAt v w es None = (a : ℕ) (x : Value) → Has es a x → IsDone v w (end_value v w x)
IsFoundAt v w es (Some p) = (a : ℕ) × (x : Value) × Has es a x × IsOther v w x p

-- a place's first arc
abbrev pub first : Cursor
first = cursor.Own 0

-- the arcs of a place from the cursor on
abbrev pub rest_at : Shown → Contents → ℕ → Cursor → Arcs
rest_at v w k (cursor.Own i) = drop i (own (sides v.structure) k) ++ added_of v w k
rest_at v w k (cursor.Added c) = arcs_at v (after (marks_of v w k).added (Some c))
rest_at v w k cursor.Behind = []

-- at the added arc in this cell, or behind the last one
abbrev pub added_at : Option ℕ → Cursor
added_at None = cursor.Behind
added_at (Some c) = cursor.Added c

-- the cursor's cell is one of the place's
abbrev pub HasArcAt : Shown → Contents → ℕ → Cursor → Type 0
HasArcAt v w k (cursor.Own i) = Unit {0}
HasArcAt v w k (cursor.Added c) = HasCell (marks_of v w k).added c
HasArcAt v w k cursor.Behind = Unit {0}

-- each of the arcs is one of the rest, or has such a target
abbrev pub AllButRest : (Value → Type 0) → Arcs → Arcs → Type 0
AllButRest P es rest = (a : ℕ) (x : Value) → Has es a x → Has rest a x ⊎ P x

-- each of the arcs is one of the rest, or leads to an end that the walk has left
abbrev pub IsPassed : Shown → Contents → Arcs → Arcs → Type 0
IsPassed v w es rest = AllButRest (λ x. IsDone v w (end_value v w x)) es rest

-- each arc of the place before the cursor leads to an end that the walk has left
pub record IsPaused (v : Shown) (w : Contents) (k : ℕ) (c : Cursor) : Type 0 where
  pub there : HasArcAt v w k c
  pub before : IsPassed v w (both v w k) (rest_at v w k c)

-- each arc of the place before the cursor leads to an end that the walk has left, or to the end j
pub record IsPausedFor (v : Shown) (w : Contents) (j : ℕ) (k : ℕ) (c : Cursor) : Type 0 where
  pub there : HasArcAt v w k c
  pub before : AllButRest (λ x. IsDone v w (end_value v w x) ⊎ (end_value v w x ≡ Node j)) (both v w k) (rest_at v w k c)

-- an end of one of the place's arcs that the walk has not left, and the cursor behind that arc, or there is none
abbrev pub IsFoundNext : Shown → Contents → ℕ → Option Found → Type 0
IsFoundNext v w k None = IsFoundAt v w (both v w k) None
IsFoundNext v w k (Some f) = IsFoundAt v w (both v w k) (Some f.place) × IsPausedFor v w (key v f.place) k f.from

-- the same, but for the added arcs
abbrev pub IsFoundFirst : Shown → Contents → ℕ → Option Found → Type 0
IsFoundFirst v w k None = IsPassed v w (both v w k) (added_of v w k)
IsFoundFirst v w k (Some f) = IsFoundNext v w k (Some f)

-- the cursor that a pair stands for
abbrev pub cursor_from : Target → Target → Cursor
cursor_from (target.Atom i) t = cursor.Own i
cursor_from (target.Place p) (target.Atom c) = cursor.Added c
cursor_from (target.Place p) (target.Place q) = cursor.Behind

abbrev pub cursor_of : Target × Target → Cursor
cursor_of p = cursor_from p.0 p.1

-- the cursors that the stack of pairs stands for, the top first
abbrev pub cursors_of : List (Target × Target) → List Cursor
cursors_of qs = map cursor_of (reverse qs)

-- the number of the cursor's arc or cell
abbrev pub number_in : Cursor → ℕ
number_in (cursor.Own i) = i
number_in (cursor.Added c) = c
number_in cursor.Behind = 0

-- the pair stands for the cursor or, only where its number has more than 32 bits, for the first arc
abbrev pub StandsFor : Target × Target → Cursor → Type 0
StandsFor q c = (cursor_of q ≡ c) ⊎ ((cursor_of q ≡ first) × (2 ^ 32 ≤ number_in c))

-- one more pair, which stands for the cursor
abbrev pub IsPutOn : List (Target × Target) → List (Target × Target) → Cursor → Type 0
IsPutOn old new c = (q : Target × Target) × (new ≡ old ++ q ∷ []) × StandsFor q c

-- one pair less, which stands for the cursor, or there was none
abbrev pub IsTakenFrom : List (Target × Target) → List (Target × Target) → Cursor → Type 0
IsTakenFrom old new c = ((old ≡ []) × (new ≡ [])) ⊎ ((q : Target × Target) × (old ≡ new ++ q ∷ []) × (c ≡ cursor_of q))

-- each place has its cursor, behind the arc that leads to the place above it; j is above the first of them
abbrev pub AreBelow : Shown → Contents → ℕ → List ℕ → List Cursor → Type 0
AreBelow v w j [] [] = Unit {0}
AreBelow v w j [] (c ∷ cs) = ⊥
AreBelow v w j (k ∷ ks) [] = ⊥
AreBelow v w j (k ∷ ks) (c ∷ cs) = IsPausedFor v w j k c × AreBelow v w k ks cs

-- the top of the stack has the first cursor, and the places below it have the others
abbrev pub ArePaused : Shown → Contents → List ℕ → Cursor → List Cursor → Type 0
ArePaused v w [] c cs = cs ≡ []
ArePaused v w (k ∷ ks) c cs = IsPaused v w k c × AreBelow v w k ks cs

-- the contents without the stacks of visits and pairs and the places that were left
abbrev pub bare : Contents → Contents
bare w = record w { visits = []; pairs = []; order = [] }

-- nothing but visits differs
pub record SameMarks (w : Contents) (t : Contents) : Type 0 where
  pub places : length t.places ≡ length w.places
  pub arcs : t.arcs ≡ w.arcs
  pub arc_room : t.arc_room ≡ w.arc_room
  pub pair_room : t.pair_room ≡ w.pair_room
  pub visit_room : t.visit_room ≡ w.visit_room
  pub order_room : t.order_room ≡ w.order_room
  pub forward : (j : ℕ) → (marks_in t j).forward ≡ (marks_in w j).forward
  pub copied : (j : ℕ) → (marks_in t j).copied ≡ (marks_in w j).copied
  pub added : (j : ℕ) → (marks_in t j).added ≡ (marks_in w j).added

-- all but the visits, the pairs and the places that were left is as it was
abbrev pub IsStill : Contents → Contents → Type 0
IsStill w t = SameMarks (bare w) (bare t)

-- the visit of one place differs
pub record OneVisit (v : Shown) (w : Contents) (t : Contents) (k : ℕ) (state : Visit) : Type 0 where
  pub still : SameMarks w t
  pub here : visit_of v t k ≡ state
  pub others : (j : ℕ) → j ≢ k → visit_of v t j ≡ visit_of v w j

-- the visit of one place was set, and no other one
abbrev pub IsVisited : Shown → Contents → Contents → ℕ → Visit → Type 0
IsVisited v w t k state = OneVisit v (bare w) (bare t) k state

-- the places of the stack of visits, the top first
abbrev pub stack_of : Shown → List Place → List ℕ
stack_of v ps = map (key v) (reverse ps)

-- the places of the stack of visits are nodes that are there
abbrev pub VisitsHeld : Shown → List Place → Type 0
VisitsHeld v [] = Unit {0}
VisitsHeld v (p ∷ ps) = IsHeld v p.block p.offset × VisitsHeld v ps

-- where an arc of the place leads to an end that was not visited, the stacks have room for both
abbrev pub HasVisitRoom : Shown → Contents → ℕ → Type 0
HasVisitRoom v w k = (a : ℕ) (x : Value) (p : Place) → Has (both v w k) a x → IsOther v w x p → visit_of v w (key v p) ≢ visit.Entered → (length w.visits + 2 ≤ w.visit_room) × (length w.pairs < w.pair_room)

-- the walk has left the place, all of whose arcs lead to ends that it has left, and takes up the place below
pub record HasLeft (v : Shown) (w : Contents) (t : Contents) (top : Place) (c : Cursor) : Type 0 where
  pub visited : IsVisited v w t (key v top) visit.Left
  pub visits : t.visits ≡ w.visits
  pub none : IsFoundAt v w (both v w (key v top)) None
  pub taken : IsTakenFrom w.pairs t.pairs c
  pub order : t.order ≡ w.order ++ top ∷ []

-- the walk has entered an end of the place's arcs that was not visited
pub record HasEntered (v : Shown) (w : Contents) (t : Contents) (top : Place) : Type 0 where
  pub place : Place
  pub found : IsFoundAt v w (both v w (key v top)) (Some place)
  pub new : visit_of v w (key v place) ≢ visit.Entered
  pub visited : IsVisited v w t (key v place) visit.Entered
  pub visits : t.visits ≡ w.visits ++ top ∷ place ∷ []
  pub from : Cursor
  pub paused : IsPausedFor v w (key v place) (key v top) from
  pub put : IsPutOn w.pairs t.pairs from
  pub order : t.order ≡ w.order

-- an arc of the place leads back to an end that the walk has entered
abbrev pub LeadsBack : Shown → Contents → ℕ → Type 0
LeadsBack v w k = (a : ℕ) × (x : Value) × (j : ℕ) × Has (both v w k) a x × (end_value v w x ≡ Node j) × (visit_of v w j ≡ visit.Entered)

-- the walk has gone on from the top of its stack, or is led back
abbrev pub IsTurned : Shown → Contents → Contents → Place → Option Cursor → Type 0
IsTurned v w t top (Some c) = HasLeft v w t top c ⊎ (HasEntered v w t top × (c ≡ first))
IsTurned v w t top None = LeadsBack v w (key v top)

-- nothing is visited, and the stacks have room for all ends that the left side reaches
pub record IsWalkable (v : Shown) (w : Contents) (l : ℕ) : Type 0 where
  pub held : AreHeld v w
  pub log : List Forward
  pub has_log : HasLog v w log
  pub short : length log ≤ w.pair_room
  pub unseen : (k : ℕ) → visit_of v w k ≡ visit.Unseen
  pub empty : w.visits ≡ []
  pub no_pairs : w.pairs ≡ []
  pub no_order : w.order ≡ []
  pub ks : List ℕ
  pub room : length ks ≤ w.visit_room
  pub order_room : length ks ≤ w.order_room
  pub pair_room : length ks ≤ w.pair_room + 1
  pub reached : (root n k : ℕ) → ends log (Node l) ≡ Node root → ReachedIn (sides v.structure) (state_of v w log) root n k → IsIn ks k

-- the visits say what the walk with this stack and this order has entered and left
pub record HasVisits (v : Shown) (w : Contents) (t : Contents) (l : ℕ) (i : IsWalkable v w l) (stack : List ℕ) (order : List ℕ) : Type 0 where
  pub still : IsStill w t
  pub root : ℕ
  pub from : ends i.log (Node l) ≡ Node root
  pub walk : IsWalk (sides v.structure) (state_of v w i.log) root stack order
  pub entered : (k : ℕ) → IsIn stack k → visit_of v t k ≡ visit.Entered
  pub on_stack : (k : ℕ) → visit_of v t k ≡ visit.Entered → IsIn stack k
  pub left : (k : ℕ) → IsIn order k → visit_of v t k ≡ visit.Left
  pub in_order : (k : ℕ) → visit_of v t k ≡ visit.Left → IsIn order k

-- the walk with this stack, and with the order of the places that it has left
abbrev pub HasStack : (v : Shown) (w t : Contents) (l : ℕ) → IsWalkable v w l → List ℕ → List ℕ → Type 0
HasStack v w t l i stack order = HasVisits v w (bare t) l i stack order

-- the walk at the head of its loop
pub record HasWalked (v : Shown) (w : Contents) (t : Contents) (l : ℕ) (i : IsWalkable v w l) (c : Cursor) : Type 0 where
  pub held : VisitsHeld v t.visits
  pub left_held : VisitsHeld v t.order
  pub has : HasStack v w t l i (stack_of v t.visits) (stack_of v t.order)
  pub paused : ArePaused v t (stack_of v t.visits) c (cursors_of t.pairs)

-- the walk has taken the top of its stack
pub record IsAtPlace (v : Shown) (w : Contents) (t : Contents) (l : ℕ) (i : IsWalkable v w l) (top : Place) (c : Cursor) : Type 0 where
  pub top_held : IsHeld v top.block top.offset
  pub held : VisitsHeld v t.visits
  pub left_held : VisitsHeld v t.order
  pub has : HasStack v w t l i (key v top ∷ stack_of v t.visits) (stack_of v t.order)
  pub paused : ArePaused v t (key v top ∷ stack_of v t.visits) c (cursors_of t.pairs)

-- the walk is done: the ends that it has left are those that are reached, in an order in which arcs lead back
pub record IsWalkedOff (v : Shown) (w : Contents) (t : Contents) (l : ℕ) (i : IsWalkable v w l) : Type 0 where
  pub still : IsStill w t
  pub empty : t.visits ≡ []
  pub no_pairs : t.pairs ≡ []
  pub left_held : VisitsHeld v t.order
  pub ordered : IsOrder (sides v.structure) (state_of v w i.log) (stack_of v t.order)
  pub below : Below (stack_of v t.order) (ends i.log (Node l))
  pub reached : (k : ℕ) → IsIn (stack_of v t.order) k → (root : ℕ) × (n : ℕ) × (ends i.log (Node l) ≡ Node root) × ReachedIn (sides v.structure) (state_of v w i.log) root n k
  pub done : (root n k : ℕ) → ends i.log (Node l) ≡ Node root → ReachedIn (sides v.structure) (state_of v w i.log) root n k → IsIn (stack_of v t.order) k
  pub left : (k : ℕ) → IsIn (stack_of v t.order) k → visit_of v t k ≡ visit.Left
  pub in_order : (k : ℕ) → visit_of v t k ≡ visit.Left → IsIn (stack_of v t.order) k
  pub unseen : (k : ℕ) → (IsIn (stack_of v t.order) k → ⊥) → visit_of v t k ≡ visit.Unseen

-- an end leads to another one below which the walk is
abbrev pub IsLedBack : (v : Shown) (w : Contents) (l : ℕ) → IsWalkable v w l → Type 0
IsLedBack v w l i = (root k : ℕ) × (ks order : List ℕ) × (j : ℕ) × (ends i.log (Node l) ≡ Node root) × IsWalk (sides v.structure) (state_of v w i.log) root (k ∷ ks) order
    × Leads (sides v.structure) (state_of v w i.log) k j × IsIn (k ∷ ks) j

-- the walk is done, or is led back
abbrev pub IsWalked : (v : Shown) (w : Contents) (t : Contents) (l : ℕ) → IsWalkable v w l → Bool → Type 0
IsWalked v w t l i true = IsWalkedOff v w t l i
IsWalked v w t l i false = IsLedBack v w l i

-- twice one for a place that was not visited
abbrev pub to_visit : Visit → ℕ
to_visit visit.Unseen = 2
to_visit visit.Entered = 0
to_visit visit.Left = 0

-- what is left to do at a place
abbrev pub unseen_of : Shown → Contents → ℕ → ℕ
unseen_of v w k = to_visit (visit_of v w k)
