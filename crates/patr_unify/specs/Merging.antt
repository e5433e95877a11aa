-- What the steps of a merge do to a scratch.
use Rattle.std.specs.Prelude.{◌≡◌, ◌≢◌, ℕ, ◌+◌, ◌≤◌, Bool, true, false, cond, Option, Some, None, List, [], ◌∷◌, ◌++◌, length}
use Rattle.patr_model.specs.Structure.{Value, Node, Arcs, along}
use Rattle.patr_marks.specs.Machine.{Pair, has_attribute, pair_with, own, matches, missing}
use Rattle.patr_marks.specs.Sides.{sides}
use Rattle.patr_arena.specs.Shown.{Shown, IsHeld}
use Rattle.patr_scratch.specs.declared.Place.{Place}
use Rattle.patr_scratch.specs.Contents.{Contents}
use Rattle.patr_unify.specs.Reading.{key, marks_in, forward_of, added_of, pairs_at, AreHeld, PairsHeld}

-- all but the forwards, the lists of added arcs, the pairs and the number of cells in use is as it was
pub record IsKept (w : Contents) (t : Contents) : Type 0 where
  pub places : length t.places ≡ length w.places
  pub arc_room : t.arc_room ≡ w.arc_room
  pub pair_room : t.pair_room ≡ w.pair_room
  pub visits : t.visits ≡ w.visits
  pub visit_room : t.visit_room ≡ w.visit_room
  pub order : t.order ≡ w.order
  pub order_room : t.order_room ≡ w.order_room
  pub copied : (j : ℕ) → (marks_in t j).copied ≡ (marks_in w j).copied
  pub visit : (j : ℕ) → (marks_in t j).visit ≡ (marks_in w j).visit

-- a place's own arcs, and then the added ones
abbrev pub both : Shown → Contents → ℕ → Arcs
both v w k = own (sides v.structure) k ++ added_of v w k

-- the place's added arcs have no part in where the attribute leads
abbrev pub IsFoundInOwn : Shown → Contents → ℕ → ℕ → Type 0
IsFoundInOwn v w k a = along (both v w k) a ≡ along (own (sides v.structure) k) a

-- the pair that an arc gives: none where a later arc has its attribute
abbrev pub one_pair : Bool → Option Value → Value → List Pair
one_pair later o x = cond later [] (pair_with o x [])

-- the arcs with one more, where neither a later arc nor the other place has its attribute
abbrev pub one_more : Bool → Option Value → ℕ → Value → Arcs → Arcs
one_more true o a x es = es
one_more false None a x es = record { attribute = a; to = x } ∷ es
one_more false (Some y) a x es = es

-- an arc was given to the place with the key B, unless a later one has its attribute
pub record IsGiven (v : Shown) (w : Contents) (t : Contents) (later : Bool) (B : ℕ) (a : ℕ) (x : Value) : Type 0 where
  pub kept : IsKept w t
  pub forward : (j : ℕ) → (marks_in t j).forward ≡ (marks_in w j).forward
  pub pairs : pairs_at v t.pairs ≡ pairs_at v w.pairs ++ one_pair later (along (both v w B) a) x
  pub added : added_of v t B ≡ one_more later (along (both v w B) a) a x (added_of v w B)
  pub others : (k : ℕ) → k ≢ B → added_of v t k ≡ added_of v w k
  pub arcs : t.arcs ≤ w.arcs + 1
  pub held : AreHeld v t
  pub pairs_held : PairsHeld v t.pairs

-- the arcs put in front of others, one after the other
abbrev pub rev_onto : Arcs → Arcs → Arcs
rev_onto [] fs = fs
rev_onto (e ∷ es) fs = rev_onto es (e ∷ fs)

-- the place with the key A has given its own arcs to B, but for the rest
pub record IsTaken (v : Shown) (w : Contents) (t : Contents) (A : ℕ) (B : ℕ) (rest : Arcs) : Type 0 where
  pub kept : IsKept w t
  pub forward : (j : ℕ) → (marks_in t j).forward ≡ (marks_in w j).forward
  pub pairs : pairs_at v t.pairs ++ matches (rest ++ added_of v w A) (both v w B) ≡ pairs_at v w.pairs ++ matches (both v w A) (both v w B)
  pub added : rev_onto (missing rest (added_of v w A) (both v w B)) (added_of v t B) ≡ rev_onto (missing (own (sides v.structure) A) (added_of v w A) (both v w B)) (added_of v w B)
  pub finds : (a : ℕ) → has_attribute (rest ++ added_of v w A) a ≡ true → along (both v t B) a ≡ along (both v w B) a
  pub others : (k : ℕ) → k ≢ B → added_of v t k ≡ added_of v w k
  pub arcs : t.arcs + length rest ≤ w.arcs + length (own (sides v.structure) A)
  pub held : AreHeld v t
  pub pairs_held : PairsHeld v t.pairs

-- there is room for what a merge pushes and adds
pub record HasMergeRoom (v : Shown) (w : Contents) (A : ℕ) (B : ℕ) : Type 0 where
  pub pairs : length w.pairs + length (matches (both v w A) (both v w B)) ≤ w.pair_room
  pub arcs : w.arcs + length (own (sides v.structure) A) ≤ w.arc_room

-- the first place can be merged into the second one
pub record CanMerge (v : Shown) (w : Contents) (p : Place) (q : Place) : Type 0 where
  pub from : IsHeld v p.block p.offset
  pub to : IsHeld v q.block q.offset
  pub apart : key v p ≢ key v q
  pub held : AreHeld v w
  pub pairs_held : PairsHeld v w.pairs
  pub room : HasMergeRoom v w (key v p) (key v q)

-- A is forwarded to B, and B has the arcs of both
pub record IsMerged (v : Shown) (w : Contents) (t : Contents) (A : ℕ) (B : ℕ) : Type 0 where
  pub kept : IsKept w t
  pub pairs : pairs_at v t.pairs ≡ pairs_at v w.pairs ++ matches (both v w A) (both v w B)
  pub forward : forward_of v t A ≡ Some (Node B)
  pub forwards : (k : ℕ) → k ≢ A → forward_of v t k ≡ forward_of v w k
  pub emptied : added_of v t A ≡ []
  pub added : added_of v t B ≡ added_of v w A ++ rev_onto (missing (own (sides v.structure) A) (added_of v w A) (both v w B)) (added_of v w B)
  pub others : (k : ℕ) → k ≢ A → k ≢ B → added_of v t k ≡ added_of v w k
  pub arcs : t.arcs ≤ w.arcs + length (own (sides v.structure) A)
  pub held : AreHeld v t
  pub pairs_held : PairsHeld v t.pairs

-- nothing but these pairs is pushed
pub record IsPushed (v : Shown) (w : Contents) (t : Contents) (ps : List Pair) : Type 0 where
  pub rest : t ≡ record w { pairs = t.pairs }
  pub pairs : pairs_at v t.pairs ≡ pairs_at v w.pairs ++ ps
  pub held : PairsHeld v t.pairs
