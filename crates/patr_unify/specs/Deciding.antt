-- What a decision needs, and what it leaves.
--     Counts            how many nodes a value reaches, and how many arcs they have
--     HasDecisionRoom   the room that a decision needs
--     marks_by          the marks of a scratch
--     IsEndIn           an end that arcs of ends lead to
--     IsOrdered         the order in which the walk has left them
--     IsSettledFor      the scratch after a decision that found no fault
use Rattle.std.specs.Prelude.{◌≡◌, ℕ, zero, suc, ◌+◌, Some, None, List, [], ◌∷◌, length}
use Rattle.patr_lists.specs.Members.{NoRepeats, IsIn}
use Rattle.patr_lists.specs.Numbers.{total}
use Rattle.patr_model.specs.Structure.{Value, Node, Structure, IsReached, IsValue, at}
use Rattle.patr_marks.specs.Machine.{Has, own}
use Rattle.patr_marks.specs.Quotient.{Below}
use Rattle.patr_marks.specs.Settled.{IsSettled, IsTidy, Marks}
use Rattle.patr_arena.specs.Shown.{Shown}
use Rattle.patr_scratch.specs.declared.Visit.TheVariants as visit
use Rattle.patr_scratch.specs.Contents.{Contents, HasRoom}
use Rattle.patr_unify.specs.Merging.{both}
use Rattle.patr_unify.specs.Reading.{AreHeld, added_of, forward_of, marks_in}
use Rattle.patr_unify.specs.Walking.{AllEnd, VisitsHeld, end_value, stack_of, visit_of}

-- a list of the nodes that are reached from a value, each once
pub record IsReachOf (S : Structure) (x : Value) (ks : List ℕ) : Type 0 where
  pub once : NoRepeats ks
  pub reached : (k : ℕ) → IsIn ks k → IsReached S x k
  pub all : (k : ℕ) → IsReached S x k → IsIn ks k

-- how many nodes are reached from a value, and how many arcs these nodes have
pub record Counts (S : Structure) (x : Value) (nodes : ℕ) (arcs : ℕ) : Type 0 where
  pub list : List ℕ
  pub is : IsReachOf S x list
  pub nodes_are : length list ≡ nodes
  pub arcs_are : total (λ k. length (own S k)) list ≡ arcs

-- room for the places of both sides, for a visit of each node that is reached, for an added arc for each arc of these nodes, and for one more pair
pub record HasDecisionRoom (v : Shown) (w : Contents) (l : ℕ) (r : Value) : Type 0 where
  pub left_nodes : ℕ
  pub left_arcs : ℕ
  pub left : Counts v.structure (Node l) left_nodes left_arcs
  pub right_nodes : ℕ
  pub right_arcs : ℕ
  pub right : Counts v.structure r right_nodes right_arcs
  pub room : HasRoom w (length v.structure) (left_nodes + right_nodes) (left_arcs + right_arcs)

-- the marks of a scratch, at the places of both sides
abbrev pub marks_by : Shown → Contents → Marks
marks_by v w = record { forward = forward_of v w; added = added_of v w }

-- an end that n arcs of ends lead to from the end of the left side
abbrev pub IsEndIn : Shown → Contents → ℕ → ℕ → ℕ → Type 0
IsEndIn v w l zero k = end_value v w (Node l) ≡ Node k
IsEndIn v w l (suc n) k = (j a : ℕ) × (x : Value) × IsEndIn v w l n j × Has (both v w j) a x × (end_value v w x ≡ Node k)

-- an end that arcs of ends lead to from the end of the left side
abbrev pub IsEndOfLeft : Shown → Contents → ℕ → ℕ → Type 0
IsEndOfLeft v w l k = (n : ℕ) × IsEndIn v w l n k

-- each end's arcs lead to ends that stand behind it in the list
abbrev pub LeadBehind : Shown → Contents → List ℕ → Type 0
LeadBehind v w [] = Unit {0}
LeadBehind v w (k ∷ ks) = (IsIn ks k → ⊥) × ((a : ℕ) (x : Value) → Has (both v w k) a x → Below ks (end_value v w x)) × LeadBehind v w ks

-- the places that the walk has left are the ends that the left side reaches, and arcs lead to those that were left before
pub record IsOrdered (v : Shown) (w : Contents) (l : ℕ) : Type 0 where
  pub held : VisitsHeld v w.order
  pub behind : LeadBehind v w (stack_of v w.order)
  pub ends : (k : ℕ) → IsIn (stack_of v w.order) k → IsEndOfLeft v w l k
  pub all : (k : ℕ) → IsEndOfLeft v w l k → IsIn (stack_of v w.order) k

-- the marks stand for a unifier, the visits tell the ends that the left side reaches, and the room for a decision is there
pub record IsSettledFor (v : Shown) (w : Contents) (l : ℕ) (p : List ℕ) (r : Value) : Type 0 where
  pub held : AreHeld v w
  -- the path is defined, and the right side is there
  pub there : (target : Value) × (at v.structure (Node l) p ≡ Some target)
  pub right : IsValue v.structure r
  pub marks : IsSettled v.structure l p r (marks_by v w)
  pub tidy : IsTidy v.structure l p r (marks_by v w) marks
  -- the forwards are followed within the room for pairs
  pub ending : AllEnd v w
  pub uncopied : (j : ℕ) → (marks_in w j).copied ≡ None
  pub no_pairs : w.pairs ≡ []
  pub no_visits : w.visits ≡ []
  pub room : HasDecisionRoom v w l r
  -- the visit is Left exactly at the ends that the left side reaches, and Unseen elsewhere
  pub left : (k : ℕ) → IsEndOfLeft v w l k → visit_of v w k ≡ visit.Left
  pub reached : (k : ℕ) → visit_of v w k ≡ visit.Left → IsEndOfLeft v w l k
  pub unseen : (k : ℕ) → (IsEndOfLeft v w l k → ⊥) → visit_of v w k ≡ visit.Unseen
  pub ordered : IsOrdered v w l
