-- Edges that two edges make, and what becomes of them.
--     IsDraft           what is promised of a draft
--     HasCombined       what two edges come to
--     TaskGave          what a task drafts
--     ArePlaced         drafts stand in a chart, and their nodes in an arena
use Rattle.std.specs.Prelude.{◌≡◌, ◌⊎◌, ◌+◌, ◌<◌, ◌≤◌, ℕ, Bool, true, false, List, [], ◌∷◌, ◌++◌, length, map, take, Some, slice_get, Vec}
use Rattle.std.specs.declared.alloc.Global.{Global}
use Rattle.std.specs.List.{AllByRecursion}
use Rattle.patr_lists.specs.Members.{NoRepeats, IsIn}
use Rattle.patr_model.specs.Structure.{Node}
use Rattle.patr_model.specs.Derivation.{Rules, Derivation, size}
use Rattle.patr_model.specs.Renaming.{Each}
use Rattle.patr_model.specs.Rounds.{HasPairs, IsYield}
use Rattle.patr_model.specs.Solution.{IsSolvable}
use Rattle.patr_arena.specs.declared.value.Value as its
use Rattle.patr_arena.specs.Blocks.{Extends, with_block}
use Rattle.patr_arena.specs.Shown.{Shown, IsShown, ValueIsHeld, value_of}
use Rattle.patr_unify.specs.Copying.{IsMade, made_of}
use Rattle.patr_chart.specs.declared.edge.Back.{Back}
use Rattle.patr_chart.specs.declared.edge.Edge.{Edge}
use Rattle.patr_chart.specs.Edges.{kind_passive}
use Rattle.patr_chart.specs.Charted.{AreEdges, IsEdgeAfter, IsMadeOf, derived, derivations, partners, tree}
use Rattle.patr_parse.specs.declared.draft.Draft.{Draft}
use Rattle.patr_parse.specs.declared.work.Outcome.{Outcome}
use Rattle.patr_parse.specs.declared.work.Outcome.TheVariants as outcome
use Rattle.patr_parse.specs.Found.{daughters}
use Rattle.patr_parse.specs.Joining.{HasMother, IsRootBy}
use Rattle.patr_parse.specs.Tasks.{by_edges, made_by, pair}

-- the edges of drafts
abbrev pub edges_of : List Draft → List Edge
edges_of ds = map (λ d. d.edge) ds

-- What is promised of a draft that was made over the nodes v and the edges es: with its block behind the nodes its root
-- is a unifier of two of the edges, which keeps what is untouched.
pub record IsDraft (v : Shown) (words : ℕ) (es : List Edge) (limit : ℕ) (d : Draft) : Type 0 where
  pub edges : AreEdges words es
  pub after : IsEdgeAfter words es d.edge
  pub small : size (derived (derivations es) d.edge) ≤ limit
  pub back : Back
  pub back_is : d.edge.back ≡ Some back
  pub active : Edge
  pub passive : Edge
  pub there_active : slice_get es back.active ≡ Some active
  pub there_passive : slice_get es back.passive ≡ Some passive
  pub made_of_both : IsMadeOf d.edge active passive
  pub left : ℕ
  pub left_is : value_of v active.root ≡ Node left
  pub made : IsMade v left (daughters d.edge.kind ∷ []) (value_of v passive.root) d.block d.root d.edge.nodes d.edge.arcs
  pub mother : kind_passive d.edge.kind ≡ true → HasMother (with_block v d.block).structure (made_of v d.root)
  pub sum : d.edge.size ≡ active.size + passive.size

-- the same of each
abbrev pub AreDrafts : Shown → ℕ → List Edge → ℕ → List Draft → Type 0
AreDrafts v words es limit ds = AllByRecursion (IsDraft v words es limit) ds

-- what the derivation t of two edges comes to: no edge, one with too many nodes, or a draft
abbrev pub HasCombined : Rules → Shown → ℕ → List Edge → ℕ → Derivation → Outcome Draft → Type 0
HasCombined g v words es limit t outcome.Nothing = IsSolvable g t → ⊥
HasCombined g v words es limit t outcome.Stop = IsSolvable g t × (limit < size t)
HasCombined g v words es limit t (outcome.Made d) = (derived (derivations es) d.edge ≡ t) × IsSolvable g t × IsDraft v words es limit d

-- one more pair was decided; false where its edge has too many nodes
abbrev pub IsDecided : Rules → Shown → ℕ → List Edge → ℕ → Derivation → List Draft → List Draft → Bool → Type 0
IsDecided g v words es limit t old new true = ((new ≡ old) × HasCombined g v words es limit t outcome.Nothing)
    ⊎ ((d : Draft) × (new ≡ old ++ d ∷ []) × HasCombined g v words es limit t (outcome.Made d))
IsDecided g v words es limit t old new false = HasCombined g v words es limit t outcome.Stop

-- the drafts of edge k with these others, where edge k is passive or not
pub record AreMade (g : Rules) (v : Shown) (words : ℕ) (es : List Edge) (limit : ℕ) (b : Bool) (k : ℕ) (js : List ℕ) (ds : List Draft) : Type 0 where
  pub once : NoRepeats (made_by es (edges_of ds))
  pub drafts : AreDrafts v words es limit ds
  pub pairs : (t : Derivation) → IsIn (made_by es (edges_of ds)) t → (j : ℕ) × IsIn js j × (t ≡ pair b es k j) × IsSolvable g t
  pub every : (j : ℕ) → IsIn js j → IsSolvable g (pair b es k j) → IsIn (made_by es (edges_of ds)) (pair b es k j)

-- whether an edge has too many nodes
abbrev pub is_stop : {A : Type 0} → Outcome A → Bool
is_stop outcome.Nothing = false
is_stop (outcome.Made x) = false
is_stop outcome.Stop = true

-- the drafts of a task
abbrev pub drafts_of : Outcome (Vec Draft Global) → List Draft
drafts_of outcome.Nothing = []
drafts_of (outcome.Made ds) = ds.items
drafts_of outcome.Stop = []

-- the drafts of the task of edge k, which decides its pairs
pub record TaskGave (g : Rules) (v : Shown) (words : ℕ) (es : List Edge) (limit k : ℕ) (ds : List Draft) (old new : ℕ) : Type 0 where
  pub yields : IsYield (by_edges (IsSolvable g)) g (take k (derivations es)) (tree es k) (made_by es (edges_of ds))
  pub drafts : AreDrafts v words es limit ds
  pub pairs : (n : ℕ) → HasPairs g (take k (derivations es)) n → HasPairs g (take (k + 1) (derivations es)) (n + length (partners es k))
  pub counted : new ≡ old + length (partners es k)

-- ---- after the round

-- an edge with another root
abbrev pub with_root : Edge → its.Value → Edge
with_root e x = record { kind = e.kind; start = e.start; end = e.end; back = e.back; root = x; nodes = e.nodes; arcs = e.arcs; size = e.size }

-- a draft's nodes were put behind those of v, and its edge behind the old ones
pub record IsPlaced (v w : Shown) (d : Draft) (old new : List Edge) : Type 0 where
  pub root : its.Value
  pub edges : new ≡ old ++ with_root d.edge root ∷ []
  pub nodes : w ≡ with_block v d.block
  pub held : ValueIsHeld w root
  pub stands : IsRootBy (kind_passive d.edge.kind) w.structure (made_of v d.root) (value_of w root)

-- the edge of a draft whose nodes stand somewhere behind those of v
pub record StandsFor (v w : Shown) (d : Draft) (e : Edge) : Type 0 where
  pub before : Shown
  pub longer : Extends v before
  pub shown : IsShown before
  pub placed : IsShown (with_block before d.block)
  pub behind : Extends (with_block before d.block) w
  pub is : e ≡ with_root d.edge e.root
  pub held : ValueIsHeld (with_block before d.block) e.root
  pub stands : IsRootBy (kind_passive d.edge.kind) (with_block before d.block).structure (made_of before d.root) (value_of (with_block before d.block) e.root)

-- drafts' nodes stand behind those of v, and their edges behind the old ones
abbrev pub ArePlaced : Shown → Shown → List Draft → List Edge → List Edge → Type 0
ArePlaced v w ds old new = (ys : List Edge) × (new ≡ old ++ ys) × Each (StandsFor v w) ds ys × Extends v w
