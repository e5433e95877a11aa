-- A parsed sentence: its chart, the numbers of its analyses, the nodes, and how many pairs were decided.
--     IsSound g cat s ws p     all that is promised of it, for the words ws
use Rattle.std.specs.Prelude.{◌≡◌, ◌⊎◌, ℕ, suc, ◌≤◌, true, false, List, [], ◌∷◌, length, map, Option, Some, None, slice_get}
use Rattle.std.specs.List.{AllByRecursion}
use Rattle.patr_lists.specs.Members.{IsIn}
use Rattle.patr_model.specs.Structure.{Value, arc}
use Rattle.patr_model.specs.Subsumption.{IsUnifier}
use Rattle.patr_model.specs.Settled.{Images, Keeps}
use Rattle.patr_model.specs.Derivation.{Rules, Derivation, size}
use Rattle.patr_model.specs.Solution.{IsLeastValue}
use Rattle.patr_model.specs.Chart.{IsChart, HasMoreThan, IsAnalysis}
use Rattle.patr_model.specs.Solved.{solved}
use Rattle.patr_model.specs.Rounds.{HasPairs}
use Rattle.patr_model.specs.Session as session
use Rattle.patr_arena.specs.Shown.{Shown, ValueIsHeld, value_of}
use Rattle.patr_chart.specs.declared.edge.EdgeKind.{EdgeKind}
use Rattle.patr_chart.specs.declared.edge.EdgeKind.TheVariants.{Entry, Rule}
use Rattle.patr_chart.specs.declared.edge.Edge.{Edge}
use Rattle.patr_chart.specs.declared.edge.Back.{Back}
use Rattle.patr_chart.specs.Edges.{is_passive}
use Rattle.patr_chart.specs.Charted.{Charted, derivations, tree}
use Rattle.patr_library.specs.declared.item.RuleItem.{RuleItem}
use Rattle.patr_library.specs.declared.item.EntryItem.{EntryItem}
use Rattle.patr_library.specs.Stored.{Stored, Bounds, root_of}

-- a parsed sentence
pub record Found : Type 0 where
  pub chart : Charted
  pub analyses : List ℕ
  pub shown : Shown
  pub decided : ℕ

-- an active edge's root is the unifier itself, and a passive edge's is the mother's slot of it
abbrev pub IsRootOf : Shown → Edge → Value → Type 0
IsRootOf v e u = ((is_passive e ≡ false) × (value_of v e.root ≡ u)) ⊎ ((is_passive e ≡ true) × (arc v.structure u 0 ≡ Some (value_of v e.root)))

-- the value of an edge without daughters is that of its item in the library: of a rule without slots the mother's
abbrev pub IsItemRoot : Stored → Shown → Edge → EdgeKind → Type 0
IsItemRoot s v e (Entry entry variant) = (n : ℕ) × (i : EntryItem) × (slice_get s.entries n ≡ Some i) × (i.entry ≡ entry) × (i.variant ≡ variant) × (e.root ≡ i.root)
IsItemRoot s v e (Rule rule variant item seen slots) = (i : RuleItem) × (slice_get s.rules item ≡ Some i) × IsRootOf v e (root_of v i)

-- the node of the slots that two edges make: a unifier of the active edge's root, at the next slot, and the passive edge's root, which keeps what is untouched
pub record IsJoined (v : Shown) (e : Edge) (a : Edge) (p : Edge) (slot : ℕ) : Type 0 where
  pub value : Value
  pub unifier : IsUnifier v.structure (value_of v a.root) (slot ∷ []) v.structure (value_of v p.root) v.structure value
  pub keeps : (images : Images v.structure (value_of v a.root) (slot ∷ []) v.structure (value_of v p.root) v.structure value)
      → Keeps v.structure (value_of v a.root) (slot ∷ []) v.structure (value_of v p.root) v.structure value images
  pub root : IsRootOf v e value

-- how many daughters an edge of this kind has
abbrev pub daughters : EdgeKind → ℕ
daughters (Entry entry variant) = 0
daughters (Rule rule variant item seen slots) = seen

-- where an edge's root comes from: its item, or the two edges of which it is made
abbrev pub HasSource : Stored → Shown → List Edge → Edge → Option Back → Type 0
HasSource s v es e None = IsItemRoot s v e e.kind
HasSource s v es e (Some b) = (a : Edge) × (p : Edge) × (slice_get es b.active ≡ Some a) × (slice_get es b.passive ≡ Some p) × IsJoined v e a p (daughters e.kind)

-- an edge's rule is that of its item, with its number of slots
abbrev pub IsOfItem : Stored → EdgeKind → Type 0
IsOfItem s (Entry entry variant) = Unit {0}
IsOfItem s (Rule rule variant item seen slots) = (i : RuleItem) × (slice_get s.rules item ≡ Some i) × (i.rule ≡ rule) × (i.variant ≡ variant) × (i.slots ≡ slots)

-- what is promised of an edge behind the edges es, whose derivation is t
pub record IsSoundEdge (g : Rules) (s : Stored) (v : Shown) (es : List Edge) (t : Derivation) (e : Edge) : Type 0 where
  pub held : ValueIsHeld v e.root
  pub value : IsLeastValue g t v.structure (value_of v e.root)
  pub bounds : Bounds v (value_of v e.root) e.nodes e.arcs
  pub sized : e.size ≡ size t
  pub item : IsOfItem s e.kind
  pub source : HasSource s v es e e.back

-- what is promised of all edges of a chart
abbrev pub AreSound : Rules → Stored → Shown → List Edge → Type 0
AreSound g s v es = (k : ℕ) (e : Edge) → slice_get es k ≡ Some e → IsSoundEdge g s v es (tree es k) e

-- what is promised of a parsed sentence
pub record IsSound (g : Rules) (cat : ℕ) (s : Stored) (ws : List ℕ) (limit : ℕ) (p : Found) : Type 0 where
  pub words : p.chart.words ≡ length ws
  pub chart : IsChart (solved g cat) g ws (derivations p.chart.edges)
  pub few : HasMoreThan (solved g cat) g ws limit → ⊥
  pub edges : AreSound g s p.shown p.chart.edges
  -- each adjacent pair was decided once
  pub decided : HasPairs g (derivations p.chart.edges) p.decided
  -- the analyses by rising key
  pub within : AllByRecursion (λ k. suc k ≤ length p.chart.edges) p.analyses
  pub rises : session.Rises (map (tree p.chart.edges) p.analyses)
  pub each : AllByRecursion (IsAnalysis (solved g cat) g ws) (map (tree p.chart.edges) p.analyses)
  pub every : (t : Derivation) → IsAnalysis (solved g cat) g ws t → IsIn (map (tree p.chart.edges) p.analyses) t
