-- What a task decides: the pairs of an edge with its partners.
use Rattle.std.specs.Prelude.{◌≡◌, ℕ, ◌<◌, ◌≤◌, Bool, cond, List, map, Some, slice_get}
use Rattle.patr_lists.specs.Members.{IsIn, NoRepeats}
use Rattle.patr_model.specs.Derivation.{Rules, Derivation, Extend, size}
use Rattle.patr_model.specs.Chart.{Judgement}
use Rattle.patr_model.specs.Rounds.{IsPair}
use Rattle.patr_arena.specs.Shown.{Shown, IsShown, IsHeld}
use Rattle.patr_arena.specs.Blocks.{Extends}
use Rattle.patr_chart.specs.declared.edge.Edge.{Edge}
use Rattle.patr_chart.specs.Edges.{AreAdjacent}
use Rattle.patr_chart.specs.Charted.{tree, derived, derivations}
use Rattle.patr_chart.specs.Laws.{KindsFit}
use Rattle.patr_library.specs.declared.item.RuleItem.{RuleItem}
use Rattle.patr_model.specs.Solved.{solved}
use Rattle.patr_library.specs.Stored.{Stored, keys, rules_of}
use Rattle.patr_parse.specs.Found.{AreSound, IsSoundEdge}

-- how derivations are judged by a library's rules and entries
abbrev pub judge : Stored → Judgement
judge s = solved (rules_of s) keys.cat

-- both edges are there, and the second is adjacent to the first
abbrev pub ArePartners : List Edge → ℕ → ℕ → Type 0
ArePartners es a p = (x : Edge) × (y : Edge) × (slice_get es a ≡ Some x) × (slice_get es p ≡ Some y) × AreAdjacent x y

-- edge k with edge j, where edge k is passive or not
abbrev pub pair : Bool → List Edge → ℕ → ℕ → Derivation
pair passive es k j = cond passive (Extend (tree es j) (tree es k)) (Extend (tree es k) (tree es j))

-- the derivations of edges that were made, by the edges of the chart
abbrev pub made_by : List Edge → List Edge → List Derivation
made_by es ys = map (derived (derivations es)) ys

-- none of them has more nodes than the limit
abbrev pub AreSmall : ℕ → List Derivation → Type 0
AreSmall limit ts = (t : Derivation) → IsIn ts t → size t ≤ limit

-- a pair of the list is one edge, which has more nodes than the limit
abbrev pub HasLarge : (Derivation → Type 0) → Rules → ℕ → List Derivation → Type 0
HasLarge Q g limit ts = (t : Derivation) × IsPair g ts t × Q t × (limit < size t)

-- all that the library shows is shown, and maybe more behind it
pub record IsOver (s : Stored) (v : Shown) : Type 0 where
  pub longer : Extends s.shown v
  pub shown : IsShown s.shown

-- the roots of all rules' items are there
abbrev pub ItemsAreHeld : Stored → Shown → Type 0
ItemsAreHeld s v = (n : ℕ) (i : RuleItem) → slice_get s.rules n ≡ Some i → IsHeld v i.root.block i.root.offset

-- what a task needs of the chart and the nodes
pub record IsReady (g : Rules) (s : Stored) (v : Shown) (limit : ℕ) (es : List Edge) : Type 0 where
  pub fit : KindsFit g es
  pub once : NoRepeats (derivations es)
  pub sound : AreSound g s v es
  pub items : ItemsAreHeld s v
  pub small : AreSmall limit (derivations es)

-- what is promised of each edge that waits to be put behind those of the chart
abbrev pub AreWaiting : Rules → Stored → Shown → List Edge → List Edge → Type 0
AreWaiting g s v es ys = (n : ℕ) (e : Edge) → slice_get ys n ≡ Some e → IsSoundEdge g s v es (derived (derivations es) e) e

-- these derivations are edges, and no rule is predicted
abbrev pub by_edges : (Derivation → Type 0) → Judgement
by_edges Q = record { IsEdge = Q; MayFollow = λ a b. ⊥; IsWhole = λ t. ⊥ }
