-- The edges that are analyses.
use Rattle.std.specs.Prelude.{◌≡◌, ℕ, suc, ◌≤◌, Bool, false, ◌&&◌, nat_eq, List, [], ◌∷◌, length, map, Option, Some, None, slice_get}
use Rattle.std.specs.List.{AllByRecursion}
use Rattle.patr_lists.specs.Members.{IsIn}
use Rattle.patr_model.specs.Category.{atom_at}
use Rattle.patr_model.specs.Derivation.{Rules, Derivation, key}
use Rattle.patr_model.specs.Chart.{IsAnalysis}
use Rattle.patr_model.specs.Session as session
use Rattle.patr_model.specs.Solved.{solved}
use Rattle.patr_arena.specs.Shown.{Shown, ValueIsHeld, value_of}
use Rattle.patr_arena.specs.declared.value.Value.{Value}
use Rattle.patr_chart.specs.declared.edge.Edge.{Edge}
use Rattle.patr_chart.specs.Edges.{item_of}
use Rattle.patr_chart.specs.Charted.{starts_at, tree}
use Rattle.patr_library.specs.Stored.{keys}
use Rattle.patr_parse.specs.declared.analyses.Analysis.{Analysis}

-- there is an atom, and it is c
abbrev pub is_atom : ℕ → Option ℕ → Bool
is_atom c None = false
is_atom c (Some d) = nat_eq d c

-- whether this atom stands at the attribute `cat`
abbrev pub has_category : Shown → Value → ℕ → Bool
has_category v root c = is_atom c (atom_at v.structure (value_of v root) (keys.cat ∷ []))

-- whether the edge is passive, spans the words from the first to this position, and has this category
abbrev pub is_whole : Shown → ℕ → ℕ → Edge → Bool
is_whole v to c e = starts_at 0 e && (nat_eq e.end to && has_category v e.root c)

-- what the roots of the edges lead to is there
abbrev pub RootsAreHeld : Shown → List Edge → Type 0
RootsAreHeld v es = (k : ℕ) (e : Edge) → slice_get es k ≡ Some e → ValueIsHeld v e.root

-- the number of an analysis's edge
abbrev pub edge_of : Analysis → ℕ
edge_of a = a.edge

-- the key is that of the edge's derivation
abbrev pub HasKey : List Edge → Analysis → Type 0
HasKey es a = map item_of a.key.items ≡ key (tree es a.edge)

-- these are the numbers of all the analyses' edges, by rising key
pub record AreAll (g : Rules) (cat : ℕ) (ws : List ℕ) (es : List Edge) (ns : List ℕ) : Type 0 where
  pub within : AllByRecursion (λ k. suc k ≤ length es) ns
  pub rises : session.Rises (map (tree es) ns)
  pub each : AllByRecursion (IsAnalysis (solved g cat) g ws) (map (tree es) ns)
  pub every : (t : Derivation) → IsAnalysis (solved g cat) g ws t → IsIn (map (tree es) ns) t
