-- Where the rounds of a sentence stand.
use Rattle.std.specs.Prelude.{◌≡◌, ℕ, ◌≤◌, List, ◌++◌, take, length, Some, slice_get}
use Rattle.patr_lists.specs.Members.{IsIn}
use Rattle.patr_model.specs.Derivation.{Rules, Derivation, Extend}
use Rattle.patr_model.specs.Chart.{Judgement}
use Rattle.patr_model.specs.Rounds.{IsWorked}
use Rattle.patr_chart.specs.declared.edge.Back.{Back}
use Rattle.patr_chart.specs.declared.edge.Edge.{Edge}
use Rattle.patr_chart.specs.Charted.{IsEdgeAfter, derivations}
use Rattle.patr_chart.specs.Laws.{KindsFit}
use Rattle.patr_parse.specs.Tasks.{made_by, AreSmall}

-- the first k edges were worked, and gave, with what is in the chart, these others too
pub record Stands (j : Judgement) (g : Rules) (ws : List ℕ) (es : List Edge) (k : ℕ) (ys : List Edge) : Type 0 where
  pub worked : IsWorked j g ws (take k (derivations es)) (derivations es ++ made_by es ys)
  pub within : k ≤ length es
  pub fit : KindsFit g es

-- the edges may follow those of the chart
abbrev pub ArePushable : ℕ → List Edge → List Edge → Type 0
ArePushable words es ys = (n : ℕ) (e : Edge) → slice_get ys n ≡ Some e → IsEdgeAfter words es e

-- the same, and each is made of two of them
abbrev pub MayBePushed : ℕ → List Edge → List Edge → Type 0
MayBePushed words es ys = (n : ℕ) (e : Edge) → slice_get ys n ≡ Some e → IsEdgeAfter words es e × (b : Back) × (e.back ≡ Some b)

-- an active edge, and a passive one as its last daughter
abbrev pub IsMadeOfTwo : Derivation → Type 0
IsMadeOfTwo t = (a : Derivation) × (p : Derivation) × (t ≡ Extend a p)

-- behind the old edges stand others, each made of two of them
abbrev pub IsGrown : List Edge → List Edge → Type 0
IsGrown old new = (ys : List Edge) × (new ≡ old ++ ys) × (derivations new ≡ derivations old ++ made_by old ys) × ((t : Derivation) → IsIn (made_by old ys) t → IsMadeOfTwo t)

-- a round was worked under a limit
pub record IsRound (limit : ℕ) (old new : List Edge) : Type 0 where
  pub grown : IsGrown old new
  pub small : AreSmall limit (derivations new)
  pub few : length new ≤ limit
