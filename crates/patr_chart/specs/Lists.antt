-- The lists of edge numbers by position.
use Rattle.std.specs.Prelude.{◌≡◌, ℕ, ◌<◌, cond, List, [], length, get_or}
use Rattle.patr_lists.specs.Tables.{Table, with_number}
use Rattle.patr_chart.specs.declared.edge.Edge.{Edge}
use Rattle.patr_chart.specs.Edges.{is_passive}

-- both lists have the positions where the edge begins and ends
abbrev pub HasPositions : Table → Table → Edge → Type 0
HasPositions S E e = (e.start < length S) × (e.end < length S) × (e.start < length E) × (e.end < length E)

-- the numbers that stand where the edges adjacent to e put theirs
abbrev pub neighbours : Table → Table → Edge → List ℕ
neighbours S E e = cond (is_passive e) (get_or E e.start []) (get_or S e.end [])

-- the lists with the number of one more edge
pub record IsEntered (e : Edge) (n : ℕ) (S E S2 E2 : Table) : Type 0 where
  pub starting : S2 ≡ cond (is_passive e) (with_number S e.start n) S
  pub ending : E2 ≡ cond (is_passive e) E (with_number E e.end n)
