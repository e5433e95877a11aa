-- What the fields of a chart keep.
use Rattle.std.specs.Prelude.{◌≡◌, ℕ, suc, ◌<◌, ◌≤◌, ◌^◌, List, [], length, get_or}
use Rattle.patr_lists.specs.Numbers.{places}
use Rattle.patr_lists.specs.Tables.{Table}
use Rattle.patr_chart.specs.declared.chart.Chart.TheInside.{Inside}
use Rattle.patr_chart.specs.declared.edge.Edge.{Edge}
use Rattle.patr_chart.specs.Charted.{Charted, starts_at, ends_at, partners, AreEdges}

-- the chart that the fields stand for
abbrev pub charted : Inside → Charted
charted c = record { words = c.words; edges = c.edges.items }

-- the lists by position and the numbers of partners are those of the edges
pub record IsIndexed (words : ℕ) (es : List Edge) (ns : List ℕ) (S E : Table) : Type 0 where
  pub few : length es < 2 ^ 32
  pub edges : AreEdges words es
  pub starting_length : length S ≡ suc words
  pub ending_length : length E ≡ suc words
  pub starting : (s : ℕ) → s ≤ words → get_or S s [] ≡ places (starts_at s) 0 es
  pub ending : (s : ℕ) → s ≤ words → get_or E s [] ≡ places (ends_at s) 0 es
  pub counts_length : length ns ≡ length es
  pub counts : (k d : ℕ) → k < length es → get_or ns k d ≡ length (partners es k)

-- the fields of a chart fit together: its lists and its counts are those of its edges
abbrev pub IsKept : Inside → Type 0
IsKept c = IsIndexed c.words c.edges.items c.counts.items c.starting c.ending
