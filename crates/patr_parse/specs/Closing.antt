-- What becomes of the closed chart of a sentence under a limit.
use Rattle.std.specs.Prelude.{◌≡◌, ℕ, List, length}
use Rattle.patr_model.specs.Chart.{IsChart, HasMoreThan}
use Rattle.patr_model.specs.Rounds.{HasPairs}
use Rattle.patr_arena.specs.Blocks.{Extends}
use Rattle.patr_arena.specs.Shown.{Shown}
use Rattle.patr_chart.specs.Charted.{Charted, derivations}
use Rattle.patr_library.specs.Stored.{Stored, rules_of}
use Rattle.patr_parse.specs.Found.{AreSound}
use Rattle.patr_parse.specs.Tasks.{judge}

-- the closed chart, under the limit, with what is promised of its edges, and so many decided pairs
pub record IsClosed (s : Stored) (ws : List ℕ) (limit : ℕ) (v : Shown) (found : Charted) (decided : ℕ) : Type 0 where
  -- the library's nodes stand first
  pub longer : Extends s.shown v
  pub words : found.words ≡ length ws
  pub chart : IsChart (judge s) (rules_of s) ws (derivations found.edges)
  pub few : HasMoreThan (judge s) (rules_of s) ws limit → ⊥
  pub edges : AreSound (rules_of s) s v found.edges
  pub pairs : HasPairs (rules_of s) (derivations found.edges) decided
