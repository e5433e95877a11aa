-- Where a round stands, and what it leaves.
use Rattle.std.specs.Prelude.{◌≡◌, ℕ, ◌+◌, ◌*◌, ◌≤◌, List, [], length, take}
use Rattle.patr_model.specs.Rounds.{HasPairs}
use Rattle.patr_arena.specs.Blocks.{Extends}
use Rattle.patr_arena.specs.Sentences.{sentence_of}
use Rattle.patr_arena.specs.Shown.{Shown}
use Rattle.patr_chart.specs.Charted.{Charted, derivations}
use Rattle.patr_library.specs.Stored.{Stored, rules_of}
use Rattle.patr_parse.specs.declared.draft.Draft.{Draft}
use Rattle.patr_parse.specs.declared.rounds.Closing.{Closing}
use Rattle.patr_parse.specs.Drafts.{AreDrafts, edges_of}
use Rattle.patr_parse.specs.Found.{AreSound}
use Rattle.patr_parse.specs.Standing.{IsRound, Stands}
use Rattle.patr_parse.specs.Tasks.{judge}

-- a round began at the edge `worked` with `start` decided pairs, and comes to edge k with these drafts and `decided` pairs
pub record IsRoundAt (s : Stored) (v : Shown) (c : Charted) (limit worked start k decided : ℕ) (ds : List Draft) : Type 0 where
  pub stands : (ws : List ℕ) → Stands (judge s) (rules_of s) ws c.edges worked [] → Stands (judge s) (rules_of s) ws c.edges k (edges_of ds)
  pub drafts : AreDrafts v c.words c.edges limit ds
  pub few : length c.edges + length ds ≤ limit
  pub pairs : HasPairs (rules_of s) (take worked (derivations c.edges)) start → HasPairs (rules_of s) (take k (derivations c.edges)) decided
  pub count : decided ≤ k * 200000

-- the round from the edge `worked` on was worked under a limit
pub record IsCompleted (s : Stored) (limit worked : ℕ) (old new : Closing) : Type 0 where
  pub stands : (ws : List ℕ) → Stands (judge s) (rules_of s) ws old.chart.edges worked [] → Stands (judge s) (rules_of s) ws new.chart.edges (length old.chart.edges) []
  pub round : IsRound limit old.chart.edges new.chart.edges
  pub sound : AreSound (rules_of s) s (sentence_of new.arena) new.chart.edges
  pub longer : Extends (sentence_of old.arena) (sentence_of new.arena)
  pub words : new.chart.words ≡ old.chart.words
  pub pairs : HasPairs (rules_of s) (take worked (derivations old.chart.edges)) old.local.decided → HasPairs (rules_of s) (derivations old.chart.edges) new.local.decided
  pub count : new.local.decided ≤ length old.chart.edges * 200000
