use Rattle.std.proofs.Common.{◌≡◌, ◌≤◌, ◌*◌, ◌-◌, [], length, map, take}
use Rattle.patr_parse.proofs.Names.{Id, HasPairs, sentence_of, derivations, rules_of, judge, IsReady, Stands}
use Rattle.patr_parse.specs.Tasks.{IsOver}
use Rattle.patr_parse.specs.Predicting.{IsPrediction}
use Rattle.patr_parse.proofs.closing.close.Given as goal

abbrev pub invariant-loop-prediction : goal.invariant-loop-prediction
invariant-loop-prediction g l = record {
  stands : Stands (judge l.library) (rules_of l.library) (map (λ (w : Id). w.0) l.words) l.closing.chart.edges l.worked [];
  predicted : IsPrediction l.library (map (λ (w : Id). w.0) l.words) l.prediction l.closing.chart.edges;
  ready : IsReady (rules_of l.library) l.library (sentence_of l.closing.arena) l.limit l.closing.chart.edges;
  base : IsOver l.library (sentence_of l.closing.arena);
  few : length l.closing.chart.edges ≤ l.limit;
  words : l.closing.chart.words ≡ length l.words;
  pairs : HasPairs (rules_of l.library) (take l.worked (derivations l.closing.chart.edges)) l.closing.local.decided;
  count : l.closing.local.decided ≤ l.worked * 200000;
}

abbrev pub decreases-loop-prediction : goal.decreases-loop-prediction
decreases-loop-prediction g l = l.limit - l.worked
