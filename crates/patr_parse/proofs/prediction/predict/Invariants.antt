use Rattle.std.proofs.Common.{◌≡◌, ◌-◌, map}
use Rattle.patr_parse.proofs.Names.{Id, sentence_of}
use Rattle.patr_parse.specs.Predicting.{IsFurther}
use Rattle.patr_parse.proofs.prediction.predict.Given as goal

abbrev pub invariant-loop-prediction : goal.invariant-loop-prediction
invariant-loop-prediction l = record {
  predicted : IsFurther l.library (map (λ (w : Id). w.0) l.words) (sentence_of l.arena) l.limit l.fn.chart.edges l.prediction l.chart.edges;
  words : l.chart.words ≡ l.fn.chart.words;
}

abbrev pub decreases-loop-prediction : goal.decreases-loop-prediction
decreases-loop-prediction l = l.limit - l.prediction.seen
