use Rattle.std.proofs.Common.{◌≡◌, ◌≤◌, ◌++◌, List, length, map, take}
use Rattle.patr_parse.proofs.Names.{Each, sentence_of, Edge, rules_of, IsAloneEdge}
use Rattle.patr_parse.specs.Begun.{derivation_of}
use Rattle.patr_parse.proofs.prediction.push_items.Given as goal

abbrev pub invariant-loop-number : goal.invariant-loop-number
invariant-loop-number l = record {
  pushed : (ys : List Edge) × (l.chart.edges ≡ l.fn.chart.edges ++ ys) × Each (IsAloneEdge (rules_of l.library) l.library (sentence_of l.arena)) (map (derivation_of l.kind l.library l.at) (take l.number-index l.number-items)) ys;
  few : length l.chart.edges ≤ l.limit;
  words : l.chart.words ≡ l.fn.chart.words;
}
