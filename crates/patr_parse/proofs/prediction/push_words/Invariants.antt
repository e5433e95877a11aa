use Rattle.std.proofs.Common.{◌≡◌, ◌≤◌, ◌++◌, List, length, take}
use Rattle.patr_parse.proofs.Names.{Each, sentence_of, Edge, rules_of, leaves_from, IsAloneEdge}
use Rattle.patr_parse.proofs.Pushed.{numbers_of}
use Rattle.patr_parse.proofs.prediction.push_words.Given as goal

abbrev pub invariant-loop-at : goal.invariant-loop-at
invariant-loop-at l = record {
  pushed : (ys : List Edge) × (l.chart.edges ≡ l.fn.chart.edges ++ ys) × Each (IsAloneEdge (rules_of l.library) l.library (sentence_of l.arena)) (leaves_from l.library 0 (numbers_of (take l.at l.words))) ys;
  few : length l.chart.edges ≤ l.limit;
  words : l.chart.words ≡ l.fn.chart.words;
}
