use Rattle.std.proofs.Common.{◌≡◌, ◌++◌, length}
use Rattle.std.specs.Vec.Iter.{into_iter_items, into_iter_len}
use Rattle.patr_parse.proofs.Names.{sentence_of, ArePlaced}
use Rattle.patr_parse.proofs.rounds.push_all.Given as goal

abbrev pub invariant-loop-draft : goal.invariant-loop-draft
invariant-loop-draft l = record {
  whole : l.yielded ++ into_iter_items l.draft-iterator ≡ into_iter_items l.initial.draft-iterator;
  long : into_iter_len l.draft-iterator ≡ length (into_iter_items l.draft-iterator);
  placed : ArePlaced (sentence_of l.initial.arena) (sentence_of l.arena) l.yielded l.initial.chart.edges l.chart.edges;
  words : l.chart.words ≡ l.initial.chart.words;
}
