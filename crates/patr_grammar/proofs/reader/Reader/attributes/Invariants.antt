use Rattle.std.proofs.Common.{◌≡◌, ℕ, ◌≤◌, length}
use Rattle.patr_grammar.proofs.Names.{attributes, by_id, word_list}
use Rattle.patr_grammar.specs.Views.{onto}
use Rattle.patr_grammar.proofs.reader.Reader.attributes.Given as goal

-- with room for as many more as there are lexemes
abbrev pub invariant-words : goal.invariant-words
invariant-words l = record {
  read : (n : ℕ) × (length l.self.rest.now ≤ n) × (onto l.found.items (word_list by_id l.left n l.self.rest.now) ≡ attributes by_id l.fn.room l.fn.self.rest.now);
  shorter : length l.self.rest.now ≤ length l.fn.self.rest.now;
}

abbrev pub decreases-words : goal.decreases-words
decreases-words l = length l.self.rest.now
