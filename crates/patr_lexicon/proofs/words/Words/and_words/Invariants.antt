use Rattle.std.proofs.Common.{◌≡◌, length}
use denote.Text.{Utf8}
use denote.Shadow.{shadow}
use Rattle.patr_lexicon.proofs.Names.{counted, plus, words_of, words_seen}
use Rattle.patr_lexicon.proofs.words.Words.and_words.Given as goal

abbrev pub invariant-words : goal.invariant-words
invariant-words l = record {
  words : plus (words_seen l.words) (counted (words_of l.rest)) ≡ plus (words_seen l.fn.self) (counted (words_of l.fn.text));
  utf8 : shadow (Utf8 l.rest);
}

abbrev pub decreases-words : goal.decreases-words
decreases-words l = length l.rest
