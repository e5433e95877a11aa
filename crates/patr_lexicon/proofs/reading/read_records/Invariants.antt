use Rattle.std.proofs.Common.{◌≡◌, ◌+◌, ◌≤◌, length, false, nat_eq}
use denote.Text.{Utf8}
use denote.Shadow.{shadow}
use Rattle.patr_lexicon.proofs.Names.{bad_token, lines, numbered, pieces, record_of, most_texts_of, IsLaidBefore}
use Rattle.patr_lexicon.proofs.Places.{BeginsAt}
use Rattle.patr_lexicon.proofs.Steps.{IsRead, left_at}
use Rattle.patr_lexicon.proofs.reading.read_records.Given as goal

abbrev pub invariant-lines : goal.invariant-lines
invariant-lines l = record {
  read : IsRead l.fn.symbols l.fn.text l.symbols l.entries.items (left_at l.state l.number l.rest) (most_texts_of (record_of l.state) + length l.rest);
  line : l.number + length l.rest ≤ 1 + length l.fn.text;
  begins : BeginsAt l.fn.text l.start l.number l.rest;
  laid : IsLaidBefore l.fn.text l.start (record_of l.state);
  utf8 : shadow (Utf8 l.rest);
  clean : bad_token false (lines l.fn.text) ≡ bad_token l.comments (numbered l.number (pieces (nat_eq 10) l.rest));
}

abbrev pub decreases-lines : goal.decreases-lines
decreases-lines l = length l.rest
