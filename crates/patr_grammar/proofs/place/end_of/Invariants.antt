use Rattle.std.proofs.Common.{◌≡◌, ◌+◌, ◌≤◌, drop}
use Rattle.patr_grammar.proofs.Names.{after, place_seen, start_place}
use Rattle.patr_grammar.proofs.place.end_of.Given as goal

abbrev pub invariant-loop-byte : goal.invariant-loop-byte
invariant-loop-byte l = record {
  line : l.place.line ≤ l.byte-index + 1;
  column : l.place.column ≤ l.byte-index + 1;
  read : after (place_seen l.place) (drop l.byte-index l.text) ≡ after start_place l.text;
}
