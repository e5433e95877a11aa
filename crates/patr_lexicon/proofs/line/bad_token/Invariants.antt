use Rattle.std.proofs.Common.{◌≡◌, ◌+◌, ◌≤◌, length, false, nat_eq}
use denote.Text.{Utf8}
use denote.Shadow.{shadow}
use Rattle.patr_lexicon.proofs.Names.{pieces, bad_token, lines, numbered}
use Rattle.patr_lexicon.proofs.line.bad_token.Given as goal

abbrev pub invariant-lines : goal.invariant-lines
invariant-lines l =
    (bad_token false (lines l.fn.text) ≡ bad_token l.comments (numbered l.number (pieces (nat_eq 10) l.rest)))
    × (l.number + length l.rest ≤ 1 + length l.fn.text)
    × shadow (Utf8 l.rest)

abbrev pub decreases-lines : goal.decreases-lines
decreases-lines l = length l.rest
