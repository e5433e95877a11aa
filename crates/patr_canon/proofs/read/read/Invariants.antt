use Rattle.std.proofs.Common.{length}
use Rattle.patr_canon.specs.Items.{expected_seen}
use denote.Text.{Utf8}
use denote.Shadow.{shadow}
use Rattle.patr_canon.proofs.Turns.{IsGoing}
use Rattle.patr_canon.proofs.read.read.Given as goal

-- the reader has what the text so far builds, and what is left of the text is that of what is left to build
abbrev pub invariant-loop-left : goal.invariant-loop-left
invariant-loop-left l = record { going : IsGoing l.fn.symbols l.symbols l.fn.text l.reader (expected_seen l.expected) l.left; utf8 : shadow (Utf8 l.left) }

abbrev pub decreases-loop-left : goal.decreases-loop-left
decreases-loop-left l = length l.left
