use Rattle.std.proofs.Common.{◌≡◌, ◌+◌, ◌≤◌, length, take}
use Rattle.patr_lexicon.proofs.Names.{suffix_len, is_edge}
use Rattle.patr_lexicon.proofs.line.kept_len.Given as goal

abbrev pub invariant-loop-len : goal.invariant-loop-len
invariant-loop-len l = (l.len ≤ length l.text) × (l.len + suffix_len is_edge l.text ≡ length l.text + suffix_len is_edge (take l.len l.text))

abbrev pub decreases-loop-len : goal.decreases-loop-len
decreases-loop-len l = l.len
