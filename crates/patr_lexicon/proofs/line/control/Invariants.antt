use Rattle.std.proofs.Common.{◌≡◌, ◌+◌, ℕ, drop}
use Rattle.patr_lexicon.proofs.Names.{control, place_at}
use Rattle.patr_lexicon.proofs.line.control.Given as goal

abbrev pub invariant-loop-place : goal.invariant-loop-place
invariant-loop-place l = (n k : ℕ) → control l.comments (place_at n k) l.text ≡ control l.comments (place_at n (k + l.place)) (drop l.place l.text)
