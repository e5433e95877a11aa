use Rattle.std.proofs.Common.{◌≡◌, ℕ, [], get_or, take}
use Rattle.patr_library.proofs.Names.{places, has_key}
use Rattle.patr_library.proofs.index.index_of.Given as goal

abbrev pub invariant-loop-place : goal.invariant-loop-place
invariant-loop-place l = (s : ℕ) → get_or l.lists s [] ≡ places (has_key s) 0 (take l.place l.keys)
