-- A parsed sentence is what is promised.
use Rattle.std.proofs.Common.{◌≤◌, ℕ, List, length, arith}
use Rattle.std.proofs.lemmas.List.{length-map}
use Rattle.patr_model.proofs.Renaming.{each_length}
use Rattle.patr_parse.proofs.Names.{Id, ids, Each}

-- the numbers of few words are few
pub numbers_short : (R : List ℕ → ℕ → Type 0) (words : List (List ℕ)) (items : List Id) → length words ≤ 256 → Each R words (ids items) → length items ≤ 256
numbers_short R words items short each = omega (arith, short, each_length R words (ids items) each, length-map items (λ (a : Id). a.0))
