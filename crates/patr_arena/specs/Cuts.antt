-- Lists cut at places that rise: the arcs of a block's nodes in one list, and where each node's end.
use Rattle.std.specs.Prelude.{◌≡◌, ℕ, zero, suc, ◌<◌, ◌≤◌, ◌^◌, List, [], ◌∷◌, ◌++◌, length, slice_range, slice_index}
use Rattle.patr_arena.specs.declared.value.Feature.{Feature}
use Rattle.patr_arena.specs.Blocks.{IsBlock}

-- the list cut at these ends, from a place on
abbrev pub cut : {X : Type 0} → List X → ℕ → List ℕ → List (List X)
cut xs from [] = []
cut xs from (end ∷ ends) = slice_range xs from end ∷ cut xs end ends

-- the last of the ends, or where the cuts begin
abbrev pub last_end : ℕ → List ℕ → ℕ
last_end from [] = from
last_end from (end ∷ ends) = last_end end ends

-- the ends do not fall
abbrev pub AreEnds : ℕ → List ℕ → Type 0
AreEnds from [] = Unit {0}
AreEnds from (end ∷ ends) = (from ≤ end) × AreEnds end ends

-- where the n-th cut begins
abbrev pub begin : ℕ → List ℕ → ℕ → ℕ
begin from ends zero = from
begin from ends (suc n) = slice_index ends n

-- the ends do not fall, and the last one is where the list ends
pub record AreEndsOf {X : Type 0} (xs : List X) (ends : List ℕ) : Type 0 where
  pub order : AreEnds 0 ends
  pub last : last_end 0 ends ≡ length xs

-- the cuts are the nodes of a block
pub record IsCut (features : List Feature) (ends : List ℕ) : Type 0 where
  pub few : length ends < 2 ^ 32
  pub cuts : AreEndsOf features ends
  pub block : IsBlock (cut features 0 ends)

-- a block's arcs and its nodes' ends were put behind others
pub record IsAppended (block : List (List Feature)) (features : List Feature) (ends : List ℕ) (new_features : List Feature) (new_ends : List ℕ) : Type 0 where
  pub nodes : cut new_features 0 new_ends ≡ cut features 0 ends ++ block
  pub cuts : AreEndsOf new_features new_ends
  pub few : length new_ends < 2 ^ 32
