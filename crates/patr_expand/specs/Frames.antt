-- Variants that are taken by their numbers.
use Rattle.std.specs.Prelude.{◌≡◌, ℕ, ◌+◌, ◌<◌, ◌≤◌, List, [], ◌∷◌, ◌++◌, length, get_or, Option, Some, None}
use Rattle.patr_model.specs.Grammar.{Row, Rows, Done, One, OneOf, Optional, None', Or, single, variants, variants_of}
use Rattle.patr_model.specs.Productions.{Item, Single, Choice, Option', EquationText}
use Rattle.patr_model.specs.Build.{Meaning}
use Rattle.patr_text.specs.declared.symbols.Id.{Id}
use Rattle.patr_grammar.specs.Levels.{equation_seen}
use Rattle.patr_expand.specs.declared.numbered.Frame.{Frame}
use Rattle.patr_expand.specs.declared.numbered.Split.{Split}
use Rattle.patr_expand.specs.declared.numbered.Opened.{Opened}
use Rattle.patr_expand.specs.declared.numbered.Opened.TheVariants as opened
use Rattle.patr_expand.specs.Sizes.{item_variants}
use Rattle.patr_expand.specs.Written.{written}

-- how much there is to go over in a row, whichever variant is taken
abbrev mutual
  pub weight : {X : Type 0} → Row X → ℕ
  weight Done = 0
  weight (One x r) = 1 + weight r
  weight (OneOf rs r) = (2 + weight_of rs) + weight r
  weight (Optional rs r) = (2 + weight_of rs) + weight r

  -- the same of alternatives
  pub weight_of : {X : Type 0} → Rows X → ℕ
  weight_of None' = 0
  weight_of (Or r rs) = weight r + weight_of rs

-- the same of one thing of a row
abbrev pub item_weight : {X : Type 0} → Item X → ℕ
item_weight (Single x) = 1
item_weight (Choice rs) = 2 + weight_of rs
item_weight (Option' rs) = 2 + weight_of rs

-- of a row the variant with this number is to be taken
pub record IsPlace {X : Type 0} (r : Row X) (count number : ℕ) : Type 0 where
  pub counted : length (variants single r) ≡ count
  pub below : number < count
  pub few : count ≤ 256

-- the variant of a row with this number
abbrev pub variant_at : {X : Type 0} → Row X → ℕ → List X
variant_at r n = get_or (variants single r) n []

-- so much of alternatives is taken by this number: the variant m of the row r
pub record IsTaken {X : Type 0} (vs : List (List X)) (most n : ℕ) (r : Row X) (count m : ℕ) : Type 0 where
  pub place : IsPlace r count m
  pub same : variant_at r m ≡ get_or vs n []
  pub lighter : 2 + weight r ≤ most

-- names stand for this
module _ (ms : List (Meaning Id)) where
  -- the elements of a frame
  abbrev pub frame_row : Frame → Row (EquationText Id)
  frame_row f = written ms f.elements.now

  -- a frame has a variant
  abbrev pub IsFrame : Frame → Type 0
  IsFrame f = IsPlace (frame_row f) f.count f.number

  -- what is left to be gone over: the last frame first
  abbrev pub left_of : List Frame → List (EquationText Id)
  left_of [] = []
  left_of (f ∷ fs) = left_of fs ++ variant_at (frame_row f) f.number

  -- how much there is to go over in frames
  abbrev pub frames_weight : List Frame → ℕ
  frames_weight [] = 0
  frames_weight (f ∷ fs) = (1 + weight (frame_row f)) + frames_weight fs

  abbrev pub AreFrames : List Frame → Type 0
  AreFrames [] = Unit {0}
  AreFrames (f ∷ fs) = IsFrame f × AreFrames fs

  -- what an element stands for in the variant of this number
  abbrev pub IsOpened : Item (EquationText Id) → ℕ → Opened → Type 0
  IsOpened x n (opened.Equation e) = get_or (item_variants x) n [] ≡ equation_seen e.now ∷ []
  IsOpened x n (opened.Frame f) = IsTaken (item_variants x) (item_weight x) n (frame_row f) f.count f.number

  -- what is opened has these things
  abbrev pub opened_variant : Opened → List (EquationText Id)
  opened_variant (opened.Equation e) = equation_seen e.now ∷ []
  opened_variant (opened.Frame f) = variant_at (frame_row f) f.number

  -- how much there is to go over in it
  abbrev pub opened_weight : Opened → ℕ
  opened_weight (opened.Equation e) = 0
  opened_weight (opened.Frame f) = 1 + weight (frame_row f)

  -- it has a variant
  abbrev pub IsPlaced : Opened → Type 0
  IsPlaced (opened.Equation e) = Unit {0}
  IsPlaced (opened.Frame f) = IsFrame f

  -- the first element of a frame has this in it, and this is the frame behind it
  pub record IsParted (f : Frame) (o : Opened) (behind : Frame) : Type 0 where
    pub same : opened_variant o ++ variant_at (frame_row behind) behind.number ≡ variant_at (frame_row f) f.number
    pub opened : IsPlaced o
    pub behind_it : IsFrame behind
    pub less : opened_weight o + weight (frame_row behind) < weight (frame_row f)

  -- a frame is parted, or has no elements
  abbrev pub IsSplit : Frame → Option Split → Type 0
  IsSplit f None = variant_at (frame_row f) f.number ≡ []
  IsSplit f (Some s) = IsParted f s.opened s.behind
