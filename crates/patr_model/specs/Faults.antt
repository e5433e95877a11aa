-- Faults of files, and the lines that tell them.
use Rattle.std.specs.Prelude.{◌≡◌, ℕ, ◌<◌, ◌≤◌, List, ◌++◌, length, take, IsUtf8, codes, decimal}
use Rattle.patr_model.specs.Session.{line}
use Rattle.patr_model.specs.Tokens.{Place}

-- the bytes are not UTF-8, and this is the length of the longest front that is
abbrev pub StopsUtf8 : List ℕ → ℕ → Type 0
StopsUtf8 bytes n = (n < length bytes) × IsUtf8 (take n bytes) × ((k : ℕ) → n < k → k ≤ length bytes → IsUtf8 (take k bytes) → ⊥)

-- why bytes stand for nothing: they are no text, or a text that is read as something else
pub data FileFault (R : Type 0) : Type 0 where
  NotText : ℕ → FileFault R
  Misread : R → FileFault R

-- the bytes stand for nothing, for this reason: the first of these that there is
abbrev pub RefusesBytes : {R : Type 0} → (List ℕ → R) → (R → Type 0) → List ℕ → FileFault R → Type 0
RefusesBytes reading stands bytes (NotText n) = StopsUtf8 bytes n
RefusesBytes reading stands bytes (Misread r) = IsUtf8 bytes × (reading bytes ≡ r) × (stands r → ⊥)

-- the line on a file, the grammar or the lexicon
abbrev pub of_file : List ℕ → List ℕ → List ℕ
of_file file what = line (codes "error: " ++ file ++ codes ": " ++ what)

-- the line on a file's line
abbrev pub at_line : List ℕ → ℕ → List ℕ → List ℕ
at_line file n what = line (codes "error: " ++ file ++ codes " " ++ decimal n ++ codes ": " ++ what)

-- the line on a place of a file
abbrev pub at_place : List ℕ → Place → List ℕ → List ℕ
at_place file p what = line (codes "error: " ++ file ++ codes " " ++ decimal p.line ++ codes ":" ++ decimal p.column ++ codes ": " ++ what)
