-- What is solved, and its solution.
--     stated_of s        what a start states
--     IsSolved n es o    the least value of n slots at which the equations hold, or there is none
use Rattle.std.specs.Prelude.{ℕ, ◌<◌, List, [], ◌∷◌, map, Option, Some, None}
use Rattle.patr_model.specs.Equation.{Equation}
use Rattle.patr_model.specs.Plain.{stated}
use Rattle.patr_model.specs.Build.{gloss_fact}
use Rattle.patr_model.specs.Variants.{AreWithin}
use Rattle.patr_arena.specs.declared.value.Feature.{Feature}
use Rattle.patr_arena.specs.declared.value.Ref.TheVariants as ref
use Rattle.patr_arena.specs.declared.value.Value as its
use Rattle.patr_arena.specs.Shown.{Shown}
use Rattle.patr_library.specs.declared.solving.Facts.{Facts}
use Rattle.patr_library.specs.declared.solving.Start.{Start}
use Rattle.patr_library.specs.declared.solving.Start.TheVariants as start
use Rattle.patr_library.specs.declared.workspace.Least.{Least}
use Rattle.patr_library.specs.Solved.{HasNone, IsLeastAt, IsLeastIn, IsSlots}
use Rattle.patr_library.specs.Stored.{keys, number}

-- an entry's facts, as pairs of an attribute and an atom
abbrev pub facts_at : Facts → List (ℕ × ℕ)
facts_at f = (keys.cat, f.category.0) ∷ (keys.lex, f.word.0) ∷ gloss_fact number keys f.gloss

-- the arcs of a node with these facts
abbrev pub fact_features : List (ℕ × ℕ) → List Feature
fact_features fs = map (λ f. record { attribute = record { 0 = f.0 }; to = ref.Atom (record { 0 = f.1 }) }) fs

-- how many slots a start has
abbrev pub slots_of : Start → ℕ
slots_of (start.Slots n) = n
slots_of (start.Entry f) = 1

-- the equations that hold at a start
abbrev pub stated_of : Start → List Equation
stated_of (start.Slots n) = []
stated_of (start.Entry f) = stated (facts_at f)

-- the least value of slots at which the equations hold, or there is none
abbrev pub IsSolved : ℕ → List Equation → Option Least → Type 0
IsSolved slots es None = HasNone slots es
IsSolved slots es (Some made) = IsLeastAt slots es made.block made.root

-- the same of a value that stands in an arena
abbrev pub IsSolvedIn : Shown → ℕ → List Equation → Option its.Value → Type 0
IsSolvedIn v slots es None = HasNone slots es
IsSolvedIn v slots es (Some x) = IsSlots v x × IsLeastIn v slots es x

-- the least value of some slots at which equations of these slots hold
abbrev pub IsBegun : ℕ → List Equation → Least → Type 0
IsBegun slots es made = (0 < slots) × AreWithin slots es × IsLeastAt slots es made.block made.root
