-- The rule of a counter from which several passes draw: who drew which task.
use Rattle.std.specs.Prelude.{◌≡◌, ℕ, ◌+◌, ◌^◌, ◌<◌, ◌≤◌, min, List, [], length, sum_by, slice_index, Option, MatchOption}
use Rattle.atomic_table.specs.Table.{State, Me, Step}
use Rattle.patr_claims.specs.declared.passes.PassView.{PassView}
use Rattle.patr_claims.specs.declared.counting.DeskSize.{DeskSize}
use Rattle.patr_claims.specs.Tasks.{times}
use Rattle.patr_claims.specs.Passes.{pass_view, with_number, EachPass, AreShared}

-- the pass with all seats, which has drawn nothing
abbrev pub opener : DeskSize → PassView
opener size = pass_view size.tasks size.seats [] 0

-- a pass with a seat knows the number of tasks. It has at most a note for each of its seats, and without a seat it has nothing
pub record Fits (tasks : ℕ) (v : PassView) : Type 0 where
  pub knows : 0 < v.seats → v.tasks ≡ tasks
  pub few_notes : v.notes ≤ v.seats
  pub idle : v.seats ≡ 0 → v.drawn ≡ []

-- the numbers below the word that are tasks are shared out, and each further number is a note
pub record Counted (tasks seats word : ℕ) (views : List PassView) : Type 0 where
  pub shared : AreShared (min word tasks) seats views
  pub passed : word ≡ min word tasks + sum_by (λ v. v.notes) views
  pub each : EachPass (Fits tasks) views

pub record IsCounted (size : DeskSize) (s : State (Unit {0}) PassView) : Type 0 where
  pub one_word : length s.words ≡ 1
  pub few_tasks : size.tasks < 2 ^ 63
  pub few_seats : size.seats ≤ 16
  pub counted : Counted size.tasks size.seats (slice_index s.words 0) s.views

-- the end was seen once more
abbrev pub with_note : PassView → PassView
with_note v = pass_view v.tasks v.seats v.drawn (v.notes + 1)

-- A draw below the number of tasks is a new task of the pass, which then has no more tasks than there are. Another is a note
pub record Draws (v : PassView) (n : ℕ) (w : PassView) : Type 0 where
  pub task : n < v.tasks → (w ≡ with_number v n) × (times n v.drawn ≡ 0) × (length v.drawn < v.tasks)
  pub end : v.tasks ≤ n → w ≡ with_note v

abbrev pub Drew : Step (Unit {0}) → Me (Unit {0}) PassView → ℕ → Me (Unit {0}) PassView → Type 0
Drew _ me n new = Draws me.0 n new.0 × (new.1 ≡ me.1)

-- what a draw answers: the word that it drew, exactly where that is a task, and None exactly where it is not
pub record IsDraw (v w : PassView) (answer : Option ℕ) : Type 0 where
  pub word : ℕ
  pub drawn : Draws v word w
  pub told : MatchOption answer (v.tasks ≤ word) (λ n. (n ≡ word) × (word < v.tasks))
