-- What comes of tasks, and what a work says of them.
use Rattle.std.specs.Prelude.{◌≡◌, ℕ, ◌<◌, ◌≤◌, ◌⊎◌, Bool, true, false, List, [], ◌∷◌, ◌++◌, All, map}
use Rattle.patr_claims.specs.Tasks.{times}
use Rattle.patr_pool.specs.declared.work.Outcome.{Outcome}
use Rattle.patr_pool.specs.declared.work.Outcome.TheVariants.{Nothing, Made, Stop}
use Rattle.patr_pool.specs.declared.work.Yield.{Yield}

-- whether a worker takes no more tasks
abbrev pub is_stop : {T : Type 0} → Outcome T → Bool
is_stop Nothing = false
is_stop (Made out) = false
is_stop Stop = true

-- tasks below this number, each once
pub record AreTasks (tasks : ℕ) (list : List ℕ) : Type 0 where
  pub below : All (λ task. task < tasks) list
  pub once : (task : ℕ) → times task list ≤ 1

-- the same, and this task is another
abbrev pub AreOthers : ℕ → ℕ → List ℕ → Type 0
AreOthers tasks task list = AreTasks tasks list × (times task list ≡ 0)

module _ {L : Type 0} (tasks : ℕ) (second : List ℕ → Bool → L → Type 0) (task : ℕ) where
  -- the local stands for some list of other tasks, of which none said Stop
  abbrev pub IsAmongOthers : L → Type 0
  IsAmongOthers local = (list : List ℕ) × AreOthers tasks task list × second list false local

  -- for whatever such list the local stood, it now stands for it with the task at its end
  abbrev pub GoesOn : {T : Type 0} → L → L → Outcome T → Type 0
  GoesOn old new outcome = (list : List ℕ) → AreOthers tasks task list → second list false old → second (list ++ task ∷ []) (is_stop outcome) new

-- the tasks of which something was made
abbrev pub tasks_of : {T : Type 0} → List (Yield T) → List ℕ
tasks_of yields = map (λ yield. yield.task) yields

module _ {T : Type 0} (first : ℕ → Outcome T → Type 0) where
  -- each yield has its fact
  abbrev pub AreMade : List (Yield T) → Type 0
  AreMade yields = All (λ yield. first yield.task (Made yield.out)) yields

  -- one of these tasks said Stop
  abbrev pub HasStop : List ℕ → Type 0
  HasStop list = (task : ℕ) × (0 < times task list) × first task Stop

  -- one task's yield more, or none
  abbrev pub YieldsMore : ℕ → Bool → List (Yield T) → List (Yield T) → Type 0
  YieldsMore task stop old new = ((out : T) × (new ≡ old ++ record { task = task; out = out } ∷ []) × first task (Made out) × (stop ≡ false))
      ⊎ ((new ≡ old) × (stop ≡ false → first task Nothing) × (stop ≡ true → first task Stop))

  -- what was yielded of these tasks. Each task without a yield said Nothing, or Stop where a worker stopped
  pub record Yielded (list : List ℕ) (stop : Bool) (yields : List (Yield T)) : Type 0 where
    pub made : AreMade yields
    pub among : (task : ℕ) → times task (tasks_of yields) ≤ times task list
    pub others : (task : ℕ) → 0 < times task list → times task (tasks_of yields) ≡ 0 → first task Nothing ⊎ ((stop ≡ true) × first task Stop)
