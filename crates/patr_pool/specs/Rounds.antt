-- What workers and rounds leave.
use Rattle.std.specs.Prelude.{◌≡◌, ℕ, ◌<◌, ◌⊎◌, Bool, true, false, List, [], ◌∷◌, All, map, sum_by, vec_len, ◌||◌}
use Rattle.patr_claims.specs.Tasks.{times, times_in, all_of, NoneTwice, EachBelow, NoneFrom}
use Rattle.patr_pool.specs.declared.work.Outcome.{Outcome}
use Rattle.patr_pool.specs.declared.work.Outcome.TheVariants.{Nothing, Stop}
use Rattle.patr_pool.specs.declared.work.Yield.{Yield}
use Rattle.patr_pool.specs.declared.worker.Ran.{Ran}
use Rattle.patr_pool.specs.declared.workers.Worker.{Worker}
use Rattle.patr_pool.specs.declared.workers.Worker.TheVariants.{Ready, Done, Failed}
use Rattle.patr_pool.specs.declared.gathered.Gathered.{Gathered}
use Rattle.patr_pool.specs.declared.round.Round.{Round}
use Rattle.patr_pool.specs.Outcomes.{tasks_of, AreMade, HasStop, Yielded}
use Rattle.std.specs.List.Sorted.{IsStrictlyIncreasing}

-- the second fact of each worker: its list, whether it stopped, and its local
abbrev pub Seconds : {L : Type 0} → (List ℕ → Bool → L → Type 0) → List (List ℕ) → List Bool → List L → Type 0
Seconds second [] [] [] = Unit {0}
Seconds second (list ∷ lists) (stop ∷ stops) (local ∷ locals) = second list stop local × Seconds second lists stops locals
Seconds second _ _ _ = ⊥

abbrev pub any_of : List Bool → Bool
any_of [] = false
any_of (stop ∷ stops) = stop || any_of stops

-- each worker has its list and its local, and some worker's last outcome was Stop exactly where the round was stopped
abbrev pub AreWorkers : {L : Type 0} → (List ℕ → Bool → L → Type 0) → List (List ℕ) → List L → Bool → Type 0
AreWorkers second lists locals stopped = (stops : List Bool) × Seconds second lists stops locals × (any_of stops ≡ stopped)

-- a seat that has taken nothing, and a local that stands for no task
abbrev pub IsReady : {S L : Type 0} → (S → Type 0) → (S → List ℕ) → (S → Bool) → (List ℕ → Bool → L → Type 0) → S → L → Type 0
IsReady is_seat taken has_seen_none second seat local = is_seat seat × (taken seat ≡ []) × (has_seen_none seat ≡ false) × second [] false local

module _ {S L T : Type 0} (is_seat : S → Type 0) (taken : S → List ℕ) (has_seen_none : S → Bool) (first : ℕ → Outcome T → Type 0) (second : List ℕ → Bool → L → Type 0) where
  -- what a worker leaves
  pub record IsRun (ran : Ran S L T) : Type 0 where
    pub here : is_seat ran.seat
    pub ended : ran.stopped ≡ false → has_seen_none ran.seat ≡ true
    pub local : second (taken ran.seat) ran.stopped ran.local
    pub yields : Yielded first (taken ran.seat) ran.stopped ran.yields.items
    pub stopper : ran.stopped ≡ true → HasStop first (taken ran.seat)

  -- a worker before its run
  abbrev pub CanRun : Worker S L T → Type 0
  CanRun (Ready waiting) = IsReady is_seat taken has_seen_none second waiting.seat waiting.local
  CanRun (Done ran) = ⊥
  CanRun Failed = ⊥

  -- a worker after its run. Of one that failed for memory nothing is known
  abbrev pub HasRun : Worker S L T → Type 0
  HasRun (Ready waiting) = ⊥
  HasRun (Done ran) = IsRun ran
  HasRun Failed = Unit {0}

  -- what several workers leave together
  pub record AreRuns (seats : List S) (locals : List L) (yields : List (Yield T)) (stopped : Bool) : Type 0 where
    pub here : All is_seat seats
    pub ended : stopped ≡ false → All (λ seat. has_seen_none seat ≡ true) seats
    pub workers : AreWorkers second (map taken seats) locals stopped
    pub yielded : Yielded first (all_of (map taken seats)) stopped yields
    pub stopper : stopped ≡ true → HasStop first (all_of (map taken seats))

  abbrev pub AreGathered : Gathered S L T → Type 0
  AreGathered all = AreRuns all.seats.items all.locals.items all.yields.items all.stopped

abbrev pub lists_of : {L T : Type 0} → Round L T → List (List ℕ)
lists_of round = map (λ list. list.items) round.lists.items

-- how many tasks the lists hold
abbrev pub tasks_in : {L T : Type 0} → Round L T → ℕ
tasks_in round = sum_by (λ list. vec_len list) round.lists.items

-- what a round gave
pub record IsRound {L T : Type 0} (tasks : ℕ) (first : ℕ → Outcome T → Type 0) (second : List ℕ → Bool → L → Type 0) (round : Round L T) : Type 0 where
  -- the lists hold no task twice, and nothing but tasks
  pub once : NoneTwice (lists_of round)
  pub no_other : NoneFrom tasks (lists_of round)
  pub workers : AreWorkers second (lists_of round) round.locals.items round.stopped
  -- what was made, by rising task
  pub made : AreMade first round.yields.items
  pub rising : IsStrictlyIncreasing (tasks_of round.yields.items)
  pub among : (task : ℕ) → 0 < times task (tasks_of round.yields.items) → 0 < times_in task (lists_of round)
  -- of all other tasks of the lists nothing was made
  pub others : (task : ℕ) → 0 < times_in task (lists_of round) → times task (tasks_of round.yields.items) ≡ 0 → first task Nothing ⊎ ((round.stopped ≡ true) × first task Stop)
  -- in a round that was stopped a task said Stop, and one that was not stopped did every task
  pub stopper : round.stopped ≡ true → HasStop first (all_of (lists_of round))
  pub every : round.stopped ≡ false → EachBelow tasks (lists_of round)
  pub nothing : round.stopped ≡ false → (task : ℕ) → task < tasks → times task (tasks_of round.yields.items) ≡ 0 → first task Nothing
