-- What the passes of a counter know, and how they share out the numbers below its word.
use Rattle.std.specs.Prelude.{◌≡◌, ℕ, ◌+◌, ◌-◌, ◌<◌, ◌≤◌, List, [], ◌∷◌, ◌++◌, length, sum_by}
use mathlib.Core.Option.{some}
use lib.ListN.{get_elem?}
use Rattle.patr_claims.specs.declared.passes.PassView.{PassView}
use Rattle.patr_claims.specs.Tasks.{times}

abbrev pub pass_view : ℕ → ℕ → List ℕ → ℕ → PassView
pass_view tasks seats drawn notes = record { tasks = tasks; seats = seats; drawn = drawn; notes = notes }

-- a pass that has given its seats away
abbrev pub spent : PassView
spent = pass_view 0 0 [] 0

-- the number joins the list
abbrev pub with_number : PassView → ℕ → PassView
with_number v n = pass_view v.tasks v.seats (v.drawn ++ n ∷ []) v.notes

-- one seat is split off a pass that has drawn nothing
abbrev pub one_fewer : PassView → PassView
one_fewer v = pass_view v.tasks (v.seats - 1) v.drawn v.notes

abbrev pub one_seat : PassView → PassView
one_seat v = pass_view v.tasks 1 [] 0

abbrev pub both : PassView → PassView → PassView
both v w = pass_view v.tasks (v.seats + w.seats) (v.drawn ++ w.drawn) (v.notes + w.notes)

-- each of these passes has the property
abbrev pub EachPass : (PassView → Type 0) → List PassView → Type 0
EachPass P views = (port : ℕ) (v : PassView) → get_elem? views port ≡ some v → P v

-- the numbers below n stand in one list each, no other number stands in one, and the passes have all seats together
pub record AreShared (n seats : ℕ) (views : List PassView) : Type 0 where
  pub each_once : (x : ℕ) → x < n → sum_by (λ v. times x v.drawn) views ≡ 1
  pub no_other : (x : ℕ) → n ≤ x → sum_by (λ v. times x v.drawn) views ≡ 0
  pub lengths : sum_by (λ v. length v.drawn) views ≡ n
  pub all_seats : sum_by (λ v. v.seats) views ≡ seats
