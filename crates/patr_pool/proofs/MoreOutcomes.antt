-- The facts on a worker's tasks and yields, with one task more.
use Rattle.std.proofs.Common.{◌≡◌, ◌≢◌, ◌⊎◌, ℕ, ◌+◌, ◌-◌, ◌<◌, ◌≤◌, Bool, true, false, true≢false, List, [], ◌∷◌, ◌++◌, length, refl, sym, ap, ◌∙◌, subst, inl, inr, ⊎_elim, arith, length-append}
use Rattle.std.proofs.lemmas.List.{map-append}
use Rattle.std.proofs.lemmas.List.Elements.{All-push}
use mathlib.Core.Logic.{dite}
use native.Mathlib.Decide.{ℕ_discrete}
use Rattle.patr_claims.specs.Tasks.{times}
use Rattle.patr_claims.proofs.Totals.{times_push_same, times_push_other}
use Rattle.patr_claims.proofs.Distinct.{length-le-below}
use Rattle.patr_pool.specs.declared.work.Outcome.{Outcome}
use Rattle.patr_pool.specs.declared.work.Outcome.TheVariants.{Nothing, Made, Stop}
use Rattle.patr_pool.specs.declared.work.Yield.{Yield}
use Rattle.patr_pool.specs.Outcomes.{tasks_of, AreTasks, HasStop, YieldsMore, Yielded}

pub more_tasks : (tasks task : ℕ) (list : List ℕ) → AreTasks tasks list → task < tasks → times task list ≡ 0 → AreTasks tasks (list ++ task ∷ [])
more_tasks tasks task list were below new = record {
  below = All-push (λ t. t < tasks) list task were.below below;
  once = λ t. dite (ℕ_discrete task t)
      (λ (e : task ≡ t). let one = subst (λ (x : ℕ). times x (list ++ x ∷ []) ≡ times x list + 1) e (times_push_same task list) in let none = subst (λ (x : ℕ). times x list ≡ 0) e new in subst (λ (x : ℕ). times t (list ++ x ∷ []) ≤ 1) (sym e) (omega arith))
      (λ (ne : task ≢ t). omega (arith, times_push_other t task list ne, were.once t));
}

-- each task is one of those that are left
pub fewer_left : (tasks task : ℕ) (list new : List ℕ) → new ≡ list ++ task ∷ [] → AreTasks tasks list → task < tasks → times task list ≡ 0 → tasks - length new < tasks - length list
fewer_left tasks task list new is were below other =
    let now = more_tasks tasks task list were below other in
    let most = length-le-below tasks (list ++ task ∷ []) now.below now.once in
    let long = ap length is in
    omega (arith, length-append list (task ∷ []))

module _ {T : Type 0} (first : ℕ → Outcome T → Type 0) where
  pub said_stop : (task : ℕ) (stop : Bool) (old new : List (Yield T)) → YieldsMore first task stop old new → stop ≡ true → first task Stop
  said_stop task stop old new more e = ⊎_elim
      (λ (m : (out : T) × (new ≡ old ++ record { task = task; out = out } ∷ []) × first task (Made out) × (stop ≡ false)). absurd (true≢false (sym e ∙ m.3)))
      (λ (m : (new ≡ old) × (stop ≡ false → first task Nothing) × (stop ≡ true → first task Stop)). m.2 e)
      more

  -- the task that was taken last said Stop
  pub stops : (task : ℕ) (list new : List ℕ) → new ≡ list ++ task ∷ [] → first task Stop → HasStop first new
  stops task list new is said = (task, subst (λ (l : List ℕ). 0 < times task l) (sym is) (omega (arith, times_push_same task list)), said)

  pub more_yields : (task : ℕ) (list : List ℕ) (stop : Bool) (old new : List (Yield T)) → Yielded first list false old → times task list ≡ 0 → YieldsMore first task stop old new → Yielded first (list ++ task ∷ []) stop new
  more_yields task list stop old new were other more = ⊎_elim
      (λ (m : (out : T) × (new ≡ old ++ record { task = task; out = out } ∷ []) × first task (Made out) × (stop ≡ false)). subst (λ (n : List (Yield T)). Yielded first (list ++ task ∷ []) stop n) (sym m.1) (with_yield m.0 m.2))
      (λ (m : (new ≡ old) × (stop ≡ false → first task Nothing) × (stop ≡ true → first task Stop)). subst (λ (n : List (Yield T)). Yielded first (list ++ task ∷ []) stop n) (sym m.0) (without (outcome stop m.1 m.2)))
      more
    where
      outcome : (stop : Bool) → (stop ≡ false → first task Nothing) → (stop ≡ true → first task Stop) → first task Nothing ⊎ ((stop ≡ true) × first task Stop)
      outcome true go end = inr (refl, end refl)
      outcome false go end = inl (go refl)

      before : (t : ℕ) → 0 < times t list → times t (tasks_of old) ≡ 0 → first t Nothing ⊎ ((stop ≡ true) × first t Stop)
      before t there none_made = ⊎_elim (λ (n : first t Nothing). inl n) (λ (s : (false ≡ true) × first t Stop). absurd (true≢false (sym s.0))) (were.others t there none_made)

      without : first task Nothing ⊎ ((stop ≡ true) × first task Stop) → Yielded first (list ++ task ∷ []) stop old
      without came = record {
        made = were.made;
        among = λ t. dite (ℕ_discrete task t)
            (λ (e : task ≡ t). subst (λ (x : ℕ). times x (tasks_of old) ≤ times x (list ++ task ∷ [])) e (omega (arith, were.among task, times_push_same task list)))
            (λ (ne : task ≢ t). omega (arith, were.among t, times_push_other t task list ne));
        others = λ t there none_made. dite (ℕ_discrete task t)
            (λ (e : task ≡ t). subst (λ (x : ℕ). first x Nothing ⊎ ((stop ≡ true) × first x Stop)) e came)
            (λ (ne : task ≢ t). before t (omega (arith, times_push_other t task list ne)) none_made);
      }

      with_yield : (out : T) → first task (Made out) → Yielded first (list ++ task ∷ []) stop (old ++ record { task = task; out = out } ∷ [])
      with_yield out fact =
          let split = map-append (λ (yield : Yield T). yield.task) old (record { task = task; out = out } ∷ []) in record {
            made = All-push (λ yield. first yield.task (Made yield.out)) old (record { task = task; out = out }) were.made fact;
            among = λ t. subst (λ (l : List ℕ). times t l ≤ times t (list ++ task ∷ [])) (sym split) (dite (ℕ_discrete task t)
                (λ (e : task ≡ t). subst (λ (x : ℕ). times x (tasks_of old ++ task ∷ []) ≤ times x (list ++ task ∷ [])) e (omega (arith, were.among task, times_push_same task list, times_push_same task (tasks_of old))))
                (λ (ne : task ≢ t). omega (arith, were.among t, times_push_other t task list ne, times_push_other t task (tasks_of old) ne)));
            others = λ t there none_made.
                let none_made' = subst (λ (l : List ℕ). times t l ≡ 0) split none_made in
                dite (ℕ_discrete task t)
                (λ (e : task ≡ t). absurd (let made = subst (λ (x : ℕ). times x (tasks_of old ++ task ∷ []) ≡ times x (tasks_of old) + 1) e (times_push_same task (tasks_of old)) in omega arith))
                (λ (ne : task ≢ t). before t (omega (arith, times_push_other t task list ne)) (omega (arith, times_push_other t task (tasks_of old) ne)));
          }
