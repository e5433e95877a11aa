-- What several workers leave, with one worker more.
use Rattle.std.proofs.Common.{◌≡◌, ℕ, ◌<◌, ◌≤◌, Bool, true, false, ◌||◌, true≢false, List, [], ◌∷◌, ◌++◌, map, All, get_or, refl, sym, ap, ◌∙◌, ◌⊎◌, subst, inl, inr, ⊎_elim, arith, append-nil}
use Rattle.std.proofs.lemmas.List.{map-append}
use Rattle.std.proofs.lemmas.List.Elements.{All-append, All-cons, All-push}
use Rattle.std.proofs.lemmas.Grind.{flat_map-append}
use Rattle.patr_lists.proofs.Conditions.{or_right}
use mathlib.Core.Logic.{dite}
use native.Mathlib.Decide.{dec_lt}
use Rattle.patr_claims.specs.Tasks.{times, all_of, NoneTwice, NoneFrom, EachBelow}
use Rattle.patr_claims.proofs.Totals.{times-append}
use Rattle.patr_claims.proofs.Distinct.{times-cons_same}
use Rattle.patr_pool.specs.declared.round.Round.{Round}
use Rattle.patr_pool.specs.declared.worker.Ran.{Ran}
use Rattle.patr_pool.specs.declared.work.Outcome.{Outcome}
use Rattle.patr_pool.specs.declared.work.Outcome.TheVariants.{Nothing, Made, Stop}
use Rattle.patr_pool.specs.declared.work.Yield.{Yield}
use Rattle.patr_pool.specs.Outcomes.{tasks_of, HasStop, Yielded}
use Rattle.patr_pool.specs.Placing.{AreRising}
use Rattle.patr_pool.specs.Rounds.{Seconds, any_of, IsRun, AreRuns, lists_of, IsRound}
use Rattle.patr_pool.proofs.MorePlaces.{times-le-cons}

or_false : (a b : Bool) → (a || b) ≡ false → (a ≡ false) × (b ≡ false)
or_false true b e = absurd (true≢false e)
or_false false b e = (refl, e)

or_true : (a b : Bool) → (a || b) ≡ true → (a ≡ true) ⊎ (b ≡ true)
or_true true b e = inl refl
or_true false b e = inr e

any_of-push : (stops : List Bool) (stop : Bool) → any_of (stops ++ stop ∷ []) ≡ (any_of stops || stop)
any_of-push [] true = refl
any_of-push [] false = refl
any_of-push (true ∷ stops) stop = refl
any_of-push (false ∷ stops) stop = any_of-push stops stop

module _ {T : Type 0} where
  -- each yield's task stands among the tasks of all yields
  stands : (yields : List (Yield T)) → All (λ yield. 0 < times yield.task (tasks_of yields)) yields
  stands [] = λ k d below. absurd (omega arith)
  stands (y ∷ ys) = All-cons (λ yield. 0 < times yield.task (tasks_of (y ∷ ys))) y ys
      (omega (arith, times-cons_same y.task (tasks_of ys)))
      (λ k d below. let there = stands ys k d below in omega (arith, times-le-cons (get_or ys k d).task y.task (tasks_of ys)))

  -- so it is below the number of tasks, where the lists have no other number
  pub yields_below : (tasks : ℕ) (yields : List (Yield T)) (lists : List (List ℕ)) → ((task : ℕ) → times task (tasks_of yields) ≤ times task (all_of lists)) → NoneFrom tasks lists → All (λ yield. yield.task < tasks) yields
  yields_below tasks yields lists among no_other k d below =
      let task : ℕ = (get_or yields k d).task in
      let there = stands yields k d below in
      dite (dec_lt task tasks) (λ l. l) (λ not. absurd (let most = among task in let none = no_other task (omega arith) in omega arith))

module _ {L : Type 0} (second : List ℕ → Bool → L → Type 0) where
  seconds_push : (lists : List (List ℕ)) (stops : List Bool) (locals : List L) (list : List ℕ) (stop : Bool) (local : L) → Seconds second lists stops locals → second list stop local
      → Seconds second (lists ++ list ∷ []) (stops ++ stop ∷ []) (locals ++ local ∷ [])
  seconds_push [] [] [] list stop local were now = (now, tt)
  seconds_push [] [] (x ∷ xs) list stop local were now = absurd were
  seconds_push [] (b ∷ bs) locals list stop local were now = absurd were
  seconds_push (l ∷ ls) [] locals list stop local were now = absurd were
  seconds_push (l ∷ ls) (b ∷ bs) [] list stop local were now = absurd were
  seconds_push (l ∷ ls) (b ∷ bs) (x ∷ xs) list stop local were now = (were.0, seconds_push ls bs xs list stop local were.1 now)

module _ {T : Type 0} (first : ℕ → Outcome T → Type 0) where
  stop_left : (xs ys : List ℕ) → HasStop first xs → HasStop first (xs ++ ys)
  stop_left xs ys s = let there = s.1 in (s.0, omega (arith, times-append s.0 xs ys), s.2)

  stop_right : (xs ys : List ℕ) → HasStop first ys → HasStop first (xs ++ ys)
  stop_right xs ys s = let there = s.1 in (s.0, omega (arith, times-append s.0 xs ys), s.2)

  yielded_more : (xs ys : List ℕ) (a b : Bool) (made more : List (Yield T)) → Yielded first xs a made → Yielded first ys b more → Yielded first (xs ++ ys) (a || b) (made ++ more)
  yielded_more xs ys a b made more were now =
      let split = λ (t : ℕ). ap (times t) (map-append (λ (yield : Yield T). yield.task) made more) ∙ times-append t (tasks_of made) (tasks_of more) in record {
        made = All-append (λ yield. first yield.task (Made yield.out)) made more were.made now.made;
        among = λ t. omega (arith, split t, times-append t xs ys, were.among t, now.among t);
        others = λ t there none_made. dite (dec_lt 0 (times t xs))
            (λ (here : 0 < times t xs). ⊎_elim (λ (n : first t Nothing). inl n) (λ (s : (a ≡ true) × first t Stop). inr (ap (λ k. k || b) s.0, s.1)) (were.others t here (omega (arith, split t))))
            (λ not_here. ⊎_elim (λ (n : first t Nothing). inl n) (λ (s : (b ≡ true) × first t Stop). inr (or_right a b s.0, s.1)) (now.others t (omega (arith, times-append t xs ys)) (omega (arith, split t))));
      }

module _ {S L T : Type 0} (is_seat : S → Type 0) (taken : S → List ℕ) (has_seen_none : S → Bool) (first : ℕ → Outcome T → Type 0) (second : List ℕ → Bool → L → Type 0) where
  pub runs_more : (ran : Ran S L T) (seats : List S) (locals : List L) (yields : List (Yield T)) (stopped : Bool) → IsRun is_seat taken has_seen_none first second ran → AreRuns is_seat taken has_seen_none first second seats locals yields stopped
      → AreRuns is_seat taken has_seen_none first second (seats ++ ran.seat ∷ []) (locals ++ ran.local ∷ []) (yields ++ ran.yields.items) (stopped || ran.stopped)
  runs_more ran seats locals yields stopped one all =
      let lists = map-append taken seats (ran.seat ∷ []) in
      let together : all_of (map taken (seats ++ ran.seat ∷ [])) ≡ all_of (map taken seats) ++ taken ran.seat = ap all_of lists ∙ flat_map-append (λ (list : List ℕ). list) (map taken seats) (taken ran.seat ∷ []) ∙ ap (λ l. all_of (map taken seats) ++ l) (append-nil (taken ran.seat)) in record {
        here = All-push is_seat seats ran.seat all.here one.here;
        ended = λ went_on. let both = or_false stopped ran.stopped went_on in All-push (λ seat. has_seen_none seat ≡ true) seats ran.seat (all.ended both.0) (one.ended both.1);
        workers = (
          all.workers.0 ++ ran.stopped ∷ [],
          subst (λ l. Seconds second l (all.workers.0 ++ ran.stopped ∷ []) (locals ++ ran.local ∷ [])) (sym lists) (seconds_push second (map taken seats) all.workers.0 locals (taken ran.seat) ran.stopped ran.local all.workers.1 one.local),
          any_of-push all.workers.0 ran.stopped ∙ ap (λ b. b || ran.stopped) all.workers.2,
        );
        stopper = λ stop. subst (λ (l : List ℕ). HasStop first l) (sym together) (⊎_elim
            (λ (e : stopped ≡ true). stop_left first (all_of (map taken seats)) (taken ran.seat) (all.stopper e))
            (λ (e : ran.stopped ≡ true). stop_right first (all_of (map taken seats)) (taken ran.seat) (one.stopper e))
            (or_true stopped ran.stopped stop));
        yielded = subst (λ l. Yielded first l (stopped || ran.stopped) (yields ++ ran.yields.items)) (sym together) (yielded_more first (all_of (map taken seats)) (taken ran.seat) stopped ran.stopped yields ran.yields.items all.yielded one.yields);
      }

  -- no worker has left anything yet
  pub runs_none : (seats : List S) (locals : List L) (yields : List (Yield T)) (stopped : Bool) → seats ≡ [] → locals ≡ [] → yields ≡ [] → stopped ≡ false → AreRuns is_seat taken has_seen_none first second seats locals yields stopped
  runs_none seats locals yields stopped no_seat no_local no_yield went_on =
      rw (no_seat, no_local, no_yield, went_on) record {
        here = λ k d below. absurd (omega arith);
        ended = λ _ k d below. absurd (omega arith);
        workers = ([], tt, refl);
        stopper = λ stop. absurd (true≢false (sym stop));
        yielded = record {
          made = λ k d below. absurd (omega arith);
          among = λ task. omega arith;
          others = λ task there none_made. absurd (omega arith);
        };
      }

  -- the round of what workers left, whose desk is closed and whose yields are in order
  pub round_of : (tasks : ℕ) (seats : List S) (yields : List (Yield T)) (round : Round L T) → AreRuns is_seat taken has_seen_none first second seats round.locals.items yields round.stopped → lists_of round ≡ map taken seats
      → AreRising first yields round.yields.items → NoneTwice (map taken seats) → NoneFrom tasks (map taken seats) → (All (λ seat. has_seen_none seat ≡ true) seats → EachBelow tasks (map taken seats)) → IsRound tasks first second round
  round_of tasks seats yields round runs lists placed once no_other every = record {
    once = subst NoneTwice (sym lists) once;
    no_other = subst (NoneFrom tasks) (sym lists) no_other;
    workers = (runs.workers.0, subst (λ l. Seconds second l runs.workers.0 round.locals.items) (sym lists) runs.workers.1, runs.workers.2);
    made = placed.made;
    rising = placed.rising;
    among = λ t there. subst (λ (l : List (List ℕ)). 0 < times t (all_of l)) (sym lists) (let old = placed.among t there in let most = runs.yielded.among t in omega arith);
    others = λ t there none_made. outcome t (subst (λ (l : List (List ℕ)). 0 < times t (all_of l)) lists there) none_made;
    stopper = λ stop. subst (λ (l : List (List ℕ)). HasStop first (all_of l)) (sym lists) (runs.stopper stop);
    every = λ went_on. subst (EachBelow tasks) (sym lists) (every (runs.ended went_on));
    nothing = λ went_on t below none_made.
        let once = every (runs.ended went_on) t below in
        ⊎_elim (λ (n : first t Nothing). n) (λ (s : (round.stopped ≡ true) × first t Stop). absurd (true≢false (sym s.0 ∙ went_on))) (outcome t (omega arith) none_made);
  }
    where
      outcome : (t : ℕ) → 0 < times t (all_of (map taken seats)) → times t (tasks_of round.yields.items) ≡ 0 → first t Nothing ⊎ ((round.stopped ≡ true) × first t Stop)
      outcome t there none_made = runs.yielded.others t there
          (dite (dec_lt 0 (times t (tasks_of yields))) (λ some_time. absurd (let kept = placed.kept t some_time in omega arith)) (λ never. omega arith))
