-- Each step of the counter of tasks keeps its rule.
use Rattle.std.proofs.Common.{◌≡◌, ◌⊎◌, ℕ, zero, suc, ◌+◌, ◌%◌, ◌^◌, ◌<◌, ◌≤◌, min, List, [], ◌∷◌, ◌++◌, length, set, refl, sym, ap, ◌∙◌, subst, ⊎_elim, arith, length-set, get_or-set_same, sum_by, slice_index, inl, inr, Bool, false, cond}
use mathlib.Core.Logic.{dite}
use mathlib.Core.Option.{none, some, some-ne-none, some-injective}
use native.Mathlib.Decide.{dec_lt}
use lib.ListN.{get_elem?}
use Rattle.atomic_table.specs.Table.{State, Me, Step, keeps, step, opening, stepped, Allows, Splits, Joins, Final, Seen}
use Rattle.patr_claims.specs.declared.passes.PassView.{PassView}
use Rattle.patr_claims.specs.declared.counting.DeskSize.{DeskSize}
use Rattle.patr_claims.specs.Tasks.{times}
use Rattle.patr_claims.specs.Passes.{pass_view, spent, with_number, one_fewer, one_seat, both, AreShared}
use Rattle.patr_claims.specs.Counting.{opener, Fits, Counted, IsCounted, with_note, Drew}
use Rattle.patr_claims.proofs.Totals.{sum_by-put, at-le-sum_by, sum_by-le-each}
use Rattle.patr_claims.proofs.Sharing.{shared_none, shared_more, shared_noted, shared_split, shared_joined, shared_whole, sum_split, sum_joined, each_put, each_split, other_has}

pub opens : (size : DeskSize) → size.tasks < 2 ^ 63 → size.seats ≤ 16 → IsCounted size (opening (0 ∷ []) [] (opener size))
opens size few_tasks few_seats = record {
  one_word = refl;
  few_tasks = few_tasks;
  few_seats = few_seats;
  counted = record { shared = shared_at_0 size.tasks size.seats; passed = omega arith; each = one };
}
  where
    shared_at_0 : (tasks seats : ℕ) → AreShared (min 0 tasks) seats (pass_view tasks seats [] 0 ∷ [])
    shared_at_0 tasks seats = subst (λ (n : ℕ). AreShared n seats (pass_view tasks seats [] 0 ∷ [])) (omega arith) (shared_none tasks seats)

    one : (port : ℕ) (v : PassView) → get_elem? (opener size ∷ []) port ≡ some v → Fits size.tasks v
    one zero v at = subst (Fits size.tasks) (some-injective (opener size) v at) (record { knows = λ _. refl; few_notes = omega arith; idle = λ _. refl })
    one (suc port) v at = absurd (some-ne-none v (sym at))

-- no draw wraps the word
word_fits : (tasks seats word : ℕ) (views : List PassView) → Counted tasks seats word views → word ≤ tasks + seats
word_fits tasks seats word views h = let few = sum_by-le-each (λ (v : PassView). v.notes) (λ v. v.seats) views (λ port v at. (h.each port v at).few_notes) in let p = h.passed in let a = h.shared.all_seats in omega arith

module _ (tasks seats word : ℕ) (views : List PassView) (id : ℕ) (v : PassView) (h : Counted tasks seats word views) (at : get_elem? views id ≡ some v) where
  notes_put : (w : PassView) → sum_by (λ (u : PassView). u.notes) (set views id w) + v.notes ≡ sum_by (λ u. u.notes) views + w.notes
  notes_put w = sum_by-put (λ (u : PassView). u.notes) views id v w at

  takes : 0 < v.seats → word < tasks → Counted tasks seats (word + 1) (set views id (with_number v word))
  takes some_seat room =
      let mine = h.each id v at in
      let now : min word tasks ≡ word = omega arith in
      let next : min (word + 1) tasks ≡ word + 1 = omega arith in record {
        shared = subst (λ (n : ℕ). AreShared n seats (set views id (with_number v word))) (sym next) (shared_more word seats views (subst (λ (n : ℕ). AreShared n seats views) now h.shared) id v at);
        passed = let p = h.passed in omega (arith, notes_put (with_number v word));
        each = each_put (Fits tasks) views h.each id (with_number v word) (record { knows = mine.knows; few_notes = mine.few_notes; idle = λ none. absurd (omega arith) });
      }

  notes : v.notes < v.seats → tasks ≤ word → Counted tasks seats (word + 1) (set views id (with_note v))
  notes some_seat ended =
      let mine = h.each id v at in
      let same : min word tasks ≡ min (word + 1) tasks = omega arith in record {
        shared = subst (λ (n : ℕ). AreShared n seats (set views id (with_note v))) same (shared_noted (min word tasks) seats views h.shared id v at (with_note v) refl refl);
        passed = let p = h.passed in omega (arith, notes_put (with_note v));
        each = each_put (Fits tasks) views h.each id (with_note v) (record { knows = mine.knows; few_notes = omega arith; idle = mine.idle });
      }

stands : (size : DeskSize) (s : State (Unit {0}) PassView) (id m : ℕ) (c : List (ℕ × Unit {0})) (w : PassView) → IsCounted size s → m ≡ slice_index s.words 0 + 1
    → Counted size.tasks size.seats (slice_index s.words 0 + 1) (set s.views id w) → IsCounted size (stepped s 0 m id c w keeps)
stands size s id m c w h next now =
    let one = h.one_word in record {
      one_word = length-set s.words 0 m ∙ one;
      few_tasks = h.few_tasks;
      few_seats = h.few_seats;
      counted = subst (λ (k : ℕ). Counted size.tasks size.seats k (set s.views id w)) (sym (get_or-set_same s.words 0 m 0 (omega arith) ∙ next)) now;
    }

pub draws : (size : DeskSize) (slots id : ℕ) (me : Me (Unit {0}) PassView) → me.0.notes < me.0.seats → Allows (IsCounted size) slots id me 0 (λ n. (n + 1) % 2 ^ 64) (Drew (step slots 0 1 0 none) me)
draws size slots id me some_seat s h _ at _ =
    let n : ℕ = slice_index s.words 0 in
    let few = word_fits size.tasks size.seats n s.views h.counted in
    let few_tasks = h.few_tasks in
    let few_seats = h.few_seats in
    let next : (n + 1) % 2 ^ 64 ≡ n + 1 = omega arith in
    let knows : me.0.tasks ≡ size.tasks = (h.counted.each id me.0 at).knows (omega arith) in
    dite (dec_lt n size.tasks)
    (λ (room : n < size.tasks).
    let lengths = h.counted.shared.lengths in
    let mine = at-le-sum_by (λ (u : PassView). length u.drawn) s.views id me.0 at in
    let mine' = at-le-sum_by (λ (u : PassView). times n u.drawn) s.views id me.0 at in
    let none = h.counted.shared.no_other n (omega arith) in (
      with_number me.0 n,
      keeps,
      tt,
      stands size s id _ me.1 (with_number me.0 n) h next (takes size.tasks size.seats n s.views id me.0 h.counted at (omega arith) room),
      (record { task = λ _. (refl, omega arith, omega arith); end = λ ended. absurd (omega arith) }, refl),
    ))
    (λ ended. (
      with_note me.0,
      keeps,
      tt,
      stands size s id _ me.1 (with_note me.0) h next (notes size.tasks size.seats n s.views id me.0 h.counted at some_seat (omega arith)),
      (record { task = λ room. absurd (omega arith); end = λ _. refl }, refl),
    ))

pub splits : (size : DeskSize) (id : ℕ) (v : PassView) → 1 < v.seats → v.notes ≡ 0 → Splits (IsCounted size) id v (one_fewer v) (one_seat v)
splits size id v some_seats no_note s h at =
    let c = h.counted in
    let mine = c.each id v at in record {
      one_word = h.one_word;
      few_tasks = h.few_tasks;
      few_seats = h.few_seats;
      counted = record {
        shared = shared_split _ size.seats s.views c.shared id v at (omega arith);
        passed = c.passed ∙ ap (λ k. min (slice_index s.words 0) size.tasks + k) (sym (sum_split (λ u. u.notes) s.views id v at (one_fewer v) (one_seat v) (omega arith)));
        each = each_split (Fits size.tasks) s.views c.each id (one_fewer v) (one_seat v)
            (record { knows = λ _. mine.knows (omega arith); few_notes = omega arith; idle = λ none. absurd (omega arith) })
            (record { knows = λ _. mine.knows (omega arith); few_notes = omega arith; idle = λ _. refl });
      };
    }

pub joins : (size : DeskSize) (id : ℕ) (v : PassView) (other : ℕ) (w : PassView) → 0 < v.seats → Joins (IsCounted size) id v other w (both v w) spent
joins size id v other w some_seat s h at apart there =
    let c = h.counted in
    let mine = c.each id v at in
    let few = mine.few_notes in
    let few' = (other_has (Fits size.tasks) s.views c.each id other (both v w) w apart there).few_notes in record {
      one_word = h.one_word;
      few_tasks = h.few_tasks;
      few_seats = h.few_seats;
      counted = record {
        shared = shared_joined _ size.seats s.views c.shared id v at other w there;
        passed = c.passed ∙ ap (λ k. min (slice_index s.words 0) size.tasks + k) (sym (sum_joined (λ u. u.notes) s.views id v at other w (both v w) spent there refl refl));
        each = each_put (Fits size.tasks) (set s.views id (both v w))
            (each_put (Fits size.tasks) s.views c.each id (both v w) (record { knows = λ _. mine.knows some_seat; few_notes = omega arith; idle = λ none. absurd (omega arith) }))
            other spent (record { knows = λ none. absurd (omega arith); few_notes = omega arith; idle = λ _. refl });
      };
    }

-- the pass with all seats has drawn no number twice and only tasks, and where it saw the end, each task
pub told : (size : DeskSize) (id : ℕ) (v : PassView) (s : State (Unit {0}) PassView) → IsCounted size s → get_elem? s.views id ≡ some v → v.seats ≡ size.seats
    → ((x : ℕ) → times x v.drawn ≤ 1) × ((x : ℕ) → size.tasks ≤ x → times x v.drawn ≡ 0) × (0 < v.notes → (x : ℕ) → x < size.tasks → times x v.drawn ≡ 1)
told size id v s h at whole =
    let c = h.counted in
    let word : ℕ = slice_index s.words 0 in
    let all = shared_whole (min word size.tasks) size.seats s.views c.shared id v at (λ p u there. (c.each p u there).idle) whole in
    let some_notes = at-le-sum_by (λ (u : PassView). u.notes) s.views id v at in
    let p = c.passed in (
      (λ x. ⊎_elim (λ below. let e = all.1 x below in omega arith) (λ above. let e = all.2 x above in omega arith) (split x (min word size.tasks))),
      (λ x above. all.2 x (omega arith)),
      (λ some_note x below. all.1 x (omega arith)),
    )
  where
    split : (x n : ℕ) → (x < n) ⊎ (n ≤ x)
    split x n = dite (dec_lt x n) (λ l. inl l) (λ not. inr (omega arith))

-- the pass of one seat
pub draws_as : (size : DeskSize) (slots id tasks : ℕ) (taken : List ℕ) (ended : Bool) (me : Me (Unit {0}) PassView) → me ≡ (pass_view tasks 1 taken (cond ended 1 0), []) → ended ≡ false
    → Allows (IsCounted size) slots id me 0 (λ n. (n + 1) % 2 ^ 64) (Drew (step slots 0 1 0 none) me)
draws_as size slots id tasks taken ended me is not_ended =
    draws size slots id me (let notes = ap (λ (m : Me (Unit {0}) PassView). m.0.notes) is in let seats = ap (λ (m : Me (Unit {0}) PassView). m.0.seats) is in let zero = ap {B = ℕ} (λ b. cond b 1 0) not_ended in omega arith)

-- what a draw leaves to the pass of one seat
pub drew_task : (tasks n : ℕ) (taken : List ℕ) (ended : Bool) (x : Step (Unit {0})) (me new : Me (Unit {0}) PassView) → me ≡ (pass_view tasks 1 taken (cond ended 1 0), []) → Drew x me n new → n < tasks
    → (new ≡ (pass_view tasks 1 (taken ++ n ∷ []) (cond ended 1 0), [])) × (times n taken ≡ 0) × (length taken < tasks)
drew_task tasks n taken ended x me new is drew room =
    let P : Me (Unit {0}) PassView → Type 0 = λ m. Drew x m n new in
    let d : P (pass_view tasks 1 taken (cond ended 1 0), []) = subst P is drew in
    let t = d.0.task room in
    ((λ i. (t.0 i, d.1 i)), t.1, t.2)

pub drew_end : (tasks n : ℕ) (taken : List ℕ) (ended : Bool) (x : Step (Unit {0})) (me new : Me (Unit {0}) PassView) → me ≡ (pass_view tasks 1 taken (cond ended 1 0), []) → ended ≡ false → Drew x me n new → tasks ≤ n
    → new ≡ (pass_view tasks 1 taken 1, [])
drew_end tasks n taken ended x me new is not_ended drew end =
    let P : Me (Unit {0}) PassView → Type 0 = λ m. Drew x m n new in
    let d : P (pass_view tasks 1 taken 0, []) = subst P (is ∙ ap (λ b. (pass_view tasks 1 taken (cond b 1 0), [])) not_ended) drew in
    λ i. (d.0.end end i, d.1 i)

pub splits_as : (size : DeskSize) (id tasks seats : ℕ) (v : PassView) → v ≡ pass_view tasks seats [] 0 → 1 < seats → Splits (IsCounted size) id v (one_fewer v) (one_seat v)
splits_as size id tasks seats v is some_seats =
    let seats_are = ap (λ (u : PassView). u.seats) is in
    let notes_are = ap (λ (u : PassView). u.notes) is in
    splits size id v (omega arith) (omega arith)

pub joins_as : (size : DeskSize) (id tasks seats notes : ℕ) (taken : List ℕ) (v : PassView) (other : ℕ) (w : PassView) → v ≡ pass_view tasks seats taken notes → 0 < seats → Joins (IsCounted size) id v other w (both v w) spent
joins_as size id tasks seats notes taken v other w is some_seat = joins size id v other w (let seats_are = ap (λ (u : PassView). u.seats) is in omega arith)

-- the end of the table, at which the last pass has all seats
pub ended : (size : DeskSize) (id tasks seats noted : ℕ) (taken : List ℕ) (v : PassView) (words : List ℕ) (slots : List (Unit {0})) → v ≡ pass_view tasks seats taken noted → seats ≡ size.seats → Final (Seen (IsCounted size) id v) words slots
    → ((x : ℕ) → times x taken ≤ 1) × ((x : ℕ) → size.tasks ≤ x → times x taken ≡ 0) × (0 < noted → (x : ℕ) → x < size.tasks → times x taken ≡ 1)
ended size id tasks seats noted taken v words slots is all final =
    let t = told size id v final.0 final.1.0 final.1.1 (ap (λ (u : PassView). u.seats) is ∙ all) in
    let list_is = ap (λ (u : PassView). u.drawn) is in
    let notes_are = ap (λ (u : PassView). u.notes) is in
    subst (λ (l : List ℕ). ((x : ℕ) → times x l ≤ 1) × ((x : ℕ) → size.tasks ≤ x → times x l ≡ 0) × (0 < noted → (x : ℕ) → x < size.tasks → times x l ≡ 1)) list_is (t.0, t.1, (λ some_note. t.2 (omega arith)))
