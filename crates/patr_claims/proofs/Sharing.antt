-- Passes that share out the numbers below a word go on doing so at each step.
use Rattle.std.proofs.Common.{◌≡◌, ◌≢◌, ℕ, ◌+◌, ◌<◌, ◌≤◌, List, [], ◌∷◌, ◌++◌, length, set, sum_by, refl, sym, ap, ◌∙◌, subst, ⊎_elim, arith, length-append}
use Rattle.std.proofs.lemmas.List.Sums.{sum_by_push, sum_by-append}
use mathlib.Core.Logic.{dite}
use mathlib.Core.Option.{some}
use native.Mathlib.Decide.{ℕ_discrete}
use lib.ListN.{get_elem?}
use Rattle.atomic_table.proofs.Lists.{at_set, at_snoc}
use Rattle.patr_claims.specs.declared.passes.PassView.{PassView}
use Rattle.patr_claims.specs.Tasks.{times}
use Rattle.patr_claims.specs.Passes.{pass_view, spent, with_number, one_fewer, one_seat, both, EachPass, AreShared}
use Rattle.patr_claims.proofs.Totals.{sum_by-put, sum_by-whole, times_push_same, times_push_other}

-- the pass with all seats, which has drawn nothing
pub shared_none : (tasks seats : ℕ) → AreShared 0 seats (pass_view tasks seats [] 0 ∷ [])
shared_none tasks seats = record {
  each_once = λ x below. absurd (omega arith);
  no_other = λ x above. refl;
  lengths = refl;
  all_seats = omega arith;
}

module _ (P : PassView → Type 0) (views : List PassView) (each : EachPass P views) (id : ℕ) where
  pub each_put : (w : PassView) → P w → EachPass P (set views id w)
  each_put w fits port v at = ⊎_elim (λ (t : (port ≡ id) × (w ≡ v)). subst P t.1 fits) (λ (t : (port ≢ id) × (get_elem? views port ≡ some v)). each port v t.1) (at_set views id port w v at)

  pub each_split : (left right : PassView) → P left → P right → EachPass P (set views id left ++ right ∷ [])
  each_split left right fits fits' port v at = ⊎_elim (each_put left fits port v) (λ (e : right ≡ v). subst P e fits') (at_snoc (set views id left) right v port at)

  -- another pass has it too
  pub other_has : (other : ℕ) (whole w : PassView) → other ≢ id → get_elem? (set views id whole) other ≡ some w → P w
  other_has other whole w apart at = ⊎_elim (λ (t : (other ≡ id) × (whole ≡ w)). absurd (apart t.0)) (λ (t : (other ≢ id) × (get_elem? views other ≡ some w)). each other w t.1) (at_set views id other whole w at)

module _ (f : PassView → ℕ) (views : List PassView) (id : ℕ) (v : PassView) (at : get_elem? views id ≡ some v) where
  -- the same sum where one view is cut in two
  pub sum_split : (left right : PassView) → f left + f right ≡ f v → sum_by f (set views id left ++ right ∷ []) ≡ sum_by f views
  sum_split left right same = omega (arith, sum_by_push f (set views id left) right, sum_by-put f views id v left at)

  -- the same sum where two views become one
  pub sum_joined : (other : ℕ) (w whole rest : PassView) → get_elem? (set views id whole) other ≡ some w → f whole ≡ f v + f w → f rest ≡ 0 → sum_by f (set (set views id whole) other rest) ≡ sum_by f views
  sum_joined other w whole rest there joined empty = omega (arith, sum_by-put f (set views id whole) other w rest there, sum_by-put f views id v whole at)

module _ (n seats : ℕ) (views : List PassView) (h : AreShared n seats views) where
  -- the lists share the same numbers, and the passes have the same seats
  shared_as : (new : List PassView) → ((x : ℕ) → sum_by (λ (v : PassView). times x v.drawn) new ≡ sum_by (λ v. times x v.drawn) views) → sum_by (λ (v : PassView). length v.drawn) new ≡ sum_by (λ v. length v.drawn) views
      → sum_by (λ (v : PassView). v.seats) new ≡ sum_by (λ v. v.seats) views → AreShared n seats new
  shared_as new times_are lengths_are seats_are = record {
    each_once = λ x below. times_are x ∙ h.each_once x below;
    no_other = λ x above. times_are x ∙ h.no_other x above;
    lengths = lengths_are ∙ h.lengths;
    all_seats = seats_are ∙ h.all_seats;
  }

  module _ (id : ℕ) (v : PassView) (at : get_elem? views id ≡ some v) where
    -- a pass drew the next number
    pub shared_more : AreShared (n + 1) seats (set views id (with_number v n))
    shared_more =
        let each_time = λ (x : ℕ). sum_by-put (λ (u : PassView). times x u.drawn) views id v (with_number v n) at in record {
          each_once = λ x below. dite (ℕ_discrete n x)
              (λ (e : n ≡ x). let none = h.no_other x (omega arith) in let one = subst (λ (y : ℕ). times x (v.drawn ++ y ∷ []) ≡ times x v.drawn + 1) (sym e) (times_push_same x v.drawn) in omega (arith, each_time x))
              (λ (ne : n ≢ x). let one = h.each_once x (omega arith) in omega (arith, each_time x, times_push_other x n v.drawn ne));
          no_other = λ x above. let none = h.no_other x (omega arith) in let ne : n ≢ x = (λ e. omega arith) in omega (arith, each_time x, times_push_other x n v.drawn ne);
          lengths = let l = h.lengths in omega (arith, sum_by-put (λ (u : PassView). length u.drawn) views id v (with_number v n) at, length-append v.drawn (n ∷ []));
          all_seats = let a = h.all_seats in omega (arith, sum_by-put (λ (u : PassView). u.seats) views id v (with_number v n) at);
        }

    -- a pass knows more, and has the same numbers and seats
    pub shared_noted : (w : PassView) → w.drawn ≡ v.drawn → w.seats ≡ v.seats → AreShared n seats (set views id w)
    shared_noted w drawn_is seats_are = shared_as (set views id w)
        (λ x. omega (arith, sum_by-put (λ (u : PassView). times x u.drawn) views id v w at, ap (times x) drawn_is))
        (omega (arith, sum_by-put (λ (u : PassView). length u.drawn) views id v w at, ap length drawn_is))
        (omega (arith, sum_by-put (λ (u : PassView). u.seats) views id v w at))

    pub shared_split : 0 < v.seats → AreShared n seats (set views id (one_fewer v) ++ one_seat v ∷ [])
    shared_split some_seat = shared_as (set views id (one_fewer v) ++ one_seat v ∷ [])
        (λ x. sum_split (λ u. times x u.drawn) views id v at _ _ (omega arith))
        (sum_split (λ u. length u.drawn) views id v at _ _ (omega arith))
        (sum_split (λ u. u.seats) views id v at _ _ (omega arith))

    pub shared_joined : (other : ℕ) (w : PassView) → get_elem? (set views id (both v w)) other ≡ some w → AreShared n seats (set (set views id (both v w)) other spent)
    shared_joined other w there = shared_as (set (set views id (both v w)) other spent)
        (λ x. sum_joined (λ u. times x u.drawn) views id v at other w _ _ there (sum_by-append _ v.drawn w.drawn) refl)
        (sum_joined (λ u. length u.drawn) views id v at other w _ _ there (length-append v.drawn w.drawn) refl)
        (sum_joined (λ u. u.seats) views id v at other w _ _ there refl refl)

    -- the pass with all seats drew the numbers below n, each once
    pub shared_whole : EachPass (λ u. u.seats ≡ 0 → u.drawn ≡ []) views → v.seats ≡ seats → (length v.drawn ≡ n) × ((x : ℕ) → x < n → times x v.drawn ≡ 1) × ((x : ℕ) → n ≤ x → times x v.drawn ≡ 0)
    shared_whole idle whole =
        let mine = λ (f : List ℕ → ℕ) (empty : f [] ≡ 0). sum_by-whole (λ (u : PassView). u.seats) (λ u. f u.drawn) views id v (λ p u there none. ap f (idle p u there none) ∙ empty) at (h.all_seats ∙ sym whole) in
        (sym (mine length refl) ∙ h.lengths, (λ x below. sym (mine (times x) refl) ∙ h.each_once x below), (λ x above. sym (mine (times x) refl) ∙ h.no_other x above))
