-- The numbers of the members that pass a test are given once.
use Rattle.std.proofs.Common.{◌≡◌, ℕ, suc, ◌<◌, ◌≤◌, Bool, true, false, cond, nat_eq, List, [], ◌∷◌, refl, ap, arith, eqb-true, eq-eqb}
use Rattle.patr_lists.specs.Numbers.{places}
use Rattle.patr_model.proofs.Shared.{one_if, count}

pub count_two : (n m : ℕ) (ms : List ℕ) → n ≡ m → count n (n ∷ m ∷ ms) ≤ 1 → ⊥
count_two n m ms e h = omega (arith, h, ap one_if (eq-eqb n n refl), ap one_if (eq-eqb n m e))

pub count_rest : (n m : ℕ) (ms : List ℕ) → count n (m ∷ ms) ≤ 1 → count n ms ≤ 1
count_rest n m ms h = omega (arith, h)

module _ {X : Type 0} (test : X → Bool) where
  places_none : (n i : ℕ) (xs : List X) → n < i → count n (places test i xs) ≡ 0
  places_none n i [] h = refl
  places_none n i (x ∷ xs) h = go (test x) (places_none n (suc i) xs (omega (arith, h)))
    where
      go : (b : Bool) → count n (places test (suc i) xs) ≡ 0 → count n (cond b (i ∷ places test (suc i) xs) (places test (suc i) xs)) ≡ 0
      go true e = other (nat_eq n i) refl
        where
          other : (c : Bool) → nat_eq n i ≡ c → count n (i ∷ places test (suc i) xs) ≡ 0
          other true q = let same = eqb-true n i q in absurd (omega (arith, h, same))
          other false q = omega (arith, e, ap one_if q)
      go false e = e

  pub places_once : (n i : ℕ) (xs : List X) → count n (places test i xs) ≤ 1
  places_once n i [] = omega arith
  places_once n i (x ∷ xs) = go (test x) (places_once n (suc i) xs)
    where
      go : (b : Bool) → count n (places test (suc i) xs) ≤ 1 → count n (cond b (i ∷ places test (suc i) xs) (places test (suc i) xs)) ≤ 1
      go true e = other (nat_eq n i) refl
        where
          other : (c : Bool) → nat_eq n i ≡ c → count n (i ∷ places test (suc i) xs) ≤ 1
          other true q = let same = eqb-true n i q in omega (arith, places_none n (suc i) xs (omega (arith, same)), ap one_if q)
          other false q = omega (arith, e, ap one_if q)
      go false e = e
