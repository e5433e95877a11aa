-- The numbers of the members of a list that pass a test: which they are, and that they rise.
use Rattle.std.proofs.Common.{◌≡◌, ◌⊎◌, inl, inr, ℕ, zero, suc, ◌+◌, ◌<◌, ◌≤◌, Bool, true, false, cond, List, [], ◌∷◌, length, get_or, Some, slice_get, refl, sym, ap, ◌∙◌, arith, subst}
use Rattle.patr_chart.proofs.Names.{Contains, IsStrictlyIncreasing, places, some_inj}

contains_first : {X : Type 0} (x : X) (xs : List X) → Contains (x ∷ xs) x
contains_first x xs = (0, omega arith, refl)

contains_rest : {X : Type 0} (x y : X) (xs : List X) → Contains xs y → Contains (x ∷ xs) y
contains_rest x y xs h = (suc h.0, omega (arith, h.1), h.2)

contains_cases : {X : Type 0} (x y : X) (xs : List X) → Contains (x ∷ xs) y → (x ≡ y) ⊎ Contains xs y
contains_cases x y xs h = go h.0 h.1 h.2
  where
    go : (k : ℕ) → k < length (x ∷ xs) → get_or (x ∷ xs) k y ≡ y → (x ≡ y) ⊎ Contains xs y
    go zero l e = inl e
    go (suc k) l e = inr (k, omega (arith, l), e)

-- n is the number, from i on, of a member that passes
abbrev pub Passes : {X : Type 0} → (X → Bool) → ℕ → List X → ℕ → Type 0
Passes {X} test i xs n = (j : ℕ) × (x : X) × (n ≡ i + j) × (slice_get xs j ≡ Some x) × (test x ≡ true)

pub places_pass : {X : Type 0} (test : X → Bool) (i : ℕ) (xs : List X) (n : ℕ) → Contains (places test i xs) n → Passes test i xs n
places_pass test i [] n h = absurd (omega (arith, h.1))
places_pass test i (x ∷ xs) n h = go (test x) refl (λ k. step (places_pass test (suc i) xs n k)) h
  where
    step : Passes test (suc i) xs n → Passes test i (x ∷ xs) n
    step p = (suc p.0, p.1, omega (arith, p.2), p.3, p.4)

    go : (b : Bool) → test x ≡ b → (Contains (places test (suc i) xs) n → Passes test i (x ∷ xs) n)
        → Contains (cond b (i ∷ places test (suc i) xs) (places test (suc i) xs)) n → Passes test i (x ∷ xs) n
    go true q rest k = elim (contains_cases i n (places test (suc i) xs) k) [ inl e ↦ (0, x, omega (arith, e), refl, q) | inr r ↦ rest r ]
    go false q rest k = rest k

pub passes_placed : {X : Type 0} (test : X → Bool) (i : ℕ) (xs : List X) (j : ℕ) (x : X) → slice_get xs j ≡ Some x → test x ≡ true → Contains (places test i xs) (i + j)
passes_placed test i [] j x at t = cc
passes_placed test i (y ∷ xs) zero x at t =
    let passes : test y ≡ true = ap test (some_inj y x at) ∙ t in
    let same : i ≡ i + 0 = omega arith in
    let P = places test (suc i) xs in
    subst (λ b. Contains (cond b (i ∷ P) P) (i + 0)) (sym passes) (subst (λ n. Contains (i ∷ P) n) same (contains_first i P))
passes_placed test i (y ∷ xs) (suc j) x at t =
    let same : suc i + j ≡ i + suc j = omega arith in
    go (test y) (subst (λ n. Contains (places test (suc i) xs) n) same (passes_placed test (suc i) xs j x at t))
  where
    go : (b : Bool) → Contains (places test (suc i) xs) (i + suc j) → Contains (cond b (i ∷ places test (suc i) xs) (places test (suc i) xs)) (i + suc j)
    go true h = contains_rest i (i + suc j) (places test (suc i) xs) h
    go false h = h

places_above : {X : Type 0} (test : X → Bool) (i : ℕ) (xs : List X) (k : ℕ) → k < length (places test i xs) → i ≤ get_or (places test i xs) k 0
places_above test i [] k h = absurd (omega (arith, h))
places_above test i (x ∷ xs) k h = go (test x) k h (places_above test (suc i) xs)
  where
    go : (b : Bool) (k : ℕ) → k < length (cond b (i ∷ places test (suc i) xs) (places test (suc i) xs)) → ((k : ℕ) → k < length (places test (suc i) xs) → suc i ≤ get_or (places test (suc i) xs) k 0)
        → i ≤ get_or (cond b (i ∷ places test (suc i) xs) (places test (suc i) xs)) k 0
    go true zero h above = omega arith
    go true (suc k) h above = omega (arith, above k (omega (arith, h)))
    go false k h above = omega (arith, above k h)

rises_more : (n : ℕ) (ns : List ℕ) → ((k : ℕ) → k < length ns → suc n ≤ get_or ns k 0) → IsStrictlyIncreasing ns → (k : ℕ) → k + 1 < length (n ∷ ns) → get_or (n ∷ ns) k 0 < get_or (n ∷ ns) (k + 1) 0
rises_more n ns above rises zero h = omega (arith, above 0 (omega (arith, h)))
rises_more n ns above rises (suc k) h =
    let next : suc (k + 1) ≡ suc k + 1 = omega arith in
    subst (λ m. get_or ns k 0 < get_or (n ∷ ns) m 0) next (rises k (omega (arith, h)))

pub places_rise : {X : Type 0} (test : X → Bool) (i : ℕ) (xs : List X) → IsStrictlyIncreasing (places test i xs)
places_rise test i [] = λ k h. absurd (omega (arith, h))
places_rise test i (x ∷ xs) = go (test x) (places_above test (suc i) xs) (places_rise test (suc i) xs)
  where
    go : (b : Bool) → ((k : ℕ) → k < length (places test (suc i) xs) → suc i ≤ get_or (places test (suc i) xs) k 0) → IsStrictlyIncreasing (places test (suc i) xs)
        → IsStrictlyIncreasing (cond b (i ∷ places test (suc i) xs) (places test (suc i) xs))
    go true above rises = rises_more i (places test (suc i) xs) above rises
    go false above rises = rises
