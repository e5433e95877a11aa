-- What lists of kept items have, by what was dealt with.
use Rattle.std.proofs.Common.{◌≡◌, ◌⊎◌, inl, inr, ℕ, zero, suc, ◌+◌, ◌<◌, List, [], ◌∷◌, ◌++◌, map, Some, slice_get, option_and_then, refl, sym, ap, ◌∙◌, arith, subst}
use Rattle.patr_library.proofs.Names.{AllByRecursion, all_weaker, all_append, get_left, some_inj, and_then_some, Rises, AreKept, numbered_from, all_numbered}

-- ---- what is kept

module _ {D I : Type 0} (good : D → I → Type 0) (bad : D → Type 0) where
  -- each item has what each item of such a member has
  pub kept_all : (Q : D → Type 0) (P : I → Type 0) → ((d : D) (i : I) → Q d → good d i → P i) → (ds : List D) (is : List I) → AllByRecursion Q ds → AreKept good bad ds is → AllByRecursion P is
  kept_all Q P f [] [] q k = tt
  kept_all Q P f [] (i ∷ is) q k = absurd k
  kept_all Q P f (d ∷ ds) [] q k = tt
  kept_all Q P f (d ∷ ds) (i ∷ is) q k = elim k as (λ _. P i × AllByRecursion P is) [
    | inl h ↦ kept_all Q P f ds (i ∷ is) q.1 h.1
    | inr h ↦ (f d i q.0 h.0, kept_all Q P f ds is q.1 h.1)
  ]

  abbrev Kept : List I → D → Type 0
  Kept is d = bad d ⊎ ((m : ℕ) × (i : I) × (slice_get is m ≡ Some i) × good d i)

  later : (i : I) (is : List I) (d : D) → Kept is d → Kept (i ∷ is) d
  later i is d (inl b) = inl b
  later i is d (inr h) = inr (suc h.0, h.1, h.2, h.3)

  -- of each member there is an item, or it has none
  pub kept_every : (ds : List D) (is : List I) → AreKept good bad ds is → (n : ℕ) (d : D) → slice_get ds n ≡ Some d → Kept is d
  kept_every [] is k n d h = cc
  kept_every (x ∷ ds) [] k zero d h = inl (subst bad (some_inj x d h) k.0)
  kept_every (x ∷ ds) [] k (suc n) d h = kept_every ds [] k.1 n d h
  kept_every (x ∷ ds) (i ∷ is) k zero d h = elim k as (λ _. Kept (i ∷ is) d) [
    | inl b ↦ inl (subst bad (some_inj x d h) b.0)
    | inr g ↦ inr (0, i, refl, subst (λ y. good y i) (some_inj x d h) g.0)
  ]
  kept_every (x ∷ ds) (i ∷ is) k (suc n) d h = elim k as (λ _. Kept (i ∷ is) d) [
    | inl b ↦ kept_every ds (i ∷ is) b.1 n d h
    | inr g ↦ later i is d (kept_every ds is g.1 n d h)
  ]

-- ---- pairs that rise

abbrev Before : ℕ × ℕ → ℕ × ℕ → Type 0
Before p q = (p.0 < q.0) ⊎ ((p.0 ≡ q.0) × (p.1 < q.1))

-- each stands before all that come after it
abbrev RisesBy : {X : Type 0} → (X → ℕ × ℕ) → List X → Type 0
RisesBy key [] = Unit {0}
RisesBy key (x ∷ xs) = AllByRecursion (λ y. Before (key x) (key y)) xs × RisesBy key xs

rises : {X : Type 0} (key : X → ℕ × ℕ) (xs : List X) → RisesBy key xs → Rises (map key xs)
rises key [] r = tt
rises key (x ∷ []) r = tt
rises key (x ∷ y ∷ zs) r = (r.0.0, rises key (y ∷ zs) r.1)

kept_rises : {D I : Type 0} (good : D → I → Type 0) (bad : D → Type 0) (at : D → ℕ × ℕ) (key : I → ℕ × ℕ) → ((d : D) (i : I) → good d i → key i ≡ at d)
    → (ds : List D) (is : List I) → RisesBy at ds → AreKept good bad ds is → RisesBy key is
kept_rises good bad at key same [] [] r k = tt
kept_rises good bad at key same [] (i ∷ is) r k = absurd k
kept_rises good bad at key same (d ∷ ds) [] r k = tt
kept_rises good bad at key same (d ∷ ds) (i ∷ is) r k = elim k as (λ _. RisesBy key (i ∷ is)) [
  | inl h ↦ kept_rises good bad at key same ds (i ∷ is) r.1 h.1
  | inr h ↦ (
    kept_all good bad (λ e. Before (at d) (at e)) (λ j. Before (key i) (key j)) (λ e j b g. subst (λ p. Before p (key j)) (sym (same d i h.0)) (subst (λ p. Before (at d) p) (sym (same e j g)) b)) ds is r.0 h.1,
    kept_rises good bad at key same ds is r.1 h.1,
  )
]

-- ---- all numbers

get_right : {X : Type 0} (xs ys : List X) (n : ℕ) (x : X) → slice_get ys n ≡ Some x → (m : ℕ) × (slice_get (xs ++ ys) m ≡ Some x)
get_right [] ys n x h = (n, h)
get_right (y ∷ xs) ys n x h = let r = get_right xs ys n x h in (suc r.0, r.1)

module _ {V : Type 0} where
  -- the member with these numbers, the first list having number n
  abbrev IsMember : ℕ → List (List V) → ℕ × ℕ × V → Type 0
  IsMember n vss d = (j : ℕ) × (d.0 ≡ n + j) × (option_and_then (λ vs. slice_get vs d.1) (slice_get vss j) ≡ Some d.2)

  numbered_are : (n k : ℕ) (vs : List V) (P : ℕ × ℕ × V → Type 0) → ((j : ℕ) (x : V) → slice_get vs j ≡ Some x → P (n, k + j, x)) → AllByRecursion P (numbered_from n k vs)
  numbered_are n k [] P f = tt
  numbered_are n k (v ∷ vs) P f = (
    subst (λ j. P (n, j, v)) (let e : k + 0 ≡ k = omega arith in e) (f 0 v refl),
    numbered_are n (suc k) vs P (λ j x h. subst (λ m. P (n, m, x)) (let e : k + suc j ≡ suc k + j = omega arith in e) (f (suc j) x h)),
  )

  are_members : (n : ℕ) (vss : List (List V)) → AllByRecursion (IsMember n vss) (all_numbered n vss)
  are_members n [] = tt
  are_members n (vs ∷ vss) =
      all_append (IsMember n (vs ∷ vss)) (numbered_from n 0 vs) (all_numbered (suc n) vss)
      (numbered_are n 0 vs (IsMember n (vs ∷ vss)) (λ j x h. (0, omega arith, subst (λ m. slice_get vs m ≡ Some x) (let e : j ≡ 0 + j = omega arith in e) h)))
      (all_weaker (IsMember (suc n) vss) (IsMember n (vs ∷ vss)) (λ d i. (suc i.0, omega (arith, i.1), i.2)) (all_numbered (suc n) vss) (are_members (suc n) vss))

  -- each has the numbers of its place
  pub all_members : (vss : List (List V)) → AllByRecursion (λ d. option_and_then (λ vs. slice_get vs d.1) (slice_get vss d.0) ≡ Some d.2) (all_numbered 0 vss)
  all_members vss = all_weaker (IsMember 0 vss) (λ d. option_and_then (λ vs. slice_get vs d.1) (slice_get vss d.0) ≡ Some d.2)
      (λ d i. subst (λ m. option_and_then (λ vs. slice_get vs d.1) (slice_get vss m) ≡ Some d.2) (let e : i.0 ≡ d.0 = omega (arith, i.1) in e) i.2) (all_numbered 0 vss) (are_members 0 vss)

  rises_on : (key : ℕ × ℕ × V → ℕ × ℕ) (xs ys : List (ℕ × ℕ × V)) → RisesBy key xs → RisesBy key ys → AllByRecursion (λ x. AllByRecursion (λ y. Before (key x) (key y)) ys) xs → RisesBy key (xs ++ ys)
  rises_on key [] ys r s h = s
  rises_on key (x ∷ xs) ys r s h = (all_append (λ y. Before (key x) (key y)) xs ys r.0 h.0, rises_on key xs ys r.1 s h.1)

  one_rises : (n k : ℕ) (vs : List V) → RisesBy (λ d. (d.0, d.1)) (numbered_from n k vs)
  one_rises n k [] = tt
  one_rises n k (v ∷ vs) = (
    numbered_are n (suc k) vs (λ d. Before (n, k) (d.0, d.1)) (λ j x h. inr (refl, let e : k < suc k + j = omega arith in e)),
    one_rises n (suc k) vs,
  )

  all_rise : (n : ℕ) (vss : List (List V)) → RisesBy (λ d. (d.0, d.1)) (all_numbered n vss)
  all_rise n [] = tt
  all_rise n (vs ∷ vss) =
      rises_on (λ d. (d.0, d.1)) (numbered_from n 0 vs) (all_numbered (suc n) vss) (one_rises n 0 vs) (all_rise (suc n) vss)
      (numbered_are n 0 vs (λ x. AllByRecursion (λ y. Before (x.0, x.1) (y.0, y.1)) (all_numbered (suc n) vss))
      (λ j x h. all_weaker (IsMember (suc n) vss) (λ y. Before (n, 0 + j) (y.0, y.1)) (λ y i. inl (omega (arith, i.1))) (all_numbered (suc n) vss) (are_members (suc n) vss)))

  -- items of members rise with these
  pub items_rise : {I : Type 0} (good : ℕ × ℕ × V → I → Type 0) (bad : ℕ × ℕ × V → Type 0) (key : I → ℕ × ℕ) → ((d : ℕ × ℕ × V) (i : I) → good d i → key i ≡ (d.0, d.1))
      → (vss : List (List V)) (is : List I) → AreKept good bad (all_numbered 0 vss) is → Rises (map key is)
  items_rise good bad key same vss is k = rises key is (kept_rises good bad (λ d. (d.0, d.1)) key same (all_numbered 0 vss) is (all_rise 0 vss) k)

  numbered_has : (n k : ℕ) (vs : List V) (j : ℕ) (x : V) → slice_get vs j ≡ Some x → slice_get (numbered_from n k vs) j ≡ Some (n, k + j, x)
  numbered_has n k [] j x h = cc
  numbered_has n k (v ∷ vs) zero x h = ap (λ y. Some (n, k, y)) (some_inj v x h) ∙ ap (λ m. Some (n, m, x)) (let e : k ≡ k + 0 = omega arith in e)
  numbered_has n k (v ∷ vs) (suc j) x h = numbered_has n (suc k) vs j x h ∙ ap (λ m. Some (n, m, x)) (let e : suc k + j ≡ k + suc j = omega arith in e)

  all_has : (n : ℕ) (vss : List (List V)) (r : ℕ) (vs : List V) (k : ℕ) (x : V) → slice_get vss r ≡ Some vs → slice_get vs k ≡ Some x → (m : ℕ) × (slice_get (all_numbered n vss) m ≡ Some (n + r, k, x))
  all_has n [] r vs k x h e = cc
  all_has n (ws ∷ vss) zero vs k x h e =
      let at : slice_get ws k ≡ Some x = ap (λ l. slice_get l k) (some_inj ws vs h) ∙ e in
      (k, get_left (numbered_from n 0 ws) (all_numbered (suc n) vss) k (n + 0, k, x) (numbered_has n 0 ws k x at ∙ (ap (λ m. Some (n, m, x)) (let e : 0 + k ≡ k = omega arith in e) ∙ ap (λ m. Some (m, k, x)) (let e : n ≡ n + 0 = omega arith in e))))
  all_has n (ws ∷ vss) (suc r) vs k x h e =
      let i = all_has (suc n) vss r vs k x h e in
      get_right (numbered_from n 0 ws) (all_numbered (suc n) vss) i.0 (n + suc r, k, x) (i.1 ∙ ap (λ m. Some (m, k, x)) (let e : suc n + r ≡ n + suc r = omega arith in e))

  pub every_member : (vss : List (List V)) (r k : ℕ) (x : V) → option_and_then (λ vs. slice_get vs k) (slice_get vss r) ≡ Some x → (m : ℕ) × (slice_get (all_numbered 0 vss) m ≡ Some (r, k, x))
  every_member vss r k x h =
      let a = and_then_some (slice_get vss r) (λ vs. slice_get vs k) x h in
      let i = all_has 0 vss r a.0 k x a.1 a.2 in
      (i.0, i.1 ∙ ap (λ m. Some (m, k, x)) (let e : 0 + r ≡ r = omega arith in e))
