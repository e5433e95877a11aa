-- The variants of rows, counted and found by their numbers.
use Rattle.std.proofs.Common.{◌≡◌, inl, inr, ℕ, zero, suc, ◌+◌, ◌*◌, ◌/◌, ◌%◌, ◌^◌, ◌<◌, ◌≤◌, min, max, List, [], ◌∷◌, ◌++◌, length, map, flat_map, get_or, refl, sym, ap, ◌∙◌, arith}
use Rattle.std.proofs.lemmas.List.{length-append, length-map, get_or-map, get_or_append_left, get_or-append-add}
use Rattle.std.proofs.Math.Nat.{mul-suc, mul-zero, mul_assoc, mul_comm}
use Rattle.std.proofs.lemmas.Bool.{cases_lt}
use Rattle.patr_model.specs.Grammar.{Row, Rows, Done, One, OneOf, Optional, None', Or, variants, variants_of, single, products}
use Rattle.patr_model.specs.Productions.{Item, Single, Choice, Option', in_front, row, rows}
use Rattle.patr_model.specs.Build.{longest, longest_of}
use Rattle.patr_expand.specs.Sizes.{capped, item_variants, item_longest}

-- ---- counts that are told up to 2^32

-- a bound on the one factor is one on the product, where the other is not 0
pub capped_product : (a b : ℕ) → capped (capped a * capped b) ≡ capped (a * b)
capped_product a b = by_bound (2 ^ 32) a b (omega arith)
  where
    as_it_is : (n c : ℕ) → n ≤ c → min n c ≡ n
    as_it_is n c h = omega arith

    bounded : (n c : ℕ) → c ≤ n → min n c ≡ c
    bounded n c h = omega arith

    more : (c a b : ℕ) → c ≤ a → 0 < b → c ≤ a * b
    more c a zero h k = absurd (omega (arith, k))
    more c a (suc b) h k = omega (arith, mul-suc a b, h)

    large : (c a b : ℕ) → 0 < c → c ≤ a → min (c * min b c) c ≡ min (a * b) c
    large c a zero h k = ap (λ n. min n c) (ap (λ n. c * n) (as_it_is 0 c (omega arith)) ∙ mul-zero c ∙ sym (mul-zero a))
    large c a (suc b) h k = bounded (c * min (suc b) c) c (more c c (min (suc b) c) (omega arith) (omega arith)) ∙ sym (bounded (a * suc b) c (more c a (suc b) k (omega arith)))

    turned : (c a b : ℕ) → 0 < c → a < c → c ≤ b → min (c * a) c ≡ min (a * b) c
    turned c a b h k l = ap (λ n. min (c * n) c) (sym (as_it_is a c (omega arith))) ∙ (large c b a h l ∙ ap (λ n. min n c) (mul_comm b a))

    small : (c a b : ℕ) → 0 < c → a < c → min (min a c * min b c) c ≡ min (a * b) c
    small c a b h k =
        ap (λ n. min (n * min b c) c) (as_it_is a c (omega arith))
        ∙ elim (cases_lt b c) [ inr l ↦ ap (λ n. min (a * n) c) (bounded b c l) ∙ (ap (λ n. min n c) (mul_comm a c) ∙ (turned c a b h k l)) | inl l ↦ ap (λ n. min (a * n) c) (as_it_is b c (omega arith)) ]

    by_bound : (c a b : ℕ) → 0 < c → min (min a c * min b c) c ≡ min (a * b) c
    by_bound c a b h = elim (cases_lt a c) [ inr k ↦ ap (λ n. min (n * min b c) c) (bounded a c k) ∙ large c a b h k | inl k ↦ small c a b h k ]

-- ---- products

first : (n m : ℕ) → 0 * n + m ≡ m
first n m = omega arith

-- all pairs have one from each list
pub pairs_length : {A B C : Type 0} (g : A → B → C) (us : List A) (bs : List B) → length (flat_map (λ a. map (g a) bs) us) ≡ length us * length bs
pairs_length g [] bs = omega arith
pairs_length g (a ∷ us) bs = omega (arith, length-append (map (g a) bs) (flat_map (λ a. map (g a) bs) us), length-map bs (g a), pairs_length g us bs)

-- a pair by its number: the second changes fastest
pub pair_at : {A B C : Type 0} (g : A → B → C) (us : List A) (bs : List B) (q m : ℕ) (a : A) (b : B) (c : C) → q < length us → m < length bs
    → get_or (flat_map (λ a. map (g a) bs) us) (q * length bs + m) c ≡ g (get_or us q a) (get_or bs m b)
pair_at g [] bs q m a b c h k = absurd (omega (arith, h))
pair_at g (x ∷ us) bs zero m a b c h k =
    ap (λ n. get_or (map (g x) bs ++ flat_map (λ a. map (g a) bs) us) n c) (first (length bs) m)
    ∙ get_or_append_left (map (g x) bs) (flat_map (λ a. map (g a) bs) us) c m (omega (arith, length-map bs (g x), k))
    ∙ get_or-map (g x) bs m b c k
pair_at g (x ∷ us) bs (suc q) m a b c h k =
    ap (λ n. get_or (map (g x) bs ++ flat_map (λ a. map (g a) bs) us) n c) (go (length-map bs (g x)))
    ∙ (get_or-append-add (map (g x) bs) (flat_map (λ a. map (g a) bs) us) (q * length bs + m) c
    ∙ pair_at g us bs q m a b c (omega (arith, h)) k)
  where
    go : length (map (g x) bs) ≡ length bs → suc q * length bs + m ≡ length (map (g x) bs) + (q * length bs + m)
    go e = omega (arith, e)

-- ---- rows

module _ {X : Type 0} where
  pub front_variants : (x : Item X) (r : Row X) → variants single (in_front x r) ≡ products (item_variants x) (variants single r)
  front_variants (Single x) r = refl
  front_variants (Choice rs) r = refl
  front_variants (Option' rs) r = refl

  pub front_longest : (x : Item X) (r : Row X) → longest (λ e. 1) (in_front x r) ≡ item_longest x + longest (λ e. 1) r
  front_longest (Single x) r = refl
  front_longest (Choice rs) r = refl
  front_longest (Option' rs) r = refl

  pub front_length : (x : Item X) (r : Row X) → length (variants single (in_front x r)) ≡ length (item_variants x) * length (variants single r)
  front_length x r = ap length (front_variants x r) ∙ pairs_length (λ v w. v ++ w) (item_variants x) (variants single r)

  -- with one more thing at the end
  pub row_length : (xs : List (Item X)) (x : Item X) → length (variants single (row (xs ++ x ∷ []))) ≡ length (variants single (row xs)) * length (item_variants x)
  row_length [] x = omega (arith, front_length x Done)
  row_length (y ∷ xs) x =
      front_length y (row (xs ++ x ∷ []))
      ∙ (ap (λ n. length (item_variants y) * n) (row_length xs x)
      ∙ (sym (mul_assoc (length (item_variants y)) (length (variants single (row xs))) (length (item_variants x)))
      ∙ ap (λ n. n * length (item_variants x)) (sym (front_length y (row xs)))))

  pub row_longest : (xs : List (Item X)) (x : Item X) → longest (λ e. 1) (row (xs ++ x ∷ [])) ≡ longest (λ e. 1) (row xs) + item_longest x
  row_longest [] x = omega (arith, front_longest x Done)
  row_longest (y ∷ xs) x = omega (arith, front_longest y (row (xs ++ x ∷ [])), front_longest y (row xs), row_longest xs x)

  pub rows_length : (rs : List (Row X)) (r : Row X) → length (variants_of single (rows (rs ++ r ∷ []))) ≡ length (variants_of single (rows rs)) + length (variants single r)
  rows_length [] r = omega (arith, length-append (variants single r) [])
  rows_length (s ∷ rs) r =
      omega (arith, length-append (variants single s) (variants_of single (rows (rs ++ r ∷ []))), length-append (variants single s) (variants_of single (rows rs)), rows_length rs r)

  pub rows_longest : (rs : List (Row X)) (r : Row X) → longest_of (λ e. 1) (rows (rs ++ r ∷ [])) ≡ max (longest_of (λ e. 1) (rows rs)) (longest (λ e. 1) r)
  rows_longest [] r = omega arith
  rows_longest (s ∷ rs) r = omega (arith, rows_longest rs r)
