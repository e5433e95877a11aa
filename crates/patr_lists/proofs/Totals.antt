-- Sums over lists of numbers, and the numbers below a number.
use Rattle.std.proofs.Common.{◌≡◌, ◌≢◌, inl, inr, ℕ, zero, suc, ◌+◌, ◌<◌, ◌≤◌, List, [], ◌∷◌, ◌++◌, length, map, refl, sym, ap, ◌∙◌, arith, subst}
use Rattle.std.proofs.lemmas.Bool.{cases_eq}
use Rattle.patr_lists.specs.Members.{IsIn, NoRepeats}
use Rattle.patr_lists.specs.Numbers.{upto, total}
use Rattle.patr_lists.proofs.Members.{no_longer}

-- ---- one function in place of another

pub total_same : (f g : ℕ → ℕ) (ks : List ℕ) → ((k : ℕ) → IsIn ks k → f k ≡ g k) → total f ks ≡ total g ks
total_same f g [] h = refl
total_same f g (k ∷ ks) h = let r = total_same f g ks (λ j n. h j (inr n)) in let e = h k (inl refl) in omega (arith, r, e)

pub total_ext : (f g : ℕ → ℕ) (ks : List ℕ) → ((k : ℕ) → f k ≡ g k) → total f ks ≡ total g ks
total_ext f g ks h = total_same f g ks (λ k i. h k)

pub total_mono : (f g : ℕ → ℕ) (ks : List ℕ) → ((k : ℕ) → f k ≤ g k) → total f ks ≤ total g ks
total_mono f g [] h = omega arith
total_mono f g (k ∷ ks) h = omega (arith, h k, total_mono f g ks h)

-- which differs at one member
pub total_change : (f g : ℕ → ℕ) (ks : List ℕ) (A : ℕ) → NoRepeats ks → IsIn ks A → ((k : ℕ) → k ≢ A → f k ≡ g k) → total f ks + g A ≡ total g ks + f A
total_change f g [] A n i h = absurd i
total_change f g (k ∷ ks) A n (inl e) h =
    let r : total f ks ≡ total g ks = total_same f g ks (λ j m. h j (λ q. n.0 (subst (IsIn ks) (q ∙ sym e) m))) in
    let a : f k ≡ f A = ap f e in
    let b : g k ≡ g A = ap g e in
    omega (arith, r, a, b)
total_change f g (k ∷ ks) A n (inr i) h =
    let r = total_change f g ks A n.1 i h in
    let e : f k ≡ g k = h k (λ q. n.0 (subst (IsIn ks) (sym q) i)) in
    omega (arith, r, e)

-- ---- one list in place of another

pub total_append : (f : ℕ → ℕ) (xs ys : List ℕ) → total f (xs ++ ys) ≡ total f xs + total f ys
total_append f [] ys = omega arith
total_append f (x ∷ xs) ys = let r = total_append f xs ys in omega (arith, r)

pub total_map : (g f : ℕ → ℕ) (ks : List ℕ) → total g (map f ks) ≡ total (λ k. g (f k)) ks
total_map g f [] = refl
total_map g f (k ∷ ks) = ap (λ n. g (f k) + n) (total_map g f ks)

pub total_member : (f : ℕ → ℕ) (ks : List ℕ) (A : ℕ) → IsIn ks A → f A ≤ total f ks
total_member f [] A h = absurd h
total_member f (k ∷ ks) A (inl e) = let q : f k ≡ f A = ap f e in omega arith
total_member f (k ∷ ks) A (inr h) = let r = total_member f ks A h in omega (arith, r)

-- a list without one of its numbers
take_out : (f : ℕ → ℕ) (x : ℕ) (ys : List ℕ) → IsIn ys x → (zs : List ℕ) × (total f ys ≡ f x + total f zs) × ((k : ℕ) → (k ≡ x → ⊥) → IsIn ys k → IsIn zs k)
take_out f x [] h = absurd h
take_out f x (y ∷ ys) (inl e) = (ys, ap (λ n. f n + total f ys) e, λ k n h. elim h [ inl q ↦ absurd (n (sym q ∙ e)) | inr i ↦ i ])
take_out f x (y ∷ ys) (inr h) =
    let r = take_out f x ys h in
    (y ∷ r.0, omega (arith, r.1), λ k n h. elim h [ inl q ↦ inl q | inr i ↦ inr (r.2 k n i) ])

-- the sum over numbers that another list has is no more than that over all of these
pub total_room : (f : ℕ → ℕ) (xs ys : List ℕ) → NoRepeats xs → ((k : ℕ) → IsIn xs k → IsIn ys k) → total f xs ≤ total f ys
total_room f [] ys n h = omega arith
total_room f (x ∷ xs) ys n h =
    let r = take_out f x ys (h x (inl refl)) in
    let rest = total_room f xs r.0 n.1 (λ k i. r.2 k (λ e. n.0 (subst (IsIn xs) e i)) (h k (inr i))) in
    omega (arith, r.1, rest)

-- ---- the numbers below a number

pub upto_in : (n k : ℕ) → k < n → IsIn (upto n) k
upto_in zero k h = absurd (omega (arith, h))
upto_in (suc n) k h = elim (cases_eq n k) [ inl e ↦ inl e | inr e ↦ inr (upto_in n k (omega (arith, h, λ (q : k ≡ n). e (sym q)))) ]

pub upto_below : (n k : ℕ) → IsIn (upto n) k → k < n
upto_below zero k h = absurd h
upto_below (suc n) k (inl e) = omega (arith, e)
upto_below (suc n) k (inr h) = omega (arith, upto_below n k h)

pub upto_once : (n : ℕ) → NoRepeats (upto n)
upto_once zero = tt
upto_once (suc n) = (λ h. omega (arith, upto_below n n h), upto_once n)

pub upto_length : (n : ℕ) → length (upto n) ≡ n
upto_length zero = refl
upto_length (suc n) = ap suc (upto_length n)

-- as many numbers without repeats are below n at most
pub few_below : (n : ℕ) (ks : List ℕ) → NoRepeats ks → ((k : ℕ) → IsIn ks k → k < n) → length ks ≤ n
few_below n ks once h = omega (arith, no_longer ks (upto n) once (λ k i. upto_in n k (h k i)), upto_length n)
