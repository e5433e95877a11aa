-- Lists of edge numbers, and members by number.
use Rattle.std.proofs.Common.{◌≡◌, inl, inr, ℕ, zero, suc, ◌+◌, ◌<◌, ◌≤◌, List, [], ◌∷◌, length, take, get_or, sym, arith, subst}
use Rattle.std.specs.List.Sorted.{IsStrictlyIncreasing}
use Rattle.patr_lists.specs.Members.{IsIn, NoRepeats}
use Rattle.patr_parse.proofs.Names.{Derivation}

-- each number is above those before it
abbrev pub Rising : ℕ → List ℕ → Type 0
Rising n [] = Unit {0}
Rising n (x ∷ xs) = (n ≤ x) × Rising (suc x) xs

-- a list that rises
pub rising_of : (n : ℕ) (xs : List ℕ) → (0 < length xs → n ≤ get_or xs 0 0) → IsStrictlyIncreasing xs → Rising n xs
rising_of n [] first rises = tt
rising_of n (x ∷ xs) first rises = (
  first (omega arith),
  rising_of (suc x) xs (λ h. rises 0 (omega (arith, h)))
      (λ k h. (let next : suc (k + 1) ≡ suc k + 1 = omega arith in subst (λ i. get_or xs k 0 < get_or (x ∷ xs) i 0) (sym next) (rises (suc k) (omega (arith, h))))),
)

rising_at : (n : ℕ) (xs : List ℕ) (i d : ℕ) → Rising n xs → i < length xs → n ≤ get_or xs i d
rising_at n [] i d r h = absurd (omega (arith, h))
rising_at n (x ∷ xs) zero d r h = r.0
rising_at n (x ∷ xs) (suc i) d r h = omega (arith, r.0, rising_at (suc x) xs i d r.1 (omega (arith, h)))

before_at : (n : ℕ) (xs : List ℕ) (i d j : ℕ) → Rising n xs → i < length xs → IsIn (take i xs) j → j < get_or xs i d
before_at n [] i d j r h k = absurd (omega (arith, h))
before_at n (x ∷ xs) zero d j r h k = absurd k
before_at n (x ∷ xs) (suc i) d j r h (inl e) = omega (arith, e, rising_at (suc x) xs i d r.1 (omega (arith, h)))
before_at n (x ∷ xs) (suc i) d j r h (inr k) = before_at (suc x) xs i d j r.1 (omega (arith, h)) k

pub not_before : (n : ℕ) (xs : List ℕ) (i d : ℕ) → Rising n xs → i < length xs → IsIn (take i xs) (get_or xs i d) → ⊥
not_before n xs i d r h k = omega (arith, before_at n xs i d (get_or xs i d) r h k)

-- members by number
pub record IsAt (ts : List Derivation) (k : ℕ) (d t : Derivation) : Type 0 where
  pub at : ℕ
  pub before : at < k
  pub within : at < length ts
  pub is : get_or ts at d ≡ t

pub in_taken : (k : ℕ) (ts : List Derivation) (d t : Derivation) → IsIn (take k ts) t → IsAt ts k d t
in_taken zero ts d t h = absurd h
in_taken (suc k) [] d t h = absurd h
in_taken (suc k) (u ∷ ts) d t (inl e) = record { at = zero; before = omega arith; within = omega arith; is = e }
in_taken (suc k) (u ∷ ts) d t (inr h) = let r = in_taken k ts d t h in record { at = suc r.at; before = omega (arith, r.before); within = omega (arith, r.within); is = r.is }

above : (k : ℕ) (ns : List ℕ) (n : ℕ) → Rising k ns → IsIn ns n → k ≤ n
above k [] n r h = absurd h
above k (m ∷ ns) n r (inl q) = omega (arith, r.0, q)
above k (m ∷ ns) n r (inr h) = omega (arith, r.0, above (suc m) ns n r.1 h)

pub rising_once : (k : ℕ) (ns : List ℕ) → Rising k ns → NoRepeats ns
rising_once k [] r = tt
rising_once k (n ∷ ns) r = ((λ h. omega (arith, above (suc n) ns n r.1 h)), rising_once (suc n) ns r.1)
