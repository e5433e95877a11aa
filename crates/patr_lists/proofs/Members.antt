-- Members of lists, and lists without repeats.
use Rattle.std.proofs.Common.{◌≡◌, ◌⊎◌, inl, inr, ℕ, zero, suc, ◌<◌, ◌≤◌, List, [], ◌∷◌, ◌++◌, length, map, take, get_or, Some, slice_get, refl, sym, ap, ◌∙◌, arith, subst}
use Rattle.std.proofs.lemmas.Option.{slice_get_within, get_or_from_slice_get}
use Rattle.std.specs.List.{Contains}
use Rattle.patr_lists.specs.Members.{IsIn, NoRepeats}

-- ---- members of two lists

pub in_left : {X : Type 0} (xs ys : List X) (x : X) → IsIn xs x → IsIn (xs ++ ys) x
in_left [] ys x h = absurd h
in_left (y ∷ xs) ys x (inl e) = inl e
in_left (y ∷ xs) ys x (inr h) = inr (in_left xs ys x h)

pub in_right : {X : Type 0} (xs ys : List X) (x : X) → IsIn ys x → IsIn (xs ++ ys) x
in_right [] ys x h = h
in_right (y ∷ xs) ys x h = inr (in_right xs ys x h)

pub in_cases : {X : Type 0} (xs ys : List X) (x : X) → IsIn (xs ++ ys) x → IsIn xs x ⊎ IsIn ys x
in_cases [] ys x h = inr h
in_cases (y ∷ xs) ys x (inl e) = inl (inl e)
in_cases (y ∷ xs) ys x (inr h) = elim (in_cases xs ys x h) [ inl k ↦ inl (inr k) | inr k ↦ inr k ]

pub in_one : {X : Type 0} (x y : X) → IsIn (x ∷ []) y → x ≡ y
in_one x y (inl e) = e
in_one x y (inr h) = absurd h

-- ---- with one more at the end

pub in_last : {X : Type 0} (xs : List X) (x : X) → IsIn (xs ++ x ∷ []) x
in_last [] x = inl refl
in_last (y ∷ xs) x = inr (in_last xs x)

-- ---- members by their places

pub in_at : {X : Type 0} (xs : List X) (d : X) (i : ℕ) → i < length xs → IsIn xs (get_or xs i d)
in_at [] d i h = absurd (omega (arith, h))
in_at (x ∷ xs) d zero h = inl refl
in_at (x ∷ xs) d (suc i) h = inr (in_at xs d i (omega (arith, h)))

pub place_of : {X : Type 0} (xs : List X) (d x : X) → IsIn xs x → (i : ℕ) × (i < length xs) × (get_or xs i d ≡ x)
place_of [] d x h = absurd h
place_of (y ∷ xs) d x (inl e) = (0, omega arith, e)
place_of (y ∷ xs) d x (inr h) = let r = place_of xs d x h in (suc r.0, omega (arith, r.1), r.2)

pub contains_in : {X : Type 0} (xs : List X) (x : X) → Contains xs x → IsIn xs x
contains_in xs x c = subst (IsIn xs) c.2 (in_at xs x c.0 c.1)

pub get_in : {X : Type 0} (xs : List X) (i : ℕ) (x : X) → slice_get xs i ≡ Some x → IsIn xs x
get_in xs i x e = subst (IsIn xs) (get_or_from_slice_get xs i x x e) (in_at xs x i (slice_get_within xs i x e))

pub in_front : {X : Type 0} (n : ℕ) (xs : List X) (d : X) (i : ℕ) → i < n → i < length xs → IsIn (take n xs) (get_or xs i d)
in_front zero xs d i h l = absurd (omega (arith, h))
in_front (suc n) [] d i h l = absurd (omega (arith, l))
in_front (suc n) (x ∷ xs) d zero h l = inl refl
in_front (suc n) (x ∷ xs) d (suc i) h l = inr (in_front n xs d i (omega (arith, h)) (omega (arith, l)))

pub front_in : {X : Type 0} (xs : List X) (n : ℕ) (x : X) → IsIn (take n xs) x → IsIn xs x
front_in xs zero x h = absurd h
front_in [] (suc n) x h = h
front_in (y ∷ xs) (suc n) x (inl e) = inl e
front_in (y ∷ xs) (suc n) x (inr h) = inr (front_in xs n x h)

-- ---- what a function makes

pub in_map : {X Y : Type 0} (f : X → Y) (xs : List X) (x : X) → IsIn xs x → IsIn (map f xs) (f x)
in_map f [] x h = absurd h
in_map f (y ∷ xs) x (inl e) = inl (ap f e)
in_map f (y ∷ xs) x (inr h) = inr (in_map f xs x h)

pub map_in : {X Y : Type 0} (f : X → Y) (xs : List X) (y : Y) → IsIn (map f xs) y → (x : X) × IsIn xs x × (f x ≡ y)
map_in f [] y h = absurd h
map_in f (x ∷ xs) y (inl e) = (x, inl refl, e)
map_in f (x ∷ xs) y (inr h) = let r = map_in f xs y h in (r.0, inr r.1, r.2)

-- ---- no member twice

pub once_append : {X : Type 0} (xs ys : List X) → NoRepeats xs → NoRepeats ys → ((x : X) → IsIn xs x → IsIn ys x → ⊥) → NoRepeats (xs ++ ys)
once_append [] ys n m apart = m
once_append (x ∷ xs) ys n m apart = (
  λ h. elim (in_cases xs ys x h) [ inl k ↦ n.0 k | inr k ↦ apart x (inl refl) k ],
  once_append xs ys n.1 m (λ y h. apart y (inr h)),
)

pub once_left : {X : Type 0} (xs ys : List X) → NoRepeats (xs ++ ys) → NoRepeats xs
once_left [] ys n = tt
once_left (x ∷ xs) ys n = (λ h. n.0 (in_left xs ys x h), once_left xs ys n.1)

pub once_map : {X Y : Type 0} (f : X → Y) (xs : List X) → NoRepeats xs → ((x y : X) → IsIn xs x → IsIn xs y → f x ≡ f y → x ≡ y) → NoRepeats (map f xs)
once_map f [] n one = tt
once_map f (x ∷ xs) n one = (
  λ h. let r = map_in f xs (f x) h in n.0 (subst (IsIn xs) (one r.0 x (inr r.1) (inl refl) r.2) r.1),
  once_map f xs n.1 (λ y z h k. one y z (inr h) (inr k)),
)

-- each member has one place
pub one_place : {X : Type 0} (xs : List X) (d : X) → NoRepeats xs → (i j : ℕ) → i < length xs → j < length xs → get_or xs i d ≡ get_or xs j d → i ≡ j
one_place [] d n i j h k e = absurd (omega (arith, h))
one_place (x ∷ xs) d n zero zero h k e = refl
one_place (x ∷ xs) d n zero (suc j) h k e = absurd (n.0 (subst (IsIn xs) (sym e) (in_at xs d j (omega (arith, k)))))
one_place (x ∷ xs) d n (suc i) zero h k e = absurd (n.0 (subst (IsIn xs) e (in_at xs d i (omega (arith, h)))))
one_place (x ∷ xs) d n (suc i) (suc j) h k e = ap (λ m. suc m) (one_place xs d n.1 i j (omega (arith, h)) (omega (arith, k)) e)

-- the list without the member that is found
without : {X : Type 0} (xs : List X) (x : X) → IsIn xs x → List X
without [] x h = []
without (y ∷ xs) x (inl e) = xs
without (y ∷ xs) x (inr h) = y ∷ without xs x h

without_length : {X : Type 0} (xs : List X) (x : X) (h : IsIn xs x) → suc (length (without xs x h)) ≡ length xs
unfolding without
without_length [] x h = absurd h
without_length (y ∷ xs) x (inl e) = refl
without_length (y ∷ xs) x (inr h) = omega (arith, without_length xs x h)

-- every other member stays
stays_in : {X : Type 0} (xs : List X) (x y : X) (h : IsIn xs x) → (x ≡ y → ⊥) → IsIn xs y → IsIn (without xs x h) y
unfolding without
stays_in [] x y h n k = absurd h
stays_in (z ∷ xs) x y (inl e) n (inl f) = absurd (n (sym e ∙ f))
stays_in (z ∷ xs) x y (inl e) n (inr k) = k
stays_in (z ∷ xs) x y (inr h) n (inl f) = inl f
stays_in (z ∷ xs) x y (inr h) n (inr k) = inr (stays_in xs x y h n k)

-- a list without repeats is no longer than one that has its members
pub no_longer : {X : Type 0} (xs ys : List X) → NoRepeats xs → ((x : X) → IsIn xs x → IsIn ys x) → length xs ≤ length ys
no_longer [] ys n sub = omega arith
no_longer (x ∷ xs) ys n sub =
    let h = sub x (inl refl) in
    let rest = no_longer xs (without ys x h) n.1 (λ y k. stays_in ys x y h (λ e. n.0 (subst (IsIn xs) (sym e) k)) (sub y (inr k))) in
    omega (arith, rest, without_length ys x h)

-- ---- where two members are known to be one or not

pub in_or_not : {X : Type 0} (same : (x y : X) → (x ≡ y) ⊎ (x ≡ y → ⊥)) (xs : List X) (x : X) → IsIn xs x ⊎ (IsIn xs x → ⊥)
in_or_not same [] x = inr (λ h. h)
in_or_not same (y ∷ xs) x = elim (same y x) [
  | inl e ↦ inl (inl e)
  | inr n ↦ elim (in_or_not same xs x) [ inl h ↦ inl (inr h) | inr m ↦ inr (λ h. elim h [ inl e ↦ n e | inr i ↦ m i ]) ]
]
