-- What holds of each member of a list.
use Rattle.std.proofs.Common.{◌≡◌, inl, inr, ℕ, zero, suc, ◌<◌, List, [], ◌∷◌, ◌++◌, map, flat_map, reverse, length, get_or, Some, slice_get, Contains, arith, refl, sym, subst}
use Rattle.std.specs.List.{AllByRecursion}
use Rattle.std.proofs.lemmas.Grind.{reverse_onto}
use Rattle.std.proofs.lemmas.Option.{slice_get_within, get_or_from_slice_get}
use Rattle.patr_lists.specs.Members.{IsIn}
use Rattle.patr_lists.proofs.Members.{contains_in}

module _ {X : Type 0} (P : X → Type 0) where
  -- one that is in the list
  pub all_in : (xs : List X) (x : X) → AllByRecursion P xs → IsIn xs x → P x
  all_in [] x all h = absurd h
  all_in (y ∷ xs) x all (inl e) = subst P e all.0
  all_in (y ∷ xs) x all (inr h) = all_in xs x all.1 h

  pub all_member : (xs : List X) (x : X) → AllByRecursion P xs → Contains xs x → P x
  all_member xs x all c = all_in xs x all (contains_in xs x c)

  -- the one at a place
  pub all_get : (xs : List X) (i : ℕ) (d : X) → AllByRecursion P xs → i < length xs → P (get_or xs i d)
  all_get [] i d all h = absurd (omega (arith, h))
  all_get (y ∷ xs) zero d all h = all.0
  all_get (y ∷ xs) (suc i) d all h = all_get xs i d all.1 (omega (arith, h))

  pub all_at : (xs : List X) → AllByRecursion P xs → (i : ℕ) (x : X) → slice_get xs i ≡ Some x → P x
  all_at xs all i x e = subst P (get_or_from_slice_get xs i x x e) (all_get xs i x all (slice_get_within xs i x e))

  -- each that is in the list
  pub all_each : (xs : List X) → ((x : X) → IsIn xs x → P x) → AllByRecursion P xs
  all_each [] f = tt
  all_each (x ∷ xs) f = (f x (inl refl), all_each xs (λ y h. f y (inr h)))

  pub all_of : (xs : List X) → ((x : X) → Contains xs x → P x) → AllByRecursion P xs
  all_of [] h = tt
  all_of (x ∷ xs) h = (h x (0, omega arith, refl), all_of xs (λ y c. h y (suc c.0, omega (arith, c.1), c.2)))

  -- those of two lists together
  pub all_append : (xs ys : List X) → AllByRecursion P xs → AllByRecursion P ys → AllByRecursion P (xs ++ ys)
  all_append [] ys h k = k
  all_append (x ∷ xs) ys h k = (h.0, all_append xs ys h.1 k)

  pub all_more : (xs : List X) (x : X) → AllByRecursion P xs → P x → AllByRecursion P (xs ++ x ∷ [])
  all_more xs x h k = all_append xs (x ∷ []) h (k, tt)

  pub all_left : (xs ys : List X) → AllByRecursion P (xs ++ ys) → AllByRecursion P xs
  all_left [] ys h = tt
  all_left (x ∷ xs) ys h = (h.0, all_left xs ys h.1)

  pub all_right : (xs ys : List X) → AllByRecursion P (xs ++ ys) → AllByRecursion P ys
  all_right [] ys h = h
  all_right (x ∷ xs) ys h = all_right xs ys h.1

  pub all_reverse : (xs : List X) → AllByRecursion P xs → AllByRecursion P (reverse xs)
  all_reverse [] h = tt
  all_reverse (x ∷ xs) h = subst (AllByRecursion P) (sym (reverse_onto xs x [])) (all_more (reverse xs) x (all_reverse xs h.1) h.0)

  -- less of each
  pub all_weaker : (Q : X → Type 0) → ((x : X) → P x → Q x) → (xs : List X) → AllByRecursion P xs → AllByRecursion Q xs
  all_weaker Q f [] h = tt
  all_weaker Q f (x ∷ xs) h = (f x h.0, all_weaker Q f xs h.1)

  -- those that a function makes
  pub all_map : {A : Type 0} (f : A → X) (Q : A → Type 0) → ((a : A) → Q a → P (f a)) → (xs : List A) → AllByRecursion Q xs → AllByRecursion P (map f xs)
  all_map f Q h [] all = tt
  all_map f Q h (x ∷ xs) all = (h x all.0, all_map f Q h xs all.1)

  pub all_flat : {A : Type 0} (f : A → List X) (Q : A → Type 0) → ((a : A) → Q a → AllByRecursion P (f a)) → (xs : List A) → AllByRecursion Q xs → AllByRecursion P (flat_map f xs)
  all_flat f Q h [] all = tt
  all_flat f Q h (x ∷ xs) all = all_append (f x) (flat_map f xs) (h x all.0) (all_flat f Q h xs all.1)
