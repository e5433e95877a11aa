-- The structures that the code makes of equations.
use Rattle.std.proofs.Common.{◌≡◌, inl, inr, ℕ, zero, suc, cond, eq-eqb, List, [], ◌∷◌, ◌++◌, take, drop, Option, Some, None, IfSome, IfNone, slice_get, refl, sym, ap, ◌∙◌, subst}
use Rattle.patr_library.proofs.Names.{map-append, take-append-drop, Atom, IsValue, IsStructure, Same, AtomOf, PathOf, Pointed, led, forked, below_arc, one_place, atom_at_path, from_root, maps_reflexive, Id, ids, ArePartedAt, IsPlaceOf, IsStatement, led_all}
use Rattle.patr_model.specs.Equation as model
use Rattle.patr_model.specs.Variants.{equation_at}
use Rattle.patr_model.proofs.EquationStructures.{equations}

as_it_is : (o : Option Pointed) → o ≡ led_all [] o
as_it_is None = refl
as_it_is (Some x) = refl

below : (a : ℕ) (c : List ℕ) (o : Option Pointed) → below_arc a (led_all c o) ≡ led_all (a ∷ c) o
below a c None = refl
below a c (Some x) = refl

-- what both paths begin with leads to what parts
one_front : (c p q : List ℕ) → one_place (c ++ p) (c ++ q) ≡ led_all c (one_place p q)
one_front [] p q = as_it_is (one_place p q)
one_front (a ∷ c) p q =
    ap (λ b. cond b (below_arc a (one_place (c ++ p) (c ++ q))) (Some (forked a (c ++ p) a (c ++ q)))) (eq-eqb a a refl)
    ∙ (ap (below_arc a) (one_front c p q) ∙ below a c (one_place p q))

cut : (xs : List Id) (n : ℕ) → ids xs ≡ ids (take n xs) ++ ids (drop n xs)
cut xs n = ap ids (sym (take-append-drop n xs)) ∙ map-append (λ attribute. attribute.0) (take n xs) (drop n xs)

pub place_front : (xs ys : List Id) (n : ℕ) → take n xs ≡ take n ys → one_place (ids xs) (ids ys) ≡ led_all (ids (take n xs)) (one_place (ids (drop n xs)) (ids (drop n ys)))
place_front xs ys n f =
    ap (λ l. one_place l (ids ys)) (cut xs n)
    ∙ (ap (λ l. one_place (ids (take n xs) ++ ids (drop n xs)) l) (cut ys n ∙ ap (λ t. ids t ++ ids (drop n ys)) (sym f))
    ∙ one_front (ids (take n xs)) (ids (drop n xs)) (ids (drop n ys)))

pub place_led : (xs ys : List Id) (n : ℕ) → take n xs ≡ take n ys → (x : Pointed) → IsPlaceOf (ids (drop n xs)) (ids (drop n ys)) x → IsPlaceOf (ids xs) (ids ys) (led x.nodes x.root (ids (take n xs)))
place_led xs ys n f x (inl h) = inl (place_front xs ys n f ∙ ap (led_all (ids (take n xs))) h)
place_led xs ys n f x (inr h) = inr (place_front ys xs n (sym f) ∙ (ap (λ c. led_all (ids c) (one_place (ids (drop n ys)) (ids (drop n xs)))) (sym f) ∙ ap (led_all (ids (take n xs))) h))

pub place_none : (xs ys : List Id) (n : ℕ) → take n xs ≡ take n ys → one_place (ids (drop n xs)) (ids (drop n ys)) ≡ None → one_place (ids xs) (ids ys) ≡ None
place_none xs ys n f h = place_front xs ys n f ∙ ap (led_all (ids (take n xs))) h

pub parted_at : (xs ys : List Id) (n : ℕ) → ((a b : Id) → slice_get xs n ≡ Some a → slice_get ys n ≡ Some b → a ≡ b → ⊥) → ArePartedAt (ids (drop n xs)) (ids (drop n ys))
parted_at [] ys zero h = tt
parted_at [] ys (suc n) h = tt
parted_at (x ∷ xs) [] zero h = tt
parted_at (x ∷ xs) (y ∷ ys) zero h = λ e. h x y refl refl (ap (λ n. record { 0 = n }) e)
parted_at (x ∷ xs) [] (suc n) h = go (ids (drop n xs))
  where
    go : (p : List ℕ) → ArePartedAt p []
    go [] = tt
    go (a ∷ p) = tt
parted_at (x ∷ xs) (y ∷ ys) (suc n) h = parted_at xs ys n h

pub each_some : {X : Type 0} (P Q : X → Type 0) → ((x : X) → P x → Q x) → (o : Option X) → IfSome o P → IfSome o Q
each_some P Q f None h = h
each_some P Q f (Some x) h = f x h

-- ---- what is stated

same_self : (x : Pointed) → IsStructure x.nodes → IsValue x.nodes x.root → Same x.nodes x.root x.nodes x.root
same_self x s h = (maps_reflexive x.nodes x.root s h, maps_reflexive x.nodes x.root s h)

pub atom_stated : (e : model.Equation) (c : ℕ) (path : List ℕ) (x : Pointed) → e.right ≡ AtomOf c → path ≡ from_root e.left → led [] (Atom c) path ≡ x → IsStatement e x
atom_stated e c path x right left is =
    let s = equations.atoms (from_root e.left) c in
    let here : atom_at_path (from_root e.left) c ≡ x = ap (λ p. led [] (Atom c) p) (sym left) ∙ is in
    record {
      stated = atom_at_path (from_root e.left) c;
      is = ap (λ t. equation_at (record { left = e.left; right = t })) right;
      same = subst (λ y. Same (atom_at_path (from_root e.left) c).nodes (atom_at_path (from_root e.left) c).root y.nodes y.root) here (same_self (atom_at_path (from_root e.left) c) s.structure s.held);
    }

pub place_stated : (e : model.Equation) (q : model.SlotPath) (p r : List ℕ) (x : Pointed) → e.right ≡ PathOf q → p ≡ from_root e.left → r ≡ from_root q → IsPlaceOf p r x → IsStatement e x
place_stated e q p r x right left to place = go place
  where
    whole : equation_at e ≡ one_place p r
    whole = ap (λ t. equation_at (record { left = e.left; right = t })) right ∙ (ap (λ l. one_place l (from_root q)) (sym left) ∙ ap (λ l. one_place p l) (sym to))

    other : one_place r p ≡ Some x → (o : Option Pointed) → one_place p r ≡ o → IsStatement e x
    other h None n =
        let s = equations.paths r p x h in
        let l = s.holds x.nodes x.root (maps_reflexive x.nodes x.root s.structure s.held) in
        absurd (equations.none p r n x.nodes x.root s.structure s.held (l.0, l.2, l.1))
    other h (Some y) n =
        let s = equations.paths r p x h in
        let t = equations.paths p r y n in
        let at_x = s.holds x.nodes x.root (maps_reflexive x.nodes x.root s.structure s.held) in
        let at_y = t.holds y.nodes y.root (maps_reflexive y.nodes y.root t.structure t.held) in
        record {
          stated = y;
          is = whole ∙ n;
          same = (t.maps x.nodes x.root s.structure s.held (at_x.0, at_x.2, at_x.1), s.maps y.nodes y.root t.structure t.held (at_y.0, at_y.2, at_y.1));
        }

    go : IsPlaceOf p r x → IsStatement e x
    go (inl h) = let s = equations.paths p r x h in record { stated = x; is = whole ∙ h; same = same_self x s.structure s.held }
    go (inr h) = other h (one_place p r) refl

pub each_none : {X : Type 0} (P Q : Type 0) → (P → Q) → (o : Option X) → IfNone o P → IfNone o Q
each_none P Q f None h = f h
each_none P Q f (Some x) h = h
