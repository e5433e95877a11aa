-- The variants of rules in another order, and gathered in other rules: each has other numbers.
use Rattle.std.proofs.Common.{◌≡◌, ◌⊎◌, inl, inr, ℕ, zero, suc, ◌+◌, ◌-◌, ◌<◌, false, cond, nat_eq, nat_lt, eq-eqb, ne_eqb, lt-ltb, List, [], ◌∷◌, ◌++◌, map, length, get_or, Option, Some, None, option_and_then, slice_get, IsPermutation, refl, sym, ap, ◌∙◌, subst, arith}
use Rattle.std.specs.List.{swap}
use Rattle.std.proofs.lemmas.Bool.{cases_eq, cases_lt, le-ltb}
use Rattle.std.proofs.lemmas.Option.{slice_get_within, get_or_from_slice_get, slice_get-get_or}
use Rattle.std.proofs.lemmas.List.Edits.{swapped_from_swap, length-swap}
use Rattle.std.proofs.lemmas.List.Sorted.{IsPermutation-refl, IsPermutation-keeps}
use Rattle.patr_lists.proofs.Places.{get_left, get_parts}
use Rattle.patr_model.specs.Derivation.{Rules, RuleVariant}
use Rattle.patr_laws.specs.Alternatives.{gathered, alone, Numbers, AreNumbered, GiveSameTrees}
use Rattle.patr_laws.proofs.Counterparts.{same_trees}

-- ---- a list in another order

-- what stands at a place stands at another one of the other list, and the places lead to one another
pub record ArePlaced {X : Type 0} (xs ys : List X) (to from : ℕ → ℕ) : Type 0 where
  pub there : (i : ℕ) (x : X) → slice_get xs i ≡ Some x → slice_get ys (to i) ≡ Some x
  pub again : (i : ℕ) (x : X) → slice_get xs i ≡ Some x → from (to i) ≡ i

record HaveSamePlaces {X : Type 0} (xs ys : List X) : Type 0 where
  pub to : ℕ → ℕ
  pub from : ℕ → ℕ
  pub forth : ArePlaced xs ys to from
  pub back : ArePlaced ys xs from to

-- two places exchanged
abbrev flip : ℕ → ℕ → ℕ → ℕ
flip a b n = cond (nat_eq n a) b (cond (nat_eq n b) a n)

flip_first : (a b : ℕ) → flip a b a ≡ b
flip_first a b = ap (λ t. cond t b (cond (nat_eq a b) a a)) (eq-eqb a a refl)

flip_second : (a b : ℕ) → flip a b b ≡ a
flip_second a b = elim (cases_eq b a) [
  | inl e ↦ ap (λ t. cond t b (cond (nat_eq b b) a b)) (eq-eqb b a e) ∙ e
  | inr n ↦ ap (λ t. cond t b (cond (nat_eq b b) a b)) (ne_eqb b a n) ∙ ap (λ t. cond t a b) (eq-eqb b b refl)
]

flip_other : (a b n : ℕ) → (n ≡ a → ⊥) → (n ≡ b → ⊥) → flip a b n ≡ n
flip_other a b n h k = ap (λ t. cond t b (cond (nat_eq n b) a n)) (ne_eqb n a h) ∙ ap (λ t. cond t a n) (ne_eqb n b k)

-- a property of places holds where it holds of both, and of each other one
by_places : (P : ℕ → Type 0) (a b n : ℕ) → P a → P b → ((n ≡ a → ⊥) → (n ≡ b → ⊥) → P n) → P n
by_places P a b n h k other = elim (cases_eq n a) [ inl e ↦ subst P (sym e) h | inr x ↦ elim (cases_eq n b) [ inl e ↦ subst P (sym e) k | inr y ↦ other x y ] ]

flip_twice : (a b n : ℕ) → flip a b (flip a b n) ≡ n
flip_twice a b n = by_places (λ m. flip a b (flip a b m) ≡ m) a b n
    (ap (flip a b) (flip_first a b) ∙ flip_second a b) (ap (flip a b) (flip_second a b) ∙ flip_first a b) (λ h k. ap (flip a b) (flip_other a b n h k) ∙ flip_other a b n h k)

module _ {X : Type 0} where
  flip_within : (l : List X) (a b i : ℕ) → a < length l → b < length l → i < length l → flip a b i < length l
  flip_within l a b i p q h = by_places (λ m. m < length l → flip a b m < length l) a b i
      (λ u. subst (λ m. m < length l) (sym (flip_first a b)) q) (λ u. subst (λ m. m < length l) (sym (flip_second a b)) p) (λ x y u. subst (λ m. m < length l) (sym (flip_other a b i x y)) u) h

  flipped : (l : List X) (a b : ℕ) (d : X) → a < length l → b < length l → (i : ℕ) → get_or (swap l a b) (flip a b i) d ≡ get_or l i d
  flipped l a b d p q i =
      let s = swapped_from_swap l (swap l a b) a b d p q refl in
      let at = λ (m : ℕ). get_or (swap l a b) m d in
      by_places (λ m. at (flip a b m) ≡ get_or l m d) a b i (ap at (flip_first a b) ∙ s.1) (ap at (flip_second a b) ∙ s.0) (λ x y. ap at (flip_other a b i x y) ∙ s.2 i x y)

  exchanged : (l : List X) (a b : ℕ) → a < length l → b < length l → HaveSamePlaces l (swap l a b)
  exchanged l a b p q =
      let long = length-swap l a b in
      record {
        to = flip a b;
        from = flip a b;
        forth = record {
          there = λ i x e.
              let h = slice_get_within l i x e in
              slice_get-get_or (swap l a b) (flip a b i) x (subst (λ n. flip a b i < n) (sym long) (flip_within l a b i p q h)) ∙ ap (λ y. Some y) (flipped l a b x p q i ∙ get_or_from_slice_get l i x x e);
          again = λ i x e. flip_twice a b i;
        };
        back = record {
          there = λ i x e.
              let h : i < length l = subst (λ n. i < n) long (slice_get_within (swap l a b) i x e) in
              let same = sym (flipped l a b x p q (flip a b i)) ∙ (ap (λ m. get_or (swap l a b) m x) (flip_twice a b i) ∙ get_or_from_slice_get (swap l a b) i x x e) in
              slice_get-get_or l (flip a b i) x (flip_within l a b i p q h) ∙ ap (λ y. Some y) same;
          again = λ i x e. flip_twice a b i;
        };
      }

  placed_then : (xs ys zs : List X) (f f' g g' : ℕ → ℕ) → ArePlaced xs ys f f' → ArePlaced ys zs g g' → ArePlaced xs zs (λ i. g (f i)) (λ i. f' (g' i))
  placed_then xs ys zs f f' g g' h k = record {
    there = λ i x e. k.there (f i) x (h.there i x e);
    again = λ i x e. ap f' (k.again (f i) x (h.there i x e)) ∙ h.again i x e;
  }

  itself_placed : (xs : List X) → ArePlaced xs xs (λ i. i) (λ i. i)
  itself_placed xs = record { there = λ i x e. e; again = λ i x e. refl }

  -- a list in another order has the same places
  same_places : (xs ys : List X) → IsPermutation xs ys → HaveSamePlaces xs ys
  same_places xs = IsPermutation-keeps xs (HaveSamePlaces xs) (record { to = λ i. i; from = λ i. i; forth = itself_placed xs; back = itself_placed xs })
      (λ l a b p q h.
      let s = exchanged l a b p q in
      record {
        to = λ i. s.to (h.to i);
        from = λ i. h.from (s.from i);
        forth = placed_then xs l (swap l a b) h.to h.from s.to s.from h.forth s.forth;
        back = placed_then (swap l a b) l xs s.from s.to h.from h.to s.back h.back;
      })

-- ---- variants gathered

-- the place of a variant among those of all rules
abbrev pub place : List (List RuleVariant) → ℕ → ℕ → ℕ
place [] r k = k
place (vs ∷ rs) zero k = k
place (vs ∷ rs) (suc r) k = length vs + place rs r k

-- the rule and the variant at a place
abbrev pub at_place : List (List RuleVariant) → ℕ → ℕ × ℕ
at_place [] n = (0, n)
at_place (vs ∷ rs) n = cond (nat_lt n (length vs)) (0, n) (let p = at_place rs (n - length vs) in (suc p.0, p.1))

abbrev pub variant_in : List (List RuleVariant) → ℕ → ℕ → Option RuleVariant
variant_in rs r k = option_and_then (λ vs. slice_get vs k) (slice_get rs r)

get_behind : (xs ys : List RuleVariant) (n : ℕ) → slice_get (xs ++ ys) (length xs + n) ≡ slice_get ys n
get_behind [] ys n = ap (slice_get ys) (omega arith)
get_behind (x ∷ xs) ys n = let e : suc (length xs) + n ≡ suc (length xs + n) = omega arith in ap (slice_get (x ∷ (xs ++ ys))) e ∙ get_behind xs ys n

pub place_there : (rs : List (List RuleVariant)) (r k : ℕ) (v : RuleVariant) → variant_in rs r k ≡ Some v → slice_get (gathered rs) (place rs r k) ≡ Some v
place_there [] r k v e = let bad : None ≡ Some v = e in absurd cc
place_there (vs ∷ rs) zero k v e = get_left vs (gathered rs) k v e
place_there (vs ∷ rs) (suc r) k v e = get_behind vs (gathered rs) (place rs r k) ∙ place_there rs r k v e

-- its rule and its number are found again
pub place_again : (rs : List (List RuleVariant)) (r k : ℕ) (v : RuleVariant) → variant_in rs r k ≡ Some v → at_place rs (place rs r k) ≡ (r, k)
place_again [] r k v e = let bad : None ≡ Some v = e in absurd cc
place_again (vs ∷ rs) zero k v e = ap (λ t. cond t (0, k) (let p = at_place rs (k - length vs) in (suc p.0, p.1))) (lt-ltb k (length vs) (slice_get_within vs k v e))
place_again (vs ∷ rs) (suc r) k v e =
    let n = place rs r k in
    let out : nat_lt (length vs + n) (length vs) ≡ false = le-ltb (length vs + n) (length vs) (omega arith) in
    let less : length vs + n - length vs ≡ n = omega arith in
    ap (λ t. cond t (0, length vs + n) (let p = at_place rs (length vs + n - length vs) in (suc p.0, p.1))) out
    ∙ (ap (λ m. let p = at_place rs m in (suc p.0, p.1)) less ∙ ap (λ p. (suc p.0, p.1)) (place_again rs r k v e))

-- what is at a place is a variant of such a rule, at that place
pub record IsAtPlace (rs : List (List RuleVariant)) (n : ℕ) (v : RuleVariant) : Type 0 where
  pub there : variant_in rs (at_place rs n).0 (at_place rs n).1 ≡ Some v
  pub again : place rs (at_place rs n).0 (at_place rs n).1 ≡ n

pub found : (rs : List (List RuleVariant)) (n : ℕ) (v : RuleVariant) → slice_get (gathered rs) n ≡ Some v → IsAtPlace rs n v
found [] n v e = let bad : None ≡ Some v = e in absurd cc
found (vs ∷ rs) n v e = elim (get_parts vs (gathered rs) n v e) [
  | inl h ↦
      let in_front : at_place (vs ∷ rs) n ≡ (0, n) = ap (λ t. cond t (0, n) (let p = at_place rs (n - length vs) in (suc p.0, p.1))) (lt-ltb n (length vs) (slice_get_within vs n v h)) in
      record {
        there = ap (λ p. variant_in (vs ∷ rs) p.0 p.1) in_front ∙ h;
        again = ap (λ p. place (vs ∷ rs) p.0 p.1) in_front;
      }
  | inr h ↦
      let out : nat_lt n (length vs) ≡ false = le-ltb n (length vs) (omega (arith, h.1)) in
      let less : n - length vs ≡ h.0 = omega (arith, h.1) in
      let behind : at_place (vs ∷ rs) n ≡ (suc (at_place rs h.0).0, (at_place rs h.0).1) =
      ap (λ t. cond t (0, n) (let p = at_place rs (n - length vs) in (suc p.0, p.1))) out ∙ ap (λ m. let p = at_place rs m in (suc p.0, p.1)) less in
      let rest = found rs h.0 v h.2 in
      record {
        there = ap (λ p. variant_in (vs ∷ rs) p.0 p.1) behind ∙ rest.there;
        again = ap (λ p. place (vs ∷ rs) p.0 p.1) behind ∙ (ap (λ m. length vs + m) rest.again ∙ sym h.1);
      }
]

pub numbered : (g : Rules) (rules : List (List RuleVariant)) (to from : ℕ → ℕ) → ArePlaced (gathered g.rules) (gathered rules) to from
    → AreNumbered g (record g { rules = rules }) (λ r k. at_place rules (to (place g.rules r k))) (λ r k. at_place g.rules (from (place rules r k)))
numbered g rules to from h = record {
  there = λ r k v e. (found rules (to (place g.rules r k)) v (h.there (place g.rules r k) v (place_there g.rules r k v e))).there;
  again = λ r k v e.
      let here = place_there g.rules r k v e in
      let on = found rules (to (place g.rules r k)) v (h.there (place g.rules r k) v here) in
      ap (λ n. at_place g.rules (from n)) on.again ∙ (ap (at_place g.rules) (h.again (place g.rules r k) v here) ∙ place_again g.rules r k v e);
}

-- variants in another order, however they are gathered in rules, give the same trees
pub reordered : (g : Rules) (rules : List (List RuleVariant)) → IsPermutation (gathered g.rules) (gathered rules) → GiveSameTrees g (record g { rules = rules })
reordered g rules p =
    let h = same_places (gathered g.rules) (gathered rules) p in
    same_trees g rules (λ r k. at_place rules (h.to (place g.rules r k))) (λ r k. at_place g.rules (h.from (place rules r k))) (numbered g rules h.to h.from h.forth) (numbered (record g { rules = rules }) g.rules h.from h.to h.back)

alone_gathered : (vs : List RuleVariant) → gathered (map (λ v. v ∷ []) vs) ≡ vs
alone_gathered [] = refl
alone_gathered (v ∷ vs) = ap (λ us. v ∷ us) (alone_gathered vs)

-- and so do variants that are each alone in a rule
pub apart : (g : Rules) → GiveSameTrees g (record g { rules = alone g.rules })
apart g = reordered g (alone g.rules) (subst (IsPermutation (gathered g.rules)) (sym (alone_gathered (gathered g.rules))) (IsPermutation-refl (gathered g.rules)))

-- ---- in the same order

-- one pair of numbers stands before another, by the first and then by the second
abbrev pub comes_first : ℕ × ℕ → ℕ × ℕ → Type 0
comes_first p q = (p.0 < q.0) ⊎ ((p.0 ≡ q.0) × (p.1 < q.1))

-- a variant of an earlier rule, or an earlier one of the same rule, has an earlier place
place_rises : (rs : List (List RuleVariant)) (r k r' k' : ℕ) (v v' : RuleVariant) → variant_in rs r k ≡ Some v → variant_in rs r' k' ≡ Some v' → comes_first (r, k) (r', k') → place rs r k < place rs r' k'
place_rises [] r k r' k' v v' e e' h = let bad : None ≡ Some v = e in absurd cc
place_rises (vs ∷ rs) zero k zero k' v v' e e' (inl h) = absurd (omega (arith, h))
place_rises (vs ∷ rs) zero k zero k' v v' e e' (inr h) = h.1
place_rises (vs ∷ rs) zero k (suc r') k' v v' e e' h = let here = slice_get_within vs k v e in omega (arith, here)
place_rises (vs ∷ rs) (suc r) k zero k' v v' e e' (inl h) = absurd (omega (arith, h))
place_rises (vs ∷ rs) (suc r) k zero k' v v' e e' (inr h) = absurd (let bad = h.0 in omega (arith, bad))
place_rises (vs ∷ rs) (suc r) k (suc r') k' v v' e e' (inl h) = let later = place_rises rs r k r' k' v v' e e' (inl (omega (arith, h))) in omega (arith, later)
place_rises (vs ∷ rs) (suc r) k (suc r') k' v v' e e' (inr h) = let same = h.0 in let later = place_rises rs r k r' k' v v' e e' (inr (omega (arith, same), h.1)) in omega (arith, later)

-- two pairs are the same, or one of them comes first
by_first : (p q : ℕ × ℕ) → comes_first p q ⊎ (comes_first q p ⊎ (p ≡ q))
by_first p q = elim (cases_lt p.0 q.0) [
  | inl h ↦ inl (inl h)
  | inr h ↦ elim (cases_lt q.0 p.0) [
    | inl k ↦ inr (inl (inl k))
    | inr k ↦
        let same : p.0 ≡ q.0 = omega (arith, h, k) in
        elim (cases_lt p.1 q.1) [
          | inl a ↦ inl (inr (same, a))
          | inr a ↦ elim (cases_lt q.1 p.1) [
            | inl b ↦ inr (inl (inr (sym same, b)))
            | inr b ↦ let equal : p.1 ≡ q.1 = omega (arith, a, b) in inr (inr (λ i. (same i, equal i)))
          ]
        ]
  ]
]

-- and the variant at an earlier place comes first
at_place_rises : (rs : List (List RuleVariant)) (n m : ℕ) (v w : RuleVariant) → slice_get (gathered rs) n ≡ Some v → slice_get (gathered rs) m ≡ Some w → n < m → comes_first (at_place rs n) (at_place rs m)
at_place_rises rs n m v w e e' h =
    let a = found rs n v e in
    let b = found rs m w e' in
    elim (by_first (at_place rs n) (at_place rs m)) [
      | inl first ↦ first
      | inr (inl last) ↦
          let falls = place_rises rs (at_place rs m).0 (at_place rs m).1 (at_place rs n).0 (at_place rs n).1 w v b.there a.there last in
          let an = a.again in
          let bm = b.again in
          absurd (omega (arith, h, falls, an, bm))
      | inr (inr same) ↦
          let equal : n ≡ m = sym a.again ∙ (ap (λ p. place rs p.0 p.1) same ∙ b.again) in
          absurd (omega (arith, h, equal))
    ]

-- the numbers of the same variants in the same order
abbrev pub regathered : List (List RuleVariant) → List (List RuleVariant) → Numbers
regathered rs ss r k = at_place ss (place rs r k)

placed_same : (xs ys : List RuleVariant) → xs ≡ ys → ArePlaced xs ys (λ i. i) (λ i. i)
placed_same xs ys e = record { there = λ i x h. subst (λ l. slice_get l i ≡ Some x) e h; again = λ i x h. refl }

pub regathered_numbers : (g : Rules) (rules : List (List RuleVariant)) → gathered g.rules ≡ gathered rules → AreNumbered g (record g { rules = rules }) (regathered g.rules rules) (regathered rules g.rules)
regathered_numbers g rules e = numbered g rules (λ i. i) (λ i. i) (placed_same (gathered g.rules) (gathered rules) e)

-- what comes first among the rules does so among the others
pub regathered_rises : (rs ss : List (List RuleVariant)) → gathered rs ≡ gathered ss → (r k r' k' : ℕ) (v v' : RuleVariant) → variant_in rs r k ≡ Some v → variant_in rs r' k' ≡ Some v' → comes_first (r, k) (r', k')
    → comes_first (regathered rs ss r k) (regathered rs ss r' k')
regathered_rises rs ss e r k r' k' v v' q q' h =
    at_place_rises ss (place rs r k) (place rs r' k') v v' (subst (λ l. slice_get l (place rs r k) ≡ Some v) e (place_there rs r k v q))
    (subst (λ l. slice_get l (place rs r' k') ≡ Some v') e (place_there rs r' k' v' q')) (place_rises rs r k r' k' v v' q q' h)
