-- Arcs found by their attribute.
use Rattle.std.proofs.Common.{◌≡◌, ℕ, zero, suc, ◌+◌, ◌<◌, ◌≤◌, Bool, true, false, cond, nat_eq, eqb-true, eq-eqb, List, [], ◌∷◌, length, map, get_or, Option, Some, None, Result, Ok, Err, MatchResult, refl, sym, ap, ◌∙◌, subst, arith}
use Rattle.std.proofs.lemmas.List.{get_or-map, get_or_default, length-map}
use Rattle.std.proofs.lemmas.Option.{none-some}
use Rattle.std.proofs.lemmas.Cmp.{ranked}
use Rattle.std.proofs.lemmas.List.Sorted.{IsNonDecreasingBy-from_default}
use Rattle.std.proofs.lemmas.Bool.Decides.{nat_tests}
use Rattle.std.specs.List.Sorted.{IsBinarySearchResult, IsNonDecreasingBy, IsSearchInRange, IsStrictlyIncreasing}
use Rattle.std.specs.Ordering.{nat_cmp, ordering_index}
use Rattle.patr_model.specs.Structure.{Value, along}
use Rattle.patr_arena.specs.declared.value.Ref.{Ref}
use Rattle.patr_arena.specs.declared.value.Ref.TheVariants as ref
use Rattle.patr_arena.specs.declared.value.Feature.{Feature}
use Rattle.patr_arena.specs.Shown.{Shown, AllHeld, RefIsHeld, arcs_from, ref_of}
use Rattle.patr_arena.specs.Blocks.{attributes}
use Rattle.patr_arena.specs.Paths.{feature_to}

-- what an arc that may be missing leads to
abbrev pub led_to : Shown → ℕ → Option Ref → Option Value
led_to v b None = None
led_to v b (Some r) = Some (ref_of v b r)

pub along_features : (v : Shown) (b : ℕ) (fs : List Feature) (a : ℕ) → along (arcs_from v b fs) a ≡ led_to v b (feature_to fs a)
along_features v b [] a = refl
along_features v b (f ∷ fs) a = go (nat_eq f.attribute.0 a) (along_features v b fs a)
  where
    go : (t : Bool) → along (arcs_from v b fs) a ≡ led_to v b (feature_to fs a) → cond t (Some (ref_of v b f.to)) (along (arcs_from v b fs) a) ≡ led_to v b (cond t (Some f.to) (feature_to fs a))
    go true rest = refl
    go false rest = rest

pub feature_held : (v : Shown) (b : ℕ) (fs : List Feature) (a : ℕ) (r : Ref) → AllHeld v b fs → feature_to fs a ≡ Some r → RefIsHeld v b r
feature_held v b [] a r h e = absurd (none-some r e)
feature_held v b (f ∷ fs) a r h e = go (nat_eq f.attribute.0 a) e (feature_held v b fs a r h.1)
  where
    inside : (s : Ref) → Some s ≡ Some r → s ≡ r
    inside s e = cc

    go : (t : Bool) → cond t (Some f.to) (feature_to fs a) ≡ Some r → (feature_to fs a ≡ Some r → RefIsHeld v b r) → RefIsHeld v b r
    go true e rest = subst (RefIsHeld v b) (inside f.to e) h.0
    go false e rest = rest e

pub attributes_from : (v : Shown) (b : ℕ) (fs : List Feature) → map (λ e. e.attribute) (arcs_from v b fs) ≡ attributes fs
attributes_from v b [] = refl
attributes_from v b (f ∷ fs) = ap (λ ks. f.attribute.0 ∷ ks) (attributes_from v b fs)

pub nowhere : Feature
nowhere = record { attribute = record { 0 = 0 }; to = ref.Atom (record { 0 = 0 }) }

attribute_at : (fs : List Feature) (k : ℕ) → k < length fs → get_or (attributes fs) k 0 ≡ (get_or fs k nowhere).attribute.0
attribute_at fs k h = get_or-map (λ (f : Feature). f.attribute.0) fs k nowhere 0 h

-- each later attribute is above each earlier one
rises_on : (xs : List ℕ) → IsStrictlyIncreasing xs → (i j : ℕ) → i < j → j < length xs → get_or xs i 0 < get_or xs j 0
rises_on xs rising i zero h m = absurd (omega (arith, h))
rises_on xs rising i (suc j) h m = go (rises_on xs rising i j)
  where
    step : get_or xs j 0 < get_or xs (suc j) 0
    step = subst (λ k. get_or xs j 0 < get_or xs k 0) (next j) (rising j (omega (arith, m)))
      where
        next : (j : ℕ) → j + 1 ≡ suc j
        next j = omega arith

    cases : (i j : ℕ) → i < suc j → (i < j → get_or xs i 0 < get_or xs j 0) → get_or xs i 0 ≤ get_or xs j 0
    cases i j h rest = grind (arith, rest, λ (same : i ≡ j). ap (λ k. get_or xs k 0) same)

    go : (i < j → j < length xs → get_or xs i 0 < get_or xs j 0) → get_or xs i 0 < get_or xs (suc j) 0
    go rest = let here = cases i j h (λ l. rest l (omega (arith, m))) in omega (arith, here, step)

found_there : (fs : List Feature) (a k : ℕ) (d : Feature) → k < length fs → (get_or fs k d).attribute.0 ≡ a → ((j : ℕ) → j < k → (get_or fs j d).attribute.0 < a) → feature_to fs a ≡ Some (get_or fs k d).to
found_there [] a k d h e before = absurd (omega (arith, h))
found_there (f ∷ fs) a zero d h e before = ap (λ t. cond t (Some f.to) (feature_to fs a)) (eq-eqb f.attribute.0 a e)
found_there (f ∷ fs) a (suc k) d h e before = ap (λ t. cond t (Some f.to) (feature_to fs a)) (other (nat_eq f.attribute.0 a) refl) ∙ found_there fs a k d (omega (arith, h)) e (λ j l. before (suc j) (omega (arith, l)))
  where
    other : (t : Bool) → nat_eq f.attribute.0 a ≡ t → nat_eq f.attribute.0 a ≡ false
    other true q = let below = before 0 (omega arith) in let same = eqb-true f.attribute.0 a q in absurd (omega (arith, below, same))
    other false q = q

found_nowhere : (fs : List Feature) (a : ℕ) (d : Feature) → ((j : ℕ) → j < length fs → (get_or fs j d).attribute.0 ≡ a → ⊥) → feature_to fs a ≡ None
found_nowhere [] a d none = refl
found_nowhere (f ∷ fs) a d none = ap (λ t. cond t (Some f.to) (feature_to fs a)) (other (nat_eq f.attribute.0 a) refl) ∙ found_nowhere fs a d (λ j l. none (suc j) (omega (arith, l)))
  where
    other : (t : Bool) → nat_eq f.attribute.0 a ≡ t → nat_eq f.attribute.0 a ≡ false
    other true q = absurd (none 0 (omega arith) (eqb-true f.attribute.0 a q))
    other false q = q

-- what is found of arcs whose attributes rise
module _ (fs : List Feature) (rising : IsStrictlyIncreasing (attributes fs)) (a : ℕ) where
  rise : (i j : ℕ) → i < j → j < length fs → (get_or fs i nowhere).attribute.0 < (get_or fs j nowhere).attribute.0
  rise i j h m =
      let below = rises_on (attributes fs) rising i j h (let size = length-map fs (λ f. f.attribute.0) in omega (arith, m, size)) in
      let one = attribute_at fs i (omega (arith, h, m)) in
      let two = attribute_at fs j m in
      omega (arith, below, one, two)

  comparisons_rise : IsNonDecreasingBy (λ f. ordering_index (nat_cmp f.attribute.0 a)) fs
  comparisons_rise = IsNonDecreasingBy-from_default (λ f. ordering_index (nat_cmp f.attribute.0 a)) fs nowhere (λ i j le m.
      let keys : (get_or fs i nowhere).attribute.0 ≤ (get_or fs j nowhere).attribute.0 = grind (arith, rise i j, λ (same : i ≡ j). ap (λ k. (get_or fs k nowhere).attribute.0) same) in
      grind (arith, nat_tests))

  -- the arc at a place
  pub found_at : (k : ℕ) → k < length fs → (get_or fs k nowhere).attribute.0 ≡ a → feature_to fs a ≡ Some (get_or fs k nowhere).to
  found_at k m here = found_there fs a k nowhere m here (λ j l. let below = rise j k l m in omega (arith, below, here))

  -- what a binary search by attribute finds
  pub searched : (r : Result ℕ ℕ) → IsSearchInRange r (length fs) → IsBinarySearchResult (λ f. nat_cmp f.attribute.0 a) fs r
      → MatchResult r (λ k. (d : Feature) → feature_to fs a ≡ Some (get_or fs k d).to) (λ k. feature_to fs a ≡ None)
  searched (Ok k) m equal = λ d. subst (λ (f : Feature). feature_to fs a ≡ Some f.to) (get_or_default fs k nowhere d m)
      (found_at k m (ranked (get_or fs k nowhere).attribute.0 a _ (sym (equal nowhere))))
  searched (Err k) m parted = found_nowhere fs a nowhere (λ j l same.
      let cut = parted comparisons_rise in
      absurd (apart j l same (λ h. ranked (get_or fs j nowhere).attribute.0 a _ (sym (cut.0 j nowhere (omega arith) h))) (λ h. ranked (get_or fs j nowhere).attribute.0 a _ (sym (cut.1 j nowhere h l)))))
    where
      apart : (j : ℕ) → j < length fs → (get_or fs j nowhere).attribute.0 ≡ a → (j < k → (get_or fs j nowhere).attribute.0 < a) → (k ≤ j → a < (get_or fs j nowhere).attribute.0) → ⊥
      apart j l same low high = grind (arith, low, high)
