-- Attributes that rise are distinct.
use Rattle.std.proofs.Common.{◌≡◌, ℕ, suc, ◌+◌, ◌<◌, ◌≤◌, Bool, true, false, cond, nat_eq, eqb-true, List, [], ◌∷◌, map, get_or, Some, None, refl, ap, ◌∙◌, subst, arith}
use Rattle.std.specs.List.Sorted.{IsStrictlyIncreasing}
use Rattle.patr_model.specs.Structure.{Arcs, along, HasDistinct}

pub rising_tail : (x : ℕ) (xs : List ℕ) → IsStrictlyIncreasing (x ∷ xs) → IsStrictlyIncreasing xs
rising_tail x xs h k m = subst (λ j. get_or xs k 0 < get_or (x ∷ xs) j 0) (next k) (h (suc k) (omega (arith, m)))
  where
    next : (k : ℕ) → suc k + 1 ≡ suc (k + 1)
    next k = omega arith

none_below : (es : Arcs) (a low : ℕ) → IsStrictlyIncreasing (low ∷ map (λ e. e.attribute) es) → a ≤ low → along es a ≡ None
none_below [] a low h m = refl
none_below (e ∷ es) a low h m = go (nat_eq e.attribute a) refl (λ k. none_below es a e.attribute (rising_tail low (map (λ e. e.attribute) (e ∷ es)) h) k)
  where
    next : low < e.attribute
    next = h 0 (omega arith)

    go : (t : Bool) → nat_eq e.attribute a ≡ t → (a ≤ e.attribute → along es a ≡ None) → along (e ∷ es) a ≡ None
    go true q rest = let same = eqb-true e.attribute a q in absurd (omega (arith, next, m, same))
    go false q rest = ap (λ t. cond t (Some e.to) (along es a)) q ∙ rest (omega (arith, next, m))

pub rising_distinct : (es : Arcs) → IsStrictlyIncreasing (map (λ e. e.attribute) es) → HasDistinct es
rising_distinct [] h = tt
rising_distinct (e ∷ es) h = (none_below es e.attribute e.attribute h (omega arith), rising_distinct es (rising_tail e.attribute (map (λ e. e.attribute) es) h))
