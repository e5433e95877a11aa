-- Of alternatives the one that has the variant of a number: what is left of them, and of the number.
use Rattle.std.proofs.Common.{◌≡◌, inl, inr, ℕ, zero, suc, ◌+◌, ◌-◌, ◌<◌, ◌≤◌, List, [], ◌∷◌, ◌++◌, length, get_or, refl, sym, ap, ◌∙◌, arith}
use Rattle.std.proofs.lemmas.List.{length-append, get_or_append_left, get_or-append-add}
use Rattle.patr_model.specs.Grammar.{Row, Rows, Done, None', Or, single, variants, variants_of}
use Rattle.patr_expand.specs.Sizes.{capped}
use Rattle.patr_expand.specs.Frames.{IsPlace, IsTaken, variant_at, weight, weight_of}

pub record IsRest {X : Type 0} (rs : Rows X) (n : ℕ) (left : Rows X) (m : ℕ) : Type 0 where
  pub same : get_or (variants_of single left) m [] ≡ get_or (variants_of single rs) n []
  pub few : length (variants_of single left) ≤ 256
  pub lighter : weight_of left ≤ weight_of rs

module _ {X : Type 0} (rs : Rows X) (n : ℕ) where
  pub whole : length (variants_of single rs) ≤ 256 → IsRest rs n rs n
  whole h = record { same = refl; few = h; lighter = omega arith }

  few_here : (r : Row X) (left : Rows X) (m : ℕ) → IsRest rs n (Or r left) m → length (variants single r) + length (variants_of single left) ≤ 256
  few_here r left m h = omega (arith, h.few, length-append (variants single r) (variants_of single left))

  counted : (r : Row X) (left : Rows X) (m count : ℕ) → IsRest rs n (Or r left) m → count ≡ capped (length (variants single r)) → count ≡ length (variants single r)
  counted r left m count h e = omega (arith, e, few_here r left m h)

  -- the alternative is not the one
  pub goes_on : (r : Row X) (left : Rows X) (m count : ℕ) → IsRest rs n (Or r left) m → count ≡ capped (length (variants single r)) → count ≤ m → IsRest rs n left (m - count)
  goes_on r left m count h e le = record {
    same = sym (ap (λ k. get_or (variants single r ++ variants_of single left) k []) (by (counted r left m count h e)) ∙ get_or-append-add (variants single r) (variants_of single left) (m - count) []) ∙ h.same;
    few = omega (arith, few_here r left m h);
    lighter = omega (arith, h.lighter);
  }
    where
      by : count ≡ length (variants single r) → m ≡ length (variants single r) + (m - count)
      by c = omega (arith, c, le)

  -- it is
  pub taken : (r : Row X) (left : Rows X) (m count : ℕ) → IsRest rs n (Or r left) m → count ≡ capped (length (variants single r)) → m < count → IsTaken (variants_of single rs) (2 + weight_of rs) n r count m
  taken r left m count h e lt = record {
    place = record { counted = sym (counted r left m count h e); below = lt; few = omega (arith, counted r left m count h e, few_here r left m h) };
    same = sym (get_or_append_left (variants single r) (variants_of single left) [] m (omega (arith, counted r left m count h e, lt))) ∙ h.same;
    lighter = omega (arith, h.lighter);
  }

  -- there is none
  pub none_left : (m : ℕ) → IsRest rs n None' m → [] ≡ get_or (variants_of single rs) n []
  none_left m h = h.same

  pub nothing_taken : (m : ℕ) → IsRest rs n None' m → IsTaken (variants_of single rs) (2 + weight_of rs) n Done 1 0
  nothing_taken m h = record { place = record { counted = refl; below = omega arith; few = omega arith }; same = h.same; lighter = omega arith }
