-- A variant's number, parted into those of the first thing and of what is behind it.
use Rattle.std.proofs.Common.{◌≡◌, ℕ, zero, suc, ◌+◌, ◌*◌, ◌/◌, ◌%◌, ◌<◌, ◌≤◌, List, [], ◌∷◌, ◌++◌, length, get_or, min, refl, sym, ap, ◌∙◌, subst, arith}
use Rattle.std.proofs.Math.Nat.{div-lt_iff_lt-mul, le-mul_of_pos_right, mod-lt, mul-div_cancel_left, mul_comm}
use Rattle.std.proofs.lemmas.Nat.{div-add-mod'}
use Rattle.patr_model.specs.Grammar.{Row, single, variants}
use Rattle.patr_model.specs.Productions.{Item, in_front}
use Rattle.patr_expand.specs.Sizes.{capped, item_variants}
use Rattle.patr_expand.specs.Frames.{IsPlace, variant_at}
use Rattle.patr_expand.proofs.Rows.{front_length, front_variants, pair_at}

-- of a product that isn't empty, and is not too large, neither factor is
pub left_some : (a b n : ℕ) → n < a * b → 0 < a
left_some zero b n h = absurd (omega (arith, h))
left_some (suc a) b n h = omega arith

pub right_some : (a b n : ℕ) → n < a * b → 0 < b
right_some a b n h = left_some b a n (subst (λ c. n < c) (mul_comm a b) h)

capped_small : (a : ℕ) → a ≤ 256 → capped a ≡ a
capped_small a h = omega (arith, h)

-- what the first thing and what is behind it have of a place
pub record AreParts {X : Type 0} (x : Item X) (r : Row X) (count number size : ℕ) : Type 0 where
  pub behind_some : 0 < count / size
  pub few : length (item_variants x) ≤ 256
  pub below : number / (count / size) < length (item_variants x)
  pub behind : IsPlace r (count / size) (number % (count / size))
  pub same : get_or (item_variants x) (number / (count / size)) [] ++ variant_at r (number % (count / size)) ≡ variant_at (in_front x r) number

pub parts : {X : Type 0} (x : Item X) (r : Row X) (count number size : ℕ) → IsPlace (in_front x r) count number → size ≡ capped (length (item_variants x)) → AreParts x r count number size
parts {X = X} x r count number size p is = record {
  behind_some = omega (arith, quotient, some_b);
  few = few_a;
  below = subst (λ n. number / n < a) (sym quotient) below;
  behind = record { counted = sym quotient; below = mod-lt number (omega (arith, quotient, some_b)); few = omega (arith, quotient, few_b) };
  same = subst (λ n. get_or (item_variants x) (number / n) [] ++ variant_at r (number % n) ≡ variant_at (in_front x r) number) (sym quotient) joined;
}
  where
    a : ℕ
    a = length (item_variants x)

    b : ℕ
    b = length (variants single r)

    product : count ≡ length (item_variants x) * length (variants single r)
    product = sym p.counted ∙ front_length x r

    within : number < length (item_variants x) * length (variants single r)
    within = subst (λ n. number < n) product p.below

    some_a : 0 < length (item_variants x)
    some_a = left_some (length (item_variants x)) (length (variants single r)) number within

    some_b : 0 < length (variants single r)
    some_b = right_some (length (item_variants x)) (length (variants single r)) number within

    few_a : length (item_variants x) ≤ 256
    few_a = omega (arith, le-mul_of_pos_right (length (item_variants x)) some_b, product, p.few)

    few_b : length (variants single r) ≤ 256
    few_b = omega (arith, le-mul_of_pos_right (length (variants single r)) some_a, mul_comm (length (item_variants x)) (length (variants single r)), product, p.few)

    sized : size ≡ length (item_variants x)
    sized = is ∙ capped_small (length (item_variants x)) few_a

    quotient : count / size ≡ length (variants single r)
    quotient = (λ i. product i / sized i) ∙ mul-div_cancel_left (length (variants single r)) some_a

    below : number / length (variants single r) < length (item_variants x)
    below = (div-lt_iff_lt-mul some_b).1 within

    joined : get_or (item_variants x) (number / length (variants single r)) [] ++ variant_at r (number % length (variants single r)) ≡ variant_at (in_front x r) number
    joined =
        sym (pair_at (λ v w. v ++ w) (item_variants x) (variants single r) (number / length (variants single r)) (number % length (variants single r)) [] [] [] below (mod-lt number some_b))
        ∙ ap (λ vs. get_or vs (number / length (variants single r) * length (variants single r) + number % length (variants single r)) []) (sym (front_variants x r))
        ∙ ap (λ n. get_or (variants single (in_front x r)) n []) (div-add-mod' number (length (variants single r)))
