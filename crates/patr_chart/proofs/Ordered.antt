-- Lists of nodes compare as keys are ordered.
use Rattle.std.proofs.Common.{◌≡◌, inl, inr, ℕ, Bool, true, false, cond, nat_eq, nat_lt, List, [], ◌∷◌, map, refl, sym, ap, ◌∙◌, arith, subst, eqb-true, eq-eqb, ltb-true, ltb-false}
use Rattle.patr_chart.proofs.Names.{KeyItem, item_of}
use Rattle.std.specs.declared.cmp.Ordering.{Ordering}
use Rattle.std.specs.declared.cmp.Ordering.TheVariants.{Less, Equal, Greater}
use Rattle.std.specs.Ordering.{nat_cmp, ordering_then}
use Rattle.std.specs.Cmp.Lexicographic.{slice_cmp}
use Rattle.patr_model.specs.Session.{numbers}
use Rattle.patr_chart.specs.Orders.{IsOrderOf, AreOrdered}

-- what the order of nodes comes to
abbrev pub item_cmp : KeyItem → KeyItem → Ordering
item_cmp x y = ordering_then (nat_cmp x.kind y.kind) (ordering_then (nat_cmp x.number y.number) (ordering_then (nat_cmp x.variant y.variant) (nat_cmp x.end y.end)))

then_assoc : (a b c : Ordering) → ordering_then (ordering_then a b) c ≡ ordering_then a (ordering_then b c)
then_assoc Less b c = refl
then_assoc Equal b c = refl
then_assoc Greater b c = refl

number_order : (ns ms : List ℕ) → IsOrderOf (slice_cmp nat_cmp ns ms) ns ms
number_order [] [] = refl
number_order [] (m ∷ ms) = tt
number_order (n ∷ ns) [] = tt
number_order (n ∷ ns) (m ∷ ms) = go (nat_lt n m) refl (nat_eq n m) refl (slice_cmp nat_cmp ns ms) (number_order ns ms)
  where
    rest_decides : n ≡ m → (o : Ordering) → IsOrderOf o ns ms → IsOrderOf o (n ∷ ns) (m ∷ ms)
    rest_decides e Less h = inr (e, h)
    rest_decides e Equal h = λ i. e i ∷ h i
    rest_decides e Greater h = inr (sym e, h)

    go : (a : Bool) → nat_lt n m ≡ a → (b : Bool) → nat_eq n m ≡ b → (o : Ordering) → IsOrderOf o ns ms → IsOrderOf (ordering_then (cond a Less (cond b Equal Greater)) o) (n ∷ ns) (m ∷ ms)
    go true p b q o h = inl (ltb-true n m p)
    go false p true q o h = rest_decides (eqb-true n m q) o h
    go false p false q o h = inl (let differ : n ≡ m → ⊥ = λ e. bad (eq-eqb n m e) in omega (arith, ltb-false n m p, differ))
      where
        bad : nat_eq n m ≡ true → ⊥
        bad e = cc

-- node by node is number by number
by_numbers : (xs ys : List KeyItem) → slice_cmp item_cmp xs ys ≡ slice_cmp nat_cmp (numbers (map item_of xs)) (numbers (map item_of ys))
by_numbers [] [] = refl
by_numbers [] (y ∷ ys) = refl
by_numbers (x ∷ xs) [] = refl
by_numbers (x ∷ xs) (y ∷ ys) =
    let kinds = nat_cmp x.kind y.kind in
    let entries = nat_cmp x.number y.number in
    let variants = nat_cmp x.variant y.variant in
    let ends = nat_cmp x.end y.end in
    let rest = slice_cmp item_cmp xs ys in
    then_assoc kinds (ordering_then entries (ordering_then variants ends)) rest
    ∙ (ap (λ o. ordering_then kinds o) (then_assoc entries (ordering_then variants ends) rest
    ∙ ap (λ o. ordering_then entries o) (then_assoc variants ends rest))
    ∙ ap (λ o. ordering_then kinds (ordering_then entries (ordering_then variants (ordering_then ends o)))) (by_numbers xs ys))

then_equal : (a b : Ordering) → ordering_then a b ≡ Equal → (a ≡ Equal) × (b ≡ Equal)
then_equal Less b e = cc
then_equal Equal b e = (refl, e)
then_equal Greater b e = cc

number_equal : (n m : ℕ) → nat_cmp n m ≡ Equal → n ≡ m
number_equal n m e = go (nat_lt n m) (nat_eq n m) refl e
  where
    go : (a b : Bool) → nat_eq n m ≡ b → cond a Less (cond b Equal Greater) ≡ Equal → n ≡ m
    go true b q h = cc
    go false true q h = eqb-true n m q
    go false false q h = cc

items_equal : (xs ys : List KeyItem) → slice_cmp item_cmp xs ys ≡ Equal → xs ≡ ys
items_equal [] [] e = refl
items_equal [] (y ∷ ys) e = cc
items_equal (x ∷ xs) [] e = cc
items_equal (x ∷ xs) (y ∷ ys) e =
    let whole = then_equal (item_cmp x y) (slice_cmp item_cmp xs ys) e in
    let kinds = then_equal (nat_cmp x.kind y.kind) (ordering_then (nat_cmp x.number y.number) (ordering_then (nat_cmp x.variant y.variant) (nat_cmp x.end y.end))) whole.0 in
    let entries = then_equal (nat_cmp x.number y.number) (ordering_then (nat_cmp x.variant y.variant) (nat_cmp x.end y.end)) kinds.1 in
    let variants = then_equal (nat_cmp x.variant y.variant) (nat_cmp x.end y.end) entries.1 in
    let k = number_equal x.kind y.kind kinds.0 in
    let n = number_equal x.number y.number entries.0 in
    let v = number_equal x.variant y.variant variants.0 in
    let d = number_equal x.end y.end variants.1 in
    let r = items_equal xs ys whole.1 in
    λ i. (let z : KeyItem = record { kind = k i; number = n i; variant = v i; end = d i } in z) ∷ r i

pub are_ordered : (xs ys : List KeyItem) → AreOrdered item_cmp xs ys
are_ordered xs ys = record {
  order = subst (λ o. IsOrderOf o (numbers (map item_of xs)) (numbers (map item_of ys))) (sym (by_numbers xs ys)) (number_order (numbers (map item_of xs)) (numbers (map item_of ys)));
  equal = items_equal xs ys;
}
