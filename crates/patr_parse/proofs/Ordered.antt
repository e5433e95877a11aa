-- Analyses sorted by their keys have rising keys.
use Rattle.std.proofs.Common.{◌≡◌, ◌⊎◌, inl, inr, ℕ, suc, ◌+◌, ◌<◌, ◌≤◌, false, List, [], ◌∷◌, length, map, get_or, refl, sym, ap, ◌∙◌, arith, subst, Ordering}
use Rattle.std.specs.declared.cmp.Ordering.TheVariants.{Less, Equal, Greater}
use Rattle.std.specs.Ordering.{is_lt, nat_cmp, ordering_then}
use Rattle.std.specs.Cmp.Lexicographic.{slice_cmp}
use Rattle.std.specs.List.{AllByRecursion}
use Rattle.std.specs.List.Sorted.{IsSorted}
use Rattle.patr_parse.proofs.Names.{Edge, Analysis, HasKey, edge_of}
use Rattle.patr_model.specs.Derivation.{key}
use Rattle.patr_model.proofs.Shared.{count}
use Rattle.patr_model.specs.Session.{number_before, numbers, Rises}
use Rattle.patr_chart.specs.declared.key.KeyItem.{KeyItem}
use Rattle.patr_chart.specs.Edges.{item_of}
use Rattle.patr_chart.specs.Charted.{tree}
use Rattle.patr_chart.specs.Orders.{IsOrderOf}
use Rattle.patr_chart.proofs.Ordered.{are_ordered, item_cmp}
use Rattle.patr_parse.proofs.Picked.{count_two, count_rest}

abbrev pub analysis_cmp : Analysis → Analysis → Ordering
analysis_cmp a b = ordering_then (slice_cmp item_cmp a.key.items b.key.items) (nat_cmp a.edge b.edge)

-- of two keys of which the second does not come first, the first does, or they are one
in_order : (xs ys : List KeyItem) (rest : Ordering) → is_lt (ordering_then (slice_cmp item_cmp ys xs) rest) ≡ false
    → number_before (numbers (map item_of xs)) (numbers (map item_of ys)) ⊎ (ys ≡ xs)
in_order xs ys rest h = let o = are_ordered ys xs in go (slice_cmp item_cmp ys xs) o.order o.equal h
  where
    go : (o : Ordering) → IsOrderOf o (numbers (map item_of ys)) (numbers (map item_of xs)) → (o ≡ Equal → ys ≡ xs) → is_lt (ordering_then o rest) ≡ false
        → number_before (numbers (map item_of xs)) (numbers (map item_of ys)) ⊎ (ys ≡ xs)
    go Less order equal after = cc
    go Equal order equal after = inr (equal refl)
    go Greater order equal after = inl order

-- each is followed by one that does not come before it
abbrev pub Adjacent : List Analysis → Type 0
Adjacent [] = Unit {0}
Adjacent (a ∷ []) = Unit {0}
Adjacent (a ∷ b ∷ cs) = (is_lt (analysis_cmp b a) ≡ false) × Adjacent (b ∷ cs)

pub adjacent : (cs : List Analysis) → IsSorted analysis_cmp cs → Adjacent cs
adjacent [] h = tt
adjacent (a ∷ []) h = tt
adjacent (a ∷ b ∷ cs) h = (h 0 a (omega arith) (omega arith), adjacent (b ∷ cs) (λ k d low high. later k d high))
  where
    later : (k : ℕ) (d : Analysis) → k + 1 < length (b ∷ cs) → is_lt (analysis_cmp (get_or (b ∷ cs) (k + 1) d) (get_or (b ∷ cs) k d)) ≡ false
    later k d high =
        let e : suc k + 1 ≡ suc (k + 1) = omega arith in
        subst (λ n. is_lt (analysis_cmp (get_or (a ∷ b ∷ cs) n d) (get_or (b ∷ cs) k d)) ≡ false) e (h (suc k) d (omega arith) (omega (arith, high)))

-- where equal keys are those of one edge, and no edge stands twice, keys rise
module _ (es : List Edge) (P : ℕ → Type 0) (told : (k l : ℕ) → P k → P l → key (tree es k) ≡ key (tree es l) → k ≡ l) where
  pub rises : (cs : List Analysis) → Adjacent cs → AllByRecursion (HasKey es) cs → AllByRecursion P (map edge_of cs) → ((n : ℕ) → count n (map edge_of cs) ≤ 1)
      → Rises (map (tree es) (map edge_of cs))
  rises [] next keys all once = tt
  rises (a ∷ []) next keys all once = tt
  rises (a ∷ b ∷ cs) next keys all once = (
    first (in_order a.key.items b.key.items (nat_cmp b.edge a.edge) next.0),
    rises (b ∷ cs) next.1 keys.1 all.1 (λ n. count_rest n a.edge (map edge_of (b ∷ cs)) (once n)),
  )
    where
      first : number_before (numbers (map item_of a.key.items)) (numbers (map item_of b.key.items)) ⊎ (b.key.items ≡ a.key.items)
          → number_before (numbers (key (tree es a.edge))) (numbers (key (tree es b.edge)))
      first (inl h) = subst (λ x. number_before (numbers x) (numbers (key (tree es b.edge)))) keys.0 (subst (λ y. number_before (numbers (map item_of a.key.items)) (numbers y)) keys.1.0 h)
      first (inr h) = absurd (count_two a.edge b.edge (map edge_of cs) (told a.edge b.edge all.0 all.1.0 (sym keys.0 ∙ (ap (map item_of) (sym h) ∙ keys.1.0))) (once a.edge))
