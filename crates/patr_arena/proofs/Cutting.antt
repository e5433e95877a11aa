-- Lists cut at places that rise.
use Rattle.std.proofs.Common.{◌≡◌, ◌⊎◌, inl, inr, ℕ, zero, suc, ◌+◌, ◌-◌, ◌<◌, ◌≤◌, ◌^◌, List, [], ◌∷◌, ◌++◌, length, length-append, length-drop, length-take-le, map, take, drop, get_or, refl, sym, ap, ◌∙◌, subst, arith}
use Rattle.std.proofs.lemmas.List.{drop-append-le, get_or-drop, get_or-take, get_or_append_left, get_or_at, get_or_past, take-append-le, take_all, drop-take, length-take-le, take-take}
use Rattle.std.proofs.lemmas.List.Sums.{sum_by-cons}
use Rattle.std.proofs.Math.Seq.{drop-append-add}
use Rattle.std.specs.List.{slice_range, sum_by}
use Rattle.std.specs.List.Sorted.{IsStrictlyIncreasing}
use Rattle.patr_arena.specs.declared.value.Feature.{Feature}
use Rattle.patr_arena.specs.Blocks.{AllBelow, IsBlock, attributes}
use Rattle.patr_arena.specs.Cuts.{AreEnds, AreEndsOf, IsCut, begin, cut, last_end}

pub cut_length : {X : Type 0} (fs : List X) (from : ℕ) (ends : List ℕ) → length (cut fs from ends) ≡ length ends
cut_length fs from [] = refl
cut_length fs from (end ∷ ends) = ap suc (cut_length fs end ends)

pub order_last : (from : ℕ) (ends : List ℕ) → AreEnds from ends → from ≤ last_end from ends
order_last from [] o = omega arith
order_last from (end ∷ ends) o = let rest = order_last end ends o.1 in let first = o.0 in omega (arith, rest, first)

range_front : {X : Type 0} (fs more : List X) (from end : ℕ) → end ≤ length fs → from ≤ end → slice_range (fs ++ more) from end ≡ slice_range fs from end
range_front fs more from end m o =
    ap (take (end - from)) (drop-append-le from fs more (omega (arith, m, o)))
    ∙ take-append-le (end - from) (drop from fs) more (let size = length-drop from fs in omega (arith, size, m, o))

range_behind : {X : Type 0} (fs more : List X) (from end : ℕ) → slice_range (fs ++ more) (length fs + from) (length fs + end) ≡ slice_range more from end
range_behind fs more from end = ap (take (length fs + end - (length fs + from))) (drop-append-add fs more from) ∙ ap (λ n. take n (drop from more)) (omega arith)

-- ends counted from an earlier place
abbrev pub shifted : ℕ → List ℕ → List ℕ
shifted n ends = map (λ end. n + end) ends

cut_behind : {X : Type 0} (fs more : List X) (from : ℕ) (ends : List ℕ) → cut (fs ++ more) (length fs + from) (shifted (length fs) ends) ≡ cut more from ends
cut_behind fs more from [] = refl
cut_behind fs more from (end ∷ ends) =
    ap (λ xs. xs ∷ cut (fs ++ more) (length fs + end) (shifted (length fs) ends)) (range_behind fs more from end) ∙ ap (λ xs. slice_range more from end ∷ xs) (cut_behind fs more end ends)

pub cut_append : {X : Type 0} (fs more : List X) (from : ℕ) (ends bounds : List ℕ) → AreEnds from ends → last_end from ends ≡ length fs
    → cut (fs ++ more) from (ends ++ shifted (length fs) bounds) ≡ cut fs from ends ++ cut more 0 bounds
cut_append fs more from [] bounds o e = ap (λ k. cut (fs ++ more) k (shifted (length fs) bounds)) (let start : from ≡ length fs + 0 = omega (arith, e) in start) ∙ cut_behind fs more 0 bounds
cut_append fs more from (end ∷ ends) bounds o e =
    let last = order_last end ends o.1 in
    ap (λ xs. xs ∷ cut (fs ++ more) end (ends ++ shifted (length fs) bounds)) (range_front fs more from end (omega (arith, last, e)) o.0)
    ∙ ap (λ xs. slice_range fs from end ∷ xs) (cut_append fs more end ends bounds o.1 e)

pub cut_push : {X : Type 0} (fs more : List X) (from : ℕ) (ends : List ℕ) → AreEnds from ends → last_end from ends ≡ length fs
    → cut (fs ++ more) from (ends ++ length (fs ++ more) ∷ []) ≡ cut fs from ends ++ more ∷ []
cut_push fs more from ends o e =
    ap (λ n. cut (fs ++ more) from (ends ++ n ∷ [])) (length-append fs more)
    ∙ (cut_append fs more from ends (length more ∷ []) o e ∙ ap (λ xs. cut fs from ends ++ xs ∷ []) (take_all (length more - 0) more (omega arith)))

ends_append : (from : ℕ) (ends more : List ℕ) → AreEnds from ends → AreEnds (last_end from ends) more → AreEnds from (ends ++ more)
ends_append from [] more o m = m
ends_append from (end ∷ ends) more o m = (o.0, ends_append end ends more o.1 m)

last_append : (from : ℕ) (ends more : List ℕ) → last_end from (ends ++ more) ≡ last_end (last_end from ends) more
last_append from [] more = refl
last_append from (end ∷ ends) more = last_append end ends more

shifted_order : (n from : ℕ) (ends : List ℕ) → AreEnds from ends → AreEnds (n + from) (shifted n ends)
shifted_order n from [] o = tt
shifted_order n from (end ∷ ends) o = (let first = o.0 in omega (arith, first), shifted_order n end ends o.1)

shifted_last : (n from : ℕ) (ends : List ℕ) → last_end (n + from) (shifted n ends) ≡ n + last_end from ends
shifted_last n from [] = refl
shifted_last n from (end ∷ ends) = shifted_last n end ends

-- the ends of two lists, one behind the other
pub ends_join : {X : Type 0} (fs more : List X) (ends bounds : List ℕ) → AreEndsOf fs ends → AreEndsOf more bounds → AreEndsOf (fs ++ more) (ends ++ shifted (length fs) bounds)
ends_join fs more ends bounds e b =
    let behind = shifted (length fs) bounds in
    let start : length fs + 0 ≡ last_end 0 ends = (let last = e.last in omega (arith, last)) in
    let last = shifted_last (length fs) 0 bounds in
    let same = b.last in
    let all = length-append fs more in
    record {
      order = ends_append 0 ends behind e.order (subst (λ k. AreEnds k behind) start (shifted_order (length fs) 0 bounds b.order));
      last = last_append 0 ends behind ∙ (ap (λ k. last_end k behind) (sym start) ∙ omega (arith, last, same, all));
    }

-- a list with one cut more
pub ends_more : {X : Type 0} (fs more : List X) (ends : List ℕ) → AreEndsOf fs ends → AreEndsOf (fs ++ more) (ends ++ length (fs ++ more) ∷ [])
ends_more fs more ends e =
    subst (λ n. AreEndsOf (fs ++ more) (ends ++ n ∷ [])) (sym (length-append fs more)) (ends_join fs more ends (length more ∷ []) e (record { order = (omega arith, tt); last = refl }))

-- one node more in a block
pub block_push : (nodes : List (List Feature)) (arcs : List Feature) → IsBlock nodes → IsStrictlyIncreasing (attributes arcs) → AllBelow (length nodes) arcs → IsBlock (nodes ++ arcs ∷ [])
block_push nodes arcs b rising below = record {
  rising = λ n. (go n (place n (length nodes))).0;
  below = λ n. (go n (place n (length nodes))).1;
}
  where
    place : (n m : ℕ) → (n < m) ⊎ ((n ≡ m) ⊎ (m < n))
    place n zero = elim_zero n
      where
        elim_zero : (n : ℕ) → (n < 0) ⊎ ((n ≡ 0) ⊎ (0 < n))
        elim_zero zero = inr (inl refl)
        elim_zero (suc n) = inr (inr (omega arith))
    place zero (suc m) = inl (omega arith)
    place (suc n) (suc m) = elim (place n m) as (λ _. (suc n < suc m) ⊎ ((suc n ≡ suc m) ⊎ (suc m < suc n))) [ inl h ↦ inl (omega (arith, h)) | inr (inl h) ↦ inr (inl (ap suc h)) | inr (inr h) ↦ inr (inr (omega (arith, h))) ]

    Fits : ℕ → List Feature → Type 0
    Fits n fs = IsStrictlyIncreasing (attributes fs) × AllBelow n fs

    go : (n : ℕ) → (n < length nodes) ⊎ ((n ≡ length nodes) ⊎ (length nodes < n)) → Fits n (get_or (nodes ++ arcs ∷ []) n [])
    go n (inl h) = subst (Fits n) (sym (get_or_append_left nodes (arcs ∷ []) [] n h)) (b.rising n, b.below n)
    go n (inr (inl h)) = subst (Fits n) (sym (get_or_at nodes arcs [] [] n (sym h))) (rising, subst (λ k. AllBelow k arcs) (sym h) below)
    go n (inr (inr h)) = subst (Fits n) (sym (get_or_past (nodes ++ arcs ∷ []) n [] (let all = length-append nodes (arcs ∷ []) in omega (arith, all, h)))) ((λ k m. absurd (omega (arith, m))), tt)

-- a block's lists with one node more
pub cut_more : (fs more : List Feature) (ends : List ℕ) → IsCut fs ends → length ends + 1 < 2 ^ 32 → IsStrictlyIncreasing (attributes more) → AllBelow (length (cut fs 0 ends)) more
    → IsCut (fs ++ more) (ends ++ length (fs ++ more) ∷ [])
cut_more fs more ends c few rising below = record {
  few = let all = length-append ends (length (fs ++ more) ∷ []) in omega (arith, all, few);
  cuts = ends_more fs more ends c.cuts;
  block = subst IsBlock (sym (cut_push fs more 0 ends c.cuts.order c.cuts.last)) (block_push (cut fs 0 ends) more c.block rising below);
}

pub begin_next : (from end : ℕ) (ends : List ℕ) (n : ℕ) → begin from (end ∷ ends) (suc n) ≡ begin end ends n
begin_next from end ends zero = refl
begin_next from end ends (suc n) = refl

pub cut_at : {X : Type 0} (fs : List X) (from : ℕ) (ends : List ℕ) (n : ℕ) → n < length ends → get_or (cut fs from ends) n [] ≡ slice_range fs (begin from ends n) (get_or ends n 0)
cut_at fs from [] n h = absurd (omega (arith, h))
cut_at fs from (end ∷ ends) zero h = refl
cut_at fs from (end ∷ ends) (suc n) h = cut_at fs end ends n (omega (arith, h)) ∙ ap (λ k. slice_range fs k (get_or ends n 0)) (sym (begin_next from end ends n))

pub begin_le : (from : ℕ) (ends : List ℕ) (n : ℕ) → AreEnds from ends → n < length ends → begin from ends n ≤ get_or ends n 0
begin_le from [] n o h = absurd (omega (arith, h))
begin_le from (end ∷ ends) zero o h = o.0
begin_le from (end ∷ ends) (suc n) o h = subst (λ k. k ≤ get_or ends n 0) (sym (begin_next from end ends n)) (begin_le end ends n o.1 (omega (arith, h)))

pub end_le : (from : ℕ) (ends : List ℕ) (n : ℕ) → AreEnds from ends → n < length ends → get_or ends n 0 ≤ last_end from ends
end_le from [] n o h = absurd (omega (arith, h))
end_le from (end ∷ ends) zero o h = order_last end ends o.1
end_le from (end ∷ ends) (suc n) o h = end_le end ends n o.1 (omega (arith, h))

-- a piece by where it begins and ends
pub cut_read : {X : Type 0} (fs : List X) (ends : List ℕ) (n start : ℕ) → AreEndsOf fs ends → n < length ends → start ≡ begin 0 ends n
    → (start ≤ get_or ends n 0) × (get_or ends n 0 ≤ length fs) × (slice_range fs start (get_or ends n 0) ≡ get_or (cut fs 0 ends) n [])
cut_read fs ends n start c inside b = (
  let order = begin_le 0 ends n c.order inside in omega (arith, order, b),
  let most = end_le 0 ends n c.order inside in let whole = c.last in omega (arith, most, whole),
  ap (λ k. slice_range fs k (get_or ends n 0)) b ∙ sym (cut_at fs 0 ends n inside),
)

module _ {X : Type 0} (xs : List X) where
  range_length : (from end : ℕ) → end ≤ length xs → length (slice_range xs from end) ≡ end - from
  range_length from end m = length-take-le (end - from) (drop from xs) (let size = length-drop from xs in omega (arith, size, m))

  -- a member of a piece is a member of the list
  pub cut_inside : (ends : List ℕ) (n o : ℕ) (d : X) → AreEndsOf xs ends → n < length ends → o < length (get_or (cut xs 0 ends) n [])
      → (begin 0 ends n + o < length xs) × (get_or xs (begin 0 ends n + o) d ≡ get_or (get_or (cut xs 0 ends) n []) o d)
  cut_inside ends n o d c inside h =
      let first = begin 0 ends n in
      let end = get_or ends n 0 in
      let read = cut_read xs ends n first c inside refl in
      let most = read.1 in
      let piece = ap length read.2 in
      let size = range_length first end most in
      let below : first + o < end = omega (arith, h, piece, size) in (
        omega (arith, below, most),
        sym (get_or-drop first xs o d) ∙ (sym (get_or-take (end - first) (drop first xs) o d (omega (arith, below))) ∙ ap (λ ys. get_or ys o d) read.2),
      )

  -- how many members stand before a piece, and in all of them
  sum_step : (from end : ℕ) (more : List (List X)) → from ≤ end → end ≤ length xs → from + sum_by length (slice_range xs from end ∷ more) ≡ end + sum_by length more
  sum_step from end more o m =
      let parts = sum_by-cons (length {A = X}) (slice_range xs from end) more in
      let size = range_length from end m in
      omega (arith, parts, size, o)

  pub cut_before : (from : ℕ) (ends : List ℕ) (n : ℕ) → AreEnds from ends → last_end from ends ≤ length xs → n < length ends → from + sum_by length (take n (cut xs from ends)) ≡ begin from ends n
  cut_before from [] n o m h = absurd (omega (arith, h))
  cut_before from (end ∷ ends) zero o m h = omega arith
  cut_before from (end ∷ ends) (suc n) o m h =
      let last = order_last end ends o.1 in
      sum_step from end (take n (cut xs end ends)) o.0 (omega (arith, last, m)) ∙ (cut_before end ends n o.1 m (omega (arith, h)) ∙ sym (begin_next from end ends n))

  pub cut_sum : (from : ℕ) (ends : List ℕ) → AreEnds from ends → last_end from ends ≤ length xs → from + sum_by length (cut xs from ends) ≡ last_end from ends
  cut_sum from [] o m = omega arith
  cut_sum from (end ∷ ends) o m = let last = order_last end ends o.1 in sum_step from end (cut xs end ends) o.0 (omega (arith, last, m)) ∙ cut_sum end ends o.1 m

-- ---- the first pieces alone

range_of_front : {X : Type 0} (fs : List X) (m from end : ℕ) → from ≤ end → end ≤ m → slice_range (take m fs) from end ≡ slice_range fs from end
range_of_front fs m from end o l =
    ap (λ j. take (end - from) (drop from (take j fs))) (let sum : m ≡ from + (m - from) = omega (arith, o, l) in sum)
    ∙ (ap (take (end - from)) (drop-take from (m - from) fs) ∙ take-take (end - from) (m - from) (drop from fs) (omega (arith, o, l)))

order_begin : (from : ℕ) (ends : List ℕ) (n : ℕ) → AreEnds from ends → n < length ends → from ≤ begin from ends n
order_begin from [] n o h = absurd (omega (arith, h))
order_begin from (end ∷ ends) zero o h = omega arith
order_begin from (end ∷ ends) (suc n) o h = let first = o.0 in let rest = order_begin end ends n o.1 (omega (arith, h)) in let next = begin_next from end ends n in omega (arith, first, rest, next)

pub cut_front : {X : Type 0} (fs : List X) (from : ℕ) (ends : List ℕ) (n m : ℕ) → AreEnds from ends → n < length ends → m ≡ begin from ends n → cut (take m fs) from (take n ends) ≡ take n (cut fs from ends)
cut_front fs from [] n m o h e = absurd (omega (arith, h))
cut_front fs from (end ∷ ends) zero m o h e = refl
cut_front fs from (end ∷ ends) (suc n) m o h e =
    let inside : n < length ends = omega (arith, h) in
    let next = e ∙ begin_next from end ends n in
    let below = order_begin end ends n o.1 inside in
    ap (λ xs. xs ∷ cut (take m fs) end (take n ends)) (range_of_front fs m from end o.0 (omega (arith, next, below)))
    ∙ ap (λ xs. slice_range fs from end ∷ xs) (cut_front fs end ends n m o.1 inside next)

order_front : (from : ℕ) (ends : List ℕ) (n : ℕ) → AreEnds from ends → AreEnds from (take n ends)
order_front from [] zero o = tt
order_front from [] (suc n) o = tt
order_front from (end ∷ ends) zero o = tt
order_front from (end ∷ ends) (suc n) o = (o.0, order_front end ends n o.1)

last_front : (from : ℕ) (ends : List ℕ) (n : ℕ) → n < length ends → last_end from (take n ends) ≡ begin from ends n
last_front from [] n h = absurd (omega (arith, h))
last_front from (end ∷ ends) zero h = refl
last_front from (end ∷ ends) (suc n) h = last_front end ends n (omega (arith, h)) ∙ sym (begin_next from end ends n)

-- what holds of a member and of an empty one holds in a front
pub front_keeps : {X : Type 0} (P : List X → Type 0) → P [] → (m : ℕ) (xs : List (List X)) (n : ℕ) → P (get_or xs n []) → P (get_or (take m xs) n [])
front_keeps P none zero xs n h = none
front_keeps P none (suc m) [] n h = h
front_keeps P none (suc m) (x ∷ xs) zero h = h
front_keeps P none (suc m) (x ∷ xs) (suc n) h = front_keeps P none m xs n h

pub block_front : (nodes : List (List Feature)) (m : ℕ) → IsBlock nodes → IsBlock (take m nodes)
block_front nodes m b = record {
  rising = λ n. front_keeps (λ fs. IsStrictlyIncreasing (attributes fs)) (λ k h. absurd (omega (arith, h))) m nodes n (b.rising n);
  below = λ n. front_keeps (AllBelow n) tt m nodes n (b.below n);
}

pub is_cut_front : (fs : List Feature) (ends : List ℕ) (n m : ℕ) → IsCut fs ends → n < length ends → m ≡ begin 0 ends n → IsCut (take m fs) (take n ends)
is_cut_front fs ends n m c h e =
    let order = begin_le 0 ends n c.cuts.order h in
    let most = end_le 0 ends n c.cuts.order h in
    let whole = c.cuts.last in
    let few = c.few in
    let size = length-take-le n ends (omega (arith, h)) in
    record {
      few = omega (arith, size, h, few);
      cuts = record { order = order_front 0 ends n c.cuts.order; last = last_front 0 ends n h ∙ (sym e ∙ sym (length-take-le m fs (omega (arith, order, most, whole, e)))) };
      block = subst IsBlock (sym (cut_front fs 0 ends n m c.cuts.order h e)) (block_front (cut fs 0 ends) n c.block);
    }
