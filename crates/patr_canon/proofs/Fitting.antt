-- Numbers of a canonical text are at most as many as its bytes.
use Rattle.std.proofs.Common.{◌≡◌, ℕ, suc, ◌<◌, ◌≤◌, ◌^◌, Bool, true, false, cond, List, [], ◌∷◌, ◌++◌, length, length-append, Option, Some, None, is_some, refl, arith}
use Rattle.patr_lists.proofs.Alls.{all_append}
use Rattle.patr_canon.proofs.Names.{Again, AllByRecursion, Begun, Branch, Branches, Done, EventFits, Leaf, Look, Outline, Structure, Value, branches_text, canonical, events, events_of, from_one, kept, number_in, number_mark, outline, outline_text, place_in, place_there, printed, renumbered, renumbered_all, repeats, spelled, spelled_all, tree_of, visits, visits_of}

kept_length : (these xs : List ℕ) → length (kept these xs) ≤ length xs
kept_length these [] = omega arith
kept_length these (x ∷ xs) = go (is_some (place_in these x)) (kept_length these xs)
  where
    go : (t : Bool) → length (kept these xs) ≤ length xs → length (cond t (x ∷ kept these xs) (kept these xs)) ≤ suc (length xs)
    go true h = omega (arith, h)
    go false h = omega (arith, h)

number_small : (t : Outline ℕ) (i : ℕ) → number_in t i ≤ length (visits t)
number_small t i = go (place_in (kept (repeats t) (visits t)) i) refl
  where
    go : (o : Option ℕ) → place_in (kept (repeats t) (visits t)) i ≡ o → from_one o ≤ length (visits t)
    go None e = omega arith
    go (Some j) e = let lt = place_there (kept (repeats t) (visits t)) i j e in let le = kept_length (repeats t) (visits t) in omega (arith, lt, le)

-- each node has a bracket
module _ (f : ℕ → ℕ) (g : ℕ → List ℕ) where
  mutual
    visits_few : (t : Outline ℕ) → length (visits t) ≤ length (outline_text (spelled g (renumbered f t)))
    visits_few (Leaf c) = omega arith
    visits_few (Again i) = omega arith
    visits_few (Begun i bs) =
        let rest = visits_of_few bs [] in
        let text = branches_text [] (spelled_all g (renumbered_all f bs)) in
        let len = length-append (number_mark (f i)) (91 ∷ text) in
        omega (arith, rest, len)

    visits_of_few : (bs : Branches ℕ) (separator : List ℕ) → length (visits_of bs) ≤ length (branches_text separator (spelled_all g (renumbered_all f bs)))
    visits_of_few Done separator = omega arith
    visits_of_few (Branch a x bs) separator =
        let here = visits_few x in
        let rest = visits_of_few bs (32 ∷ []) in
        let t = outline_text (spelled g (renumbered f x)) in
        let u = branches_text (32 ∷ []) (spelled_all g (renumbered_all f bs)) in
        omega (arith, here, rest, length-append (visits x) (visits_of bs), length-append separator (printed (g a) ++ 58 ∷ 32 ∷ (t ++ u)), length-append (printed (g a)) (58 ∷ 32 ∷ (t ++ u)), length-append t u)

module _ (f : ℕ → ℕ) (small : (i : ℕ) → f i < 2 ^ 32) where
  mutual
    events_fit : (t : Outline ℕ) → AllByRecursion EventFits (events (renumbered f t))
    events_fit (Leaf c) = (tt, tt)
    events_fit (Again i) = (small i, tt)
    events_fit (Begun i bs) = (small i, events_of_fit bs true)

    events_of_fit : (bs : Branches ℕ) (first : Bool) → AllByRecursion EventFits (events_of first (renumbered_all f bs))
    events_of_fit Done first = (tt, tt)
    events_of_fit (Branch a x bs) first = (tt, all_append EventFits (events (renumbered f x)) (events_of false (renumbered_all f bs)) (events_fit x) (events_of_fit bs false))

pub outline_fits : (l : Look) (S : Structure) (v : Value) → length (canonical l S v) < 2 ^ 32 → AllByRecursion EventFits (events (outline l S v))
outline_fits l S v h =
    let t = tree_of l S v in
    events_fit (number_in t) (λ i. (let n = number_small t i in let m = visits_few (number_in t) l.text t in omega (arith, h, n, m))) t
