-- The sorted edges are all the analyses in order.
use Rattle.std.proofs.Common.{◌≡◌, inl, inr, ℕ, zero, suc, ◌+◌, ◌<◌, ◌≤◌, nat_eq, List, [], ◌∷◌, ◌++◌, length, map, get_or, Some, slice_get, refl, sym, ap, ◌∙◌, arith, subst}
use Rattle.std.specs.List.{AllByRecursion, Contains, sum_by}
use Rattle.std.specs.List.Sorted.{IsPermutation, IsSorted}
use Rattle.std.proofs.lemmas.List.Elements.{All-from_recursion, recursion_from_All}
use Rattle.std.proofs.lemmas.List.Sorted.{All-permutation, IsPermutation-sym, sum_by-IsPermutation}
use Rattle.std.proofs.lemmas.List.Sums.{sum_by-cons}
use Rattle.std.proofs.lemmas.Option.{slice_get_within}
use Rattle.patr_lists.proofs.Members.{in_map, one_place, in_at}
use Rattle.patr_lists.proofs.Alls.{all_weaker, all_of}
use Rattle.patr_lists.specs.Members.{IsIn}
use Rattle.patr_lists.specs.Numbers.{places}
use Rattle.patr_parse.proofs.Names.{Rules, Derivation, Begin, IsChart, Shown, Edge, AreEdges, derivations, places_pass, passes_placed, Stored, keys, Analysis, AreSound, is_whole, HasKey, edge_of, AreAll}
use Rattle.patr_model.specs.Derivation.{key}
use Rattle.patr_model.specs.Chart.{IsAnalysis}
use Rattle.patr_model.specs.Laws.{StatesCategories}
use Rattle.patr_model.specs.Session.{Rises}
use Rattle.patr_model.specs.Solved.{solved}
use Rattle.patr_model.proofs.Keys.{keys_tell}
use Rattle.patr_model.proofs.Shared.{one_if, count}
use Rattle.patr_model.proofs.Prediction.{prediction_drops_none}
use Rattle.patr_chart.specs.Charted.{tree}
use Rattle.patr_library.specs.Stored.{HasItems}
use Rattle.patr_parse.proofs.Picked.{places_once}
use Rattle.patr_parse.proofs.Ordered.{analysis_cmp, adjacent, rises}
use Rattle.patr_parse.proofs.Tasks.{trees_length}
use Rattle.patr_parse.proofs.WholeEdges.{edge_of_tree, have_least, edge_is_analysis, analysis_passes}

-- what holds of each, by the edges' numbers
by_edge : (P : ℕ → Type 0) (cs : List Analysis) → AllByRecursion P (map edge_of cs) → AllByRecursion (λ a. P (edge_of a)) cs
by_edge P [] h = tt
by_edge P (a ∷ cs) h = (h.0, by_edge P cs h.1)

of_edges : (P : ℕ → Type 0) (cs : List Analysis) → AllByRecursion (λ a. P (edge_of a)) cs → AllByRecursion P (map edge_of cs)
of_edges P [] h = tt
of_edges P (a ∷ cs) h = (h.0, of_edges P cs h.1)

of_trees : (es : List Edge) (P : Derivation → Type 0) (ns : List ℕ) → AllByRecursion (λ k. P (tree es k)) ns → AllByRecursion P (map (tree es) ns)
of_trees es P [] h = tt
of_trees es P (n ∷ ns) h = (h.0, of_trees es P ns h.1)

tallied : (n : ℕ) (cs : List Analysis) → sum_by (λ a. one_if (nat_eq n (edge_of a))) cs ≡ count n (map edge_of cs)
tallied n [] = refl
tallied n (a ∷ cs) = sum_by-cons (λ x. one_if (nat_eq n (edge_of x))) a cs ∙ ap (λ k. one_if (nat_eq n (edge_of a)) + k) (tallied n cs)

module _ (xs ys : List Analysis) (moved : IsPermutation xs ys) where
  moved_all : (P : Analysis → Type 0) → AllByRecursion P xs → AllByRecursion P ys
  moved_all P h = recursion_from_All P ys (All-permutation P xs ys moved (All-from_recursion P xs h))

  moved_count : (n : ℕ) → count n (map edge_of ys) ≡ count n (map edge_of xs)
  moved_count n = sym (tallied n ys) ∙ (sum_by-IsPermutation (λ a. one_if (nat_eq n (edge_of a))) xs ys moved ∙ tallied n xs)

own_trees : (es : List Edge) (ts : List Derivation) (cs : List Analysis) → ((t : Derivation) → IsIn (map (tree es) (map edge_of cs)) t → IsIn ts t)
    → AllByRecursion (λ a. IsIn ts (tree es (edge_of a))) cs
own_trees es ts [] keeps = tt
own_trees es ts (a ∷ cs) keeps = (keeps (tree es (edge_of a)) (inl refl), own_trees es ts cs (λ t h. keeps t (inr h)))

member_holds : (P : ℕ → Type 0) (cs : List Analysis) (n : ℕ) → AllByRecursion (λ a. P (edge_of a)) cs → (k : ℕ) → k < length (map edge_of cs) → get_or (map edge_of cs) k n ≡ n → P n
member_holds P [] n all k h e = absurd (omega (arith, h))
member_holds P (a ∷ cs) n all zero h e = subst P e all.0
member_holds P (a ∷ cs) n all (suc k) h e = member_holds P cs n all.1 k (omega (arith, h)) e

-- the trees of the edges stay, in another order
moved_tree : (es : List Edge) (xs ys : List Analysis) → IsPermutation xs ys → (n : ℕ) → Contains (map edge_of xs) n → IsIn (map (tree es) (map edge_of ys)) (tree es n)
moved_tree es xs ys moved n h =
    let ts = map (tree es) (map edge_of ys) in
    member_holds (λ k. IsIn ts (tree es k)) xs n (moved_all ys xs (IsPermutation-sym xs ys moved) (λ a. IsIn ts (tree es (edge_of a))) (own_trees es ts ys (λ t m. m))) h.0 h.1 h.2

module _ (g : Rules) (s : Stored) (items : HasItems g s.shown s.rules s.entries) (v : Shown) (words : ℕ) (es : List Edge) (all : AreEdges words es) (sound : AreSound g s v es)
    (ws : List ℕ) (chart : IsChart (solved g keys.cat) g ws (derivations es)) where
  abbrev IsGood : ℕ → Type 0
  IsGood k = (k < length es) × IsAnalysis (solved g keys.cat) g ws (tree es k)

  -- equal keys are those of one edge
  told : (k l : ℕ) → IsGood k → IsGood l → key (tree es k) ≡ key (tree es l) → k ≡ l
  told k l h i e =
      let same = (keys_tell g ws (tree es k) (tree es l) [] [] h.1.derivation i.1.derivation h.1.complete i.1.complete (h.1.start ∙ sym i.1.start) (ap (λ x. x ++ []) e)).0 in
      one_place (derivations es) (Begin 0 0 0) chart.once k l (omega (arith, trees_length es, h.0)) (omega (arith, trees_length es, i.0)) same

  abbrev found : List ℕ
  found = places (is_whole v (length ws) g.start) 0 es

  is_good : (k : ℕ) → Contains found k → IsGood k
  is_good k h =
      let p = places_pass (is_whole v (length ws) g.start) 0 es k h in
      let there : slice_get es k ≡ Some p.1 = ap (slice_get es) (omega (arith, p.2)) ∙ p.3 in
      (slice_get_within es k p.1 there, edge_is_analysis g s items v words es all sound keys.cat ws chart refl k p.1 there p.4)

  has_every : StatesCategories g keys.cat → (t : Derivation) → IsAnalysis (solved g keys.cat) g ws t → (k : ℕ) × Contains found k × (tree es k ≡ t)
  has_every states t h =
      let in_chart = prediction_drops_none g ws keys.cat states (have_least g s items v words es all sound keys.cat ws chart) t h in
      let e = edge_of_tree g s items v words es all sound keys.cat ws chart t in_chart in
      let passes = analysis_passes g s items v words es all sound keys.cat ws chart refl e.0 e.1 e.2 (subst (λ u. IsAnalysis (solved g keys.cat) g ws u) (sym e.3) h) in
      (e.0, subst (λ n. Contains found n) (omega arith) (passes_placed (is_whole v (length ws) g.start) 0 es e.0 e.1 e.2 passes), e.3)

  -- those of the found edges, in an order in which their keys rise
  all_found : StatesCategories g keys.cat → (ns : List ℕ) → AllByRecursion IsGood ns → Rises (map (tree es) ns) → ((k : ℕ) → Contains found k → IsIn (map (tree es) ns) (tree es k)) → AreAll g keys.cat ws es ns
  all_found states ns good rising there = record {
    within = all_weaker IsGood (λ k. suc k ≤ length es) (λ k h. h.0) ns good;
    rises = rising;
    each = of_trees es (IsAnalysis (solved g keys.cat) g ws) ns (all_weaker IsGood (λ k. IsAnalysis (solved g keys.cat) g ws (tree es k)) (λ k h. h.1) ns good);
    every = λ t h. let k = has_every states t h in subst (λ u. IsIn (map (tree es) ns) u) k.2 (there k.0 k.1);
  }

  pub are_all : StatesCategories g keys.cat → (xs ys : List Analysis) → map edge_of xs ≡ found → AllByRecursion (HasKey es) xs → IsPermutation xs ys → IsSorted analysis_cmp ys
      → AreAll g keys.cat ws es (map edge_of ys)
  are_all states xs ys is has_keys moved sorted =
      let good = of_edges IsGood ys (moved_all xs ys moved (λ a. IsGood (edge_of a)) (by_edge IsGood xs (subst (AllByRecursion IsGood) (sym is) (all_of IsGood found is_good)))) in
      all_found states (map edge_of ys) good
      (rises es IsGood told ys (adjacent ys sorted) (moved_all xs ys moved (HasKey es) has_keys) good (λ n. omega (arith, moved_count xs ys moved n, ap (count n) is, places_once (is_whole v (length ws) g.start) n 0 es)))
      (λ k h. moved_tree es xs ys moved k (subst (λ ns. Contains ns k) (sym is) h))

  -- one edge, or none, needs no sorting
  pub is_all : StatesCategories g keys.cat → (ns : List ℕ) → ns ≡ found → length ns ≤ 1 → AreAll g keys.cat ws es ns
  is_all states ns is few =
      all_found states ns (subst (AllByRecursion IsGood) (sym is) (all_of IsGood found is_good)) (few_rise ns few)
      (λ k h. let at = subst (λ l. Contains l k) (sym is) h in in_map (tree es) ns k (subst (IsIn ns) at.2 (in_at ns k at.0 at.1)))
    where
      few_rise : (ns : List ℕ) → length ns ≤ 1 → Rises (map (tree es) ns)
      few_rise [] h = tt
      few_rise (n ∷ []) h = tt
      few_rise (n ∷ m ∷ ns) h = absurd (omega (arith, h))
