-- The steps of the rounds.
use Rattle.std.proofs.Common.{◌≡◌, inl, inr, ℕ, suc, ◌+◌, ◌<◌, ◌≤◌, List, [], ◌∷◌, ◌++◌, length, take, Option, Some, None, slice_get, refl, sym, ap, ◌∙◌, arith, subst, append-nil, append_assoc, length-append}
use Rattle.std.proofs.lemmas.List.{map-append, length-map, take_more, take-append-le, get_or_append_left}
use Rattle.std.proofs.Math.Seq.{take-length}
use Rattle.std.proofs.lemmas.Option.{slice_get_within}
use Rattle.patr_lists.proofs.Places.{get_parts}
use Rattle.patr_lists.proofs.Members.{in_cases, in_left, one_place, in_at, once_left}
use Rattle.patr_lists.specs.Members.{IsIn}
use Rattle.patr_parse.proofs.Names.{Rules, Derivation, Begin, Extend, Judgement, InChart, IsChart, HasMoreThan, IsWorked, rounds, Back, Edge, HasOrigin, IsEdgeAfter, derived_by, derived, derivations, KindsFit, made_by, AreSmall, Stands}
use Rattle.patr_model.specs.Rounds.{IsPredicted, IsYield}
use Rattle.patr_chart.specs.Charted.{derivation_at, derivations_from, tree}
use Rattle.patr_chart.proofs.Trees.{from_append}
use Rattle.patr_parse.specs.Tasks.{by_edges, HasLarge}
use Rattle.patr_parse.specs.Standing.{MayBePushed, IsMadeOfTwo, IsRound}
use Rattle.patr_parse.proofs.Numbers.{in_taken}
use Rattle.patr_parse.proofs.Tasks.{trees_length}

-- what an edge stands for doesn't depend on later ones
derived_more : (words : ℕ) (es : List Edge) (more : List Derivation) (e : Edge) → IsEdgeAfter words es e → derived (derivations es ++ more) e ≡ derived (derivations es) e
derived_more words es more e h = go e.back h.origin
  where
    go : (o : Option Back) → HasOrigin es e o → derived_by (derivations es ++ more) e o ≡ derived_by (derivations es) e o
    go None k = refl
    go (Some b) k =
        let a = slice_get_within es b.active k.0 k.2 in
        let p = slice_get_within es b.passive k.1 k.3 in
        let long = trees_length es in
        ap (λ t. Extend t (derivation_at (derivations es ++ more) b.passive)) (get_or_append_left (derivations es) more (Begin 0 0 0) b.active (omega (arith, a, long)))
        ∙ ap (λ t. Extend (derivation_at (derivations es) b.active) t) (get_or_append_left (derivations es) more (Begin 0 0 0) b.passive (omega (arith, p, long)))

from_made : (words : ℕ) (es : List Edge) (zs : List Derivation) (ys : List Edge) → ((n : ℕ) (e : Edge) → slice_get ys n ≡ Some e → IsEdgeAfter words es e)
    → derivations_from (derivations es ++ zs) ys ≡ derivations es ++ (zs ++ made_by es ys)
from_made words es zs [] all = ap (λ l. derivations es ++ l) (sym (append-nil zs))
from_made words es zs (y ∷ ys) all =
    ap (λ t. derivations_from ((derivations es ++ zs) ++ t ∷ []) ys) (derived_more words es zs y (all 0 y refl))
    ∙ (ap (λ l. derivations_from l ys) (append_assoc (derivations es) zs (derived (derivations es) y ∷ []))
    ∙ (from_made words es (zs ++ derived (derivations es) y ∷ []) ys (λ n e h. all (suc n) e h)
    ∙ ap (λ l. derivations es ++ l) (append_assoc zs (derived (derivations es) y ∷ []) (made_by es ys))))

pub derivations_made : (words : ℕ) (es ys : List Edge) → ((n : ℕ) (e : Edge) → slice_get ys n ≡ Some e → IsEdgeAfter words es e) → derivations (es ++ ys) ≡ derivations es ++ made_by es ys
derivations_made words es ys all =
    from_append [] es ys ∙ (ap (λ l. derivations_from l ys) (sym (append-nil (derivations es))) ∙ from_made words es [] ys all)

made_length : (es ys : List Edge) → length (made_by es ys) ≡ length ys
made_length es ys = length-map ys (derived (derivations es))

-- what was made stands behind what was there
made_of_two : (words : ℕ) (es ys : List Edge) → MayBePushed words es ys → (t : Derivation) → IsIn (made_by es ys) t → IsMadeOfTwo t
made_of_two words es [] m t h = absurd h
made_of_two words es (y ∷ ys) m t (inl q) =
    let b = m 0 y refl in
    (derivation_at (derivations es) b.1.active, derivation_at (derivations es) b.1.passive, sym q ∙ ap (λ o. derived_by (derivations es) y o) b.2)
made_of_two words es (y ∷ ys) m t (inr h) = made_of_two words es ys (λ n e k. m (suc n) e k) t h

small_append : (limit : ℕ) (ts us : List Derivation) → AreSmall limit ts → AreSmall limit us → AreSmall limit (ts ++ us)
small_append limit ts us a b t h = elim (in_cases ts us t h) [ inl k ↦ a t k | inr k ↦ b t k ]

pub round_done : (limit words : ℕ) (es ys : List Edge) → AreSmall limit (derivations es) → MayBePushed words es ys → AreSmall limit (made_by es ys) → length es + length ys ≤ limit → IsRound limit es (es ++ ys)
round_done limit words es ys small ground made few =
    let is = derivations_made words es ys (λ n e h. (ground n e h).0) in record {
      grown = (ys, refl, is, made_of_two words es ys ground);
      small = subst (λ l. AreSmall limit l) (sym is) (small_append limit (derivations es) (made_by es ys) small made);
      few = omega (arith, few, length-append es ys);
    }

-- edges that are made of two fit
fit_pushed : (g : Rules) (words : ℕ) (es ys : List Edge) → KindsFit g es → MayBePushed words es ys → KindsFit g (es ++ ys)
fit_pushed g words es ys fit m k e h none = elim (get_parts es ys k e h) [
  | inl at ↦ fit k e at none
  | inr at ↦ (let b = m at.0 e at.2 in absurd (apart b.1 (sym none ∙ b.2)))
]
  where
    apart : (b : Back) → None ≡ Some b → ⊥
    apart b q = cc

module _ (j : Judgement) (g : Rules) (ws : List ℕ) where
  -- one task
  pub stands_task : (es : List Edge) (k : ℕ) (ys zs : List Edge) → Stands j g ws es k ys → k < length es → IsYield (by_edges j.IsEdge) g (take k (derivations es)) (tree es k) (made_by es zs)
      → Stands j g ws es (k + 1) (ys ++ zs)
  stands_task es k ys zs s h t =
      let D = derivations es in
      let long = trees_length es in
      let here : k < length D = omega (arith, h, long) in
      let x = tree es k in
      let fresh : IsIn (take k D) x → ⊥ = λ i.
      let at = in_taken k D (Begin 0 0 0) x i in
      let same = one_place D (Begin 0 0 0) (once_left D (made_by es ys) s.worked.once) at.at k at.within here at.is in let before = at.before in omega (arith, same, before) in
      let yields : IsYield j g (take k D) x (made_by es zs) = record { once = t.once; pairs = t.pairs; every = t.every } in
      let w = (rounds j g ws).works (take k D) (D ++ made_by es ys) x (made_by es zs) s.worked (in_left D (made_by es ys) x (in_at D (Begin 0 0 0) k here)) fresh yields in
      record {
        worked = subst (λ l. IsWorked j g ws l (D ++ made_by es (ys ++ zs))) (sym (take_more D k (Begin 0 0 0) here))
            (subst (λ l. IsWorked j g ws (take k D ++ x ∷ []) l)
            (append_assoc D (made_by es ys) (made_by es zs) ∙ ap (λ l. D ++ l) (sym (map-append (derived D) ys zs))) w);
        within = omega (arith, h);
        fit = s.fit;
      }

  -- after the round
  pub stands_pushed : (words : ℕ) (es ys : List Edge) → Stands j g ws es (length es) ys → MayBePushed words es ys
      → Stands j g ws (es ++ ys) (length es) []
  stands_pushed words es ys s m =
      let D = derivations es in
      let is = derivations_made words es ys (λ n e h. (m n e h).0) in
      let long = trees_length es in
      let front : take (length es) (derivations (es ++ ys)) ≡ take (length es) D = ap (λ l. take (length es) l) is ∙ take-append-le (length es) D (made_by es ys) (omega (arith, long)) in
      record {
        worked = subst (λ l. IsWorked j g ws l (derivations (es ++ ys) ++ [])) (sym front)
            (subst (λ l. IsWorked j g ws (take (length es) D) l) (sym is ∙ sym (append-nil (derivations (es ++ ys)))) s.worked);
        within = omega (arith, length-append es ys);
        fit = fit_pushed g words es ys s.fit m;
      }

  pub passes_made : (es : List Edge) (k : ℕ) (ys : List Edge) (limit : ℕ) → Stands j g ws es k ys → limit < length es + length ys → HasMoreThan j g ws limit
  passes_made es k ys limit s h =
      (rounds j g ws).passes (take k (derivations es)) (derivations es ++ made_by es ys) limit s.worked
      (omega (arith, h, trees_length es, made_length es ys, length-append (derivations es) (made_by es ys)))

  pub is_closed : (es : List Edge) → Stands j g ws es (length es) [] → IsPredicted j g ws (derivations es) → IsChart j g ws (derivations es)
  is_closed es s p =
      let D = derivations es in
      let all : take (length es) D ≡ D = ap (λ n. take n D) (sym (trees_length es)) ∙ take-length D in
      (rounds j g ws).ends D (subst (λ l. IsWorked j g ws l D) all (subst (λ l. IsWorked j g ws (take (length es) D) l) (append-nil D) s.worked)) p

  -- two edges of the chart give one with too many nodes
  pub passes_large : (es : List Edge) (k : ℕ) (ys : List Edge) (limit : ℕ) → Stands j g ws es k ys → HasLarge j.IsEdge g limit (derivations es) → HasMoreThan j g ws limit
  passes_large es k ys limit s h =
      let q = h.1 in
      let there = λ (t : Derivation) (i : IsIn (derivations es) t). s.worked.edges t (in_left (derivations es) (made_by es ys) t i) in
      let edge : j.IsEdge (Extend q.0 q.1) = subst (λ u. j.IsEdge u) q.2 h.2 in
      inr (h.0, subst (λ u. InChart j g ws u) (sym q.2) (InChart.extended q.0 q.1 (there q.0 q.3) q.5.0 (there q.1 q.4) q.5.1 q.5.2 edge), h.3)

  -- the limit was not passed
  pub not_more : (es : List Edge) (limit : ℕ) → IsChart j g ws (derivations es) → length es ≤ limit → AreSmall limit (derivations es) → HasMoreThan j g ws limit → ⊥
  not_more es limit c few small = (rounds j g ws).keeps (derivations es) limit c (omega (arith, few, trees_length es)) small
