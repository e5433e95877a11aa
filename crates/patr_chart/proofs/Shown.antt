-- The derivation of an edge shows what its kind says.
use Rattle.std.proofs.Common.{◌≡◌, ℕ, zero, suc, ◌<◌, Bool, true, false, not, ltb, ltb-true, ltb-false, List, length, take, Option, Some, None, slice_get, refl, sym, ap, ◌∙◌, arith, subst}
use Rattle.patr_chart.proofs.Names.{AreAdjacent, AreEdges, Back, Begin, ComesFrom, Derivation, Edge, EdgeKind, Entry, Extend, HasOrigin, IsAlone, IsComplete, IsJudged, IsNext, IsOfKind, IsPartial, IsTree, IsTreeOf, KindFits, KindsFit, Leaf, Rule, RuleVariant, Rules, alone, is_passive, kind_passive, root_rule, rule_variant, seen, tree}
use Rattle.patr_model.specs.Rounds.{IsAdjacent}
use Rattle.patr_model.proofs.Steps.{partial_or_complete}
use Rattle.patr_chart.proofs.Trees.{tree_alone, tree_longer, tree_of}

alone_kind : (g : Rules) (k : EdgeKind) (e : Edge) → IsAlone k e → IsOfKind g k (alone k e)
alone_kind g (Entry f v) e h = (e.start, e.end, refl)
alone_kind g (Rule r v i s n) e h = (sym h.0, refl, tt)

pub next_kind : (g : Rules) (a p : Derivation) (k l : EdgeKind) → IsNext k l → IsOfKind g k a → IsOfKind g l (Extend a p)
next_kind g a p (Entry f v) l h is = absurd h
next_kind g a p (Rule r v i s n) (Entry f w) h is = absurd h
next_kind g a p (Rule r v i s n) (Rule r' v' i' s' n') h is = (ap (λ x. suc x) is.0 ∙ sym h.3, is.1 ∙ (ap (λ x. rule_variant g x v) (sym h.0) ∙ ap (λ x. rule_variant g r' x) (sym h.1)), tt)

complete_of : (g : Rules) (t : Derivation) (w : RuleVariant) → IsTree t → root_rule g t ≡ Some w → suc (seen t) ≡ length w.categories → IsComplete g t
complete_of g (Leaf e k i j) w h q c = absurd h
complete_of g (Begin r k i) w h q c = (w, q, omega (arith, c))
complete_of g (Extend a p) w h q c = (w, q, c)

pub kind_complete : (g : Rules) (t : Derivation) (k : EdgeKind) → IsOfKind g k t → KindFits g k → kind_passive k ≡ true → IsComplete g t
kind_complete g t (Entry f v) is fit p = subst (λ u. IsComplete g u) (sym is.2) tt
kind_complete g t (Rule r v i s n) is fit p = go (ltb s n) refl p
  where
    go : (b : Bool) → ltb s n ≡ b → not b ≡ true → IsComplete g t
    go true q e = cc
    go false q e = complete_of g t fit.0 is.2 (is.1 ∙ fit.1) (omega (arith, is.0, fit.2, fit.3, ltb-false s n q))

pub kind_partial : (g : Rules) (t : Derivation) (k : EdgeKind) → IsOfKind g k t → KindFits g k → kind_passive k ≡ false → IsPartial g t
kind_partial g t (Entry f v) is fit p = cc
kind_partial g t (Rule r v i s n) is fit p = go (ltb s n) refl p
  where
    go : (b : Bool) → ltb s n ≡ b → not b ≡ false → IsPartial g t
    go true q e = (fit.0, is.1 ∙ fit.1, omega (arith, is.0, fit.2, ltb-true s n q))
    go false q e = cc

-- one more daughter fits where one was missing
pub next_fits : (g : Rules) (k l : EdgeKind) → IsNext k l → kind_passive k ≡ false → KindFits g k → KindFits g l
next_fits g (Entry f v) l h p fit = absurd h
next_fits g (Rule r v i s n) (Entry f w) h p fit = absurd h
next_fits g (Rule r v i s n) (Rule r' v' i' s' n') h p fit = go (ltb s n) refl p
  where
    go : (b : Bool) → ltb s n ≡ b → not b ≡ false → KindFits g (Rule r' v' i' s' n')
    go true q e = (fit.0, ap (λ x. rule_variant g x v') h.0 ∙ (ap (λ x. rule_variant g r x) h.1 ∙ fit.1), ap suc h.4 ∙ fit.2, omega (arith, h.3, h.4, ltb-true s n q))
    go false q e = cc

module _ (words : ℕ) (es : List Edge) (all : AreEdges words es) where
  kind_below : (g : Rules) (n k : ℕ) (e : Edge) → k < n → slice_get es k ≡ Some e → IsOfKind g e.kind (tree es k)
  kind_below g zero k e h at = absurd (omega (arith, h))
  kind_below g (suc n) k e h at = go (kind_below g n) e.back refl
    where
      go : ((k : ℕ) (e : Edge) → k < n → slice_get es k ≡ Some e → IsOfKind g e.kind (tree es k)) → (o : Option Back) → e.back ≡ o → IsOfKind g e.kind (tree es k)
      go below None q =
          subst (λ t. IsOfKind g e.kind t) (sym (tree_alone es k e at q)) (alone_kind g e.kind e (subst (λ o. HasOrigin (take k es) e o) q (all k e at).origin))
      go below (Some b) q =
          let l = tree_longer words es all k e b at q in
          subst (λ t. IsOfKind g e.kind t) (sym l.tree) (next_kind g (tree es b.active) (tree es b.passive) l.active.kind e.kind l.made.kind (below b.active l.active (omega (arith, h, l.active_before)) l.active_there))

  comes_from : (k : ℕ) (e : Edge) → slice_get es k ≡ Some e → (o : Option Back) → e.back ≡ o → ComesFrom es k e (tree es k) o
  comes_from k e at None q = tree_alone es k e at q
  comes_from k e at (Some b) q = let l = tree_longer words es all k e b at q in (l.active_before, l.passive_before, l.tree)

  pub is_tree : (k : ℕ) (e : Edge) → slice_get es k ≡ Some e → IsTreeOf es k e
  is_tree k e at =
      let of = tree_of words es all k e at in
      record { origin = comes_from k e at e.back refl; start = of.start; end = of.end; root = of.root; kind = λ g. kind_below g (suc k) k e (omega arith) at }

  fits_below : (g : Rules) → KindsFit g es → (n k : ℕ) (e : Edge) → k < n → slice_get es k ≡ Some e → KindFits g e.kind
  fits_below g fit zero k e h at = absurd (omega (arith, h))
  fits_below g fit (suc n) k e h at = go (fits_below g fit n) e.back refl
    where
      go : ((k : ℕ) (e : Edge) → k < n → slice_get es k ≡ Some e → KindFits g e.kind) → (o : Option Back) → e.back ≡ o → KindFits g e.kind
      go below None q = fit k e at q
      go below (Some b) q =
          let l = tree_longer words es all k e b at q in
          next_fits g l.active.kind e.kind l.made.kind l.made.adjacent.active (below b.active l.active (omega (arith, h, l.active_before)) l.active_there)

  pub is_judged : (g : Rules) → KindsFit g es → (k : ℕ) (e : Edge) → slice_get es k ≡ Some e → IsJudged g (tree es k) e
  is_judged g fit k e at = record { fits = fits; passive = passive; active = active; complete = λ c. complete (is_passive e) refl c; partial = λ c. partial (is_passive e) refl c }
    where
      fits : KindFits g e.kind
      fits = fits_below g fit (suc k) k e (omega arith) at

      passive : is_passive e ≡ true → IsComplete g (tree es k)
      passive = kind_complete g (tree es k) e.kind (kind_below g (suc k) k e (omega arith) at) fits

      active : is_passive e ≡ false → IsPartial g (tree es k)
      active = kind_partial g (tree es k) e.kind (kind_below g (suc k) k e (omega arith) at) fits

      complete : (b : Bool) → is_passive e ≡ b → IsComplete g (tree es k) → b ≡ true
      complete true q c = refl
      complete false q c = absurd (partial_or_complete g (tree es k) (active q) c)

      partial : (b : Bool) → is_passive e ≡ b → IsPartial g (tree es k) → b ≡ false
      partial true q c = absurd (partial_or_complete g (tree es k) c (passive q))
      partial false q c = refl

  pub pairs_are : (g : Rules) → KindsFit g es → (k l : ℕ) (a p : Edge) → slice_get es k ≡ Some a → slice_get es l ≡ Some p
      → (AreAdjacent a p → IsAdjacent g (tree es k) (tree es l)) × (IsAdjacent g (tree es k) (tree es l) → AreAdjacent a p)
  pairs_are g fit k l a p at_k at_l =
      let first = is_judged g fit k a at_k in
      let second = is_judged g fit l p at_l in
      let end = (tree_of words es all k a at_k).end in
      let start = (tree_of words es all l p at_l).start in (
        (λ h. (first.active h.active, second.passive h.passive, end ∙ (h.meet ∙ sym start))),
        (λ h. record { active = first.partial h.0; passive = second.complete h.1; meet = sym end ∙ (h.2 ∙ start) }),
      )
