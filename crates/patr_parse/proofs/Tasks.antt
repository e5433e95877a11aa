-- The edges that a task makes.
use Rattle.std.proofs.Common.{◌≡◌, inl, inr, ℕ, ◌<◌, Bool, true, false, cond, List, [], ◌∷◌, ◌++◌, length, take, get_or, Some, slice_get, refl, sym, ap, ◌∙◌, arith, subst}
use Rattle.std.proofs.lemmas.List.{map-append}
use Rattle.std.proofs.lemmas.Option.{slice_get-get_or, slice_get_within}
use Rattle.patr_lists.proofs.Alls.{all_more}
use Rattle.patr_lists.proofs.Places.{get_there}
use Rattle.patr_lists.proofs.Members.{in_cases, in_left, in_right, in_one, once_append, one_place, in_front, in_last, contains_in, place_of}
use Rattle.patr_lists.specs.Members.{NoRepeats, IsIn}
use Rattle.patr_parse.proofs.Names.{Rules, Derivation, Begin, Extend, IsSolvable, Shown, Edge, is_passive, AreEdges, partners, derived, derivations, KindsFit, from_length, ArePartners, pair, made_by, Draft, AreMade, IsDraft}
use Rattle.patr_model.specs.Rounds.{IsAdjacent, IsPairOf, IsYield}
use Rattle.patr_chart.specs.Charted.{tree}
use Rattle.patr_chart.specs.Laws.{IsPartnerBefore}
use Rattle.patr_chart.proofs.Partners.{has_partners}
use Rattle.patr_chart.proofs.Shown.{pairs_are}
use Rattle.patr_parse.specs.Tasks.{by_edges}
use Rattle.patr_parse.specs.Drafts.{AreDrafts, IsDecided, edges_of}
use Rattle.patr_parse.proofs.Numbers.{Rising, rising_of, in_taken}

pub trees_length : (es : List Edge) → length (derivations es) ≡ length es
trees_length es = omega (arith, from_length [] es)

-- the pairs of two numbers differ
pub pair_differs : (es : List Edge) → NoRepeats (derivations es) → (b : Bool) (k i j : ℕ) → i < length es → j < length es → pair b es k i ≡ pair b es k j → i ≡ j
pair_differs es once true k i j h l e =
    let same : tree es i ≡ tree es j = cc in
    one_place (derivations es) (Begin 0 0 0) once i j (omega (arith, h, trees_length es)) (omega (arith, l, trees_length es)) same
pair_differs es once false k i j h l e =
    let same : tree es i ≡ tree es j = cc in
    one_place (derivations es) (Begin 0 0 0) once i j (omega (arith, h, trees_length es)) (omega (arith, l, trees_length es)) same

module _ (g : Rules) (v : Shown) (words : ℕ) (es : List Edge) (limit : ℕ) (b : Bool) (k : ℕ) where
  pub made_nothing : AreMade g v words es limit b k [] []
  made_nothing = record { once = tt; drafts = tt; pairs = λ t h. absurd h; every = λ j h. absurd h }

  -- one more pair was decided
  pub made_more : NoRepeats (derivations es) → (js : List ℕ) (j : ℕ) (old new : List Draft) → ((i : ℕ) → IsIn js i → i < length es) → j < length es → (IsIn js j → ⊥)
      → AreMade g v words es limit b k js old → IsDecided g v words es limit (pair b es k j) old new true → AreMade g v words es limit b k (js ++ j ∷ []) new
  made_more once js j old new below here fresh m (inl d) = subst (AreMade g v words es limit b k (js ++ j ∷ [])) (sym d.0) (record {
    once = m.once;
    drafts = m.drafts;
    pairs = λ t h. let p = m.pairs t h in (p.0, in_left js (j ∷ []) p.0 p.1, p.2, p.3);
    every = λ i h q. elim (in_cases js (j ∷ []) i h) [ inl l ↦ m.every i l q | inr e ↦ absurd (d.1 (subst (λ n. IsSolvable g (pair b es k n)) (sym (in_one j i e)) q)) ];
  })
  made_more once js j old new below here fresh m (inr d) =
      let x = derived (derivations es) d.0.edge in
      let ts = made_by es (edges_of old) in
      let more : made_by es (edges_of new) ≡ ts ++ x ∷ [] =
      ap (λ l. made_by es (edges_of l)) d.1 ∙ (ap (made_by es) (map-append (λ (y : Draft). y.edge) old (d.0 ∷ [])) ∙ map-append (derived (derivations es)) (edges_of old) (d.0.edge ∷ [])) in
      let is : x ≡ pair b es k j = d.2.0 in
      let apart : (t : Derivation) → IsIn ts t → IsIn (x ∷ []) t → ⊥ = λ t h l.
      let p = m.pairs t h in
      fresh (subst (λ n. IsIn js n) (pair_differs es once b k p.0 j (below p.0 p.1) here (sym p.2 ∙ (sym (in_one x t l) ∙ is))) p.1) in
      record {
        once = subst NoRepeats (sym more) (once_append ts (x ∷ []) m.once ((λ h. h), tt) apart);
        drafts = subst (AreDrafts v words es limit) (sym d.1) (all_more (IsDraft v words es limit) old d.0 m.drafts d.2.2);
        pairs = λ t h. elim (in_cases ts (x ∷ []) t (subst (λ l. IsIn l t) more h)) [
          | inl l ↦ (let p = m.pairs t l in (p.0, in_left js (j ∷ []) p.0 p.1, p.2, p.3))
          | inr l ↦ (j, in_last js j, sym (in_one x t l) ∙ is, subst (IsSolvable g) (sym is ∙ in_one x t l) d.2.1)
        ];
        every = λ i h q. subst (λ l. IsIn l (pair b es k i)) (sym more) (elim (in_cases js (j ∷ []) i h) [
          | inl l ↦ in_left ts (x ∷ []) (pair b es k i) (m.every i l q)
          | inr l ↦ in_right ts (x ∷ []) (pair b es k i) (inl (is ∙ ap (λ n. pair b es k n) (in_one j i l)))
        ]);
      }

-- the partners of edge k
module _ (es : List Edge) (k : ℕ) (e : Edge) (at : slice_get es k ≡ Some e) where
  pub is_partner_of : (j : ℕ) → IsIn (partners es k) j → IsPartnerBefore es k e j
  is_partner_of j h = (has_partners es k e at).adjacent j (place_of (partners es k) j j h)

  pub partner_has : (j : ℕ) → IsPartnerBefore es k e j → IsIn (partners es k) j
  partner_has j h = contains_in (partners es k) j ((has_partners es k e at).every j h)

  pub rising_partners : Rising 0 (partners es k)
  rising_partners = rising_of 0 (partners es k) (λ h. omega arith) (has_partners es k e at).rising

  -- the pair of edge k and a partner may be decided
  pub pair_is_partners : (b : Bool) → is_passive e ≡ b → (j : ℕ) → IsIn (partners es k) j → ArePartners es (cond b j k) (cond b k j)
  pair_is_partners b q j h = go b q (is_partner_of j h)
    where
      go : (b : Bool) → is_passive e ≡ b → IsPartnerBefore es k e j → ArePartners es (cond b j k) (cond b k j)
      go true q (f, before, there, inl n) = let active = n.active in cc
      go true q (f, before, there, inr n) = (f, e, there, at, n)
      go false q (f, before, there, inl n) = (e, f, at, there, n)
      go false q (f, before, there, inr n) = let passive = n.passive in cc

-- what an index gives is a member
pub item_at : {X : Type 0} (xs ys : List X) → xs ≡ ys → (k : ℕ) (d : X) → k < length ys → slice_get ys k ≡ Some (get_or xs k d)
item_at xs ys same k d h = slice_get-get_or ys k d h ∙ ap (λ l. Some (get_or l k d)) (sym same)

module _ (g : Rules) (words : ℕ) (es : List Edge) (all : AreEdges words es) (fit : KindsFit g es) (k : ℕ) (e : Edge) (at : slice_get es k ≡ Some e) where
  in_before : (j : ℕ) → j < k → IsIn (take k (derivations es)) (tree es j)
  in_before j h = in_front k (derivations es) (Begin 0 0 0) j h (omega (arith, h, slice_get_within es k e at, trees_length es))

  pair_false : (b : Bool) → b ≡ false → (j : ℕ) → pair b es k j ≡ Extend (tree es k) (tree es j)
  pair_false true h j = cc
  pair_false false h j = refl

  pair_true : (b : Bool) → b ≡ true → (j : ℕ) → pair b es k j ≡ Extend (tree es j) (tree es k)
  pair_true true h j = refl
  pair_true false h j = cc

  -- two edges that may be decided are adjacent
  pub adjacent : (a p : ℕ) → ArePartners es a p → IsAdjacent g (tree es a) (tree es p)
  adjacent a p h = (pairs_are words es all g fit a p h.0 h.1 h.2 h.3).0 h.4

  pub of_pair : (b : Bool) → is_passive e ≡ b → (j : ℕ) (t : Derivation) → IsIn (partners es k) j → t ≡ pair b es k j → IsPairOf g (take k (derivations es)) (tree es k) t
  of_pair true q j t h is = (tree es j, tree es k, is, inr (refl, in_before j (is_partner_of es k e at j h).1), adjacent j k (pair_is_partners es k e at true q j h))
  of_pair false q j t h is = (tree es k, tree es j, is, inl (refl, in_before j (is_partner_of es k e at j h).1), adjacent k j (pair_is_partners es k e at false q j h))

  earlier : (u : Derivation) → IsIn (take k (derivations es)) u → (j : ℕ) × (j < k) × (tree es j ≡ u) × (f : Edge) × (slice_get es j ≡ Some f)
  earlier u h =
      let i = in_taken k (derivations es) (Begin 0 0 0) u h in
      let f = get_there es i.at (let within = i.within in omega (arith, within, trees_length es)) in
      (i.at, i.before, i.is, f.0, f.1)

  -- edge k is active
  every_active : (b : Bool) → is_passive e ≡ b → (t a p : Derivation) → t ≡ Extend a p
      → a ≡ tree es k → IsIn (take k (derivations es)) p → IsAdjacent g a p → (j : ℕ) × IsIn (partners es k) j × (pair b es k j ≡ t)
  every_active b q t a p is ha hp n =
      let j = earlier p hp in
      let near : IsAdjacent g (tree es k) (tree es j.0) = subst (λ u. IsAdjacent g u (tree es j.0)) ha (subst (λ u. IsAdjacent g a u) (sym j.2) n) in
      let r = (pairs_are words es all g fit k j.0 e j.3 at j.4).1 near in
      let has = partner_has es k e at j.0 (j.3, j.1, j.4, inl r) in
      let same : pair b es k j.0 ≡ t = pair_false b (sym q ∙ r.active) j.0 ∙ (ap (λ u. Extend u (tree es j.0)) (sym ha) ∙ (ap (λ u. Extend a u) j.2 ∙ sym is)) in
      (j.0, has, same)

  -- edge k is passive
  every_passive : (b : Bool) → is_passive e ≡ b → (t a p : Derivation) → t ≡ Extend a p
      → p ≡ tree es k → IsIn (take k (derivations es)) a → IsAdjacent g a p → (j : ℕ) × IsIn (partners es k) j × (pair b es k j ≡ t)
  every_passive b q t a p is hp ha n =
      let j = earlier a ha in
      let near : IsAdjacent g (tree es j.0) (tree es k) = subst (λ u. IsAdjacent g (tree es j.0) u) hp (subst (λ u. IsAdjacent g u p) (sym j.2) n) in
      let r = (pairs_are words es all g fit j.0 k j.3 e j.4 at).1 near in
      let has = partner_has es k e at j.0 (j.3, j.1, j.4, inr r) in
      let same : pair b es k j.0 ≡ t = pair_true b (sym q ∙ r.passive) j.0 ∙ (ap (λ u. Extend u (tree es k)) j.2 ∙ (ap (λ u. Extend a u) (sym hp) ∙ sym is)) in
      (j.0, has, same)

  -- each pair of edge k is one with a partner
  pub has_pair : (b : Bool) → is_passive e ≡ b → (t : Derivation) → IsPairOf g (take k (derivations es)) (tree es k) t → (j : ℕ) × IsIn (partners es k) j × (pair b es k j ≡ t)
  has_pair b q t h = elim h.3 [ inl r ↦ every_active b q t h.0 h.1 h.2 r.0 r.1 h.4 | inr r ↦ every_passive b q t h.0 h.1 h.2 r.0 r.1 h.4 ]

  pub task_done : (v : Shown) (limit : ℕ) (b : Bool) → is_passive e ≡ b → (ds : List Draft) → AreMade g v words es limit b k (partners es k) ds
      → IsYield (by_edges (IsSolvable g)) g (take k (derivations es)) (tree es k) (made_by es (edges_of ds))
  task_done v limit b q ds m = record {
    once = m.once;
    pairs = λ t h. let p = m.pairs t h in (of_pair b q p.0 t p.1 p.2, p.3);
    every = λ t h w. let r = has_pair b q t h in subst (λ u. IsIn (made_by es (edges_of ds)) u) r.2 (m.every r.0 r.1 (subst (IsSolvable g) (sym r.2) w));
  }
