-- The derivation of an edge, by those of the edges that it was made of.
use Rattle.std.proofs.Common.{◌≡◌, ℕ, zero, suc, ◌+◌, ◌<◌, ◌≤◌, List, [], ◌∷◌, ◌++◌, length, take, drop, get_or, Option, Some, None, slice_get, refl, sym, ap, ◌∙◌, arith, subst, length-append}
use Rattle.patr_chart.proofs.Names.{AreEdges, Back, Begin, Derivation, Edge, EdgeKind, Entry, Extend, HasOrigin, IsAlone, IsMadeOf, IsNext, Rule, alone, derivation_at, derivations, derivations_from, derived, derived_by, end, get_or-append_seam, get_or_append_left, kind_item, length-take-le, root_item, slice_get_within, some_inj, start, take-append-drop, tree}

pub get_taken : (es : List Edge) (n k : ℕ) (e : Edge) → slice_get (take n es) k ≡ Some e → (k < n) × (slice_get es k ≡ Some e)
get_taken es zero k e h = cc
get_taken [] (suc n) k e h = cc
get_taken (x ∷ es) (suc n) zero e h = (omega arith, h)
get_taken (x ∷ es) (suc n) (suc k) e h = let r = get_taken es n k e h in (omega (arith, r.0), r.1)

split_at : (es : List Edge) (k : ℕ) (e : Edge) → slice_get es k ≡ Some e → es ≡ take k es ++ e ∷ drop (suc k) es
split_at [] k e h = cc
split_at (x ∷ es) zero e h = ap (λ y. y ∷ es) (some_inj x e h)
split_at (x ∷ es) (suc k) e h = ap (λ l. x ∷ l) (split_at es k e h)

pub from_append : (ds : List Derivation) (xs ys : List Edge) → derivations_from ds (xs ++ ys) ≡ derivations_from (derivations_from ds xs) ys
from_append ds [] ys = refl
from_append ds (x ∷ xs) ys = from_append (ds ++ derived ds x ∷ []) xs ys

pub from_length : (ds : List Derivation) (es : List Edge) → length (derivations_from ds es) ≡ length ds + length es
from_length ds [] = omega arith
from_length ds (e ∷ es) = omega (arith, from_length (ds ++ derived ds e ∷ []) es, length-append ds (derived ds e ∷ []))

-- what was there stays
from_keeps : (ds : List Derivation) (es : List Edge) (j : ℕ) (d : Derivation) → j < length ds → get_or (derivations_from ds es) j d ≡ get_or ds j d
from_keeps ds [] j d h = refl
from_keeps ds (e ∷ es) j d h = from_keeps (ds ++ derived ds e ∷ []) es j d (omega (arith, h, length-append ds (derived ds e ∷ []))) ∙ get_or_append_left ds (derived ds e ∷ []) d j h

before_length : (es : List Edge) (k : ℕ) → k ≤ length es → length (derivations (take k es)) ≡ k
before_length es k h = omega (arith, from_length [] (take k es), length-take-le k es h)

pub tree_before : (es : List Edge) (k j : ℕ) → k ≤ length es → j < k → derivation_at (derivations (take k es)) j ≡ tree es j
tree_before es k j h b =
    sym (from_keeps (derivations (take k es)) (drop k es) j (Begin 0 0 0) (omega (arith, before_length es k h, b)))
    ∙ (ap (λ l. get_or l j (Begin 0 0 0)) (sym (from_append [] (take k es) (drop k es))) ∙ ap (λ l. get_or (derivations l) j (Begin 0 0 0)) (take-append-drop k es))

pub tree_is : (es : List Edge) (k : ℕ) (e : Edge) → slice_get es k ≡ Some e → tree es k ≡ derived (derivations (take k es)) e
tree_is es k e h =
    let D = derivations (take k es) in
    let below = slice_get_within es k e h in
    let long : length D ≡ k = before_length es k (omega (arith, below)) in
    let whole : derivations es ≡ derivations_from (D ++ derived D e ∷ []) (drop (suc k) es) = ap (λ l. derivations l) (split_at es k e h) ∙ from_append [] (take k es) (e ∷ drop (suc k) es) in
    ap (λ l. get_or l k (Begin 0 0 0)) whole
    ∙ (from_keeps (D ++ derived D e ∷ []) (drop (suc k) es) k (Begin 0 0 0) (omega (arith, long, length-append D (derived D e ∷ [])))
    ∙ (ap (λ n. get_or (D ++ derived D e ∷ []) n (Begin 0 0 0)) (sym long) ∙ get_or-append_seam D (derived D e) [] (Begin 0 0 0)))

pub tree_alone : (es : List Edge) (k : ℕ) (e : Edge) → slice_get es k ≡ Some e → e.back ≡ None → tree es k ≡ alone e.kind e
tree_alone es k e h b = tree_is es k e h ∙ ap (λ o. derived_by (derivations (take k es)) e o) b

-- an edge that was made of two
pub record IsLonger (es : List Edge) (k : ℕ) (e : Edge) (b : Back) : Type 0 where
  pub tree : tree es k ≡ Extend (tree es b.active) (tree es b.passive)
  pub active_before : b.active < k
  pub passive_before : b.passive < k
  pub active : Edge
  pub passive : Edge
  pub active_there : slice_get es b.active ≡ Some active
  pub passive_there : slice_get es b.passive ≡ Some passive
  pub made : IsMadeOf e active passive

pub tree_longer : (words : ℕ) (es : List Edge) → AreEdges words es → (k : ℕ) (e : Edge) (b : Back) → slice_get es k ≡ Some e → e.back ≡ Some b → IsLonger es k e b
tree_longer words es all k e b h q =
    let ground = subst (λ o. HasOrigin (take k es) e o) q (all k e h).origin in
    let a = get_taken es k b.active ground.0 ground.2 in
    let p = get_taken es k b.passive ground.1 ground.3 in
    let below = slice_get_within es k e h in
    record {
      tree = tree_is es k e h ∙ (ap (λ o. derived_by (derivations (take k es)) e o) q
          ∙ (ap (λ t. Extend t (derivation_at (derivations (take k es)) b.passive)) (tree_before es k b.active (omega (arith, below)) a.0)
          ∙ ap (λ t. Extend (tree es b.active) t) (tree_before es k b.passive (omega (arith, below)) p.0)));
      active_before = a.0;
      passive_before = p.0;
      active = ground.0;
      passive = ground.1;
      active_there = a.1;
      passive_there = p.1;
      made = ground.4;
    }

-- the span and the root of an edge are those of its derivation
pub record IsOf (t : Derivation) (e : Edge) : Type 0 where
  pub start : start t ≡ e.start
  pub end : end t ≡ e.end
  pub root : (to : ℕ) → root_item t to ≡ kind_item e.kind to

next_item : (k l : EdgeKind) (to : ℕ) → IsNext k l → kind_item k to ≡ kind_item l to
next_item (Entry e v) l to h = absurd h
next_item (Rule r v i s n) (Entry f w) to h = absurd h
next_item (Rule r v i s n) (Rule r' v' i' s' n') to h = ap (λ x. kind_item (Rule x v i s n) to) (sym h.0) ∙ ap (λ x. kind_item (Rule r' x i s n) to) (sym h.1)

alone_of : (k : EdgeKind) (e : Edge) → IsAlone k e → (start (alone k e) ≡ e.start) × (end (alone k e) ≡ e.end) × ((to : ℕ) → root_item (alone k e) to ≡ kind_item k to)
alone_of (Entry f v) e h = (refl, refl, λ to. refl)
alone_of (Rule r v i s n) e h = (refl, h.1, λ to. refl)

module _ (words : ℕ) (es : List Edge) (all : AreEdges words es) where
  of_below : (n k : ℕ) (e : Edge) → k < n → slice_get es k ≡ Some e → IsOf (tree es k) e
  of_below zero k e h at = absurd (omega (arith, h))
  of_below (suc n) k e h at = go (of_below n) e.back refl
    where
      go : ((k : ℕ) (e : Edge) → k < n → slice_get es k ≡ Some e → IsOf (tree es k) e) → (o : Option Back) → e.back ≡ o → IsOf (tree es k) e
      go below None q =
          let ground = subst (λ o. HasOrigin (take k es) e o) q (all k e at).origin in
          let f = alone_of e.kind e ground in
          let t = tree_alone es k e at q in
          record { start = ap start t ∙ f.0; end = ap end t ∙ f.1; root = λ to. ap (λ u. root_item u to) t ∙ f.2 to }
      go below (Some b) q =
          let l = tree_longer words es all k e b at q in
          let a = below b.active l.active (omega (arith, h, l.active_before)) l.active_there in
          let p = below b.passive l.passive (omega (arith, h, l.passive_before)) l.passive_there in
          record {
            start = ap start l.tree ∙ (a.start ∙ sym l.made.start);
            end = ap end l.tree ∙ (p.end ∙ sym l.made.end);
            root = λ to. ap (λ u. root_item u to) l.tree ∙ (a.root to ∙ next_item l.active.kind e.kind to l.made.kind);
          }

  pub tree_of : (k : ℕ) (e : Edge) → slice_get es k ≡ Some e → IsOf (tree es k) e
  tree_of k e at = of_below (suc k) k e (omega arith) at
