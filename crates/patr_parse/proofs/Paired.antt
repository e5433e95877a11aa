-- The pairs that a task decides are those of its edge, each once: so the sum of the partners is the number of adjacent pairs.
use Rattle.std.proofs.Common.{◌≡◌, ℕ, ◌+◌, ◌<◌, ◌≤◌, Bool, true, false, cond, get_or, List, ◌++◌, length, take, map, Option, Some, None, slice_get, refl, sym, arith, subst, length-append}
use Rattle.std.proofs.lemmas.List.{length-map, length-take, take_more}
use Rattle.std.proofs.lemmas.Option.{slice_get_within}
use Rattle.patr_lists.proofs.Members.{one_place, in_at, front_in, in_map, map_in, once_map}
use Rattle.patr_lists.proofs.Tables.{places_length}
use Rattle.patr_lists.specs.Members.{NoRepeats, IsIn}
use Rattle.patr_parse.proofs.Names.{Rules, Begin, Extend, size, IsSolvable, ArePartners, HasPairs, Shown, Edge, is_passive, AreEdges, partners, derivations, KindsFit, Draft, AreMade, pair}
use Rattle.patr_model.specs.Rounds.{ArePairs, ArePairsOf}
use Rattle.patr_model.proofs.Rounds.{counted}
use Rattle.patr_chart.specs.Charted.{is_partner, partners_of, tree}
use Rattle.patr_parse.specs.Drafts.{IsDecided, TaskGave}
use Rattle.patr_parse.specs.Tasks.{HasLarge}
use Rattle.patr_parse.proofs.Pairs.{is_pair, pair_ordered}
use Rattle.patr_parse.proofs.Numbers.{Rising, in_taken, not_before, rising_once}
use Rattle.patr_parse.proofs.Tasks.{trees_length, made_more, pair_is_partners, pair_differs, is_partner_of, rising_partners, of_pair, has_pair, task_done}

-- an edge has no more partners than there are edges
pub partners_few : (es : List Edge) (k : ℕ) → length (partners es k) ≤ length es
partners_few es k = go (slice_get es k)
  where
    go : (o : Option Edge) → length (partners_of es k o) ≤ length es
    go None = omega arith
    go (Some e) = omega (arith, places_length (is_partner e) 0 (take k es), length-take k es)

module _ (g : Rules) (words : ℕ) (es : List Edge) (all : AreEdges words es) (fit : KindsFit g es) (once : NoRepeats (derivations es)) (k : ℕ) (e : Edge) (at : slice_get es k ≡ Some e) where
  pub task_pairs : (b : Bool) → is_passive e ≡ b → ArePairsOf g (take k (derivations es)) (tree es k) (map (pair b es k) (partners es k))
  task_pairs b q = record {
    once = once_map (pair b es k) (partners es k) (rising_once 0 (partners es k) (rising_partners es k e at)) (λ m n hm hn. pair_differs es once b k m n (below m hm) (below n hn));
    pairs = λ t h. let r = map_in (pair b es k) (partners es k) t h in of_pair g words es all fit k e at b q r.0 t r.1 (sym r.2);
    every = λ t h. let r = has_pair g words es all fit k e at b q t h in subst (λ u. IsIn (map (pair b es k) (partners es k)) u) r.2 (in_map (pair b es k) (partners es k) r.0 r.1);
  }
    where
      below : (j : ℕ) → IsIn (partners es k) j → j < length es
      below j h = let p = is_partner_of es k e at j h in slice_get_within es j p.0 p.2

  -- a task adds the number of its partners
  pub more_pairs : (n : ℕ) → HasPairs g (take k (derivations es)) n → HasPairs g (take (k + 1) (derivations es)) (n + length (partners es k))
  more_pairs n h =
      let D = derivations es in
      let b = is_passive e in
      let qs = map (pair b es k) (partners es k) in
      let here : k < length D = omega (arith, slice_get_within es k e at, trees_length es) in
      let fresh : IsIn (take k D) (tree es k) → ⊥ = λ i.
      let x = in_taken k D (Begin 0 0 0) (tree es k) i in
      let same = one_place D (Begin 0 0 0) once x.at k x.within here x.is in omega (arith, same, x.before) in
      let pairs = (counted g).works (take k D) (tree es k) h.0 qs h.1 fresh (task_pairs b refl) in (
        h.0 ++ qs,
        subst (λ l. ArePairs g l (h.0 ++ qs)) (sym (take_more D k (Begin 0 0 0) here)) pairs,
        omega (arith, length-append h.0 qs, length-map (partners es k) (pair b es k), h.2),
      )

  -- the pairs of edge k were decided
  pub task_gave : (v : Shown) (limit : ℕ) (b : Bool) → is_passive e ≡ b → (ds : List Draft) → AreMade g v words es limit b k (partners es k) ds → (old new : ℕ) → new ≡ old + length (partners es k) → TaskGave g v words es limit k ds old new
  task_gave v limit b q ds m old new is = record { yields = task_done g words es all fit k e at v limit b q ds m; drafts = m.drafts; pairs = more_pairs; counted = is }

  -- the next of its pairs is decided, which is that of the edges x and y
  module _ (b : Bool) (q : is_passive e ≡ b) (ns : List ℕ) (is : ns ≡ partners es k) (i : ℕ) (here : i < length ns) (x y : ℕ) (first : x ≡ cond b (get_or ns i 0) k) (second : y ≡ cond b k (get_or ns i 0)) where
    abbrev j : ℕ
    j = get_or ns i 0

    near : ArePartners es (cond b j k) (cond b k j)
    near = pair_is_partners es k e at b q j (subst (λ l. IsIn l j) is (in_at ns 0 i here))

    pub next_partners : ArePartners es x y
    next_partners = subst (λ n. ArePartners es n y) (sym first) (subst (λ n. ArePartners es (cond b j k) n) (sym second) near)

    same : Extend (tree es x) (tree es y) ≡ pair b es k j
    same = pair_ordered b es k j x y first second

    pub next_large : (v : Shown) (limit : ℕ) (old new : List Draft) → IsDecided g v words es limit (Extend (tree es x) (tree es y)) old new false → HasLarge (IsSolvable g) g limit (derivations es)
    next_large v limit old new d = (pair b es k j, is_pair g words es all fit b k j near, subst (IsSolvable g) same d.0, subst (λ t. limit < size t) same d.1)

    pub next_made : (v : Shown) (limit : ℕ) (old new : List Draft) → AreMade g v words es limit b k (take i ns) old → IsDecided g v words es limit (Extend (tree es x) (tree es y)) old new true
        → AreMade g v words es limit b k (take (i + 1) ns) new
    next_made v limit old new m d =
        let below : (n : ℕ) → IsIn ns n → n < length es = λ n h. (let p = is_partner_of es k e at n (subst (λ l. IsIn l n) is h) in slice_get_within es n p.0 p.2) in
        subst (λ l. AreMade g v words es limit b k l new) (sym (take_more ns i 0 here))
        (made_more g v words es limit b k once (take i ns) j old new (λ n h. below n (front_in ns i n h)) (below j (in_at ns 0 i here))
        (not_before 0 ns i 0 (subst (Rising 0) (sym is) (rising_partners es k e at)) here) m (subst (λ t. IsDecided g v words es limit t old new true) same d))
