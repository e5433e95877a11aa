-- The drafts of a round: they are gathered, and then they stand in the chart.
use Rattle.std.proofs.Common.{◌≡◌, inl, inr, ℕ, zero, suc, ◌+◌, ◌*◌, ◌<◌, ◌≤◌, List, [], ◌∷◌, ◌++◌, length, take, Option, None, Some, slice_index_or, true, append_assoc, refl, sym, ap, ◌∙◌, arith, subst}
use Rattle.std.specs.Option.{option_map}
use Rattle.std.proofs.lemmas.List.{length-map, map-append}
use Rattle.std.proofs.Math.Seq.{take-length}
use Rattle.patr_lists.proofs.Alls.{all_append}
use Rattle.patr_lists.proofs.Places.{get_left}
use Rattle.patr_parse.proofs.Names.{extends_on, extends_same, Rules, size, Judgement, HasMoreThan, Each, HasPairs, IsWorked, IsSolvable, some_inj, arc, Feature, Ref, Extends, with_block, sentence_of, Shown, IsShown, ValueIsHeld, value_of, still_held, made_of, kind_passive, Back, Edge, HasOrigin, IsEdgeAfter, derivations, derived, derived_by, Stored, rules_of, Draft, ArePlaced, IsDraft, with_root, AreSound, IsSoundEdge, HasMother, IsRootBy, IsRoundAt, Stands, AreSmall, AreWaiting, IsReady, judge, made_by}
use Rattle.patr_arena.specs.declared.value.Ref.TheVariants as ref
use Rattle.patr_arena.specs.Blocks.{AllOldHeld, OldIsHeld, OldRefIsHeld}
use Rattle.patr_unify.specs.Copying.{Fits}
use Rattle.patr_chart.specs.Charted.{Charted}
use Rattle.patr_parse.specs.declared.rounds.Closing.{Closing}
use Rattle.patr_parse.specs.Drafts.{AreDrafts, IsPlaced, StandsFor, TaskGave, edges_of}
use Rattle.patr_parse.specs.Rounds.{IsCompleted}
use Rattle.patr_parse.specs.Standing.{IsRound, MayBePushed}
use Rattle.patr_parse.specs.Tasks.{HasLarge}
use Rattle.patr_parse.proofs.Growing.{ready_still, sound_pushed, sound_still}
use Rattle.patr_parse.proofs.Pushing.{sound_draft}
use Rattle.patr_parse.proofs.Members.{among}
use Rattle.patr_parse.proofs.Paired.{partners_few}
use Rattle.patr_parse.proofs.Placed.{block_behind, block_moved, home, place, ref_moved}
use Rattle.patr_parse.proofs.Renumbered.{arc_moved, moved}
use Rattle.patr_parse.proofs.Standing.{derivations_made, passes_large, passes_made, round_done, stands_pushed, stands_task}
use Rattle.patr_parse.proofs.Tasks.{trees_length}

-- an edge with more edges before it
after_more : (words : ℕ) (es ys : List Edge) (e : Edge) → IsEdgeAfter words es e → IsEdgeAfter words (es ++ ys) e
after_more words es ys e h = record { order = h.order; within = h.within; origin = go e.back h.origin }
  where
    go : (o : Option Back) → HasOrigin es e o → HasOrigin (es ++ ys) e o
    go None c = c
    go (Some b) c = (c.0, c.1, get_left es ys b.active c.0 c.2, get_left es ys b.passive c.1 c.3, c.4)

-- the same draft, with more nodes behind
pub stands_on : (v w u : Shown) (d : Draft) (e : Edge) → Extends w u → StandsFor v w d e → StandsFor v u d e
stands_on v w u d e more h = record {
  before = h.before;
  longer = h.longer;
  shown = h.shown;
  placed = h.placed;
  behind = extends_on (with_block h.before d.block) w u h.behind more;
  is = h.is;
  held = h.held;
  stands = h.stands;
}

-- one more draft was put behind the others
pub each_on : (v w u : Shown) (ds : List Draft) (ys : List Edge) (d : Draft) (e : Edge) → Extends w u → Each (StandsFor v w) ds ys → StandsFor v u d e → Each (StandsFor v u) (ds ++ d ∷ []) (ys ++ e ∷ [])
each_on v w u [] [] d e more h k = (k, tt)
each_on v w u [] (y ∷ ys) d e more h k = absurd h
each_on v w u (x ∷ ds) [] d e more h k = absurd h
each_on v w u (x ∷ ds) (y ∷ ys) d e more h k = (stands_on v w u x y more h.0, each_on v w u ds ys d e more h.1 k)

small_drafts : (v : Shown) (words : ℕ) (es : List Edge) (limit : ℕ) (ds : List Draft) → AreDrafts v words es limit ds → AreSmall limit (made_by es (edges_of ds))
small_drafts v words es limit [] h t i = absurd i
small_drafts v words es limit (d ∷ ds) h t (inl e) = subst (λ u. size u ≤ limit) e h.0.small
small_drafts v words es limit (d ∷ ds) h t (inr i) = small_drafts v words es limit ds h.1 t i

-- the edges of drafts whose nodes stand in w
pub record Stood (g : Rules) (s : Stored) (w : Shown) (words : ℕ) (es : List Edge) (limit : ℕ) (ds : List Draft) (ys : List Edge) : Type 0 where
  pub same : made_by es ys ≡ made_by es (edges_of ds)
  pub long : length ys ≡ length ds
  pub ground : MayBePushed words es ys
  pub waiting : AreWaiting g s w es ys
  pub small : AreSmall limit (made_by es ys)

module _ (g : Rules) (s : Stored) (v w : Shown) (limit words : ℕ) (es : List Edge) (sv : IsShown v) (sw : IsShown w) (ready : IsReady g s v limit es) where
  module _ (d : Draft) (h : IsDraft v words es limit d) (e : Edge) (f : StandsFor v w d e) where
    same_tree : derived (derivations es) e ≡ derived (derivations es) d.edge
    same_tree =
        ap (derived (derivations es)) f.is ∙ (ap (λ o. derived_by (derivations es) (with_root d.edge e.root) o) h.back_is ∙ sym (ap (λ o. derived_by (derivations es) d.edge o) h.back_is))

    after : IsEdgeAfter words es e
    after = subst (λ x. IsEdgeAfter words es x) (sym f.is) (record {
      order = h.after.order;
      within = h.after.within;
      origin = (let both = h.made_of_both in
          subst (λ o. HasOrigin es (with_root d.edge e.root) o) (sym h.back_is)
          (h.active, h.passive, h.there_active, h.there_passive, record { adjacent = both.adjacent; start = both.start; end = both.end; kind = both.kind }));
    })

    sound : IsSoundEdge g s w es (derived (derivations es) e) e
    sound =
        let u = with_block f.before d.block in
        let here = sound_draft g s v limit words es sv ready d h f.before f.shown f.longer f.placed e.root f.held f.stands in
        let more = extends_on v f.before u f.longer (block_behind f.before d.block) in
        let still = ready_still v u sv f.placed more g s limit es ready in
        sound_still u w f.placed sw f.behind g s still.items es (λ k x at. (still.sound k x at).held) (derived (derivations es) e) e
        (subst (λ x. IsSoundEdge g s u es (derived (derivations es) e) x) (sym f.is) (subst (λ t. IsSoundEdge g s u es t (with_root d.edge e.root)) (sym same_tree) here))

  pub stood : (ds : List Draft) (ys : List Edge) → AreDrafts v words es limit ds → Each (StandsFor v w) ds ys → Stood g s w words es limit ds ys
  stood [] [] h k = record { same = refl; long = refl; ground = λ n e q. cc; waiting = λ n e q. cc; small = λ t i. absurd i }
  stood [] (y ∷ ys) h k = absurd k
  stood (d ∷ ds) [] h k = absurd k
  stood (d ∷ ds) (y ∷ ys) h k =
      let r = stood ds ys h.1 k.1 in
      let same : made_by es (y ∷ ys) ≡ made_by es (edges_of (d ∷ ds)) = ap (λ t. t ∷ made_by es ys) (same_tree d h.0 y k.0) ∙ ap (λ l. derived (derivations es) d.edge ∷ l) r.same in
      record {
        same = same;
        long = ap (λ n. suc n) r.long;
        ground = grounds r.ground;
        waiting = waits r.waiting;
        small = subst (AreSmall limit) (sym same) (small_drafts v words es limit (d ∷ ds) h);
      }
    where
      grounds : MayBePushed words es ys → MayBePushed words es (y ∷ ys)
      grounds rest zero e q = subst (λ x. IsEdgeAfter words es x × (b : Back) × (x.back ≡ Some b)) (some_inj y e q) (after d h.0 y k.0, h.0.back, ap (λ (x : Edge). x.back) k.0.is ∙ h.0.back_is)
      grounds rest (suc n) e q = rest n e q

      waits : AreWaiting g s w es ys → AreWaiting g s w es (y ∷ ys)
      waits rest zero e q = subst (λ x. IsSoundEdge g s w es (derived (derivations es) x) x) (some_inj y e q) (sound d h.0 y k.0)
      waits rest (suc n) e q = rest n e q

-- ---- a round

edges_append : (ds zs new : List Draft) → new ≡ ds ++ zs → edges_of new ≡ edges_of ds ++ edges_of zs
edges_append ds zs new is = ap edges_of is ∙ map-append (λ (d : Draft). d.edge) ds zs

module _ (s : Stored) (v : Shown) (c : Charted) (limit worked start : ℕ) where
  abbrev j : Judgement
  j = judge s

  abbrev r : Rules
  r = rules_of s

  abbrev es : List Edge
  es = c.edges

  -- no task was worked
  pub round_begins : worked ≤ length es → length es ≤ limit → start ≤ worked * 200000 → (k : ℕ) → k ≡ worked → IsRoundAt s v c limit worked start k start []
  round_begins within few count k is = subst (λ n. IsRoundAt s v c limit worked start n start []) (sym is) (record { stands = λ ws h. h; drafts = tt; few = omega (arith, few); pairs = λ h. h; count = count })

  module _ (k decided : ℕ) (ds : List Draft) (at : IsRoundAt s v c limit worked start k decided ds) where
    -- one edge has too many nodes
    pub round_large : (ws : List ℕ) → Stands j r ws es worked [] → HasLarge (IsSolvable r) r limit (derivations es) → HasMoreThan j r ws limit
    round_large ws h large = passes_large j r ws es k (edges_of ds) limit (at.stands ws h) large

    module _ (here : k < length es) (zs new : List Draft) (decided' : ℕ) (gave : TaskGave r v c.words es limit k zs decided decided') (is : new ≡ ds ++ zs) where
      next : (ws : List ℕ) → Stands j r ws es worked [] → Stands j r ws es (k + 1) (edges_of new)
      next ws h = subst (λ l. Stands j r ws es (k + 1) l) (sym (edges_append ds zs new is)) (stands_task j r ws es k (edges_of ds) (edges_of zs) (at.stands ws h) here gave.yields)

      -- there are too many drafts
      pub round_full : limit < length es + length new → (ws : List ℕ) → Stands j r ws es worked [] → HasMoreThan j r ws limit
      round_full many ws h = passes_made j r ws es (k + 1) (edges_of new) limit (next ws h) (omega (arith, many, length-map new (λ (d : Draft). d.edge)))

      -- one more task was worked
      pub round_more : length es + length new ≤ limit → limit ≤ 200000 → IsRoundAt s v c limit worked start (k + 1) decided' new
      round_more few small = record {
        stands = next;
        drafts = subst (AreDrafts v c.words es limit) (sym is) (all_append (IsDraft v c.words es limit) ds zs at.drafts gave.drafts);
        few = few;
        pairs = λ h. subst (HasPairs r (take (k + 1) (derivations es))) (sym gave.counted) (gave.pairs decided (at.pairs h));
        count = (let was = at.count in let counted = gave.counted in omega (arith, was, counted, partners_few es k, few, small));
      }

-- the drafts stand in the chart
pub completed : (s : Stored) (limit worked : ℕ) (old new : Closing) (ds : List Draft) → IsShown (sentence_of old.arena) → IsShown (sentence_of new.arena) → IsReady (rules_of s) s (sentence_of old.arena) limit old.chart.edges
    → IsRoundAt s (sentence_of old.arena) old.chart limit worked old.local.decided (length old.chart.edges) new.local.decided ds
    → ArePlaced (sentence_of old.arena) (sentence_of new.arena) ds old.chart.edges new.chart.edges → new.chart.words ≡ old.chart.words → IsCompleted s limit worked old new
completed s limit worked old new ds sv sw ready round placed words =
    let r = rules_of s in
    let v = sentence_of old.arena in
    let w = sentence_of new.arena in
    let es = old.chart.edges in
    let D = derivations es in
    let ys = placed.0 in
    let t = stood r s v w limit old.chart.words es sv sw ready ds ys round.drafts placed.2 in
    let back : es ++ ys ≡ new.chart.edges = sym placed.1 in
    let few = round.few in
    let all : take (length es) D ≡ D = ap (λ n. take n D) (sym (trees_length es)) ∙ take-length D in
    record {
      stands = λ ws h. (let st = round.stands ws h in subst (λ l. Stands (judge s) r ws l (length es) []) back
          (stands_pushed (judge s) r ws old.chart.words es ys (record { worked = subst (λ l. IsWorked (judge s) r ws (take (length es) D) (D ++ l)) (sym t.same) st.worked; within = st.within; fit = st.fit }) t.ground));
      round = subst (IsRound limit es) back (round_done limit old.chart.words es ys ready.small t.ground t.small (let long = t.long in omega (arith, few, long)));
      sound = subst (AreSound r s w) back (sound_pushed r s w es ys (derivations_made old.chart.words es ys (λ n e h. (t.ground n e h).0)) (ready_still v w sv sw placed.3 r s limit es ready).sound t.waiting);
      longer = placed.3;
      words = words;
      pairs = λ h. subst (λ l. HasPairs r l new.local.decided) all (round.pairs h);
      count = round.count;
    }

-- one more draft is put behind the others
old_ref_still : (v w : Shown) → Extends v w → (r : Ref) → OldRefIsHeld v r → OldRefIsHeld w r
old_ref_still v w e (ref.Atom c) h = tt
old_ref_still v w e (ref.Old at) h = still_held v w e at.block at.offset h
old_ref_still v w e (ref.New k) h = tt

all_old_still : (v w : Shown) → Extends v w → (fs : List Feature) → AllOldHeld v fs → AllOldHeld w fs
all_old_still v w e [] h = tt
all_old_still v w e (f ∷ fs) h = (old_ref_still v w e f.to h.0, all_old_still v w e fs h.1)

-- what the next draft needs of the nodes and the edges that were put behind those by which it was made
pub record IsNextDraft (w : Shown) (words : ℕ) (es : List Edge) (d : Draft) : Type 0 where
  pub old : OldIsHeld w d.block
  pub fits : Fits w (length d.block) d.root
  pub mother : kind_passive d.edge.kind ≡ true → HasMother (with_block w d.block).structure (made_of w d.root)
  pub after : (ys : List Edge) → IsEdgeAfter words (es ++ ys) d.edge

pub next_draft : (v w : Shown) → IsShown v → IsShown w → Extends v w → (words limit : ℕ) (es : List Edge) (all : List Draft) → AreDrafts v words es limit all → (xs ys : List Draft) (d : Draft) → xs ++ d ∷ ys ≡ all → IsNextDraft w words es d
next_draft v w sv sw e words limit es all drafts xs ys d whole =
    let h = among (IsDraft v words es limit) xs ys d all whole drafts in
    let f = place v w sv sw e d.block h.made.old in
    record {
      old = λ n. all_old_still v w e (slice_index_or d.block n []) (h.made.old n);
      fits = (h.made.fits.0, old_ref_still v w e d.root h.made.fits.1);
      mother = λ q.
          let m = h.mother q in (
            moved f m.0,
            ap (λ x. arc (with_block w d.block).structure x 0) (ref_moved v w sv sw e d.block h.made.old d.root h.made.fits.1)
                ∙ (arc_moved (length v.structure) (with_block v d.block).structure (with_block w d.block).structure f (home v w sv sw e d.block h.made.old) (block_moved v w sv sw e d.block h.made.old) (made_of v d.root) h.made.unifier.takes.held 0 ∙ ap (option_map (moved f)) m.1),
          );
      after = λ ys. after_more words es ys d.edge h.after;
    }

pub placed_more : (v w u : Shown) → IsShown w → IsShown u → (ds : List Draft) (old mid new : List Edge) (d : Draft) → ArePlaced v w ds old mid → IsPlaced w u d mid new → ArePlaced v u (ds ++ d ∷ []) old new
placed_more v w u sw su ds old mid new d placed p =
    let more : Extends w u = subst (Extends w) (sym p.nodes) (block_behind w d.block) in
    let y = with_root d.edge p.root in (
      placed.0 ++ y ∷ [],
      p.edges ∙ (ap (λ l. l ++ y ∷ []) placed.1 ∙ append_assoc old placed.0 (y ∷ [])),
      each_on v w u ds placed.0 d y more placed.2 (record {
        before = w;
        longer = placed.3;
        shown = sw;
        placed = subst IsShown p.nodes su;
        behind = subst (λ x. Extends x u) p.nodes (extends_same u);
        is = refl;
        held = subst (λ x. ValueIsHeld x p.root) p.nodes p.held;
        stands = subst (λ x. IsRootBy (kind_passive d.edge.kind) x.structure (made_of w d.root) (value_of x p.root)) p.nodes p.stands;
      }),
      extends_on v w u placed.3 more,
    )
