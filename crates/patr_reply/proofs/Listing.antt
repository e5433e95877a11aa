-- The reply to a sentence, by its parts.
use Rattle.std.proofs.Common.{◌≡◌, ℕ, suc, ◌+◌, ◌<◌, Bool, true, false, List, [], ◌∷◌, ◌++◌, length, map, take, get_or, slice_get, codes, decimal, refl, sym, ap, ◌∙◌, subst, arith, append_assoc, append-nil, ltb-true}
use Rattle.patr_reply.proofs.Names.{AgreesWith, AllByRecursion, AreHeldBy, AreSound, CountsEdges, Edge, Extends, Found, Grounds, IsAnalysis, IsChart, IsLeastText, IsReady, IsSound, ListsAll, ListsAnalyses, Look, Numbering, Rules, Shown, Stored, analysis_lines, analysis_text, canonical, cat_of, count_line, derivations, edge_value, from_length, get_there, grounds, keys, length-map, length-take-le, line, listing, look_by, numbered, rules_of, solved, state_of, table_look, table_text, take_more, text_or, total, tree, tree_line, value_at, value_line, value_of, zeros}
use Rattle.patr_text.specs.Texts.{first_texts}
use Rattle.patr_reply.proofs.Holding.{below}
use Rattle.patr_reply.proofs.LeastTexts.{named_text}
use Rattle.patr_reply.proofs.Sounding.{table_long, named_below, all_ready}
use Rattle.patr_reply.proofs.TreeText.{text_of}

-- ---- the lines, one analysis after another

module _ {X : Type 0} (f : ℕ → X → List ℕ) where
  -- one more text
  numbered_append : (n : ℕ) (ks : List X) (k : X) → numbered f n (ks ++ k ∷ []) ≡ numbered f n ks ++ f (length ks + n) k
  numbered_append n [] k = append-nil (f n k) ∙ ap (λ i. f i k) (let e : n ≡ 0 + n = omega arith in e)
  numbered_append n (j ∷ ks) k =
      ap (λ t. f n j ++ t) (numbered_append (suc n) ks k) ∙ (sym (append_assoc (f n j) (numbered f (suc n) ks) (f (length ks + suc n) k))
      ∙ ap (λ i. (f n j ++ numbered f (suc n) ks) ++ f i k) (let e : length ks + suc n ≡ suc (length ks) + n = omega arith in e))

  pub numbered_more : (ks : List X) (d : X) (i : ℕ) → i < length ks → numbered f 1 (take (i + 1) ks) ≡ numbered f 1 (take i ks) ++ f (i + 1) (get_or ks i d)
  numbered_more ks d i h =
      ap (numbered f 1) (take_more ks i d h)
      ∙ (numbered_append 1 (take i ks) (get_or ks i d) ∙ ap (λ j. numbered f 1 (take i ks) ++ f (j + 1) (get_or ks i d)) (length-take-le i ks (omega (arith, h))))

module _ (l m : Look) (g : Rules) (v : Shown) (es : List Edge) (features : Bool) where
  abbrev lines : ℕ → List ℕ → List ℕ
  lines = analysis_lines l m g v es features

  pub step_listed : (ks : List ℕ) (i : ℕ) → i < length ks → (head old middle new : List ℕ) → old ≡ head ++ lines 1 (take i ks)
      → middle ≡ old ++ tree_line l g es (i + 1) (get_or ks i 0) → new ≡ middle ++ value_line m v es features (get_or ks i 0) → new ≡ head ++ lines 1 (take (i + 1) ks)
  step_listed ks i h head old middle new is tree more =
      rw (numbered_more (analysis_text l m g v es features) ks 0 i h) (simp (more, tree, is, append_assoc))

-- ---- by the table and by a numbering

pub texts_by : (names : Numbering) (table : List (List ℕ)) → AgreesWith names table → (c : ℕ) → below (length table) c ≡ true → table_text table c ≡ names.text c
texts_by names table agrees c h =
    let one = get_there table c (ltb-true c (length table) h) in
    ap (λ o. text_or o (zeros (suc (total table + c)))) one.1 ∙ sym (text_of names table agrees c one.0 one.1)

pub cat_is : (names : Numbering) (table : List (List ℕ)) → Extends first_texts table → AgreesWith names table → names.number (codes "cat") ≡ 33
unfolding first_texts
cat_is names table longer agrees = agrees 33 (codes "cat") (ap (λ t. slice_get t 33) longer.1)

module _ (s : Stored) (table : List (List ℕ)) (names : Numbering) (first : Extends first_texts table) (agrees : AgreesWith names table) (held : AreHeldBy (length table) s) (v : Shown) (es : List Edge) where
  abbrev g : Rules
  g = rules_of s

  abbrev ground : Grounds
  ground = grounds names s

  module _ (sound : AreSound g s v es) (ws : List ℕ) (cat : ℕ) where
    least_line : (k : ℕ) → IsReady (length table) v es k → IsAnalysis (solved g cat) g ws (tree es k) → IsLeastText ground (tree es k) (canonical (table_look table []) v.structure (value_at v es k))
    least_line k ready analysis =
        let e = ready.edge in
        let one = sound k e ready.there in (
          v.structure,
          value_of v e.root,
          one.value,
          ap (λ o. canonical (table_look table []) v.structure (edge_value v o)) ready.there
              ∙ named_text (below (length table)) v.structure (value_of v e.root) one.value.structure one.value.held
              (named_below (length table) (table_long table first) s held v es sound k e ready.there analysis.complete) (table_look table []) (look_by names) refl (texts_by names table agrees),
        )

    lists : (features : Bool) (n : ℕ) (ks : List ℕ) → AllByRecursion (IsReady (length table) v es) ks → AllByRecursion (IsAnalysis (solved g cat) g ws) (map (tree es) ks)
        → ListsAnalyses solved ground features n (map (tree es) ks) (analysis_lines (look_by names) (table_look table []) g v es features n ks)
    lists true n [] ready each = refl
    lists false n [] ready each = refl
    lists true n (k ∷ ks) ready each = (
      canonical (table_look table []) v.structure (value_at v es k),
      analysis_lines (look_by names) (table_look table []) g v es true (suc n) ks,
      least_line k ready.0 each.0,
      lists true (suc n) ks ready.1 each.1,
      refl,
    )
    lists false n (k ∷ ks) ready each =
        let rest = analysis_lines (look_by names) (table_look table []) g v es false (suc n) ks in
        (rest, lists false (suc n) ks ready.1 each.1, ap (λ t. t ++ rest) (append-nil (tree_line (look_by names) g es n k)))

  counts : (ws : List ℕ) (count : Bool) → IsChart (solved g (cat_of ground)) g ws (derivations es) → CountsEdges solved ground ws count (count_line count (length es))
  counts ws false chart = refl
  counts ws true chart = (derivations es, chart, ap (λ n. line (codes "edges " ++ decimal n)) (let e = from_length [] es in let f : length es ≡ length (derivations es) = omega (arith, e) in f))

-- the whole reply
module _ (s : Stored) (table : List (List ℕ)) (first : Extends first_texts table) (held : AreHeldBy (length table) s) (p : Found) (names : Numbering) (agrees : AgreesWith names table) where
  pub lists_all : (ws : List ℕ) (limit : ℕ) → IsSound (rules_of s) keys.cat s ws limit p → (features count : Bool) (head text : List ℕ)
      → head ≡ listing names table s p.shown p.chart.edges features (length p.analyses) p.analyses
      → text ≡ head ++ count_line count (length p.chart.edges) → ListsAll solved (grounds names s) (state_of limit features count) ws text
  lists_all ws limit found features count head text is more =
      let es = p.chart.edges in
      let cat = names.number (codes "cat") in
      let sound = subst (λ c. IsSound (rules_of s) c s ws limit p) (sym (cat_is names table first agrees)) found in
      let ready = all_ready (length table) (table_long table first) s held p.shown es sound.edges ws cat p.analyses sound.within sound.each in (
        map (tree es) p.analyses,
        analysis_lines (look_by names) (table_look table []) (rules_of s) p.shown es features 1 p.analyses,
        count_line count (length es),
        record { rises = sound.rises; each = sound.each; every = sound.every },
        lists s table names first agrees held p.shown es sound.edges ws cat features 1 p.analyses ready sound.each,
        counts s table names first agrees held p.shown es ws count sound.chart,
        more ∙ (ap (λ t. t ++ count_line count (length es)) is
            ∙ ap (λ n. listing names table s p.shown es features n p.analyses ++ count_line count (length es)) (sym (length-map p.analyses (tree es)))),
      )
