-- The analyses of a sentence in order, and the texts of its reply.
use Rattle.std.proofs.Common.{◌≡◌, ℕ, zero, suc, ◌<◌, ◌⊎◌, inl, inr, Bool, true, false, List, [], ◌∷◌, ◌++◌, map, length, Option, Some, None, slice_get, refl, sym, ap, ◌∙◌, arith, subst}
use Rattle.std.proofs.lemmas.Bool.{cases_eq, cases_lt}
use Rattle.std.specs.List.{AllByRecursion}
use Rattle.patr_lists.proofs.Alls.{all_in, all_each}
use Rattle.patr_lists.specs.Members.{IsIn}
use Rattle.patr_model.specs.Structure.{Value, Atom, Node, at}
use Rattle.patr_model.specs.Derivation.{Rules, EntryVariant, entry_variant, Derivation, KeyItem, key, start, end}
use Rattle.patr_model.specs.Chart.{InChart, IsChart, IsAnalysis}
use Rattle.patr_model.specs.Solved.{HasStart, solved}
use Rattle.patr_model.specs.Text.{canonical}
use Rattle.patr_model.specs.Session.{Grounds, State, cat_of, look_of, IsKnown, number_before, numbers, Rises, AreAnalyses, ListsAnalyses, CountsEdges, ListsAll, too_long, unknown, too_many, analyses}
use Rattle.patr_model.proofs.Maps.{some_inj, carries}
use Rattle.patr_model.proofs.Categories.{least_into}
use Rattle.patr_model.proofs.Keys.{keys_tell}
use Rattle.patr_model.proofs.Replies.{Before}
use Rattle.patr_model.proofs.Steps.{complete_or_not}
use Rattle.patr_totality.specs.Laws.{AreReady, HasLeast, SentencesHaveReplies}
use Rattle.patr_totality.proofs.Charts.{edge_derivation, edge_solvable, edge_least, decide_chart, drops_none, search_variants}

-- ---- the order of keys

compare_numbers : (xs ys : List ℕ) → number_before xs ys ⊎ ((xs ≡ ys) ⊎ number_before ys xs)
compare_numbers [] [] = inr (inl refl)
compare_numbers [] (y ∷ ys) = inl tt
compare_numbers (x ∷ xs) [] = inr (inr tt)
compare_numbers (x ∷ xs) (y ∷ ys) = elim (cases_lt x y) [
  | inl h ↦ inl (inl h)
  | inr h ↦ elim (cases_lt y x) [
    | inl k ↦ inr (inr (inl k))
    | inr k ↦
        let e : x ≡ y = omega (arith, h, k) in
        elim (compare_numbers xs ys) [
          | inl b ↦ inl (inr (e, b))
          | inr r ↦ elim r [
            | inl q ↦ inr (inl (ap (λ z. z ∷ xs) e ∙ ap (λ zs. y ∷ zs) q))
            | inr b ↦ inr (inr (inr (sym e, b)))
          ]
        ]
  ]
]

-- numbers tell a key
numbers_tell : (k l : List KeyItem) → numbers k ≡ numbers l → k ≡ l
numbers_tell [] [] q = refl
numbers_tell [] (y ∷ l) q = cc
numbers_tell (x ∷ k) [] q = cc
numbers_tell (x ∷ k) (y ∷ l) q =
    let a : x.kind ≡ y.kind = cc in
    let b : x.number ≡ y.number = cc in
    let c : x.variant ≡ y.variant = cc in
    let d : x.end ≡ y.end = cc in
    let rest = numbers_tell k l cc in
    let item : x ≡ y = λ i. record { kind = a i; number = b i; variant = c i; end = d i } in
    ap (λ z. z ∷ k) item ∙ ap (λ zs. y ∷ zs) rest

-- it stands before the first of the list
abbrev Above : Derivation → List Derivation → Type 0
Above t [] = Unit {0}
Above t (u ∷ us) = Before t u

rises_more : (t : Derivation) (us : List Derivation) → Above t us → Rises us → Rises (t ∷ us)
rises_more t [] a r = tt
rises_more t (u ∷ us) a r = (a, r)

rises_above : (t : Derivation) (us : List Derivation) → Rises (t ∷ us) → Above t us
rises_above t [] r = tt
rises_above t (u ∷ us) r = r.0

rises_rest : (t : Derivation) (us : List Derivation) → Rises (t ∷ us) → Rises us
rises_rest t [] r = tt
rises_rest t (u ∷ us) r = r.1

module _ (g : Rules) (cat : ℕ) (made : AreReady g cat) (ws : List ℕ) where
  abbrev Whole : Derivation → Type 0
  Whole = IsAnalysis (solved g cat) g ws

  compare : (t u : Derivation) → Whole t → Whole u → Before t u ⊎ ((t ≡ u) ⊎ Before u t)
  compare t u a b = elim (compare_numbers (numbers (key t)) (numbers (key u))) [
    | inl h ↦ inl h
    | inr r ↦ elim r [
      | inl q ↦ inr (inl (keys_tell g ws t u [] [] a.derivation b.derivation a.complete b.complete (a.start ∙ sym b.start) (ap (λ k. k ++ []) (numbers_tell (key t) (key u) q))).0)
      | inr h ↦ inr (inr h)
    ]
  ]

  -- one more analysis in a rising list
  insert : (t : Derivation) → Whole t → (us : List Derivation) → Rises us → ((u : Derivation) → IsIn us u → Whole u)
      → (vs : List Derivation) × Rises vs × ((v : Derivation) → IsIn vs v → Whole v) × IsIn vs t × ((u : Derivation) → IsIn us u → IsIn vs u) × ((w : Derivation) → Above w us → Before w t → Above w vs)
  insert t a [] r all = (t ∷ [], tt, λ v h. elim h [ inl e ↦ subst Whole e a | inr n ↦ absurd n ], inl refl, λ u h. absurd h, λ w x b. b)
  insert t a (u ∷ us) r all = go (compare t u a (all u (inl refl))) (insert t a us (rises_rest u us r) (λ v h. all v (inr h)))
    where
      go : Before t u ⊎ ((t ≡ u) ⊎ Before u t)
          → (vs : List Derivation) × Rises vs × ((v : Derivation) → IsIn vs v → Whole v) × IsIn vs t × ((x : Derivation) → IsIn us x → IsIn vs x) × ((w : Derivation) → Above w us → Before w t → Above w vs)
          → (vs : List Derivation) × Rises vs × ((v : Derivation) → IsIn vs v → Whole v) × IsIn vs t × ((x : Derivation) → IsIn (u ∷ us) x → IsIn vs x) × ((w : Derivation) → Above w (u ∷ us) → Before w t → Above w vs)
      go (inl b) i = (t ∷ u ∷ us, (b, r), λ v h. elim h [ inl e ↦ subst Whole e a | inr m ↦ all v m ], inl refl, λ x h. inr h, λ w x y. y)
      go (inr (inl e)) i = (u ∷ us, r, all, inl (sym e), λ x h. h, λ w x y. x)
      go (inr (inr b)) i = (
        u ∷ i.0,
        rises_more u i.0 (i.5 u (rises_above u us r) b) i.1,
        λ v h. elim h [ inl e ↦ subst Whole e (all u (inl refl)) | inr m ↦ i.2 v m ],
        inr i.3,
        λ x h. elim h [ inl e ↦ inl e | inr m ↦ inr (i.4 x m) ],
        λ w x y. x,
      )

  is_atom : (o : Option Value) (c : ℕ) → (o ≡ Some (Atom c)) ⊎ (o ≡ Some (Atom c) → ⊥)
  is_atom None c = inr (λ q. cc)
  is_atom (Some (Node k)) c = inr (λ q. cc)
  is_atom (Some (Atom d)) c = elim (cases_eq d c) [ inl e ↦ inl (ap (λ x. Some (Atom x)) e) | inr e ↦ inr (λ q. e cc) ]

  start_decided : (t : Derivation) → HasLeast g t → HasStart g cat t ⊎ (HasStart g cat t → ⊥)
  start_decided t l = elim (is_atom (at l.0 l.1 (cat ∷ [])) g.start) [
    | inl e ↦ inl (l.0, l.1, l.2, e)
    | inr n ↦ inr (λ h.
        let m = least_into g t h.0 h.1 l.0 l.1 h.2 l.2 in
        let c = carries h.0 l.0 m.by m.is_map (cat ∷ []) h.1 l.1 m.root (Atom g.start) h.3 in
        n (c.2 ∙ sym c.1))
  ]

  analysis_decided : (t : Derivation) → InChart (solved g cat) g ws t → Whole t ⊎ (Whole t → ⊥)
  analysis_decided t h = elim (complete_or_not g t) [
    | inl full ↦ elim (cases_eq (start t) 0) [
      | inl s ↦ elim (cases_eq (end t) (length ws)) [
        | inl e ↦ elim (start_decided t (edge_least g cat made ws t h)) [
          | inl w ↦ inl (record { derivation = edge_derivation g cat made ws t h; complete = full; start = s; end = e; edge = edge_solvable g cat made ws t h; whole = w })
          | inr n ↦ inr (λ a. n a.whole)
        ]
        | inr n ↦ inr (λ a. n a.end)
      ]
      | inr n ↦ inr (λ a. n a.start)
    ]
    | inr n ↦ inr (λ a. n a.complete)
  ]

  -- the analyses of a list of edges
  gathered : (ts : List Derivation) → ((t : Derivation) → IsIn ts t → InChart (solved g cat) g ws t)
      → (us : List Derivation) × Rises us × ((u : Derivation) → IsIn us u → Whole u) × ((t : Derivation) → IsIn ts t → Whole t → IsIn us t)
  gathered [] edges = ([], tt, λ u h. absurd h, λ t h. absurd h)
  gathered (t ∷ ts) edges = go (gathered ts (λ u h. edges u (inr h))) (analysis_decided t (edges t (inl refl)))
    where
      go : (us : List Derivation) × Rises us × ((u : Derivation) → IsIn us u → Whole u) × ((v : Derivation) → IsIn ts v → Whole v → IsIn us v) → Whole t ⊎ (Whole t → ⊥)
          → (us : List Derivation) × Rises us × ((u : Derivation) → IsIn us u → Whole u) × ((v : Derivation) → IsIn (t ∷ ts) v → Whole v → IsIn us v)
      go r (inl a) =
          let i = insert t a r.0 r.1 r.2 in
          (i.0, i.1, i.2, λ v h b. elim h [ inl e ↦ subst (IsIn i.0) e i.3 | inr m ↦ i.4 v (r.3 v m b) ])
      go r (inr n) = (r.0, r.1, r.2, λ v h b. elim h [ inl e ↦ absurd (n (subst Whole (sym e) b)) | inr m ↦ r.3 v m b ])

-- ---- the texts

module _ (s : Grounds) (made : AreReady s.rules (cat_of s)) where
  listed : (ws : List ℕ) (ts : List Derivation) → IsChart (solved s.rules (cat_of s)) s.rules ws ts → (us : List Derivation) × AreAnalyses solved s ws us
  listed ws ts chart =
      let r = gathered s.rules (cat_of s) made ws ts (λ t h. all_in (InChart (solved s.rules (cat_of s)) s.rules ws) ts t chart.edges h) in (
        r.0,
        record {
          rises = r.1;
          each = all_each (IsAnalysis (solved s.rules (cat_of s)) s.rules ws) r.0 r.2;
          every = λ t a. r.3 t (chart.every t (drops_none s.rules (cat_of s) made ws t a)) a;
        },
      )

  lines_listed : (f : Bool) (n : ℕ) (ts : List Derivation) → ((t : Derivation) → IsIn ts t → HasLeast s.rules t) → (text : List ℕ) × ListsAnalyses solved s f n ts text
  lines_listed f n [] least = ([], refl)
  lines_listed false n (t ∷ ts) least = let r = lines_listed false (suc n) ts (λ u h. least u (inr h)) in (_, (r.0, r.1, refl))
  lines_listed true n (t ∷ ts) least =
      let l = least t (inl refl) in
      let r = lines_listed true (suc n) ts (λ u h. least u (inr h)) in
      (_, (canonical (look_of s) l.0 l.1, r.0, (l.0, l.1, l.2, refl), r.1, refl))

  counted : (f : Bool) (ws : List ℕ) (ts : List Derivation) → IsChart (solved s.rules (cat_of s)) s.rules ws ts → (text : List ℕ) × CountsEdges solved s ws f text
  counted false ws ts chart = ([], refl)
  counted true ws ts chart = (_, (ts, chart, refl))

  all_listed : (st : State) (ws : List ℕ) (ts : List Derivation) → IsChart (solved s.rules (cat_of s)) s.rules ws ts → (text : List ℕ) × ListsAll solved s st ws text
  all_listed st ws ts chart =
      let us = listed ws ts chart in
      let whole = λ (t : Derivation) (h : IsIn us.0 t). all_in (IsAnalysis (solved s.rules (cat_of s)) s.rules ws) us.0 t us.1.each h in
      let body = lines_listed st.features 1 us.0 (λ t h. edge_least s.rules (cat_of s) made ws t (drops_none s.rules (cat_of s) made ws t (whole t h))) in
      let tail = counted st.count ws ts chart in
      (_, (us.0, body.0, tail.0, us.1, body.1, tail.1, refl))

  pub known_decided : (w : List ℕ) → IsKnown s w ⊎ (IsKnown s w → ⊥)
  known_decided w = elim (search_variants (IsKnown s w) (λ e k. (entry : EntryVariant) → entry_variant s.rules e k ≡ Some entry → entry.word ≡ s.names.number w → ⊥) at_entry s.rules.entries) [
    | inl k ↦ inl k
    | inr none ↦ inr (λ h. none h.0 h.1 h.2 h.3 h.2 h.3 h.4)
  ]
    where
      at_entry : (e k : ℕ) → IsKnown s w ⊎ ((entry : EntryVariant) → entry_variant s.rules e k ≡ Some entry → entry.word ≡ s.names.number w → ⊥)
      at_entry e k = go (entry_variant s.rules e k) refl
        where
          go : (o : Option EntryVariant) → entry_variant s.rules e k ≡ o → IsKnown s w ⊎ ((entry : EntryVariant) → entry_variant s.rules e k ≡ Some entry → entry.word ≡ s.names.number w → ⊥)
          go None q = inr (λ entry p m. let bad : None ≡ Some entry = sym q ∙ p in cc)
          go (Some v) q = elim (cases_eq v.word (s.names.number w)) [
            | inl m ↦ inl (e, k, v, q, m)
            | inr m ↦ inr (λ entry p n. m (ap (λ (u : EntryVariant). u.word) (some_inj v entry (sym q ∙ p)) ∙ n))
          ]

  all_or_first : (ws : List (List ℕ)) → AllByRecursion (IsKnown s) ws
      ⊎ ((i : ℕ) × (w : List ℕ) × (slice_get ws i ≡ Some w) × (IsKnown s w → ⊥) × ((j : ℕ) (v : List ℕ) → j < i → slice_get ws j ≡ Some v → IsKnown s v))
  all_or_first [] = inl tt
  all_or_first (w ∷ ws) = go (known_decided w) (all_or_first ws)
    where
      before : (i : ℕ) → IsKnown s w → ((j : ℕ) (v : List ℕ) → j < i → slice_get ws j ≡ Some v → IsKnown s v) → (j : ℕ) (v : List ℕ) → j < suc i → slice_get (w ∷ ws) j ≡ Some v → IsKnown s v
      before i k f zero v h e = subst (IsKnown s) (some_inj w v e) k
      before i k f (suc j) v h e = f j v (omega (arith, h)) e

      go : IsKnown s w ⊎ (IsKnown s w → ⊥)
          → AllByRecursion (IsKnown s) ws ⊎ ((i : ℕ) × (u : List ℕ) × (slice_get ws i ≡ Some u) × (IsKnown s u → ⊥) × ((j : ℕ) (v : List ℕ) → j < i → slice_get ws j ≡ Some v → IsKnown s v))
          → AllByRecursion (IsKnown s) (w ∷ ws)
          ⊎ ((i : ℕ) × (u : List ℕ) × (slice_get (w ∷ ws) i ≡ Some u) × (IsKnown s u → ⊥) × ((j : ℕ) (v : List ℕ) → j < i → slice_get (w ∷ ws) j ≡ Some v → IsKnown s v))
      go (inr n) r = inr (0, w, refl, n, λ j v h e. absurd (omega (arith, h)))
      go (inl k) (inl all) = inl (k, all)
      go (inl k) (inr r) = inr (suc r.0, r.1, r.2, r.3, before r.0 k r.4)

pub sentence_reply : SentencesHaveReplies
sentence_reply s made st ws = elim (cases_lt 256 (length ws)) [
  | inl long ↦ (_, too_long long refl)
  | inr fits ↦ elim (all_or_first s made ws) [
    | inr f ↦ (_, unknown (suc f.0) f.1 fits (f.0, refl, f.2, f.3, f.4) refl)
    | inl all ↦ elim (decide_chart s.rules (cat_of s) made (map s.names.number ws) st.limit) [
      | inl more ↦ (_, too_many fits all more refl)
      | inr c ↦ let t = all_listed s made st (map s.names.number ws) c.0 c.1.0 in (t.0, analyses fits all c.1.1 t.1)
    ]
  ]
]
