-- The closed chart as a list, or more edges than the limit.
use Rattle.std.proofs.Common.{◌≡◌, ◌≢◌, ℕ, zero, suc, ◌+◌, ◌<◌, ◌≤◌, ◌⊎◌, inl, inr, List, [], ◌∷◌, length, get_or, Option, Some, None, option_and_then, slice_get, refl, sym, ap, ◌∙◌, arith, subst}
use Rattle.std.proofs.lemmas.Bool.{cases_eq, cases_lt}
use Rattle.std.proofs.lemmas.Option.{slice_get_within, get_or_from_slice_get}
use Rattle.patr_lists.proofs.Places.{get_there}
use Rattle.patr_lists.proofs.Alls.{all_in, all_each}
use Rattle.patr_lists.proofs.Members.{in_or_not}
use Rattle.patr_lists.specs.Members.{NoRepeats, IsIn}
use Rattle.patr_model.specs.Structure.{Value, Structure, arc}
use Rattle.patr_model.specs.Category.{category, AreCompatible}
use Rattle.patr_model.specs.Derivation.{Rules, RuleVariant, EntryVariant, Derivation, Leaf, Begin, Extend, entry_variant, rule_variant, seen, start, end, size, IsPartial, IsComplete}
use Rattle.patr_model.specs.Chart.{InChart, IsChart, HasMoreThan, IsDerivation, HasGround}
use Rattle.patr_model.specs.Solution.{IsSolvable, IsLeastValue}
use Rattle.patr_model.specs.Solved.{IsMother, MayFollow, solved}
use Rattle.patr_model.specs.Laws.{HaveLeastValues}
use Rattle.patr_model.proofs.Maps.{some_inj, and_then_some}
use Rattle.patr_model.proofs.Steps.{solves_count, partial_or_not, complete_or_not, partial_mother, complete_mother, may_follow}
use Rattle.patr_model.proofs.Prediction.{chart_derivation, chart_solvable, slot_of_least, prediction_drops_none}
use Rattle.patr_model.proofs.PlainChart.{plain_in_solved, solved_in_plain}
use Rattle.patr_model.proofs.Categories.{slot_category_is_one, category_is_one}
use Rattle.patr_model.proofs.Rounds.{rounds}
use Rattle.patr_totality.specs.Laws.{AreReady, HasLeast, IsWholeChart, ChartsAreDecided, PredictionDropsNone, PlainChartsAreSolved}
use Rattle.patr_totality.proofs.Ready.{bare_ready}
use Rattle.patr_totality.proofs.Least.{decide_least}

-- ---- a thing that is wanted, or what holds of all

search_below : (P : Type 0) (Q : ℕ → Type 0) → ((k : ℕ) → P ⊎ Q k) → (n : ℕ) → P ⊎ ((k : ℕ) → k < n → Q k)
search_below P Q f zero = inr (λ k h. absurd (omega (arith, h)))
search_below P Q f (suc n) = go (f n) (search_below P Q f n)
  where
    go : P ⊎ Q n → P ⊎ ((k : ℕ) → k < n → Q k) → P ⊎ ((k : ℕ) → k < suc n → Q k)
    go (inl p) r = inl p
    go (inr q) (inl p) = inl p
    go (inr q) (inr all) = inr (λ k h. elim (cases_eq k n) [ inl e ↦ subst Q (sym e) q | inr e ↦ all k (omega (arith, h, e)) ])

pub search_variants : {X : Type 0} (P : Type 0) (Q : ℕ → ℕ → Type 0) → ((e k : ℕ) → P ⊎ Q e k) → (xss : List (List X))
    → P ⊎ ((e k : ℕ) (x : X) → option_and_then (λ vs. slice_get vs k) (slice_get xss e) ≡ Some x → Q e k)
search_variants P Q f xss = elim (search_below P (λ e. (k : ℕ) → k < length (get_or xss e []) → Q e k) (λ e. search_below P (Q e) (f e) (length (get_or xss e []))) (length xss)) [
  | inl p ↦ inl p
  | inr all ↦ inr (λ e k x q.
      let s = and_then_some (slice_get xss e) (λ vs. slice_get vs k) x q in
      all e (slice_get_within xss e s.0 s.1) k (subst (λ vs. k < length vs) (sym (get_or_from_slice_get xss e s.0 [] s.1)) (slice_get_within s.0 k x s.2)))
]

pub search_in : (P : Type 0) (Q : Derivation → Type 0) (ts : List Derivation) → ((t : Derivation) → IsIn ts t → P ⊎ Q t) → P ⊎ ((t : Derivation) → IsIn ts t → Q t)
search_in P Q [] f = inr (λ t h. absurd h)
search_in P Q (u ∷ ts) f = go (f u (inl refl)) (search_in P Q ts (λ t h. f t (inr h)))
  where
    go : P ⊎ Q u → P ⊎ ((t : Derivation) → IsIn ts t → Q t) → P ⊎ ((t : Derivation) → IsIn (u ∷ ts) t → Q t)
    go (inl p) r = inl p
    go (inr q) (inl p) = inl p
    go (inr q) (inr all) = inr (λ t h. elim h [ inl e ↦ subst Q e q | inr i ↦ all t i ])

-- ---- what is decided

same_derivation : (t u : Derivation) → (t ≡ u) ⊎ (t ≡ u → ⊥)
same_derivation (Leaf e k i j) (Leaf f l m n) = go (cases_eq e f) (cases_eq k l) (cases_eq i m) (cases_eq j n)
  where
    go : (e ≡ f) ⊎ (e ≢ f) → (k ≡ l) ⊎ (k ≢ l) → (i ≡ m) ⊎ (i ≢ m) → (j ≡ n) ⊎ (j ≢ n) → (Leaf e k i j ≡ Leaf f l m n) ⊎ (Leaf e k i j ≡ Leaf f l m n → ⊥)
    go (inl a) (inl b) (inl c) (inl d) = inl cc
    go (inr a) b c d = inr (λ q. a cc)
    go (inl a) (inr b) c d = inr (λ q. b cc)
    go (inl a) (inl b) (inr c) d = inr (λ q. c cc)
    go (inl a) (inl b) (inl c) (inr d) = inr (λ q. d cc)
same_derivation (Leaf e k i j) (Begin f l m) = inr (λ q. cc)
same_derivation (Leaf e k i j) (Extend c d) = inr (λ q. cc)
same_derivation (Begin e k i) (Leaf f l m n) = inr (λ q. cc)
same_derivation (Begin e k i) (Begin f l m) = go (cases_eq e f) (cases_eq k l) (cases_eq i m)
  where
    go : (e ≡ f) ⊎ (e ≢ f) → (k ≡ l) ⊎ (k ≢ l) → (i ≡ m) ⊎ (i ≢ m) → (Begin e k i ≡ Begin f l m) ⊎ (Begin e k i ≡ Begin f l m → ⊥)
    go (inl a) (inl b) (inl c) = inl cc
    go (inr a) b c = inr (λ q. a cc)
    go (inl a) (inr b) c = inr (λ q. b cc)
    go (inl a) (inl b) (inr c) = inr (λ q. c cc)
same_derivation (Begin e k i) (Extend c d) = inr (λ q. cc)
same_derivation (Extend a p) (Leaf f l m n) = inr (λ q. cc)
same_derivation (Extend a p) (Begin f l m) = inr (λ q. cc)
same_derivation (Extend a p) (Extend c d) = go (same_derivation a c) (same_derivation p d)
  where
    go : (a ≡ c) ⊎ (a ≡ c → ⊥) → (p ≡ d) ⊎ (p ≡ d → ⊥) → (Extend a p ≡ Extend c d) ⊎ (Extend a p ≡ Extend c d → ⊥)
    go (inl x) (inl y) = inl cc
    go (inr x) y = inr (λ q. x cc)
    go (inl x) (inr y) = inr (λ q. y cc)

-- where both are there, they are one
abbrev Heads : Option ℕ → Option ℕ → Type 0
Heads x y = (a b : ℕ) → x ≡ Some a → y ≡ Some b → a ≡ b

heads : (x y : Option ℕ) → Heads x y ⊎ (Heads x y → ⊥)
heads None y = inl (λ a b e f. cc)
heads (Some a) None = inl (λ c d e f. cc)
heads (Some a) (Some b) = elim (cases_eq a b) [
  | inl q ↦ inl (λ c d e f. sym (some_inj a c e) ∙ (q ∙ some_inj b d f))
  | inr q ↦ inr (λ h. q (h a b refl refl))
]

both_compatible : (x y : Option ℕ) (c d : List (Option ℕ)) → Heads x y → AreCompatible c d → AreCompatible (x ∷ c) (y ∷ d)
both_compatible x y c d h r zero a b e f = h a b (some_inj x (Some a) e) (some_inj y (Some b) f)
both_compatible x y c d h r (suc k) a b e f = r k a b e f

compatible : (c d : List (Option ℕ)) → AreCompatible c d ⊎ (AreCompatible c d → ⊥)
compatible [] d = inl (λ k x y e f. cc)
compatible (x ∷ c) [] = inl (λ k a b e f. cc)
compatible (x ∷ c) (y ∷ d) = go (heads x y) (compatible c d)
  where
    go : Heads x y ⊎ (Heads x y → ⊥) → AreCompatible c d ⊎ (AreCompatible c d → ⊥) → AreCompatible (x ∷ c) (y ∷ d) ⊎ (AreCompatible (x ∷ c) (y ∷ d) → ⊥)
    go (inl h) (inl r) = inl (both_compatible x y c d h r)
    go (inr n) r = inr (λ all. n (λ a b e f. all 0 a b (ap (λ u. Some u) e) (ap (λ u. Some u) f)))
    go (inl h) (inr n) = inr (λ all. n (λ k a b e f. all (suc k) a b e f))

module _ (g : Rules) where
  -- a slot of a partial derivation's least value
  slot_at : (a : Derivation) → IsPartial g a → (l : HasLeast g a) (k : ℕ) → k < suc (suc (seen a)) → (x : Value) × (arc l.0 l.1 k ≡ Some x)
  slot_at a part l k h =
      let s = l.2.solution in
      let count = solves_count g a s.0 s.2.slots part.0 part.1 s.2.solves in
      let v = get_there s.2.slots k (omega (arith, count, part.2, h)) in
      let x = slot_of_least g a part l.0 l.1 l.2 s.0 s.2.slots s.2.structure s.2.solves k v.0 v.1 in
      (x.0, x.1)

  mother_of : (b : Derivation) → IsPartial g b ⊎ IsComplete g b → (l : HasLeast g b) → (x : Value) × IsMother g b l.0 l.1 x
  mother_of b (inl part) l = let x = slot_at b part l 0 (omega arith) in (x.0, partial_mother g b part l.0 l.1 x.0 x.1)
  mother_of b (inr full) l = (l.1, complete_mother g b full l.0 l.1)

  one_mother : (b : Derivation) → IsPartial g b ⊎ IsComplete g b → (A : Structure) (v : Value) (B : Structure) (w : Value) → IsLeastValue g b A v → IsLeastValue g b B w → (x y : Value)
      → IsMother g b A v x → IsMother g b B w y → category g.restrictor A x ≡ category g.restrictor B y
  one_mother b (inl part) A v B w la lb x y mx my = slot_category_is_one g b A v B w la lb 0 x y (mx.partial part) (my.partial part)
  one_mother b (inr full) A v B w la lb x y mx my =
      ap (category g.restrictor A) (sym (mx.complete full)) ∙ (category_is_one g b A v B w la lb ∙ ap (category g.restrictor B) (my.complete full))

  follow_decided : (a b : Derivation) → IsPartial g a → HasLeast g a → IsPartial g b ⊎ IsComplete g b → HasLeast g b → MayFollow g a b ⊎ (MayFollow g a b → ⊥)
  follow_decided a b part la kind lb =
      let x = slot_at a part la (suc (seen a)) (omega arith) in
      let m = mother_of b kind lb in
      elim (compatible (category g.restrictor la.0 x.0) (category g.restrictor lb.0 m.0)) [
        | inl agrees ↦ inl (may_follow g a b la x.0 x.1 lb m.0 m.1 agrees)
        | inr differs ↦ inr (λ f. differs (subst (λ c. AreCompatible c (category g.restrictor lb.0 m.0)) (slot_category_is_one g a f.A f.active la.0 la.1 f.least_active la.2 (suc (seen a)) f.next x.0 f.next_slot x.1)
            (subst (AreCompatible (category g.restrictor f.A f.next)) (one_mother b kind f.B f.begun lb.0 lb.1 f.least_begun lb.2 f.mother m.0 f.is_mother m.1) f.compatible)))
      ]

-- ---- the chart

module _ (g : Rules) (cat : ℕ) (made : AreReady g cat) (ws : List ℕ) where
  abbrev Edge : Derivation → Type 0
  Edge = InChart (solved g cat) g ws

  pub edge_derivation : (t : Derivation) → Edge t → IsDerivation g ws t
  edge_derivation = chart_derivation g cat ws

  pub edge_solvable : (t : Derivation) → Edge t → IsSolvable g t
  edge_solvable = chart_solvable g cat ws

  pub edge_least : (t : Derivation) → Edge t → HasLeast g t
  edge_least t h = elim (decide_least g cat made ws t (edge_derivation t h)) [ inl l ↦ l | inr none ↦ absurd (none (edge_solvable t h)) ]

  pub have_least : HaveLeastValues g cat ws
  have_least = record {
    edges = λ t h. edge_least t h;
    rules = λ r k i s. elim (decide_least g cat made ws (Begin r k i) (s.2.solves.0, s.2.solves.1)) [ inl l ↦ l | inr none ↦ absurd (none s) ];
  }

  solvable : (t : Derivation) → HasLeast g t → IsSolvable g t
  solvable t l = let s = l.2.solution in (s.0, s.1, s.2)

  begin_kind : (r k i : ℕ) (rule : RuleVariant) → rule_variant g r k ≡ Some rule → IsPartial g (Begin r k i) ⊎ IsComplete g (Begin r k i)
  begin_kind r k i rule q = elim (cases_lt 1 (length rule.categories)) [
    | inl m ↦ inl (rule, q, m)
    | inr m ↦ inr (rule, q, omega (arith, m, (made.categories.rules r k rule q).0))
  ]

  module _ (all : List Derivation) (edges : (t : Derivation) → IsIn all t → Edge t) where
    -- an edge that is not in the list
    abbrev Found : Type 0
    Found = (t : Derivation) × HasGround (solved g cat) g ws all t × (IsIn all t → ⊥)

    found_or_in : (t : Derivation) → HasGround (solved g cat) g ws all t → Found ⊎ IsIn all t
    found_or_in t h = elim (in_or_not same_derivation all t) [ inl m ↦ inr m | inr n ↦ inl (t, h, n) ]

    word_decided : (o : Option ℕ) (w : ℕ) → (o ≡ Some w) ⊎ (o ≡ Some w → ⊥)
    word_decided None w = inr (λ q. cc)
    word_decided (Some v) w = elim (cases_eq v w) [ inl e ↦ inl (ap (λ u. Some u) e) | inr e ↦ inr (λ q. e (some_inj v w q)) ]

    -- the leaves
    AllWords : ℕ → ℕ → Type 0
    AllWords e k = (i : ℕ) (entry : EntryVariant) → entry_variant g e k ≡ Some entry → slice_get ws i ≡ Some entry.word → IsSolvable g (Leaf e k i (suc i)) → IsIn all (Leaf e k i (suc i))

    words : (e k : ℕ) → Found ⊎ AllWords e k
    unfolding AllWords
    words e k = go (entry_variant g e k) refl
      where
        go : (o : Option EntryVariant) → entry_variant g e k ≡ o → Found ⊎ ((i : ℕ) (entry : EntryVariant) → entry_variant g e k ≡ Some entry → slice_get ws i ≡ Some entry.word → IsSolvable g (Leaf e k i (suc i)) → IsIn all (Leaf e k i (suc i)))
        go None q = inr (λ i entry p w s. let bad : None ≡ Some entry = sym q ∙ p in cc)
        go (Some v) q = elim (search_below Found (λ i. slice_get ws i ≡ Some v.word → IsSolvable g (Leaf e k i (suc i)) → IsIn all (Leaf e k i (suc i))) at_place (length ws)) [
          | inl f ↦ inl f
          | inr h ↦ inr (λ i entry p w s.
              let same : slice_get ws i ≡ Some v.word = w ∙ ap (λ (u : EntryVariant). Some u.word) (some_inj entry v (sym p ∙ q)) in
              h i (slice_get_within ws i v.word same) same s)
        ]
          where
            at_place : (i : ℕ) → Found ⊎ (slice_get ws i ≡ Some v.word → IsSolvable g (Leaf e k i (suc i)) → IsIn all (Leaf e k i (suc i)))
            at_place i = elim (word_decided (slice_get ws i) v.word) [
              | inl w ↦ elim (decide_least g cat made ws (Leaf e k i (suc i)) (v, q, w, refl)) [
                | inl l ↦ elim (found_or_in (Leaf e k i (suc i)) (HasGround.word e k i (suc i) v q w refl (solvable (Leaf e k i (suc i)) l))) [ inl f ↦ inl f | inr m ↦ inr (λ w' s. m) ]
                | inr none ↦ inr (λ w' s. absurd (none s))
              ]
              | inr w ↦ inr (λ w' s. absurd (w w'))
            ]

    -- the rules of the start symbol
    AllFirst : ℕ → ℕ → Type 0
    AllFirst r k = (rule : RuleVariant) → rule_variant g r k ≡ Some rule → slice_get rule.categories 0 ≡ Some g.start → IsSolvable g (Begin r k 0) → IsIn all (Begin r k 0)

    firsts : (r k : ℕ) → Found ⊎ AllFirst r k
    unfolding AllFirst
    firsts r k = go (rule_variant g r k) refl
      where
        go : (o : Option RuleVariant) → rule_variant g r k ≡ o → Found ⊎ ((rule : RuleVariant) → rule_variant g r k ≡ Some rule → slice_get rule.categories 0 ≡ Some g.start → IsSolvable g (Begin r k 0) → IsIn all (Begin r k 0))
        go None q = inr (λ rule p w s. let bad : None ≡ Some rule = sym q ∙ p in cc)
        go (Some v) q = elim (word_decided (slice_get v.categories 0) g.start) [
          | inl w ↦ elim (decide_least g cat made ws (Begin r k 0) (v, q)) [
            | inl l ↦ elim (found_or_in (Begin r k 0) (HasGround.first r k v q w (solvable (Begin r k 0) l))) [ inl f ↦ inl f | inr m ↦ inr (λ rule p w' s. m) ]
            | inr none ↦ inr (λ rule p w' s. absurd (none s))
          ]
          | inr w ↦ inr (λ rule p w' s. absurd (w (ap (λ (u : RuleVariant). slice_get u.categories 0) (some_inj v rule (sym q ∙ p)) ∙ w')))
        ]

    -- what an active edge predicts
    AllAfter : Derivation → Type 0
    AllAfter a = IsPartial g a → (r k : ℕ) (rule : RuleVariant) → rule_variant g r k ≡ Some rule → IsSolvable g (Begin r k (end a)) → MayFollow g a (Begin r k (end a)) → IsIn all (Begin r k (end a))

    predictions : (a : Derivation) → IsIn all a → Found ⊎ AllAfter a
    unfolding AllAfter
    predictions a h = elim (partial_or_not g a) [
      | inl part ↦ elim (search_variants Found (λ r k. IsSolvable g (Begin r k (end a)) → MayFollow g a (Begin r k (end a)) → IsIn all (Begin r k (end a))) (after part) g.rules) [
        | inl f ↦ inl f
        | inr f ↦ inr (λ p r k rule q s m. f r k rule q s m)
      ]
      | inr none ↦ inr (λ p. absurd (none p))
    ]
      where
        after : IsPartial g a → (r k : ℕ) → Found ⊎ (IsSolvable g (Begin r k (end a)) → MayFollow g a (Begin r k (end a)) → IsIn all (Begin r k (end a)))
        after part r k = go (rule_variant g r k) refl
          where
            go : (o : Option RuleVariant) → rule_variant g r k ≡ o → Found ⊎ (IsSolvable g (Begin r k (end a)) → MayFollow g a (Begin r k (end a)) → IsIn all (Begin r k (end a)))
            go None q = inr (λ s m. let bad : None ≡ Some s.2.solves.0 = sym q ∙ s.2.solves.1 in cc)
            go (Some v) q = elim (decide_least g cat made ws (Begin r k (end a)) (v, q)) [
              | inl l ↦ elim (follow_decided g a (Begin r k (end a)) part (edge_least a (edges a h)) (begin_kind r k (end a) v q) l) [
                | inl m ↦ elim (found_or_in (Begin r k (end a)) (HasGround.predicted a r k (end a) h part refl (solvable (Begin r k (end a)) l) m)) [ inl f ↦ inl f | inr i ↦ inr (λ s m'. i) ]
                | inr m ↦ inr (λ s m'. absurd (m m'))
              ]
              | inr none ↦ inr (λ s m. absurd (none s))
            ]

    -- the pairs
    AllPairs : Derivation → Derivation → Type 0
    AllPairs a p = IsPartial g a → IsComplete g p → end a ≡ start p → IsSolvable g (Extend a p) → IsIn all (Extend a p)

    pairs : (a : Derivation) → IsIn all a → (p : Derivation) → IsIn all p → Found ⊎ AllPairs a p
    unfolding AllPairs
    pairs a ha p hp = elim (partial_or_not g a) [
      | inl part ↦ elim (complete_or_not g p) [
        | inl full ↦ elim (cases_eq (end a) (start p)) [
          | inl e ↦ elim (decide_least g cat made ws (Extend a p) (edge_derivation a (edges a ha), edge_derivation p (edges p hp), part, full, e)) [
            | inl l ↦ elim (found_or_in (Extend a p) (HasGround.extended a p ha part hp full e (solvable (Extend a p) l))) [ inl f ↦ inl f | inr i ↦ inr (λ x y z s. i) ]
            | inr none ↦ inr (λ x y z s. absurd (none s))
          ]
          | inr e ↦ inr (λ x y z s. absurd (e z))
        ]
        | inr none ↦ inr (λ x y z s. absurd (none y))
      ]
      | inr none ↦ inr (λ x y z s. absurd (none x))
    ]

    -- nothing is found: all edges are there
    every : ((e k : ℕ) (x : EntryVariant) → entry_variant g e k ≡ Some x → AllWords e k) → ((r k : ℕ) (x : RuleVariant) → rule_variant g r k ≡ Some x → AllFirst r k)
        → ((a : Derivation) → IsIn all a → AllAfter a) → ((a : Derivation) → IsIn all a → (p : Derivation) → IsIn all p → AllPairs a p)
        → (t : Derivation) → Edge t → IsIn all t
    unfolding AllWords AllFirst AllAfter AllPairs
    every fw ff fa fp t (InChart.word e k i i' entry q w n edge) =
        subst (λ j. IsIn all (Leaf e k i j)) (sym n) (fw e k entry q i entry q w (subst (λ j. IsSolvable g (Leaf e k i j)) n edge))
    every fw ff fa fp t (InChart.first r k rule q c edge) = ff r k rule q rule q c edge
    every fw ff fa fp t (InChart.predicted a r k i h part q edge may) =
        subst (λ j. IsIn all (Begin r k j)) q (fa a (every fw ff fa fp a h) part r k edge.2.solves.0 edge.2.solves.1
        (subst (λ j. IsSolvable g (Begin r k j)) (sym q) edge) (subst (λ j. MayFollow g a (Begin r k j)) (sym q) may))
    every fw ff fa fp t (InChart.extended a p h part hp full q edge) = fp a (every fw ff fa fp a h) p (every fw ff fa fp p hp) part full q edge

    closed_or_found : Found ⊎ ((t : Derivation) → Edge t → IsIn all t)
    closed_or_found = elim (search_variants Found AllWords words g.entries) [
      | inl f ↦ inl f
      | inr fw ↦ elim (search_variants Found AllFirst firsts g.rules) [
        | inl f ↦ inl f
        | inr ff ↦ elim (search_in Found AllAfter all predictions) [
          | inl f ↦ inl f
          | inr fa ↦ elim (search_in Found (λ a. (p : Derivation) → IsIn all p → AllPairs a p) all (λ a ha. search_in Found (AllPairs a) all (pairs a ha))) [
            | inl f ↦ inl f
            | inr fp ↦ inr (every fw ff fa fp)
          ]
        ]
      ]
    ]

    from_ground : (t : Derivation) → HasGround (solved g cat) g ws all t → Edge t
    from_ground t (HasGround.word e k i i' entry q w n edge) = InChart.word e k i i' entry q w n edge
    from_ground t (HasGround.first r k rule q c edge) = InChart.first r k rule q c edge
    from_ground t (HasGround.predicted a r k i h part q edge may) = InChart.predicted a r k i (edges a h) part q edge may
    from_ground t (HasGround.extended a p h part hp full q edge) = InChart.extended a p (edges a h) part (edges p hp) full q edge

  -- one edge after another, until there are more than n or all
  more : (n m : ℕ) (all : List Derivation) → NoRepeats all → ((t : Derivation) → IsIn all t → Edge t) → n < m + length all → HasMoreThan (solved g cat) g ws n ⊎ ((ts : List Derivation) × IsChart (solved g cat) g ws ts)
  more n zero all once edges h = inl (inl (all, once, all_each Edge all edges, omega (arith, h)))
  more n (suc m) all once edges h = elim (closed_or_found all edges) [
    | inl f ↦ more n m (f.0 ∷ all) (f.2, once) (λ t i. elim i [ inl e ↦ subst Edge e (from_ground all edges f.0 f.1) | inr j ↦ edges t j ]) (omega (arith, h))
    | inr closed ↦ inr (all, record { once = once; edges = all_each Edge all edges; every = closed })
  ]

  whole : (n : ℕ) (ts : List Derivation) → IsChart (solved g cat) g ws ts
      → HasMoreThan (solved g cat) g ws n ⊎ ((us : List Derivation) × IsWholeChart g cat ws n us)
  whole n ts chart = elim (cases_lt n (length ts)) [
    | inl h ↦ inl (inl (ts, chart.once, chart.edges, h))
    | inr h ↦ elim (search_in (HasMoreThan (solved g cat) g ws n) (λ t. size t ≤ n) ts (λ t i. elim (cases_lt n (size t)) [
      | inl big ↦ inl (inr (t, all_in Edge ts t chart.edges i, big))
      | inr small ↦ inr small
    ])) [
      | inl big ↦ inl big
      | inr small ↦ inr (ts, (chart, (rounds (solved g cat) g ws).keeps ts n chart h small))
    ]
  ]

pub decide_chart : ChartsAreDecided
decide_chart g cat made ws n = elim (more g cat made ws n (suc n) [] tt (λ t h. absurd h) (omega arith)) [ inl m ↦ inl m | inr c ↦ whole g cat made ws n c.0 c.1 ]

-- ---- what holds without a premise on least values

pub drops_none : PredictionDropsNone
drops_none g cat made ws t a = prediction_drops_none g ws cat made.states (have_least g cat made ws) t a

pub plain_charts : PlainChartsAreSolved
plain_charts g cat is ws t = (plain_in_solved g cat is ws (have_least g cat (bare_ready g cat is) ws) t, solved_in_plain g cat is ws t)
