-- Derivations whose rule variants are numbered otherwise have the same spans, solutions and texts.
use Rattle.std.proofs.Common.{◌≡◌, inl, inr, ℕ, suc, ◌+◌, ◌<◌, List, ◌∷◌, map, length, codes, Some, None, option_and_then, slice_get, ◌++◌, refl, sym, ap, ◌∙◌, subst}
use Rattle.std.specs.List.{AllByRecursion}
use Rattle.std.proofs.lemmas.List.{length-map}
use Rattle.patr_lists.specs.Members.{NoRepeats, IsIn}
use Rattle.patr_lists.proofs.Alls.{all_in, all_map}
use Rattle.patr_lists.proofs.Members.{in_map, once_map}
use Rattle.patr_model.specs.Structure.{Value, Structure, arc}
use Rattle.patr_model.specs.Derivation.{Rules, RuleVariant, Derivation, Leaf, Begin, Extend, rule_variant, root_rule, seen, start, end, size, IsPartial, IsComplete}
use Rattle.patr_model.specs.Solution.{Solves, Solution, IsSolvable, IsLeastValue}
use Rattle.patr_model.specs.Chart.{InChart, HasMoreThan, IsDerivation, IsAnalysis}
use Rattle.patr_model.specs.Solved.{MayFollow, solved}
use Rattle.patr_model.specs.Plain.{slot_category, category_of}
use Rattle.patr_model.specs.Text.{Look, mother_category, printed, open_tree}
use Rattle.patr_laws.specs.Alternatives.{Numbers, AreNumbered, counterpart, AreAlike, HaveCounterparts, GiveSameTrees}

-- ---- spans

module _ (f : Numbers) where
  start_same : (t : Derivation) → start (counterpart f t) ≡ start t
  start_same (Leaf e k i j) = refl
  start_same (Begin r k i) = refl
  start_same (Extend a p) = start_same a

  pub end_same : (t : Derivation) → end (counterpart f t) ≡ end t
  end_same (Leaf e k i j) = refl
  end_same (Begin r k i) = refl
  end_same (Extend a p) = end_same p

  size_same : (t : Derivation) → size (counterpart f t) ≡ size t
  size_same (Leaf e k i j) = refl
  size_same (Begin r k i) = refl
  size_same (Extend a p) = λ i. size_same a i + size_same p i

  seen_same : (t : Derivation) → seen (counterpart f t) ≡ seen t
  seen_same (Leaf e k i j) = refl
  seen_same (Begin r k i) = refl
  seen_same (Extend a p) = λ i. suc (seen_same a i)

-- ---- one way

-- each rule variant of the derivation is there
abbrev AreThere : Rules → Derivation → Type 0
AreThere g (Leaf e k i j) = Unit {0}
AreThere g (Begin r k i) = (v : RuleVariant) × (rule_variant g r k ≡ Some v)
AreThere g (Extend a p) = AreThere g a × AreThere g p

solved_there : (g : Rules) (t : Derivation) (G : Structure) (vs : List Value) → Solves g t G vs → AreThere g t
solved_there g (Leaf e k i j) G vs s = tt
solved_there g (Begin r k i) G vs s = (s.0, s.1)
solved_there g (Extend a p) G vs s = (solved_there g a G vs s.0, solved_there g p G (_ ∷ _) s.4)

derived_there : (g : Rules) (ws : List ℕ) (t : Derivation) → IsDerivation g ws t → AreThere g t
derived_there g ws (Leaf e k i j) d = tt
derived_there g ws (Begin r k i) d = d
derived_there g ws (Extend a p) d = (derived_there g ws a d.0, derived_there g ws p d.1)

module _ (g : Rules) (rules : List (List RuleVariant)) (f back : Numbers) (m : AreNumbered g (record g { rules = rules }) f back) where
  abbrev h : Rules
  h = record g { rules = rules }

  abbrev c : Derivation → Derivation
  c = counterpart f

  root_there : (t : Derivation) (v : RuleVariant) → root_rule g t ≡ Some v → root_rule h (c t) ≡ Some v
  root_there (Leaf e k i j) v q = let bad : None ≡ Some v = q in absurd cc
  root_there (Begin r k i) v q = m.there r k v q
  root_there (Extend a p) v q = root_there a v q

  partial_there : (t : Derivation) → IsPartial g t → IsPartial h (c t)
  partial_there t q = (q.0, root_there t q.0 q.1, subst (λ n. suc n < length q.0.categories) (sym (seen_same f t)) q.2)

  complete_there : (t : Derivation) → IsComplete g t → IsComplete h (c t)
  complete_there (Leaf e k i j) q = tt
  complete_there (Begin r k i) q = (q.0, m.there r k q.0 q.1, q.2)
  complete_there (Extend a p) q = (q.0, root_there a q.0 q.1, subst (λ n. suc (suc n) ≡ length q.0.categories) (sym (seen_same f a)) q.2)

  derivation_there : (ws : List ℕ) (t : Derivation) → IsDerivation g ws t → IsDerivation h ws (c t)
  derivation_there ws (Leaf e k i j) d = d
  derivation_there ws (Begin r k i) d = (d.0, m.there r k d.0 d.1)
  derivation_there ws (Extend a p) d = (derivation_there ws a d.0, derivation_there ws p d.1, partial_there a d.2, complete_there p d.3, end_same f a ∙ (d.4 ∙ sym (start_same f p)))

  solves_there : (t : Derivation) (G : Structure) (vs : List Value) → Solves g t G vs → Solves h (c t) G vs
  solves_there (Leaf e k i j) G vs s = s
  solves_there (Begin r k i) G vs s = (s.0, m.there r k s.0 s.1, s.2)
  solves_there (Extend a p) G vs s = (solves_there a G vs s.0, s.1, s.2, subst (λ n. slice_get vs (suc n) ≡ Some s.1) (sym (seen_same f a)) s.3, solves_there p G (s.1 ∷ s.2) s.4)

  -- from the counterpart the derivation comes again
  comes_again : (t : Derivation) → AreThere g t → counterpart back (c t) ≡ t
  comes_again (Leaf e k i j) a = refl
  comes_again (Begin r k i) a = let e = m.again r k a.0 a.1 in λ x. Begin (e x).0 (e x).1 i
  comes_again (Extend a p) q = λ x. Extend (comes_again a q.0 x) (comes_again p q.1 x)

  root_same : (t : Derivation) → AreThere g t → root_rule h (c t) ≡ root_rule g t
  root_same (Leaf e k i j) a = refl
  root_same (Begin r k i) a = m.there r k a.0 a.1 ∙ sym a.1
  root_same (Extend a p) q = root_same a q.0

  slot_same : (t : Derivation) → AreThere g t → (s : ℕ) → slot_category h (c t) s ≡ slot_category g t s
  slot_same t a s = ap (λ o. option_and_then (λ (r : RuleVariant). slice_get r.categories s) o) (root_same t a)

  category_same : (t : Derivation) → AreThere g t → category_of h (c t) ≡ category_of g t
  category_same (Leaf e k i j) a = refl
  category_same (Begin r k i) a = slot_same (Begin r k i) a 0
  category_same (Extend a p) q = slot_same a q.0 0

  text_same : (l : Look) (t : Derivation) → AreThere g t → open_tree l h (c t) ≡ open_tree l g t
  text_same l (Leaf e k i j) a = refl
  text_same l (Begin r k i) a = ap (λ o. codes "(" ++ printed (l.text (mother_category o))) (root_same (Begin r k i) a)
  text_same l (Extend a p) q = λ i. text_same l a q.0 i ++ codes " " ++ text_same l p q.1 i ++ codes ")"

-- ---- both ways

module _ (g : Rules) (rules : List (List RuleVariant)) (f back : Numbers) (m : AreNumbered g (record g { rules = rules }) f back) (n : AreNumbered (record g { rules = rules }) g back f) where
  complete_back : (t : Derivation) → AreThere g t → IsComplete (record g { rules = rules }) (counterpart f t) → IsComplete g t
  complete_back t a q = subst (IsComplete g) (comes_again g rules f back m t a) (complete_there (record g { rules = rules }) g.rules back f n (counterpart f t) q)

  partial_back : (t : Derivation) → AreThere g t → IsPartial (record g { rules = rules }) (counterpart f t) → IsPartial g t
  partial_back t a q = subst (IsPartial g) (comes_again g rules f back m t a) (partial_there (record g { rules = rules }) g.rules back f n (counterpart f t) q)

  solution_there : (t : Derivation) (G : Structure) (v : Value) → Solution g t G v → Solution (record g { rules = rules }) (counterpart f t) G v
  solution_there t G v s =
      let a = solved_there g t G s.slots s.solves in
      record {
        structure = s.structure;
        slots = s.slots;
        solves = solves_there g rules f back m t G s.slots s.solves;
        value = record { held = s.value.held; complete = λ q. s.value.complete (complete_back t a q); partial = λ q. s.value.partial (partial_back t a q) };
      }

-- an edge has its variants
edge_there : (g : Rules) (t : Derivation) → IsSolvable g t → AreThere g t
edge_there g t s = solved_there g t s.0 s.2.slots s.2.solves

least_has : (g : Rules) (t : Derivation) (M : Structure) (m : Value) → IsLeastValue g t M m → AreThere g t
least_has g t M m l = edge_there g t (l.solution.0, l.solution.1, l.solution.2)

module _ (g : Rules) (rules : List (List RuleVariant)) (f back : Numbers) (m : AreNumbered g (record g { rules = rules }) f back) (n : AreNumbered (record g { rules = rules }) g back f) where
  abbrev other : Rules
  other = record g { rules = rules }

  solution_back : (t : Derivation) → AreThere g t → (G : Structure) (v : Value) → Solution other (counterpart f t) G v → Solution g t G v
  solution_back t a G v s = subst (λ u. Solution g u G v) (comes_again g rules f back m t a) (solution_there other g.rules back f n m (counterpart f t) G v s)

  solvable_there : (t : Derivation) → IsSolvable g t → IsSolvable other (counterpart f t)
  solvable_there t s = (s.0, s.1, solution_there g rules f back m n t s.0 s.1 s.2)

  least_there : (t : Derivation) (M : Structure) (v : Value) → IsLeastValue g t M v → IsLeastValue other (counterpart f t) M v
  least_there t M v l =
      let s = l.solution in
      record {
        structure = l.structure;
        held = l.held;
        solution = (s.0, s.1, solution_there g rules f back m n t s.0 s.1 s.2, s.3);
        least = λ G w q. l.least G w (solution_back t (least_has g t M v l) G w q);
      }

  follows_there : (a b : Derivation) → MayFollow g a b → MayFollow other (counterpart f a) (counterpart f b)
  follows_there a b q =
      let there = least_has g b q.B q.begun q.least_begun in
      record {
        A = q.A;
        active = q.active;
        least_active = least_there a q.A q.active q.least_active;
        next = q.next;
        next_slot = subst (λ s. arc q.A q.active (suc s) ≡ Some q.next) (sym (seen_same f a)) q.next_slot;
        B = q.B;
        begun = q.begun;
        least_begun = least_there b q.B q.begun q.least_begun;
        mother = q.mother;
        is_mother = record { complete = λ r. q.is_mother.complete (complete_back g rules f back m n b there r); partial = λ r. q.is_mother.partial (partial_back g rules f back m n b there r) };
        compatible = q.compatible;
      }

  chart_there : (cat : ℕ) (ws : List ℕ) (t : Derivation) → InChart (solved g cat) g ws t → InChart (solved other cat) other ws (counterpart f t)
  chart_there cat ws t (InChart.word e k i i' entry q w j edge) = InChart.word e k i i' entry q w j (solvable_there (Leaf e k i i') edge)
  chart_there cat ws t (InChart.first r k rule q s edge) = InChart.first (f r k).0 (f r k).1 rule (m.there r k rule q) s (solvable_there (Begin r k 0) edge)
  chart_there cat ws t (InChart.predicted a r k i h part q edge may) =
      InChart.predicted (counterpart f a) (f r k).0 (f r k).1 i (chart_there cat ws a h) (partial_there g rules f back m a part) (end_same f a ∙ q) (solvable_there (Begin r k i) edge) (follows_there a (Begin r k i) may)
  chart_there cat ws t (InChart.extended a p h part hp full q edge) =
      InChart.extended (counterpart f a) (counterpart f p) (chart_there cat ws a h) (partial_there g rules f back m a part) (chart_there cat ws p hp) (complete_there g rules f back m p full)
      (end_same f a ∙ (q ∙ sym (start_same f p))) (solvable_there (Extend a p) edge)

  analysis_there : (cat : ℕ) (ws : List ℕ) (t : Derivation) → IsAnalysis (solved g cat) g ws t → IsAnalysis (solved other cat) other ws (counterpart f t)
  analysis_there cat ws t a = record {
    derivation = derivation_there g rules f back m ws t a.derivation;
    complete = complete_there g rules f back m t a.complete;
    start = start_same f t ∙ a.start;
    end = end_same f t ∙ a.end;
    edge = solvable_there t a.edge;
    whole = (a.whole.0, a.whole.1, least_there t a.whole.0 a.whole.1 a.whole.2, a.whole.3);
  }

-- ---- what corresponds

chart_solvable : (g : Rules) (cat : ℕ) (ws : List ℕ) (t : Derivation) → InChart (solved g cat) g ws t → IsSolvable g t
chart_solvable g cat ws t (InChart.word e k i i' entry q w j edge) = edge
chart_solvable g cat ws t (InChart.first r k rule q s edge) = edge
chart_solvable g cat ws t (InChart.predicted a r k i h part q edge may) = edge
chart_solvable g cat ws t (InChart.extended a p h part hp full q edge) = edge

module _ (g : Rules) (rules : List (List RuleVariant)) (f back : Numbers) (m : AreNumbered g (record g { rules = rules }) f back) (n : AreNumbered (record g { rules = rules }) g back f) where
  -- a property that both ways keep
  back_from : (P : Derivation → Type 0) (Q : Derivation → Type 0) → ((u : Derivation) → Q u → P (counterpart back u)) → (t : Derivation) → AreThere g t → Q (counterpart f t) → P t
  back_from P Q go t a q = subst P (comes_again g rules f back m t a) (go (counterpart f t) q)

  are_alike : (t : Derivation) → AreThere g t → AreAlike g (record g { rules = rules }) t (counterpart f t)
  are_alike t a =
      let other : Rules = record g { rules = rules } in
      record {
        start_is = start_same f t;
        end_is = end_same f t;
        size_is = size_same f t;
        category = category_same g rules f back m t a;
        text = λ l. ap (λ x. x ++ codes ")") (text_same g rules f back m l t a);
        solution = λ G v. (solution_there g rules f back m n t G v, solution_back g rules f back m n t a G v);
        solvable = (solvable_there g rules f back m n t, back_from (IsSolvable g) (IsSolvable other) (solvable_there other g.rules back f n m) t a);
        least = λ M v. (least_there g rules f back m n t M v, back_from (λ u. IsLeastValue g u M v) (λ u. IsLeastValue other u M v) (λ u. least_there other g.rules back f n m u M v) t a);
        edge = λ cat ws. (chart_there g rules f back m n cat ws t, back_from (InChart (solved g cat) g ws) (InChart (solved other cat) other ws) (chart_there other g.rules back f n m cat ws) t a);
        analysis = λ cat ws. (
          analysis_there g rules f back m n cat ws t,
          back_from (IsAnalysis (solved g cat) g ws) (IsAnalysis (solved other cat) other ws) (analysis_there other g.rules back f n m cat ws) t a,
        );
      }

  -- a list of all that have a property
  module _ (P Q : Derivation → Type 0) (forth : (t : Derivation) → P t → Q (counterpart f t)) (home : (u : Derivation) → Q u → P (counterpart back u))
      (there : (t : Derivation) → P t → AreThere g t) (there' : (u : Derivation) → Q u → AreThere (record g { rules = rules }) u) (ts : List Derivation) (all : AllByRecursion P ts) where
    all_there : AllByRecursion Q (map (counterpart f) ts)
    all_there = all_map Q (counterpart f) P forth ts all

    once_there : NoRepeats ts → NoRepeats (map (counterpart f) ts)
    once_there once = once_map (counterpart f) ts once (λ x y i j e.
        sym (comes_again g rules f back m x (there x (all_in P ts x all i))) ∙ (ap (counterpart back) e ∙ comes_again g rules f back m y (there y (all_in P ts y all j))))

    every_there : ((t : Derivation) → P t → IsIn ts t) → (u : Derivation) → Q u → IsIn (map (counterpart f) ts) u
    every_there every u q =
        subst (IsIn (map (counterpart f) ts)) (comes_again (record g { rules = rules }) g.rules back f n u (there' u q)) (in_map (counterpart f) ts (counterpart back u) (every (counterpart back u) (home u q)))

  pub have_counterparts : HaveCounterparts g (record g { rules = rules }) f back
  have_counterparts =
      let other : Rules = record g { rules = rules } in
      let edges = λ (cat : ℕ) (ws : List ℕ) (t : Derivation) (e : InChart (solved g cat) g ws t). edge_there g t (chart_solvable g cat ws t e) in
      record {
        numbers = m;
        derivation = derivation_there g rules f back m;
        again = λ ws t d. comes_again g rules f back m t (derived_there g ws t d);
        alike = λ ws t d. are_alike t (derived_there g ws t d);
        chart = λ cat ws ts x.
            let P = InChart (solved g cat) g ws in
            let Q = InChart (solved other cat) other ws in
            let forth = chart_there g rules f back m n cat ws in
            let home = chart_there other g.rules back f n m cat ws in
            let there' = λ (u : Derivation) (e : Q u). edge_there other u (chart_solvable other cat ws u e) in
            record {
              once = once_there P Q forth home (edges cat ws) there' ts x.edges x.once;
              edges = all_there P Q forth home (edges cat ws) there' ts x.edges;
              every = every_there P Q forth home (edges cat ws) there' ts x.edges x.every;
            };
        analyses = λ cat ws ts x.
            let P = IsAnalysis (solved g cat) g ws in
            let Q = IsAnalysis (solved other cat) other ws in
            let forth = analysis_there g rules f back m n cat ws in
            let home = analysis_there other g.rules back f n m cat ws in
            let there = λ (t : Derivation) (a : P t). edge_there g t a.edge in
            let there' = λ (u : Derivation) (a : Q u). edge_there other u a.edge in
            record {
              once = once_there P Q forth home there there' ts x.each x.once;
              each = all_there P Q forth home there there' ts x.each;
              every = every_there P Q forth home there there' ts x.each x.every;
            };
        more = λ cat ws limit x. more_there cat ws limit x;
      }
    where
      more_there : (cat : ℕ) (ws : List ℕ) (limit : ℕ) → HasMoreThan (solved g cat) g ws limit → HasMoreThan (solved (record g { rules = rules }) cat) (record g { rules = rules }) ws limit
      more_there cat ws limit (inl x) = inl (
        map (counterpart f) x.0,
        once_there (InChart (solved g cat) g ws) (InChart (solved (record g { rules = rules }) cat) (record g { rules = rules }) ws) (chart_there g rules f back m n cat ws)
            (chart_there (record g { rules = rules }) g.rules back f n m cat ws) (λ t e. edge_there g t (chart_solvable g cat ws t e))
            (λ u e. edge_there (record g { rules = rules }) u (chart_solvable (record g { rules = rules }) cat ws u e)) x.0 x.2 x.1,
        all_map (InChart (solved (record g { rules = rules }) cat) (record g { rules = rules }) ws) (counterpart f) (InChart (solved g cat) g ws) (chart_there g rules f back m n cat ws) x.0 x.2,
        subst (λ k. limit < k) (sym (length-map x.0 (counterpart f))) x.3,
      )
      more_there cat ws limit (inr x) = inr (counterpart f x.0, chart_there g rules f back m n cat ws x.0 x.1, subst (λ k. limit < k) (sym (size_same f x.0)) x.2)

-- variants that are numbered otherwise give the same trees
pub same_trees : (g : Rules) (rules : List (List RuleVariant)) (f back : Numbers) → AreNumbered g (record g { rules = rules }) f back → AreNumbered (record g { rules = rules }) g back f
    → GiveSameTrees g (record g { rules = rules })
same_trees g rules f back m n = record { to = f; from = back; forth = have_counterparts g rules f back m n; back = have_counterparts (record g { rules = rules }) g.rules back f n m }
