-- What does not depend on the restrictor, and what falls with it.
use Rattle.std.proofs.Common.{◌≡◌, inl, inr, ℕ, suc, Bool, true, false, List, [], ◌∷◌, ◌++◌, map, length, append-nil, Some, option_and_then, slice_get, arith, refl, sym, ap, ◌∙◌, subst, codes, decimal}
use Rattle.std.proofs.lemmas.Option.{slice_get-map}
use Rattle.std.specs.Option.{option_map}
use Rattle.std.specs.List.{AllByRecursion}
use Rattle.patr_lists.proofs.Members.{no_longer}
use Rattle.patr_lists.proofs.Alls.{all_at, all_in}
use Rattle.patr_model.specs.Structure.{Value, Atom, Structure}
use Rattle.patr_model.specs.Category.{atom_at, category, AreCompatible}
use Rattle.patr_model.specs.Derivation.{Rules, Derivation, Leaf, Begin, Extend, entry_variant, rule_variant, root_rule, IsPartial, IsComplete}
use Rattle.patr_model.specs.Solution.{Solves, Solution, IsSolvable, IsLeastValue}
use Rattle.patr_model.specs.Solved.{MayFollow, HasStart, solved}
use Rattle.patr_model.specs.Chart.{InChart, IsDerivation, IsAnalysis}
use Rattle.patr_model.specs.Session.{Grounds, State, cat_of, look_of, line, IsKnown, AreAnalyses, ListsAnalyses, CountsEdges, ListsAll, IsSentenceReply, too_long, unknown, too_many, analyses}
use Rattle.patr_model.specs.Text.{printed, entry_category, entry_word, mother_category, open_tree, tree_text}
use Rattle.patr_model.proofs.Maps.{some_inj}
use Rattle.patr_model.proofs.Total.{map_some}
use Rattle.patr_model.proofs.Canonical.{least_texts}
use Rattle.patr_model.proofs.Replies.{one_reply}
use Rattle.patr_model.proofs.StatedCategories.{are_built}
use Rattle.patr_model.specs.Bytes.{same_text}
use Rattle.patr_model.specs.Build.{keys_of, grounds}
use Rattle.patr_totality.proofs.Ready.{builds_are_ready}
use Rattle.patr_totality.specs.Laws.{AreReady}
use Rattle.patr_totality.proofs.Charts.{drops_none}
use Rattle.patr_consequences.specs.Laws.{LongerRestrictorsRefuseLess, BuildsKeepAnalyses, with_restrictor, SameButRestrictor, IsAnalysisInChart, RestrictorsKeepAnalyses, IsNotRefused, with_rules, RestrictorsKeepLines, AreAmong, LongerRestrictorsGiveNoOtherEdges}

-- ---- what is said of derivations

same_rules : (g h : Rules) → SameButRestrictor g h → (r k : ℕ) → rule_variant g r k ≡ rule_variant h r k
same_rules g h same r k = ap (λ rs. option_and_then (λ vs. slice_get vs k) (slice_get rs r)) same.rules

same_entries : (g h : Rules) → SameButRestrictor g h → (e k : ℕ) → entry_variant g e k ≡ entry_variant h e k
same_entries g h same e k = ap (λ es. option_and_then (λ vs. slice_get vs k) (slice_get es e)) same.entries

other : (g h : Rules) → SameButRestrictor g h → SameButRestrictor h g
other g h same = record { rules = sym same.rules; entries = sym same.entries; start = sym same.start }

module _ (g h : Rules) (same : SameButRestrictor g h) where
  root_same : (t : Derivation) → root_rule g t ≡ root_rule h t
  root_same (Leaf e k i j) = refl
  root_same (Begin r k i) = same_rules g h same r k
  root_same (Extend a p) = root_same a

  partial_same : (t : Derivation) → IsPartial g t → IsPartial h t
  partial_same t p = (p.0, sym (root_same t) ∙ p.1, p.2)

  complete_same : (t : Derivation) → IsComplete g t → IsComplete h t
  complete_same (Leaf e k i j) c = tt
  complete_same (Begin r k i) c = (c.0, sym (same_rules g h same r k) ∙ c.1, c.2)
  complete_same (Extend a p) c = (c.0, sym (root_same a) ∙ c.1, c.2)

  derivation_same : (ws : List ℕ) (t : Derivation) → IsDerivation g ws t → IsDerivation h ws t
  derivation_same ws (Leaf e k i j) d = (d.0, sym (same_entries g h same e k) ∙ d.1, d.2, d.3)
  derivation_same ws (Begin r k i) d = (d.0, sym (same_rules g h same r k) ∙ d.1)
  derivation_same ws (Extend a p) d = (derivation_same ws a d.0, derivation_same ws p d.1, partial_same a d.2, complete_same p d.3, d.4)

  solves_same : (t : Derivation) (G : Structure) (vs : List Value) → Solves g t G vs → Solves h t G vs
  solves_same (Leaf e k i j) G vs s = (s.0, s.1, sym (same_entries g h same e k) ∙ s.2, s.3, s.4)
  solves_same (Begin r k i) G vs s = (s.0, sym (same_rules g h same r k) ∙ s.1, s.2)
  solves_same (Extend a p) G vs s = (solves_same a G vs s.0, s.1, s.2, s.3, solves_same p G (s.1 ∷ s.2) s.4)

  ready_same : (cat : ℕ) → AreReady g cat → AreReady h cat
  ready_same cat made = record {
    categories = record {
      rules = λ r k rule q. made.categories.rules r k rule (same_rules g h same r k ∙ q);
      entries = λ e k entry q. made.categories.entries e k entry (same_entries g h same e k ∙ q);
    };
    states = λ r k rule q. made.states r k rule (same_rules g h same r k ∙ q);
    within = record {
      rules = λ r k rule q. made.within.rules r k rule (same_rules g h same r k ∙ q);
      entries = λ e k entry q. made.within.entries e k entry (same_entries g h same e k ∙ q);
    };
    chains = λ e k entry q. made.chains e k entry (same_entries g h same e k ∙ q);
  }

  open_same : (s : Grounds) (t : Derivation) → open_tree (look_of s) g t ≡ open_tree (look_of s) h t
  open_same s (Leaf e k i j) = ap (λ o. codes "(" ++ printed (s.names.text (entry_category o)) ++ codes " " ++ printed (s.names.text (entry_word o))) (same_entries g h same e k)
  open_same s (Begin r k i) = ap (λ o. codes "(" ++ printed (s.names.text (mother_category o))) (same_rules g h same r k)
  open_same s (Extend a p) =
      ap (λ u. u ++ codes " " ++ open_tree (look_of s) g p ++ codes ")") (open_same s a)
      ∙ ap (λ u. open_tree (look_of s) h a ++ codes " " ++ u ++ codes ")") (open_same s p)

  tree_same : (s : Grounds) (t : Derivation) → tree_text (look_of s) g t ≡ tree_text (look_of s) h t
  tree_same s t = ap (λ u. u ++ codes ")") (open_same s t)

module _ (g h : Rules) (same : SameButRestrictor g h) where
  solution_same : (t : Derivation) (G : Structure) (v : Value) → Solution g t G v → Solution h t G v
  solution_same t G v s = record {
    structure = s.structure;
    slots = s.slots;
    solves = solves_same g h same t G s.slots s.solves;
    value = record {
      held = s.value.held;
      complete = λ c. s.value.complete (complete_same h g (other g h same) t c);
      partial = λ c. s.value.partial (partial_same h g (other g h same) t c);
    };
  }

  pub solvable_same : (t : Derivation) → IsSolvable g t → IsSolvable h t
  solvable_same t s = (s.0, s.1, solution_same t s.0 s.1 s.2)

module _ (g h : Rules) (same : SameButRestrictor g h) where
  least_same : (t : Derivation) (M : Structure) (m : Value) → IsLeastValue g t M m → IsLeastValue h t M m
  least_same t M m l = record {
    structure = l.structure;
    held = l.held;
    solution = let s = l.solution in (s.0, s.1, solution_same g h same t s.0 s.1 s.2, s.3);
    least = λ G v s. l.least G v (solution_same h g (other g h same) t G v s);
  }

  start_same : (cat : ℕ) (t : Derivation) → HasStart g cat t → HasStart h cat t
  start_same cat t s = (s.0, s.1, least_same t s.0 s.1 s.2, s.3 ∙ ap (λ x. Some (Atom x)) same.start)

  analysis_same : (cat : ℕ) (ws : List ℕ) (t : Derivation) → IsAnalysis (solved g cat) g ws t → IsAnalysis (solved h cat) h ws t
  analysis_same cat ws t a = record {
    derivation = derivation_same g h same ws t a.derivation;
    complete = complete_same g h same t a.complete;
    start = a.start;
    end = a.end;
    edge = solvable_same g h same t a.edge;
    whole = start_same cat t a.whole;
  }

  in_both : (cat : ℕ) → AreReady h cat → (ws : List ℕ) (t : Derivation) → IsAnalysisInChart g cat ws t → IsAnalysisInChart h cat ws t
  in_both cat made ws t a = let b = analysis_same cat ws t a.1 in (drops_none h cat made ws t b, b)

pub keep_analyses : RestrictorsKeepAnalyses
keep_analyses g h cat same made ws t = (in_both g h same cat (ready_same g h same cat made) ws t, in_both h g (other g h same) cat made ws t)

-- ---- replies

module _ (s : Grounds) (h : Rules) (same : SameButRestrictor s.rules h) where
  abbrev S' : Grounds
  S' = with_rules s h

  all_same : (ws : List ℕ) (ts : List Derivation) → AllByRecursion (IsAnalysis (solved s.rules (cat_of s)) s.rules ws) ts → AllByRecursion (IsAnalysis (solved h (cat_of s)) h ws) ts
  all_same ws [] a = tt
  all_same ws (t ∷ ts) a = (analysis_same s.rules h same (cat_of s) ws t a.0, all_same ws ts a.1)

  analyses_same : (ws : List ℕ) (ts : List Derivation) → AreAnalyses solved s ws ts → AreAnalyses solved S' ws ts
  analyses_same ws ts a = record {
    rises = a.rises;
    each = all_same ws ts a.each;
    every = λ t b. a.every t (analysis_same h s.rules (other s.rules h same) (cat_of s) ws t b);
  }

  lines_same : (f : Bool) (n : ℕ) (ts : List Derivation) (text : List ℕ) → ListsAnalyses solved s f n ts text → ListsAnalyses solved S' f n ts text
  lines_same f n [] text l = l
  lines_same false n (t ∷ ts) text l =
      (l.0, lines_same false (suc n) ts l.0 l.1, l.2 ∙ ap (λ u. line (decimal n ++ codes " " ++ u) ++ l.0) (tree_same s.rules h same s t))
  lines_same true n (t ∷ ts) text l = (
    l.0,
    l.1,
    (l.2.0, l.2.1, least_same s.rules h same t l.2.0 l.2.1 l.2.2, l.2.3),
    lines_same true (suc n) ts l.1 l.3,
    l.4 ∙ ap (λ u. line (decimal n ++ codes " " ++ u) ++ line (codes "  " ++ l.0) ++ l.1) (tree_same s.rules h same s t),
  )

-- a reply to a sentence that is not refused lists its analyses
listed : (s : Grounds) (st : State) (ws : List (List ℕ)) (x : List ℕ) → IsNotRefused s st ws → IsSentenceReply solved s st ws x → ListsAll solved s st (map s.names.number ws) x
listed s st ws x fine (too_long l e) = absurd (omega (arith, l, fine.few))
listed s st ws x fine (unknown p w k u e) = absurd (u.3 (all_at (IsKnown s) ws fine.known u.0 w u.2))
listed s st ws x fine (too_many k all more e) = absurd (fine.within more)
listed s st ws x fine (analyses k all less e) = e

pub keep_lines : RestrictorsKeepLines
keep_lines s h same made st ws fine fine' x y rx ry =
    let a = listed s st ws x fine rx in
    let b = listed (with_rules s h) st ws y fine' ry in
    let vs = map s.names.number ws in
    let few : State = record st { count = false } in
    let are = analyses_same s h same vs a.0 a.3 in
    let L = line (codes "analyses " ++ decimal (length a.0)) in
    let L' = line (codes "analyses " ++ decimal (length b.0)) in
    let one : L ++ a.1 ++ [] ≡ L' ++ b.1 ++ [] = one_reply solved (with_rules s h) (least_texts (with_rules s h)) few ws (L ++ a.1 ++ []) (L' ++ b.1 ++ [])
    (analyses fine'.few fine'.known fine'.within (a.0, a.1, [], are, lines_same s h same st.features 1 a.0 a.1 a.4, refl, refl))
    (analyses fine'.few fine'.known fine'.within (b.0, b.1, [], b.3, b.4, refl, refl)) in
    let one' : L ++ a.1 ≡ L' ++ b.1 = sym (append-nil (L ++ a.1)) ∙ (one ∙ append-nil (L' ++ b.1)) in
    let text' : y ≡ L ++ a.1 ++ b.2 = b.6 ∙ ap (λ u. u ++ b.2) (sym one') in
    record {
      analyses = a.0;
      are = a.3;
      are_other = are;
      body = a.1;
      tail = a.2;
      other_tail = b.2;
      text = a.6;
      other_text = text';
      counts = a.5;
      other_counts = b.5;
      same = λ e.
          let none : a.2 ≡ [] = subst (λ c. CountsEdges solved s vs c a.2) e a.5 in
          let none' : b.2 ≡ [] = subst (λ c. CountsEdges solved (with_rules s h) vs c b.2) e b.5 in
          a.6 ∙ (ap (λ u. L ++ a.1 ++ u) (none ∙ sym none') ∙ sym text');
    }

-- ---- fewer edges

module _ (g h : Rules) (same : SameButRestrictor g h) (among : AreAmong g.restrictor h.restrictor) where
  compatible_same : (A : Structure) (x : Value) (B : Structure) (y : Value) → AreCompatible (category h.restrictor A x) (category h.restrictor B y) → AreCompatible (category g.restrictor A x) (category g.restrictor B y)
  compatible_same A x B y all k c d e f =
      let s = map_some (atom_at A x) (slice_get g.restrictor k) (Some c) (sym (slice_get-map (atom_at A x) g.restrictor k) ∙ e) in
      let t = map_some (atom_at B y) (slice_get g.restrictor k) (Some d) (sym (slice_get-map (atom_at B y) g.restrictor k) ∙ f) in
      let q : s.0 ≡ t.0 = some_inj s.0 t.0 (sym s.1 ∙ t.1) in
      let j = among k s.0 s.1 in
      all j.0 c d
      (slice_get-map (atom_at A x) h.restrictor j.0 ∙ (ap (option_map (atom_at A x)) j.1 ∙ ap (λ o. Some o) (sym s.2)))
      (slice_get-map (atom_at B y) h.restrictor j.0 ∙ (ap (option_map (atom_at B y)) j.1 ∙ ap (λ o. Some o) (ap (atom_at B y) q ∙ sym t.2)))

  may_same : (a b : Derivation) → MayFollow h a b → MayFollow g a b
  may_same a b m = record {
    A = m.A;
    active = m.active;
    least_active = least_same h g (other g h same) a m.A m.active m.least_active;
    next = m.next;
    next_slot = m.next_slot;
    B = m.B;
    begun = m.begun;
    least_begun = least_same h g (other g h same) b m.B m.begun m.least_begun;
    mother = m.mother;
    is_mother = record {
      complete = λ c. m.is_mother.complete (complete_same g h same b c);
      partial = λ c. m.is_mother.partial (partial_same g h same b c);
    };
    compatible = compatible_same m.A m.next m.B m.mother m.compatible;
  }

  edge_same : (cat : ℕ) (ws : List ℕ) (t : Derivation) → InChart (solved h cat) h ws t → InChart (solved g cat) g ws t
  edge_same cat ws t (InChart.word e k i i' entry q w n edge) = InChart.word e k i i' entry (same_entries g h same e k ∙ q) w n (solvable_same h g (other g h same) (Leaf e k i i') edge)
  edge_same cat ws t (InChart.first r k rule q c edge) = InChart.first r k rule (same_rules g h same r k ∙ q) (c ∙ ap (λ x. Some x) (sym same.start)) (solvable_same h g (other g h same) (Begin r k 0) edge)
  edge_same cat ws t (InChart.predicted a r k i c part q edge may) =
      InChart.predicted a r k i (edge_same cat ws a c) (partial_same h g (other g h same) a part) q (solvable_same h g (other g h same) (Begin r k i) edge) (may_same a (Begin r k i) may)
  edge_same cat ws t (InChart.extended a p c part d full q edge) =
      InChart.extended a p (edge_same cat ws a c) (partial_same h g (other g h same) a part) (edge_same cat ws p d) (complete_same h g (other g h same) p full) q (solvable_same h g (other g h same) (Extend a p) edge)

  all_edges_same : (cat : ℕ) (ws : List ℕ) (ts : List Derivation) → AllByRecursion (InChart (solved h cat) h ws) ts → AllByRecursion (InChart (solved g cat) g ws) ts
  all_edges_same cat ws [] c = tt
  all_edges_same cat ws (t ∷ ts) c = (edge_same cat ws t c.0, all_edges_same cat ws ts c.1)

pub no_other_edges : LongerRestrictorsGiveNoOtherEdges
no_other_edges g h cat same among ws = record {
  edges = edge_same g h same among cat ws;
  count = λ ts us c d. no_longer us ts d.once (λ t i. c.every t (edge_same g h same among cat ws t (all_in (InChart (solved h cat) h ws) us t d.edges i)));
  limit = λ n m. elim m [
    | inl m ↦ inl (m.0, m.1, all_edges_same g h same among cat ws m.0 m.2, m.3)
    | inr m ↦ inr (m.0, edge_same g h same among cat ws m.0 m.1, m.2)
  ];
}

all_known : (s : Grounds) (h : Rules) → SameButRestrictor s.rules h → (ws : List (List ℕ)) → AllByRecursion (IsKnown s) ws → AllByRecursion (IsKnown (with_rules s h)) ws
all_known s h same [] a = tt
all_known s h same (w ∷ ws) a = ((a.0.0, a.0.1, a.0.2, sym (same_entries s.rules h same a.0.0 a.0.1) ∙ a.0.3, a.0.4), all_known s h same ws a.1)

pub refuse_less : LongerRestrictorsRefuseLess
refuse_less s h same among st ws fine = record {
  few = fine.few;
  known = all_known s h same ws fine.known;
  within = λ more. fine.within ((no_other_edges s.rules h (cat_of s) same among (map s.names.number ws)).limit st.limit more);
}

-- ---- what is built

pub builds_keep : BuildsKeepAnalyses
builds_keep N g l paths =
    let s = grounds N g l in
    let h = (grounds N (with_restrictor g paths) l).rules in
    let same : SameButRestrictor s.rules h = record { rules = refl; entries = refl; start = refl } in
    let made : AreReady s.rules (cat_of s) = builds_are_ready s.rules (cat_of s) (are_built N.number same_text (keys_of N) g l) in
    record {
      analyses = keep_analyses s.rules h (cat_of s) same made;
      lines = keep_lines s h same made;
      edges = no_other_edges s.rules h (cat_of s) same;
    }
