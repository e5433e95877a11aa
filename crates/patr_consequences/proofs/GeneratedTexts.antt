-- The built grammar and lexicon are the generated rules, and what follows for their charts.
use Rattle.std.proofs.Common.{◌≡◌, ℕ, zero, suc, ◌+◌, ◌-◌, ◌*◌, ◌/◌, ◌^◌, ◌<◌, ◌≤◌, inl, eq-eqb, ne_eqb, List, [], ◌∷◌, map, length, get_or, drop, Some, codes, decimal, refl, sym, ap, ◌∙◌, arith, subst}
use Rattle.std.proofs.lemmas.Fmt.{decimal_injective}
use Rattle.std.proofs.lemmas.Nat.{mul-le}
use Rattle.std.proofs.Math.Nat.{div-le_self}
use Rattle.std.specs.List.{AllByRecursion}
use Rattle.patr_lists.proofs.Alls.{all_in, all_each}
use Rattle.patr_lists.proofs.Members.{no_longer}
use Rattle.patr_lists.specs.Members.{IsIn}
use Rattle.patr_model.specs.Derivation.{Rules, Derivation, start, end, IsComplete}
use Rattle.patr_model.specs.Chart.{InChart, IsChart}
use Rattle.patr_model.specs.Solved.{solved}
use Rattle.patr_model.specs.Plain.{category_of}
use Rattle.patr_model.specs.Builds.{AreBuilt}
use Rattle.patr_model.proofs.Agreeing.{one_text}
use Rattle.patr_model.proofs.Maps.{some_inj}
use Rattle.patr_model.proofs.Rounds.{rounds}
use Rattle.patr_model.proofs.Steps.{partial_or_complete}
use Rattle.patr_model.proofs.StatedCategories.{are_built}
use Rattle.patr_model.proofs.Wholes.{solved_go_by_category}
use Rattle.patr_totality.proofs.Charts.{edge_derivation, edge_solvable, edge_least, drops_none}
use Rattle.patr_model.specs.Session.{Numbering}
use Rattle.patr_model.specs.Bytes.{same_text}
use Rattle.patr_model.specs.Build.{keys_of, rule_variants, entry_variants}
use Rattle.patr_consequences.specs.Generator as generator
use Rattle.patr_consequences.specs.Generator.{generated_rules, generated_words, generated_entries, AreDifferent, numbered, edge_count, IsCounted, IsOnlyAnalysis, ChartsOfWordsAreCounted, GeneratedChartsAreCounted}
use Rattle.patr_consequences.specs.Edges.{rule as B, active as A, tree as T, all_edges as edges}
use Rattle.patr_consequences.proofs.Generated.{Symbols, AreApart, more_rule, last_rule, entry_of, generated, entries_from, words_from, words_length, whole_complete, last_partial, more_partial, after_partial}
use Rattle.patr_consequences.proofs.GeneratedCharts.{Shape, word, more, last, behind, whole, whole_start, whole_end, made, shape_in, in_shape, whole_category, word_category}
use Rattle.patr_consequences.proofs.GeneratedCounts.{edges_once, edges_length, shape_listed, listed_shape, shape_size}

module _ (N : Numbering) (w : ℕ → List ℕ) where
  -- the numbers
  abbrev pub symbols : Symbols
  symbols = record {
    cat = N.number (codes "cat");
    lex = N.number (codes "lex");
    agr = N.number (codes "agr");
    num = N.number (codes "num");
    head = N.number (codes "first");
    tail = N.number (codes "rest");
    S = N.number (codes "S");
    W = N.number (codes "W");
    sg = N.number (codes "sg");
    word = λ k. N.number (w k);
  }

  same_entries : (k n : ℕ) → map (entry_variants N.number same_text (keys_of N) []) (generator.from (generator.entry w) k n) ≡ entries_from symbols k n
  same_entries k zero = refl
  same_entries k (suc n) = ap (λ es. (entry_of symbols k ∷ []) ∷ es) (same_entries (suc k) n)

  same_words : (k n : ℕ) → map N.number (generator.from w k n) ≡ words_from symbols k n
  same_words k zero = refl
  same_words k (suc n) = ap (λ ws. symbols.word k ∷ ws) (same_words (suc k) n)

  -- texts that differ at a place
  differ : (i : ℕ) (a b : List ℕ) → (get_or a i 0 ≡ get_or b i 0 → ⊥) → N.number a ≡ N.number b → ⊥
  differ i a b h e = h (ap (λ l. get_or l i 0) (one_text N a b e))

  S_W : symbols.S ≡ symbols.W → ⊥
  S_W = differ 0 (codes "S") (codes "W") (λ q. let bad : 83 ≡ 87 = q in omega (arith, bad))

  S_S' : symbols.S ≡ N.number (codes "S_1") → ⊥
  S_S' = differ 1 (codes "S") (codes "S_1") (λ q. let bad : 0 ≡ 95 = q in omega (arith, bad))

  W_S' : symbols.W ≡ N.number (codes "S_1") → ⊥
  W_S' = differ 0 (codes "W") (codes "S_1") (λ q. let bad : 87 ≡ 83 = q in omega (arith, bad))

  pub apart : AreApart symbols
  apart = record {
    cat_lex = differ 0 (codes "cat") (codes "lex") (λ q. let bad : 99 ≡ 108 = q in omega (arith, bad));
    cat_agr = differ 0 (codes "cat") (codes "agr") (λ q. let bad : 99 ≡ 97 = q in omega (arith, bad));
    cat_head = differ 0 (codes "cat") (codes "first") (λ q. let bad : 99 ≡ 102 = q in omega (arith, bad));
    cat_tail = differ 0 (codes "cat") (codes "rest") (λ q. let bad : 99 ≡ 114 = q in omega (arith, bad));
    lex_agr = differ 0 (codes "lex") (codes "agr") (λ q. let bad : 108 ≡ 97 = q in omega (arith, bad));
    agr_head = differ 0 (codes "agr") (codes "first") (λ q. let bad : 97 ≡ 102 = q in omega (arith, bad));
    agr_tail = differ 0 (codes "agr") (codes "rest") (λ q. let bad : 97 ≡ 114 = q in omega (arith, bad));
    head_tail = differ 0 (codes "first") (codes "rest") (λ q. let bad : 102 ≡ 114 = q in omega (arith, bad));
    S_W = S_W;
  }

  words_differ : (n : ℕ) → AreDifferent w n → (i j : ℕ) → i < n → j < n → symbols.word i ≡ symbols.word j → i ≡ j
  words_differ n differ i j hi hj e = differ i j hi hj (one_text N (w i) (w j) e)

  same_more : rule_variants N.number symbols.cat generator.more_rule ≡ more_rule symbols ∷ []
  same_more =
      rw (
        eq-eqb symbols.S symbols.S refl,
        ne_eqb symbols.S symbols.W S_W,
        eq-eqb symbols.W symbols.W refl,
        ne_eqb symbols.S (N.number (codes "S_1")) S_S',
        ne_eqb symbols.W (N.number (codes "S_1")) W_S',
        eq-eqb (N.number (codes "S_1")) (N.number (codes "S_1")) refl,
      ) refl

  same_last : rule_variants N.number symbols.cat generator.last_rule ≡ last_rule symbols ∷ []
  same_last = rw (eq-eqb symbols.S symbols.S refl, ne_eqb symbols.S symbols.W S_W, eq-eqb symbols.W symbols.W refl) refl

  pub same_rules : (n : ℕ) → generated_rules N w n ≡ generated symbols n
  same_rules n = λ i. record {
    rules = same_more i ∷ same_last i ∷ [];
    entries = same_entries 0 n i;
    start = symbols.S;
    restrictor = (symbols.cat ∷ []) ∷ [];
  }

module _ (s : Symbols) (apart : AreApart s) (n : ℕ) (words : (i j : ℕ) → i < n → j < n → s.word i ≡ s.word j → i ≡ j) (built : AreBuilt (generated s n) s.cat) where
  abbrev g : Rules
  g = generated s n

  abbrev ws : List ℕ
  ws = words_from s 0 n

  abbrev Edge : Derivation → Type 0
  Edge = InChart (solved g s.cat) g ws

  all : AllByRecursion Edge (edges n)
  all = all_each Edge (edges n) (λ t h. shape_in s apart n words built t (listed_shape n t h))

  every : (t : Derivation) → Edge t → IsIn (edges n) t
  every t h = shape_listed n t (in_shape s apart n words built t h)

  chart : IsChart (solved g s.cat) g ws (edges n)
  chart = record { once = edges_once n; edges = all; every = every }

  counted : IsCounted g s.cat ws n
  counted = record {
    chart = chart;
    count = edges_length n;
    each_chart = λ ts c.
        let le = no_longer ts (edges n) c.once (λ t h. every t (all_in Edge ts t c.edges h)) in
        let ge = no_longer (edges n) ts (edges_once n) (λ t h. c.every t (all_in Edge (edges n) t all h)) in
        let same : length ts ≡ length (edges n) = omega (arith, le, ge) in
        same ∙ edges_length n;
    passes = λ limit h. inl (edges n, edges_once n, all, omega (arith, h, edges_length n));
    keeps = λ limit h passed. (rounds (solved g s.cat) g ws).keeps (edges n) limit chart (omega (arith, h, edges_length n)) (λ t i. omega (arith, h, shape_size n t (listed_shape n t i))) passed;
  }

  -- the analysis of a derivation
  analysis_is : (m : ℕ) → n ≡ suc m → (t : Derivation) → Shape n t → IsComplete g t → start t ≡ 0 → end t ≡ n → category_of g t ≡ Some s.S → t ≡ T m 0
  analysis_is m q t (word i h e) full st en c =
      let at_word : category_of g t ≡ Some s.W = subst (λ u. category_of g u ≡ Some s.W) e (word_category s apart n words built i h) in
      absurd (apart.S_W (some_inj s.S s.W (sym c ∙ at_word)))
  analysis_is m q t (more i h e) full st en c = absurd (partial_or_complete g (B 0 i) (more_partial s apart n i) (subst (IsComplete g) (sym e) full))
  analysis_is m q t (last i h e) full st en c = absurd (partial_or_complete g (B 1 i) (last_partial s apart n i) (subst (IsComplete g) (sym e) full))
  analysis_is m q t (behind i h e) full st en c = absurd (partial_or_complete g (A i) (after_partial s apart n i) (subst (IsComplete g) (sym e) full))
  analysis_is m q t (whole d i h e) full st en c =
      let begins : i ≡ 0 = sym (whole_start d i) ∙ (ap start e ∙ st) in
      let ends : suc (i + d) ≡ n = sym (whole_end d i) ∙ (ap end e ∙ en) in
      let most : d ≡ m = omega (arith, begins, ends, q) in
      sym e ∙ (ap (T d) begins ∙ ap (λ x. T x 0) most)

  one_analysis : (m : ℕ) → n ≡ suc m → IsOnlyAnalysis g s.cat ws (T m 0)
  one_analysis m q =
      let edge = shape_in s apart n words built (T m 0) (whole m 0 (omega (arith, q)) refl) in
      let made' = made s apart n words built in
      let d = edge_derivation g s.cat made' ws (T m 0) edge in
      let full = whole_complete s apart n m 0 in
      let least = edge_least g s.cat made' ws (T m 0) edge in (
        record {
          derivation = d;
          complete = full;
          start = whole_start m 0;
          end = whole_end m 0 ∙ (omega (arith, q, words_length s 0 n));
          edge = edge_solvable g s.cat made' ws (T m 0) edge;
          whole = (solved_go_by_category.whole g s.cat built.categories built.chains ws (T m 0) d full least.0 least.1 least.2).1 (whole_category s apart n words built m 0);
        },
        λ u a.
            let eu = drops_none g s.cat made' ws u a in
            let lu = edge_least g s.cat made' ws u eu in
            analysis_is m q u (in_shape s apart n words built u eu) a.complete a.start (a.end ∙ words_length s 0 n)
            ((solved_go_by_category.whole g s.cat built.categories built.chains ws u a.derivation a.complete lu.0 lu.1 lu.2).0 a.whole),
      )

pub words_counted : ChartsOfWordsAreCounted
words_counted N w n differ =
    let s = symbols N w in
    let built : AreBuilt (generated s n) s.cat = subst (λ g. AreBuilt g s.cat) (same_rules N w n) (are_built N.number same_text (keys_of N) generator.generated_grammar (generated_entries w n)) in
    let words = words_differ N w n differ in
    let all : IsCounted (generated s n) s.cat (words_from s 0 n) n × (0 < n → IsOnlyAnalysis (generated s n) s.cat (words_from s 0 n) (T (n - 1) 0)) =
    (counted s (apart N w) n words built, λ some. one_analysis s (apart N w) n words built (n - 1) (omega (arith, some))) in
    subst (λ g. IsCounted g s.cat (generated_words N w n) n × (0 < n → IsOnlyAnalysis g s.cat (generated_words N w n) (T (n - 1) 0))) (sym (same_rules N w n))
    (subst (λ ws. IsCounted (generated s n) s.cat ws n × (0 < n → IsOnlyAnalysis (generated s n) s.cat ws (T (n - 1) 0))) (sym (same_words N w 0 n)) all)

numbered_differ : (n : ℕ) → n < 2 ^ 64 → AreDifferent numbered n
numbered_differ n few i j hi hj e =
    let same : 119 ∷ decimal i ≡ 119 ∷ decimal j = e in
    decimal_injective i j (omega (arith, few, hi)) (omega (arith, few, hj)) (ap (λ l. drop 1 l) same)

few_edges : (n : ℕ) → n ≤ 256 → edge_count n ≤ 200000
few_edges n h =
    let product = mul-le n (n - 1) 256 255 h (omega (arith, h)) in
    let half : n * (n - 1) / 2 ≤ n * (n - 1) = div-le_self (n * (n - 1)) 2 in
    omega (arith, h, product, half)

pub generated_counted : GeneratedChartsAreCounted
generated_counted N n some few =
    let r = words_counted N numbered n (numbered_differ n few) in
    record { counted = r.0; one_analysis = r.1 some; fits = λ h. r.0.keeps 200000 (few_edges n h) }
