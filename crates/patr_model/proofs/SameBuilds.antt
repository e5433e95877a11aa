-- What a build makes depends neither on what stands for the words nor on how they are numbered.
use Rattle.std.proofs.Common.{◌≡◌, ℕ, suc, ◌+◌, ◌*◌, ◌^◌, List, [], ◌∷◌, ◌++◌, map, filter_map, max, min, length, Bool, true, false, nat_eq, nat_lt, cond, codes, Option, Some, None, option_map, option_and_then, refl, sym, ap, subst}
use Rattle.patr_model.proofs.Agreeing.{each_itself}
use Rattle.patr_model.specs.Equation.{AtomOf, PathOf}
use Rattle.patr_model.specs.Grammar.{Row, Rows, Done, One, OneOf, Optional, None', Or, products, variants, variants_of, single}
use Rattle.patr_model.specs.Plain.{stated}
use Rattle.patr_model.specs.Session.{Numbering}
use Rattle.patr_model.specs.Productions.{SymbolText, PathText, TermText, AtomText, OfPath, EquationText, RuleText, Grammar, things}
use Rattle.patr_model.specs.LexiconText.{EntryOf}
use Rattle.patr_model.specs.Renaming.{Each, Both, SameRow, SameRows', AreOne, SamePath, SameTerm, SameEquation, SameRule, SameEntry, SameGrounds}
use Rattle.patr_model.specs.Agreeing.{SameSymbolText, SamePathText, SameTermText, SameEquationText, SameFeatureText, SameRuleText, SameGrammar, SameEntryText, SameMeaning, SameExpandFault, SameBuildFault}
use Rattle.patr_model.specs.Bytes.{same_text}
use Rattle.patr_model.specs.Build.{Meaning, written_out, meanings, longest, longest_of, Keys, slot_of, head_slot, placed_path, placed_term, placed_equation, category_equations, rule_variant_of, rule_variants, feature_path, feature_term, feature_equation, equation_variants, gloss_fact, facts_of, entry_variant_of, entry_variants, build, keys_of, grounds, ExpandFault, TooManyVariants, TooManyEquations, size_fault, equations_fault, rule_fault, rules_fault, features_fault, templates_fault, entries_fault, unknown_name, grammar_fault, grammar_first, build_fault}
use Rattle.patr_model.proofs.Renaming.{each_length}
use Rattle.patr_model.proofs.RenamedVariants.{all_same, alone_same, each_append, each_map, each_flat, each_filter, variants_same}
use Rattle.patr_model.proofs.SameParses.{things_agree}
use Rattle.patr_model.proofs.SameMeanings.{written_same, meanings_same, first_same, unknown_same, templates_same}

-- members that are equal one by one
each_equal : {X : Type 0} (xs ys : List X) → Each (λ x y. x ≡ y) xs ys → xs ≡ ys
each_equal [] [] h = refl
each_equal (x ∷ xs) (y ∷ ys) h = λ i. h.0 i ∷ each_equal xs ys h.1 i
each_equal _ _ h = absurd h

equal_option : {X : Type 0} (o u : Option X) → o ≡ u → Both (λ x y. x ≡ y) o u
equal_option None u e = subst (λ u. Both (λ x y. x ≡ y) None u) e tt
equal_option (Some x) u e = subst (λ u. Both (λ x y. x ≡ y) (Some x) u) e refl

-- ---- words that have the same numbers

module _ {A B X : Type 0} (R : A → B → Type 0) (f : A → X) (g : B → X) (h : (a : A) (b : B) → R a b → f a ≡ g b) where
  maps_equal : (us : List A) (vs : List B) → Each R us vs → map f us ≡ map g vs
  maps_equal [] [] k = refl
  maps_equal (u ∷ us) (v ∷ vs) k = λ i. h u v k.0 i ∷ maps_equal us vs k.1 i
  maps_equal _ _ k = absurd k

module _ {A B Y : Type 0} (R : A → B → Type 0) (f : A → List (List Y)) (g : B → List (List Y)) (h : (a : A) (b : B) → R a b → f a ≡ g b) where
  mutual
    variants_equal : (r : Row A) (s : Row B) → SameRow R r s → variants f r ≡ variants g s
    variants_equal Done Done k = refl
    variants_equal (One x r) (One y s) k = λ i. products (h x y k.0 i) (variants_equal r s k.1 i)
    variants_equal (OneOf rs r) (OneOf ss s) k = λ i. products (variants_of_equal rs ss k.0 i) (variants_equal r s k.1 i)
    variants_equal (Optional rs r) (Optional ss s) k = λ i. products (variants_of_equal rs ss k.0 i ++ [] ∷ []) (variants_equal r s k.1 i)
    variants_equal _ _ k = absurd k

    variants_of_equal : (rs : Rows A) (ss : Rows B) → SameRows' R rs ss → variants_of f rs ≡ variants_of g ss
    variants_of_equal None' None' k = refl
    variants_of_equal (Or r rs) (Or s ss) k = λ i. variants_equal r s k.0 i ++ variants_of_equal rs ss k.1 i
    variants_of_equal _ _ k = absurd k

module _ {A B : Type 0} (R : A → B → Type 0) (f : A → ℕ) (g : B → ℕ) (h : (a : A) (b : B) → R a b → f a ≡ g b) where
  mutual
    longest_equal : (r : Row A) (s : Row B) → SameRow R r s → longest f r ≡ longest g s
    longest_equal Done Done k = refl
    longest_equal (One x r) (One y s) k = λ i. h x y k.0 i + longest_equal r s k.1 i
    longest_equal (OneOf rs r) (OneOf ss s) k = λ i. longest_of_equal rs ss k.0 i + longest_equal r s k.1 i
    longest_equal (Optional rs r) (Optional ss s) k = λ i. longest_of_equal rs ss k.0 i + longest_equal r s k.1 i
    longest_equal _ _ k = absurd k

    longest_of_equal : (rs : Rows A) (ss : Rows B) → SameRows' R rs ss → longest_of f rs ≡ longest_of g ss
    longest_of_equal None' None' k = refl
    longest_of_equal (Or r rs) (Or s ss) k = λ i. max (longest_equal r s k.0 i) (longest_of_equal rs ss k.1 i)
    longest_of_equal _ _ k = absurd k

module _ {W V : Type 0} (S : W → V → Type 0) (number : W → ℕ) (other : V → ℕ) (same : (a : W) (b : V) → S a b → number a ≡ other b) where
  words_equal : (us : List W) (vs : List V) → Each S us vs → map number us ≡ map other vs
  words_equal us vs k = maps_equal S number other same us vs k

  slot_equal : (xs : List (SymbolText W)) (ys : List (SymbolText V)) → Each (SameSymbolText S) xs ys → (w : W) (v : V) → S w v → slot_of number xs (number w) ≡ slot_of other ys (other v)
  slot_equal [] [] h w v k = refl
  slot_equal (x ∷ xs) (y ∷ ys) h w v k = λ i. cond (nat_eq (same x.symbol y.symbol h.0.symbol i) (same w v k i)) (Some 0) (option_map (λ n. suc n) (slot_equal xs ys h.1 w v k i))
  slot_equal _ _ h w v k = absurd h

  stated_equal : (cat n : ℕ) (xs : List (SymbolText W)) (ys : List (SymbolText V)) → Each (SameSymbolText S) xs ys → category_equations number cat n xs ≡ category_equations other cat n ys
  stated_equal cat n [] [] h = refl
  stated_equal cat n (x ∷ xs) (y ∷ ys) h = λ i. record { left = record { slot = n; path = cat ∷ [] }; right = AtomOf (same x.category y.category h.0.category i) } ∷ stated_equal cat (suc n) xs ys h.1 i
  stated_equal cat n _ _ h = absurd h

  module _ (xs : List (SymbolText W)) (ys : List (SymbolText V)) (h : Each (SameSymbolText S) xs ys) where
    head_equal : (o : Option W) (u : Option V) → Both S o u → head_slot number xs o ≡ head_slot other ys u
    head_equal None None b = refl
    head_equal (Some w) (Some v) b = slot_equal xs ys h w v b
    head_equal _ _ b = absurd b

    path_equal : (p : PathText W) (q : PathText V) → SamePathText S p q → placed_path number xs p ≡ placed_path other ys q
    path_equal p q k = λ i. option_map (λ n. record { slot = n; path = words_equal p.attributes q.attributes k.attributes i }) (head_equal p.head q.head k.head i)

    term_equal : (t : TermText W) (u : TermText V) → SameTermText S t u → placed_term number xs t ≡ placed_term other ys u
    term_equal (AtomText a) (AtomText b) k = ap (λ c. Some (AtomOf c)) (same a b k)
    term_equal (OfPath p) (OfPath q) k = ap (option_map (λ r. PathOf r)) (path_equal p q k)
    term_equal (AtomText a) (OfPath q) k = absurd k
    term_equal (OfPath p) (AtomText b) k = absurd k

    equation_equal : (e : EquationText W) (f : EquationText V) → SameEquationText S e f → placed_equation number xs e ≡ placed_equation other ys f
    equation_equal e f k = λ i. option_and_then (λ l. option_map (λ r. record { left = l; right = r }) (term_equal e.right f.right k.right i)) (path_equal e.left f.left k.left i)

    variant_equal : (cat : ℕ) (es : List (EquationText W)) (fs : List (EquationText V)) → Each (SameEquationText S) es fs → rule_variant_of number cat xs es ≡ rule_variant_of other cat ys fs
    variant_equal cat es fs k =
        let placed = each_equal (filter_map (placed_equation number xs) es) (filter_map (placed_equation other ys) fs)
        (each_filter (λ a b. a ≡ b) (SameEquationText S) (placed_equation number xs) (placed_equation other ys)
        (λ e f q. equal_option (placed_equation number xs e) (placed_equation other ys f) (equation_equal e f q)) es fs k) in
        λ i. record {
          categories = maps_equal (SameSymbolText S) (λ x. number x.category) (λ y. other y.category) (λ x y q. same x.category y.category q.category) xs ys h i;
          equations = stated_equal cat 0 xs ys h i ++ placed i;
        }

  rule_equal : (cat : ℕ) (r : RuleText W) (s : RuleText V) → SameRuleText S r s → rule_variants number cat r ≡ rule_variants other cat s
  rule_equal cat r s k =
      each_equal (rule_variants number cat r) (rule_variants other cat s)
      (each_flat (λ a b. a ≡ b) (Each (SameSymbolText S)) (λ xs. map (rule_variant_of number cat (r.mother ∷ xs)) (variants single r.equations)) (λ ys. map (rule_variant_of other cat (s.mother ∷ ys)) (variants single s.equations))
      (λ xs ys h. each_map (λ a b. a ≡ b) (Each (SameEquationText S)) (rule_variant_of number cat (r.mother ∷ xs)) (rule_variant_of other cat (s.mother ∷ ys))
      (variant_equal (r.mother ∷ xs) (s.mother ∷ ys) (k.mother, h) cat)
      (variants single r.equations) (variants single s.equations) (alone_same (SameEquationText S) r.equations s.equations k.equations))
      (variants single r.right) (variants single s.right) (alone_same (SameSymbolText S) r.right s.right k.right))

  feature_path_equal : (p : PathText W) (q : PathText V) → SamePathText S p q → feature_path number p ≡ feature_path other q
  feature_path_equal p q e = λ i. record { slot = 0; path = words_equal p.attributes q.attributes e.attributes i }

  feature_term_equal : (t : TermText W) (u : TermText V) → SameTermText S t u → feature_term number t ≡ feature_term other u
  feature_term_equal (AtomText a) (AtomText b) e = ap (λ c. AtomOf c) (same a b e)
  feature_term_equal (OfPath p) (OfPath q) e = ap (λ c. PathOf c) (feature_path_equal p q e)
  feature_term_equal (AtomText a) (OfPath q) e = absurd e
  feature_term_equal (OfPath p) (AtomText b) e = absurd e

  equations_equal : (r : Row (EquationText W)) (s : Row (EquationText V)) → SameRow (SameEquationText S) r s → equation_variants number r ≡ equation_variants other s
  equations_equal = variants_equal (SameEquationText S) (λ e. single (feature_equation number e)) (λ e. single (feature_equation other e))
      (λ e f s i. ((record { left = feature_path_equal e.left f.left s.left i; right = feature_term_equal e.right f.right s.right i }) ∷ []) ∷ [])

  module _ (eq : W → W → Bool) (others : V → V → Bool) (alike : (a b : W) (c d : V) → S a c → S b d → eq a b ≡ others c d) (keys : Keys) where
    gloss_equal : (o : Option W) (p : Option V) → Both S o p → gloss_fact number keys o ≡ gloss_fact other keys p
    gloss_equal None None b = refl
    gloss_equal (Some u) (Some v) b = λ i. (keys.gloss, same u v b i) ∷ []
    gloss_equal _ _ b = absurd b

    entry_equal : (ms : List (Meaning W)) (ns : List (Meaning V)) → Each (SameMeaning S) ms ns → (e : EntryOf W) (f : EntryOf V) → SameEntryText S e f
        → entry_variants number eq keys ms e ≡ entry_variants other others keys ns f
    entry_equal ms ns h e f k =
        let all = equations_equal (written_out eq ms e.features) (written_out others ns f.features) (written_same S eq others alike ms ns h e.features f.features k.features) in
        λ i. map (λ es. record {
          word = same e.word f.word k.word i;
          category = same e.category f.category k.category i;
          equations = stated ((keys.cat, same e.category f.category k.category i) ∷ (keys.lex, same e.word f.word k.word i) ∷ gloss_equal e.gloss f.gloss k.gloss i) ++ es;
          chain = [];
        }) (all i)

    pub same_build : (g : Grammar W) (h : Grammar V) (l : List (EntryOf W)) (k : List (EntryOf V)) → SameGrammar S g h → Each (SameEntryText S) l k → build number eq keys g l ≡ build other others keys h k
    same_build g h l k e f =
        let rules = maps_equal (SameRuleText S) (rule_variants number keys.cat) (rule_variants other keys.cat) (rule_equal keys.cat) g.rules h.rules e.rules in
        let stand = meanings_same S eq others alike g.templates h.templates e.templates in
        let entries = maps_equal (SameEntryText S) (entry_variants number eq keys (meanings eq g.templates)) (entry_variants other others keys (meanings others h.templates))
        (entry_equal (meanings eq g.templates) (meanings others h.templates) stand) l k f in
        let restrictor = maps_equal (Each S) (map number) (map other) words_equal g.restrictor h.restrictor e.restrictor in
        λ i. record { rules = rules i; entries = entries i; start = same g.start h.start e.start i; restrictor = restrictor i }

-- ---- what is refused

module _ {W V : Type 0} (S : W → V → Type 0) where
  blank : {A B : Type 0} (R : A → B → Type 0) (r : Row A) (s : Row B) → SameRow R r s → length (variants single r) ≡ length (variants single s)
  blank R r s k = each_length (Each R) (variants single r) (variants single s) (alone_same R r s k)

  most : {A B : Type 0} (R : A → B → Type 0) (r : Row A) (s : Row B) → SameRow R r s → longest (λ e. 1) r ≡ longest (λ e. 1) s
  most R r s k = longest_equal R (λ e. 1) (λ e. 1) (λ a b q. refl) r s k

  size_same : (line line' count count' most most' : ℕ) → line ≡ line' → count ≡ count' → most ≡ most' → Both (SameExpandFault S) (size_fault line count most) (size_fault line' count' most')
  size_same line line' count count' most most' e f h =
      subst (λ n. Both (SameExpandFault S) (size_fault line count most) (size_fault n count' most')) e
      (subst (λ n. Both (SameExpandFault S) (size_fault line count most) (size_fault line n most')) f
      (subst (λ n. Both (SameExpandFault S) (size_fault line count most) (size_fault line count n)) h (itself (nat_lt 256 count) (nat_lt 1024 most))))
    where
      itself : (b c : Bool) → Both (SameExpandFault S) (cond b (Some (TooManyVariants line (min count (2 ^ 32)))) (cond c (Some (TooManyEquations line (min most (2 ^ 32)))) None))
          (cond b (Some (TooManyVariants line (min count (2 ^ 32)))) (cond c (Some (TooManyEquations line (min most (2 ^ 32)))) None))
      itself true c = (refl, refl)
      itself false true = (refl, refl)
      itself false false = tt

  rule_fault_same : (r : RuleText W) (s : RuleText V) → SameRuleText S r s → Both (SameExpandFault S) (rule_fault r) (rule_fault s)
  rule_fault_same r s k =
      let right = blank (SameSymbolText S) r.right s.right k.right in
      let equations = blank (SameEquationText S) r.equations s.equations k.equations in
      size_same r.line s.line (length (variants single r.right) * length (variants single r.equations)) (length (variants single s.right) * length (variants single s.equations))
      (longest (λ e. 1) r.equations) (longest (λ e. 1) s.equations) k.line (λ i. right i * equations i) (most (SameEquationText S) r.equations s.equations k.equations)

  rules_fault_same : (rs : List (RuleText W)) (ss : List (RuleText V)) → Each (SameRuleText S) rs ss → Both (SameExpandFault S) (rules_fault rs) (rules_fault ss)
  rules_fault_same [] [] k = tt
  rules_fault_same (r ∷ rs) (s ∷ ss) k = first_same S (rule_fault r) (rules_fault rs) (rule_fault s) (rules_fault ss) (rule_fault_same r s k.0) (rules_fault_same rs ss k.1)
  rules_fault_same _ _ k = absurd k

  grammar_first_same : (o p : Option (ExpandFault W)) (u t : Option (ExpandFault V)) → Both (SameExpandFault S) o u → Both (SameExpandFault S) p t
      → Both (SameBuildFault S) (grammar_first o p) (grammar_first u t)
  grammar_first_same (Some e) p (Some f) t h k = h
  grammar_first_same None (Some e) None (Some f) h k = k
  grammar_first_same None None None None h k = tt
  grammar_first_same None (Some e) None None h k = absurd k
  grammar_first_same None None None (Some f) h k = absurd k
  grammar_first_same _ p _ t h k = absurd h

  module _ (eq : W → W → Bool) (others : V → V → Bool) (alike : (a b : W) (c d : V) → S a c → S b d → eq a b ≡ others c d) where
    entries_fault_same : (ms : List (Meaning W)) (ns : List (Meaning V)) → Each (SameMeaning S) ms ns → (l : List (EntryOf W)) (k : List (EntryOf V)) → Each (SameEntryText S) l k
        → Both (SameExpandFault S) (entries_fault eq ms l) (entries_fault others ns k)
    entries_fault_same ms ns h [] [] q = tt
    entries_fault_same ms ns h (e ∷ l) (f ∷ k) q =
        let written = written_same S eq others alike ms ns h e.features f.features q.0.features in
        let sized = size_same e.line f.line (length (variants single (written_out eq ms e.features))) (length (variants single (written_out others ns f.features)))
        (longest (λ e. 1) (written_out eq ms e.features)) (longest (λ e. 1) (written_out others ns f.features)) q.0.line
        (blank (SameEquationText S) (written_out eq ms e.features) (written_out others ns f.features) written) (most (SameEquationText S) (written_out eq ms e.features) (written_out others ns f.features) written) in
        let unknown = unknown_same S eq others alike ms ns h (things e.features) (things f.features) (things_agree (SameFeatureText S) e.features f.features q.0.features) in
        first_same S (features_fault eq ms e.line e.features) (entries_fault eq ms l) (features_fault others ns f.line f.features) (entries_fault others ns k)
        (first_same S (unknown_name eq ms (things e.features)) (equations_fault e.line (written_out eq ms e.features)) (unknown_name others ns (things f.features)) (equations_fault f.line (written_out others ns f.features)) unknown sized)
        (entries_fault_same ms ns h l k q.1)
    entries_fault_same ms ns h _ _ q = absurd q

    pub fault_same : (g : Grammar W) (h : Grammar V) (l : List (EntryOf W)) (k : List (EntryOf V)) → SameGrammar S g h → Each (SameEntryText S) l k
        → Both (SameBuildFault S) (build_fault eq g l) (build_fault others h k)
    fault_same g h l k e f =
        grammar_first_same (grammar_fault eq g) (entries_fault eq (meanings eq g.templates) l) (grammar_fault others h) (entries_fault others (meanings others h.templates) k)
        (first_same S (templates_fault eq g.templates) (rules_fault g.rules) (templates_fault others h.templates) (rules_fault h.rules)
        (templates_same S eq others alike g.templates h.templates e.templates) (rules_fault_same g.rules h.rules e.rules))
        (entries_fault_same (meanings eq g.templates) (meanings others h.templates) (meanings_same S eq others alike g.templates h.templates e.templates) l k f)

-- ---- another numbering

mutual
  row_itself : {A : Type 0} (R : A → A → Type 0) → ((a : A) → R a a) → (r : Row A) → SameRow R r r
  row_itself R h Done = tt
  row_itself R h (One x r) = (h x, row_itself R h r)
  row_itself R h (OneOf rs r) = (choice_itself R h rs, row_itself R h r)
  row_itself R h (Optional rs r) = (choice_itself R h rs, row_itself R h r)

  choice_itself : {A : Type 0} (R : A → A → Type 0) → ((a : A) → R a a) → (rs : Rows A) → SameRows' R rs rs
  choice_itself R h None' = tt
  choice_itself R h (Or r rs) = (row_itself R h r, choice_itself R h rs)

symbol_itself : {W : Type 0} (x : SymbolText W) → SameSymbolText (λ a b. a ≡ b) x x
symbol_itself x = record { symbol = refl; category = refl }

path_itself : {W : Type 0} (p : PathText W) → SamePathText (λ a b. a ≡ b) p p
path_itself p = record { head = equal_option p.head p.head refl; attributes = each_itself p.attributes }

equation_itself : {W : Type 0} (e : EquationText W) → SameEquationText (λ a b. a ≡ b) e e
equation_itself {W = W} e = record { left = path_itself e.left; right = go e.right }
  where
    go : (t : TermText W) → SameTermText (λ a b. a ≡ b) t t
    go (AtomText a) = refl
    go (OfPath p) = path_itself p

module _ {A B C : Type 0} (Q : B → C → Type 0) (f : A → B) (g : A → C) (h : (a : A) → Q (f a) (g a)) where
  list_made : (xs : List A) → Each Q (map f xs) (map g xs)
  list_made [] = tt
  list_made (x ∷ xs) = (h x, list_made xs)

module _ (N X : Numbering) where
  words_made : (ws : List (List ℕ)) → Each (AreOne N X) (map N.number ws) (map X.number ws)
  words_made ws = list_made (AreOne N X) N.number X.number (λ w. (w, refl, refl)) ws

  rule_made : (r : RuleText (List ℕ)) → Each (SameRule N X) (rule_variants N.number (N.number (codes "cat")) r) (rule_variants X.number (X.number (codes "cat")) r)
  rule_made r =
      all_same N X (λ a b. a ≡ b) N.number X.number (λ a b e. (a, refl, ap X.number (sym e))) (N.number (codes "cat")) (X.number (codes "cat")) (codes "cat", refl, refl) r r
      (symbol_itself r.mother) (row_itself (SameSymbolText (λ a b. a ≡ b)) symbol_itself r.right) (row_itself (SameEquationText (λ a b. a ≡ b)) equation_itself r.equations)

  feature_path_made : (p : PathText (List ℕ)) → SamePath N X (feature_path N.number p) (feature_path X.number p)
  feature_path_made p = record { slot = refl; path = words_made p.attributes }

  feature_term_made : (t : TermText (List ℕ)) → SameTerm N X (feature_term N.number t) (feature_term X.number t)
  feature_term_made (AtomText a) = (a, refl, refl)
  feature_term_made (OfPath p) = feature_path_made p

  equation_made : (e : EquationText (List ℕ)) → Each (Each (SameEquation N X)) (single (feature_equation N.number e)) (single (feature_equation X.number e))
  equation_made e = ((record { left = feature_path_made e.left; right = feature_term_made e.right }, tt), tt)

  equations_made : (r : Row (EquationText (List ℕ))) → Each (Each (SameEquation N X)) (equation_variants N.number r) (equation_variants X.number r)
  equations_made r =
      variants_same (λ a b. a ≡ b) (SameEquation N X) (λ e. single (feature_equation N.number e)) (λ e. single (feature_equation X.number e))
      (λ a b q. subst (λ f. Each (Each (SameEquation N X)) (single (feature_equation N.number a)) (single (feature_equation X.number f))) q (equation_made a)) r r (row_itself (λ a b. a ≡ b) (λ a. refl) r)

  fact_made : (a b c d : ℕ) → AreOne N X a b → AreOne N X c d
      → SameEquation N X (record { left = record { slot = 0; path = a ∷ [] }; right = AtomOf c }) (record { left = record { slot = 0; path = b ∷ [] }; right = AtomOf d })
  fact_made a b c d h k = record { left = record { slot = refl; path = (h, tt) }; right = k }

  gloss_made : (o : Option (List ℕ)) → Each (SameEquation N X) (stated (gloss_fact N.number (keys_of N) o)) (stated (gloss_fact X.number (keys_of X) o))
  gloss_made None = tt
  gloss_made (Some w) = (fact_made (N.number (codes "gloss")) (X.number (codes "gloss")) (N.number w) (X.number w) (codes "gloss", refl, refl) (w, refl, refl), tt)

  facts_made : (e : EntryOf (List ℕ)) → Each (SameEquation N X) (stated (facts_of N.number (keys_of N) e)) (stated (facts_of X.number (keys_of X) e))
  facts_made e = (
    fact_made (N.number (codes "cat")) (X.number (codes "cat")) (N.number e.category) (X.number e.category) (codes "cat", refl, refl) (e.category, refl, refl),
    (fact_made (N.number (codes "lex")) (X.number (codes "lex")) (N.number e.word) (X.number e.word) (codes "lex", refl, refl) (e.word, refl, refl), gloss_made e.gloss),
  )

  entry_made : (ms : List (Meaning (List ℕ))) (e : EntryOf (List ℕ)) → Each (SameEntry N X) (entry_variants N.number same_text (keys_of N) ms e) (entry_variants X.number same_text (keys_of X) ms e)
  entry_made ms e =
      each_map (SameEntry N X) (Each (SameEquation N X)) (entry_variant_of N.number (keys_of N) e) (entry_variant_of X.number (keys_of X) e)
      (λ es fs k. record {
        word = (e.word, refl, refl);
        category = (e.category, refl, refl);
        equations = each_append (SameEquation N X) (stated (facts_of N.number (keys_of N) e)) es (stated (facts_of X.number (keys_of X) e)) fs (facts_made e) k;
        chain = tt;
      })
      (equation_variants N.number (written_out same_text ms e.features)) (equation_variants X.number (written_out same_text ms e.features)) (equations_made (written_out same_text ms e.features))

  pub same_grounds : (g : Grammar (List ℕ)) (l : List (EntryOf (List ℕ))) → SameGrounds (grounds N g l) (grounds X g l)
  same_grounds g l =
      record {
        rules = record {
          rules = list_made (Each (SameRule N X)) (rule_variants N.number (N.number (codes "cat"))) (rule_variants X.number (X.number (codes "cat"))) rule_made g.rules;
          entries = list_made (Each (SameEntry N X)) (entry_variants N.number same_text (keys_of N) (meanings same_text g.templates)) (entry_variants X.number same_text (keys_of X) (meanings same_text g.templates))
              (entry_made (meanings same_text g.templates)) l;
          start = (g.start, refl, refl);
          restrictor = list_made (Each (AreOne N X)) (map N.number) (map X.number) words_made g.restrictor;
        };
        order = words_made g.order;
      }
