-- The variants of a library name no other symbols than those that the library holds.
use Rattle.std.proofs.Common.{◌≡◌, ℕ, zero, suc, ◌<◌, ◌≤◌, Bool, true, false, cond, nat_lt, lt-ltb, List, [], ◌∷◌, ◌++◌, map, Option, Some, None, IfSome, option_map, option_and_then, filter_map, slice_get, refl, sym, ap, ◌∙◌, subst, arith}
use Rattle.patr_reply.proofs.Names.{AllByRecursion, AllIn, AllInRows, AllPass, AreHeldBy, AreNamed, AtomText, Done, EntryIsHeld, EntryOf, EntryVariant, Equates, Equation, EquationIsHeld, EquationText, FeatureIsHeld, FeatureText, Id, MayBeBelow, Names, None', OfPath, One, OneOf, Optional, Or, Passes, PathOf, Row, Rows, RuleIsHeld, RuleText, RuleVariant, Stored, SymbolIsHeld, SymbolText, Term, TermIsHeld, TermPasses, TermText, all_append, all_at, all_flat, all_map, and_then_some, category_equations, cons_option, entries_of, entry_seen, entry_variant, Meaning, Template, TemplateIsHeld, all_written_out, chosen, entry_variant_of, entry_variants, equation_variants, facts_of, feature_equation, gloss_fact, grammar_of, meaning_of, meanings_from, meant, same, with_template, written_out, head_slot, keys, number, placed_equation, placed_term, products, rule_variant, rule_variant_of, rule_variants, rules_of, single, slice_get-map, some_inj, variants, variants_of}
use Rattle.std.specs.Option as options
use Rattle.patr_model.specs.Plain.{stated}
use Rattle.patr_model.proofs.StatedCategories.{everything, every_rule, every_entry}
use Rattle.patr_lists.proofs.Alls.{all_more}
use Rattle.patr_lexicon.specs.declared.lexicon.Entry as code
use Rattle.patr_reply.specs.Held.{IsBelow}

-- ---- rows

module _ {A Y : Type 0} (P : Y → Type 0) (Q : A → Type 0) (f : A → List (List Y)) (each : (a : A) → Q a → AllByRecursion (AllByRecursion P) (f a)) where
  products_in : (vs ws : List (List Y)) → AllByRecursion (AllByRecursion P) vs → AllByRecursion (AllByRecursion P) ws → AllByRecursion (AllByRecursion P) (products vs ws)
  products_in vs ws h k = all_flat (AllByRecursion P) (λ v. map (λ w. v ++ w) ws) (AllByRecursion P) (λ v p. all_map (AllByRecursion P) (λ w. v ++ w) (AllByRecursion P) (λ w q. all_append P v w p q) ws k) vs h

  mutual
    variants_in : (r : Row A) → AllIn Q r → AllByRecursion (AllByRecursion P) (variants f r)
    variants_in Done h = (tt, tt)
    variants_in (One x r) h = products_in (f x) (variants f r) (each x h.0) (variants_in r h.1)
    variants_in (OneOf rs r) h = products_in (variants_of f rs) (variants f r) (choices_in rs h.0) (variants_in r h.1)
    variants_in (Optional rs r) h =
        products_in (variants_of f rs ++ [] ∷ []) (variants f r) (all_append (AllByRecursion P) (variants_of f rs) ([] ∷ []) (choices_in rs h.0) (tt, tt)) (variants_in r h.1)

    choices_in : (rs : Rows A) → AllInRows Q rs → AllByRecursion (AllByRecursion P) (variants_of f rs)
    choices_in None' h = tt
    choices_in (Or r rs) h = all_append (AllByRecursion P) (variants f r) (variants_of f rs) (variants_in r h.0) (choices_in rs h.1)

-- ---- what names stand for

module _ (n : ℕ) where
  -- the attributes and atoms of what a name stands for
  abbrev pub MeaningIsHeld : Meaning Id → Type 0
  MeaningIsHeld m = AllIn (EquationIsHeld n) m.body

  chosen_held : (ms : List (Meaning Id)) → AllByRecursion MeaningIsHeld ms → (w : Id) → AllInRows (EquationIsHeld n) (chosen (meaning_of same ms w))
  chosen_held [] h w = tt
  chosen_held (m ∷ ms) h w = go (same m.name w) (chosen_held ms h.1 w)
    where
      go : (b : Bool) → AllInRows (EquationIsHeld n) (chosen (meaning_of same ms w)) → AllInRows (EquationIsHeld n) (chosen (cond b (Some m.body) (meaning_of same ms w)))
      go true k = (h.0, tt)
      go false k = k

  module _ (ms : List (Meaning Id)) (held : AllByRecursion MeaningIsHeld ms) where
    mutual
      pub written_held : (r : Row (FeatureText Id)) → AllIn (FeatureIsHeld n) r → AllIn (EquationIsHeld n) (written_out same ms r)
      written_held Done h = tt
      written_held (One (Equates e) r) h = (h.0, written_held r h.1)
      written_held (One (Names w p) r) h = (chosen_held ms held w, written_held r h.1)
      written_held (OneOf rs r) h = (all_written_held rs h.0, written_held r h.1)
      written_held (Optional rs r) h = (all_written_held rs h.0, written_held r h.1)

      all_written_held : (rs : Rows (FeatureText Id)) → AllInRows (FeatureIsHeld n) rs → AllInRows (EquationIsHeld n) (all_written_out same ms rs)
      all_written_held None' h = tt
      all_written_held (Or r rs) h = (written_held r h.0, all_written_held rs h.1)

  pub meanings_held : (ts : List (Template Id)) → AllByRecursion (TemplateIsHeld n) ts → (ms : List (Meaning Id)) → AllByRecursion MeaningIsHeld ms → AllByRecursion MeaningIsHeld (meanings_from same ms ts)
  meanings_held [] h ms held = held
  meanings_held (t ∷ ts) h ms held =
      meanings_held ts h.1 (with_template same ms t) (all_more MeaningIsHeld ms (record { name = t.name; body = written_out same ms t.body }) held (written_held ms held t.body h.0))

-- ---- rules and entries

-- a number of the table
abbrev pub below : ℕ → ℕ → Bool
below n c = nat_lt c n

module _ (n : ℕ) (known : 38 ≤ n) where
  abbrev test : ℕ → Bool
  test = below n

  passes : (c : ℕ) → c < n → test c ≡ true
  passes c h = lt-ltb c n h

  path_passes : (is : List Id) → AllByRecursion (IsBelow n) is → AllPass test (map number is)
  path_passes is h = all_map (λ s. test s ≡ true) number (IsBelow n) (λ i b. passes i.0 b) is h

  categories_pass : (k : ℕ) (xs : List (SymbolText Id)) → AllByRecursion (SymbolIsHeld n) xs → AllByRecursion (Passes test) (category_equations number 33 k xs)
  categories_pass k [] h = tt
  categories_pass k (x ∷ xs) h = (((passes 33 (omega (arith, known)), tt), passes x.category.0 h.0), categories_pass (suc k) xs h.1)

  module _ (xs : List (SymbolText Id)) where
    placed_passes : (e : EquationText Id) → EquationIsHeld n e → IfSome (placed_equation number xs e) (Passes test)
    placed_passes e h = go (head_slot number xs e.left.head) (placed_term number xs e.right) (right e.right h.1)
      where
        right : (t : TermText Id) → TermIsHeld n t → IfSome (placed_term number xs t) (TermPasses test)
        right (AtomText a) k = passes a.0 k
        right (OfPath p) k = here (head_slot number xs p.head)
          where
            here : (o : Option ℕ) → IfSome (option_map (λ q. PathOf q) (option_map (λ (m : ℕ). record { slot = m; path = map number p.attributes }) o)) (TermPasses test)
            here None = tt
            here (Some m) = path_passes p.attributes k

        go : (o : Option ℕ) (u : Option Term) → IfSome u (TermPasses test)
            → IfSome (option_and_then (λ l. option_map (λ r. record { left = l; right = r }) u) (option_map (λ (m : ℕ). record { slot = m; path = map number e.left.attributes }) o)) (Passes test)
        go None u k = tt
        go (Some m) None k = tt
        go (Some m) (Some r) k = (path_passes e.left.attributes h.0, k)

    all_placed : (es : List (EquationText Id)) → AllByRecursion (EquationIsHeld n) es → AllByRecursion (Passes test) (filter_map (placed_equation number xs) es)
    all_placed [] h = tt
    all_placed (e ∷ es) h = go (placed_equation number xs e) (placed_passes e h.0) (filter_map (placed_equation number xs) es) (all_placed es h.1)
      where
        go : (o : Option Equation) → IfSome o (Passes test) → (fs : List Equation) → AllByRecursion (Passes test) fs → AllByRecursion (Passes test) (cons_option o fs)
        go None p fs k = k
        go (Some f) p fs k = (p, k)

  -- a rule variant's equations pass, and its categories are numbers of the table
  abbrev RulePasses : RuleVariant → Type 0
  RulePasses rule = AllByRecursion (Passes test) rule.equations × AllByRecursion (λ c. c < n) rule.categories

  variant_passes : (xs : List (SymbolText Id)) (es : List (EquationText Id)) → AllByRecursion (SymbolIsHeld n) xs → AllByRecursion (EquationIsHeld n) es → RulePasses (rule_variant_of number 33 xs es)
  variant_passes xs es h k = (
    all_append (Passes test) (category_equations number 33 0 xs) (filter_map (placed_equation number xs) es) (categories_pass 0 xs h) (all_placed xs es k),
    all_map (λ c. c < n) (λ (x : SymbolText Id). x.category.0) (SymbolIsHeld n) (λ x p. p) xs h,
  )

  rule_passes : (r : RuleText Id) → RuleIsHeld n r → AllByRecursion RulePasses (rule_variants number 33 r)
  rule_passes r h =
      all_flat RulePasses (λ xs. map (rule_variant_of number 33 (r.mother ∷ xs)) (variants single r.equations)) (AllByRecursion (SymbolIsHeld n))
      (λ xs a. all_map RulePasses (rule_variant_of number 33 (r.mother ∷ xs)) (AllByRecursion (EquationIsHeld n)) (λ es b. variant_passes (r.mother ∷ xs) es (h.mother, a) b)
      (variants single r.equations) (variants_in (EquationIsHeld n) (EquationIsHeld n) single (λ e q. ((q, tt), tt)) r.equations h.equations))
      (variants single r.right) (variants_in (SymbolIsHeld n) (SymbolIsHeld n) single (λ x q. ((q, tt), tt)) r.right h.right)

  stated_pass : (fs : List (ℕ × ℕ)) → AllByRecursion (λ (f : ℕ × ℕ). (test f.0 ≡ true) × (test f.1 ≡ true)) fs → AllByRecursion (Passes test) (stated fs)
  stated_pass [] h = tt
  stated_pass (f ∷ fs) h = (((h.0.0, tt), h.0.1), stated_pass fs h.1)

  facts_pass : (e : EntryOf Id) → EntryIsHeld n e → AllByRecursion (λ (f : ℕ × ℕ). (test f.0 ≡ true) × (test f.1 ≡ true)) (facts_of number keys e)
  facts_pass e h = ((passes 33 (omega (arith, known)), passes e.category.0 h.category), ((passes 34 (omega (arith, known)), passes e.word.0 h.word), gloss e.gloss h.gloss))
    where
      gloss : (o : Option Id) → MayBeBelow n o → AllByRecursion (λ (f : ℕ × ℕ). (test f.0 ≡ true) × (test f.1 ≡ true)) (gloss_fact number keys o)
      gloss None k = tt
      gloss (Some i) k = ((passes 35 (omega (arith, known)), passes i.0 k), tt)

  equation_passes : (e : EquationText Id) → EquationIsHeld n e → AllByRecursion (AllByRecursion (Passes test)) (single (feature_equation number e))
  equation_passes e h = (((path_passes e.left.attributes h.0, go e.right h.1), tt), tt)
    where
      go : (t : TermText Id) → TermIsHeld n t → TermPasses test (feature_equation number (record { left = e.left; right = t })).right
      go (AtomText a) k = passes a.0 k
      go (OfPath p) k = path_passes p.attributes k

  abbrev EntryPasses : EntryVariant → Type 0
  EntryPasses v = AllByRecursion (Passes test) v.equations × (v.chain ≡ [])

  entry_passes : (ms : List (Meaning Id)) → AllByRecursion (MeaningIsHeld n) ms → (e : EntryOf Id) → EntryIsHeld n e → AllByRecursion EntryPasses (entry_variants number same keys ms e)
  entry_passes ms held e h =
      all_map EntryPasses (entry_variant_of number keys e) (AllByRecursion (Passes test))
      (λ es a. (all_append (Passes test) (stated (facts_of number keys e)) es (stated_pass (facts_of number keys e) (facts_pass e h)) a, refl))
      (equation_variants number (written_out same ms e.features))
      (variants_in (Passes test) (EquationIsHeld n) (λ f. single (feature_equation number f)) equation_passes (written_out same ms e.features) (written_held n ms held e.features h.features))

  module _ (s : Stored) (held : AreHeldBy n s) where
    rule_there : (r k : ℕ) (rule : RuleVariant) → rule_variant (rules_of s) r k ≡ Some rule → RulePasses rule
    rule_there = every_rule number same keys (grammar_of s.grammar) (entries_of s.lexicon) RulePasses (RuleIsHeld n) rule_passes held.rules

    entry_there : (e k : ℕ) (entry : EntryVariant) → entry_variant (rules_of s) e k ≡ Some entry → EntryPasses entry
    entry_there =
        every_entry number same keys (grammar_of s.grammar) (entries_of s.lexicon) EntryPasses (EntryIsHeld n)
        (entry_passes (meant s.grammar.templates.items) (meanings_held n (grammar_of s.grammar).templates held.templates [] tt)) held.entries

    pub are_named : AreNamed test (rules_of s)
    are_named = record {
      rules = λ r k rule h. (rule_there r k rule h).0;
      entries = λ e k entry h. (entry_there e k entry h).0;
      chains = λ e k entry h. subst (AllByRecursion (AllByRecursion (Passes test))) (sym (entry_there e k entry h).1) tt;
    }

    pub categories_held : (r k : ℕ) (rule : RuleVariant) → rule_variant (rules_of s) r k ≡ Some rule → AllByRecursion (λ c. c < n) rule.categories
    categories_held r k rule h = (rule_there r k rule h).1

-- ---- the entry of a variant

-- the variants of an entry have its word and its category
abbrev pub IsVariantOf : code.Entry → EntryVariant → Type 0
IsVariantOf x v = (v.category ≡ x.category.0) × (v.word ≡ x.word.0)

pub entry_from : (s : Stored) (e k : ℕ) (v : EntryVariant) → entry_variant (rules_of s) e k ≡ Some v → (x : code.Entry) × (slice_get s.lexicon e ≡ Some x) × IsVariantOf x v
entry_from s e k v h =
    let vs = and_then_some (slice_get (rules_of s).entries e) (λ ws. slice_get ws k) v h in
    let ms = meant s.grammar.templates.items in
    let x = found s.lexicon e vs.0 vs.1 in (
      x.0,
      x.1,
      all_at (IsVariantOf x.0) (entry_variants number same keys ms (entry_seen x.0))
          (all_map (IsVariantOf x.0) (entry_variant_of number keys (entry_seen x.0)) (λ es. Unit {0}) (λ es u. (refl, refl)) (equation_variants number (written_out same ms (entry_seen x.0).features)) (everything (equation_variants number (written_out same ms (entry_seen x.0).features))))
          k v (subst (λ (us : List EntryVariant). slice_get us k ≡ Some v) (sym x.2) vs.2),
    )
  where
    found : (l : List code.Entry) (i : ℕ) (vs : List EntryVariant) → slice_get (map (entry_variants number same keys (meant s.grammar.templates.items)) (entries_of l)) i ≡ Some vs
        → (x : code.Entry) × (slice_get l i ≡ Some x) × (entry_variants number same keys (meant s.grammar.templates.items) (entry_seen x) ≡ vs)
    found [] i vs q = cc
    found (x ∷ l) zero vs q = (x, refl, some_inj (entry_variants number same keys (meant s.grammar.templates.items) (entry_seen x)) vs q)
    found (x ∷ l) (suc i) vs q = found l i vs q

pub entry_below : (n : ℕ) (s : Stored) → AreHeldBy n s → (e : ℕ) (x : code.Entry) → slice_get s.lexicon e ≡ Some x → (x.category.0 < n) × (x.word.0 < n)
entry_below n s held e x h =
    let one = all_at (EntryIsHeld n) (entries_of s.lexicon) held.entries e (entry_seen x) (slice_get-map entry_seen s.lexicon e ∙ ap (options.option_map entry_seen) h) in
    (one.category, one.word)
