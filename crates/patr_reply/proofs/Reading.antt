-- What was read by a table is held by it, and each entry of what a build accepts has a variant.
use Rattle.std.proofs.Common.{◌≡◌, ℕ, ◌<◌, List, [], ◌∷◌, length, map, Option, Some, None, refl, arith}
use Rattle.patr_reply.proofs.Names.{AllByRecursion, AllIn, AllInRows, AtomText, Done, EntryIsHeld, EntryOf, Equates, EquationIsHeld, EquationText, FeatureIsHeld, FeatureText, Id, IsText, Meaning, Template, TemplateIsHeld, entry_variant_of, entry_variants, equation_variants, feature_equation, keys, length-map, meanings, number, same, single, written_out, LibrariesAreHeld, MayBeBelow, Names, None', OfPath, One, OneOf, Optional, Or, PathIsHeld, PathText, Row, Rows, RuleIsHeld, RuleText, SymbolIsHeld, TermIsHeld, TermText, entries_of, grammar_of, slice_get_within}
use Rattle.patr_model.specs.Renaming.{Each, Both, SameRow, SameRows'}
use Rattle.patr_model.specs.Agreeing.{SameSymbolText, SamePathText, SameTermText, SameEquationText, SameFeatureText, SameRuleText, SameTemplate, SameEntryText}
use Rattle.patr_model.specs.Grammar.{IsFull}
use Rattle.patr_model.specs.Productions.{things}
use Rattle.patr_model.specs.Build.{ExpandFault, entries_fault, equations_fault, features_fault, grammar_fault, grammar_first, rules_fault, templates_fault, unknown_name}
use Rattle.patr_model.proofs.FullRows.{MeaningIsFull, first_variant, meanings_full, none_first, same_full, written_full}
use Rattle.patr_reply.specs.Held.{IsBelow}

module _ {X Y : Type 0} (R : X → Y → Type 0) (P : X → Type 0) (each : (x : X) (y : Y) → R x y → P x) where
  all_held : (xs : List X) (ys : List Y) → Each R xs ys → AllByRecursion P xs
  all_held [] [] h = tt
  all_held [] (y ∷ ys) h = absurd h
  all_held (x ∷ xs) [] h = absurd h
  all_held (x ∷ xs) (y ∷ ys) h = (each x y h.0, all_held xs ys h.1)

  mutual
    row_held : (r : Row X) (s : Row Y) → SameRow R r s → AllIn P r
    row_held Done s h = tt
    row_held (One x r) (One y s) h = (each x y h.0, row_held r s h.1)
    row_held (One x r) Done h = absurd h
    row_held (One x r) (OneOf ss s) h = absurd h
    row_held (One x r) (Optional ss s) h = absurd h
    row_held (OneOf rs r) (OneOf ss s) h = (rows_held rs ss h.0, row_held r s h.1)
    row_held (OneOf rs r) Done h = absurd h
    row_held (OneOf rs r) (One y s) h = absurd h
    row_held (OneOf rs r) (Optional ss s) h = absurd h
    row_held (Optional rs r) (Optional ss s) h = (rows_held rs ss h.0, row_held r s h.1)
    row_held (Optional rs r) Done h = absurd h
    row_held (Optional rs r) (One y s) h = absurd h
    row_held (Optional rs r) (OneOf ss s) h = absurd h

    rows_held : (rs : Rows X) (ss : Rows Y) → SameRows' R rs ss → AllInRows P rs
    rows_held None' ss h = tt
    rows_held (Or r rs) None' h = absurd h
    rows_held (Or r rs) (Or s ss) h = (row_held r s h.0, rows_held rs ss h.1)

module _ (table : List (List ℕ)) where
  abbrev n : ℕ
  n = length table

  abbrev S : Id → List ℕ → Type 0
  S = IsText table

  text_held : (i : Id) (t : List ℕ) → S i t → IsBelow n i
  text_held i t h = slice_get_within table i.0 t h

  path_held : (p : PathText Id) (q : PathText (List ℕ)) → SamePathText S p q → PathIsHeld n p
  path_held p q h = all_held S (IsBelow n) text_held p.attributes q.attributes h.attributes

  term_held : (t : TermText Id) (u : TermText (List ℕ)) → SameTermText S t u → TermIsHeld n t
  term_held (AtomText a) (AtomText b) h = text_held a b h
  term_held (AtomText a) (OfPath q) h = absurd h
  term_held (OfPath p) (AtomText b) h = absurd h
  term_held (OfPath p) (OfPath q) h = path_held p q h

  equation_held : (e : EquationText Id) (f : EquationText (List ℕ)) → SameEquationText S e f → EquationIsHeld n e
  equation_held e f h = (path_held e.left f.left h.left, term_held e.right f.right h.right)

  feature_held : (e : FeatureText Id) (f : FeatureText (List ℕ)) → SameFeatureText S e f → FeatureIsHeld n e
  feature_held (Equates e) (Equates f) h = equation_held e f h
  feature_held (Equates e) (Names b q) h = absurd h
  feature_held (Names a p) f h = tt

  rule_held : (r : RuleText Id) (s : RuleText (List ℕ)) → SameRuleText S r s → RuleIsHeld n r
  rule_held r s h = record {
    mother = text_held r.mother.category s.mother.category h.mother.category;
    right = row_held (SameSymbolText S) (SymbolIsHeld n) (λ x y k. text_held x.category y.category k.category) r.right s.right h.right;
    equations = row_held (SameEquationText S) (EquationIsHeld n) equation_held r.equations s.equations h.equations;
  }

  gloss_held : (o : Option Id) (p : Option (List ℕ)) → Both S o p → MayBeBelow n o
  gloss_held None p h = tt
  gloss_held (Some i) None h = absurd h
  gloss_held (Some i) (Some t) h = text_held i t h

  entry_held : (e : EntryOf Id) (f : EntryOf (List ℕ)) → SameEntryText S e f → EntryIsHeld n e
  entry_held e f h = record {
    word = text_held e.word f.word h.word;
    category = text_held e.category f.category h.category;
    gloss = gloss_held e.gloss f.gloss h.gloss;
    features = row_held (SameFeatureText S) (FeatureIsHeld n) feature_held e.features f.features h.features;
  }

  template_held : (t : Template Id) (u : Template (List ℕ)) → SameTemplate S t u → TemplateIsHeld n t
  template_held t u h = row_held (SameFeatureText S) (FeatureIsHeld n) feature_held t.body u.body h.body

-- ---- variants of entries

module _ (ms : List (Meaning Id)) (full : AllByRecursion MeaningIsFull ms) where
  entry_some : (e : EntryOf Id) → IsFull e.features → features_fault same ms e.line e.features ≡ None → 0 < length (entry_variants number same keys ms e)
  entry_some e h none =
      let r = written_out same ms e.features in
      let known = (none_first same (unknown_name same ms (things e.features)) (equations_fault e.line r) none).0 in
      let some = first_variant (λ f. single (feature_equation number f)) (λ f. omega arith) r (written_full same ms full e.features h known) in
      omega (arith, some, length-map (equation_variants number r) (entry_variant_of number keys e))

  entries_some : (es : List (EntryOf Id)) → AllByRecursion (λ e. IsFull e.features) es → entries_fault same ms es ≡ None → AllByRecursion (λ vs. 0 < length vs) (map (entry_variants number same keys ms) es)
  entries_some [] h none = tt
  entries_some (e ∷ es) h none =
      let parts = none_first same (features_fault same ms e.line e.features) (entries_fault same ms es) none in
      (entry_some e h.0 parts.0, entries_some es h.1 parts.1)

no_build_fault : (f o : Option (ExpandFault Id)) → grammar_first f o ≡ None → (f ≡ None) × (o ≡ None)
no_build_fault None None h = (refl, refl)
no_build_fault None (Some x) h = absurd cc
no_build_fault (Some x) o h = absurd cc

-- what is the same as full rows is full
all_full : {X Y : Type 0} (R : X → Y → Type 0) (P : X → Type 0) (Q : Y → Type 0) → ((x : X) (y : Y) → R x y → Q y → P x) → (xs : List X) (ys : List Y) → Each R xs ys → AllByRecursion Q ys → AllByRecursion P xs
all_full R P Q f [] [] h k = tt
all_full R P Q f (x ∷ xs) (y ∷ ys) h k = (f x y h.0 k.0, all_full R P Q f xs ys h.1 k.1)
all_full R P Q f _ _ h k = absurd h

pub libraries_are_held : LibrariesAreHeld
libraries_are_held table s g l grammar lexicon full_templates full_entries faultless =
    let S = IsText table in
    let h = grammar_of s.grammar in
    let es = entries_of s.lexicon in
    let ms = meanings same h.templates in
    let none = no_build_fault (grammar_fault same h) (entries_fault same ms es) faultless in
    let known = (none_first same (templates_fault same h.templates) (rules_fault h.rules) none.0).0 in
    let templates : AllByRecursion (λ t. IsFull t.body) h.templates =
    all_full (SameTemplate S) (λ t. IsFull t.body) (λ u. IsFull u.body) (λ t u is full. (same_full (SameFeatureText S) t.body u.body is.body).1 full) h.templates g.templates grammar.templates full_templates in
    let entries : AllByRecursion (λ e. IsFull e.features) es =
    all_full (SameEntryText S) (λ e. IsFull e.features) (λ f. IsFull f.features) (λ e f is full. (same_full (SameFeatureText S) e.features f.features is.features).1 full) es l lexicon full_entries in
    record {
      rules = all_held (SameRuleText S) (RuleIsHeld (length table)) (rule_held table) h.rules g.rules grammar.rules;
      templates = all_held (SameTemplate S) (TemplateIsHeld (length table)) (template_held table) h.templates g.templates grammar.templates;
      entries = all_held (SameEntryText S) (EntryIsHeld (length table)) (entry_held table) es l lexicon;
      variants = entries_some ms (meanings_full same h.templates templates known) es entries none.1;
    }
