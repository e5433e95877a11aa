-- Without equations, a build states categories, words and glosses alone.
use Rattle.std.proofs.Common.{◌≡◌, inl, ℕ, ◌<◌, Bool, false, true≢false, cond, nat_eq, ne_eqb, List, [], ◌∷◌, append-nil, map, length, codes, Option, Some, None, refl, sym, ap, ◌∙◌, subst, arith}
use Rattle.std.specs.List.{AllByRecursion}
use Rattle.std.proofs.lemmas.List.{length-map}
use Rattle.patr_lists.proofs.Alls.{all_map, all_flat}
use Rattle.patr_model.specs.Bytes.{same_text}
use Rattle.patr_model.specs.Structure.{HasDistinct, Atom}
use Rattle.patr_model.specs.Derivation.{RuleVariant, EntryVariant}
use Rattle.patr_model.specs.Grammar.{Row, Done, single, variants}
use Rattle.patr_model.specs.Plain.{IsBare, bare, stated, arcs_for, IsFact}
use Rattle.patr_model.specs.Session.{Numbering}
use Rattle.patr_model.specs.Productions.{SymbolText, EquationText, RuleText, Grammar}
use Rattle.patr_model.specs.LexiconText.{EntryOf}
use Rattle.patr_model.specs.Build.{Keys, rule_variant_of, rule_variants, feature_equation, equation_variants, gloss_fact, facts_of, entry_variant_of, Meaning, written_out, meanings, entry_variants, build}
use Rattle.patr_laws.specs.Bare.{AreDistinct, HasNoEquations, BuildsAreBare}
use Rattle.patr_model.proofs.Canonical.{same_true}
use Rattle.patr_model.proofs.StatedCategories.{categories_are_bare, everything, every_rule, every_entry}

-- a row of nothing has one variant, which is empty
one_empty : {X Y : Type 0} (f : X → List (List Y)) (r : Row X) → r ≡ Done → AllByRecursion (λ ys. ys ≡ []) (variants f r)
one_empty f r e = subst (λ q. AllByRecursion (λ ys. ys ≡ []) (variants f q)) (sym e) (refl, tt)

module _ {W : Type 0} (number : W → ℕ) (same : W → W → Bool) (keys : Keys) where
  abbrev BareRule : RuleVariant → Type 0
  BareRule rule = (rule.equations ≡ bare keys.cat 0 rule.categories) × (0 < length rule.categories)

  bare_variant : (x : SymbolText W) (xs : List (SymbolText W)) (es : List (EquationText W)) → es ≡ [] → BareRule (rule_variant_of number keys.cat (x ∷ xs) es)
  bare_variant x xs es e = subst (λ fs. BareRule (rule_variant_of number keys.cat (x ∷ xs) fs)) (sym e) (
    append-nil _ ∙ categories_are_bare number keys.cat 0 (x ∷ xs),
    let long = length-map (x ∷ xs) (λ (y : SymbolText W). number y.category) in omega (arith, long),
  )

  bare_rule : (r : RuleText W) → r.equations ≡ Done → AllByRecursion BareRule (rule_variants number keys.cat r)
  bare_rule r e =
      all_flat BareRule (λ xs. map (rule_variant_of number keys.cat (r.mother ∷ xs)) (variants single r.equations)) (λ xs. Unit {0})
      (λ xs u. all_map BareRule (rule_variant_of number keys.cat (r.mother ∷ xs)) (λ es. es ≡ []) (bare_variant r.mother xs) (variants single r.equations) (one_empty single r.equations e))
      (variants single r.right) (everything (variants single r.right))

  abbrev BareEntry : EntryVariant → Type 0
  BareEntry entry = (facts : List (ℕ × ℕ)) × (entry.equations ≡ stated facts) × HasDistinct (arcs_for facts) × (entry.chain ≡ []) × IsFact facts keys.cat entry.category

  module _ (apart : AreDistinct keys) where
    facts_distinct : (e : EntryOf W) → HasDistinct (arcs_for (facts_of number keys e))
    facts_distinct e = go e.gloss
      where
        lex_absent : nat_eq keys.lex keys.cat ≡ false
        lex_absent = ne_eqb keys.lex keys.cat (λ q. apart.cat_lex (sym q))

        go : (o : Option W) → HasDistinct (arcs_for ((keys.cat, number e.category) ∷ (keys.lex, number e.word) ∷ gloss_fact number keys o))
        go None = (ap (λ b. cond b (Some (Atom (number e.word))) None) lex_absent, (refl, tt))
        go (Some w) = (
          ap (λ b. cond b (Some (Atom (number e.word))) (cond (nat_eq keys.gloss keys.cat) (Some (Atom (number w))) None)) lex_absent
              ∙ ap (λ b. cond b (Some (Atom (number w))) None) (ne_eqb keys.gloss keys.cat (λ q. apart.cat_gloss (sym q))),
          (ap (λ b. cond b (Some (Atom (number w))) None) (ne_eqb keys.gloss keys.lex (λ q. apart.lex_gloss (sym q))), (refl, tt)),
        )

    bare_entry : (ms : List (Meaning W)) (e : EntryOf W) → e.features ≡ Done → AllByRecursion BareEntry (entry_variants number same keys ms e)
    bare_entry ms e none =
        all_map BareEntry (entry_variant_of number keys e) (λ es. es ≡ [])
        (λ es q. subst (λ fs. BareEntry (entry_variant_of number keys e fs)) (sym q) (facts_of number keys e, append-nil _, facts_distinct e, refl, inl (refl, refl)))
        (equation_variants number (written_out same ms e.features)) (one_empty (λ q. single (feature_equation number q)) (written_out same ms e.features) (ap (written_out same ms) none))

    pub is_bare : (g : Grammar W) (l : List (EntryOf W)) → map (map number) g.restrictor ≡ (keys.cat ∷ []) ∷ [] → HasNoEquations g l → IsBare (build number same keys g l) keys.cat
    is_bare g l restrictor none = record {
      rules = every_rule number same keys g l BareRule (λ r. r.equations ≡ Done) bare_rule none.rules;
      entries = every_entry number same keys g l BareEntry (λ e. e.features ≡ Done) (bare_entry (meanings same g.templates)) none.entries;
      restrictor = restrictor;
    }

texts_differ : (N : Numbering) (a b : List ℕ) → same_text a b ≡ false → N.number a ≡ N.number b → ⊥
texts_differ N a b other e =
    let one : a ≡ b = sym (N.back a) ∙ (ap N.text e ∙ N.back b) in
    true≢false (sym (same_true a) ∙ (ap (same_text a) one ∙ other))

pub builds_are_bare : BuildsAreBare
builds_are_bare = record {
  by_texts = λ number same keys g l apart restrictor none. is_bare number same keys apart g l restrictor none;
  by_numbers = λ number same keys g l apart restrictor none. is_bare number same keys apart g l restrictor none;
  keys = λ N. record {
    cat_lex = texts_differ N (codes "cat") (codes "lex") refl;
    cat_gloss = texts_differ N (codes "cat") (codes "gloss") refl;
    lex_gloss = texts_differ N (codes "lex") (codes "gloss") refl;
  };
}
