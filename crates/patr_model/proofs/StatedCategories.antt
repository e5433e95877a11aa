-- The variants of a build begin with their categories, and their equations speak of slots that are there.
use Rattle.std.proofs.Common.{◌≡◌, inl, ℕ, zero, suc, ◌+◌, ◌<◌, ◌≤◌, Bool, true, false, cond, nat_eq, List, [], ◌∷◌, ◌++◌, map, filter_map, length, Option, Some, None, option_map, option_and_then, slice_get, Contains, refl, sym, ap, subst, arith}
use Rattle.std.specs.List.{AllByRecursion, cons_option}
use Rattle.std.proofs.lemmas.List.{length-map}
use Rattle.patr_lists.proofs.Alls.{all_at, all_map, all_flat}
use Rattle.patr_model.specs.Equation.{SlotPath, Term, AtomOf, PathOf, Equation}
use Rattle.patr_model.specs.Derivation.{RuleVariant, EntryVariant, rule_variant, entry_variant}
use Rattle.patr_model.specs.Grammar.{Row, single, variants}
use Rattle.patr_model.specs.Plain.{bare, stated, IsFact}
use Rattle.patr_model.specs.Productions.{SymbolText, PathText, TermText, AtomText, OfPath, EquationText, RuleText, Grammar}
use Rattle.patr_model.specs.LexiconText.{EntryOf}
use Rattle.patr_model.specs.Variants.{TermWithin, IsWithin, AreWithin}
use Rattle.patr_model.specs.Build.{slot_of, head_slot, placed_path, placed_term, placed_equation, category_equations, rule_variant_of, rule_variants, Keys, feature_term, feature_equation, equation_variants, facts_of, entry_variant_of, Meaning, written_out, meanings, entry_variants, build}
use Rattle.patr_model.specs.Builds.{AreBuilt}
use Rattle.patr_model.proofs.Maps.{some_inj, and_then_some}
use Rattle.patr_model.proofs.Members.{at_is_member, variants_all}

-- ---- slots that are there

-- it holds of what is there
abbrev IfSome : {X : Type 0} → (X → Type 0) → Option X → Type 0
IfSome P None = Unit {0}
IfSome P (Some x) = P x

module _ {W : Type 0} (number : W → ℕ) where
  slot_within : (xs : List (SymbolText W)) (s : ℕ) → IfSome (λ n. n < length xs) (slot_of number xs s)
  slot_within [] s = tt
  slot_within (x ∷ xs) s = go (nat_eq (number x.symbol) s) (slot_of number xs s) (slot_within xs s)
    where
      go : (b : Bool) (o : Option ℕ) → IfSome (λ n. n < length xs) o → IfSome (λ n. n < suc (length xs)) (cond b (Some 0) (option_map (λ n. suc n) o))
      go true o h = omega arith
      go false None h = tt
      go false (Some n) h = omega (arith, h)

  module _ (x : SymbolText W) (xs : List (SymbolText W)) where
    path_within : (p : PathText W) → IfSome (λ q. q.slot < length (x ∷ xs)) (placed_path number (x ∷ xs) p)
    path_within p = go (head_slot number (x ∷ xs) p.head) (head p.head)
      where
        head : (o : Option W) → IfSome (λ n. n < length (x ∷ xs)) (head_slot number (x ∷ xs) o)
        head None = omega arith
        head (Some w) = slot_within (x ∷ xs) (number w)

        go : (o : Option ℕ) → IfSome (λ n. n < length (x ∷ xs)) o → IfSome (λ (q : SlotPath). q.slot < length (x ∷ xs)) (option_map (λ n. record { slot = n; path = map number p.attributes }) o)
        go None h = tt
        go (Some n) h = h

    term_within : (t : TermText W) → IfSome (TermWithin (length (x ∷ xs))) (placed_term number (x ∷ xs) t)
    term_within (AtomText a) = tt
    term_within (OfPath p) = go (placed_path number (x ∷ xs) p) (path_within p)
      where
        go : (o : Option SlotPath) → IfSome (λ q. q.slot < length (x ∷ xs)) o → IfSome (TermWithin (length (x ∷ xs))) (option_map (λ q. PathOf q) o)
        go None h = tt
        go (Some q) h = h

    equation_within : (e : EquationText W) → IfSome (IsWithin (length (x ∷ xs))) (placed_equation number (x ∷ xs) e)
    equation_within e = go (placed_path number (x ∷ xs) e.left) (placed_term number (x ∷ xs) e.right) (path_within e.left) (term_within e.right)
      where
        go : (o : Option SlotPath) (u : Option Term) → IfSome (λ q. q.slot < length (x ∷ xs)) o → IfSome (TermWithin (length (x ∷ xs))) u
            → IfSome (IsWithin (length (x ∷ xs))) (option_and_then (λ l. option_map (λ r. record { left = l; right = r }) u) o)
        go None u h k = tt
        go (Some l) None h k = tt
        go (Some l) (Some r) h k = (h, k)

    placed_within : (es : List (EquationText W)) → AreWithin (length (x ∷ xs)) (filter_map (placed_equation number (x ∷ xs)) es)
    placed_within [] = tt
    placed_within (e ∷ es) = go (placed_equation number (x ∷ xs) e) (equation_within e) (filter_map (placed_equation number (x ∷ xs)) es) (placed_within es)
      where
        go : (o : Option Equation) → IfSome (IsWithin (length (x ∷ xs))) o → (fs : List Equation) → AreWithin (length (x ∷ xs)) fs → AreWithin (length (x ∷ xs)) (cons_option o fs)
        go None h fs k = k
        go (Some f) h fs k = (h, k)

pub within_append : (n : ℕ) (es fs : List Equation) → AreWithin n es → AreWithin n fs → AreWithin n (es ++ fs)
within_append n [] fs h k = k
within_append n (e ∷ es) fs h k = (h.0, within_append n es fs h.1 k)

pub bare_within : (n cat k : ℕ) (cs : List ℕ) → k + length cs ≤ n → AreWithin n (bare cat k cs)
bare_within n cat k [] h = tt
bare_within n cat k (c ∷ cs) h = ((omega (arith, h), tt), bare_within n cat (suc k) cs (omega (arith, h)))

-- ---- rules

abbrev RuleIsBuilt : ℕ → RuleVariant → Type 0
RuleIsBuilt cat rule = (0 < length rule.categories) × ((more : List Equation) × (rule.equations ≡ bare cat 0 rule.categories ++ more)) × AreWithin (length rule.categories) rule.equations

module _ {W : Type 0} (number : W → ℕ) where
  pub categories_are_bare : (cat k : ℕ) (xs : List (SymbolText W)) → category_equations number cat k xs ≡ bare cat k (map (λ (x : SymbolText W). number x.category) xs)
  categories_are_bare cat k [] = refl
  categories_are_bare cat k (x ∷ xs) = ap (λ es. record { left = record { slot = k; path = cat ∷ [] }; right = AtomOf (number x.category) } ∷ es) (categories_are_bare cat (suc k) xs)

  variant_is_built : (cat : ℕ) (x : SymbolText W) (xs : List (SymbolText W)) (es : List (EquationText W)) → RuleIsBuilt cat (rule_variant_of number cat (x ∷ xs) es)
  variant_is_built cat x xs es =
      let cs = map (λ (y : SymbolText W). number y.category) (x ∷ xs) in
      let long : length cs ≡ length (x ∷ xs) = length-map (x ∷ xs) (λ y. number y.category) in
      let placed = filter_map (placed_equation number (x ∷ xs)) es in
      let e = categories_are_bare cat 0 (x ∷ xs) in (
        omega (arith, long),
        (placed, ap (λ fs. fs ++ placed) e),
        subst (λ n. AreWithin n (category_equations number cat 0 (x ∷ xs) ++ placed)) (sym long)
            (within_append (length (x ∷ xs)) (category_equations number cat 0 (x ∷ xs)) placed
            (subst (AreWithin (length (x ∷ xs))) (sym e) (bare_within (length (x ∷ xs)) cat 0 cs (omega (arith, long))))
            (placed_within number x xs es)),
      )

-- every member has the property that holds of everything
pub everything : {X : Type 0} (xs : List X) → AllByRecursion (λ x. Unit {0}) xs
everything [] = tt
everything (x ∷ xs) = (tt, everything xs)

module _ {W : Type 0} (number : W → ℕ) where
  rule_is_built : (cat : ℕ) (r : RuleText W) → AllByRecursion (RuleIsBuilt cat) (rule_variants number cat r)
  rule_is_built cat r =
      all_flat (RuleIsBuilt cat) (λ xs. map (rule_variant_of number cat (r.mother ∷ xs)) (variants single r.equations)) (λ xs. Unit {0})
      (λ xs u. all_map (RuleIsBuilt cat) (rule_variant_of number cat (r.mother ∷ xs)) (λ es. Unit {0}) (λ es v. variant_is_built number cat r.mother xs es) (variants single r.equations) (everything (variants single r.equations)))
      (variants single r.right) (everything (variants single r.right))

-- its equation is among them
pub stated_at : (cat n : ℕ) (cs : List ℕ) (more : List Equation) (i j c : ℕ) → n + i ≡ j → slice_get cs i ≡ Some c
    → slice_get (bare cat n cs ++ more) i ≡ Some (record { left = record { slot = j; path = cat ∷ [] }; right = AtomOf c })
stated_at cat n [] more i j c e h = cc
stated_at cat n (d ∷ cs) more zero j c e h =
    let same : n ≡ j = omega (arith, e) in
    λ k. Some (record { left = record { slot = same k; path = cat ∷ [] }; right = AtomOf (some_inj d c h k) })
stated_at cat n (d ∷ cs) more (suc i) j c e h = stated_at cat (suc n) cs more i j c (omega (arith, e)) h

-- ---- entries

pub stated_within : (fs : List (ℕ × ℕ)) → AreWithin 1 (stated fs)
stated_within [] = tt
stated_within (f ∷ fs) = ((omega arith, tt), stated_within fs)

-- what is known of the variant of an entry
abbrev pub EntryIsBuilt : ℕ → EntryVariant → Type 0
EntryIsBuilt cat entry = ((facts : List (ℕ × ℕ)) × (more : List Equation) × (entry.equations ≡ stated facts ++ more) × IsFact facts cat entry.category) × AreWithin 1 entry.equations × (entry.chain ≡ [])

module _ {W : Type 0} (number : W → ℕ) where
  equations_within : (r : Row (EquationText W)) → AllByRecursion (AreWithin 1) (equation_variants number r)
  equations_within = variants_all (AreWithin 1) tt (within_append 1) (λ e. single (feature_equation number e)) (λ e. (((omega arith, term_in e.right), tt), tt))
    where
      term_in : (t : TermText W) → TermWithin 1 (feature_term number t)
      term_in (AtomText a) = tt
      term_in (OfPath p) = omega arith

module _ {W : Type 0} (number : W → ℕ) (same : W → W → Bool) (keys : Keys) where
  pub entry_is_built : (ms : List (Meaning W)) (e : EntryOf W) → AllByRecursion (EntryIsBuilt keys.cat) (entry_variants number same keys ms e)
  entry_is_built ms e =
      all_map (EntryIsBuilt keys.cat) (entry_variant_of number keys e) (AreWithin 1)
      (λ es w. (
        (facts_of number keys e, es, refl, inl (refl, refl)),
        within_append 1 (stated (facts_of number keys e)) es (stated_within (facts_of number keys e)) w,
        refl,
      ))
      (equation_variants number (written_out same ms e.features)) (equations_within number (written_out same ms e.features))

  module _ (g : Grammar W) (l : List (EntryOf W)) where
    -- what holds of the variants of each rule holds of each variant
    pub every_rule : (P : RuleVariant → Type 0) (Q : RuleText W → Type 0) → ((r : RuleText W) → Q r → AllByRecursion P (rule_variants number keys.cat r)) → AllByRecursion Q g.rules
        → (r k : ℕ) (rule : RuleVariant) → rule_variant (build number same keys g l) r k ≡ Some rule → P rule
    every_rule P Q made all r k rule h =
        let rules = (build number same keys g l).rules in
        let vs = and_then_some (slice_get rules r) (λ vs. slice_get vs k) rule h in
        all_at P vs.0 (all_at (AllByRecursion P) rules (all_map (AllByRecursion P) (rule_variants number keys.cat) Q made g.rules all) r vs.0 vs.1) k rule vs.2

    -- and of entries
    pub every_entry : (P : EntryVariant → Type 0) (Q : EntryOf W → Type 0) → ((e : EntryOf W) → Q e → AllByRecursion P (entry_variants number same keys (meanings same g.templates) e)) → AllByRecursion Q l
        → (e k : ℕ) (entry : EntryVariant) → entry_variant (build number same keys g l) e k ≡ Some entry → P entry
    every_entry P Q made all e k entry h =
        let entries = (build number same keys g l).entries in
        let vs = and_then_some (slice_get entries e) (λ vs. slice_get vs k) entry h in
        all_at P vs.0 (all_at (AllByRecursion P) entries (all_map (AllByRecursion P) (entry_variants number same keys (meanings same g.templates)) Q made l all) e vs.0 vs.1) k entry vs.2

    rule_at : (r k : ℕ) (rule : RuleVariant) → rule_variant (build number same keys g l) r k ≡ Some rule → RuleIsBuilt keys.cat rule
    rule_at = every_rule (RuleIsBuilt keys.cat) (λ r. Unit {0}) (λ r u. rule_is_built number keys.cat r) (everything g.rules)

    entry_at : (e k : ℕ) (entry : EntryVariant) → entry_variant (build number same keys g l) e k ≡ Some entry → EntryIsBuilt keys.cat entry
    entry_at = every_entry (EntryIsBuilt keys.cat) (λ e. Unit {0}) (λ e u. entry_is_built (meanings same g.templates) e) (everything l)

    pub are_built : AreBuilt (build number same keys g l) keys.cat
    are_built = record {
      categories = record { rules = λ r k rule h. let b = rule_at r k rule h in (b.0, b.1); entries = λ e k entry h. (entry_at e k entry h).0 };
      states = λ r k rule h s c q.
          let b = rule_at r k rule h in
          subst (λ es. Contains es (record { left = record { slot = s; path = keys.cat ∷ [] }; right = AtomOf c })) (sym b.1.1)
          (at_is_member (bare keys.cat 0 rule.categories ++ b.1.0) s (record { left = record { slot = s; path = keys.cat ∷ [] }; right = AtomOf c }) (stated_at keys.cat 0 rule.categories b.1.0 s s c (omega arith) q));
      within = record { rules = λ r k rule h. (rule_at r k rule h).2; entries = λ e k entry h. (entry_at e k entry h).1 };
      chains = λ e k entry h. (entry_at e k entry h).2;
    }
