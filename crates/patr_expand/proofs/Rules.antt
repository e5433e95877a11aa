-- The variants of a rule, one after another.
use Rattle.std.proofs.Common.{◌≡◌, ℕ, zero, suc, ◌+◌, ◌*◌, ◌/◌, ◌%◌, ◌<◌, ◌≤◌, ◌++◌, List, [], ◌∷◌, map, flat_map, filter_map, take, length, get_or, None, refl, sym, ap, ◌∙◌, subst, arith}
use Rattle.std.proofs.lemmas.List.{length-append, length-map, map_push, take_all, take_more}
use Rattle.std.proofs.Math.Nat.{div-lt_iff_lt-mul, le-mul_of_pos_right, mod-lt, mul_comm}
use Rattle.std.proofs.lemmas.Nat.{div-add-mod'}
use Rattle.patr_model.specs.Derivation as model
use Rattle.patr_model.specs.Grammar.{Row, Rows, Done, One, OneOf, Optional, None', Or, products, single, variants, variants_of}
use Rattle.patr_model.specs.Productions as production
use Rattle.patr_model.specs.Productions.{things, things_of}
use Rattle.patr_model.specs.Build.{category_equations, longest, placed_equation, rule_fault, rule_variant_of, rule_variants, size_fault, written_out}
use Rattle.patr_text.specs.declared.symbols.Id.{Id}
use Rattle.patr_grammar.specs.declared.grammar.RuleText.{RuleText}
use Rattle.patr_grammar.specs.declared.grammar.SymbolText.{SymbolText}
use Rattle.patr_grammar.specs.declared.grammar.Item.{Item}
use Rattle.patr_grammar.specs.declared.grammar.Element.{Element}
use Rattle.patr_grammar.specs.Levels.{features_seen}
use Rattle.patr_grammar.specs.Reading.{equations_seen, right_seen, rule_seen, symbol_seen}
use Rattle.patr_grammar.proofs.Levels.{equations_written}
use Rattle.patr_expand.specs.declared.rule.Parts.{Parts}
use Rattle.patr_expand.specs.declared.size.Size.{Size}
use Rattle.patr_expand.specs.declared.equation.Equation.{Equation}
use Rattle.patr_expand.specs.declared.variant.RuleVariant.{RuleVariant}
use Rattle.patr_expand.specs.Seen.{AreNumbered, cat, equations_at, number, rule_symbols, same, symbols_seen, variant_at, variants_at}
use Rattle.patr_expand.specs.Sizes.{IsRowSize, IsSize, capped}
use Rattle.patr_expand.specs.Expanded.{ArePlaced, IsExpanded, IsMade}
use Rattle.patr_expand.specs.Frames as frames
use Rattle.patr_expand.specs.Frames.{IsPlace}
use Rattle.patr_expand.specs.Written.{written}
use Rattle.patr_expand.proofs.Parts.{left_some, right_some}
use Rattle.patr_expand.proofs.Rows.{capped_product, pair_at, pairs_length}
use Rattle.patr_expand.proofs.Written.{row_written}

-- no name stands for anything in the equations of a rule
pub plainly_written : (es : List Element) → written [] es ≡ equations_seen es
plainly_written es = sym (equations_written same es ∙ row_written [] es)

-- ---- a variant has no more in it than its row

abbrev Short : {X : Type 0} → ℕ → List (List X) → Type 0
Short k [] = Unit {0}
Short k (v ∷ vs) = (length v ≤ k) × Short k vs

module _ {X : Type 0} where
  short_more : (k m : ℕ) (vs : List (List X)) → k ≤ m → Short k vs → Short m vs
  short_more k m [] le h = tt
  short_more k m (v ∷ vs) le h = (omega (arith, h.0), short_more k m vs le h.1)

  short_append : (k : ℕ) (us vs : List (List X)) → Short k us → Short k vs → Short k (us ++ vs)
  short_append k [] vs h l = l
  short_append k (u ∷ us) vs h l = (h.0, short_append k us vs h.1 l)

  short_map : (k m : ℕ) (v : List X) (ws : List (List X)) → length v ≤ k → Short m ws → Short (k + m) (map (λ w. v ++ w) ws)
  short_map k m v [] le h = tt
  short_map k m v (w ∷ ws) le h = (omega (arith, length-append v w, h.0), short_map k m v ws le h.1)

  short_products : (k m : ℕ) (us ws : List (List X)) → Short k us → Short m ws → Short (k + m) (products us ws)
  short_products k m [] ws h l = tt
  short_products k m (u ∷ us) ws h l = short_append (k + m) (map (λ w. u ++ w) ws) (products us ws) (short_map k m u ws h.0 l) (short_products k m us ws h.1 l)

  mutual
    short : (r : Row X) → Short (length (things r)) (variants single r)
    short Done = (omega arith, tt)
    short (One x r) = short_more (1 + length (things r)) (length (x ∷ things r)) (variants single (One x r)) (omega arith) (short_products 1 (length (things r)) (single x) (variants single r) (omega arith, tt) (short r))
    short (OneOf rs r) =
        short_more (length (things_of rs) + length (things r)) (length (things_of rs ++ things r)) (variants single (OneOf rs r)) (omega (arith, length-append (things_of rs) (things r)))
        (short_products (length (things_of rs)) (length (things r)) (variants_of single rs) (variants single r) (short_of rs) (short r))
    short (Optional rs r) =
        short_more (length (things_of rs) + length (things r)) (length (things_of rs ++ things r)) (variants single (Optional rs r)) (omega (arith, length-append (things_of rs) (things r)))
        (short_products (length (things_of rs)) (length (things r)) (variants_of single rs ++ [] ∷ []) (variants single r) (short_append (length (things_of rs)) (variants_of single rs) ([] ∷ []) (short_of rs) (omega arith, tt)) (short r))

    short_of : (rs : Rows X) → Short (length (things_of rs)) (variants_of single rs)
    short_of None' = tt
    short_of (Or r rs) =
        short_append (length (things r ++ things_of rs)) (variants single r) (variants_of single rs) (short_more (length (things r)) (length (things r ++ things_of rs)) (variants single r) (omega (arith, length-append (things r) (things_of rs))) (short r))
        (short_more (length (things_of rs)) (length (things r ++ things_of rs)) (variants_of single rs) (omega (arith, length-append (things r) (things_of rs))) (short_of rs))

  short_at : (k : ℕ) (vs : List (List X)) (n : ℕ) → Short k vs → length (get_or vs n []) ≤ k
  short_at k [] n h = omega arith
  short_at k (v ∷ vs) zero h = h.0
  short_at k (v ∷ vs) (suc n) h = short_at k vs n h.1

pub few_symbols : (r : RuleText) (symbols : List SymbolText) (m : SymbolText) (n : ℕ) → symbols_seen symbols ≡ symbols_seen (m ∷ []) ++ frames.variant_at (right_seen r.right.items) n → (0 < length symbols) × (length symbols ≤ 33)
few_symbols r symbols m n h = (omega (arith, long), omega (arith, long, short_at (length (things (right_seen r.right.items))) (variants single (right_seen r.right.items)) n (short (right_seen r.right.items)), r.few))
  where
    long : length symbols ≡ suc (length (get_or (variants single (right_seen r.right.items)) n []))
    long = sym (length-map symbols symbol_seen) ∙ ap length h

-- ---- the parts of a variant's number

module _ (r : RuleText) (p : Parts) (n : ℕ) (h : ArePlaced r p n) where
  some_rights : 0 < p.rights
  some_rights = left_some p.rights p.equations n h.below

  pub some_equations : 0 < p.equations
  some_equations = right_some p.rights p.equations n h.below

  pub right_place : IsPlace (right_seen r.right.items) p.rights (n / p.equations)
  right_place = record { counted = h.rights; below = (div-lt_iff_lt-mul some_equations).1 h.below; few = omega (arith, le-mul_of_pos_right p.rights some_equations, h.few) }

  pub equations_place : IsPlace (equations_seen r.equations.items) p.equations (n % p.equations)
  equations_place = record { counted = h.equations; below = mod-lt n some_equations; few = omega (arith, le-mul_of_pos_right p.equations some_rights, mul_comm p.rights p.equations, h.few) }

  joined : {C : Type 0} (g : List (production.SymbolText Id) → List (production.EquationText Id) → C) (c : C)
      → get_or (flat_map (λ xs. map (g xs) (variants single (equations_seen r.equations.items))) (variants single (right_seen r.right.items))) n c ≡ g (frames.variant_at (right_seen r.right.items) (n / p.equations)) (frames.variant_at (equations_seen r.equations.items) (n % p.equations))
  joined g c =
      ap (λ k. get_or (flat_map (λ xs. map (g xs) (variants single (equations_seen r.equations.items))) (variants single (right_seen r.right.items))) k c) (sym (ap (λ e. n / p.equations * e + n % p.equations) h.equations ∙ div-add-mod' n p.equations))
      ∙ pair_at g (variants single (right_seen r.right.items)) (variants single (equations_seen r.equations.items)) (n / p.equations) (n % p.equations) [] [] c (omega (arith, right_place.below, h.rights)) (omega (arith, equations_place.below, h.equations))

  pub symbols_are : (start found : List SymbolText) (items : List Item) (k : ℕ) → start ≡ r.mother ∷ [] → items ≡ r.right.items → k ≡ n → symbols_seen found ≡ symbols_seen start ++ frames.variant_at (right_seen items) (k / p.equations)
      → symbols_seen found ≡ symbols_seen (r.mother ∷ []) ++ frames.variant_at (right_seen r.right.items) (n / p.equations)
  symbols_are start found items k a b c e = e ∙ (λ i. symbols_seen (a i) ++ frames.variant_at (right_seen (b i)) (c i / p.equations))

  pub made_symbols : (symbols : List SymbolText) → symbols_seen symbols ≡ symbols_seen (r.mother ∷ []) ++ frames.variant_at (right_seen r.right.items) (n / p.equations) → symbols_seen symbols ≡ get_or (rule_symbols (rule_seen r)) n []
  made_symbols symbols e = e ∙ sym (joined (λ xs es. symbol_seen r.mother ∷ xs) [])

  categories : (symbols : List SymbolText) → map (λ x. x.category.0) symbols ≡ map (λ x. number x.category) (symbols_seen symbols)
  categories [] = refl
  categories (s ∷ symbols) = ap (λ l. s.category.0 ∷ l) (categories symbols)

  pub made_variant : (symbols : List SymbolText) (equations : List Equation) (es : List (production.EquationText Id)) (d : model.RuleVariant) → symbols_seen symbols ≡ symbols_seen (r.mother ∷ []) ++ frames.variant_at (right_seen r.right.items) (n / p.equations)
      → es ≡ frames.variant_at (equations_seen r.equations.items) (n % p.equations) → equations_at equations ≡ category_equations number cat 0 (symbols_seen symbols) ++ filter_map (placed_equation number (symbols_seen symbols)) es
      → record { categories = map (λ x. x.category.0) symbols; equations = equations_at equations } ≡ get_or (rule_variants number cat (rule_seen r)) n d
  made_variant symbols equations es d e k l =
      (λ i. record { categories = categories symbols i; equations = l i }) ∙ (λ i. rule_variant_of number cat (e i) (k i)) ∙ sym (joined (λ xs es. rule_variant_of number cat (symbol_seen r.mother ∷ xs) es) d)

-- ---- a rule's size

pub rule_size : (r : RuleText) (rights : ℕ) (s size : Size) → rights ≡ capped (length (variants single (right_seen r.right.items))) → IsRowSize (written [] r.equations.items) s → size.variants ≡ capped (rights * s.variants) → size.equations ≡ s.equations
    → IsSize (length (variants single (right_seen r.right.items)) * length (variants single (equations_seen r.equations.items))) (longest (λ e. 1) (equations_seen r.equations.items)) size
rule_size r rights s size h k v e = record {
  variants = v ∙ (λ i. capped (h i * plain.variants i)) ∙ capped_product (length (variants single (right_seen r.right.items))) (length (variants single (equations_seen r.equations.items)));
  equations = e ∙ plain.equations;
}
  where
    plain : IsRowSize (equations_seen r.equations.items) s
    plain = subst (λ row. IsRowSize row s) (plainly_written r.equations.items) k

pub placed : (r : RuleText) (p : Parts) (s size : Size) (n : ℕ) → p.rights ≡ capped (length (variants single (right_seen r.right.items))) → IsRowSize (written [] r.equations.items) s → p.equations ≡ s.variants
    → length (variants single (right_seen r.right.items)) * length (variants single (equations_seen r.equations.items)) ≤ 256 → n < length (variants single (right_seen r.right.items)) * length (variants single (equations_seen r.equations.items)) → ArePlaced r p n
placed r p s size n h k e few below = record {
  rights = is_rights;
  equations = is_equations;
  below = subst (λ m. n < m) product below;
  few = subst (λ m. m ≤ 256) product few;
}
  where
    a : ℕ
    a = length (variants single (right_seen r.right.items))

    b : ℕ
    b = length (variants single (equations_seen r.equations.items))

    plain : IsRowSize (equations_seen r.equations.items) s
    plain = subst (λ row. IsRowSize row s) (plainly_written r.equations.items) k

    is_rights : length (variants single (right_seen r.right.items)) ≡ p.rights
    is_rights = omega (arith, h, le-mul_of_pos_right (length (variants single (right_seen r.right.items))) (right_some (length (variants single (right_seen r.right.items))) (length (variants single (equations_seen r.equations.items))) n below), few)

    is_equations : length (variants single (equations_seen r.equations.items)) ≡ p.equations
    is_equations =
        omega (arith, e, plain.variants, le-mul_of_pos_right (length (variants single (equations_seen r.equations.items))) (left_some (length (variants single (right_seen r.right.items))) (length (variants single (equations_seen r.equations.items))) n below), mul_comm (length (variants single (right_seen r.right.items))) (length (variants single (equations_seen r.equations.items))), few)

    product : length (variants single (right_seen r.right.items)) * length (variants single (equations_seen r.equations.items)) ≡ p.rights * p.equations
    product = λ i. is_rights i * is_equations i

-- ---- one variant after another

-- so many variants of the rule
pub record AreBegun (rule : ℕ) (r : RuleText) (n : ℕ) (vs : List RuleVariant) : Type 0 where
  pub numbered : AreNumbered rule 0 vs
  pub count : length vs ≡ n
  pub symbols : map (λ v. symbols_seen v.symbols.items) vs ≡ take n (rule_symbols (rule_seen r))
  pub variants : variants_at vs ≡ take n (rule_variants number cat (rule_seen r))

numbered_more : (rule k : ℕ) (vs : List RuleVariant) (v : RuleVariant) → AreNumbered rule k vs → v.rule ≡ rule → v.variant ≡ k + length vs → AreNumbered rule k (vs ++ v ∷ [])
numbered_more rule k [] v h e f = (e, omega (arith, f), tt)
numbered_more rule k (u ∷ vs) v h e f = (h.0, h.1, numbered_more rule (suc k) vs v h.2 e (omega (arith, f)))

pub begun_more : (rule : ℕ) (r : RuleText) (n : ℕ) (vs new : List RuleVariant) (v : RuleVariant) → AreBegun rule r n vs → IsMade rule r n v → n < length (variants single (right_seen r.right.items)) * length (variants single (equations_seen r.equations.items)) → new ≡ vs ++ v ∷ [] → AreBegun rule r (n + 1) new
begun_more rule r n vs new v h m lt e = subst (AreBegun rule r (n + 1)) (sym e) (record {
  numbered = numbered_more rule 0 vs v h.numbered m.rule (omega (arith, m.variant, h.count));
  count = omega (arith, length-append vs (v ∷ []), h.count);
  symbols = map_push (λ v. symbols_seen v.symbols.items) vs v ∙ (λ i. h.symbols i ++ m.symbols i ∷ []) ∙ sym (take_more (rule_symbols (rule_seen r)) n [] (below (λ xs es. symbol_seen r.mother ∷ xs)));
  variants = map_push variant_at vs v ∙ (λ i. h.variants i ++ m.made (variant_at v) i ∷ []) ∙ sym (take_more (rule_variants number cat (rule_seen r)) n (variant_at v) (below (λ xs es. rule_variant_of number cat (symbol_seen r.mother ∷ xs) es)));
})
  where
    below : {C : Type 0} (g : List (production.SymbolText Id) → List (production.EquationText Id) → C) → n < length (flat_map (λ xs. map (g xs) (variants single (equations_seen r.equations.items))) (variants single (right_seen r.right.items)))
    below g = omega (arith, lt, pairs_length g (variants single (right_seen r.right.items)) (variants single (equations_seen r.equations.items)))

pub all_begun : (rule : ℕ) (r : RuleText) (n : ℕ) (vs : List RuleVariant) → AreBegun rule r n vs → length (variants single (right_seen r.right.items)) * length (variants single (equations_seen r.equations.items)) ≤ n → rule_fault (rule_seen r) ≡ None → IsExpanded rule r vs
all_begun rule r n vs h le none = record {
  faultless = none;
  numbered = h.numbered;
  symbols = h.symbols ∙ take_all n (rule_symbols (rule_seen r)) (above (λ xs es. symbol_seen r.mother ∷ xs));
  variants = h.variants ∙ take_all n (rule_variants number cat (rule_seen r)) (above (λ xs es. rule_variant_of number cat (symbol_seen r.mother ∷ xs) es));
}
  where
    above : {C : Type 0} (g : List (production.SymbolText Id) → List (production.EquationText Id) → C) → length (flat_map (λ xs. map (g xs) (variants single (equations_seen r.equations.items))) (variants single (right_seen r.right.items))) ≤ n
    above g = omega (arith, le, pairs_length g (variants single (right_seen r.right.items)) (variants single (equations_seen r.equations.items)))
