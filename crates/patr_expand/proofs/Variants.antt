-- The variants of features, one after another.
use Rattle.std.proofs.Common.{◌≡◌, ℕ, zero, suc, ◌+◌, ◌<◌, ◌≤◌, List, [], ◌∷◌, ◌++◌, map, flat_map, take, length, get_or, Bool, true, false, cond, nat_lt, Option, Some, None, Bor, Vec, Global, refl, sym, ap, ◌∙◌, arith}
use Rattle.std.proofs.lemmas.List.{length-map, map-append, map_push, take_all, take_more}
use Rattle.std.proofs.lemmas.Bool.Decides.{nat_tests}
use Rattle.patr_model.specs.Equation as model
use Rattle.patr_model.specs.Grammar.{Row, Rows, Done, One, OneOf, Optional, None', Or, products, single, variants, variants_of}
use Rattle.patr_model.specs.Productions.{EquationText, things}
use Rattle.patr_model.specs.Build.{ExpandFault, Meaning, TooManyEquations, TooManyVariants, equations_fault, feature_equation, first_fault, longest, size_fault, unknown_name, written_out}
use Rattle.patr_text.specs.declared.symbols.Id.{Id}
use Rattle.patr_grammar.specs.declared.grammar.EquationText as code
use Rattle.patr_grammar.specs.declared.grammar.Element.{Element}
use Rattle.patr_grammar.specs.Levels.{equation_seen, features_seen}
use Rattle.patr_expand.specs.declared.equation.Equation.{Equation}
use Rattle.patr_expand.specs.declared.size.Size.{Size}
use Rattle.patr_expand.specs.Seen.{equations_at, fault_of_features, feature_variants, lists_at, number, same}
use Rattle.patr_expand.specs.Sizes.{IsRowSize, capped}
use Rattle.patr_expand.specs.Frames.{IsPlace}
use Rattle.patr_expand.specs.Written.{written}
use Rattle.patr_expand.proofs.Written.{row_written}

-- ---- variants of things that are mapped

module _ {X Y : Type 0} (f : X → Y) where
  pairs : (v : List X) (bs : List (List X)) → map (map f) (map (λ w. v ++ w) bs) ≡ map (λ w. map f v ++ w) (map (map f) bs)
  pairs v [] = refl
  pairs v (b ∷ bs) = (λ i. map-append f v b i ∷ pairs v bs i)

  products_mapped : (us bs : List (List X)) → map (map f) (products us bs) ≡ products (map (map f) us) (map (map f) bs)
  products_mapped [] bs = refl
  products_mapped (a ∷ us) bs = map-append (map f) (map (λ w. a ++ w) bs) (products us bs) ∙ (λ i. pairs a bs i ++ products_mapped us bs i)

  mutual
    pub variants_mapped : (r : Row X) → map (map f) (variants single r) ≡ variants (λ x. single (f x)) r
    variants_mapped Done = refl
    variants_mapped (One x r) = products_mapped (single x) (variants single r) ∙ ap (products (single (f x))) (variants_mapped r)
    variants_mapped (OneOf rs r) = products_mapped (variants_of single rs) (variants single r) ∙ (λ i. products (of_mapped rs i) (variants_mapped r i))
    variants_mapped (Optional rs r) =
        products_mapped (variants_of single rs ++ [] ∷ []) (variants single r) ∙ ap (λ l. products l (map (map f) (variants single r))) (map-append (map f) (variants_of single rs) ([] ∷ []))
        ∙ (λ i. products (of_mapped rs i ++ [] ∷ []) (variants_mapped r i))

    of_mapped : (rs : Rows X) → map (map f) (variants_of single rs) ≡ variants_of (λ x. single (f x)) rs
    of_mapped None' = refl
    of_mapped (Or r rs) = map-append (map f) (variants single r) (variants_of single rs) ∙ (λ i. variants_mapped r i ++ of_mapped rs i)

  map_twice : {Z : Type 0} (g : Z → X) (zs : List Z) → map (λ z. f (g z)) zs ≡ map f (map g zs)
  map_twice g [] = refl
  map_twice g (z ∷ zs) = ap (λ l. f (g z) ∷ l) (map_twice g zs)

-- ---- refusals

module _ (ms : List (Meaning Id)) (line : ℕ) (es : List Element) where
  pub fault_behind : unknown_name same ms (things (features_seen es)) ≡ None → fault_of_features ms line es ≡ size_fault line (length (variants single (written ms es))) (longest (λ e. 1) (written ms es))
  fault_behind none = ap (λ o. first_fault o (equations_fault line (written_out same ms (features_seen es)))) none ∙ ap (equations_fault line) (row_written ms es)

not_above : (n : ℕ) → nat_lt 256 n ≡ false → n ≤ 256
not_above n h = grind (arith, nat_tests)

pub small : (line count most : ℕ) → size_fault {W = Id} line count most ≡ None → count ≤ 256
small line count most h = by (nat_lt 256 count) refl h
  where
    large : ℕ → ExpandFault Id
    large n = TooManyVariants line (capped n)

    by : (b : Bool) → nat_lt 256 count ≡ b → cond b (Some (large count)) (cond (nat_lt 1024 most) (Some (TooManyEquations line (capped most))) None) ≡ None → count ≤ 256
    by true e h = cc
    by false e h = not_above count e

-- ---- one variant after another

pub place_of : {X : Type 0} (r : Row X) (s : Size) (n : ℕ) → IsRowSize r s → length (variants single r) ≤ 256 → n < s.variants → IsPlace r s.variants n
place_of r s n h few lt = record { counted = omega (arith, h.variants, few); below = lt; few = omega (arith, h.variants, few) }

abbrev made : List (EquationText Id) → List model.Equation
made es = map (feature_equation number) es

pub made_of : (es : List (Bor code.EquationText)) (v : List (EquationText Id)) → map (λ e. equation_seen e.now) es ≡ v → map (λ e. feature_equation number (equation_seen e.now)) es ≡ map (feature_equation number) v
made_of es v e = map_twice (feature_equation number) (λ e. equation_seen e.now) es ∙ ap made e

pub lists_more : (vs : List (List (EquationText Id))) (n : ℕ) (old : List (Vec Equation Global)) (here : Vec Equation Global) (new : List (Vec Equation Global)) → n < length vs → lists_at old ≡ map (map (feature_equation number)) (take n vs)
    → equations_at here.items ≡ map (feature_equation number) (get_or vs n []) → new ≡ old ++ here ∷ [] → lists_at new ≡ map (map (feature_equation number)) (take (n + 1) vs)
lists_more vs n old here new lt h k e =
    ap lists_at e ∙ map_push (λ v. equations_at v.items) old here ∙ (λ i. h i ++ k i ∷ [])
    ∙ sym (ap (map (map (feature_equation number))) (take_more vs n [] lt) ∙ map_push (map (feature_equation number)) (take n vs) (get_or vs n []))

pub all_lists : (ms : List (Meaning Id)) (es : List Element) (n : ℕ) (found : List (Vec Equation Global)) → length (variants single (written ms es)) ≤ n → lists_at found ≡ map (map (feature_equation number)) (take n (variants single (written ms es))) → lists_at found ≡ feature_variants ms es
all_lists ms es n found le h =
    h ∙ ap (map (map (feature_equation number))) (take_all n (variants single (written ms es)) le) ∙ variants_mapped (feature_equation number) (written ms es) ∙ ap (λ r. variants (λ e. single (feature_equation number e)) r) (sym (row_written ms es))

pub few_lists : (vs : List (List (EquationText Id))) (n : ℕ) (found : List (Vec Equation Global)) → length vs ≤ n → length vs ≤ 256 → lists_at found ≡ map (map (feature_equation number)) (take n vs) → length found ≤ 256
few_lists vs n found le few h =
    omega (arith, length-map found (λ v. equations_at v.items), ap length (h ∙ ap (map (map (feature_equation number))) (take_all n vs le)), length-map vs (map (feature_equation number)), few)
