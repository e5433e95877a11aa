-- The variants of a rule are, up to order, those of the rules in which a choice of it is written out.
use Rattle.std.proofs.Common.{◌≡◌, List, [], ◌∷◌, ◌++◌, append-nil, append_assoc, map, flat_map, IsPermutation, codes, refl, sym, ap, ◌∙◌, subst, ℕ}
use Rattle.std.proofs.lemmas.Grind.{flat_map-append}
use Rattle.std.proofs.lemmas.List.{map-append}
use Rattle.std.proofs.lemmas.List.Concat.{flat_map_single}
use Rattle.std.proofs.lemmas.List.Folds.{flat_map-map}
use Rattle.std.proofs.lemmas.List.Sorted.{IsPermutation-refl, IsPermutation-trans, IsPermutation-append, IsPermutation-append_left, IsPermutation-append_right, IsPermutation-append_comm}
use Rattle.patr_model.specs.Grammar.{Row, Rows, Done, One, OneOf, Optional, None', Or, products, variants, variants_of, single}
use Rattle.patr_model.specs.Renaming.{Each}
use Rattle.patr_model.specs.Derivation.{RuleVariant}
use Rattle.patr_model.specs.Productions.{SymbolText, EquationText, RuleText}
use Rattle.patr_model.specs.Build.{rule_variant_of, rule_variants, build, grounds}
use Rattle.patr_laws.specs.Alternatives.{joined, alternatives, between, IsWrittenOut, HasParts, IsSplitInFront, IsSplit, AreSplitBy, gathered, VariantsAreWrittenOut, GrammarsAreWrittenOut, RepliesAreOfVariants, AlternativesAreRules}
use Rattle.patr_laws.proofs.Gathered.{reordered, apart}
use Rattle.patr_laws.proofs.SplitReplies.{same_replies}

-- ---- lists

module _ {X Y Z : Type 0} (f : X → List Y) (g : Y → List Z) where
  flat_flat : (xs : List X) → flat_map g (flat_map f xs) ≡ flat_map (λ x. flat_map g (f x)) xs
  flat_flat [] = refl
  flat_flat (x ∷ xs) = flat_map-append g (f x) (flat_map f xs) ∙ ap (λ l. flat_map g (f x) ++ l) (flat_flat xs)

module _ {X Y : Type 0} where
  -- equal lists for equal members
  flat_same : (f g : X → List Y) → ((x : X) → f x ≡ g x) → (xs : List X) → flat_map f xs ≡ flat_map g xs
  flat_same f g h [] = refl
  flat_same f g h (x ∷ xs) = λ i. h x i ++ flat_same f g h xs i

  -- the same up to order for each member
  flat_permuted : (f g : X → List Y) → ((x : X) → IsPermutation (f x) (g x)) → (xs : List X) → IsPermutation (flat_map f xs) (flat_map g xs)
  flat_permuted f g h [] = IsPermutation-refl []
  flat_permuted f g h (x ∷ xs) = IsPermutation-append (f x) (g x) (flat_map f xs) (flat_map g xs) (h x) (flat_permuted f g h xs)

  nothing : (xs : List X) → flat_map {A = Y} (λ x. []) xs ≡ []
  nothing [] = refl
  nothing (x ∷ xs) = nothing xs

-- the two in the middle exchanged
crossed : {Y : Type 0} (a b c d : List Y) → IsPermutation ((a ++ b) ++ (c ++ d)) ((a ++ c) ++ (b ++ d))
crossed a b c d =
    let inner : IsPermutation (b ++ (c ++ d)) (c ++ (b ++ d)) =
    subst (λ l. IsPermutation l (c ++ (b ++ d))) (append_assoc b c d) (subst (IsPermutation ((b ++ c) ++ d)) (append_assoc c b d) (IsPermutation-append_left d (b ++ c) (c ++ b) (IsPermutation-append_comm b c))) in
    subst (λ l. IsPermutation l ((a ++ c) ++ (b ++ d))) (sym (append_assoc a b (c ++ d)))
    (subst (IsPermutation (a ++ (b ++ (c ++ d)))) (sym (append_assoc a c (b ++ d))) (IsPermutation-append_right a (b ++ (c ++ d)) (c ++ (b ++ d)) inner))

module _ {X B Y : Type 0} (T : X → B → List Y) where
  both_parts : (f g : X → List Y) (xs : List X) → IsPermutation (flat_map (λ x. f x ++ g x) xs) (flat_map f xs ++ flat_map g xs)
  both_parts f g [] = IsPermutation-refl []
  both_parts f g (x ∷ xs) =
      IsPermutation-trans ((f x ++ g x) ++ flat_map (λ x. f x ++ g x) xs) ((f x ++ g x) ++ (flat_map f xs ++ flat_map g xs)) ((f x ++ flat_map f xs) ++ (g x ++ flat_map g xs))
      (IsPermutation-append_right (f x ++ g x) (flat_map (λ x. f x ++ g x) xs) (flat_map f xs ++ flat_map g xs) (both_parts f g xs)) (crossed (f x) (g x) (flat_map f xs) (flat_map g xs))

  -- by columns in place of rows
  exchanged : (xs : List X) (bs : List B) → IsPermutation (flat_map (λ x. flat_map (T x) bs) xs) (flat_map (λ b. flat_map (λ x. T x b) xs) bs)
  exchanged xs [] = subst (λ l. IsPermutation l []) (sym (nothing {Y = Y} xs)) (IsPermutation-refl [])
  exchanged xs (b ∷ bs) =
      IsPermutation-trans (flat_map (λ x. T x b ++ flat_map (T x) bs) xs) (flat_map (λ x. T x b) xs ++ flat_map (λ x. flat_map (T x) bs) xs) (flat_map (λ x. T x b) xs ++ flat_map (λ b. flat_map (λ x. T x b) xs) bs)
      (both_parts (λ x. T x b) (λ x. flat_map (T x) bs) xs) (IsPermutation-append_right (flat_map (λ x. T x b) xs) (flat_map (λ x. flat_map (T x) bs) xs) (flat_map (λ b. flat_map (λ x. T x b) xs) bs) (exchanged xs bs))

-- ---- rows

module _ {X Y : Type 0} (f : X → List (List Y)) where
  behind_all : (v : List Y) (us ws : List (List Y)) → map (λ w. v ++ w) (products us ws) ≡ products (map (λ w. v ++ w) us) ws
  behind_all v [] ws = refl
  behind_all v (u ∷ us) ws = map-append (λ w. v ++ w) (map (λ w. u ++ w) ws) (products us ws) ∙ (λ i. again ws i ++ behind_all v us ws i)
    where
      again : (ws : List (List Y)) → map (λ w. v ++ w) (map (λ w. u ++ w) ws) ≡ map (λ w. (v ++ u) ++ w) ws
      again [] = refl
      again (w ∷ ws) = λ i. sym (append_assoc v u w) i ∷ again ws i

  products_assoc : (vs us ws : List (List Y)) → products vs (products us ws) ≡ products (products vs us) ws
  products_assoc [] us ws = refl
  products_assoc (v ∷ vs) us ws = (λ i. behind_all v us ws i ++ products_assoc vs us ws i) ∙ sym (flat_map-append (λ v. map (λ w. v ++ w) ws) (map (λ w. v ++ w) us) (products vs us))

  one_product : (ws : List (List Y)) → ws ≡ products ([] ∷ []) ws
  one_product ws = go ws ∙ sym (append-nil (map (λ w. w) ws))
    where
      go : (ws : List (List Y)) → ws ≡ map (λ w. w) ws
      go [] = refl
      go (w ∷ ws) = ap (λ l. w ∷ l) (go ws)

  -- the variants of a row behind another are those of both together
  joined_variants : (r s : Row X) → variants f (joined r s) ≡ products (variants f r) (variants f s)
  joined_variants Done s = one_product (variants f s)
  joined_variants (One x r) s = ap (products (f x)) (joined_variants r s) ∙ products_assoc (f x) (variants f r) (variants f s)
  joined_variants (OneOf rs r) s = ap (products (variants_of f rs)) (joined_variants r s) ∙ products_assoc (variants_of f rs) (variants f r) (variants f s)
  joined_variants (Optional rs r) s = ap (products (variants_of f rs ++ [] ∷ [])) (joined_variants r s) ∙ products_assoc (variants_of f rs ++ [] ∷ []) (variants f r) (variants f s)

  choice_variants : (rs : Rows X) → variants_of f rs ≡ flat_map (variants f) (alternatives rs)
  choice_variants None' = refl
  choice_variants (Or r rs) = ap (λ l. variants f r ++ l) (choice_variants rs)

  option_variants : (rs : Rows X) → variants_of f rs ++ [] ∷ [] ≡ flat_map (variants f) (alternatives rs ++ Done ∷ [])
  option_variants rs = ap (λ l. l ++ [] ∷ []) (choice_variants rs) ∙ sym (flat_map-append (variants f) (alternatives rs) (Done ∷ []))

  -- rows in front of another, one after another
  front_variants : (rows : List (Row X)) (rest : Row X) → products (flat_map (variants f) rows) (variants f rest) ≡ flat_map (variants f) (between Done rows rest)
  front_variants [] rest = refl
  front_variants (a ∷ rows) rest =
      flat_map-append (λ v. map (λ w. v ++ w) (variants f rest)) (variants f a) (flat_map (variants f) rows) ∙ (λ i. sym (joined_variants a rest) i ++ front_variants rows rest i)

  in_front : (r : Row X) (rows : List (Row X)) → IsWrittenOut Done r rows → variants f r ≡ flat_map (variants f) rows
  in_front r rows (IsWrittenOut.choice rest rs e q) =
      ap (variants f) e ∙ (ap (λ l. products l (variants f rest)) (choice_variants rs) ∙ (front_variants (alternatives rs) rest ∙ ap (flat_map (variants f)) (sym q)))
  in_front r rows (IsWrittenOut.option rest rs e q) =
      ap (variants f) e ∙ (ap (λ l. products l (variants f rest)) (option_variants rs) ∙ (front_variants (alternatives rs ++ Done ∷ []) rest ∙ ap (flat_map (variants f)) (sym q)))

  module _ {Z : Type 0} (G : List Y → List Z) where
    -- up to order, whatever each variant gives
    between_variants : (before : Row X) (rows : List (Row X)) (rest : Row X)
        → IsPermutation (flat_map G (products (variants f before) (products (flat_map (variants f) rows) (variants f rest)))) (flat_map (λ row. flat_map G (variants f row)) (between before rows rest))
    between_variants before rows rest =
        let B = variants f before in
        let T = λ (v : List Y) (a : Row X). flat_map G (map (λ w. v ++ w) (variants f (joined a rest))) in
        let start : flat_map G (products B (products (flat_map (variants f) rows) (variants f rest))) ≡ flat_map (λ v. flat_map (T v) rows) B =
        ap (λ l. flat_map G (products B l)) (front_variants rows rest) ∙ (flat_flat (λ v. map (λ w. v ++ w) (flat_map (variants f) (between Done rows rest))) G B
        ∙ flat_same (λ v. flat_map G (map (λ w. v ++ w) (flat_map (variants f) (between Done rows rest)))) (λ v. flat_map (T v) rows) (λ v. each_row v rows) B) in
        let end : flat_map (λ a. flat_map (λ v. T v a) B) rows ≡ flat_map (λ row. flat_map G (variants f row)) (between before rows rest) =
        flat_same (λ a. flat_map (λ v. T v a) B) (λ a. flat_map G (variants f (joined before (joined a rest))))
        (λ a. sym (ap (flat_map G) (joined_variants before (joined a rest)) ∙ flat_flat (λ v. map (λ w. v ++ w) (variants f (joined a rest))) G B)) rows
        ∙ sym (flat_map-map (λ row. flat_map G (variants f row)) (λ a. joined before (joined a rest)) rows) in
        subst (λ l. IsPermutation l (flat_map (λ row. flat_map G (variants f row)) (between before rows rest))) (sym start)
        (subst (IsPermutation (flat_map (λ v. flat_map (T v) rows) B)) end (exchanged T B rows))
      where
        each_row : (v : List Y) (rows : List (Row X)) → flat_map G (map (λ w. v ++ w) (flat_map (variants f) (between Done rows rest))) ≡ flat_map (λ a. flat_map G (map (λ w. v ++ w) (variants f (joined a rest)))) rows
        each_row v [] = refl
        each_row v (a ∷ rows) =
            ap (flat_map G) (map-append (λ w. v ++ w) (variants f (joined a rest)) (flat_map (variants f) (between Done rows rest)))
            ∙ (flat_map-append G (map (λ w. v ++ w) (variants f (joined a rest))) (map (λ w. v ++ w) (flat_map (variants f) (between Done rows rest)))
            ∙ ap (λ l. flat_map G (map (λ w. v ++ w) (variants f (joined a rest))) ++ l) (each_row v rows))

    ends : (r : Row X) (before : Row X) (middle : Row X) (rows : List (Row X)) (rest : Row X) → r ≡ joined before middle → variants f middle ≡ products (flat_map (variants f) rows) (variants f rest)
        → IsPermutation (flat_map G (variants f r)) (flat_map (λ row. flat_map G (variants f row)) (between before rows rest))
    ends r before middle rows rest e m =
        let same : variants f r ≡ products (variants f before) (products (flat_map (variants f) rows) (variants f rest)) = ap (variants f) e ∙ (joined_variants before middle ∙ ap (products (variants f before)) m) in
        subst (λ l. IsPermutation (flat_map G l) (flat_map (λ row. flat_map G (variants f row)) (between before rows rest))) (sym same) (between_variants before rows rest)

    written_out : (front r : Row X) (rows : List (Row X)) → IsWrittenOut front r rows → IsPermutation (flat_map G (variants f r)) (flat_map (λ row. flat_map G (variants f row)) rows)
    written_out front r rows (IsWrittenOut.choice rest rs e q) = subst (λ l. IsPermutation (flat_map G (variants f r)) (flat_map (λ row. flat_map G (variants f row)) l)) (sym q)
        (ends r front (OneOf rs rest) (alternatives rs) rest e (ap (λ l. products l (variants f rest)) (choice_variants rs)))
    written_out front r rows (IsWrittenOut.option rest rs e q) = subst (λ l. IsPermutation (flat_map G (variants f r)) (flat_map (λ row. flat_map G (variants f row)) l)) (sym q)
        (ends r front (Optional rs rest) (alternatives rs ++ Done ∷ []) rest e (ap (λ l. products l (variants f rest)) (option_variants rs)))

-- ---- rules

-- what each of two lists that belong together gives
gives : {X R Y : Type 0} (P : X → R → Type 0) (f : X → List Y) (g : R → List Y) → ((x : X) (r : R) → P x r → g r ≡ f x) → (xs : List X) (rs : List R) → Each P xs rs → flat_map f xs ≡ flat_map g rs
gives P f g h [] [] e = refl
gives P f g h (x ∷ xs) (r ∷ rs) e = λ i. sym (h x r e.0) i ++ gives P f g h xs rs e.1 i
gives P f g h _ _ e = absurd e

module _ {W : Type 0} (number : W → ℕ) (cat : ℕ) where
  -- the variants of a rule with this mother, right side and equations
  abbrev of_parts : SymbolText W → Row (SymbolText W) → Row (EquationText W) → List RuleVariant
  of_parts mother right equations = flat_map (λ xs. map (rule_variant_of number cat (mother ∷ xs)) (variants single equations)) (variants single right)

  parts_give : (mother : SymbolText W) (right : Row (SymbolText W)) (equations : Row (EquationText W)) (s : RuleText W) → HasParts mother right equations s → rule_variants number cat s ≡ of_parts mother right equations
  parts_give mother right equations s h = λ i. of_parts (h.mother_is i) (h.right_is i) (h.equations_is i)

  -- one by one where what is written out stands at the front
  from_front : (r : RuleText W) (rules : List (RuleText W)) → IsSplitInFront r rules → rule_variants number cat r ≡ flat_map (rule_variants number cat) rules
  from_front r rules p =
      let rows = p.0 in
      let G = λ (xs : List (SymbolText W)). map (rule_variant_of number cat (r.mother ∷ xs)) (variants single r.equations) in
      ap (flat_map G) (in_front single r.right rows p.1) ∙ (flat_flat (variants single) G rows
      ∙ gives (λ x s. HasParts r.mother x r.equations s) (λ x. of_parts r.mother x r.equations) (rule_variants number cat) (λ x s q. parts_give r.mother x r.equations s q) rows rules p.2)

  split_variants : (r : RuleText W) (rules : List (RuleText W)) → IsSplit r rules → IsPermutation (rule_variants number cat r) (flat_map (rule_variants number cat) rules)
  split_variants r rules (IsSplit.in_right front rows w h) =
      let G = λ (xs : List (SymbolText W)). map (rule_variant_of number cat (r.mother ∷ xs)) (variants single r.equations) in
      subst (IsPermutation (rule_variants number cat r))
      (gives (λ x s. HasParts r.mother x r.equations s) (λ x. of_parts r.mother x r.equations) (rule_variants number cat) (λ x s p. parts_give r.mother x r.equations s p) rows rules h)
      (written_out single G front r.right rows w)
  split_variants r rules (IsSplit.in_equations front rows w h) =
      let R = variants single r.right in
      let one = λ (xs : List (SymbolText W)). rule_variant_of number cat (r.mother ∷ xs) in
      let T = λ (xs : List (SymbolText W)) (x : Row (EquationText W)). map (one xs) (variants single x) in
      let each = flat_permuted (λ xs. map (one xs) (variants single r.equations)) (λ xs. flat_map (T xs) rows) (λ xs.
      subst (λ l. IsPermutation l (flat_map (T xs) rows)) (flat_map_single (one xs) (variants single r.equations))
      (subst (IsPermutation (flat_map (λ es. one xs es ∷ []) (variants single r.equations))) (flat_same (λ x. flat_map (λ es. one xs es ∷ []) (variants single x)) (T xs) (λ x. flat_map_single (one xs) (variants single x)) rows)
      (written_out single (λ es. one xs es ∷ []) front r.equations rows w))) R in
      subst (IsPermutation (rule_variants number cat r))
      (gives (λ x s. HasParts r.mother r.right x s) (λ x. of_parts r.mother r.right x) (rule_variants number cat) (λ x s p. parts_give r.mother r.right x s p) rows rules h)
      (IsPermutation-trans (rule_variants number cat r) (flat_map (λ xs. flat_map (T xs) rows) R) (flat_map (λ x. flat_map (λ xs. T xs x) R) rows) each (exchanged T R rows))

  gathered_rules : (rs : List (RuleText W)) → flat_map (rule_variants number cat) rs ≡ gathered (map (rule_variants number cat) rs)
  gathered_rules rs = sym (flat_map-map (λ vs. vs) (rule_variants number cat) rs)

  -- what the rules give, of which one is written out
  module _ (way : RuleText W → List (RuleText W) → Type 0) (rs ss : List (RuleText W)) (h : AreSplitBy way rs ss) where
    abbrev F : List (RuleText W) → List RuleVariant
    F = flat_map (rule_variants number cat)

    whole_gathered : F h.before ++ (rule_variants number cat h.rule ++ F h.behind) ≡ gathered (map (rule_variants number cat) rs)
    whole_gathered = sym (ap F h.whole ∙ flat_map-append (rule_variants number cat) h.before (h.rule ∷ h.behind)) ∙ gathered_rules rs

    parts_gathered : F h.before ++ (F h.rules ++ F h.behind) ≡ gathered (map (rule_variants number cat) ss)
    parts_gathered =
        sym (ap F h.parts ∙ (flat_map-append (rule_variants number cat) h.before (h.rules ++ h.behind) ∙ ap (λ l. F h.before ++ l) (flat_map-append (rule_variants number cat) h.rules h.behind))) ∙ gathered_rules ss

    permuted : IsPermutation (rule_variants number cat h.rule) (F h.rules) → IsPermutation (gathered (map (rule_variants number cat) rs)) (gathered (map (rule_variants number cat) ss))
    permuted p =
        subst (λ l. IsPermutation l (gathered (map (rule_variants number cat) ss))) whole_gathered
        (subst (IsPermutation (F h.before ++ (rule_variants number cat h.rule ++ F h.behind))) parts_gathered
        (IsPermutation-append_right (F h.before) (rule_variants number cat h.rule ++ F h.behind) (F h.rules ++ F h.behind) (IsPermutation-append_left (F h.behind) (rule_variants number cat h.rule) (F h.rules) p)))

    kept : rule_variants number cat h.rule ≡ F h.rules → gathered (map (rule_variants number cat) rs) ≡ gathered (map (rule_variants number cat) ss)
    kept e = sym whole_gathered ∙ (ap (λ l. F h.before ++ (l ++ F h.behind)) e ∙ parts_gathered)

variants_are : (W : Type 0) → VariantsAreWrittenOut W
variants_are W = record { anywhere = split_variants; in_front = from_front }

grammars_are : (W : Type 0) → GrammarsAreWrittenOut W
grammars_are W number same keys g rules l h = reordered (build number same keys g l) (map (rule_variants number keys.cat) rules)
    (permuted number keys.cat IsSplit g.rules rules h (split_variants number keys.cat h.rule h.rules h.split))

replies_are : RepliesAreOfVariants
replies_are = record {
  over_variants = same_replies;
  as_built = λ N g rules l h.
      let cat = N.number (codes "cat") in
      same_replies (grounds N g l) (map (rule_variants N.number cat) rules) (kept N.number cat IsSplitInFront g.rules rules h (from_front N.number cat h.rule h.rules h.split));
}

pub alternatives_are_rules : AlternativesAreRules
alternatives_are_rules = record {
  reordered = reordered;
  apart = apart;
  text_variants = variants_are (List ℕ);
  number_variants = variants_are ℕ;
  text_grammars = grammars_are (List ℕ);
  number_grammars = grammars_are ℕ;
  replies = replies_are;
}
