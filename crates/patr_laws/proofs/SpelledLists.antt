-- Lists of equations are read exactly as they are spelled: those of a rule, and those of an entry's features.
use Rattle.std.proofs.Common.{◌≡◌, ℕ, zero, suc, ◌<◌, ◌≤◌, Bool, true, false, cond, ◌&&◌, ◌||◌, List, [], ◌∷◌, ◌++◌, length, map, refl, sym, ap, ◌∙◌, subst, arith, append_assoc, append-nil, length-append, true≢false, Ok}
use Rattle.std.specs.List.{flat_map}
use Rattle.patr_model.specs.declared.lookahead.Kind.TheVariants.{Less, OpenBrace}
use Rattle.patr_model.specs.declared.notation.What.{What}
use Rattle.patr_model.specs.declared.notation.What.TheVariants as what
use Rattle.patr_model.specs.Grammar.{Row}
use Rattle.patr_model.specs.Tokens.{Token, Place, start_place}
use Rattle.patr_model.specs.Lexemes.{Words, by_text, is_kind, is_symbol, begins}
use Rattle.patr_model.specs.Parsing.{Expected, LaterForm, Parse, Got, Stops, ◌>>=◌, Reads, one, many, star}
use Rattle.patr_model.specs.Stages.{with_equations}
use Rattle.patr_model.specs.Productions.{Item, Single, row, EquationText, FeatureText, Equates, Head, AnyAttribute, equation, braced, begins_ruleitem, rule_equation, ruleitems, begins_feature, single_feature, feature, elements}
use Rattle.patr_model.specs.LexiconText.{piece_tokens, end_of, as_features}
use Rattle.patr_laws.specs.Spelling.{IsEquation, AreEquations, AreFeaturesSpelled, FeaturesAreSpelled}
use Rattle.patr_laws.proofs.Readings.{bind_got}
use Rattle.patr_laws.proofs.Spelled.{got_value, got_rest, equation_found, equation_only}
use Rattle.patr_laws.proofs.SpelledParts.{other_kind, many_none}

-- a reading and nothing behind it
same_reading : {T W S X : Type 0} (p : Parse T W S X) → p ≡ (p >>= λ x s. Got x s)
same_reading (Got x s) = refl
same_reading (Stops r ts) = refl

and_false : (b : Bool) → (b && false) ≡ false
and_false true = refl
and_false false = refl

module _ {T W : Type 0} (words : Words T W) where
  less_no_brace : (ts : List T) → begins (is_kind words Less) ts ≡ true → begins (is_kind words OpenBrace) ts ≡ false
  less_no_brace [] h = refl
  less_no_brace (t ∷ ts) h = other_kind words Less OpenBrace t h refl

  -- an equation begins with `<`, whatever follows
  equation_begins : (h : Head W) (ts : List T) (e : EquationText W) → IsEquation words h ts e → (rest : List T) → begins (is_kind words Less) (ts ++ rest) ≡ true
  equation_begins h ts e is rest =
      ap (λ u. begins (is_kind words Less) (u ++ rest)) is.parts
      ∙ (ap (λ u. begins (is_kind words Less) ((u ++ is.equal ∷ is.right) ++ rest)) is.left_is.parts ∙ is.left_is.less_is)

  equation_long : (h : Head W) (ts : List T) (e : EquationText W) → IsEquation words h ts e → 0 < length ts
  equation_long h ts e is = omega (arith, ap length is.parts, length-append is.left (is.equal ∷ is.right))

  -- A list of single things that are equations, as they are wrapped: each begins with `<`, and what else may begin is refused.
  module _ {X : Type 0} (h : Head W) (expected : What) (wrap : EquationText W → X) (starts : List T → Bool) (single : Reads T W X)
      (starts_less : (ts : List T) → begins (is_kind words Less) ts ≡ true → starts ts ≡ true)
      (reads_equation : (ts : List T) → begins (is_kind words Less) ts ≡ true → single ts ≡ (equation words h expected ts >>= λ e ts. Got (wrap e) ts))
      (refuses : (ts : List T) → starts ts ≡ true → begins (is_kind words Less) ts ≡ false → begins (is_kind words OpenBrace) ts ≡ false → (x : X) (rest : List T) → single ts ≡ Got x rest → ⊥) where
    abbrev read : ℕ → Reads T W (Item X)
    read k = braced words k false starts single

    read_is : (k : ℕ) (ts : List T) → read k ts ≡ cond (begins (is_kind words OpenBrace) ts) (Stops LaterForm ts) (single ts >>= λ x ts. Got (Single x) ts)
    unfolding braced
    read_is zero ts = refl
    read_is (suc k) ts = refl

    record IsOne (ts : List T) (x : Item X) (rest : List T) : Type 0 where
      it : EquationText W
      value : x ≡ Single (wrap it)
      got : equation words h expected ts ≡ Got it rest

    item_read : (k : ℕ) (ts : List T) (x : Item X) (rest : List T) → starts ts ≡ true → read k ts ≡ Got x rest → IsOne ts x rest
    item_read k ts x rest s q = go (begins (is_kind words Less) ts) (begins (is_kind words OpenBrace) ts) refl refl (sym (read_is k ts) ∙ q)
      where
        go : (l b : Bool) → begins (is_kind words Less) ts ≡ l → begins (is_kind words OpenBrace) ts ≡ b → cond b (Stops LaterForm ts) (single ts >>= λ x ts. Got (Single x) ts) ≡ Got x rest → IsOne ts x rest
        go l true p o f = absurd cc
        go true false p o f =
            let a = bind_got (single ts) (λ x ts. Got (Single x) ts) x rest f in
            let b = bind_got (equation words h expected ts) (λ e ts. Got (wrap e) ts) a.0 a.1 (sym (reads_equation ts p) ∙ a.2) in
            record {
              it = b.0;
              value = sym (got_value (Single a.0) x a.1 rest a.3) ∙ ap (λ y. Single y) (sym (got_value (wrap b.0) a.0 b.1 a.1 b.3));
              got = b.2 ∙ ap (λ u. Got b.0 u) (got_rest (wrap b.0) a.0 b.1 a.1 b.3 ∙ got_rest (Single a.0) x a.1 rest a.3);
            }
        go false false p o f = let a = bind_got (single ts) (λ x ts. Got (Single x) ts) x rest f in absurd (refuses ts s p o a.0 a.1 a.2)

    item_again : (k : ℕ) (front : List T) (e : EquationText W) (rest : List T) → IsEquation words h front e → read k (front ++ rest) ≡ Got (Single (wrap e)) rest
    item_again k front e rest is =
        let us = front ++ rest in
        let less = equation_begins h front e is rest in
        read_is k us
        ∙ (ap (λ b. cond b (Stops LaterForm us) (single us >>= λ x ts. Got (Single x) ts)) (less_no_brace us less)
        ∙ (ap (λ (p : Parse T W (List T) X). p >>= λ x ts. Got (Single x) ts) (reads_equation us less)
        ∙ ap (λ (p : Parse T W (List T) (EquationText W)). (p >>= λ e ts. Got (wrap e) ts) >>= λ x ts. Got (Single x) ts) (equation_only words h expected front e rest is)))

    -- what was read
    pub record AreRead (ts : List T) (xs : List (Item X)) (rest : List T) : Type 0 where
      pub front : List T
      pub them : List (EquationText W)
      pub parts : ts ≡ front ++ rest
      pub are : AreEquations words h front them
      pub value : xs ≡ map (λ e. Single (wrap e)) them

    none_read : (ts : List T) (xs : List (Item X)) (rest : List T) → ◌≡◌ {A = Parse T W (List T) (List (Item X))} (Got [] ts) (Got xs rest) → AreRead ts xs rest
    none_read ts xs rest e = record { front = []; them = []; parts = got_rest [] xs ts rest e; are = refl; value = sym (got_value [] xs ts rest e) }

    pub many_found : (k n : ℕ) (ts : List T) (xs : List (Item X)) (rest : List T) → many n starts (read k) ts ≡ Got xs rest → AreRead ts xs rest
    unfolding many
    many_found k zero ts xs rest e = none_read ts xs rest e
    many_found k (suc n) ts xs rest e = go (starts ts) refl e (many_found k n)
      where
        go : (b : Bool) → starts ts ≡ b → cond b (read k ts >>= λ x rest. many n starts (read k) rest >>= λ xs rest'. Got (x ∷ xs) rest') (Got [] ts) ≡ Got xs rest
            → ((ts : List T) (xs : List (Item X)) (rest : List T) → many n starts (read k) ts ≡ Got xs rest → AreRead ts xs rest) → AreRead ts xs rest
        go false q f more = none_read ts xs rest f
        go true q f more =
            let a = bind_got (read k ts) (λ x rest. many n starts (read k) rest >>= λ xs rest'. Got (x ∷ xs) rest') xs rest f in
            let b = bind_got (many n starts (read k) a.1) (λ xs rest'. Got (a.0 ∷ xs) rest') xs rest a.3 in
            let x = item_read k ts a.0 a.1 q a.2 in
            let t = equation_found words h expected ts x.it a.1 x.got in
            let m = more a.1 b.0 b.1 b.2 in
            record {
              front = t.front ++ m.front;
              them = x.it ∷ m.them;
              parts = t.parts ∙ (ap (λ u. t.front ++ u) (m.parts ∙ ap (λ u. m.front ++ u) (got_rest (a.0 ∷ b.0) xs b.1 rest b.3)) ∙ sym (append_assoc t.front m.front rest));
              are = (t.front, m.front, refl, t.spelled, m.are);
              value = sym (got_value (a.0 ∷ b.0) xs b.1 rest b.3) ∙ (ap (λ y. y ∷ b.0) x.value ∙ ap (λ ys. Single (wrap x.it) ∷ ys) m.value);
            }

    pub many_again : (es : List (EquationText W)) (k n : ℕ) (ts rest : List T) → AreEquations words h ts es → length ts ≤ n → starts rest ≡ false
        → many n starts (read k) (ts ++ rest) ≡ Got (map (λ e. Single (wrap e)) es) rest
    unfolding many
    many_again [] k n ts rest a enough stops = ap (λ u. many n starts (read k) (u ++ rest)) a ∙ many_none n starts (read k) rest stops
    many_again (e ∷ es) k zero ts rest a enough stops = absurd (omega (arith, enough, ap length a.2, length-append a.0 a.1, equation_long h a.0 e a.3))
    many_again (e ∷ es) k (suc n) ts rest a enough stops =
        let us = a.1 ++ rest in
        let split : ts ++ rest ≡ a.0 ++ us = ap (λ u. u ++ rest) a.2 ∙ append_assoc a.0 a.1 rest in
        let more = λ (x : Item X) (rest : List T). many n starts (read k) rest >>= λ xs rest'. Got (x ∷ xs) rest' in
        ap (λ u. cond (starts u) (read k u >>= more) (Got [] u)) split
        ∙ (ap (λ b. cond b (read k (a.0 ++ us) >>= more) (Got [] (a.0 ++ us))) (starts_less (a.0 ++ us) (equation_begins h a.0 e a.3 us))
        ∙ (ap (λ (p : Parse T W (List T) (Item X)). p >>= more) (item_again k a.0 e us a.3)
        ∙ ap (λ (p : Parse T W (List T) (List (Item X))). p >>= λ xs rest'. Got (Single (wrap e) ∷ xs) rest')
        (many_again es k n a.1 rest a.4 (omega (arith, enough, ap length a.2, length-append a.0 a.1, equation_long h a.0 e a.3)) stops)))

  -- ---- the equations of a rule

  module _ (h : Head W) where
    abbrev itself : EquationText W → EquationText W
    itself e = e

    abbrev single_rule : Reads T W (EquationText W)
    single_rule = rule_equation words with_equations h

    rule_starts : (ts : List T) → begins (is_kind words Less) ts ≡ true → begins_ruleitem words ts ≡ true
    rule_starts ts e = ap (λ b. b || begins (is_kind words OpenBrace) ts) e

    rule_reads : (ts : List T) → begins (is_kind words Less) ts ≡ true → single_rule ts ≡ (equation words h what.Equation ts >>= λ e ts. Got (itself e) ts)
    rule_reads ts e = ap (λ b. cond b (Stops LaterForm ts) (equation words h what.Equation ts)) (and_false (begins (is_kind words Less) ts)) ∙ same_reading (equation words h what.Equation ts)

    rule_refuses : (ts : List T) → begins_ruleitem words ts ≡ true → begins (is_kind words Less) ts ≡ false → begins (is_kind words OpenBrace) ts ≡ false → (x : EquationText W) (rest : List T) → single_rule ts ≡ Got x rest → ⊥
    rule_refuses ts s l b x rest q = true≢false (sym s ∙ (ap (λ c. c || begins (is_kind words OpenBrace) ts) l ∙ b))

    -- the equations behind a right side
    pub record HasEquations (ts : List T) (r : Row (EquationText W)) (rest : List T) : Type 0 where
      pub front : List T
      pub them : List (EquationText W)
      pub parts : ts ≡ front ++ rest
      pub are : AreEquations words h front them
      pub value : r ≡ row (map (λ e. Single e) them)

    pub items_found : (ts : List T) (r : Row (EquationText W)) (rest : List T) → ruleitems words with_equations h ts ≡ Got r rest → HasEquations ts r rest
    items_found ts r rest e =
        let read = braced words 16 false (begins_ruleitem words) single_rule in
        let a = bind_got (many (length ts) (begins_ruleitem words) read ts) (λ xs ts. Got (row xs) ts) r rest e in
        let m = many_found h what.Equation itself (begins_ruleitem words) single_rule rule_starts rule_reads rule_refuses 16 (length ts) ts a.0 a.1 a.2 in
        record {
          front = m.front;
          them = m.them;
          parts = m.parts ∙ ap (λ u. m.front ++ u) (got_rest (row a.0) r a.1 rest a.3);
          are = m.are;
          value = sym (got_value (row a.0) r a.1 rest a.3) ∙ ap row m.value;
        }

    pub items_again : (es : List (EquationText W)) (ts rest : List T) → AreEquations words h ts es → begins_ruleitem words rest ≡ false
        → ruleitems words with_equations h (ts ++ rest) ≡ Got (row (map (λ e. Single e) es)) rest
    items_again es ts rest a stops =
        ap (λ (p : Parse T W (List T) (List (Item (EquationText W)))). p >>= λ xs ts. Got (row xs) ts)
        (many_again h what.Equation itself (begins_ruleitem words) single_rule rule_starts rule_reads rule_refuses es 16 (length (ts ++ rest)) ts rest a (omega (arith, length-append ts rest)) stops)

  -- ---- the features of an entry

  abbrev single_in : Reads T W (FeatureText W)
  single_in = single_feature words with_equations

  abbrev equates : EquationText W → FeatureText W
  equates e = Equates e

  feature_starts : (ts : List T) → begins (is_kind words Less) ts ≡ true → begins_feature words ts ≡ true
  feature_starts ts e = ap (λ b. b || begins (is_symbol words) ts || begins (is_kind words OpenBrace) ts) e

  feature_reads : (ts : List T) → begins (is_kind words Less) ts ≡ true → single_in ts ≡ (equation words AnyAttribute what.EquationOrName ts >>= λ e ts. Got (equates e) ts)
  feature_reads ts e = ap (λ b. cond b (equation words AnyAttribute what.EquationOrName ts >>= λ e ts. Got (Equates e) ts) (one (is_symbol words) what.EquationOrName ts >>= λ t rest. Stops LaterForm ts)) e

  feature_refuses : (ts : List T) → begins_feature words ts ≡ true → begins (is_kind words Less) ts ≡ false → begins (is_kind words OpenBrace) ts ≡ false → (x : FeatureText W) (rest : List T) → single_in ts ≡ Got x rest → ⊥
  feature_refuses ts s l b x rest q =
      let name : Parse T W (List T) (FeatureText W) = one (is_symbol words) what.EquationOrName ts >>= λ t rest. Stops LaterForm ts in
      let stops : name ≡ Got x rest = sym (ap (λ c. cond c (equation words AnyAttribute what.EquationOrName ts >>= λ e ts. Got (Equates e) ts) name) l) ∙ q in
      let a = bind_got (one (is_symbol words) what.EquationOrName ts) (λ t rest. Stops LaterForm ts) x rest stops in
      absurd cc

  -- nothing may be left behind features
  abbrev closed : List (Item (FeatureText W)) → Reads T W (Row (FeatureText W))
  closed xs [] = Got (row xs) []
  closed xs (t ∷ ts) = Stops (Expected what.EquationOrName) (t ∷ ts)

  elements_is : (ts : List T) → elements words with_equations ts ≡ (star (begins_feature words) (feature words with_equations) ts >>= closed)
  unfolding elements
  elements_is ts = by (star (begins_feature words) (feature words with_equations) ts) refl
    where
      by : (p : Parse T W (List T) (List (Item (FeatureText W)))) → star (begins_feature words) (feature words with_equations) ts ≡ p
          → elements words with_equations ts ≡ (star (begins_feature words) (feature words with_equations) ts >>= closed)
      by (Got xs []) e = rw e refl
      by (Got xs (t ∷ us)) e = rw e refl
      by (Stops r us) e = rw e refl

  elements_found : (ts : List T) (r : Row (FeatureText W)) (rest : List T) → elements words with_equations ts ≡ Got r rest → AreFeaturesSpelled words ts r
  elements_found ts r rest e =
      let a = bind_got (many (length ts) (begins_feature words) (braced words 16 false (begins_feature words) single_in) ts) closed r rest (sym (elements_is ts) ∙ e) in
      let m = many_found AnyAttribute what.EquationOrName equates (begins_feature words) single_in feature_starts feature_reads feature_refuses 16 (length ts) ts a.0 a.1 a.2 in
      go a.0 a.1 m.front m.them m.parts m.are m.value a.3
    where
      go : (xs : List (Item (FeatureText W))) (us front : List T) (es : List (EquationText W)) → ts ≡ front ++ us → AreEquations words AnyAttribute front es → xs ≡ map (λ e. Single (Equates e)) es → closed xs us ≡ Got r rest
          → AreFeaturesSpelled words ts r
      go xs [] front es p a v f =
          (es, subst (λ u. AreEquations words AnyAttribute u es) (sym (p ∙ append-nil front)) a, sym (got_value (row xs) r [] rest f) ∙ ap row v)
      go xs (u ∷ us) front es p a v f = absurd cc

  elements_again : (ts : List T) (r : Row (FeatureText W)) → AreFeaturesSpelled words ts r → elements words with_equations ts ≡ Got r []
  elements_again ts r a =
      let read = feature words with_equations in
      let them : many (length ts) (begins_feature words) read (ts ++ []) ≡ Got (map (λ e. Single (Equates e)) a.0) [] =
      many_again AnyAttribute what.EquationOrName equates (begins_feature words) single_in feature_starts feature_reads feature_refuses a.0 16 (length ts) ts [] a.1 (omega arith) refl in
      elements_is ts
      ∙ (ap (λ u. many (length ts) (begins_feature words) read u >>= closed) (sym (append-nil ts))
      ∙ (ap (λ (p : Parse T W (List T) (List (Item (FeatureText W)))). p >>= closed) them ∙ ap (λ x. Got x []) (sym a.2)))

-- the features that pieces of a lexicon stand for
pub features_are_spelled : FeaturesAreSpelled
features_are_spelled ps r = (found (elements by_text with_equations ts) refl, λ a. ap (as_features end) (elements_again by_text ts r a))
  where
    ts : List Token
    ts = flat_map piece_tokens ps

    end : Place
    end = end_of start_place ps

    found : (p : Parse Token (List ℕ) (List Token) (Row (FeatureText (List ℕ)))) → elements by_text with_equations ts ≡ p → as_features end p ≡ Ok r → AreFeaturesSpelled by_text ts r
    found (Got x rest) q e = let same : x ≡ r = cc in subst (AreFeaturesSpelled by_text ts) same (elements_found by_text ts x rest q)
    found (Stops c rest) q e = absurd cc
