-- Rules are read exactly as they are spelled.
use Rattle.std.proofs.Common.{◌≡◌, ◌⊎◌, inl, inr, ℕ, zero, suc, ◌≤◌, Bool, true, false, cond, not, ◌&&◌, ◌||◌, nat_eq, List, [], ◌∷◌, ◌++◌, length, map, refl, sym, ap, ◌∙◌, subst, arith, append_assoc, length-append}
use Rattle.patr_model.specs.declared.lookahead.Kind.{Kind}
use Rattle.patr_model.specs.declared.lookahead.Kind.TheVariants.{Less, OpenBrace, OpenParen, Colon, Dot, Arrow, Word}
use Rattle.patr_model.specs.declared.notation.Keyword.TheVariants as key
use Rattle.patr_model.specs.declared.notation.What.TheVariants as what
use Rattle.patr_model.specs.Grammar.{Row}
use Rattle.patr_model.specs.Lexemes.{Words, by_text, kind_number, is_kind, is_key, is_symbol, begins}
use Rattle.patr_model.specs.Parsing.{LaterForm, Parse, Got, Stops, ◌>>=◌, one, maybe}
use Rattle.patr_model.specs.Stages.{with_equations}
use Rattle.patr_model.specs.Productions.{Single, row, SymbolText, EquationText, RuleText, Clause, RuleClause, Head, AmongSymbols, symbols_of, with_name, begins_ruleitem, ruleitems, rule_name, symbol_of, opens_equations, begins_outer, right_side, rule, template, lexical_rule, parameter, clause, clauses}
use Rattle.patr_laws.specs.Spelling.{IsKind, AreEquations, symbols_among, IsRuleName, IsRuleSpelled, AreRulesSpelled, Takes, RulesAreSpelled}
use Rattle.patr_laws.proofs.Readings.{bind_got, behind_right, behind_arrow, behind_mother, behind_name, behind_word}
use Rattle.patr_laws.proofs.ClausesEnd.{clause_takes}
use Rattle.patr_laws.proofs.Spelled.{got_value, got_rest, one_got, one_again}
use Rattle.patr_laws.proofs.SpelledParts.{First, begins_none, first_weaker, maybe_found, maybe_again, maybe_first, other_kind, is_word, other_key, symbol_word, no_symbol, rule_no_symbol, right_found, right_again, name_found, name_again}
use Rattle.patr_laws.proofs.SpelledLists.{items_found, items_again}

module _ {T W : Type 0} (words : Words T W) where
  -- ---- rules

  abbrev IsRuleWord : T → Type 0
  IsRuleWord t = is_key words key.Rule t ≡ true

  -- what may stand behind a rule's equations, behind its colon, and behind its right side
  abbrev IsDotOrRule : T → Type 0
  IsDotOrRule t = IsKind words Dot t ⊎ IsRuleWord t

  abbrev Follows : T → Type 0
  Follows t = IsKind words Less t ⊎ IsDotOrRule t

  abbrev Closes : T → Type 0
  Closes t = IsKind words Colon t ⊎ Follows t

  dot_or_rule : (k : Kind) → nat_eq 11 (kind_number k) ≡ false → nat_eq 13 (kind_number k) ≡ false → (t : T) → IsDotOrRule t → is_kind words k t ≡ false
  dot_or_rule k d w t (inl h) = other_kind words Dot k t h d
  dot_or_rule k d w t (inr h) = other_kind words Word k t (is_word words key.Rule t h) w

  following_kind : (k : Kind) → nat_eq 0 (kind_number k) ≡ false → nat_eq 11 (kind_number k) ≡ false → nat_eq 13 (kind_number k) ≡ false → (t : T) → Follows t → is_kind words k t ≡ false
  following_kind k l d w t (inl h) = other_kind words Less k t h l
  following_kind k l d w t (inr h) = dot_or_rule k d w t h

  closing_kind : (k : Kind) → nat_eq 10 (kind_number k) ≡ false → nat_eq 0 (kind_number k) ≡ false → nat_eq 11 (kind_number k) ≡ false → nat_eq 13 (kind_number k) ≡ false → (t : T) → Closes t → is_kind words k t ≡ false
  closing_kind k c l d w t (inl h) = other_kind words Colon k t h c
  closing_kind k c l d w t (inr h) = following_kind k l d w t h

  closing_no_symbol : (t : T) → Closes t → is_symbol words t ≡ false
  closing_no_symbol t (inl h) = no_symbol words Colon t h refl
  closing_no_symbol t (inr (inl h)) = no_symbol words Less t h refl
  closing_no_symbol t (inr (inr (inl h))) = no_symbol words Dot t h refl
  closing_no_symbol t (inr (inr (inr h))) = rule_no_symbol words t h

  no_more_symbols : (ts : List T) → First Closes ts → begins_outer words ts ≡ false
  no_more_symbols ts h =
      let rest = begins (is_kind words OpenBrace) ts && not (opens_equations words ts) in
      ap (λ b. b || begins (is_kind words OpenParen) ts || rest) (begins_none Closes (is_symbol words) closing_no_symbol ts h)
      ∙ (ap (λ b. b || rest) (begins_none Closes (is_kind words OpenParen) (closing_kind OpenParen refl refl refl refl) ts h)
      ∙ ap (λ b. b && not (opens_equations words ts)) (begins_none Closes (is_kind words OpenBrace) (closing_kind OpenBrace refl refl refl refl) ts h))

  no_equations : (ts : List T) → First IsDotOrRule ts → begins_ruleitem words ts ≡ false
  no_equations ts h =
      ap (λ b. b || begins (is_kind words OpenBrace) ts) (begins_none IsDotOrRule (is_kind words Less) (dot_or_rule Less refl refl) ts h)
      ∙ begins_none IsDotOrRule (is_kind words OpenBrace) (dot_or_rule OpenBrace refl refl) ts h

  rule_dot : (t : T) → IsRuleWord t → is_kind words Dot t ≡ false
  rule_dot t h = other_kind words Word Dot t (is_word words key.Rule t h) refl

  -- the tokens of a rule, and what follows
  parts_again : (name : List T) (mother arrow : T) (right colon body dot rest : List T)
      → (name ++ mother ∷ arrow ∷ (right ++ (colon ++ (body ++ dot)))) ++ rest ≡ name ++ mother ∷ arrow ∷ (right ++ (colon ++ (body ++ (dot ++ rest))))
  parts_again name mother arrow right colon body dot rest =
      append_assoc name (mother ∷ arrow ∷ (right ++ (colon ++ (body ++ dot)))) rest
      ∙ ap (λ u. name ++ mother ∷ arrow ∷ u) (append_assoc right (colon ++ (body ++ dot)) rest ∙ ap (λ u. right ++ u) (append_assoc colon (body ++ dot) rest ∙ ap (λ u. colon ++ u) (append_assoc body dot rest)))

  -- the symbols of a right side
  symbols_are : (ts : List T) → symbols_of (row (map (λ t. Single (symbol_of words t)) ts)) ≡ map words.word ts
  symbols_are [] = refl
  symbols_are (t ∷ ts) = ap (λ ws. words.word t ∷ ws) (symbols_are ts)

  -- equations come to `<` or to what follows them
  equations_first : (h : Head W) (es : List (EquationText W)) (ts rest : List T) → AreEquations words h ts es → First IsDotOrRule rest → First Follows (ts ++ rest)
  equations_first h [] ts rest a f = subst (λ u. First Follows (u ++ rest)) (sym a) (first_weaker IsDotOrRule Follows (λ t h. inr h) rest f)
  equations_first h (e ∷ es) ts rest a f =
      let l = a.3.left_is in
      let split : ts ≡ (l.less ∷ (l.first ∷ l.others ++ l.greater ∷ []) ++ a.3.equal ∷ a.3.right) ++ a.1 = a.2 ∙ (ap (λ u. u ++ a.1) a.3.parts ∙ ap (λ u. (u ++ a.3.equal ∷ a.3.right) ++ a.1) l.parts) in
      subst (λ u. First Follows (u ++ rest)) (sym split) (inl l.less_is)

  -- a rule of these parts, and what is asked of the paths of its equations
  abbrev made : T → List W → T → Row (SymbolText W) → Row (EquationText W) → RuleText W
  made t name mother right equations = record { line = (words.place t).line; name = name; mother = symbol_of words mother; right = right; equations = equations }

  abbrev paths_of : T → Row (SymbolText W) → Head W
  paths_of mother right = AmongSymbols (words.word mother ∷ symbols_of right)

  rule_again : (front : List T) (r : RuleText W) (rest : List T) → IsRuleSpelled words front r → First IsRuleWord rest → rule words with_equations (front ++ rest) ≡ Got r rest
  unfolding rule
  rule_again front r rest p ends =
      let behind_body = p.dot ++ rest in
      let behind_colon = p.body ++ behind_body in
      let tail = p.colon ++ behind_colon in
      let right = row (map (λ t. Single (symbol_of words t)) p.right) in
      let equations = row (map (λ e. Single e) p.equations) in
      let among = symbols_among words p.mother p.right in
      let heads : paths_of p.mother right ≡ among = ap (λ ws. AmongSymbols (words.word p.mother ∷ ws)) (symbols_are p.right) in
      let dots = maybe_first IsDotOrRule (is_kind words Dot) p.dot rest p.dot_is (λ t h. inl h) (first_weaker IsRuleWord IsDotOrRule (λ t h. inr h) rest ends) in
      let follows = equations_first among p.equations p.body behind_body p.body_is dots in
      let closes = maybe_first Closes (is_kind words Colon) p.colon behind_colon p.colon_is (λ t h. inl h) (first_weaker Follows Closes (λ t h. inr h) behind_colon follows) in
      let no_colon = begins_none Follows (is_kind words Colon) (following_kind Colon refl refl refl) behind_colon follows in
      let no_dot = begins_none IsRuleWord (is_kind words Dot) rule_dot rest ends in
      ap (λ u. one (is_key words key.Rule) what.Clause u >>= λ t ts. behind_word words with_equations t ts)
      (ap (λ u. u ++ rest) p.parts ∙ ap (λ u. p.first ∷ u) (parts_again p.name p.mother p.arrow p.right p.colon p.body p.dot rest))
      ∙ (ap (λ (q : Parse T W (List T) T). q >>= λ t ts. behind_word words with_equations t ts) (one_again (is_key words key.Rule) what.Clause p.first (p.name ++ p.mother ∷ p.arrow ∷ (p.right ++ tail)) p.first_is)
      ∙ (ap (λ (q : Parse T W (List T) (List W)). q >>= λ name ts. behind_name words with_equations p.first name ts)
      (name_again words p.name r.name p.mother (p.arrow ∷ (p.right ++ tail)) p.name_is (other_kind words Word OpenBrace p.mother (symbol_word words p.mother p.mother_is) refl))
      ∙ (ap (λ (q : Parse T W (List T) T). q >>= λ mother ts. behind_mother words with_equations p.first r.name mother ts) (one_again (is_symbol words) what.Symbol p.mother (p.arrow ∷ (p.right ++ tail)) p.mother_is)
      ∙ (ap (λ (q : Parse T W (List T) T). q >>= λ _ ts. behind_arrow words with_equations p.first r.name p.mother ts) (one_again (is_kind words Arrow) what.Arrow p.arrow (p.right ++ tail) p.arrow_is)
      ∙ (ap (λ (q : Parse T W (List T) (Row (SymbolText W))). q >>= λ right ts. behind_right words with_equations p.first r.name p.mother right ts) (right_again words p.right tail p.right_are p.few (no_more_symbols tail closes))
      ∙ (ap (λ u. ruleitems words with_equations (paths_of p.mother right) u >>= λ equations ts. Got (made p.first r.name p.mother right equations) (maybe (is_kind words Dot) ts)) (maybe_again (is_kind words Colon) p.colon behind_colon p.colon_is no_colon)
      ∙ (ap (λ h. ruleitems words with_equations h behind_colon >>= λ equations ts. Got (made p.first r.name p.mother right equations) (maybe (is_kind words Dot) ts)) heads
      ∙ (ap (λ (q : Parse T W (List T) (Row (EquationText W))). q >>= λ equations ts. Got (made p.first r.name p.mother right equations) (maybe (is_kind words Dot) ts))
      (items_again words among p.equations p.body behind_body p.body_is (no_equations behind_body dots))
      ∙ (ap (λ u. Got (made p.first r.name p.mother right equations) u) (maybe_again (is_kind words Dot) p.dot rest p.dot_is no_dot)
      ∙ ap (λ v. Got v rest) (sym p.value))))))))))

  rule_found : (ts : List T) (r : RuleText W) (rest : List T) → rule words with_equations ts ≡ Got r rest → Takes (IsRuleSpelled words) ts r rest
  unfolding rule
  rule_found ts r rest e =
      let a = bind_got (one (is_key words key.Rule) what.Clause ts) (λ t ts. behind_word words with_equations t ts) r rest e in
      let b = bind_got (rule_name words a.1) (λ name ts. behind_name words with_equations a.0 name ts) r rest a.3 in
      let c = bind_got (one (is_symbol words) what.Symbol b.1) (λ mother ts. behind_mother words with_equations a.0 b.0 mother ts) r rest b.3 in
      let d = bind_got (one (is_kind words Arrow) what.Arrow c.1) (λ _ ts. behind_arrow words with_equations a.0 b.0 c.0 ts) r rest c.3 in
      let f = bind_got (right_side words with_equations d.1) (λ right ts. behind_right words with_equations a.0 b.0 c.0 right ts) r rest d.3 in
      let g = bind_got (ruleitems words with_equations (paths_of c.0 f.0) (maybe (is_kind words Colon) f.1)) (λ equations ts. Got (made a.0 b.0 c.0 f.0 equations) (maybe (is_kind words Dot) ts)) r rest f.3 in
      let first = one_got {W = W} (is_key words key.Rule) what.Clause ts a.0 a.1 a.2 in
      let name = name_found words a.1 b.0 b.1 b.2 in
      let mother = one_got {W = W} (is_symbol words) what.Symbol b.1 c.0 c.1 c.2 in
      let arrow = one_got {W = W} (is_kind words Arrow) what.Arrow c.1 d.0 d.1 d.2 in
      let right = right_found words d.1 f.0 f.1 f.2 in
      let colon = maybe_found (is_kind words Colon) f.1 in
      let body = items_found words (paths_of c.0 f.0) (maybe (is_kind words Colon) f.1) g.0 g.1 g.2 in
      let dot = maybe_found (is_kind words Dot) g.1 in
      let whole = got_value (made a.0 b.0 c.0 f.0 g.0) r (maybe (is_kind words Dot) g.1) rest g.3 in
      let end = got_rest (made a.0 b.0 c.0 f.0 g.0) r (maybe (is_kind words Dot) g.1) rest g.3 in
      let names = ap (λ (r : RuleText W). r.name) whole in
      let heads : paths_of c.0 f.0 ≡ symbols_among words c.0 right.front = ap (λ x. AmongSymbols (words.word c.0 ∷ symbols_of x)) right.value ∙ ap (λ ws. AmongSymbols (words.word c.0 ∷ ws)) (symbols_are right.front) in
      let tail : f.1 ≡ colon.0 ++ (body.front ++ (dot.0 ++ rest)) = colon.1 ∙ ap (λ u. colon.0 ++ u) (body.parts ∙ ap (λ u. body.front ++ u) (dot.1 ∙ ap (λ u. dot.0 ++ u) end)) in
      record {
        front = a.0 ∷ (name.front ++ c.0 ∷ d.0 ∷ (right.front ++ (colon.0 ++ (body.front ++ dot.0))));
        parts = first.0 ∙ ap (λ u. a.0 ∷ u) (name.parts ∙ (ap (λ u. name.front ++ u) (mother.0 ∙ ap (λ u. c.0 ∷ u) (arrow.0 ∙ ap (λ u. d.0 ∷ u) (right.tokens ∙ ap (λ u. right.front ++ u) tail)))
            ∙ sym (parts_again name.front c.0 d.0 right.front colon.0 body.front dot.0 rest)));
        spelled = record {
          first = a.0;
          name = name.front;
          mother = c.0;
          arrow = d.0;
          right = right.front;
          colon = colon.0;
          body = body.front;
          dot = dot.0;
          equations = body.them;
          parts = refl;
          first_is = first.1;
          name_is = subst (IsRuleName words name.front) names name.spelled;
          mother_is = mother.1;
          arrow_is = arrow.1;
          right_are = right.are;
          few = right.few;
          colon_is = colon.2;
          body_is = subst (λ h. AreEquations words h body.front body.them) heads body.are;
          dot_is = dot.2;
          value = sym whole ∙ (ap (λ n. made a.0 n c.0 f.0 g.0) names ∙ (ap (λ x. made a.0 r.name c.0 x g.0) right.value ∙ ap (λ x. made a.0 r.name c.0 (row (map (λ t. Single (symbol_of words t)) right.front)) x) body.value));
        };
      }

  -- ---- clauses

  -- before the other forms are built, each clause is a rule
  record IsRuleClause (ts : List T) (c : Clause W) (rest : List T) : Type 0 where
    it : RuleText W
    value : c ≡ RuleClause it
    read : rule words with_equations ts ≡ Got it rest

  clause_found : (names : List W) (ts : List T) (c : Clause W) (rest : List T) → clause words with_equations names ts ≡ Got c rest → IsRuleClause ts c rest
  unfolding template lexical_rule parameter
  clause_found names ts c rest e = go (begins (is_key words key.Let) ts) (begins (is_key words key.Define) ts) (begins (is_key words key.Parameter) ts) e
    where
      go : (l d p : Bool) → cond l (Stops LaterForm ts) (cond d (Stops LaterForm ts) (cond p (Stops LaterForm ts) (rule words with_equations ts >>= λ r ts. Got (RuleClause r) ts))) ≡ Got c rest → IsRuleClause ts c rest
      go true d p f = absurd cc
      go false true p f = absurd cc
      go false false true f = absurd cc
      go false false false f =
          let a = bind_got (rule words with_equations ts) (λ r ts. Got (RuleClause r) ts) c rest f in
          record { it = a.0; value = sym (got_value (RuleClause a.0) c a.1 rest a.3); read = a.2 ∙ ap (λ u. Got a.0 u) (got_rest (RuleClause a.0) c a.1 rest a.3) }

  clause_again : (names : List W) (t : T) (ts : List T) (r : RuleText W) (rest : List T) → IsRuleWord t → rule words with_equations (t ∷ ts) ≡ Got r rest → clause words with_equations names (t ∷ ts) ≡ Got (RuleClause r) rest
  unfolding template lexical_rule parameter
  clause_again names t ts r rest h e =
      let stop : Parse T W (List T) (Clause W) = Stops LaterForm (t ∷ ts) in
      let read : Parse T W (List T) (Clause W) = rule words with_equations (t ∷ ts) >>= λ r ts. Got (RuleClause r) ts in
      ap (λ b. cond b stop (cond (is_key words key.Define t) stop (cond (is_key words key.Parameter t) stop read))) (other_key words key.Rule key.Let t h refl)
      ∙ (ap (λ b. cond b stop (cond (is_key words key.Parameter t) stop read)) (other_key words key.Rule key.Define t h refl)
      ∙ (ap (λ b. cond b stop read) (other_key words key.Rule key.Parameter t h refl) ∙ ap (λ (p : Parse T W (List T) (RuleText W)). p >>= λ r ts. Got (RuleClause r) ts) e))

  -- whole lists of tokens that are read are rules
  pub record AreRules (ts : List T) (cs : List (Clause W)) : Type 0 where
    pub them : List (RuleText W)
    pub value : cs ≡ map RuleClause them
    pub spelled : AreRulesSpelled words ts them

  pub clauses_found : (n : ℕ) (names : List W) (ts : List T) (cs : List (Clause W)) (rest : List T) → length ts ≤ n → clauses words with_equations n names ts ≡ Got cs rest → AreRules ts cs
  unfolding clauses
  clauses_found n names [] cs rest h e = record { them = []; value = sym (got_value [] cs [] rest e); spelled = refl }
  clauses_found zero names (t ∷ ts) cs rest h e = absurd (omega (arith, h))
  clauses_found (suc n) names (t ∷ ts) cs rest h e =
      let a = bind_got (clause words with_equations names (t ∷ ts)) (λ c rest. clauses words with_equations n (with_name c names) rest >>= λ cs rest. Got (c ∷ cs) rest) cs rest e in
      let b = bind_got (clauses words with_equations n (with_name a.0 names) a.1) (λ cs rest. Got (a.0 ∷ cs) rest) cs rest a.3 in
      let k = clause_takes words with_equations names t ts a.1 a.0 a.2 in
      let c = clause_found names (t ∷ ts) a.0 a.1 a.2 in
      let r = rule_found (t ∷ ts) c.it a.1 c.read in
      let more = clauses_found n (with_name a.0 names) a.1 b.0 b.1 (omega (arith, h, k)) b.2 in
      record {
        them = c.it ∷ more.them;
        value = sym (got_value (a.0 ∷ b.0) cs b.1 rest b.3) ∙ (ap (λ c. c ∷ b.0) c.value ∙ ap (λ cs. RuleClause c.it ∷ cs) more.value);
        spelled = (r.front, a.1, r.parts, r.spelled, more.spelled);
      }

  -- the tokens of rules begin with the word `Rule`
  rules_begin : (rs : List (RuleText W)) (ts : List T) → AreRulesSpelled words ts rs → First IsRuleWord ts
  rules_begin [] ts a = subst (λ us. First IsRuleWord us) (sym a) tt
  rules_begin (r ∷ rs) ts a = let p = a.3 in subst (λ us. First IsRuleWord us) (sym (a.2 ∙ ap (λ us. us ++ a.1) p.parts)) p.first_is

  clauses_again : (rs : List (RuleText W)) (n : ℕ) (names : List W) (ts : List T) → length ts ≤ n → AreRulesSpelled words ts rs → clauses words with_equations n names ts ≡ Got (map RuleClause rs) []
  unfolding clauses
  clauses_again [] n names ts h a = ap (λ us. clauses words with_equations n names us) a
  clauses_again (r ∷ rs) n names ts h a =
      let p = a.3 in
      let behind = p.name ++ p.mother ∷ p.arrow ∷ (p.right ++ (p.colon ++ (p.body ++ p.dot))) in
      let split : ts ≡ p.first ∷ (behind ++ a.1) = a.2 ∙ ap (λ us. us ++ a.1) p.parts in
      let read : rule words with_equations (p.first ∷ (behind ++ a.1)) ≡ Got r a.1 = sym (ap (λ us. rule words with_equations us) (ap (λ us. us ++ a.1) p.parts)) ∙ rule_again a.0 r a.1 a.3 (rules_begin rs a.1 a.4) in
      let long = length-append behind a.1 in
      subst (λ us. clauses words with_equations n names us ≡ Got (RuleClause r ∷ map RuleClause rs) []) (sym split)
      (go n p.first (behind ++ a.1) a.1 p.first_is read (omega (arith, h, ap length split)) (omega (arith, long)) (λ m names k. clauses_again rs m names a.1 k a.4))
    where
      go : (n : ℕ) (t : T) (us rest : List T) → IsRuleWord t → rule words with_equations (t ∷ us) ≡ Got r rest → suc (length us) ≤ n → length rest ≤ length us
          → ((m : ℕ) (names : List W) → length rest ≤ m → clauses words with_equations m names rest ≡ Got (map RuleClause rs) []) → clauses words with_equations n names (t ∷ us) ≡ Got (RuleClause r ∷ map RuleClause rs) []
      go zero t us rest w e i k more = absurd (omega (arith, i))
      go (suc n) t us rest w e i k more =
          ap (λ (p : Parse T W (List T) (Clause W)). p >>= λ c rest. clauses words with_equations n (with_name c names) rest >>= λ cs rest. Got (c ∷ cs) rest) (clause_again names t us r rest w e)
          ∙ ap (λ (p : Parse T W (List T) (List (Clause W))). p >>= λ cs rest. Got (RuleClause r ∷ cs) rest) (more n names (omega (arith, i, k)))

-- different rules are different clauses
rules_tell : {W : Type 0} (rs ss : List (RuleText W)) → map RuleClause rs ≡ map RuleClause ss → rs ≡ ss
rules_tell [] [] e = refl
rules_tell [] (s ∷ ss) e = absurd cc
rules_tell (r ∷ rs) [] e = absurd cc
rules_tell (r ∷ rs) (s ∷ ss) e = let h : r ≡ s = cc in let k : map RuleClause rs ≡ map RuleClause ss = cc in ap (λ x. x ∷ rs) h ∙ ap (λ xs. s ∷ xs) (rules_tell rs ss k)

pub rules_are_spelled : RulesAreSpelled
rules_are_spelled ts rs = (found, λ a. clauses_again by_text rs (length ts) [] ts (omega arith) a)
  where
    found : clauses by_text with_equations (length ts) [] ts ≡ Got (map RuleClause rs) [] → AreRulesSpelled by_text ts rs
    found e = let a = clauses_found by_text (length ts) [] ts (map RuleClause rs) [] (omega arith) e in subst (AreRulesSpelled by_text ts) (rules_tell a.them rs (sym a.value)) a.spelled
