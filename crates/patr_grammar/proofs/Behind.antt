-- Clauses, one after another: what they make up, and which names they give.
use Rattle.std.proofs.Common.{◌≡◌, ℕ, suc, ◌-◌, ◌<◌, ◌≤◌, Bool, true, false, cond, ◌||◌, List, [], ◌∷◌, ◌++◌, length, map, nat_eq, refl, sym, ap, ◌∙◌, subst, arith, append-nil}
use Rattle.std.proofs.lemmas.Bool.Decides.{nat_tests}
use Rattle.std.proofs.lemmas.List.{map_push}
use Rattle.patr_model.specs.declared.notation.Keyword.TheVariants.{Let, Define, Parameter}
use Rattle.patr_model.specs.Productions.{rule, LetClause, StartClause, RestrictorClause, OrderClause, DefineClause}
use Rattle.patr_grammar.proofs.Names.{AreNames, AreRead, Clause, Fails, Fault, Got, Id, LaterForm, Lexeme, Memory, Parse, Refused, RuleClause, RuleText, Settings, Stops, Template, ◌>>=◌, before, begins, by_id, clause, clauses, is_key, lexical_rule, names_after, of_rules, onto, parameter, rule_seen, settings, stage, template, template_seen, with_name}
use Rattle.patr_grammar.specs.declared.grammar.RuleText as code_rule
use Rattle.patr_grammar.specs.declared.grammar.Template as code_template
use Rattle.patr_grammar.specs.declared.clauses.Clauses.{Clauses}
use Rattle.patr_grammar.specs.declared.reader.Refusal.{Refusal}
use Rattle.patr_grammar.proofs.Loops.{onto_one}

-- ---- one clause

module _ (names : List Id) (ts : List Lexeme) where
  pub is_template : (x : Template Id) (rest : List Lexeme) → begins (is_key by_id Let) ts ≡ true → template by_id stage names ts ≡ Got x rest → clause by_id stage names ts ≡ Got (LetClause x) rest
  is_template x rest h e = rw h (ap (λ p. p >>= λ t ts. Got (LetClause t) ts) e)

  pub fails_template : (f : Fault Refusal) (rest : List Lexeme) → begins (is_key by_id Let) ts ≡ true → Fails f rest (template by_id stage names ts) → Fails f rest (clause by_id stage names ts)
  fails_template Memory rest h e = tt
  fails_template (Refused r) rest h e = rw h (ap (λ p. p >>= λ t ts. Got (LetClause t) ts) e)

  pub later_define : begins (is_key by_id Let) ts ≡ false → begins (is_key by_id Define) ts ≡ true → clause by_id stage names ts ≡ Stops LaterForm ts
  unfolding lexical_rule
  later_define a h = rw (a, h) refl

  pub later_parameter : begins (is_key by_id Let) ts ≡ false → begins (is_key by_id Define) ts ≡ false → begins (is_key by_id Parameter) ts ≡ true → clause by_id stage names ts ≡ Stops LaterForm ts
  unfolding parameter
  later_parameter l d h = rw (l, d, h) refl

  pub is_rule : (x : RuleText Id) (rest : List Lexeme) → begins (is_key by_id Let) ts ≡ false → begins (is_key by_id Define) ts ≡ false → begins (is_key by_id Parameter) ts ≡ false → rule by_id stage ts ≡ Got x rest → clause by_id stage names ts ≡ Got (RuleClause x) rest
  is_rule x rest l d h e = rw (l, d, h) (ap (λ p. p >>= λ r ts. Got (RuleClause r) ts) e)

-- ---- what clauses make up, with one more

settings_template : (cs : List (Clause Id)) (t : Template Id) → settings (cs ++ LetClause t ∷ []) ≡ record (settings cs) { templates = (settings cs).templates ++ t ∷ [] }
settings_template [] t = refl
settings_template (c ∷ cs) t = ap (before c) (settings_template cs t) ∙ by c (settings cs)
  where
    by : (c : Clause Id) (g : Settings Id) → before c (record g { templates = g.templates ++ t ∷ [] }) ≡ record (before c g) { templates = (before c g).templates ++ t ∷ [] }
    by (RuleClause r) g = refl
    by (LetClause u) g = refl
    by (DefineClause d) g = refl
    by (StartClause x) g = refl
    by (RestrictorClause ps) g = refl
    by (OrderClause ws) g = refl

settings_rule : (cs : List (Clause Id)) (r : RuleText Id) → settings (cs ++ RuleClause r ∷ []) ≡ record (settings cs) { rules = (settings cs).rules ++ r ∷ [] }
settings_rule [] r = refl
settings_rule (c ∷ cs) r = ap (before c) (settings_rule cs r) ∙ by c (settings cs)
  where
    by : (c : Clause Id) (g : Settings Id) → before c (record g { rules = g.rules ++ r ∷ [] }) ≡ record (before c g) { rules = (before c g).rules ++ r ∷ [] }
    by (RuleClause x) g = refl
    by (LetClause u) g = refl
    by (DefineClause d) g = refl
    by (StartClause x) g = refl
    by (RestrictorClause ps) g = refl
    by (OrderClause ws) g = refl

names_more : (names : List Id) (cs : List (Clause Id)) (c : Clause Id) → names_after names (cs ++ c ∷ []) ≡ with_name c (names_after names cs)
names_more names [] c = refl
names_more names (d ∷ cs) c = names_more (with_name d names) cs c

pub template_added : (old new : Clauses) (cs : List (Clause Id)) (t : code_template.Template) → AreRead old cs → new.rules.items ≡ old.rules.items → new.templates.items ≡ old.templates.items ++ t ∷ []
    → AreNames new.named (t.name ∷ names_after [] cs) → AreRead new (cs ++ LetClause (template_seen t) ∷ [])
template_added old new cs t h same more named = record {
  settings =
      settings_template cs (template_seen t) ∙ ap (λ (g : Settings Id). record g { templates = g.templates ++ template_seen t ∷ [] }) h.settings
      ∙ (λ i. of_seen (map rule_seen (sym same i)) (sym (ap (map template_seen) more ∙ map_push template_seen old.templates.items t) i));
  named = subst (AreNames new.named) (sym (names_more [] cs (LetClause (template_seen t)))) named;
}
  where
    of_seen : List (RuleText Id) → List (Template Id) → Settings Id
    of_seen rules templates = record (of_rules [] []) { rules = rules; templates = templates }

pub rule_added : (old new : Clauses) (cs : List (Clause Id)) (r : code_rule.RuleText) → AreRead old cs → new.rules.items ≡ old.rules.items ++ r ∷ [] → new.templates.items ≡ old.templates.items → AreNames new.named (names_after [] cs)
    → AreRead new (cs ++ RuleClause (rule_seen r) ∷ [])
rule_added old new cs r h more same named = record {
  settings =
      settings_rule cs (rule_seen r) ∙ ap (λ (g : Settings Id). record g { rules = g.rules ++ rule_seen r ∷ [] }) h.settings
      ∙ (λ i. of_seen (sym (ap (map rule_seen) more ∙ map_push rule_seen old.rules.items r) i) (map template_seen (sym same i)));
  named = subst (AreNames new.named) (sym (names_more [] cs (RuleClause (rule_seen r)))) named;
}
  where
    of_seen : List (RuleText Id) → List (Template Id) → Settings Id
    of_seen rules templates = record (of_rules [] []) { rules = rules; templates = templates }

-- a name is put among others
pub put : (a n : ℕ) (x y : Bool) → x ≡ y → cond (nat_eq a n) true x ≡ (nat_eq n a || y)
put a n x y h = ap (λ b. cond b true x) (turned a n) ∙ by (nat_eq n a)
  where
    turned : (a n : ℕ) → nat_eq a n ≡ nat_eq n a
    turned a n = grind (arith, nat_tests)

    by : (b : Bool) → cond b true x ≡ (b || y)
    by true = refl
    by false = h

-- ---- all clauses

abbrev All : Type 0
All = Parse Lexeme Id (List Lexeme) (List (Clause Id))

abbrev next : List (Clause Id) → ℕ → List Id → Parse Lexeme Id (List Lexeme) (Clause Id) → All
next front n names p = onto front (p >>= λ c rest. clauses by_id stage n (with_name c names) rest >>= λ cs rest. Got (c ∷ cs) rest)

-- behind these clauses, what is left gives the whole
pub record IsBehind (cs : List (Clause Id)) (ts : List Lexeme) (total : Parse Lexeme Id (List Lexeme) (List (Clause Id))) : Type 0 where
  pub most : ℕ
  pub enough : length ts ≤ most
  pub is : onto cs (clauses by_id stage most (names_after [] cs) ts) ≡ total

one_more : (n : ℕ) → 1 ≤ n → n ≡ suc (n - 1)
one_more n h = omega (arith, h)

step : (front : List (Clause Id)) (n : ℕ) (names : List Id) (ts : List Lexeme) → 1 ≤ length ts → onto front (clauses by_id stage (suc n) names ts) ≡ next front n names (clause by_id stage names ts)
unfolding clauses
step front n names [] h = absurd (omega (arith, h))
step front n names (t ∷ ts) h = refl

turn : (cs : List (Clause Id)) (ts : List Lexeme) (total : All) (h : IsBehind cs ts total) → 1 ≤ length ts → next cs (h.most - 1) (names_after [] cs) (clause by_id stage (names_after [] cs) ts) ≡ total
turn cs ts total h some = sym (step cs (h.most - 1) (names_after [] cs) ts some) ∙ ap (λ n. onto cs (clauses by_id stage n (names_after [] cs) ts)) (sym (one_more h.most (omega (arith, some, h.enough)))) ∙ h.is

pub clauses_more : (cs : List (Clause Id)) (c : Clause Id) (ts rest : List Lexeme) (total : Parse Lexeme Id (List Lexeme) (List (Clause Id))) → 1 ≤ length ts → length rest < length ts → clause by_id stage (names_after [] cs) ts ≡ Got c rest → IsBehind cs ts total → IsBehind (cs ++ c ∷ []) rest total
clauses_more cs c ts rest total some less e h = record {
  most = h.most - 1;
  enough = omega (arith, less, h.enough);
  is =
      ap (λ names. onto (cs ++ c ∷ []) (clauses by_id stage (h.most - 1) names rest)) (names_more [] cs c) ∙ sym (onto_one cs c (clauses by_id stage (h.most - 1) (with_name c (names_after [] cs)) rest))
      ∙ ap (next cs (h.most - 1) (names_after [] cs)) (sym e) ∙ turn cs ts total h some;
}

pub clauses_fail : (f : Fault Refusal) (cs : List (Clause Id)) (ts rest : List Lexeme) (total : Parse Lexeme Id (List Lexeme) (List (Clause Id))) → 1 ≤ length ts → Fails f rest (clause by_id stage (names_after [] cs) ts) → IsBehind cs ts total → Fails f rest total
clauses_fail Memory cs ts rest total some e h = tt
clauses_fail (Refused r) cs ts rest total some e h = sym (turn cs ts total h some) ∙ ap (next cs (h.most - 1) (names_after [] cs)) e

pub clauses_end : (cs : List (Clause Id)) (ts : List Lexeme) (total : Parse Lexeme Id (List Lexeme) (List (Clause Id))) → length ts ≡ 0 → IsBehind cs ts total → total ≡ Got cs ts
unfolding clauses
clauses_end cs [] total none h = sym h.is ∙ ap (λ ds. Got ds []) (append-nil cs)
clauses_end cs (t ∷ ts) total none h = absurd (omega (arith, none))
