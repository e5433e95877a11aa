-- Reading by one kind of words, and by another that agrees with it: tokens stand for what belongs together.
use Rattle.std.proofs.Common.{◌≡◌, ℕ, Bool, true, false, nat_eq, List, [], ◌∷◌, length, codes, Option, Some, None, refl, sym, ap, ◌∙◌, subst, eq-eqb, eqb-true}
use Rattle.patr_model.specs.Bytes.{same_text}
use Rattle.patr_model.specs.Session.{Numbering}
use Rattle.patr_model.specs.Renaming.{Each, Both}
use Rattle.patr_model.specs.Lexemes.{Words, by_text, key_of, without_index}
use Rattle.patr_model.specs.Parsing.{Parse, Got, Stops}
use Rattle.patr_model.specs.Stages.{Stage}
use Rattle.patr_model.specs.Productions.{RuleText, Clause, RuleClause, LetClause, DefineClause, StartClause, RestrictorClause, OrderClause, clauses, Grammar, Settings, or_else, before, settings, with_rules, assembled, concluded, outcome, grammar}
use Rattle.patr_model.specs.Agreeing.{SameRuleText, SameTemplate, SameLexicalRule, SameGrammar, WordsAgree, SameOutcome, by_number, ReadingIgnoresNumbers}
use Rattle.patr_model.proofs.Renaming.{each_length}
pub use Rattle.patr_model.proofs.SameParses.{things_agree, things_single}
use Rattle.patr_model.proofs.SameParses.{SameParse}
use Rattle.patr_model.proofs.SameProductions.{SameClause, clauses_agree}
use Rattle.patr_model.proofs.Canonical.{same_is, same_true}

or_else_agrees : {X Y : Type 0} (B : X → Y → Type 0) (o : Option X) (p : Option Y) → Both B o p → (x : X) (y : Y) → B x y → B (or_else o x) (or_else p y)
or_else_agrees B None None h x y k = k
or_else_agrees B None (Some b) h x y k = absurd h
or_else_agrees B (Some a) None h x y k = absurd h
or_else_agrees B (Some a) (Some b) h x y k = h

module _ {W V : Type 0} (S : W → V → Type 0) where
  record SameSettings (g : Settings W) (h : Settings V) : Type 0 where
    pub rules : Each (SameRuleText S) g.rules h.rules
    pub templates : Each (SameTemplate S) g.templates h.templates
    pub lexical_rules : Each (SameLexicalRule S) g.lexical_rules h.lexical_rules
    pub start : Both S g.start h.start
    pub restrictor : Both (Each (Each S)) g.restrictor h.restrictor
    pub order : Both (Each S) g.order h.order

  before_agrees : (c : Clause W) (d : Clause V) → SameClause S c d → (g : Settings W) (h : Settings V) → SameSettings g h → SameSettings (before c g) (before d h)
  before_agrees (RuleClause r) (RuleClause s) k g h e = record { rules = (k, e.rules); templates = e.templates; lexical_rules = e.lexical_rules; start = e.start; restrictor = e.restrictor; order = e.order }
  before_agrees (LetClause t) (LetClause u) k g h e = record { rules = e.rules; templates = (k, e.templates); lexical_rules = e.lexical_rules; start = e.start; restrictor = e.restrictor; order = e.order }
  before_agrees (DefineClause d) (DefineClause f) k g h e = record { rules = e.rules; templates = e.templates; lexical_rules = (k, e.lexical_rules); start = e.start; restrictor = e.restrictor; order = e.order }
  before_agrees (StartClause c) (StartClause d) k g h e = record { rules = e.rules; templates = e.templates; lexical_rules = e.lexical_rules; start = or_else_agrees S g.start h.start e.start c d k; restrictor = e.restrictor; order = e.order }
  before_agrees (RestrictorClause ps) (RestrictorClause qs) k g h e =
      record { rules = e.rules; templates = e.templates; lexical_rules = e.lexical_rules; start = e.start; restrictor = or_else_agrees (Each (Each S)) g.restrictor h.restrictor e.restrictor ps qs k; order = e.order }
  before_agrees (OrderClause ws) (OrderClause vs) k g h e =
      record { rules = e.rules; templates = e.templates; lexical_rules = e.lexical_rules; start = e.start; restrictor = e.restrictor; order = or_else_agrees (Each S) g.order h.order e.order ws vs k }
  before_agrees _ _ k g h e = absurd k

  settings_agree : (cs : List (Clause W)) (ds : List (Clause V)) → Each (SameClause S) cs ds → SameSettings (settings cs) (settings ds)
  settings_agree [] [] e = record { rules = tt; templates = tt; lexical_rules = tt; start = tt; restrictor = tt; order = tt }
  settings_agree [] (d ∷ ds) e = absurd e
  settings_agree (c ∷ cs) [] e = absurd e
  settings_agree (c ∷ cs) (d ∷ ds) e = before_agrees c d e.0 (settings cs) (settings ds) (settings_agree cs ds e.1)

  with_rules_agrees : (cat : W) (cat' : V) → S cat cat' → (g : Settings W) (h : Settings V) → SameSettings g h → (rs : List (RuleText W)) (qs : List (RuleText V)) → Each (SameRuleText S) rs qs
      → Both (SameGrammar S) (with_rules cat g rs) (with_rules cat' h qs)
  with_rules_agrees cat cat' k g h e [] [] b = tt
  with_rules_agrees cat cat' k g h e [] (q ∷ qs) b = absurd b
  with_rules_agrees cat cat' k g h e (r ∷ rs) [] b = absurd b
  with_rules_agrees cat cat' k g h e (r ∷ rs) (q ∷ qs) b = record {
    rules = b;
    templates = e.templates;
    lexical_rules = e.lexical_rules;
    start = or_else_agrees S g.start h.start e.start r.mother.category q.mother.category b.0.mother.category;
    restrictor = or_else_agrees (Each (Each S)) g.restrictor h.restrictor e.restrictor ((cat ∷ []) ∷ []) ((cat' ∷ []) ∷ []) ((k, tt), tt);
    order = or_else_agrees (Each S) g.order h.order e.order [] [] tt;
  }

module _ {T U W V : Type 0} (R : T → U → Type 0) (S : W → V → Type 0) where
  concluded_agrees : (o : Option (Grammar W)) (p : Option (Grammar V)) → Both (SameGrammar S) o p → SameOutcome R S (concluded o) (concluded p)
  concluded_agrees None None b = tt
  concluded_agrees None (Some h) b = absurd b
  concluded_agrees (Some g) None b = absurd b
  concluded_agrees (Some g) (Some h) b = b

  outcome_agrees : (cat : W) (cat' : V) → S cat cat' → (p : Parse T W (List T) (List (Clause W))) (q : Parse U V (List U) (List (Clause V))) → SameParse R S (Each R) (Each (SameClause S)) p q
      → SameOutcome R S (outcome cat p) (outcome cat' q)
  outcome_agrees cat cat' k (Got cs ts) (Got ds us) e =
      let h : SameSettings S (settings cs) (settings ds) = settings_agree S cs ds e.together.0 in
      concluded_agrees (assembled cat cs) (assembled cat' ds) (with_rules_agrees S cat cat' k (settings cs) (settings ds) h (settings cs).rules (settings ds).rules h.rules)
  outcome_agrees cat cat' k (Got cs ts) (Stops r us) e = absurd e.together
  outcome_agrees cat cat' k (Stops r ts) (Got ds us) e = absurd e.together
  outcome_agrees cat cat' k (Stops r ts) (Stops r' us) e = e.together

-- tokens that belong together stand for grammars that do
pub grammars_agree : {T U W V : Type 0} (R : T → U → Type 0) (S : W → V → Type 0) (words : Words T W) (others : Words U V) → WordsAgree R S words others
    → (s : Stage) (cat : W) (cat' : V) → S cat cat' → (ts : List T) (us : List U) → Each R ts us → SameOutcome R S (grammar words s cat ts) (grammar others s cat' us)
grammars_agree R S words others same s cat cat' k ts us e =
    outcome_agrees R S cat cat' k (clauses words s (length ts) [] ts) (clauses others s (length us) [] us)
    (subst (λ n. SameParse R S (Each R) (Each (SameClause S)) (clauses words s (length ts) [] ts) (clauses others s n [] us)) (each_length R ts us e)
    (clauses_agree R S words others same s (length ts) [] [] tt ts us e))

-- ---- tokens by the numbers of their texts

module _ (N : Numbering) where
  pub one_text : (a b : List ℕ) → N.number a ≡ N.number b → a ≡ b
  one_text a b e = sym (N.back a) ∙ (ap N.text e ∙ N.back b)

  same_number : (a b : List ℕ) (c d : ℕ) → c ≡ N.number a → d ≡ N.number b → same_text a b ≡ nat_eq c d
  same_number a b c d h k = go (same_text a b) refl (nat_eq c d) refl
    where
      go : (p : Bool) → same_text a b ≡ p → (q : Bool) → nat_eq c d ≡ q → p ≡ q
      go true e true f = refl
      go false e false f = refl
      go true e false f = sym (eq-eqb c d (h ∙ (ap N.number (same_is a b e) ∙ sym k))) ∙ f
      go false e true f = sym e ∙ (ap (λ t. same_text a t) (sym (one_text a b (sym h ∙ (eqb-true c d f ∙ k)))) ∙ same_true a)

  numbers_agree : WordsAgree (λ t u. t ≡ u) (λ text n. n ≡ N.number text) by_text (by_number N)
  numbers_agree = record {
    kind = λ t u r. ap (λ x. x.kind) r;
    key = λ t u r. ap (λ x. key_of x.text) r;
    word = λ t u r. ap (λ x. N.number x.text) (sym r);
    category = λ t u r. ap (λ x. N.number (without_index x.text)) (sym r);
    place = λ t u r. ap (λ x. x.place) r;
    same = same_number;
  }

pub each_itself : {X : Type 0} (xs : List X) → Each (λ x y. x ≡ y) xs xs
each_itself [] = tt
each_itself (x ∷ xs) = (refl, each_itself xs)

-- tokens stand for one grammar, by their texts or by the numbers of these
pub numbers_read : ReadingIgnoresNumbers
numbers_read N s ts = grammars_agree (λ t u. t ≡ u) (λ text n. n ≡ N.number text) by_text (by_number N) (numbers_agree N) s (codes "cat") (N.number (codes "cat")) refl ts ts (each_itself ts)
