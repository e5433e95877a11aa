-- A grammar that was read stays what was read while the table grows.
use Rattle.std.proofs.Common.{ℕ, List, map, Option, None, Some}
use Rattle.patr_grammar.proofs.Names.{AtomText, Both, Done, Each, Equates, EquationText, Extends, FeatureText, Grammar, Id, IsGrammar, IsText, LexicalRule, Names, None', OfPath, One, OneOf, Optional, Or, PathText, Row, Rows, RuleText, SameEquationText, SameFeatureText, SameLexicalRule, SamePathText, SameRow, SameRows', SameRuleText, SameSymbolText, SameTemplate, SameTermText, SymbolText, Template, TermText, lexical_rule_seen, rule_seen, template_seen, text_still}
use Rattle.patr_grammar.specs.declared.grammar.Grammar as code_grammar
use Rattle.patr_grammar.specs.Defaults.{paths_seen}
use Rattle.patr_grammar.proofs.Tables.{each_still}

-- what belongs together by fewer pairs of words does by more
module _ {W V : Type 0} (P Q : W → V → Type 0) (f : (x : W) (y : V) → P x y → Q x y) where
  pub both_still : (a : Option W) (b : Option V) → Both P a b → Both Q a b
  both_still None None h = tt
  both_still None (Some y) h = absurd h
  both_still (Some x) None h = absurd h
  both_still (Some x) (Some y) h = f x y h

  symbol_still : (x : SymbolText W) (y : SymbolText V) → SameSymbolText P x y → SameSymbolText Q x y
  symbol_still x y h = record { symbol = f x.symbol y.symbol h.symbol; category = f x.category y.category h.category }

  path_still : (p : PathText W) (q : PathText V) → SamePathText P p q → SamePathText Q p q
  path_still p q h = record { head = both_still p.head q.head h.head; attributes = each_still P Q f p.attributes q.attributes h.attributes }

  term_still : (t : TermText W) (u : TermText V) → SameTermText P t u → SameTermText Q t u
  term_still (AtomText a) (AtomText b) h = f a b h
  term_still (AtomText a) (OfPath q) h = absurd h
  term_still (OfPath p) (AtomText b) h = absurd h
  term_still (OfPath p) (OfPath q) h = path_still p q h

  pub equation_still : (e : EquationText W) (e' : EquationText V) → SameEquationText P e e' → SameEquationText Q e e'
  equation_still e e' h = record { left = path_still e.left e'.left h.left; right = term_still e.right e'.right h.right }

mutual
  pub row_still : {X Y : Type 0} (R S : X → Y → Type 0) → ((x : X) (y : Y) → R x y → S x y) → (r : Row X) (s : Row Y) → SameRow R r s → SameRow S r s
  row_still R S f Done Done h = tt
  row_still R S f (One x r) (One y s) h = (f x y h.0, row_still R S f r s h.1)
  row_still R S f (OneOf rs r) (OneOf ss s) h = (rows_still R S f rs ss h.0, row_still R S f r s h.1)
  row_still R S f (Optional rs r) (Optional ss s) h = (rows_still R S f rs ss h.0, row_still R S f r s h.1)
  row_still R S f Done (One y s) h = absurd h
  row_still R S f Done (OneOf ss s) h = absurd h
  row_still R S f Done (Optional ss s) h = absurd h
  row_still R S f (One x r) Done h = absurd h
  row_still R S f (One x r) (OneOf ss s) h = absurd h
  row_still R S f (One x r) (Optional ss s) h = absurd h
  row_still R S f (OneOf rs r) Done h = absurd h
  row_still R S f (OneOf rs r) (One y s) h = absurd h
  row_still R S f (OneOf rs r) (Optional ss s) h = absurd h
  row_still R S f (Optional rs r) Done h = absurd h
  row_still R S f (Optional rs r) (One y s) h = absurd h
  row_still R S f (Optional rs r) (OneOf ss s) h = absurd h

  rows_still : {X Y : Type 0} (R S : X → Y → Type 0) → ((x : X) (y : Y) → R x y → S x y) → (rs : Rows X) (ss : Rows Y) → SameRows' R rs ss → SameRows' S rs ss
  rows_still R S f None' None' h = tt
  rows_still R S f None' (Or s ss) h = absurd h
  rows_still R S f (Or r rs) None' h = absurd h
  rows_still R S f (Or r rs) (Or s ss) h = (row_still R S f r s h.0, rows_still R S f rs ss h.1)

module _ {W V : Type 0} (P Q : W → V → Type 0) (f : (x : W) (y : V) → P x y → Q x y) where
  pub feature_still : (x : FeatureText W) (y : FeatureText V) → SameFeatureText P x y → SameFeatureText Q x y
  feature_still (Equates e) (Equates g) h = equation_still P Q f e g h
  feature_still (Equates e) (Names b q) h = absurd h
  feature_still (Names a p) (Equates g) h = absurd h
  feature_still (Names a p) (Names b q) h = (f a b h.0, h.1)

  template_still : (t : Template W) (u : Template V) → SameTemplate P t u → SameTemplate Q t u
  template_still t u h = record { line = h.line; name = f t.name u.name h.name; body = row_still (SameFeatureText P) (SameFeatureText Q) feature_still t.body u.body h.body }

  lexical_rule_still : (r : LexicalRule W) (s : LexicalRule V) → SameLexicalRule P r s → SameLexicalRule Q r s
  lexical_rule_still r s h = record { line = h.line; name = f r.name s.name h.name; equations = each_still (SameEquationText P) (SameEquationText Q) (equation_still P Q f) r.equations s.equations h.equations }

rule_still : (old new : List (List ℕ)) → Extends old new → (r : RuleText Id) (s : RuleText (List ℕ)) → SameRuleText (IsText old) r s → SameRuleText (IsText new) r s
rule_still old new e r s h =
    let f : (i : Id) (t : List ℕ) → IsText old i t → IsText new i t = λ i t is. text_still old new e i.0 t is in
    record {
      line = h.line;
      name = each_still (IsText old) (IsText new) f r.name s.name h.name;
      mother = symbol_still (IsText old) (IsText new) f r.mother s.mother h.mother;
      right = row_still (SameSymbolText (IsText old)) (SameSymbolText (IsText new)) (symbol_still (IsText old) (IsText new) f) r.right s.right h.right;
      equations = row_still (SameEquationText (IsText old)) (SameEquationText (IsText new)) (equation_still (IsText old) (IsText new) f) r.equations s.equations h.equations;
    }

-- a grammar that was read stays what was read in a longer table
pub grammar_still : (old new : List (List ℕ)) → Extends old new → (g : code_grammar.Grammar) (t : Grammar (List ℕ)) → IsGrammar old g t → IsGrammar new g t
grammar_still old new e g t h =
    let P = IsText old in
    let Q = IsText new in
    let f : (i : Id) (t : List ℕ) → P i t → Q i t = λ i t is. text_still old new e i.0 t is in
    record {
      rules = each_still (SameRuleText P) (SameRuleText Q) (rule_still old new e) (map rule_seen g.rules.items) t.rules h.rules;
      templates = each_still (SameTemplate P) (SameTemplate Q) (template_still P Q f) (map template_seen g.templates.items) t.templates h.templates;
      lexical_rules = each_still (SameLexicalRule P) (SameLexicalRule Q) (lexical_rule_still P Q f) (map lexical_rule_seen g.lexical_rules.items) t.lexical_rules h.lexical_rules;
      start = f g.start t.start h.start;
      restrictor = each_still (Each P) (Each Q) (each_still P Q f) (paths_seen g.restrictor.items) t.restrictor h.restrictor;
      order = each_still P Q f g.order.items t.order h.order;
    }
