-- What a build makes of a grammar and a lexicon that are read: the variants of their rules and entries, or the first of them that it refuses.
--     meanings same ts               what the names of templates stand for, each written out
--     build number same keys g l     the variants, by the numbers that the words of g and l have
--     build_fault same g l           the first name that is unknown, or rule or entry that has too many variants or equations
use Rattle.std.specs.Prelude.{ℕ, suc, ◌+◌, ◌*◌, ◌^◌, List, [], ◌∷◌, ◌++◌, length, map, flat_map, filter_map, Bool, cond, nat_eq, nat_lt, min, max, is_some, Option, Some, None, option_map, option_and_then, codes, decimal}
use Rattle.patr_model.specs.Equation.{SlotPath, Term, AtomOf, PathOf, Equation}
use Rattle.patr_model.specs.Derivation.{Rules, RuleVariant, EntryVariant}
use Rattle.patr_model.specs.Grammar.{Row, Rows, Done, One, OneOf, Optional, None', Or, variants, single}
use Rattle.patr_model.specs.Plain.{stated}
use Rattle.patr_model.specs.Session.{Numbering, Grounds}
use Rattle.patr_model.specs.Bytes.{same_text}
use Rattle.patr_model.specs.Tokens.{Place}
use Rattle.patr_model.specs.Faults.{at_line, at_place}
use Rattle.patr_model.specs.Productions.{SymbolText, PathText, TermText, AtomText, OfPath, EquationText, FeatureText, Equates, Names, RuleText, Template, Grammar, things}
use Rattle.patr_model.specs.LexiconText.{EntryOf}

-- ---- rows

-- how large the largest variant of a row is, by the sizes of single things
abbrev mutual
  pub longest : {X : Type 0} → (X → ℕ) → Row X → ℕ
  longest f Done = 0
  longest f (One x r) = f x + longest f r
  longest f (OneOf rs r) = longest_of f rs + longest f r
  longest f (Optional rs r) = longest_of f rs + longest f r

  -- the same of a choice: the greatest of its alternatives
  pub longest_of : {X : Type 0} → (X → ℕ) → Rows X → ℕ
  longest_of f None' = 0
  longest_of f (Or r rs) = max (longest f r) (longest_of f rs)

-- ---- templates

-- what the name of a template stands for: its features, each name in them written out
pub record Meaning (W : Type 0) : Type 0 where
  pub name : W
  pub body : Row (EquationText W)

-- what a name stands for, as a choice: its body alone, or nothing where it is unknown
abbrev pub chosen : {W : Type 0} → Option (Row (EquationText W)) → Rows (EquationText W)
chosen None = None'
chosen (Some body) = Or body None'

-- words are compared by same
module _ {W : Type 0} (same : W → W → Bool) where
  -- what a name stands for; none where it is unknown
  abbrev pub meaning_of : List (Meaning W) → W → Option (Row (EquationText W))
  meaning_of [] w = None
  meaning_of (m ∷ ms) w = cond (same m.name w) (Some m.body) (meaning_of ms w)

  abbrev mutual
    -- features with what each name stands for in its place
    pub written_out : List (Meaning W) → Row (FeatureText W) → Row (EquationText W)
    written_out ms Done = Done
    written_out ms (One (Equates e) r) = One e (written_out ms r)
    written_out ms (One (Names w p) r) = OneOf (chosen (meaning_of ms w)) (written_out ms r)
    written_out ms (OneOf rs r) = OneOf (all_written_out ms rs) (written_out ms r)
    written_out ms (Optional rs r) = Optional (all_written_out ms rs) (written_out ms r)

    -- the same of alternatives
    pub all_written_out : List (Meaning W) → Rows (FeatureText W) → Rows (EquationText W)
    all_written_out ms None' = None'
    all_written_out ms (Or r rs) = Or (written_out ms r) (all_written_out ms rs)

  -- what a template stands for, behind those before it
  abbrev pub with_template : List (Meaning W) → Template W → List (Meaning W)
  with_template ms t = ms ++ record { name = t.name; body = written_out ms t.body } ∷ []

  -- what templates stand for: each names only such as stand before it
  abbrev pub meanings_from : List (Meaning W) → List (Template W) → List (Meaning W)
  meanings_from ms [] = ms
  meanings_from ms (t ∷ ts) = meanings_from (with_template ms t) ts

  -- what the templates of a grammar stand for
  abbrev pub meanings : List (Template W) → List (Meaning W)
  meanings ts = meanings_from [] ts

-- ---- variants

-- the numbers of the attributes that a build states by itself
pub record Keys : Type 0 where
  pub cat : ℕ
  pub lex : ℕ
  pub gloss : ℕ

module _ {W : Type 0} (number : W → ℕ) where
  -- ---- rules, whose constituents have slots: the mother the first, and then those of the right side

  -- the slot of the first constituent whose symbol has this number; none where the variant has no such constituent
  abbrev pub slot_of : List (SymbolText W) → ℕ → Option ℕ
  slot_of [] s = None
  slot_of (x ∷ xs) s = cond (nat_eq (number x.symbol) s) (Some 0) (option_map (λ n. suc n) (slot_of xs s))

  -- the slot at which a path begins: that of its constituent, or the mother's where it names none
  abbrev pub head_slot : List (SymbolText W) → Option W → Option ℕ
  head_slot xs None = Some 0
  head_slot xs (Some w) = slot_of xs (number w)

  -- the path from its slot; none where the variant leaves its constituent out
  abbrev pub placed_path : List (SymbolText W) → PathText W → Option SlotPath
  placed_path xs p = option_map (λ n. record { slot = n; path = map number p.attributes }) (head_slot xs p.head)

  -- the right side at the variant's slots; none where it names a symbol that the variant leaves out
  abbrev pub placed_term : List (SymbolText W) → TermText W → Option Term
  placed_term xs (AtomText a) = Some (AtomOf (number a))
  placed_term xs (OfPath p) = option_map (λ q. PathOf q) (placed_path xs p)

  -- the equation at the variant's slots; none where it names a symbol that the variant leaves out
  abbrev pub placed_equation : List (SymbolText W) → EquationText W → Option Equation
  placed_equation xs e = option_and_then (λ l. option_map (λ r. record { left = l; right = r }) (placed_term xs e.right)) (placed_path xs e.left)

  -- that each constituent has its category, the slots numbered from n
  abbrev pub category_equations : ℕ → ℕ → List (SymbolText W) → List Equation
  category_equations cat n [] = []
  category_equations cat n (x ∷ xs) = record { left = record { slot = n; path = cat ∷ [] }; right = AtomOf (number x.category) } ∷ category_equations cat (suc n) xs

  -- the variant with these constituents: the equations of their categories, and of the written ones those that name no symbol left out
  abbrev pub rule_variant_of : ℕ → List (SymbolText W) → List (EquationText W) → RuleVariant
  rule_variant_of cat xs es = record {
    categories = map (λ x. number x.category) xs;
    equations = category_equations cat 0 xs ++ filter_map (placed_equation xs) es;
  }

  -- the variants of a rule, those of the right side changing slowest
  abbrev pub rule_variants : ℕ → RuleText W → List RuleVariant
  rule_variants cat r = flat_map (λ xs. map (rule_variant_of cat (r.mother ∷ xs)) (variants single r.equations)) (variants single r.right)

  -- ---- entries

  -- a path of an entry's features: it begins at the entry's one value, slot 0
  abbrev pub feature_path : PathText W → SlotPath
  feature_path p = record { slot = 0; path = map number p.attributes }

  -- the right side of an equation of an entry
  abbrev pub feature_term : TermText W → Term
  feature_term (AtomText a) = AtomOf (number a)
  feature_term (OfPath p) = PathOf (feature_path p)

  -- an equation of an entry
  abbrev pub feature_equation : EquationText W → Equation
  feature_equation e = record { left = feature_path e.left; right = feature_term e.right }

  -- the variants of equations of an entry
  abbrev pub equation_variants : Row (EquationText W) → List (List Equation)
  equation_variants r = variants (λ e. single (feature_equation e)) r

  module _ (keys : Keys) where
    -- what a gloss states, where there is one
    abbrev pub gloss_fact : Option W → List (ℕ × ℕ)
    gloss_fact None = []
    gloss_fact (Some w) = (keys.gloss, number w) ∷ []

    -- what an entry states besides its features: its category, its word, and its gloss where it has one
    abbrev pub facts_of : EntryOf W → List (ℕ × ℕ)
    facts_of e = (keys.cat, number e.category) ∷ (keys.lex, number e.word) ∷ gloss_fact e.gloss

    -- the variant of an entry with these equations of its features
    abbrev pub entry_variant_of : EntryOf W → List Equation → EntryVariant
    entry_variant_of e es = record { word = number e.word; category = number e.category; equations = stated (facts_of e) ++ es; chain = [] }

  module _ (same : W → W → Bool) (keys : Keys) where
    -- the variants of an entry, whose names stand for this
    abbrev pub entry_variants : List (Meaning W) → EntryOf W → List EntryVariant
    entry_variants ms e = map (entry_variant_of keys e) (equation_variants (written_out same ms e.features))

    -- the variants of all rules and entries
    abbrev pub build : Grammar W → List (EntryOf W) → Rules
    build g l = record {
      rules = map (rule_variants keys.cat) g.rules;
      entries = map (entry_variants (meanings same g.templates)) l;
      start = number g.start;
      restrictor = map (map number) g.restrictor;
    }

-- the numbers of `cat`, `lex` and `gloss`
abbrev pub keys_of : Numbering → Keys
keys_of N = record { cat = N.number (codes "cat"); lex = N.number (codes "lex"); gloss = N.number (codes "gloss") }

-- what a session over a grammar and a lexicon stands on
abbrev pub grounds : Numbering → Grammar (List ℕ) → List (EntryOf (List ℕ)) → Grounds
grounds N g l = record { names = N; rules = build N.number same_text (keys_of N) g l; order = map N.number g.order }

-- ---- what is refused

-- Why a build refuses a template, a rule or an entry: a name in its features is unknown, it has more than 256 variants, or a variant of it has more than 1,024 written equations.
pub data ExpandFault (W : Type 0) : Type 0 where
  UnknownName : W → Place → ExpandFault W
  TooManyVariants : (line count : ℕ) → ExpandFault W
  TooManyEquations : (line count : ℕ) → ExpandFault W

-- the first of two faults
abbrev pub first_fault : {W : Type 0} → Option (ExpandFault W) → Option (ExpandFault W) → Option (ExpandFault W)
first_fault None f = f
first_fault (Some e) f = Some e

-- the fault of what has so many variants, and so many equations in the largest; counts are told up to 2^32
abbrev pub size_fault : {W : Type 0} → (line count most : ℕ) → Option (ExpandFault W)
size_fault line count most =
    cond (nat_lt 256 count) (Some (TooManyVariants line (min count (2 ^ 32))))
    (cond (nat_lt 1024 most) (Some (TooManyEquations line (min most (2 ^ 32)))) None)

-- the fault of equations at this line
abbrev pub equations_fault : {W : Type 0} → ℕ → Row (EquationText W) → Option (ExpandFault W)
equations_fault line r = size_fault line (length (variants single r)) (longest (λ e. 1) r)

-- the fault of a rule: its variants are the products of those of its right side and of its equations
abbrev pub rule_fault : {W : Type 0} → RuleText W → Option (ExpandFault W)
rule_fault r = size_fault r.line (length (variants single r.right) * length (variants single r.equations)) (longest (λ e. 1) r.equations)

-- the fault of the first of the rules that has one
abbrev pub rules_fault : {W : Type 0} → List (RuleText W) → Option (ExpandFault W)
rules_fault [] = None
rules_fault (r ∷ rs) = first_fault (rule_fault r) (rules_fault rs)

module _ {W : Type 0} (same : W → W → Bool) where
  -- the first of these features that is an unknown name
  abbrev pub unknown_name : List (Meaning W) → List (FeatureText W) → Option (ExpandFault W)
  unknown_name ms [] = None
  unknown_name ms (Equates e ∷ fs) = unknown_name ms fs
  unknown_name ms (Names w p ∷ fs) = cond (is_some (meaning_of same ms w)) (unknown_name ms fs) (Some (UnknownName w p))

  -- the first unknown name of templates, each of which names only such as stand before it
  abbrev pub templates_fault_from : List (Meaning W) → List (Template W) → Option (ExpandFault W)
  templates_fault_from ms [] = None
  templates_fault_from ms (t ∷ ts) = first_fault (unknown_name ms (things t.body)) (templates_fault_from (with_template same ms t) ts)

  -- the first unknown name of the templates of a grammar
  abbrev pub templates_fault : List (Template W) → Option (ExpandFault W)
  templates_fault ts = templates_fault_from [] ts

  -- the fault of features at this line
  abbrev pub features_fault : List (Meaning W) → ℕ → Row (FeatureText W) → Option (ExpandFault W)
  features_fault ms line r = first_fault (unknown_name ms (things r)) (equations_fault line (written_out same ms r))

  -- the fault of the first of the entries that has one
  abbrev pub entries_fault : List (Meaning W) → List (EntryOf W) → Option (ExpandFault W)
  entries_fault ms [] = None
  entries_fault ms (e ∷ es) = first_fault (features_fault ms e.line e.features) (entries_fault ms es)

-- what the build refuses: a fault of the grammar, or of the lexicon
pub data BuildFault (W : Type 0) : Type 0 where
  InGrammar : ExpandFault W → BuildFault W
  InLexicon : ExpandFault W → BuildFault W

-- the grammar's fault comes before that of the lexicon
abbrev pub grammar_first : {W : Type 0} → Option (ExpandFault W) → Option (ExpandFault W) → Option (BuildFault W)
grammar_first (Some f) other = Some (InGrammar f)
grammar_first None (Some f) = Some (InLexicon f)
grammar_first None None = None

-- the fault of a grammar: templates first, and then rules in order
abbrev pub grammar_fault : {W : Type 0} → (W → W → Bool) → Grammar W → Option (ExpandFault W)
grammar_fault same g = first_fault (templates_fault same g.templates) (rules_fault g.rules)

-- the first fault: the grammar's, and then that of entries in order
abbrev pub build_fault : {W : Type 0} → (W → W → Bool) → Grammar W → List (EntryOf W) → Option (BuildFault W)
build_fault same g l = grammar_first (grammar_fault same g) (entries_fault same (meanings same g.templates) l)

-- the line on what is refused in a file
abbrev pub expand_fault_line : List ℕ → ExpandFault (List ℕ) → List ℕ
expand_fault_line file (UnknownName w p) = at_place file p (codes "unknown name: " ++ w)
expand_fault_line file (TooManyVariants line count) = at_line file line (codes "more than 256 variants (" ++ decimal count ++ codes ")")
expand_fault_line file (TooManyEquations line count) = at_line file line (codes "more than 1024 equations (" ++ decimal count ++ codes ")")

-- the line on what a build refuses
abbrev pub build_fault_line : BuildFault (List ℕ) → List ℕ
build_fault_line (InGrammar f) = expand_fault_line (codes "grammar") f
build_fault_line (InLexicon f) = expand_fault_line (codes "lexicon") f
