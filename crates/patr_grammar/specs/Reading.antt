-- What bytes stand for, as the code has it: a grammar, or why they stand for none.
use Rattle.std.specs.Prelude.{◌≡◌, ℕ, List, map, Some, slice_get}
use Rattle.patr_model.specs.Tokens.{Place}
use Rattle.patr_model.specs.Parsing as parsing
use Rattle.patr_model.specs.Productions as production
use Rattle.patr_model.specs.Productions.{Grammar}
use Rattle.patr_model.specs.GrammarText as reading
use Rattle.patr_model.specs.Faults.{NotText, Misread}
use Rattle.patr_model.specs.GrammarText.{GrammarFault, ReadsGrammar, RefusesGrammar}
use Rattle.patr_model.specs.Agreeing.{SameGrammar}
use Rattle.patr_model.specs.Built.{stage}
use Rattle.patr_text.specs.declared.symbols.Id.{Id}
use Rattle.patr_text.specs.declared.fault.Fault.{Fault}
use Rattle.patr_text.specs.declared.fault.Fault.TheVariants.{Memory, Refused}
use Rattle.patr_grammar.specs.declared.grammar.RuleText as code_rule
use Rattle.patr_grammar.specs.declared.grammar.Template as code_template
use Rattle.patr_grammar.specs.declared.grammar.LexicalRule as code_lexical
use Rattle.patr_grammar.specs.declared.grammar.Grammar as code_grammar
use Rattle.patr_grammar.specs.declared.grammar.GrammarCause.{GrammarCause}
use Rattle.patr_grammar.specs.declared.grammar.GrammarCause.TheVariants as cause
use Rattle.patr_grammar.specs.Defaults.{paths_seen}
pub use Rattle.patr_grammar.specs.Levels.{symbol_seen, item_seen, right_seen, path_seen, term_seen, equation_seen, element_seen, equations_seen, feature_seen, features_seen}

-- the number has this text in the table
abbrev pub IsText : List (List ℕ) → Id → List ℕ → Type 0
IsText table id text = slice_get table id.0 ≡ Some text

-- a rule of the code
abbrev pub rule_seen : code_rule.RuleText → production.RuleText Id
rule_seen r = record { line = r.line; name = r.name.items; mother = symbol_seen r.mother; right = right_seen r.right.items; equations = equations_seen r.equations.items }

-- a template of the code
abbrev pub template_seen : code_template.Template → production.Template Id
template_seen t = record { line = t.line; name = t.name; body = features_seen t.body.items }

-- a lexical rule of the code
abbrev pub lexical_rule_seen : code_lexical.LexicalRule → production.LexicalRule Id
lexical_rule_seen r = record { line = r.line; name = r.name; equations = map equation_seen r.equations.items }

-- a grammar of the code
abbrev pub grammar_seen : code_grammar.Grammar → Grammar Id
grammar_seen g = record {
  rules = map rule_seen g.rules.items;
  templates = map template_seen g.templates.items;
  lexical_rules = map lexical_rule_seen g.lexical_rules.items;
  start = g.start;
  restrictor = paths_seen g.restrictor.items;
  order = g.order.items;
}

-- a grammar of the code is this one by the table
abbrev pub IsGrammar : List (List ℕ) → code_grammar.Grammar → Grammar (List ℕ) → Type 0
IsGrammar table g t = SameGrammar (IsText table) (grammar_seen g) t

-- the grammar is what the bytes stand for
abbrev pub StandsFor : List (List ℕ) → List ℕ → code_grammar.Grammar → Type 0
StandsFor table bytes g = (t : Grammar (List ℕ)) × ReadsGrammar stage bytes t × IsGrammar table g t

-- a place of the code
abbrev pub place_at : ℕ → ℕ → Place
place_at line column = record { line = line; column = column }

-- the token at this place, or the end, is refused
abbrev pub refused_at : parsing.Refusal (List ℕ) → ℕ → ℕ → GrammarFault
refused_at r line column = Misread (reading.Refused r (place_at line column))

-- a cause of the code is this fault by the table
abbrev pub IsFault : List (List ℕ) → GrammarCause → GrammarFault → Type 0
IsFault table (cause.NotUtf8 at) f = f ≡ NotText at
IsFault table (cause.BadToken line column) f = f ≡ Misread (reading.BadToken (place_at line column))
IsFault table (cause.Expected line column what) f = f ≡ refused_at (parsing.Expected what) line column
IsFault table (cause.NotAConstituent line column) f = f ≡ refused_at parsing.NotAConstituent line column
IsFault table (cause.TwiceNamed line column name) f = (t : List ℕ) × IsText table name t × (f ≡ refused_at (parsing.TwiceNamed t) line column)
IsFault table (cause.PathTooLong line column) f = f ≡ refused_at parsing.PathTooLong line column
IsFault table (cause.TooManySymbols line column) f = f ≡ refused_at parsing.TooManySymbols line column
IsFault table cause.NoRules f = f ≡ Misread reading.NoRules
IsFault table (cause.TooDeep line column) f = f ≡ refused_at parsing.TooDeep line column
IsFault table (cause.LaterForm line column) f = f ≡ refused_at parsing.LaterForm line column

-- a refusal is due; want of memory may come at any time
abbrev pub IsRefusedFor : List (List ℕ) → List ℕ → Fault GrammarCause → Type 0
IsRefusedFor table bytes Memory = Unit {0}
IsRefusedFor table bytes (Refused c) = (f : GrammarFault) × RefusesGrammar stage bytes f × IsFault table c f
