-- Items and elements of the code, with the choices inside them, as the definitions see them: each view goes over the levels from the inside.
use Rattle.std.specs.Prelude.{List, map}
use Rattle.std.specs.declared.vec.Vec.{Vec}
use Rattle.std.specs.declared.alloc.Global.{Global}
use Rattle.patr_model.specs.Grammar.{Row, Rows, None'}
use Rattle.patr_model.specs.Productions as production
use Rattle.patr_model.specs.Productions.{FeatureText, Equates, Names, Single, Choice, Option', row, rows}
use Rattle.patr_text.specs.declared.symbols.Id.{Id}
use Rattle.patr_grammar.specs.declared.grammar.SymbolText as code_symbol
use Rattle.patr_grammar.specs.declared.grammar.Item as code_item
use Rattle.patr_grammar.specs.declared.grammar.Item.TheOpen as items
use Rattle.patr_grammar.specs.declared.grammar.Item.TheFolds.{fold-Item}
use Rattle.patr_grammar.specs.declared.grammar.PathText as code_path
use Rattle.patr_grammar.specs.declared.grammar.TermText as code_term
use Rattle.patr_grammar.specs.declared.grammar.TermText.TheVariants as term
use Rattle.patr_grammar.specs.declared.grammar.EquationText as code_equation
use Rattle.patr_grammar.specs.declared.grammar.Element as code_element
use Rattle.patr_grammar.specs.declared.grammar.Element.TheOpen as elements
use Rattle.patr_grammar.specs.declared.grammar.Element.TheFolds.{fold-Element}

-- alternatives, each a list of things
abbrev pub alternatives : {X : Type 0} → List (Vec (production.Item X) Global) → Rows X
alternatives vs = rows (map (λ v. row v.items) vs)

-- a symbol of the code
abbrev pub symbol_seen : code_symbol.SymbolText → production.SymbolText Id
symbol_seen s = record { symbol = s.symbol; category = s.category }

-- one level of a right side
abbrev pub item_level : items.Item-F (production.Item (production.SymbolText Id)) → production.Item (production.SymbolText Id)
item_level (items.Symbol s) = Single (symbol_seen s)
item_level (items.Optional vs) = Option' (alternatives vs.items)
item_level (items.OneOf vs) = Choice (alternatives vs.items)

-- an item of a right side of the code
abbrev pub item_seen : code_item.Item → production.Item (production.SymbolText Id)
item_seen = fold-Item (production.Item (production.SymbolText Id)) item_level

-- a right side of the code
abbrev pub right_seen : List code_item.Item → Row (production.SymbolText Id)
right_seen items = row (map item_seen items)

-- a path of the code
abbrev pub path_seen : code_path.PathText → production.PathText Id
path_seen p = record { head = p.head; attributes = p.attributes.items }

-- the right side of an equation of the code
abbrev pub term_seen : code_term.TermText → production.TermText Id
term_seen (term.Atom a) = production.AtomText a
term_seen (term.Path p) = production.OfPath (path_seen p)

-- an equation of the code
abbrev pub equation_seen : code_equation.EquationText → production.EquationText Id
equation_seen e = record { left = path_seen e.left; right = term_seen e.right }

-- one level of the equations of a rule, where a name stands for nothing
abbrev pub element_level : elements.Element-F (production.Item (production.EquationText Id)) → production.Item (production.EquationText Id)
element_level (elements.Equation e) = Single (equation_seen e)
element_level (elements.Name name line column) = Choice None'
element_level (elements.OneOf vs) = Choice (alternatives vs.items)

-- an element among the equations of a rule of the code
abbrev pub element_seen : code_element.Element → production.Item (production.EquationText Id)
element_seen = fold-Element (production.Item (production.EquationText Id)) element_level

-- the equations of a rule of the code
abbrev pub equations_seen : List code_element.Element → Row (production.EquationText Id)
equations_seen es = row (map element_seen es)

-- one level of features
abbrev pub feature_level : elements.Element-F (production.Item (FeatureText Id)) → production.Item (FeatureText Id)
feature_level (elements.Equation e) = Single (Equates (equation_seen e))
feature_level (elements.Name name line column) = Single (Names name (record { line = line; column = column }))
feature_level (elements.OneOf vs) = Choice (alternatives vs.items)

-- an element of features of the code
abbrev pub feature_seen : code_element.Element → production.Item (FeatureText Id)
feature_seen = fold-Element (production.Item (FeatureText Id)) feature_level

-- features of the code
abbrev pub features_seen : List code_element.Element → Row (FeatureText Id)
features_seen es = row (map feature_seen es)
