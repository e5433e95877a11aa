-- What the values of the code are, as the definitions see them.
use Rattle.std.specs.Prelude.{◌≡◌, ℕ, suc, List, [], ◌∷◌, map, flat_map, Bool, nat_eq, Option, Some, None}
use Rattle.std.specs.declared.vec.Vec.{Vec}
use Rattle.std.specs.declared.alloc.Global.{Global}
use Rattle.patr_model.specs.Equation as model
use Rattle.patr_model.specs.Equation.{AtomOf, PathOf}
use Rattle.patr_model.specs.Derivation as derivation
use Rattle.patr_model.specs.Grammar.{Rows, single, variants}
use Rattle.patr_model.specs.Productions as production
use Rattle.patr_model.specs.Build as build
use Rattle.patr_model.specs.Build.{Meaning, ExpandFault, meanings, features_fault, equation_variants, written_out}
use Rattle.patr_text.specs.declared.symbols.Id.{Id}
use Rattle.patr_text.specs.declared.fault.Fault.{Fault}
use Rattle.patr_text.specs.declared.fault.Fault.TheVariants.{Memory, Refused}
use Rattle.patr_grammar.specs.declared.grammar.SymbolText.{SymbolText}
use Rattle.patr_grammar.specs.declared.grammar.Item.{Item}
use Rattle.patr_grammar.specs.declared.grammar.Element.{Element}
use Rattle.patr_grammar.specs.declared.grammar.Template.{Template}
use Rattle.patr_grammar.specs.Levels.{symbol_seen, right_seen, features_seen}
use Rattle.patr_grammar.specs.Reading.{template_seen}
use Rattle.patr_expand.specs.declared.cause.ExpandCause.{ExpandCause}
use Rattle.patr_expand.specs.declared.cause.ExpandCause.TheVariants.{UnknownName, TooManyVariants, TooManyEquations}
use Rattle.patr_expand.specs.declared.equation.SlotPath.{SlotPath}
use Rattle.patr_expand.specs.declared.equation.Term.{Term}
use Rattle.patr_expand.specs.declared.equation.Term.TheVariants.{Atom, Path}
use Rattle.patr_expand.specs.declared.equation.Equation.{Equation}
use Rattle.patr_expand.specs.declared.variant.RuleVariant.{RuleVariant}

-- a symbol's number
abbrev pub number : Id → ℕ
number i = i.0

-- they are one symbol
abbrev pub same : Id → Id → Bool
same a b = nat_eq a.0 b.0

-- the number of the attribute `cat`
abbrev pub cat : ℕ
cat = 33

-- a cause of the code
abbrev pub cause_seen : ExpandCause → ExpandFault Id
cause_seen (UnknownName line column name) = build.UnknownName name (record { line = line; column = column })
cause_seen (TooManyVariants line count) = build.TooManyVariants line count
cause_seen (TooManyEquations line count) = build.TooManyEquations line count

-- what the names of templates stand for
abbrev pub meant : List Template → List (Meaning Id)
meant ts = meanings same (map template_seen ts)

-- the variants of features, whose names stand for this
abbrev pub feature_variants : List (Meaning Id) → List Element → List (List model.Equation)
feature_variants ms es = equation_variants number (written_out same ms (features_seen es))

-- the fault of features at this line, whose names stand for this
abbrev pub fault_of_features : List (Meaning Id) → ℕ → List Element → Option (ExpandFault Id)
fault_of_features ms line es = features_fault same ms line (features_seen es)

-- a path of the code
abbrev pub path_at : SlotPath → model.SlotPath
path_at p = record { slot = p.slot; path = map number p.path.items }

-- the right side of an equation of the code
abbrev pub term_at : Term → model.Term
term_at (Atom c) = AtomOf c.0
term_at (Path p) = PathOf (path_at p)

-- an equation of the code
abbrev pub equation_at : Equation → model.Equation
equation_at e = record { left = path_at e.left; right = term_at e.right }

-- equations of the code
abbrev pub equations_at : List Equation → List model.Equation
equations_at es = map equation_at es

-- symbols of the code
abbrev pub symbols_seen : List SymbolText → List (production.SymbolText Id)
symbols_seen xs = map symbol_seen xs

-- alternatives of a right side of the code
abbrev pub rights_seen : List (Vec Item Global) → Rows (production.SymbolText Id)
rights_seen vs = production.rows (map (λ v. right_seen v.items) vs)

-- a variant of the code
abbrev pub variant_at : RuleVariant → derivation.RuleVariant
variant_at v = record { categories = map (λ x. x.category.0) v.symbols.items; equations = equations_at v.equations.items }

-- variants of the code
abbrev pub variants_at : List RuleVariant → List derivation.RuleVariant
variants_at vs = map variant_at vs

-- the constituents of each variant of a rule, the mother first
abbrev pub rule_symbols : production.RuleText Id → List (List (production.SymbolText Id))
rule_symbols r = flat_map (λ xs. map (λ es. r.mother ∷ xs) (variants single r.equations)) (variants single r.right)

-- the variants are of this rule, and numbered from k on
abbrev pub AreNumbered : ℕ → ℕ → List RuleVariant → Type 0
AreNumbered rule k [] = Unit {0}
AreNumbered rule k (v ∷ vs) = (v.rule ≡ rule) × (v.variant ≡ k) × AreNumbered rule (suc k) vs

-- lists of equations of the code
abbrev pub lists_at : List (Vec Equation Global) → List (List model.Equation)
lists_at vs = map (λ v. equations_at v.items) vs

-- the refusal is this fault; want of memory may come at any time
abbrev pub IsRefusedBy : Option (ExpandFault Id) → Fault ExpandCause → Type 0
IsRefusedBy f Memory = Unit {0}
IsRefusedBy f (Refused c) = f ≡ Some (cause_seen c)
