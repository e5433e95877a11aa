-- Elements of a rule and features, by what the first word of a path has to be.
use Rattle.std.proofs.Common.{◌≡◌, Bool, true, false, cond, not, ◌&&◌, List, [], Vec, Global, refl, ap}
use Rattle.patr_model.specs.declared.notation.What.TheVariants as what
use Rattle.patr_model.specs.Productions.{Choice}
use Rattle.patr_grammar.proofs.Names.{Head, Id, LaterForm, Less, Lexeme, Stops, begins, begins_by, by_id, choices_seen, equation, is_kind, rule_equation, seen_by, stage}
use Rattle.patr_grammar.specs.declared.head.Head as code
use Rattle.patr_grammar.specs.declared.head.Head.TheVariants.{AmongSymbols, AnyAttribute}
use Rattle.patr_grammar.specs.declared.grammar.Element.{Element}
use Rattle.patr_grammar.specs.declared.grammar.Element.TheVariants as element
use Rattle.patr_grammar.proofs.Levels.{equations_level, features_level}

is_built : (b : Bool) → (b && not true) ≡ false
is_built true = refl
is_built false = refl

pub rule_equation_is : (h : Head Id) (ts : List Lexeme) → rule_equation by_id stage h ts ≡ equation by_id h what.Equation ts
rule_equation_is h ts = ap (λ b. cond b (Stops LaterForm ts) (equation by_id h what.Equation ts)) (is_built (begins (is_kind by_id Less) ts))

pub one_of_level : (h : code.Head) (vs : Vec (Vec Element Global) Global) → seen_by h (element.OneOf vs) ≡ Choice (choices_seen (seen_by h) vs.items)
one_of_level (AmongSymbols symbols) vs = equations_level vs
one_of_level AnyAttribute vs = features_level vs

pub none_begin : (h : code.Head) → begins_by h [] ≡ false
none_begin (AmongSymbols symbols) = refl
none_begin AnyAttribute = refl
