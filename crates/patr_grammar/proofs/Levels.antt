-- The views of items and elements, one level at a time.
use Rattle.std.proofs.Common.{◌≡◌, ℕ, Bool, List, [], ◌∷◌, map, Vec, Global, refl, sym, ap, ◌∙◌, subst}
use Rattle.std.specs.formers.vec.Vec.{mapped}
use Rattle.patr_model.specs.Grammar.{Row, Rows, Or, OneOf, None'}
use Rattle.patr_model.specs.Productions as production
use Rattle.patr_model.specs.Productions.{FeatureText, Equates, Names, Single, Choice, Option', in_front, row, rows}
use Rattle.patr_model.specs.Build.{written_out, all_written_out}
use Rattle.patr_text.specs.declared.symbols.Id.{Id}
use Rattle.patr_grammar.specs.declared.grammar.SymbolText.{SymbolText}
use Rattle.patr_grammar.specs.declared.grammar.Item.{Item}
use Rattle.patr_grammar.specs.declared.grammar.Item.TheVariants as item
use Rattle.patr_grammar.specs.declared.grammar.Item.TheVariants.{rolls-Symbol, rolls-Optional}
use Rattle.patr_grammar.specs.declared.grammar.Item.TheOpen as open_item
use Rattle.patr_grammar.specs.declared.grammar.Item.TheFolds.{fold-roll-Item}
use Rattle.patr_grammar.specs.declared.grammar.EquationText.{EquationText}
use Rattle.patr_grammar.specs.declared.grammar.Element.{Element}
use Rattle.patr_grammar.specs.declared.grammar.Element.TheVariants as element
use Rattle.patr_grammar.specs.declared.grammar.Element.TheVariants.{rolls-Equation, rolls-Name}
use Rattle.patr_grammar.specs.declared.grammar.Element.TheOpen as open_element
use Rattle.patr_grammar.specs.declared.grammar.Element.TheOpen.{Element-F}
use Rattle.patr_grammar.specs.declared.grammar.Element.TheViews.{roll-Element}
use Rattle.patr_grammar.specs.declared.grammar.Element.TheFolds.{map-Element, fold-roll-Element, ind-Element}
use Rattle.patr_grammar.specs.Levels.{alternatives, symbol_seen, item_level, item_seen, equation_seen, element_level, element_seen, equations_seen, feature_level, feature_seen, features_seen}

-- alternatives, each a list of things that are seen by f
abbrev pub choices_seen : {A X : Type 0} → (A → production.Item X) → List (Vec A Global) → Rows X
choices_seen f vs = rows (map (λ v. row (map f v.items)) vs)

-- things that are seen, as alternatives
are_seen : {A X : Type 0} (f : A → production.Item X) (vs : List (Vec A Global)) → alternatives (map (mapped f) vs) ≡ choices_seen f vs
are_seen f [] = refl
are_seen f (v ∷ vs) = ap (λ rs. Or (row (map f v.items)) rs) (are_seen f vs)

-- ---- items of a right side

abbrev Items : Type 0
Items = production.Item (production.SymbolText Id)

pub symbol_level : (s : SymbolText) → item_seen (item.Symbol s) ≡ Single (symbol_seen s)
symbol_level s = ap item_seen (sym (rolls-Symbol s)) ∙ fold-roll-Item Items item_level (open_item.Symbol s)

pub optional_level : (vs : Vec (Vec Item Global) Global) → item_seen (item.Optional vs) ≡ Option' (choices_seen item_seen vs.items)
optional_level vs = ap item_seen (sym (rolls-Optional vs)) ∙ fold-roll-Item Items item_level (open_item.Optional vs) ∙ ap (λ rs. Option' rs) (are_seen item_seen vs.items)

pub choice_level : (vs : Vec (Vec Item Global) Global) → item_seen (item.OneOf vs) ≡ Choice (choices_seen item_seen vs.items)
choice_level vs = ap item_seen (sym (item.rolls-OneOf vs)) ∙ fold-roll-Item Items item_level (open_item.OneOf vs) ∙ ap (λ rs. Choice rs) (are_seen item_seen vs.items)

-- ---- elements among the equations of a rule

abbrev Written : Type 0
Written = production.Item (production.EquationText Id)

pub equation_level : (e : EquationText) → element_seen (element.Equation e) ≡ Single (equation_seen e)
equation_level e = ap element_seen (sym (rolls-Equation e)) ∙ fold-roll-Element Written element_level (open_element.Equation e)

pub unknown_level : (name : Id) (line column : ℕ) → element_seen (element.Name name line column) ≡ Choice None'
unknown_level name line column = ap element_seen (sym (rolls-Name name line column)) ∙ fold-roll-Element Written element_level (open_element.Name name line column)

pub equations_level : (vs : Vec (Vec Element Global) Global) → element_seen (element.OneOf vs) ≡ Choice (choices_seen element_seen vs.items)
equations_level vs = ap element_seen (sym (element.rolls-OneOf vs)) ∙ fold-roll-Element Written element_level (open_element.OneOf vs) ∙ ap (λ rs. Choice rs) (are_seen element_seen vs.items)

-- ---- features

abbrev Features : Type 0
Features = production.Item (FeatureText Id)

pub equates_level : (e : EquationText) → feature_seen (element.Equation e) ≡ Single (Equates (equation_seen e))
equates_level e = ap feature_seen (sym (rolls-Equation e)) ∙ fold-roll-Element Features feature_level (open_element.Equation e)

pub name_level : (name : Id) (line column : ℕ) → feature_seen (element.Name name line column) ≡ Single (Names name (record { line = line; column = column }))
name_level name line column = ap feature_seen (sym (rolls-Name name line column)) ∙ fold-roll-Element Features feature_level (open_element.Name name line column)

pub features_level : (vs : Vec (Vec Element Global) Global) → feature_seen (element.OneOf vs) ≡ Choice (choices_seen feature_seen vs.items)
features_level vs = ap feature_seen (sym (element.rolls-OneOf vs)) ∙ fold-roll-Element Features feature_level (open_element.OneOf vs) ∙ ap (λ rs. Choice rs) (are_seen feature_seen vs.items)

-- ---- equations of a rule are features whose names are unknown

module _ (same : Id → Id → Bool) where
  abbrev out : Row (FeatureText Id) → Row (production.EquationText Id)
  out = written_out same []

  abbrev IsOut : Element → Type 0
  IsOut e = (r : Row (FeatureText Id)) → out (in_front (feature_seen e) r) ≡ in_front (element_seen e) (out r)

  abbrev Outs : Type 0
  Outs = (e : Element) × IsOut e

  abbrev whole : Outs → Element
  whole o = o.0

  one_alternative : (es : List Outs) → out (row (map feature_seen (map whole es))) ≡ row (map element_seen (map whole es))
  one_alternative [] = refl
  one_alternative (e ∷ es) = e.1 (row (map feature_seen (map whole es))) ∙ ap (in_front (element_seen e.0)) (one_alternative es)

  all_alternatives : (vs : List (Vec Outs Global)) → all_written_out same [] (choices_seen feature_seen (map (mapped whole) vs)) ≡ choices_seen element_seen (map (mapped whole) vs)
  all_alternatives [] = refl
  all_alternatives (v ∷ vs) =
      ap (λ r. Or r (all_written_out same [] (choices_seen feature_seen (map (mapped whole) vs)))) (one_alternative v.items)
      ∙ ap (λ rs. Or (row (map element_seen (map whole v.items))) rs) (all_alternatives vs)

  level_out : (x : Element-F Outs) → IsOut (roll-Element (map-Element Outs Element whole x))
  level_out (open_element.Equation e) = λ r.
      ap (λ i. out (in_front i r)) (fold-roll-Element Features feature_level (open_element.Equation e)) ∙ ap (λ i. in_front i (out r)) (sym (fold-roll-Element Written element_level (open_element.Equation e)))
  level_out (open_element.Name name line column) = λ r.
      ap (λ i. out (in_front i r)) (fold-roll-Element Features feature_level (open_element.Name name line column)) ∙ ap (λ i. in_front i (out r)) (sym (fold-roll-Element Written element_level (open_element.Name name line column)))
  level_out (open_element.OneOf vs) = λ r.
      let us = map (mapped whole) vs.items in
      ap (λ i. out (in_front i r)) (fold-roll-Element Features feature_level (map-Element Outs Element whole (open_element.OneOf vs)) ∙ ap (λ rs. Choice rs) (are_seen feature_seen us))
      ∙ ap (λ rs. OneOf rs (out r)) (all_alternatives vs.items)
      ∙ ap (λ i. in_front i (out r)) (sym (fold-roll-Element Written element_level (map-Element Outs Element whole (open_element.OneOf vs)) ∙ ap (λ rs. Choice rs) (are_seen element_seen us)))

  is_out : (e : Element) → IsOut e
  is_out = ind-Element IsOut (λ x y is. subst (λ z. IsOut (roll-Element z)) is (level_out y))

  pub equations_written : (es : List Element) → equations_seen es ≡ written_out same [] (features_seen es)
  equations_written [] = refl
  equations_written (e ∷ es) = ap (in_front (element_seen e)) (equations_written es) ∙ sym (is_out e (features_seen es))
