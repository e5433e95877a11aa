-- Features with what each name stands for in its place, one level at a time, and their sizes.
use Rattle.std.proofs.Common.{◌≡◌, ℕ, ◌+◌, ◌*◌, ◌<◌, List, [], ◌∷◌, ◌++◌, map, take, length, get_or, max, Vec, Global, refl, sym, ap, ◌∙◌}
use Rattle.std.proofs.lemmas.List.{map_push, take_more}
use Rattle.patr_model.specs.Grammar.{Row, Rows, Or, single, variants, variants_of}
use Rattle.patr_model.specs.Productions.{Item, Single, Choice, Option', EquationText, FeatureText, Equates, Names, in_front, row, rows}
use Rattle.patr_model.specs.Build.{Meaning, all_written_out, longest, longest_of, written_out}
use Rattle.patr_text.specs.declared.symbols.Id.{Id}
use Rattle.patr_grammar.specs.declared.grammar.EquationText as code_equation
use Rattle.patr_grammar.specs.declared.grammar.Element.{Element}
use Rattle.patr_grammar.specs.declared.grammar.Element.TheVariants as element
use Rattle.patr_grammar.specs.Levels.{equation_seen, feature_seen, features_seen}
use Rattle.patr_grammar.proofs.Levels.{choices_seen, equates_level, name_level, features_level}
use Rattle.patr_expand.specs.declared.size.Size.{Size}
use Rattle.patr_expand.specs.Seen.{same}
use Rattle.patr_expand.specs.Sizes.{IsRowSize, IsSize, AreSizeOf, capped, item_longest, item_variants}
use Rattle.patr_expand.specs.Written.{choice_written, element_written, named, written, written_item}
use Rattle.patr_expand.proofs.Rows.{row_length, row_longest, rows_length, rows_longest}

-- one more of a list that is mapped
pub map_more : {A B : Type 0} (f : A → B) (xs : List A) (i : ℕ) (x : A) → i < length xs → get_or xs i x ≡ x → map f (take (i + 1) xs) ≡ map f (take i xs) ++ f x ∷ []
map_more f xs i x h e = ap (map f) (take_more xs i x h ∙ ap (λ y. take i xs ++ y ∷ []) e) ∙ map_push f (take i xs) x

module _ (ms : List (Meaning Id)) where
  front_written : (x : Item (FeatureText Id)) (r : Row (FeatureText Id)) → written_out same ms (in_front x r) ≡ in_front (written_item ms x) (written_out same ms r)
  front_written (Single (Equates e)) r = refl
  front_written (Single (Names w p)) r = refl
  front_written (Choice rs) r = refl
  front_written (Option' rs) r = refl

  pub row_written : (es : List Element) → written_out same ms (features_seen es) ≡ written ms es
  row_written [] = refl
  row_written (e ∷ es) = front_written (feature_seen e) (features_seen es) ∙ ap (in_front (element_written ms e)) (row_written es)

  rows_written : (vs : List (Vec Element Global)) → all_written_out same ms (choices_seen feature_seen vs) ≡ choice_written ms vs
  rows_written [] = refl
  rows_written (v ∷ vs) = ap (λ r. Or r (all_written_out same ms (choices_seen feature_seen vs))) (row_written v.items) ∙ ap (λ rs. Or (written ms v.items) rs) (rows_written vs)

  pub equation_written : (e : code_equation.EquationText) → element_written ms (element.Equation e) ≡ Single (equation_seen e)
  equation_written e = ap (written_item ms) (equates_level e)

  pub name_written : (w : Id) (line column : ℕ) → element_written ms (element.Name w line column) ≡ named ms w
  name_written w line column = ap (written_item ms) (name_level w line column)

  pub choice_is : (vs : Vec (Vec Element Global) Global) → element_written ms (element.OneOf vs) ≡ Choice (choice_written ms vs.items)
  choice_is vs = ap (written_item ms) (features_level vs) ∙ ap (λ rs. Choice rs) (rows_written vs.items)

-- ---- sizes, with one more at the end

pub row_sized : {X : Type 0} (xs : List (Item X)) (x : Item X) (s : Size) → IsSize (length (variants single (row xs)) * length (item_variants x)) (longest (λ e. 1) (row xs) + item_longest x) s → IsRowSize (row (xs ++ x ∷ [])) s
row_sized xs x s h = record { variants = h.variants ∙ ap capped (sym (row_length xs x)); equations = h.equations ∙ ap capped (sym (row_longest xs x)) }

pub rows_sized : {X : Type 0} (rs : List (Row X)) (r : Row X) (s : Size) → IsSize (length (variants_of single (rows rs)) + length (variants single r)) (max (longest_of (λ e. 1) (rows rs)) (longest (λ e. 1) r)) s → AreSizeOf (rows (rs ++ r ∷ [])) s
rows_sized rs r s h = record { variants = h.variants ∙ ap capped (sym (rows_length rs r)); equations = h.equations ∙ ap capped (sym (rows_longest rs r)) }
