-- Features up to the end.
use Rattle.std.proofs.Common.{◌≡◌, ◌≤◌, ◌∙◌, List, [], ◌∷◌, ap, arith, length, refl}
use Rattle.patr_model.specs.declared.notation.What.TheVariants as what
use Rattle.patr_grammar.proofs.Names.{Expected, FeatureText, Got, Item, Parse, Reads, Row, Stops, Words, ◌>>=◌, begins_feature, elements, feature, row, star}
use Rattle.patr_model.specs.Stages.{Stage}

module _ {T W : Type 0} (words : Words T W) (s : Stage) where
  -- nothing may be left behind features
  abbrev pub closed : List (Item (FeatureText W)) → Reads T W (Row (FeatureText W))
  closed xs [] = Got (row xs) []
  closed xs (t ∷ ts) = Stops (Expected what.EquationOrName) (t ∷ ts)

  pub elements_is : (ts : List T) → elements words s ts ≡ (star (begins_feature words) (feature words s) ts >>= closed)
  unfolding elements
  elements_is ts = by (star (begins_feature words) (feature words s) ts) refl
    where
      by : (p : Parse T W (List T) (List (Item (FeatureText W)))) → star (begins_feature words) (feature words s) ts ≡ p → elements words s ts ≡ (star (begins_feature words) (feature words s) ts >>= closed)
      by (Got xs []) e = rw e refl
      by (Got xs (t ∷ us)) e = rw e refl
      by (Stops r us) e = rw e refl

  pub elements_left : (xs : List (Item (FeatureText W))) (ts rest : List T) → star (begins_feature words) (feature words s) ts ≡ Got xs rest → 1 ≤ length rest → elements words s ts ≡ Stops (Expected what.EquationOrName) rest
  elements_left xs ts [] e some = absurd (omega (arith, some))
  elements_left xs ts (t ∷ rest) e some = elements_is ts ∙ ap (λ p. p >>= closed) e

  pub elements_end : (xs : List (Item (FeatureText W))) (ts rest : List T) → star (begins_feature words) (feature words s) ts ≡ Got xs rest → length rest ≡ 0 → elements words s ts ≡ Got (row xs) rest
  elements_end xs ts [] e none = elements_is ts ∙ ap (λ p. p >>= closed) e
  elements_end xs ts (t ∷ rest) e none = absurd (omega (arith, none))
