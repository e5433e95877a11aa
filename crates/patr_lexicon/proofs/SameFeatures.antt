-- Features do not depend on where their tokens start.
use Rattle.std.proofs.Common.{◌≡◌, ℕ, List, [], ◌∷◌, map, Option, Some, None, Ok, Err, refl, sym, ap, ◌∙◌, subst}
use Rattle.patr_model.specs.Grammar.{Row, Rows, Done, One, OneOf, Optional, None', Or}
use Rattle.patr_lexicon.proofs.Names.{Each, Both, SameRow, SameRows', Place, Token, by_text, key_of, without_index, Item, PathText, TermText, AtomText, OfPath, EquationText, FeatureText, Equates, Names, begins_feature, feature, elements, BadFeatures, as_features, SamePathText, SameTermText, SameEquationText, SameFeatureText, SameRefusal, WordsAgree, anywhere}
use Rattle.patr_model.specs.Bytes.{same_text}
use Rattle.patr_model.specs.Parsing.{Refusal, Expected, NotAConstituent, TwiceNamed, PathTooLong, TooManySymbols, TooManyPaths, TooDeep, LaterForm, Parse, Got, Stops, ◌>>=◌, star}
use Rattle.patr_model.specs.Stages.{Stage}
use Rattle.patr_model.specs.GrammarText.{place_of}
use Rattle.patr_model.proofs.SameParses.{SameItem, row_agrees, SameParse, SameReads, got, stops, bind_agrees, star_agrees}
use Rattle.patr_model.proofs.SameProductions.{begins_feature_agrees, feature_agrees}
use Rattle.patr_grammar.proofs.Features.{closed, elements_is}

-- ---- what has equal parts is equal

each_is : {X : Type 0} (B : X → X → Type 0) → ((x y : X) → B x y → x ≡ y) → (xs ys : List X) → Each B xs ys → xs ≡ ys
each_is B f [] [] h = refl
each_is B f (x ∷ xs) (y ∷ ys) h = ap (λ z. z ∷ xs) (f x y h.0) ∙ ap (λ zs. y ∷ zs) (each_is B f xs ys h.1)
each_is B f _ _ h = absurd h

both_is : {X : Type 0} (a b : Option X) → Both (λ x y. x ≡ y) a b → a ≡ b
both_is None None h = refl
both_is (Some x) (Some y) h = ap (λ z. Some z) h
both_is _ _ h = absurd h

mutual
  row_is : {X : Type 0} (B : X → X → Type 0) → ((x y : X) → B x y → x ≡ y) → (r s : Row X) → SameRow B r s → r ≡ s
  row_is B f Done Done h = refl
  row_is B f (One x r) (One y s) h = ap (λ z. One z r) (f x y h.0) ∙ ap (One y) (row_is B f r s h.1)
  row_is B f (OneOf rs r) (OneOf ss s) h = ap (λ z. OneOf z r) (rows_is B f rs ss h.0) ∙ ap (OneOf ss) (row_is B f r s h.1)
  row_is B f (Optional rs r) (Optional ss s) h = ap (λ z. Optional z r) (rows_is B f rs ss h.0) ∙ ap (Optional ss) (row_is B f r s h.1)
  row_is B f _ _ h = absurd h

  rows_is : {X : Type 0} (B : X → X → Type 0) → ((x y : X) → B x y → x ≡ y) → (rs ss : Rows X) → SameRows' B rs ss → rs ≡ ss
  rows_is B f None' None' h = refl
  rows_is B f (Or r rs) (Or s ss) h = ap (λ z. Or z rs) (row_is B f r s h.0) ∙ ap (Or s) (rows_is B f rs ss h.1)
  rows_is B f _ _ h = absurd h

module _ {W : Type 0} where
  abbrev Same : W → W → Type 0
  Same a b = a ≡ b

  path_is : (p q : PathText W) → SamePathText Same p q → p ≡ q
  path_is p q h = ap (λ a. record { head = a; attributes = p.attributes }) (both_is p.head q.head h.head) ∙ ap (λ ws. record { head = q.head; attributes = ws }) (each_is Same (λ x y e. e) p.attributes q.attributes h.attributes)

  term_is : (t u : TermText W) → SameTermText Same t u → t ≡ u
  term_is (AtomText a) (AtomText b) h = ap (λ z. AtomText z) h
  term_is (OfPath p) (OfPath q) h = ap (λ z. OfPath z) (path_is p q h)
  term_is _ _ h = absurd h

  equation_is : (e f : EquationText W) → SameEquationText Same e f → e ≡ f
  equation_is e f h = ap (λ p. record { left = p; right = e.right }) (path_is e.left f.left h.left) ∙ ap (λ t. record { left = f.left; right = t }) (term_is e.right f.right h.right)

  feature_is : (x y : FeatureText W) → SameFeatureText Same x y → x ≡ y
  feature_is (Equates e) (Equates f) h = ap (λ z. Equates z) (equation_is e f h)
  feature_is (Names a p) (Names b q) h = ap (λ z. Names z p) h.0 ∙ ap (Names b) h.1
  feature_is _ _ h = absurd h

  refusal_is : (r s : Refusal W) → SameRefusal Same r s → r ≡ s
  refusal_is (Expected a) (Expected b) h = ap (λ z. Expected z) h
  refusal_is NotAConstituent NotAConstituent h = refl
  refusal_is (TwiceNamed a) (TwiceNamed b) h = ap (λ z. TwiceNamed z) h
  refusal_is PathTooLong PathTooLong h = refl
  refusal_is TooManySymbols TooManySymbols h = refl
  refusal_is TooManyPaths TooManyPaths h = refl
  refusal_is TooDeep TooDeep h = refl
  refusal_is LaterForm LaterForm h = refl
  refusal_is _ _ h = absurd h

-- ---- tokens that are the same but for their starts

abbrev Alike : Token → Token → Type 0
Alike t u = anywhere t ≡ anywhere u

are_alike : (ts us : List Token) → map anywhere ts ≡ map anywhere us → Each Alike ts us
are_alike [] [] e = tt
are_alike (t ∷ ts) (u ∷ us) e = (cc, are_alike ts us cc)
are_alike _ _ e = absurd cc

words_alike : WordsAgree Alike Same by_text by_text
words_alike = record {
  kind = λ t u e. ap (λ (t : Token). t.kind) e;
  key = λ t u e. ap (λ (t : Token). key_of t.text) e;
  word = λ t u e. ap (λ (t : Token). t.text) e;
  category = λ t u e. ap (λ (t : Token). without_index t.text) e;
  place = λ t u e. ap (λ (t : Token). t.place) e;
  same = λ a b c d e f. ap (λ x. same_text x b) e ∙ ap (same_text c) f;
}

module _ (s : Stage) where
  closed_alike : (xs ys : List (Item (FeatureText (List ℕ)))) → Each (SameItem (SameFeatureText Same)) xs ys
      → SameReads Alike Same (SameRow (SameFeatureText Same)) (closed by_text s xs) (closed by_text s ys)
  closed_alike xs ys b [] [] e = got (row_agrees (SameFeatureText Same) xs ys b) tt
  closed_alike xs ys b (t ∷ ts) (u ∷ us) e = stops refl e
  closed_alike xs ys b _ _ e = absurd e

  elements_alike : SameReads Alike Same (SameRow (SameFeatureText Same)) (elements by_text s) (elements by_text s)
  elements_alike ts us e =
      subst (λ p. SameParse Alike Same (Each Alike) (SameRow (SameFeatureText Same)) p (elements by_text s us)) (sym (elements_is by_text s ts))
      (subst (λ q. SameParse Alike Same (Each Alike) (SameRow (SameFeatureText Same)) (star (begins_feature by_text) (feature by_text s) ts >>= closed by_text s) q) (sym (elements_is by_text s us))
      (bind_agrees (star_agrees (begins_feature_agrees Alike Same by_text by_text words_alike) (feature_agrees Alike Same by_text by_text words_alike s) ts us e) closed_alike))

  abbrev Features : Type 0
  Features = Parse Token (List ℕ) (List Token) (Row (FeatureText (List ℕ)))

  place_alike : (end : Place) (ts us : List Token) → Each Alike ts us → place_of end ts ≡ place_of end us
  place_alike end [] [] h = refl
  place_alike end (t ∷ ts) (u ∷ us) h = ap (λ (t : Token). t.place) h.0
  place_alike end _ _ h = absurd h

  read_alike : (end : Place) (p q : Features) → SameParse Alike Same (Each Alike) (SameRow (SameFeatureText Same)) p q → as_features end p ≡ as_features end q
  read_alike end (Got x ts) (Got y us) h = ap (λ z. Ok z) (row_is (SameFeatureText Same) feature_is x y h.together.0)
  read_alike end (Stops r ts) (Stops r' us) h = ap (λ z. Err (BadFeatures z (place_of end ts))) (refusal_is r r' h.together.0) ∙ ap (λ z. Err (BadFeatures r' z)) (place_alike end ts us h.together.1)
  read_alike end _ _ h = absurd h.together

  -- the features that tokens stand for, wherever these start
  pub features_alike : (end : Place) (ts us : List Token) → map anywhere ts ≡ map anywhere us → as_features end (elements by_text s ts) ≡ as_features end (elements by_text s us)
  features_alike end ts us e = read_alike end (elements by_text s ts) (elements by_text s us) (elements_alike ts us (are_alike ts us e))
