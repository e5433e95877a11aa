-- Features by words of two types that agree: what is read belongs together.
use Rattle.std.proofs.Common.{List, [], ◌∷◌, refl, sym, subst}
use Rattle.patr_grammar.proofs.Names.{Each, FeatureText, Item, SameFeatureText, SameRow, Words, WordsAgree, ◌>>=◌, begins_feature, elements, feature, star}
use Rattle.patr_model.specs.Stages.{Stage}
use Rattle.patr_model.proofs.SameParses.{SameItem, row_agrees, SameParse, SameReads, got, stops, bind_agrees, star_agrees}
use Rattle.patr_model.proofs.SameProductions.{begins_feature_agrees, feature_agrees}
use Rattle.patr_grammar.proofs.Features.{closed, elements_is}

module _ {T U W V : Type 0} (R : T → U → Type 0) (S : W → V → Type 0) (words : Words T W) (others : Words U V) (same : WordsAgree R S words others) (s : Stage) where
  closed_agrees : (xs : List (Item (FeatureText W))) (ys : List (Item (FeatureText V))) → Each (SameItem (SameFeatureText S)) xs ys → SameReads R S (SameRow (SameFeatureText S)) (closed words s xs) (closed others s ys)
  closed_agrees xs ys b [] [] e = got (row_agrees (SameFeatureText S) xs ys b) tt
  closed_agrees xs ys b [] (u ∷ us) e = absurd e
  closed_agrees xs ys b (t ∷ ts) [] e = absurd e
  closed_agrees xs ys b (t ∷ ts) (u ∷ us) e = stops refl e

  -- the features up to the end
  pub elements_agree : SameReads R S (SameRow (SameFeatureText S)) (elements words s) (elements others s)
  elements_agree ts us e =
      subst (λ p. SameParse R S (Each R) (SameRow (SameFeatureText S)) p (elements others s us)) (sym (elements_is words s ts))
      (subst (λ q. SameParse R S (Each R) (SameRow (SameFeatureText S)) (star (begins_feature words) (feature words s) ts >>= closed words s) q) (sym (elements_is others s us))
      (bind_agrees (star_agrees (begins_feature_agrees R S words others same) (feature_agrees R S words others same s) ts us e) closed_agrees))
