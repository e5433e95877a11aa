-- One more edge is looked at.
use Rattle.std.proofs.Common.{◌≡◌, ℕ, zero, suc, ◌+◌, ◌<◌, Bool, true, false, cond, List, [], ◌∷◌, ◌++◌, length, take, Some, slice_get, sym, ap, ◌∙◌, arith, append-nil}
use Rattle.std.proofs.lemmas.List.{length-take-le}
use Rattle.std.proofs.lemmas.Option.{slice_get_within}
use Rattle.patr_lists.proofs.Tables.{places_append}
use Rattle.patr_lists.specs.Numbers.{places}
use Rattle.patr_parse.proofs.Names.{some_inj, Edge, AreEdges}

take_next : (es : List Edge) (n : ℕ) (e : Edge) → slice_get es n ≡ Some e → take (n + 1) es ≡ take n es ++ e ∷ []
take_next [] n e h = cc
take_next (x ∷ es) zero e h = ap (λ y. y ∷ []) (some_inj x e h)
take_next (x ∷ es) (suc n) e h = let f : suc n + 1 ≡ suc (n + 1) = omega arith in ap (λ k. take k (x ∷ es)) f ∙ ap (λ l. x ∷ l) (take_next es n e h)

module _ (T : Edge → Bool) (es : List Edge) (n : ℕ) (e : Edge) (at : slice_get es n ≡ Some e) where
  places_next : places T 0 (take (n + 1) es) ≡ places T 0 (take n es) ++ cond (T e) (n ∷ []) []
  places_next =
      let long : 0 + length (take n es) ≡ n = omega (arith, length-take-le n es (omega (arith, slice_get_within es n e at))) in
      ap (places T 0) (take_next es n e at) ∙ (places_append T 0 (take n es) (e ∷ []) ∙ ap (λ k. places T 0 (take n es) ++ cond (T e) (k ∷ []) []) long)

  pub found_more : (ns : List ℕ) → ns ≡ places T 0 (take n es) → T e ≡ true → ns ++ n ∷ [] ≡ places T 0 (take (n + 1) es)
  found_more ns is t = ap (λ l. l ++ n ∷ []) is ∙ sym (places_next ∙ ap (λ b. places T 0 (take n es) ++ cond b (n ∷ []) []) t)

  pub found_same : (ns : List ℕ) → ns ≡ places T 0 (take n es) → T e ≡ false → ns ≡ places T 0 (take (n + 1) es)
  found_same ns is t = is ∙ (sym (append-nil (places T 0 (take n es))) ∙ sym (places_next ∙ ap (λ b. places T 0 (take n es) ++ cond b (n ∷ []) []) t))

-- edges of which one was looked at, or none is there
pub edges_all : (words : ℕ) (es : List Edge) (n : ℕ) → n ≡ length es → (0 < n → AreEdges words es) → AreEdges words es
edges_all words [] n is h = λ k e at. cc
edges_all words (x ∷ es) n is h = h (omega (arith, is))
