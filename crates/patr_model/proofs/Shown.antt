-- The reply of `:show` is one, under each numbering.
use Rattle.std.proofs.Common.{◌≡◌, ℕ, suc, List, [], ◌∷◌, ◌++◌, length, decimal, codes, refl, sym, ap, ◌∙◌, subst}
use Rattle.std.specs.List.{AllByRecursion}
use Rattle.patr_lists.proofs.Alls.{all_in}
use Rattle.patr_model.specs.Derivation.{Derivation, IsComplete, entry_variant}
use Rattle.patr_model.specs.Session.{Grounds, State, Command, Limit, Features, Count, Show, Grammar, Make, Quit, line}
use Rattle.patr_model.specs.Renaming.{SameEntry, SameGrounds}
use Rattle.patr_model.specs.Showing.{IsShown, AreShown, ListsValues, IsShowReply, unknown, shown, grammar_replies}
use Rattle.patr_model.proofs.Canonical.{least_texts}
use Rattle.patr_model.proofs.Renaming.{both_some, entry_same, one_to_one, swap_grounds}
use Rattle.patr_model.proofs.RenamedChart.{known_same}
use Rattle.patr_model.proofs.RenumberedEdges.{least_text_same, solvable_same}
use Rattle.patr_model.proofs.Replies.{same_rising}

-- ---- one reply

module _ (s : Grounds) where
  same_shown : (w : List ℕ) (ts us : List Derivation) → AreShown s w ts → AreShown s w us → ts ≡ us
  same_shown w ts us a b = same_rising ts us a.rises b.rises (λ t h. b.every t (all_in _ ts t a.each h)) (λ t h. a.every t (all_in _ us t b.each h))

  same_values : (n : ℕ) (ts : List Derivation) (x y : List ℕ) → ListsValues s n ts x → ListsValues s n ts y → x ≡ y
  same_values n [] x y a b = a ∙ sym b
  same_values n (t ∷ ts) x y a b =
      a.4 ∙ (ap (λ v. line (decimal n ++ codes " " ++ v) ++ a.1) (least_texts s t a.0 b.0 a.2 b.2)
      ∙ (ap (λ r. line (decimal n ++ codes " " ++ b.0) ++ r) (same_values (suc n) ts a.1 b.1 a.3 b.3) ∙ sym b.4))

  one_show : (w x y : List ℕ) → IsShowReply s w x → IsShowReply s w y → x ≡ y
  one_show w x y (unknown n e) (unknown n' f) = e ∙ sym f
  one_show w x y (unknown n e) (shown k us b a l f) = absurd (n k)
  one_show w x y (shown k ts a r l e) (unknown n f) = absurd (n k)
  one_show w x y (shown k ts a r l e) (shown k' us b r' l' f) =
      let same = same_shown w ts us r r' in
      e ∙ (ap (λ vs. line (codes "entries " ++ decimal (length vs)) ++ a) same
      ∙ (ap (λ v. line (codes "entries " ++ decimal (length us)) ++ v) (same_values 1 us a b (subst (λ vs. ListsValues s 1 vs a) same l) l') ∙ sym f))

  -- a command that speaks of the grammar has one reply
  pub one_more : (st : State) (c : Command) (x y : List ℕ) → grammar_replies s st c x → grammar_replies s st c y → x ≡ y
  one_more st (Limit n) x y h k = absurd h
  one_more st (Features b) x y h k = absurd h
  one_more st (Count b) x y h k = absurd h
  one_more st (Show w) x y h k = one_show w x y h k
  one_more st Grammar x y h k = absurd h
  one_more st (Make n) x y h k = absurd h
  one_more st Quit x y h k = absurd h

-- ---- under another numbering

module _ (s s' : Grounds) (same : SameGrounds s s') where
  is_shown : (w : List ℕ) (t : Derivation) → IsShown s w t → IsShown s' w t
  is_shown w t h =
      let x = both_some (SameEntry s.names s'.names) (entry_variant s.rules h.entry h.number) (entry_variant s'.rules h.entry h.number) h.variant
      (entry_same s.names s'.names s.rules s'.rules same.rules h.entry h.number) h.is in
      record {
        entry = h.entry;
        number = h.number;
        leaf = h.leaf;
        variant = x.0;
        is = x.1;
        word = one_to_one s.names s'.names h.variant.word x.0.word (s.names.number w) (s'.names.number w) x.2.word (w, refl, refl) h.word;
        solvable = solvable_same s.names s'.names s.rules s'.rules same.rules (swap_grounds s s' same).rules t h.solvable;
      }

  all_shown : (w : List ℕ) (ts : List Derivation) → AllByRecursion (IsShown s w) ts → AllByRecursion (IsShown s' w) ts
  all_shown w [] h = tt
  all_shown w (t ∷ ts) h = (is_shown w t h.0, all_shown w ts h.1)

  values : (w : List ℕ) (n : ℕ) (ts : List Derivation) (x : List ℕ) → AllByRecursion (IsShown s w) ts → ListsValues s n ts x → ListsValues s' n ts x
  values w n [] x each h = h
  values w n (t ∷ ts) x each h =
      (h.0, h.1, least_text_same s s' same t h.0 (subst (IsComplete s.rules) (sym each.0.leaf) tt) h.2, values w (suc n) ts h.1 each.1 h.3, h.4)

-- the reply to a command that speaks of the grammar is the same
pub more_same : (s s' : Grounds) → SameGrounds s s' → (st : State) (c : Command) (x : List ℕ) → grammar_replies s st c x → grammar_replies s' st c x
more_same s s' same st (Limit n) x h = h
more_same s s' same st (Features b) x h = h
more_same s s' same st (Count b) x h = h
more_same s s' same st (Show w) x (unknown n e) = unknown (λ k. n (known_same s' s (swap_grounds s s' same) w k)) e
more_same s s' same st (Show w) x (shown k ts b r l e) = shown (known_same s s' same w k) ts b
    (record {
      rises = r.rises;
      each = all_shown s s' same w ts r.each;
      every = λ t h. r.every t (is_shown s' s (swap_grounds s s' same) w t h);
    })
    (values s s' same w 1 ts b r.each l) e
more_same s s' same st Grammar x h = h
more_same s s' same st (Make n) x h = h
more_same s s' same st Quit x h = h
