-- Sessions have the same replies where sentences do, and the commands that speak of the grammar.
use Rattle.std.proofs.Common.{◌≡◌, inl, inr, ℕ, Bool, true, false, List, [], ◌∷◌, Option, Some, None, MatchBool}
use Rattle.patr_model.specs.Session.{Grounds, State, Judge, LineForms, Command, Limit, Features, Count, Show, Grammar, Make, Quit, begins_with_colon, words_of, IsSentenceReply, IsColonReply, IsWordsReply, IsLineReply, too_long, not_text, spelled, Replied}

module _ (J K : Judge) (s s' : Grounds) (sentence : (st : State) (ws : List (List ℕ)) (text : List ℕ) → IsSentenceReply J s st ws text → IsSentenceReply K s' st ws text)
    (forms : LineForms) (more : (st : State) (c : Command) (text : List ℕ) → forms.more s st c text → forms.more s' st c text) where
  colon_carried : (st : State) (o : Option Command) (text : List ℕ) (st' : State) → IsColonReply J forms s st o text st' → IsColonReply K forms s' st o text st'
  colon_carried st None text st' c = c
  colon_carried st (Some (Limit n)) text st' c = c
  colon_carried st (Some (Features b)) text st' c = c
  colon_carried st (Some (Count b)) text st' c = c
  colon_carried st (Some (Show w)) text st' c = (more st (Show w) text c.0, c.1)
  colon_carried st (Some Grammar) text st' c = (more st Grammar text c.0, c.1)
  colon_carried st (Some (Make n)) text st' c = (more st (Make n) text c.0, c.1)
  colon_carried st (Some Quit) text st' c = c

  words_carried : (st : State) (ws : List (List ℕ)) (text : List ℕ) (st' : State) → IsWordsReply J forms s st ws text st' → IsWordsReply K forms s' st ws text st'
  words_carried st [] text st' r = r
  words_carried st (w ∷ ws) text st' r = go (begins_with_colon (w ∷ ws)) r
    where
      go : (b : Bool) → MatchBool b (IsColonReply J forms s st (forms.command (w ∷ ws)) text st') (IsSentenceReply J s st (w ∷ ws) text × (st' ≡ st))
          → MatchBool b (IsColonReply K forms s' st (forms.command (w ∷ ws)) text st') (IsSentenceReply K s' st (w ∷ ws) text × (st' ≡ st))
      go true c = colon_carried st (forms.command (w ∷ ws)) text st' c
      go false c = (sentence st (w ∷ ws) text c.0, c.1)

  line_carried : (st : State) (l text : List ℕ) (st' : State) → IsLineReply J forms s st l text st' → IsLineReply K forms s' st l text st'
  line_carried st l text st' (too_long h e q) = too_long h e q
  line_carried st l text st' (not_text h u e q) = not_text h u e q
  line_carried st l text st' (spelled h u r) = spelled h u (words_carried st (words_of l) text st' r)

  pub lines_replied : (st : State) (ls : List (List ℕ)) (text : List ℕ) (quit : Bool) → Replied J forms s st ls text quit → Replied K forms s' st ls text quit
  lines_replied st [] text quit r = r
  lines_replied st (l ∷ ls) text quit (inl q) = inl q
  lines_replied st (l ∷ ls) text quit (inr r) = inr (r.0, r.1, r.2, r.3, line_carried st l r.1 r.2 r.4, lines_replied r.2 ls r.3 quit r.5, r.6)
