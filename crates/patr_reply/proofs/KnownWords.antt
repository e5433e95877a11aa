-- Words by the table, and by a numbering that agrees with it.
use Rattle.std.proofs.Common.{◌≡◌, ℕ, ◌<◌, ◌≤◌, Bool, List, [], ◌∷◌, ◌++◌, length, map, Some, slice_get, option_and_then, codes, decimal, refl, sym, ap, ◌∙◌, subst}
use Rattle.patr_reply.proofs.Names.{AgreesWith, AllByRecursion, AreHeldBy, AreNumbers, Extends, Found, HasMoreThan, IsFirstUnknown, IsKnown, IsParsed, IsSentenceReply, ListsAll, Numbering, Stored, all_at, analyses, entries_of, entry_seen, entry_variant, entry_variants, get_there, grounds, keys, line, meant, number, option_map, rules_of, same, slice_get-map, solved, some_inj, state_of, too_many, unknown}
use Rattle.patr_model.specs.Session as session
use Rattle.patr_text.specs.Texts.{first_texts}
use Rattle.patr_lexicon.specs.declared.lexicon.Entry.{Entry}
use Rattle.patr_reply.proofs.Holding.{entry_from, entry_below}
use Rattle.patr_reply.proofs.Listing.{cat_is}

-- the numbers of words by the table are those by the numbering
pub numbers_are : (names : Numbering) (table : List (List ℕ)) → AgreesWith names table → (words : List (List ℕ)) (ws : List ℕ) → AreNumbers table words ws → ws ≡ map names.number words
numbers_are names table agrees [] [] h = refl
numbers_are names table agrees [] (n ∷ ws) h = absurd h
numbers_are names table agrees (w ∷ words) [] h = absurd h
numbers_are names table agrees (w ∷ words) (n ∷ ws) h =
    ap (λ k. k ∷ ws) (sym (agrees n w h.0)) ∙ ap (λ l. names.number w ∷ l) (numbers_are names table agrees words ws h.1)

module _ (s : Stored) (table : List (List ℕ)) (names : Numbering) (agrees : AgreesWith names table) (held : AreHeldBy (length table) s) where
  pub known : (w : List ℕ) → IsKnown s table w → session.IsKnown (grounds names s) w
  known w h =
      let x = h.1 in
      let variants_of = entry_variants number same keys (meant s.grammar.templates.items) in
      let there : slice_get (rules_of s).entries h.0 ≡ Some (variants_of (entry_seen x)) =
      slice_get-map variants_of (entries_of s.lexicon) h.0 ∙ ap (option_map variants_of) (slice_get-map entry_seen s.lexicon h.0 ∙ ap (option_map entry_seen) h.2) in
      let v = get_there (variants_of (entry_seen x)) 0 (all_at (λ vs. 0 < length vs) (rules_of s).entries held.variants h.0 (variants_of (entry_seen x)) there) in
      let at : entry_variant (rules_of s) h.0 0 ≡ Some v.0 = ap (option_and_then (λ vs. slice_get vs 0)) there ∙ v.1 in
      let from = entry_from s h.0 0 v.0 at in
      let one : from.0 ≡ x = some_inj from.0 x (sym from.1 ∙ h.2) in
      (h.0, 0, v.0, at, from.2.1 ∙ ap (λ (y : Entry). y.word.0) one ∙ sym (agrees x.word.0 w h.3))

  all_known : (words : List (List ℕ)) → AllByRecursion (IsKnown s table) words → AllByRecursion (session.IsKnown (grounds names s)) words
  all_known [] h = tt
  all_known (w ∷ words) h = (known w h.0, all_known words h.1)

  pub known_back : (w : List ℕ) → session.IsKnown (grounds names s) w → IsKnown s table w
  known_back w h =
      let x = entry_from s h.0 h.1 h.2 h.3 in
      let t = get_there table x.0.word.0 (entry_below (length table) s held h.0 x.0 x.1).1 in
      let number_is : names.number t.0 ≡ names.number w = agrees x.0.word.0 t.0 t.1 ∙ (sym x.2.1 ∙ h.4) in
      let same : t.0 ≡ w = sym (names.back t.0) ∙ (ap names.text number_is ∙ names.back w) in
      (h.0, x.0, x.1, t.1 ∙ ap (λ u. Some u) same)

  -- the reply to a sentence of which one word has no entry
  pub of_unknown : (words : List (List ℕ)) (position limit : ℕ) (features count : Bool) (u : IsFirstUnknown s table words position) (text : List ℕ) → length words ≤ 256
      → text ≡ line (codes "error: unknown word at " ++ decimal position ++ codes ": " ++ u.word) → IsSentenceReply solved (grounds names s) (state_of limit features count) words text
  of_unknown words position limit features count u text short is =
      unknown position u.word short (u.place, u.position_is, u.here, λ h. u.unknown (known_back u.word h), λ j w b at. known w (u.before j w b at)) is

  module _ (first : Extends first_texts table) (words : List (List ℕ)) (limit : ℕ) (features count : Bool) (text : List ℕ) where
    abbrev Many : ℕ → List ℕ → Type 0
    Many cat ws = HasMoreThan (solved (rules_of s) cat) (rules_of s) ws limit

    -- the reply to a sentence whose chart is too large
    pub of_many : (ws : List ℕ) → length words ≤ 256 → AllByRecursion (IsKnown s table) words → AreNumbers table words ws → HasMoreThan (solved (rules_of s) keys.cat) (rules_of s) ws limit
        → text ≡ line (codes "error: more than " ++ decimal limit ++ codes " edges") → IsSentenceReply solved (grounds names s) (state_of limit features count) words text
    of_many ws short all are more is =
        too_many short (all_known words all) (subst (λ l. Many (names.number (codes "cat")) l) (numbers_are names table agrees words ws are) (subst (λ c. Many c ws) (sym (cat_is names table first agrees)) more)) is

    -- the reply to a sentence that is parsed
    pub of_parsed : (p : Found) (h : IsParsed s table words limit p) → ListsAll solved (grounds names s) (state_of limit features count) h.numbers text
        → IsSentenceReply solved (grounds names s) (state_of limit features count) words text
    of_parsed p h all =
        let ws = numbers_are names table agrees words h.numbers h.are in
        analyses h.short (all_known words h.known)
        (λ more. h.sound.few (subst (λ c. Many c h.numbers) (cat_is names table first agrees) (subst (λ l. Many (names.number (codes "cat")) l) (sym ws) more)))
        (subst (λ l. ListsAll solved (grounds names s) (state_of limit features count) l text) ws all)
