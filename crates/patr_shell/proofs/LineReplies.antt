-- What a line comes to, by what it is.
use Rattle.std.proofs.Common.{◌≡◌, ℕ, ◌<◌, Bool, true, false, true≢false, cond, nat_eq, List, [], ◌∷◌, Option, Some, None, length, get_or, refl, sym, ap, ◌∙◌, subst, arith, eqb-true, eq-eqb, MatchBool, Bor, map, codes}
use Rattle.patr_shell.proofs.Names.{Decides, same_text, solved, lines_with_commands, built_command, some_inj, Spoken, grounds, state_seen, command_seen, HasFirstWord, AreQuit, IsAnswerToCommand, IsAnswerToWords, Reply}
use Rattle.std.specs.Option.{option_map, option_and_then}
use Rattle.std.specs.String.{string_bytes}
use Rattle.patr_shell.proofs.CommandLine.{not_same}
use Rattle.patr_model.specs.Session.{Numbering, AgreesWith, Grounds, State, Command, Limit, Features, Count, Show, Grammar, Make, Quit, IsSentenceReply, IsWordsReply, IsColonReply, begins_with_colon, switch, number_of, line}
use Rattle.patr_shell.specs.declared.state.State.{State as CodeState}
use Rattle.patr_shell.specs.declared.command.Command.{Command as CodeCommand}
use Rattle.patr_shell.specs.declared.command.Command.TheVariants.{Quit as CodeQuit}

-- whether the first word begins with a colon
colon_is : (w : List ℕ) (ws : List (List ℕ)) (r : Bool) → Decides r (get_or w 0 0 ≡ 58) → begins_with_colon (w ∷ ws) ≡ r
colon_is [] ws true d = let bad = d.0 refl in absurd (omega (arith, bad))
colon_is [] ws false d = refl
colon_is (b ∷ w) ws true d = eq-eqb b 58 (d.0 refl)
colon_is (b ∷ w) ws false d = go (nat_eq b 58) refl
  where
    go : (t : Bool) → nat_eq b 58 ≡ t → t ≡ false
    go true e = sym (d.1 (eqb-true b 58 e))
    go false e = refl

-- a text that begins with a colon
colon_text : (w cs : List ℕ) (ws : List (List ℕ)) → same_text w (58 ∷ cs) ≡ true → begins_with_colon (w ∷ ws) ≡ true
colon_text [] cs ws e = cc
colon_text (b ∷ bs) cs ws e = go (nat_eq b 58) refl
  where
    go : (t : Bool) → nat_eq b 58 ≡ t → t ≡ true
    go true q = refl
    go false q = cc

-- one of two commands is spelled
either : (c : Command) (t : Bool) (x y : Option Command) (b : Bool) → (t ≡ true → b ≡ true) → (option_and_then built_command y ≡ Some c → b ≡ true) → option_and_then built_command (cond t x y) ≡ Some c → b ≡ true
either c true x y b f g e = f refl
either c false x y b f g e = g e

-- commands begin with a colon
pub command_colon : (words : List (List ℕ)) (c : Command) → lines_with_commands.command words ≡ Some c → begins_with_colon words ≡ true
command_colon [] c e = cc
command_colon (w ∷ []) c e =
    let b = begins_with_colon (w ∷ []) in
    either c (same_text w (codes ":quit")) (Some Quit) _ b (colon_text w (codes "quit") [])
    (either c (same_text w (codes ":grammar")) (Some Grammar) None b (colon_text w (codes "grammar") []) (λ q. cc)) e
command_colon (w ∷ v ∷ []) c e =
    let b = begins_with_colon (w ∷ v ∷ []) in
    either c (same_text w (codes ":limit")) (option_map (λ n. Limit n) (number_of 200000 v)) _ b (colon_text w (codes "limit") (v ∷ []))
    (either c (same_text w (codes ":features")) (option_map (λ b. Features b) (switch v)) _ b (colon_text w (codes "features") (v ∷ []))
    (either c (same_text w (codes ":count")) (option_map (λ b. Count b) (switch v)) _ b (colon_text w (codes "count") (v ∷ []))
    (either c (same_text w (codes ":show")) (Some (Show v)) _ b (colon_text w (codes "show") (v ∷ []))
    (either c (same_text w (codes ":make")) (option_map (λ n. Make n) (number_of 256 v)) None b (colon_text w (codes "make") (v ∷ [])) (λ q. cc))))) e
command_colon (w ∷ v ∷ u ∷ ws) c e = cc

-- a reply to words, by whether the first begins with a colon
by_colon : (s : Grounds) (st : State) (words : List (List ℕ)) (text : List ℕ) (end : State) (b : Bool) → 0 < length words → begins_with_colon words ≡ b
    → MatchBool b (IsColonReply solved lines_with_commands s st (lines_with_commands.command words) text end) (IsSentenceReply solved s st words text × (end ≡ st))
    → IsWordsReply solved lines_with_commands s st words text end
by_colon s st [] text end b some is reply = absurd (omega (arith, some))
by_colon s st (w ∷ ws) text end b some is reply = subst
    (λ b. MatchBool b (IsColonReply solved lines_with_commands s st (lines_with_commands.command (w ∷ ws)) text end) (IsSentenceReply solved s st (w ∷ ws) text × (end ≡ st)))
    (sym is) reply

-- ---- what two words spell

-- what the session makes of what two words spell
abbrev spelled : List ℕ → List ℕ → Option Command
spelled name value = lines_with_commands.command (name ∷ value ∷ [])

-- a choice that is decided
abbrev passed : Bool → Option Command → Option Command → Option Command
passed t x y = option_and_then built_command (cond t x y)

pub two_others : (name value : List ℕ) → (name ≡ codes ":limit" → ⊥) → (name ≡ codes ":features" → ⊥) → (name ≡ codes ":count" → ⊥) → (name ≡ codes ":show" → ⊥) → spelled name value ≡ None
two_others name value a b c d =
    ap (λ t. passed t (option_map (λ n. Limit n) (number_of 200000 value)) (cond (same_text name (codes ":features")) (option_map (λ b. Features b) (switch value))
    (cond (same_text name (codes ":count")) (option_map (λ b. Count b) (switch value)) (cond (same_text name (codes ":show")) (Some (Show value)) (cond (same_text name (codes ":make")) (option_map (λ n. Make n) (number_of 256 value)) None))))) (not_same name (codes ":limit") a)
    ∙ (ap (λ t. passed t (option_map (λ b. Features b) (switch value)) (cond (same_text name (codes ":count")) (option_map (λ b. Count b) (switch value)) (cond (same_text name (codes ":show")) (Some (Show value)) (cond (same_text name (codes ":make")) (option_map (λ n. Make n) (number_of 256 value)) None)))) (not_same name (codes ":features") b)
    ∙ (ap (λ t. passed t (option_map (λ b. Count b) (switch value)) (cond (same_text name (codes ":show")) (Some (Show value)) (cond (same_text name (codes ":make")) (option_map (λ n. Make n) (number_of 256 value)) None))) (not_same name (codes ":count") c)
    ∙ (ap (λ t. passed t (Some (Show value)) (cond (same_text name (codes ":make")) (option_map (λ n. Make n) (number_of 256 value)) None)) (not_same name (codes ":show") d)
    ∙ later (same_text name (codes ":make")) (number_of 256 value))))
  where
    later : (u : Bool) (n : Option ℕ) → option_and_then built_command (cond u (option_map (λ n. Make n) n) None) ≡ None
    later true None = refl
    later true (Some n) = refl
    later false n = refl

pub one_other : (name : List ℕ) → (name ≡ codes ":quit" → ⊥) → lines_with_commands.command (name ∷ []) ≡ None
one_other name h = ap (λ t. passed t (Some Quit) (cond (same_text name (codes ":grammar")) (Some Grammar) None)) (not_same name (codes ":quit") h) ∙ later (same_text name (codes ":grammar"))
  where
    later : (t : Bool) → option_and_then built_command (cond t (Some Grammar) None) ≡ None
    later true = refl
    later false = refl

pub switch_others : (w : List ℕ) → (w ≡ codes "on" → ⊥) → (w ≡ codes "off" → ⊥) → switch w ≡ None
switch_others w a b =
    ap (λ t. cond t (Some true) (cond (same_text w (codes "off")) (Some false) None)) (not_same w (codes "on") a)
    ∙ ap (λ t. cond t (Some false) None) (not_same w (codes "off") b)

-- there are words, and whether the first begins with a colon
pub first_word : (words : List (Bor (List ℕ))) (d : Bor (List ℕ)) (r : Bool) → 0 < length words → Decides r (get_or (get_or words 0 d).now 0 0 ≡ 58) → HasFirstWord (map (λ (w : Bor (List ℕ)). w.now) words) r
first_word [] d r some is = absurd (omega (arith, some))
first_word (w ∷ ws) d r some is = (omega arith, colon_is w.now (map (λ (w : Bor (List ℕ)). w.now) ws) r is)

-- ---- answers

-- the command is the one that ends the session
is_quit : (c : CodeCommand) → command_seen c ≡ Quit → c ≡ CodeQuit
is_quit CodeQuit e = refl
is_quit _ e = cc

module _ (spoken : Spoken) (st : CodeState) where
  -- what an answer to words says where it is a reply that leaves the state as it is
  abbrev Replies : List (List ℕ) → List ℕ → Type 0
  Replies words text = (AreQuit words → ⊥)
      × ((N : Numbering) → AgreesWith N spoken.texts → IsWordsReply solved lines_with_commands (grounds N spoken) (state_seen st) words text (state_seen st))

  -- there are no words
  pub no_words : (words : List (List ℕ)) (text : List ℕ) → words ≡ [] → text ≡ [] → Replies words text
  no_words words text none is = subst (λ ws. Replies ws text) (sym none) (λ q. cc, λ N agrees. (is, refl))

  -- the words are a sentence
  pub sentence_answer : (words : List (List ℕ)) (text : List ℕ) (colon : Bool) → HasFirstWord words colon → colon ≡ false
      → ((N : Numbering) → AgreesWith N spoken.texts → IsSentenceReply solved (grounds N spoken) (state_seen st) words text) → Replies words text
  sentence_answer words text colon first is reply = (
    λ q. true≢false (sym (command_colon words (command_seen CodeQuit) q) ∙ (first.1 ∙ is)),
    λ N agrees. by_colon (grounds N spoken) (state_seen st) words text (state_seen st) false first.0 (first.1 ∙ is) (reply N agrees, refl),
  )

  -- they begin with a colon, and spell no command
  pub bad_answer : (words : List (List ℕ)) (text : List ℕ) (colon : Bool) → HasFirstWord words colon → colon ≡ true → None ≡ lines_with_commands.command words
      → text ≡ line (codes "error: bad command") → Replies words text
  bad_answer words text colon first begins none is = (
    λ q. let e : None ≡ Some Quit = none ∙ q in cc,
    λ N agrees. by_colon (grounds N spoken) (state_seen st) words text (state_seen st) true first.0 (first.1 ∙ begins)
        (subst (λ o. IsColonReply solved lines_with_commands (grounds N spoken) (state_seen st) o text (state_seen st)) none (is, refl)),
  )

  -- they spell a command
  pub command_answers : (words : List (List ℕ)) (c : CodeCommand) (a : Option Reply) → Some (command_seen c) ≡ lines_with_commands.command words → IsAnswerToCommand spoken st c a → IsAnswerToWords spoken st words a
  command_answers words c None e h = sym e ∙ ap (λ x. Some (command_seen x)) h
  command_answers [] c (Some r) e h = cc
  command_answers (w ∷ ws) c (Some r) e h = (
    λ q. h.0 (is_quit c (some_inj (command_seen c) Quit (e ∙ q))),
    λ N agrees. by_colon (grounds N spoken) (state_seen st) (w ∷ ws) (string_bytes r.text) (state_seen r.state) true (omega arith) (command_colon (w ∷ ws) (command_seen c) (sym e))
        (subst (λ o. IsColonReply solved lines_with_commands (grounds N spoken) (state_seen st) o (string_bytes r.text) (state_seen r.state)) e (h.1 N agrees)),
  )
