-- Where the words, the files and the input are as they should be and no device fails, a run is done, or memory was short.
use Rattle.std.proofs.Common.{◌≡◌, ◌⊎◌, ◌≤◌, ◌<◌, ◌^◌, ℕ, List, [], ◌∷◌, Option, Some, None, IfSome, Bool, true, false, true≢false, length, take, refl, sym, ◌∙◌, ap, subst, inl, inr, arith}
use Rattle.patr_shell.proofs.Names.{OnTrue, IsSomeAnd, get, Rose, HasCause, Files, IsAbsent, solved, Setup, Session, IsOpening, IsOut, IsSession, Follows, first_state, BuildFault, InGrammar, InLexicon, build_fault, lines_with_commands, stage, built, some_inj, one_grammar, no_grammar_fault, one_lexicon, no_lexicon_fault, same_text, Status, Refusal, HasQuit, Names, Builds, HasBadGrammar, HasBadLexicon, HaveSession, LooksAt, grammar, lexicon, CannotLoad, HasRefusal, IsSessionStatus, IsEndOf, HasWritten, Writes, IsWithin, MayBeDone}
use Rattle.patr_model.specs.Session.{Numbering, Grounds, State, Replied, whole_lines_of}
use Rattle.patr_model.specs.Run as run
use Rattle.patr_model.specs.GrammarText.{ReadsGrammar, grammar_fault_line}
use Rattle.patr_model.specs.LexiconText.{ReadsLexicon, lexicon_fault_line}
use Rattle.patr_model.specs.Build as model
use Rattle.patr_lexicon.specs.Reading.{fault_of}
use Rattle.patr_shell.specs.declared.status.GrammarTrouble.{GrammarTrouble}
use Rattle.patr_shell.specs.declared.status.GrammarTrouble.TheVariants as grammar_trouble
use Rattle.patr_shell.specs.declared.status.LexiconTrouble.{LexiconTrouble}
use Rattle.patr_shell.specs.declared.status.LexiconTrouble.TheVariants as lexicon_trouble
use Rattle.patr_shell.specs.declared.status.Status.TheVariants.{Done, ReadFault, WriteFault, Memory, InputTooLong}
use Rattle.patr_shell.specs.declared.refusal.Refusal.TheVariants as refusal
use Rattle.patr_shell.proofs.RunLaws.{one_opening, numbered_tables}

-- a file is no longer than it may be
not_long : (o : Option (List ℕ)) (most : ℕ) (bytes : List ℕ) → o ≡ Some bytes → length bytes ≤ most → IsSomeAnd o (λ b. most < length b) → ⊥
not_long None most bytes is short long = long
not_long (Some b) most bytes is short long = let same : b ≡ bytes = some_inj b bytes is in let l = ap length same in omega (arith, l, short, long)

-- what holds of a file's bytes holds of them however they are told
as_read : (o : Option (List ℕ)) (P : List ℕ → Type 0) (told bytes : List ℕ) → o ≡ Some told → o ≡ Some bytes → P bytes → P told
as_read o P told bytes here there holds = subst P (some_inj bytes told (sym there ∙ here)) holds

-- two files stand for one grammar and one lexicon, of which the build refuses one thing
one_fault : (f : Files) (g l : List ℕ) (x y : Option (BuildFault (List ℕ))) → Builds (Some f) g l x → Builds (Some f) g l y → x ≡ y
one_fault f g l x y b c =
    let one_text = as_read (get f g) (λ z. ReadsGrammar stage z b.rules) c.grammar_bytes b.grammar_bytes c.grammar_file b.grammar_file b.reads_grammar in
    let one_list = as_read (get f l) (λ z. ReadsLexicon stage z b.entries) c.lexicon_bytes b.lexicon_bytes c.lexicon_file b.lexicon_file b.reads_lexicon in
    let rules : b.rules ≡ c.rules = one_grammar stage c.grammar_bytes b.rules c.rules one_text c.reads_grammar in
    let entries : b.entries ≡ c.entries = one_lexicon stage c.lexicon_bytes b.entries c.entries one_list c.reads_lexicon in
    let between : build_fault same_text b.rules b.entries ≡ build_fault same_text c.rules c.entries = λ i. build_fault same_text (rules i) (entries i) in
    sym b.is ∙ between ∙ c.is

-- lines of which one ends the session are not replied to up to their end
quit_is_met : (s : Grounds) (st : State) (ls : List (List ℕ)) (text : List ℕ) → HasQuit ls → Replied solved lines_with_commands s st ls text false → ⊥
quit_is_met s st [] text q r = q
quit_is_met s st (l ∷ ls) text q (inl r) = true≢false (sym r.2)
quit_is_met s st (l ∷ ls) text (inl q) (inr r) = r.0 q
quit_is_met s st (l ∷ ls) text (inr q) (inr r) = quit_is_met s r.2 ls r.3 q r.5

module _ (words : List (List ℕ)) (f : Files) (session : HaveSession words (Some f)) where
  one_setup : (s : Setup) → Names words s → s ≡ session.0
  one_setup s named = some_inj s session.0 (sym named ∙ session.1)

  -- the build refuses nothing
  not_built : (fault : BuildFault (List ℕ)) → Builds (Some f) session.0.grammar session.0.lexicon (Some fault) → ⊥
  not_built fault bad = let e : None ≡ Some fault = one_fault f session.0.grammar session.0.lexicon None (Some fault) session.2 bad in cc

  no_bad_grammar : (trouble : GrammarTrouble) (text : List ℕ) → HasBadGrammar (Some f) session.0 trouble text → ⊥
  no_bad_grammar grammar_trouble.TooLong text bad = not_long (get f session.0.grammar) 4194304 session.2.grammar_bytes session.2.grammar_file session.2.grammar_short bad.0
  no_bad_grammar (grammar_trouble.Text cause) text bad =
      let here = as_read (get f session.0.grammar) (λ b. ReadsGrammar stage b session.2.rules) bad.0 session.2.grammar_bytes bad.2 session.2.grammar_file session.2.reads_grammar in
      no_grammar_fault stage bad.0 (grammar_fault_line bad.1) session.2.rules here (bad.1, bad.4, refl)
  no_bad_grammar (grammar_trouble.Expand cause) text bad = not_built (InGrammar bad.0) bad.1

  no_bad_lexicon : (trouble : LexiconTrouble) (text : List ℕ) → HasBadLexicon (Some f) session.0 trouble text → ⊥
  no_bad_lexicon lexicon_trouble.TooLong text bad = not_long (get f session.0.lexicon) 16777216 session.2.lexicon_bytes session.2.lexicon_file session.2.lexicon_short bad.0
  no_bad_lexicon (lexicon_trouble.Text cause) text bad = no_lexicon_fault stage bad.0 (lexicon_fault_line (fault_of cause)) session.2.entries
      (as_read (get f session.0.lexicon) (λ b. ReadsLexicon stage b session.2.entries) bad.0 session.2.lexicon_bytes bad.1 session.2.lexicon_file session.2.reads_lexicon)
      (fault_of cause, bad.3, refl)
  no_bad_lexicon (lexicon_trouble.Expand cause) text bad = not_built (InLexicon bad.0) bad.1

  -- a file that is told is not absent
  not_absent : (name other bytes : List ℕ) → name ≡ other → get f other ≡ Some bytes → get f name ≡ None → ⊥
  not_absent name other bytes is file gone = let e : None ≡ Some bytes = sym gone ∙ ap (get f) is ∙ file in cc

  none_absent : (name : List ℕ) → LooksAt words (Some f) name → get f name ≡ None → ⊥
  none_absent name (grammar s named is) gone =
      not_absent name session.0.grammar session.2.grammar_bytes (is ∙ ap (λ (z : Setup). z.grammar) (one_setup s named)) session.2.grammar_file gone
  none_absent name (lexicon s named is other) gone =
      not_absent name session.0.lexicon session.2.lexicon_bytes (is ∙ ap (λ (z : Setup). z.lexicon) (one_setup s named)) session.2.lexicon_file gone

  -- an input within its size, or with a line within it that ends the session, is not too long
  not_too_long : (input : List ℕ) → IsWithin input → (a b : Option (List ℕ)) → HasWritten words f input InputTooLong a b → ⊥
  not_too_long input fits a b written =
      let N : Numbering = (numbered_tables [] (λ i j t h k. let e : None ≡ Some t = h in cc)).0 in
      let out : IsOut built N words (get f) input written.text run.InputTooLong = written.is_out N in
      let s : Grounds = model.grounds N session.2.rules session.2.entries in
      let opened : IsOpening built N words (get f) (Session s (first_state session.0)) =
      inr (
        session.0,
        session.1,
        run.read session.2.grammar_bytes session.2.rules session.2.grammar_file session.2.grammar_short session.2.reads_grammar
            (run.built session.2.lexicon_bytes session.2.entries s session.2.lexicon_file session.2.lexicon_short session.2.reads_lexicon (session.2.is, refl) refl),
      ) in
      let same : out.0 ≡ Session s (first_state session.0) = one_opening N words (get f) out.0 (Session s (first_state session.0)) out.1 opened in
      go s (first_state session.0) written.text (subst (λ o. Follows built o input written.text run.InputTooLong) same out.2) fits
    where
      go : (s : Grounds) (st : State) (text : List ℕ) → IsSession built s st input text run.InputTooLong → IsWithin input → ⊥
      go s st text (run.ended l q r e) fits = cc
      go s st text (run.quit l r e) fits = cc
      go s st text (run.too_long l before r t e) (inl short) = omega (arith, l, short)
      go s st text (run.too_long l before r t e) (inr quits) = quit_is_met s st (whole_lines_of (take (2 ^ 24) input)) before quits r

-- a run is done, or memory was short
module _ (words : List (List ℕ)) (files : Option Files) (left : Option (List ℕ)) (may : MayBeDone words files left) where
  told_session : HaveSession words (Some may.told.0)
  told_session = subst (HaveSession words) may.told.1 may.session

  -- neither the words nor a file is refused
  no_refusal : (r : Refusal) (text : List ℕ) → HasRefusal words files r text → ⊥
  no_refusal refusal.Words text h = let e = told_session.1 in let n : None ≡ Some told_session.0 = sym h.0 ∙ e in cc
  no_refusal (refusal.Grammar trouble) text h =
      let c : HasRefusal words (Some may.told.0) (refusal.Grammar trouble) text = subst (λ o. HasRefusal words o (refusal.Grammar trouble) text) may.told.1 h in
      no_bad_grammar words may.told.0 told_session trouble text (subst (λ (z : Setup). HasBadGrammar (Some may.told.0) z trouble text) (one_setup words may.told.0 told_session c.0 c.1) c.2)
  no_refusal (refusal.Lexicon trouble) text h =
      let c : HasRefusal words (Some may.told.0) (refusal.Lexicon trouble) text = subst (λ o. HasRefusal words o (refusal.Lexicon trouble) text) may.told.1 h in
      no_bad_lexicon words may.told.0 told_session trouble text (subst (λ (z : Setup). HasBadLexicon (Some may.told.0) z trouble text) (one_setup words may.told.0 told_session c.0 c.1) c.3)

  pub refused_not : (r : Refusal) (text : List ℕ) (status : Status) (a b : Option (List ℕ)) → HasRefusal words files r text → IsEndOf r text status a b → (status ≡ WriteFault → ⊥) → (status ≡ Done) ⊎ (status ≡ Memory)
  refused_not r text status a b h (inl is) write = absurd (no_refusal r text h)
  refused_not r text status a b h (inr is) write = absurd (write is)

  pub done_or_memory : (a b : Option (List ℕ)) (status : Status) → IsSessionStatus status → (status ≡ ReadFault → ⊥) → (status ≡ WriteFault → ⊥)
      → IfSome files (λ f. IfSome left (λ input. Writes words f input status a b)) → (status ≡ Done) ⊎ (status ≡ Memory)
  done_or_memory a b Done is read write whole = inl refl
  done_or_memory a b Memory is read write whole = inr refl
  done_or_memory a b ReadFault is read write whole = absurd (read refl)
  done_or_memory a b WriteFault is read write whole = absurd (write refl)
  done_or_memory a b InputTooLong is read write whole =
      let w = subst (λ o. IfSome o (λ f. IfSome left (λ input. Writes words f input InputTooLong a b))) may.told.1 whole in
      let v = subst (λ o. IfSome o (λ input. Writes words may.told.0 input InputTooLong a b)) may.input.1 w in
      absurd (not_too_long words may.told.0 told_session may.input.0 may.input.2 a b v.whole)
  done_or_memory a b _ is read write whole = cc

  -- no read failed where no count rose, since each file that is looked at is there
  pub no_read : (before now : ℕ) (failed : Option (List ℕ)) → (Rose before now → ⊥) → (name : List ℕ) → LooksAt words files name → CannotLoad files before now failed name → ⊥
  no_read before now failed still name looks (inl rose) = still rose.0
  no_read before now failed still name looks (inr gone) =
      none_absent words may.told.0 told_session name (subst (λ o. LooksAt words o name) may.told.1 looks) (subst (λ o. IsAbsent o name) may.told.1 gone)

-- a device that failed has a count that rose
pub must_rise : (before now : ℕ) (failed : Bool) → HasCause before now failed → (Rose before now → ⊥) → failed ≡ true → ⊥
must_rise before now failed cause still is = still (subst (λ t. OnTrue t (Rose before now)) is cause.rose)
