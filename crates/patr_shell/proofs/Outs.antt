-- What a run writes, by its opening and its session.
use Rattle.std.proofs.Common.{◌≡◌, ◌<◌, ◌≤◌, arith, ℕ, List, [], ◌++◌, Option, Some, None, IfSome, Bool, true, false, length, take, drop, refl, sym, ◌∙◌, ap, subst, inl, inr, append_assoc, append-nil, length-append, take-append-drop}
use Rattle.patr_shell.proofs.Names.{Setup, Names, BuildFault, fault_ending, length-take, OnTrue, IsSomeAnd, get, Appends, Consumes, Files, solved, Numbering, AgreesWith, whole_lines_of, lines_of, IsTable, InGrammar, InLexicon, build_fault_line, lines_with_commands, Answered, built, lexicon_fault_line, Status, Refusal, Spoken, grounds, state_seen, AppendsFront, HasNoFeed, HasWrittenSession, HasBegunSession, is_definite, ending_of, HaveSession, IsSessionStatus, HasRefusal, IsStatusOf, status_of, IsOpened, IsEndOf, Builds, HasWritten, HasBegunRun, Writes, HasAnsweredFirst, HasAnsweredTaken, HasRunSession, HasRun}
use Rattle.patr_model.specs.Run as run
use Rattle.patr_model.specs.Run.{Opening, Session, Refusal as Refuses, AfterWords, AfterGrammar, IsOpening, IsOut, Follows}
use Rattle.patr_model.specs.GrammarText.{grammar_fault_line}
use Rattle.patr_lexicon.specs.Reading.{fault_of}
use Rattle.patr_shell.specs.declared.state.State.{State}
use Rattle.patr_shell.specs.declared.status.Status.TheVariants.{Done, ReadFault, WriteFault, Memory, InputTooLong}
use Rattle.patr_shell.specs.declared.status.GrammarTrouble.TheVariants as grammar_trouble
use Rattle.patr_shell.specs.declared.status.LexiconTrouble.TheVariants as lexicon_trouble
use Rattle.patr_shell.specs.declared.refusal.Refusal.TheVariants.{Words, Grammar, Lexicon}
use Rattle.patr_shell.proofs.Cuts.{FirstLines, first_lines, lines_of_whole}
use Rattle.patr_shell.proofs.Fronts.{no_front}
use Rattle.patr_shell.proofs.Replying.{replied}
use Rattle.patr_shell.proofs.RunLaws.{one_opening, numbered_tables, any_numbering}

-- the bytes of a longer file
long_file : (o : Option (List ℕ)) (most : ℕ) → IsSomeAnd o (λ bytes. most < length bytes) → (bytes : List ℕ) × (o ≡ Some bytes) × (most < length bytes)
long_file None most long = absurd long
long_file (Some bytes) most long = (bytes, refl, long)

module _ (words : List (List ℕ)) (f : Files) where
  -- what the build refuses
  refused_build : (N : Numbering) (setup : Setup) → Names words setup → (fault : BuildFault (List ℕ)) → Builds (Some f) setup.grammar setup.lexicon (Some fault) → IsOpening built N words (get f) (Refuses (build_fault_line fault) (fault_ending fault))
  refused_build N setup named fault b = inr (
    setup,
    named,
    AfterWords.read b.grammar_bytes b.rules b.grammar_file b.grammar_short b.reads_grammar
        (AfterGrammar.refused b.lexicon_bytes b.entries b.lexicon_file b.lexicon_short b.reads_lexicon (build_fault_line fault) (fault_ending fault) (fault, b.is, refl, refl) refl),
  )

  -- a refusal with its line is what the words and the files come to
  refused : (N : Numbering) (r : Refusal) (text : List ℕ) → HasRefusal words (Some f) r text → IsOpening built N words (get f) (Refuses text (ending_of (status_of r)))
  refused N r text h = by r h
    where
      told : (ending : run.Ending) (message : List ℕ) → text ≡ message → IsOpening built N words (get f) (Refuses message ending) → IsOpening built N words (get f) (Refuses text ending)
      told ending message is = subst (λ m. IsOpening built N words (get f) (Refuses m ending)) (sym is)

      by : (r : Refusal) → HasRefusal words (Some f) r text → IsOpening built N words (get f) (Refuses text (ending_of (status_of r)))
      by Words h = told _ _ h.1 (inl (h.0, refl))
      by (Grammar grammar_trouble.TooLong) h =
          let file = long_file (get f h.0.grammar) 4194304 h.2.0 in
          told _ _ h.2.1 (inr (h.0, h.1, AfterWords.long file.0 file.1 file.2 refl))
      by (Grammar (grammar_trouble.Text why)) h =
          told _ _ h.2.6 (inr (h.0, h.1, AfterWords.fault h.2.0 h.2.2 h.2.3 (grammar_fault_line h.2.1) (h.2.1, h.2.4, refl) refl))
      by (Grammar (grammar_trouble.Expand why)) h = told _ _ h.2.3 (refused_build N h.0 h.1 (InGrammar h.2.0) h.2.1)
      by (Lexicon lexicon_trouble.TooLong) h =
          let file = long_file (get f h.0.lexicon) 16777216 h.3.0 in
          told _ _ h.3.1 (inr (h.0, h.1, AfterWords.read h.2.0 h.2.1 h.2.2 h.2.3 h.2.4 (AfterGrammar.long file.0 file.1 file.2 refl)))
      by (Lexicon (lexicon_trouble.Text why)) h =
          told _ _ h.3.4 (inr (
            h.0,
            h.1,
            AfterWords.read h.2.0 h.2.1 h.2.2 h.2.3 h.2.4
                (AfterGrammar.fault h.3.0 h.3.1 h.3.2 (lexicon_fault_line (fault_of why)) (fault_of why, h.3.3, refl) refl),
          ))
      by (Lexicon (lexicon_trouble.Expand why)) h = told _ _ h.3.3 (refused_build N h.0 h.1 (InLexicon h.3.0) h.3.1)

  refused_whole : (r : Refusal) (text : List ℕ) → HasRefusal words (Some f) r text → (input : List ℕ) (a b : Option (List ℕ)) → Appends a b text → HasWritten words f input (status_of r) a b
  refused_whole r text h input a b sent = record {
    text = text;
    is_out = λ N. (Refuses text (ending_of (status_of r)), refused N r text h, (refl, refl));
    appended = sent;
  }

  refused_front : (r : Refusal) (text : List ℕ) → HasRefusal words (Some f) r text → (input : List ℕ) (a b : Option (List ℕ)) → AppendsFront a b text → HasBegunRun words f input a b
  refused_front r text h input a b front = λ N out_text ending out.
      let same : out.0 ≡ Refuses text (ending_of (status_of r)) = one_opening N words (get f) out.0 _ out.1 (refused N r text h) in
      let follows : Follows built (Refuses text (ending_of (status_of r))) input out_text ending = subst (λ (o : Opening). Follows built o input out_text ending) same out.2 in
      subst (AppendsFront a b) (sym follows.0) front

  -- a session over what was opened
  module _ (spoken : Spoken) (st : State) (opened : IsOpened words f spoken st) (table : IsTable spoken.texts) (input : List ℕ) (a b : Option (List ℕ)) where
    session_whole : (status : Status) → HasWrittenSession spoken st input (ending_of status) a b → HasWritten words f input status a b
    session_whole status written =
        let numbered = numbered_tables spoken.texts table in
        let N : Numbering = numbered.0 in
        record {
          text = written.text;
          is_out = λ X. any_numbering N X words (get f) input written.text (ending_of status) (Session (grounds N spoken) (state_seen st), opened N numbered.1, written.is_session N numbered.1);
          appended = written.appended;
        }

    session_front : HasBegunSession spoken st input a b → HasBegunRun words f input a b
    session_front begun = λ X text ending other.
        let numbered = numbered_tables spoken.texts table in
        let N : Numbering = numbered.0 in
        let out : IsOut built N words (get f) input text ending = any_numbering X N words (get f) input text ending other in
        let same : out.0 ≡ Session (grounds N spoken) (state_seen st) = one_opening N words (get f) out.0 _ out.1 (opened N numbered.1) in
        begun N numbered.1 text ending (subst (λ (o : Opening). Follows built o input text ending) same out.2)

-- ---- where the files and the input are told

on_true : (b : Bool) (P Q : Type 0) → (P → Q) → OnTrue b P → OnTrue b Q
on_true true P Q f p = f p
on_true false P Q f p = tt

of_true : (b : Bool) (P : Type 0) → P → OnTrue b P
of_true true P p = p
of_true false P p = tt

of_false : (b : Bool) (P : Type 0) → b ≡ false → OnTrue b P
of_false true P is = cc
of_false false P is = tt

abbrev Text : List (List ℕ) → Option Files → Option (List ℕ) → Option (List ℕ) → Option (List ℕ) → Status → Type 0
Text words files left a b status = IfSome files (λ f. IfSome left (λ input. Writes words f input status a b))

refused_at : (words : List (List ℕ)) (f : Files) (r : Refusal) (text : List ℕ) → HasRefusal words (Some f) r text → (input : List ℕ) (a b : Option (List ℕ)) (status : Status) → IsEndOf r text status a b
    → OnTrue (is_definite status) (HasWritten words f input status a b)
refused_at words f r text h input a b status (inl is) =
    of_true (is_definite status) (HasWritten words f input status a b) (subst (λ s. HasWritten words f input s a b) (sym is.0) (refused_whole words f r text h input a b is.1))
refused_at words f r text h input a b status (inr is) = of_false (is_definite status) (HasWritten words f input status a b) (ap is_definite is)

pub refused_text : (words : List (List ℕ)) (files : Option Files) (left a b : Option (List ℕ)) (r : Refusal) (text : List ℕ) → HasRefusal words files r text → (status : Status) → IsEndOf r text status a b
    → AppendsFront a b text → Text words files left a b status
refused_text words None left a b r text h status end front = tt
refused_text words (Some f) None a b r text h status end front = tt
refused_text words (Some f) (Some input) a b r text h status end front = record {
  whole = refused_at words f r text h input a b status end;
  front = refused_front words f r text h input a b front;
}

pub session_text : (words : List (List ℕ)) (files : Option Files) (left a b : Option (List ℕ)) (spoken : Spoken) (st : State) → IfSome files (λ f. IsOpened words f spoken st) → IsTable spoken.texts
    → (status : Status) → OnTrue (is_definite status) (IfSome left (λ input. HasWrittenSession spoken st input (ending_of status) a b)) → IfSome left (λ input. HasBegunSession spoken st input a b)
    → Text words files left a b status
session_text words None left a b spoken st opened table status written begun = tt
session_text words (Some f) None a b spoken st opened table status written begun = tt
session_text words (Some f) (Some input) a b spoken st opened table status written begun = record {
  whole = on_true (is_definite status) (HasWrittenSession spoken st input (ending_of status) a b) (HasWritten words f input status a b)
      (session_whole words f spoken st opened table input a b status) written;
  front = session_front words f spoken st opened table input a b begun;
}

-- nothing is written
pub nothing_text : (words : List (List ℕ)) (files : Option Files) (left a : Option (List ℕ)) (status : Status) → is_definite status ≡ false → Text words files left a a status
nothing_text words None left a status is = tt
nothing_text words (Some f) None a status is = tt
nothing_text words (Some f) (Some input) a status is = record {
  whole = of_false (is_definite status) (HasWritten words f input status a a) is;
  front = λ N text ending out. no_front a text;
}

-- a session's status has its cause
pub session_cause : (words : List (List ℕ)) (files : Option Files) (status : Status) → HaveSession words files → IsSessionStatus status → IsStatusOf words files status
session_cause words files Done have is = have
session_cause words files ReadFault have is = (have.0, have.1)
session_cause words files WriteFault have is = tt
session_cause words files Memory have is = tt
session_cause words files InputTooLong have is = have
session_cause words files _ have is = cc

module _ (words : List (List ℕ)) (f : Files) (spoken : Spoken) (st : State) (opened : IsOpened words f spoken st) (table : IsTable spoken.texts) (left now a b : Option (List ℕ)) where
  -- the first lines of what was taken are answered
  first_answered : (bytes beyond : List ℕ) → Consumes left now (bytes ++ beyond) → length bytes ≤ 16777216 → (some others : List (List ℕ)) → FirstLines bytes some others → (end : State) (text : List ℕ)
      → ((N : Numbering) → AgreesWith N spoken.texts → Answered solved lines_with_commands (grounds N spoken) (state_seen st) some text (state_seen end)) → Appends a b text → HasAnsweredFirst words f left now a b
  first_answered bytes beyond read short some others first end text replies sent =
      let within : length first.lines ≤ 16777216 = omega (arith, short, ap length first.split, length-append first.lines first.rest) in
      let are : some ≡ lines_of first.lines = sym (lines_of_whole first.lines first.whole ∙ first.are) in
      record {
        lines = first.lines;
        rest = first.rest ++ beyond;
        taken = subst (Consumes left now) (ap (λ (l : List ℕ). l ++ beyond) first.split ∙ append_assoc first.lines first.rest beyond) read;
        whole = first.whole;
        written = session_whole words f spoken st opened table first.lines a b Done (record {
          text = text;
          is_session = λ N agrees. run.ended within false (replied (grounds N spoken) (state_seen st) (state_seen end) (lines_of first.lines) text
              (subst (λ l. Answered solved lines_with_commands (grounds N spoken) (state_seen st) l text (state_seen end)) are (replies N agrees))) refl;
          appended = sent;
        });
      }

  -- all of them, where a read failed
  all_answered : HasRunSession spoken st ReadFault left now a b → HasAnsweredTaken words f left now a b
  unfolding first_answered
  all_answered (taken, read, short, end, answered) =
      let first = first_lines taken (whole_lines_of taken) [] (sym (append-nil (whole_lines_of taken))) in
      record {
        answered = first_answered taken [] (subst (Consumes left now) (sym (append-nil taken)) read) short (whole_lines_of taken) [] first end answered.text answered.replies answered.sent;
        all = subst HasNoFeed (sym (append-nil first.rest)) (first.all refl);
      }

  -- some of them, where memory was short
  some_answered : HasRunSession spoken st Memory left now a b → HasAnsweredFirst words f left now a b
  some_answered (taken, read, begun) =
      let within = take 16777216 taken in
      let beyond = drop 16777216 taken in
      first_answered within beyond (subst (Consumes left now) (sym (take-append-drop 16777216 taken)) read) (omega (arith, length-take 16777216 taken))
      begun.some begun.others (first_lines within begun.some begun.others begun.split) begun.end begun.text begun.replies begun.front

if_opened : (files : Option Files) (P Q : Files → Type 0) → ((f : Files) → P f → Q f) → IfSome files P → IfSome files Q
if_opened None P Q each p = tt
if_opened (Some f) P Q each p = each f p

module _ (words : List (List ℕ)) (files : Option Files) (left now a b : Option (List ℕ)) where
  -- a session
  pub session_run : (spoken : Spoken) (st : State) → IfSome files (λ f. IsOpened words f spoken st) → IsTable spoken.texts
      → (status : Status) → IsSessionStatus status → HasRunSession spoken st status left now a b → HasRun words files status left now a b
  session_run spoken st opened table Done is h = h
  session_run spoken st opened table ReadFault is h = inr (if_opened files (λ f. IsOpened words f spoken st) (λ f. HasAnsweredTaken words f left now a b) (λ f o. all_answered words f spoken st o table left now a b h) opened)
  session_run spoken st opened table WriteFault is h = tt
  session_run spoken st opened table Memory is h = inr (if_opened files (λ f. IsOpened words f spoken st) (λ f. HasAnsweredFirst words f left now a b) (λ f o. some_answered words f spoken st o table left now a b h) opened)
  session_run spoken st opened table InputTooLong is h = h
  session_run spoken st opened table _ is h = cc

-- a refusal
module _ (words : List (List ℕ)) (files : Option Files) (left a b : Option (List ℕ)) (r : Refusal) (text : List ℕ) (h : HasRefusal words files r text) where
  refused_run : Appends a b text → HasRun words files (status_of r) left left a b
  refused_run sent = by r h
    where
      by : (r : Refusal) → HasRefusal words files r text → HasRun words files (status_of r) left left a b
      by Words h = (refl, text, h, sent)
      by (Grammar trouble) h = (refl, text, h, sent)
      by (Lexicon trouble) h = (refl, text, h, sent)

  pub refusal_run : (status : Status) → IsEndOf r text status a b → HasRun words files status left left a b
  refusal_run status (inl is) = subst (λ s. HasRun words files s left left a b) (sym is.0) (refused_run is.1)
  refusal_run status (inr is) = subst (λ s. HasRun words files s left left a b) (sym is) tt

-- it is stated by the status
module _ (words : List (List ℕ)) (files : Option Files) (a b : Option (List ℕ)) (r : Refusal) (text : List ℕ) (h : HasRefusal words files r text) where
  stated : (r : Refusal) → HasRefusal words files r text → IsStatusOf words files (status_of r)
  stated Words h = h.0
  stated (Grammar trouble) h = (text, h)
  stated (Lexicon trouble) h = (text, h)

  pub refusal_cause : (status : Status) → IsEndOf r text status a b → IsStatusOf words files status
  refusal_cause status (inl is) = subst (IsStatusOf words files) (sym is.0) (stated r h)
  refusal_cause status (inr is) = subst (IsStatusOf words files) (sym is) tt
