-- How what was answered makes up the text of a session over a whole input.
use Rattle.std.proofs.Common.{◌≡◌, ◌<◌, ◌≤◌, ◌-◌, ◌+◌, ℕ, List, [], ◌++◌, Option, None, Some, IfSome, Bool, true, false, length, take, drop, leb, refl, sym, ◌∙◌, ap, subst, append_assoc, append-nil, arith, length-append, take-append-drop}
use Rattle.patr_shell.proofs.Names.{nat_tests, take_all, take_at, length-take-le, Appends, Consumes, IsAtEnd, Appends-trans, solved, lines_with_commands, Numbering, AgreesWith, Grounds, Replied, whole_lines_of, lines_of, built, SessionRepliesBegin, least_texts, replies_begin, session_one, Spoken, grounds, state_seen, AppendsFront, HasAnswered, HasEnded, HasBegun, HasWrittenSession, HasBegunSession, too_long_line, last_piece, last_line, AnswerFault}
use Rattle.patr_model.specs.Session as session
use Rattle.patr_model.proofs.Shown.{one_more}
use Rattle.patr_model.specs.Run.{Ending, Done, InputTooLong, IsSession, ended, quit, too_long}
use Rattle.patr_shell.specs.declared.state.State.{State}
use Rattle.patr_shell.proofs.Cuts.{lines_of_two, lines_are}
use Rattle.patr_shell.proofs.Ends.{take_two}
use Rattle.patr_shell.proofs.Fronts.{front_longer, front_behind, whole_front, reached_front}
use Rattle.patr_shell.proofs.Replying.{ended_longer, replied}

-- ---- what is told of an input

-- what holds of the bytes that were read and any rest holds of a told input
pub told : (a b : Option (List ℕ)) (bytes : List ℕ) (P : List ℕ → Type 0) → Consumes a b bytes → ((rest : List ℕ) → P (bytes ++ rest)) → IfSome a P
told None b bytes P read each = tt
told (Some all) None bytes P read each = absurd read
told (Some all) (Some rest) bytes P read each = subst P (sym read) (each rest)

-- at its end there is no rest
pub told_all : (a b : Option (List ℕ)) (bytes : List ℕ) (P : List ℕ → Type 0) → Consumes a b bytes → IsAtEnd b → P bytes → IfSome a P
told_all None b bytes P read end here = tt
told_all (Some all) None bytes P read end here = absurd read
told_all (Some all) (Some rest) bytes P read end here = subst P (sym (read ∙ ap (λ (l : List ℕ). bytes ++ l) end ∙ append-nil bytes)) here

abbrev pub most : ℕ
most = 16777216

-- the bytes within the limit, after some of them
pub within_of : (bytes rest : List ℕ) → length bytes ≤ most → (more : List ℕ) × (take most (bytes ++ rest) ≡ bytes ++ more)
within_of bytes rest short = (take (most - length bytes) rest, take_two most bytes rest short)

-- a piece of which the first bytes are within the limit
module _ (bytes piece rest : List ℕ) (within : ℕ) (short : length bytes + within ≤ most) (part : within ≤ length piece) where
  regrouped : (bytes ++ piece) ++ rest ≡ (bytes ++ take within piece) ++ (drop within piece ++ rest)
  regrouped =
      ap (λ (l : List ℕ). (bytes ++ l) ++ rest) (sym (take-append-drop within piece))
      ∙ ap (λ (l : List ℕ). l ++ rest) (sym (append_assoc bytes (take within piece) (drop within piece)))
      ∙ append_assoc (bytes ++ take within piece) (drop within piece) rest

  long : length (bytes ++ take within piece) ≡ length bytes + within
  long = length-append bytes (take within piece) ∙ ap (λ (n : ℕ). length bytes + n) (length-take-le within piece part)

  pub within_piece : (more : List ℕ) × (take most ((bytes ++ piece) ++ rest) ≡ (bytes ++ take within piece) ++ more)
  within_piece =
      let at = within_of (bytes ++ take within piece) (drop within piece ++ rest) (omega (arith, long)) in
      (at.0, ap (take most) regrouped ∙ at.1)

  -- they are all that is
  pub at_limit_of : length bytes + within ≡ most → take most ((bytes ++ piece) ++ rest) ≡ bytes ++ take within piece
  at_limit_of full =
      ap (take most) regrouped
      ∙ take_at (bytes ++ take within piece) (drop within piece ++ rest) most (long ∙ full)

  pub past_limit : length bytes + within ≡ most → within < length piece → most < length ((bytes ++ piece) ++ rest)
  past_limit full more = omega (arith, length-append (bytes ++ piece) rest, length-append bytes piece)

-- ---- the texts of a session

session_begins : SessionRepliesBegin
session_begins = λ s. replies_begin solved lines_with_commands s (least_texts s) (one_more s)

-- a session has one text
one_text : (s : Grounds) (st : session.State) (input x y : List ℕ) (e f : Ending) → IsSession built s st input x e → IsSession built s st input y f → x ≡ y
one_text s st input x y e f h k = (session_one built s (one_more s) st input x y e f h k).0

lines_go_on : (bytes more : List ℕ) → lines_of (bytes ++ more) ≡ whole_lines_of bytes ++ (whole_lines_of (last_piece bytes ++ more) ++ last_line (last_piece (bytes ++ more)))
lines_go_on bytes more =
    lines_are (bytes ++ more)
    ∙ ap (λ (l : List (List ℕ)). l ++ last_line (last_piece (bytes ++ more))) (lines_of_two bytes more)
    ∙ append_assoc (whole_lines_of bytes) (whole_lines_of (last_piece bytes ++ more)) (last_line (last_piece (bytes ++ more)))

module _ (spoken : Spoken) (st : State) where
  module _ (N : Numbering) (agrees : AgreesWith N spoken.texts) where
    abbrev Texts : session.State → List (List ℕ) → List ℕ → Bool → Type 0
    Texts from ls text stops = Replied solved lines_with_commands (grounds N spoken) from ls text stops

    -- the replies to the first lines begin each text
    begun_text : (ls rest : List (List ℕ)) (text : List ℕ) (stops : Bool) (fault : AnswerFault) (a b : Option (List ℕ)) → HasBegun spoken st ls fault a b → Texts (state_seen st) (ls ++ rest) text stops → AppendsFront a b text
    begun_text ls rest text stops fault a b h r =
        let split = ap (λ (l : List (List ℕ)). l ++ rest) h.split ∙ append_assoc h.some h.others rest in
        let at = (session_begins (grounds N spoken)).begins (state_seen st) (state_seen h.end) h.some (h.others ++ rest) h.text text stops (h.replies N agrees)
        (subst (λ l. Texts (state_seen st) l text stops) split r) in
        subst (AppendsFront a b) (sym at.1) (front_longer a b h.text at.0 (reached_front fault a b h.text h.front))

    abbrev IsText : List ℕ → List ℕ → Ending → Type 0
    IsText input text ending = IsSession built (grounds N spoken) (state_seen st) input text ending

    -- of the lines within the limit the first are answered
    begun_within : (input bytes more text : List ℕ) (ending : Ending) (fault : AnswerFault) (a b : Option (List ℕ)) → HasBegun spoken st (whole_lines_of bytes) fault a b → take most input ≡ bytes ++ more → IsText input text ending → AppendsFront a b text
    begun_within input bytes more text ending fault a b h is (ended short stops r e) =
        let whole = sym (take_all most input short) ∙ is in
        begun_text (whole_lines_of bytes) (whole_lines_of (last_piece bytes ++ more) ++ last_line (last_piece (bytes ++ more))) text stops fault a b h
        (subst (λ l. Texts (state_seen st) l text stops) (ap lines_of whole ∙ lines_go_on bytes more) r)
    begun_within input bytes more text ending fault a b h is (quit past r e) =
        begun_text (whole_lines_of bytes) (whole_lines_of (last_piece bytes ++ more)) text true fault a b h
        (subst (λ l. Texts (state_seen st) l text true) (ap whole_lines_of is ∙ lines_of_two bytes more) r)
    begun_within input bytes more text ending fault a b h is (too_long past before r t e) =
        let first = begun_text (whole_lines_of bytes) (whole_lines_of (last_piece bytes ++ more)) before false fault a b h
        (subst (λ l. Texts (state_seen st) l before false) (ap whole_lines_of is ∙ lines_of_two bytes more) r) in
        subst (AppendsFront a b) (sym t) (front_longer a b before too_long_line first)

    -- of the lines of a whole input the first are answered
    begun_whole : (input text : List ℕ) (ending : Ending) (fault : AnswerFault) (a b : Option (List ℕ)) → length input ≤ most → HasBegun spoken st (lines_of input) fault a b → IsText input text ending → AppendsFront a b text
    begun_whole input text ending fault a b here h (ended short stops r e) =
        begun_text (lines_of input) [] text stops fault a b h (subst (λ l. Texts (state_seen st) l text stops) (sym (append-nil (lines_of input))) r)
    begun_whole input text ending fault a b here h (quit past r e) = absurd (omega (arith, here, past))
    begun_whole input text ending fault a b here h (too_long past before r t e) = absurd (omega (arith, here, past))

    -- all lines within the limit are answered, and more comes
    past_text : (end : State) (input : List ℕ) (a b : Option (List ℕ)) → most < length input → (h : HasAnswered spoken st (whole_lines_of (take most input)) end a b) → IsText input (h.text ++ too_long_line) InputTooLong
    past_text end input a b long h = too_long long h.text (replied (grounds N spoken) (state_seen st) (state_seen end) (whole_lines_of (take most input)) h.text (h.replies N agrees)) refl refl

  -- ---- what a session has written

  pub front_within : (input bytes more : List ℕ) (fault : AnswerFault) (a b : Option (List ℕ)) → HasBegun spoken st (whole_lines_of bytes) fault a b → take most input ≡ bytes ++ more → HasBegunSession spoken st input a b
  front_within input bytes more fault a b h is = λ N agrees text ending session. begun_within N agrees input bytes more text ending fault a b h is session

  pub front_whole : (input : List ℕ) (fault : AnswerFault) (a b : Option (List ℕ)) → length input ≤ most → HasBegun spoken st (lines_of input) fault a b → HasBegunSession spoken st input a b
  front_whole input fault a b short h = λ N agrees text ending session. begun_whole N agrees input text ending fault a b short h session

  -- what is a text is a front of each
  pub front_written : (input : List ℕ) (ending : Ending) (a b : Option (List ℕ)) → HasWrittenSession spoken st input ending a b → HasBegunSession spoken st input a b
  front_written input ending a b h = λ N agrees text other session.
      subst (AppendsFront a b) (one_text (grounds N spoken) (state_seen st) input h.text text ending other (h.is_session N agrees) session) (whole_front a b h.text h.appended)

  pub front_past : (end : State) (input : List ℕ) (a b c : Option (List ℕ)) → most < length input → HasAnswered spoken st (whole_lines_of (take most input)) end a b → AppendsFront b c too_long_line → HasBegunSession spoken st input a c
  front_past end input a b c long h line = λ N agrees text ending session.
      subst (AppendsFront a c) (one_text (grounds N spoken) (state_seen st) input (h.text ++ too_long_line) text InputTooLong ending (past_text N agrees end input a b long h) session)
      (front_behind a b c h.text too_long_line h.sent line)

  pub written_whole : (end : State) (input : List ℕ) (a b : Option (List ℕ)) → length input ≤ most → HasAnswered spoken st (lines_of input) end a b → HasWrittenSession spoken st input Done a b
  written_whole end input a b short h = record {
    text = h.text;
    is_session = λ N agrees. ended short false (replied (grounds N spoken) (state_seen st) (state_seen end) (lines_of input) h.text (h.replies N agrees)) refl;
    appended = h.sent;
  }

  pub written_ended : (input : List ℕ) (a b : Option (List ℕ)) → length input ≤ most → HasEnded spoken st (lines_of input) a b → HasWrittenSession spoken st input Done a b
  written_ended input a b short h = record {
    text = h.text;
    is_session = λ N agrees. ended short true (h.replies N agrees) refl;
    appended = h.sent;
  }

  -- a line within the limit ends the session
  pub written_quit : (input bytes more : List ℕ) (a b : Option (List ℕ)) → HasEnded spoken st (whole_lines_of bytes) a b → take most input ≡ bytes ++ more → HasWrittenSession spoken st input Done a b
  written_quit input bytes more a b h is = elim (leb (length input) most) as (λ t. leb (length input) most ≡ t → HasWrittenSession spoken st input Done a b) [
    | true ↦ λ test.
        let short : length input ≤ most = grind (arith, nat_tests) in
        let whole : input ≡ bytes ++ more = sym (take_all most input short) ∙ is in
        written_ended input a b short
        (subst (λ l. HasEnded spoken st l a b) (sym (ap lines_of whole ∙ lines_go_on bytes more))
        (ended_longer spoken st (whole_lines_of bytes) (whole_lines_of (last_piece bytes ++ more) ++ last_line (last_piece (bytes ++ more))) a b h))
    | false ↦ λ test.
        let past : most < length input = grind (arith, nat_tests) in
        let all : HasEnded spoken st (whole_lines_of (take most input)) a b =
        subst (λ l. HasEnded spoken st l a b) (sym (ap whole_lines_of is ∙ lines_of_two bytes more)) (ended_longer spoken st (whole_lines_of bytes) (whole_lines_of (last_piece bytes ++ more)) a b h) in
        record { text = all.text; is_session = λ N agrees. quit past (all.replies N agrees) refl; appended = all.sent }
  ] refl

  pub written_past : (end : State) (input : List ℕ) (a b c : Option (List ℕ)) → most < length input → HasAnswered spoken st (whole_lines_of (take most input)) end a b → Appends b c too_long_line → HasWrittenSession spoken st input InputTooLong a c
  written_past end input a b c long h line = record {
    text = h.text ++ too_long_line;
    is_session = λ N agrees. past_text N agrees end input a b long h;
    appended = Appends-trans a b c h.text too_long_line h.sent line;
  }
