-- The answers to lines under a language, and what of them reached a sink.
--     IsAnswer s st bytes a           what a line comes to
--     HasAnswered, HasEnded           lines were answered, none of which or one of which ends the session
--     HasBegun                        the first of the lines were answered, and then memory was short or a write failed
use Rattle.std.specs.Prelude.{◌≡◌, ◌⊎◌, ◌<◌, ◌^◌, ℕ, length, take, nat_eq, List, [], ◌∷◌, ◌++◌, Bool, true, false, Option, Some, None, Result, Err, codes}
use Rattle.std.specs.String.{string_bytes}
use Rattle.std.specs.Io.KnownBytes.{Appends, Consumes}
use Rattle.patr_model.specs.Solved.{solved}
use Rattle.patr_model.specs.Session.{Numbering, AgreesWith, IsQuit, IsWordsReply, IsLineReply, IsCommandReply, Replied, begins_with_colon, line, cut_at, whole_lines_of, without_cr, without_empty}
use Rattle.patr_model.specs.Run.{Ending, IsSession}
use Rattle.patr_model.specs.Openings.{Answered}
use Rattle.patr_model.specs.Notations.{lines_with_commands}
use Rattle.patr_model.specs.Built.{built}
use Rattle.patr_shell.specs.Spoken.{Spoken, grounds, state_seen, command_seen}
use Rattle.patr_shell.specs.Sent.{AppendsFront}
use Rattle.patr_shell.specs.declared.state.State.{State}
use Rattle.patr_shell.specs.declared.command.Command.{Command}
use Rattle.patr_shell.specs.declared.command.Command.TheVariants.{Quit}
use Rattle.patr_shell.specs.declared.answer.Reply.{Reply}
use Rattle.patr_shell.specs.declared.session.AnswerFault.{AnswerFault}
use Rattle.patr_shell.specs.declared.session.AnswerFault.TheVariants.{Write, Memory}
use Rattle.patr_shell.specs.declared.session.Next.{Next}
use Rattle.patr_shell.specs.declared.session.Next.TheVariants.{GoesOn, Ends}

-- ---- what a line comes to

-- what a command comes to: none for the one that ends the session, and else its reply and the state behind it
abbrev pub IsAnswerToCommand : Spoken → State → Command → Option Reply → Type 0
IsAnswerToCommand spoken st c None = c ≡ Quit
IsAnswerToCommand spoken st c (Some r) = (c ≡ Quit → ⊥)
    × ((N : Numbering) → AgreesWith N spoken.texts → IsCommandReply solved lines_with_commands (grounds N spoken) (state_seen st) (command_seen c) (string_bytes r.text) (state_seen r.state))

-- there are words, and the first begins with a colon or not
abbrev pub HasFirstWord : List (List ℕ) → Bool → Type 0
HasFirstWord words colon = (0 < length words) × (begins_with_colon words ≡ colon)

-- the words of a line end the session
abbrev pub AreQuit : List (List ℕ) → Type 0
AreQuit words = lines_with_commands.command words ≡ Some (command_seen Quit)

-- what the words of a line come to
abbrev pub IsAnswerToWords : Spoken → State → List (List ℕ) → Option Reply → Type 0
IsAnswerToWords spoken st words None = AreQuit words
IsAnswerToWords spoken st words (Some r) = (AreQuit words → ⊥)
    × ((N : Numbering) → AgreesWith N spoken.texts → IsWordsReply solved lines_with_commands (grounds N spoken) (state_seen st) words (string_bytes r.text) (state_seen r.state))

-- what a line comes to, whatever the numbering: none where it ends the session, and else its reply and the state behind it
abbrev pub IsAnswer : Spoken → State → List ℕ → Option Reply → Type 0
IsAnswer spoken st bytes None = IsQuit lines_with_commands bytes
IsAnswer spoken st bytes (Some r) = (IsQuit lines_with_commands bytes → ⊥)
    × ((N : Numbering) → AgreesWith N spoken.texts → IsLineReply solved lines_with_commands (grounds N spoken) (state_seen st) bytes (string_bytes r.text) (state_seen r.state))

-- ---- the parts of an input

-- the last of these pieces
abbrev pub last_of : List ℕ → List (List ℕ) → List ℕ
last_of first [] = first
last_of first (next ∷ rest) = last_of next rest

-- what stands behind the last LF
abbrev pub last_piece : List ℕ → List ℕ
last_piece bytes = last_of (cut_at (nat_eq 10) bytes).first (cut_at (nat_eq 10) bytes).rest

-- no LF stands in the bytes
abbrev pub HasNoFeed : List ℕ → Type 0
HasNoFeed bytes = (cut_at (nat_eq 10) bytes).rest ≡ []

-- what stands behind the last LF is a line, where it is not empty
abbrev pub last_line : List ℕ → List (List ℕ)
last_line piece = without_empty (without_cr piece ∷ [])

-- ---- what was answered

-- one of the lines ends the session
abbrev pub HasQuit : List (List ℕ) → Type 0
HasQuit [] = ⊥
HasQuit (l ∷ ls) = IsQuit lines_with_commands l ⊎ HasQuit ls

-- each line was answered on the sink, in order, and none ends the session
pub record HasAnswered (spoken : Spoken) (st : State) (lines : List (List ℕ)) (end : State) (old new : Option (List ℕ)) : Type 0 where
  pub text : List ℕ
  pub replies : (N : Numbering) → AgreesWith N spoken.texts → Answered solved lines_with_commands (grounds N spoken) (state_seen st) lines text (state_seen end)
  pub sent : Appends old new text
  pub goes_on : HasQuit lines → ⊥

-- each line before the one that ends the session was answered on the sink, in order
pub record HasEnded (spoken : Spoken) (st : State) (lines : List (List ℕ)) (old new : Option (List ℕ)) : Type 0 where
  pub text : List ℕ
  pub replies : (N : Numbering) → AgreesWith N spoken.texts → Replied solved lines_with_commands (grounds N spoken) (state_seen st) lines text true
  pub sent : Appends old new text
  pub quit : HasQuit lines

-- the lines were answered up to their end, or up to the one that ends the session
abbrev pub HasTold : Spoken → State → List (List ℕ) → Next → State → Option (List ℕ) → Option (List ℕ) → Type 0
HasTold spoken st lines GoesOn end old new = HasAnswered spoken st lines end old new
HasTold spoken st lines Ends end old new = HasEnded spoken st lines old new

-- what of a text reached the sink: all of it where memory was short behind it, and a front of it where a write failed
abbrev pub HasReached : AnswerFault → Option (List ℕ) → Option (List ℕ) → List ℕ → Type 0
HasReached Write old new text = AppendsFront old new text
HasReached Memory old new text = Appends old new text

-- the first of the lines were answered on the sink, in order, the last of them in part at most where a write failed
pub record HasBegun (spoken : Spoken) (st : State) (lines : List (List ℕ)) (fault : AnswerFault) (old new : Option (List ℕ)) : Type 0 where
  pub some : List (List ℕ)
  pub others : List (List ℕ)
  pub split : lines ≡ some ++ others
  pub text : List ℕ
  pub end : State
  pub replies : (N : Numbering) → AgreesWith N spoken.texts → Answered solved lines_with_commands (grounds N spoken) (state_seen st) some text (state_seen end)
  pub front : HasReached fault old new text

-- the line that refuses a longer input
abbrev pub too_long_line : List ℕ
too_long_line = line (codes "error: input longer than 16777216 bytes")

-- a write failed
abbrev pub is_write_fault : {T : Type 0} → Result T AnswerFault → Bool
is_write_fault (Err Write) = true
is_write_fault _ = false

-- ---- the session

-- bytes were taken in which a line ends that ends the session
abbrev pub HasTakenQuit : Option (List ℕ) → Option (List ℕ) → Type 0
HasTakenQuit left left' = (taken : List ℕ) × Consumes left left' taken × HasQuit (whole_lines_of taken)

-- more bytes were taken than an input may have, and no line that ends within its size ends the session
abbrev pub HasTakenMore : Option (List ℕ) → Option (List ℕ) → Type 0
HasTakenMore left left' = (taken : List ℕ) × Consumes left left' taken × (16777216 < length taken) × (HasQuit (whole_lines_of (take (2 ^ 24) taken)) → ⊥)

-- the text of a session over the whole input, whatever the numbering, was written
pub record HasWrittenSession (spoken : Spoken) (st : State) (input : List ℕ) (ending : Ending) (old new : Option (List ℕ)) : Type 0 where
  pub text : List ℕ
  pub is_session : (N : Numbering) → AgreesWith N spoken.texts → IsSession built (grounds N spoken) (state_seen st) input text ending
  pub appended : Appends old new text

-- a front of each text of a session over the input was written
abbrev pub HasBegunSession : Spoken → State → List ℕ → Option (List ℕ) → Option (List ℕ) → Type 0
HasBegunSession spoken st input old new = (N : Numbering) → AgreesWith N spoken.texts → (text : List ℕ) (ending : Ending)
    → IsSession built (grounds N spoken) (state_seen st) input text ending → AppendsFront old new text
