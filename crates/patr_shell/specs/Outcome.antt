-- What a run writes, how it ends, and why.
use Rattle.std.specs.Prelude.{◌≡◌, ◌⊎◌, ◌≤◌, ◌^◌, ℕ, List, [], ◌++◌, length, take, Bool, true, false, Option, Some, None, IfSome, Result, Err, ⊤, codes, string_bytes}
use Rattle.std.specs.Bool.{OnTrue, OnFalse}
use Rattle.std.specs.FinMap.{get}
use Rattle.std.specs.Io.KnownBytes.{Appends, Consumes, IsAtEnd}
use Rattle.patr_io.specs.Causes.{Rose, HasCause}
use Rattle.patr_io.specs.Files.{Files, HasFile, HasLongFile, IsAbsent}
use Rattle.patr_model.specs.Session.{Numbering, AgreesWith, line, whole_lines_of}
use Rattle.patr_model.specs.Run.{Ending, Done as IsDone, BadWords as AreBadWords, BadGrammar as IsBadGrammar, BadLexicon as IsBadLexicon, NotRead, InputTooLong as IsInputTooLong, Setup, Session, usage, IsOpening, IsOut}
use Rattle.patr_model.specs.Productions.{Grammar}
use Rattle.patr_model.specs.GrammarText.{GrammarFault, ReadsGrammar, RefusesGrammar, grammar_fault_line}
use Rattle.patr_model.specs.LexiconText.{EntryText, ReadsLexicon, RefusesLexicon, lexicon_fault_line}
use Rattle.patr_model.specs.CommandLine.{command_words}
use Rattle.patr_model.specs.Bytes.{same_text}
use Rattle.patr_model.specs.Agreeing.{SameExpandFault}
use Rattle.patr_model.specs.Build.{BuildFault, ExpandFault, InGrammar, InLexicon, build_fault, expand_fault_line}
use Rattle.patr_model.specs.Built.{stage, built}
use Rattle.patr_grammar.specs.declared.grammar.GrammarCause.{GrammarCause}
use Rattle.patr_grammar.specs.Reading.{IsFault, IsText}
use Rattle.patr_lexicon.specs.Reading.{fault_of}
use Rattle.patr_expand.specs.declared.cause.ExpandCause.{ExpandCause}
use Rattle.patr_expand.specs.Seen.{cause_seen}
use Rattle.patr_shell.specs.Spoken.{Spoken, grounds, state_seen}
use Rattle.patr_shell.specs.Sent.{AppendsFront, EndsWith}
use Rattle.patr_shell.specs.Answering.{last_piece, HasNoFeed, HasQuit, HasAnswered, HasBegun, HasTakenQuit, HasTakenMore, too_long_line}
use Rattle.patr_shell.specs.declared.state.State.{State}
use Rattle.patr_shell.specs.declared.status.GrammarTrouble.{GrammarTrouble}
use Rattle.patr_shell.specs.declared.status.GrammarTrouble.TheVariants as grammar_trouble
use Rattle.patr_shell.specs.declared.status.LexiconTrouble.{LexiconTrouble}
use Rattle.patr_shell.specs.declared.status.LexiconTrouble.TheVariants as lexicon_trouble
use Rattle.patr_shell.specs.declared.status.Status.{Status}
use Rattle.patr_shell.specs.declared.status.Status.TheVariants.{Done, BadWords, BadGrammar, BadLexicon, ReadFault, WriteFault, Memory, InputTooLong}
use Rattle.patr_shell.specs.declared.refusal.Refusal.{Refusal}
use Rattle.patr_shell.specs.declared.refusal.Refusal.TheVariants as refusal
use Rattle.patr_shell.specs.declared.refusal.OpeningFault.{OpeningFault}
use Rattle.patr_shell.specs.declared.refusal.OpeningFault.TheVariants as fault
use Rattle.patr_shell.specs.declared.session.AnswerFault.{AnswerFault}
use Rattle.patr_shell.specs.declared.session.AnswerFault.TheVariants as answer_fault

-- ---- how a run ends

-- the exit status of a process
abbrev pub code_of : Status → ℕ
code_of Done = 0
code_of BadWords = 1
code_of (BadGrammar trouble) = 2
code_of (BadLexicon trouble) = 3
code_of ReadFault = 4
code_of WriteFault = 5
code_of Memory = 6
code_of InputTooLong = 7

-- no device failed, and memory was found
abbrev pub is_definite : Status → Bool
is_definite ReadFault = false
is_definite WriteFault = false
is_definite Memory = false
is_definite status = true

-- the words or a file were refused
abbrev pub is_refusal : Status → Bool
is_refusal BadWords = true
is_refusal (BadGrammar trouble) = true
is_refusal (BadLexicon trouble) = true
is_refusal status = false

-- the run ended since a read failed
abbrev pub ended_by_read : Status → Bool
ended_by_read ReadFault = true
ended_by_read status = false

-- the run ended since a write failed
abbrev pub ended_by_write : Status → Bool
ended_by_write WriteFault = true
ended_by_write status = false

-- the ending that a status stands for, where no device failed and memory was found
abbrev pub ending_of : Status → Ending
ending_of Done = IsDone
ending_of BadWords = AreBadWords
ending_of (BadGrammar trouble) = IsBadGrammar
ending_of (BadLexicon trouble) = IsBadLexicon
ending_of InputTooLong = IsInputTooLong
ending_of status = NotRead

-- the words or a file don't end a session
abbrev pub IsSessionStatus : Status → Type 0
IsSessionStatus status = is_refusal status ≡ false

-- how a run ends where a line was not answered
abbrev pub answer_status : AnswerFault → Status
answer_status answer_fault.Write = WriteFault
answer_status answer_fault.Memory = Memory

-- What a session with this status has taken of the input and answered of it, told or not: after a read that failed
-- each line whose end was taken, and after want of memory the first of them, no line in part.
abbrev pub HasRunSession : Spoken → State → Status → Option (List ℕ) → Option (List ℕ) → Option (List ℕ) → Option (List ℕ) → Type 0
HasRunSession spoken st Done left left' old new = IsAtEnd left' ⊎ HasTakenQuit left left'
HasRunSession spoken st ReadFault left left' old new =
    (taken : List ℕ) × Consumes left left' taken × (length taken ≤ 16777216) × (end : State) × HasAnswered spoken st (whole_lines_of taken) end old new
HasRunSession spoken st Memory left left' old new =
    (taken : List ℕ) × Consumes left left' taken × HasBegun spoken st (whole_lines_of (take (2 ^ 24) taken)) answer_fault.Memory old new
HasRunSession spoken st InputTooLong left left' old new = HasTakenMore left left' × EndsWith old new too_long_line
HasRunSession spoken st status left left' old new = ⊤

-- ---- the words and the files

-- the file of this name stands for a grammar, where the files are told
abbrev pub HasGrammar : Option Files → List ℕ → Type 0
HasGrammar files name = (bytes : List ℕ) × (g : Grammar (List ℕ)) × HasFile files name bytes × (length bytes ≤ 4194304) × ReadsGrammar stage bytes g

-- the file of this name stands for a lexicon, where the files are told
abbrev pub HasLexicon : Option Files → List ℕ → Type 0
HasLexicon files name = (bytes : List ℕ) × (entries : List EntryText) × HasFile files name bytes × (length bytes ≤ 16777216) × ReadsLexicon stage bytes entries

-- the files of these names stand for a grammar and a lexicon of which the build refuses this, or nothing
pub record Builds (files : Option Files) (grammar lexicon : List ℕ) (fault : Option (BuildFault (List ℕ))) : Type 0 where
  pub grammar_bytes : List ℕ
  pub rules : Grammar (List ℕ)
  pub grammar_file : HasFile files grammar grammar_bytes
  pub grammar_short : length grammar_bytes ≤ 4194304
  pub reads_grammar : ReadsGrammar stage grammar_bytes rules
  pub lexicon_bytes : List ℕ
  pub entries : List EntryText
  pub lexicon_file : HasFile files lexicon lexicon_bytes
  pub lexicon_short : length lexicon_bytes ≤ 16777216
  pub reads_lexicon : ReadsLexicon stage lexicon_bytes entries
  pub is : build_fault same_text rules entries ≡ fault

-- the cause is this fault of the grammar's text, the name in it by some table
abbrev pub IsGrammarCause : GrammarCause → GrammarFault → Type 0
IsGrammarCause cause f = (table : List (List ℕ)) × IsFault table cause f

-- the cause is this fault of a build, the name in it by some table
abbrev pub IsExpandCause : ExpandCause → ExpandFault (List ℕ) → Type 0
IsExpandCause cause f = (table : List (List ℕ)) × SameExpandFault (IsText table) (cause_seen cause) f

-- the file of this name stands for no grammar, why, and the line that tells it
abbrev pub IsNoGrammar : Option Files → List ℕ → GrammarTrouble → List ℕ → Type 0
IsNoGrammar files name grammar_trouble.TooLong text = HasLongFile files name 4194304 × (text ≡ line (codes "error: grammar: more than 4194304 bytes"))
IsNoGrammar files name (grammar_trouble.Text cause) text =
    (bytes : List ℕ) × (f : GrammarFault) × HasFile files name bytes × (length bytes ≤ 4194304) × RefusesGrammar stage bytes f × IsGrammarCause cause f × (text ≡ grammar_fault_line f)
IsNoGrammar files name (grammar_trouble.Expand cause) text = ⊥

-- the file of this name stands for no lexicon, why, and the line that tells it
abbrev pub IsNoLexicon : Option Files → List ℕ → LexiconTrouble → List ℕ → Type 0
IsNoLexicon files name lexicon_trouble.TooLong text = HasLongFile files name 16777216 × (text ≡ line (codes "error: lexicon: more than 16777216 bytes"))
IsNoLexicon files name (lexicon_trouble.Text cause) text =
    (bytes : List ℕ) × HasFile files name bytes × (length bytes ≤ 16777216) × RefusesLexicon stage bytes (fault_of cause) × (text ≡ lexicon_fault_line (fault_of cause))
IsNoLexicon files name (lexicon_trouble.Expand cause) text = ⊥

-- the grammar's file stands for none, or the build refuses a template or a rule; why, and the line that tells it
abbrev pub HasBadGrammar : Option Files → Setup → GrammarTrouble → List ℕ → Type 0
HasBadGrammar files setup (grammar_trouble.Expand cause) text =
    (f : ExpandFault (List ℕ)) × Builds files setup.grammar setup.lexicon (Some (InGrammar f)) × IsExpandCause cause f × (text ≡ expand_fault_line (codes "grammar") f)
HasBadGrammar files setup trouble text = IsNoGrammar files setup.grammar trouble text

-- the lexicon's file stands for none, or the build refuses an entry; why, and the line that tells it
abbrev pub HasBadLexicon : Option Files → Setup → LexiconTrouble → List ℕ → Type 0
HasBadLexicon files setup (lexicon_trouble.Expand cause) text =
    (f : ExpandFault (List ℕ)) × Builds files setup.grammar setup.lexicon (Some (InLexicon f)) × IsExpandCause cause f × (text ≡ expand_fault_line (codes "lexicon") f)
HasBadLexicon files setup trouble text = IsNoLexicon files setup.lexicon trouble text

-- the words are of the form, and this is meant
abbrev pub Names : List (List ℕ) → Setup → Type 0
Names words setup = command_words words ≡ Some setup

-- a run with these words looks at the file of this name: the grammar's, and the lexicon's where the grammar is one
pub data LooksAt (words : List (List ℕ)) (files : Option Files) (name : List ℕ) : Type 0 where
  grammar : (setup : Setup) → Names words setup → name ≡ setup.grammar → LooksAt words files name
  lexicon : (setup : Setup) → Names words setup → name ≡ setup.lexicon → HasGrammar files setup.grammar → LooksAt words files name

-- the shelf failed at this name, or the files are told and none has it
abbrev pub CannotLoad : Option Files → ℕ → ℕ → Option (List ℕ) → List ℕ → Type 0
CannotLoad files before now failed_name name = (Rose before now × (failed_name ≡ Some name)) ⊎ IsAbsent files name

-- the words and the files come to a session with this language and this state, whatever the numbering
abbrev pub IsOpened : List (List ℕ) → Files → Spoken → State → Type 0
IsOpened words files spoken st = (N : Numbering) → AgreesWith N spoken.texts → IsOpening built N words (get files) (Session (grounds N spoken) (state_seen st))

-- the words name two files that a session stands on
abbrev pub HaveSession : List (List ℕ) → Option Files → Type 0
HaveSession words files = (setup : Setup) × Names words setup × Builds files setup.grammar setup.lexicon None

-- the words or a file are refused so, and this line tells it
abbrev pub HasRefusal : List (List ℕ) → Option Files → Refusal → List ℕ → Type 0
HasRefusal words files refusal.Words text = (command_words words ≡ None) × (text ≡ usage)
HasRefusal words files (refusal.Grammar trouble) text = (setup : Setup) × Names words setup × HasBadGrammar files setup trouble text
HasRefusal words files (refusal.Lexicon trouble) text = (setup : Setup) × Names words setup × HasGrammar files setup.grammar × HasBadLexicon files setup trouble text

-- A status has its cause: for BadWords the words are not of the form, for every other but want of memory and a fault of writing they are,
-- for a refusal the file has the trouble that the status carries, and a session has both files.
abbrev pub IsStatusOf : List (List ℕ) → Option Files → Status → Type 0
IsStatusOf words files Done = HaveSession words files
IsStatusOf words files BadWords = command_words words ≡ None
IsStatusOf words files (BadGrammar trouble) = (text : List ℕ) × HasRefusal words files (refusal.Grammar trouble) text
IsStatusOf words files (BadLexicon trouble) = (text : List ℕ) × HasRefusal words files (refusal.Lexicon trouble) text
IsStatusOf words files ReadFault = (setup : Setup) × Names words setup
IsStatusOf words files WriteFault = ⊤
IsStatusOf words files Memory = ⊤
IsStatusOf words files InputTooLong = HaveSession words files

-- how a run ends that is refused
abbrev pub status_of : Refusal → Status
status_of refusal.Words = BadWords
status_of (refusal.Grammar trouble) = BadGrammar trouble
status_of (refusal.Lexicon trouble) = BadLexicon trouble

-- the opening fails for its cause
abbrev pub IsFaultOf : List (List ℕ) → Option Files → OpeningFault → Type 0
IsFaultOf words files (fault.Refused r told) = HasRefusal words files r (string_bytes told)
IsFaultOf words files fault.Read = IsStatusOf words files ReadFault
IsFaultOf words files fault.Memory = ⊤

-- the opening failed at a read
abbrev pub is_read_fault : {T : Type 0} → Result T OpeningFault → Bool
is_read_fault (Err fault.Read) = true
is_read_fault result = false

-- how a run ends whose refusal is to be written: by it, with its line written, or by a write that failed
abbrev pub IsEndOf : Refusal → List ℕ → Status → Option (List ℕ) → Option (List ℕ) → Type 0
IsEndOf r text status old new = ((status ≡ status_of r) × Appends old new text) ⊎ (status ≡ WriteFault)

-- ---- what a run writes

-- the text of a run with this status, whatever the numbering, was written
pub record HasWritten (words : List (List ℕ)) (files : Files) (input : List ℕ) (status : Status) (old new : Option (List ℕ)) : Type 0 where
  pub text : List ℕ
  pub is_out : (N : Numbering) → IsOut built N words (get files) input text (ending_of status)
  pub appended : Appends old new text

-- a front of each text of a run was written
abbrev pub HasBegunRun : List (List ℕ) → Files → List ℕ → Option (List ℕ) → Option (List ℕ) → Type 0
HasBegunRun words files input old new = (N : Numbering) (text : List ℕ) (ending : Ending) → IsOut built N words (get files) input text ending → AppendsFront old new text

-- what a run with this status writes: its whole text, and where a device failed or memory was short a front of it
pub record Writes (words : List (List ℕ)) (files : Files) (input : List ℕ) (status : Status) (old new : Option (List ℕ)) : Type 0 where
  pub whole : OnTrue (is_definite status) (HasWritten words files input status old new)
  pub front : HasBegunRun words files input old new

-- what was written is the text of a run over the first lines of what was taken, each with its LF: the replies to these
-- lines, and nothing else
pub record HasAnsweredFirst (words : List (List ℕ)) (files : Files) (left left' old new : Option (List ℕ)) : Type 0 where
  pub lines : List ℕ
  pub rest : List ℕ
  pub taken : Consumes left left' (lines ++ rest)
  pub whole : last_piece lines ≡ []
  pub written : HasWritten words files lines Done old new

-- and these are all the lines that end in what was taken
pub record HasAnsweredTaken (words : List (List ℕ)) (files : Files) (left left' old new : Option (List ℕ)) : Type 0 where
  pub answered : HasAnsweredFirst words files left left' old new
  pub all : HasNoFeed answered.rest

-- nothing was taken, and nothing written
abbrev pub IsUntouched : Option (List ℕ) → Option (List ℕ) → Option (List ℕ) → Option (List ℕ) → Type 0
IsUntouched left left' old new = (left' ≡ left) × (new ≡ old)

-- nothing was taken, and the line that tells this refusal is all that was written
abbrev pub IsRefused : List (List ℕ) → Option Files → Refusal → Option (List ℕ) → Option (List ℕ) → Option (List ℕ) → Option (List ℕ) → Type 0
IsRefused words files r left left' old new = (left' ≡ left) × (text : List ℕ) × HasRefusal words files r text × Appends old new text

-- What a run with this status has taken of the input and written, told or not: a refusal's line is the last, and before
-- a session it is all; after a read that failed each line whose end was taken is answered, and after want of memory
-- the first of them, no line in part.
abbrev pub HasRun : List (List ℕ) → Option Files → Status → Option (List ℕ) → Option (List ℕ) → Option (List ℕ) → Option (List ℕ) → Type 0
HasRun words files Done left left' old new = IsAtEnd left' ⊎ HasTakenQuit left left'
HasRun words files BadWords left left' old new = IsRefused words files refusal.Words left left' old new
HasRun words files (BadGrammar trouble) left left' old new = IsRefused words files (refusal.Grammar trouble) left left' old new
HasRun words files (BadLexicon trouble) left left' old new = IsRefused words files (refusal.Lexicon trouble) left left' old new
HasRun words files ReadFault left left' old new = IsUntouched left left' old new ⊎ IfSome files (λ f. HasAnsweredTaken words f left left' old new)
HasRun words files WriteFault left left' old new = ⊤
HasRun words files Memory left left' old new = IsUntouched left left' old new ⊎ IfSome files (λ f. HasAnsweredFirst words f left left' old new)
HasRun words files InputTooLong left left' old new = HasTakenMore left left' × EndsWith old new too_long_line

-- ---- why a run ends

-- a read failed: the source's count of faults rose, or a file that is looked at could not be loaded
abbrev pub CannotRead : List (List ℕ) → Option Files → ℕ → ℕ → ℕ → ℕ → Option (List ℕ) → Type 0
CannotRead words files source source' shelf shelf' failed_name =
    Rose source source' ⊎ ((name : List ℕ) × LooksAt words files name × CannotLoad files shelf shelf' failed_name name)

-- no count of faults rises but where the status says that a read or a write failed
pub record KeepsCounts (status : Status) (source source' shelf shelf' sink sink' : ℕ) : Type 0 where
  pub source_well : OnFalse (ended_by_read status) (source' ≡ source)
  pub shelf_well : OnFalse (ended_by_read status) (shelf' ≡ shelf)
  pub sink_cause : HasCause sink sink' (ended_by_write status)

-- no count of faults rose
pub record NoneRose (source source' shelf shelf' sink sink' : ℕ) : Type 0 where
  pub source_still : Rose source source' → ⊥
  pub shelf_still : Rose shelf shelf' → ⊥
  pub sink_still : Rose sink sink' → ⊥

-- an input within its size, or one in which a line ends within that size that ends the session
abbrev pub IsWithin : List ℕ → Type 0
IsWithin bytes = (length bytes ≤ 16777216) ⊎ HasQuit (whole_lines_of (take (2 ^ 24) bytes))

-- The words are of the form, the files that they name are told and of the notation, the build refuses nothing, and the input is told and within its size.
pub record MayBeDone (words : List (List ℕ)) (files : Option Files) (left : Option (List ℕ)) : Type 0 where
  pub told : (f : Files) × (files ≡ Some f)
  pub session : HaveSession words files
  pub input : (bytes : List ℕ) × (left ≡ Some bytes) × IsWithin bytes
