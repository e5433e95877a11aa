-- What a run writes, and how it ends.
use Rattle.std.specs.Prelude.{◌≡◌, ◌⊎◌, ℕ, ◌<◌, ◌≤◌, ◌^◌, List, [], ◌++◌, length, take, Bool, true, false, Option, Some, None, codes}
use Rattle.patr_model.specs.Session.{Numbering, Grounds, State, LineForms, Judge, Replied, line, lines_of, whole_lines_of}

-- how a run ends where memory and files don't fail it
pub data Ending : Type 0 where
  Done : Ending
  BadWords : Ending
  BadGrammar : Ending
  BadLexicon : Ending
  NotRead : Ending
  InputTooLong : Ending

-- the words of the command line as they are meant
pub record Setup : Type 0 where
  pub grammar : List ℕ
  pub lexicon : List ℕ
  pub limit : ℕ

-- The notations that a run reads, each as a relation, with the fault line of what is refused.
pub record Notations : Type 1 where
  pub grammar_text : Type 0
  pub lexicon_text : Type 0
  pub words : List (List ℕ) → Option Setup
  pub reads_grammar : Numbering → List ℕ → grammar_text → Type 0
  pub grammar_fault : Numbering → List ℕ → List ℕ → Type 0
  pub reads_lexicon : Numbering → List ℕ → lexicon_text → Type 0
  pub lexicon_fault : Numbering → List ℕ → List ℕ → Type 0
  -- what the build refuses, with its fault line and ending, and what it makes
  pub refuses : Numbering → grammar_text → lexicon_text → List ℕ → Ending → Type 0
  pub builds : Numbering → grammar_text → lexicon_text → Grounds → Type 0
  pub judge : Judge
  pub lines : LineForms

-- What the words and the files come to: a session, or a text and an ending before it.
pub data Opening : Type 0 where
  Session : Grounds → State → Opening
  Refusal : List ℕ → Ending → Opening

-- the line on words of another form
abbrev pub usage : List ℕ
usage = line (codes "usage: patr GRAMMAR LEXICON [--workers N] [--limit N]")

-- both switches are off at first
abbrev pub first_state : Setup → State
first_state setup = record { limit = setup.limit; features = false; count = false }

module _ (notation : Notations) where
  -- what a grammar that is read comes to, by the first that fits: the lexicon's load, its reading, the build
  pub data AfterGrammar (N : Numbering) (setup : Setup) (g : notation.grammar_text) (bytes : Option (List ℕ)) (opening : Opening) : Type 0 where
    absent : bytes ≡ None → opening ≡ Refusal [] NotRead → AfterGrammar N setup g bytes opening
    long : (b : List ℕ) → bytes ≡ Some b → 16777216 < length b → opening ≡ Refusal (line (codes "error: lexicon: more than 16777216 bytes")) BadLexicon → AfterGrammar N setup g bytes opening
    fault : (b : List ℕ) → bytes ≡ Some b → length b ≤ 16777216 → (text : List ℕ) → notation.lexicon_fault N b text → opening ≡ Refusal text BadLexicon → AfterGrammar N setup g bytes opening
    refused : (b : List ℕ) (l : notation.lexicon_text) → bytes ≡ Some b → length b ≤ 16777216 → notation.reads_lexicon N b l → (text : List ℕ) (ending : Ending) → notation.refuses N g l text ending
        → opening ≡ Refusal text ending → AfterGrammar N setup g bytes opening
    built : (b : List ℕ) (l : notation.lexicon_text) (s : Grounds) → bytes ≡ Some b → length b ≤ 16777216 → notation.reads_lexicon N b l → notation.builds N g l s
        → opening ≡ Session s (first_state setup) → AfterGrammar N setup g bytes opening

  -- what two names come to, by the first that fits: the grammar's load, its reading, and what it comes to
  pub data AfterWords (N : Numbering) (setup : Setup) (files : List ℕ → Option (List ℕ)) (opening : Opening) : Type 0 where
    absent : files setup.grammar ≡ None → opening ≡ Refusal [] NotRead → AfterWords N setup files opening
    long : (b : List ℕ) → files setup.grammar ≡ Some b → 4194304 < length b → opening ≡ Refusal (line (codes "error: grammar: more than 4194304 bytes")) BadGrammar → AfterWords N setup files opening
    fault : (b : List ℕ) → files setup.grammar ≡ Some b → length b ≤ 4194304 → (text : List ℕ) → notation.grammar_fault N b text → opening ≡ Refusal text BadGrammar → AfterWords N setup files opening
    read : (b : List ℕ) (g : notation.grammar_text) → files setup.grammar ≡ Some b → length b ≤ 4194304 → notation.reads_grammar N b g
        → AfterGrammar N setup g (files setup.lexicon) opening → AfterWords N setup files opening

  -- what these words over these files come to
  abbrev pub IsOpening : Numbering → List (List ℕ) → (List ℕ → Option (List ℕ)) → Opening → Type 0
  IsOpening N words files opening =
      ((notation.words words ≡ None) × (opening ≡ Refusal usage BadWords))
      ⊎ ((setup : Setup) × (notation.words words ≡ Some setup) × AfterWords N setup files opening)

  -- the session over an input, from what the build made
  pub data IsSession (s : Grounds) (st : State) (input : List ℕ) (text : List ℕ) (ending : Ending) : Type 0 where
    ended : length input ≤ 2 ^ 24 → (quit : Bool) → Replied notation.judge notation.lines s st (lines_of input) text quit → ending ≡ Done → IsSession s st input text ending
    quit : 2 ^ 24 < length input → Replied notation.judge notation.lines s st (whole_lines_of (take (2 ^ 24) input)) text true → ending ≡ Done → IsSession s st input text ending
    too_long : 2 ^ 24 < length input → (before : List ℕ) → Replied notation.judge notation.lines s st (whole_lines_of (take (2 ^ 24) input)) before false
        → text ≡ before ++ line (codes "error: input longer than 16777216 bytes") → ending ≡ InputTooLong → IsSession s st input text ending

  -- what a run writes from its opening on, and how it ends
  abbrev pub Follows : Opening → List ℕ → List ℕ → Ending → Type 0
  Follows (Session s st) input text ending = IsSession s st input text ending
  Follows (Refusal before e) input text ending = (text ≡ before) × (ending ≡ e)

  -- what a run with these words over these files and this input writes, and how it ends
  abbrev pub IsOut : Numbering → List (List ℕ) → (List ℕ → Option (List ℕ)) → List ℕ → List ℕ → Ending → Type 0
  IsOut N words files input text ending = (opening : Opening) × IsOpening N words files opening × Follows opening input text ending
