-- What the two files of a run are read as, and what is built from them.
use Rattle.std.specs.Prelude.{◌≡◌, ◌⊎◌, ◌≤◌, ℕ, List, length, Option, Some, codes, string_bytes}
use Rattle.patr_io.specs.Files.{Files, HasFile}
use Rattle.patr_model.specs.Build as model
use Rattle.patr_model.specs.Agreeing.{SameExpandFault}
use Rattle.patr_model.specs.Build.{ExpandFault, build_fault, expand_fault_line}
use Rattle.patr_grammar.specs.Reading.{IsText, StandsFor}
use Rattle.patr_grammar.specs.declared.grammar.Grammar.{Grammar as GrammarText}
use Rattle.patr_lexicon.specs.Reading.{StandsFor as StandForEntries}
use Rattle.patr_lexicon.specs.declared.lexicon.Entry.{Entry}
use Rattle.patr_expand.specs.declared.cause.ExpandCause.{ExpandCause}
use Rattle.patr_expand.specs.Seen.{cause_seen}
use Rattle.patr_library.specs.Stored.{grammar_of, entries_of, same, IsBuiltFrom}
use Rattle.patr_shell.specs.Spoken.{Spoken}
use Rattle.patr_shell.specs.Outcome.{IsNoGrammar, IsNoLexicon}
use Rattle.patr_shell.specs.declared.status.GrammarTrouble.TheVariants as grammar_trouble
use Rattle.patr_shell.specs.declared.status.LexiconTrouble.TheVariants as lexicon_trouble
use Rattle.patr_shell.specs.declared.refusal.OpeningFault.{OpeningFault}
use Rattle.patr_shell.specs.declared.refusal.OpeningFault.TheVariants.{Refused, Read, Memory}
use Rattle.patr_shell.specs.declared.refusal.Refusal.TheVariants.{Grammar, Lexicon}

-- a file could not be loaded, or memory was short
abbrev pub IsLoadFault : OpeningFault → Type 0
IsLoadFault fault = (fault ≡ Read) ⊎ (fault ≡ Memory)

-- the file of this name has no more than this many bytes, and they stand for what was read, by the table
pub record IsReadFrom {Y : Type 0} (files : Option Files) (name : List ℕ) (most : ℕ) (StandFor : List (List ℕ) → List ℕ → Y → Type 0) (table : List (List ℕ)) (read : Y) : Type 0 where
  pub bytes : List ℕ
  pub file : HasFile files name bytes
  pub short : length bytes ≤ most
  pub stands : StandFor table bytes read

-- the file of this name was read as this grammar, by the table
abbrev pub ReadsGrammar : Option Files → List ℕ → List (List ℕ) → GrammarText → Type 0
ReadsGrammar files name table grammar = IsReadFrom files name 4194304 StandsFor table grammar

-- the file of this name was not read as a grammar
abbrev pub IsGrammarFault : Option Files → List ℕ → OpeningFault → Type 0
IsGrammarFault files name (Refused (Grammar trouble) told) = IsNoGrammar files name trouble (string_bytes told)
IsGrammarFault files name fault = IsLoadFault fault

-- the file of this name was read as these entries, by the table
abbrev pub ReadsLexicon : Option Files → List ℕ → List (List ℕ) → List Entry → Type 0
ReadsLexicon files name table entries = IsReadFrom files name 16777216 StandForEntries table entries

-- the file of this name was not read as a lexicon
abbrev pub IsLexiconFault : Option Files → List ℕ → OpeningFault → Type 0
IsLexiconFault files name (Refused (Lexicon trouble) told) = IsNoLexicon files name trouble (string_bytes told)
IsLexiconFault files name fault = IsLoadFault fault

-- the language has these symbols, and the library of the grammar and the entries
pub record IsBuiltOf (table : List (List ℕ)) (g : GrammarText) (l : List Entry) (s : Spoken) : Type 0 where
  pub texts : s.texts ≡ table
  pub library : IsBuiltFrom g l s.library

-- the cause is this fault by the table, and this line tells it of a file
abbrev pub IsToldOf : List (List ℕ) → List ℕ → ExpandCause → ExpandFault (List ℕ) → List ℕ → Type 0
IsToldOf table file cause f text = SameExpandFault (IsText table) (cause_seen cause) f × (text ≡ expand_fault_line file f)

-- the build refuses a template, a rule or an entry, which a line tells by the table, or memory was short
abbrev pub IsBuildFault : List (List ℕ) → GrammarText → List Entry → OpeningFault → Type 0
IsBuildFault table g l (Refused (Grammar (grammar_trouble.Expand c)) told) =
    (build_fault same (grammar_of g) (entries_of l) ≡ Some (model.InGrammar (cause_seen c))) × (f : ExpandFault (List ℕ)) × IsToldOf table (codes "grammar") c f (string_bytes told)
IsBuildFault table g l (Refused (Lexicon (lexicon_trouble.Expand c)) told) =
    (build_fault same (grammar_of g) (entries_of l) ≡ Some (model.InLexicon (cause_seen c))) × (f : ExpandFault (List ℕ)) × IsToldOf table (codes "lexicon") c f (string_bytes told)
IsBuildFault table g l fault = fault ≡ Memory
