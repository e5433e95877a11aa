-- What the reader of the command line's words holds, as the definitions have it.
use Rattle.std.specs.Prelude.{ℕ, List, ◌++◌, map, Option, Some, None, option_map, cond, codes}
use Rattle.patr_model.specs.Run.{Setup as SetupMeant}
use Rattle.patr_model.specs.CommandLine.{Flag as FlagMeant, Workers as IsWorkers, Limit as IsLimit, WordKind as KindMeant, EndOfOptions as IsEndOfOptions, Opens as DoesOpen, Holds as DoesHold, NoOption as IsNoOption, Name as IsName, Said as SaidMeant, begins_with_dash, behind, holds_or, only, said}
use Rattle.patr_shell.specs.declared.command_line.Setup.{Setup}
use Rattle.patr_shell.specs.declared.command_line.Flag.{Flag}
use Rattle.patr_shell.specs.declared.command_line.Flag.TheVariants.{Workers, Limit}
use Rattle.patr_shell.specs.declared.command_line.WordKind.{WordKind}
use Rattle.patr_shell.specs.declared.command_line.WordKind.TheVariants.{EndOfOptions, Opens, Holds, NoOption, Name}
use Rattle.patr_shell.specs.declared.command_line.NextWord.{NextWord}
use Rattle.patr_shell.specs.declared.command_line.NextWord.TheVariants as next_word
use Rattle.patr_shell.specs.declared.command_line.Said.{Said}

-- a setup
abbrev pub setup_meant : Setup → SetupMeant
setup_meant s = record { grammar = s.grammar.now; lexicon = s.lexicon.now; limit = s.limit }

-- the setup that is found
abbrev pub setup_seen : Option Setup → Option SetupMeant
setup_seen None = None
setup_seen (Some s) = Some (setup_meant s)

-- an option
abbrev pub flag_seen : Flag → FlagMeant
flag_seen Workers = IsWorkers
flag_seen Limit = IsLimit

-- what a word is
abbrev pub kind_seen : WordKind → KindMeant
kind_seen EndOfOptions = IsEndOfOptions
kind_seen (Opens flag) = DoesOpen (flag_seen flag)
kind_seen (Holds flag value) = DoesHold (flag_seen flag) value.now
kind_seen NoOption = IsNoOption
kind_seen Name = IsName

-- what a word is that is neither `--` nor an option alone
abbrev pub other_kind : List ℕ → KindMeant
other_kind w = holds_or IsWorkers (behind (codes "--workers=") w) (holds_or IsLimit (behind (codes "--limit=") w) (cond (begins_with_dash w) IsNoOption IsName))

-- what is said
abbrev pub said_seen : Said → SaidMeant
said_seen s = record { names = map (λ w. w.now) s.names.items; workers = map (λ w. w.now) s.workers.items; limits = map (λ w. w.now) s.limits.items }

-- what is said first, and then the rest
abbrev pub said_then : SaidMeant → SaidMeant → SaidMeant
said_then s t = record { names = s.names ++ t.names; workers = s.workers ++ t.workers; limits = s.limits ++ t.limits }

-- what words say, of which the first is taken so
abbrev pub said_from : NextWord → List (List ℕ) → Option SaidMeant
said_from next_word.Any ws = said None ws
said_from (next_word.Value flag) ws = said (Some (flag_seen flag)) ws
said_from next_word.Name ws = Some (only ws)

-- what is said so far, and what the words say behind it, unless a word is of no form
abbrev pub said_in_all : Said → Option NextWord → List (List ℕ) → Option SaidMeant
said_in_all s None ws = None
said_in_all s (Some next) ws = option_map (said_then (said_seen s)) (said_from next ws)
