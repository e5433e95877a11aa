-- What a session stands on, as it is held, and its state.
--     grounds N s      what the definitions say that a session stands on
--     state_seen st    the state as the definitions see it
use Rattle.std.specs.Prelude.{ℕ, ◌≤◌, false, List, length}
use Rattle.patr_model.specs.Session as session
use Rattle.patr_model.specs.Session.{Numbering, Grounds}
use Rattle.patr_text.specs.Texts.{first_texts, Extends}
use Rattle.patr_library.specs.Stored.{Stored}
use Rattle.patr_reply.specs.Held.{AreHeldBy}
use Rattle.patr_reply.specs.Lines as library
use Rattle.patr_shell.specs.declared.state.State.{State}
use Rattle.patr_shell.specs.declared.command.Command.{Command}
use Rattle.patr_shell.specs.declared.command.Command.TheVariants.{Limit, Features, Count, Show, Quit}

-- the texts of symbols by their numbers, and the library of a grammar and a lexicon with these symbols
pub record Spoken : Type 0 where
  pub texts : List (List ℕ)
  pub library : Stored

-- the table has the symbols that every one begins with, and those of the library
pub record HasSymbols (s : Spoken) : Type 0 where
  pub first : Extends first_texts s.texts
  pub held : AreHeldBy (length s.texts) s.library

-- what a session stands on, by a numbering
abbrev pub grounds : Numbering → Spoken → Grounds
grounds N s = library.grounds N s.library

-- the state of a session
abbrev pub state_seen : State → session.State
state_seen st = record { limit = st.limit; features = st.features; count = st.count }

-- the state of a session that begins under this limit: both switches are off
abbrev pub at_first : ℕ → session.State
at_first n = record { limit = n; features = false; count = false }

-- a limit on edges that may be set
abbrev pub HasLimit : State → Type 0
HasLimit st = (1 ≤ st.limit) × (st.limit ≤ 200000)

-- a command
abbrev pub command_seen : Command → session.Command
command_seen (Limit n) = session.Limit n
command_seen (Features b) = session.Features b
command_seen (Count b) = session.Count b
command_seen (Show w) = session.Show w.now
command_seen Quit = session.Quit

-- the number of a command, where it has one, is a limit on edges that may be set
abbrev pub MayBeSet : Command → Type 0
MayBeSet (Limit n) = (1 ≤ n) × (n ≤ 200000)
MayBeSet _ = Unit {0}
