-- What a run comes to is one thing, for each numbering and for all.
use Rattle.std.specs.Prelude.{◌≡◌, ℕ, List, [], ◌∷◌, ◌++◌, Bool, Option}
use Rattle.patr_model.specs.Session.{Numbering, AgreesWith, Grounds, State, LineForms, Judge, IsQuit, IsLineReply, Replied}
use Rattle.patr_model.specs.Run.{Ending, Notations, Opening, IsOpening, IsOut}
use Rattle.patr_model.specs.Solved.{solved}
use Rattle.patr_model.specs.Stages.{Stage}
use Rattle.patr_model.specs.Notations.{lines_with_commands, notations}
use Rattle.patr_model.specs.Table.{IsTable}

-- the words and the files come to one opening
abbrev pub HasOneOpening : Notations → Type 0
HasOneOpening notation = (N : Numbering) (words : List (List ℕ)) (files : List ℕ → Option (List ℕ)) (o o' : Opening)
    → IsOpening notation N words files o → IsOpening notation N words files o' → o ≡ o'

-- a run has one text and one ending, whichever numberings it is read under
abbrev pub HasOneOut : Notations → Type 0
HasOneOut notation = (N N' : Numbering) (words : List (List ℕ)) (files : List ℕ → Option (List ℕ)) (input x y : List ℕ) (e f : Ending)
    → IsOut notation N words files input x e → IsOut notation N' words files input y f → (x ≡ y) × (e ≡ f)

-- so it is at each stage
abbrev pub OpeningsAreOne : Type 0
OpeningsAreOne = (stage : Stage) → HasOneOpening (notations stage lines_with_commands)

-- the replies to lines none of which ends the session, from one state to another
abbrev pub Answered : Judge → LineForms → Grounds → State → List (List ℕ) → List ℕ → State → Type 0
Answered judge forms s st [] text end = (text ≡ []) × (end ≡ st)
Answered judge forms s st (l ∷ ls) text end =
    (IsQuit forms l → ⊥) × (x : List ℕ) × (mid : State) × (rest : List ℕ) × IsLineReply judge forms s st l x mid × Answered judge forms s mid ls rest end × (text ≡ x ++ rest)

-- The replies to the first lines of a session begin each of its texts, and what follows is a text of the session from there on.
pub record RepliesBegin (judge : Judge) (forms : LineForms) (s : Grounds) : Type 0 where
  pub begins : (st end : State) (ls rest : List (List ℕ)) (before text : List ℕ) (quit : Bool) → Answered judge forms s st ls before end → Replied judge forms s st (ls ++ rest) text quit
      → (after : List ℕ) × (text ≡ before ++ after) × Replied judge forms s end rest after quit
  pub goes_on : (st end : State) (ls rest : List (List ℕ)) (before after : List ℕ) (quit : Bool) → Answered judge forms s st ls before end → Replied judge forms s end rest after quit
      → Replied judge forms s st (ls ++ rest) (before ++ after) quit

-- so it is with sentences and the commands of a session
abbrev pub SessionRepliesBegin : Type 0
SessionRepliesBegin = (s : Grounds) → RepliesBegin solved lines_with_commands s

-- each table of different texts has a numbering that agrees with it
abbrev pub TablesAreNumbered : Type 0
TablesAreNumbered = (table : List (List ℕ)) → IsTable table → (N : Numbering) × AgreesWith N table
