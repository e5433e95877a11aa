-- Laws that something is there, each the contract of a function with an empty body.
use Rattle.std.specs.Prelude.{◌≡◌, ◌⊎◌, ◌↔◌, ℕ, Bool, List, Option, Some}
use Rattle.std.specs.List.{AllByRecursion}
use Rattle.patr_model.specs.Structure.{Value, Structure, IsValue, IsStructure}
use Rattle.patr_model.specs.Subsumption.{TakesBoth, IsUnifier}
use Rattle.patr_model.specs.Derivation.{Rules, EntryVariant, entry_variant, Derivation}
use Rattle.patr_model.specs.Solution.{IsSolvable, IsLeastValue}
use Rattle.patr_model.specs.Chart.{InChart, IsChart, HasMoreThan, IsDerivation, IsAnalysis}
use Rattle.patr_model.specs.Solved.{solved}
use Rattle.patr_model.specs.Plain.{plain, IsBare}
use Rattle.patr_model.specs.Variants.{AreWithin}
use Rattle.patr_model.specs.Laws.{StatesCategories}
use Rattle.patr_model.specs.Builds.{HasCategories, StaysWithin, AreBuilt}
use Rattle.patr_model.specs.Session.{Numbering, Grounds, State, cat_of, Command, Limit, Features, Count, Show, Grammar, Make, Quit, LineForms, IsSentenceReply, Replied}
use Rattle.patr_model.specs.Run.{Ending, Notations, IsOut}
use Rattle.patr_model.specs.Stages.{Stage}
use Rattle.patr_model.specs.Notations.{lines_with_commands, notations}
use Rattle.patr_model.specs.Built.{built}

-- ---- unifiers

-- there is a unifier
abbrev pub HasUnifier : Structure → Value → List ℕ → Structure → Value → Type 0
HasUnifier L l p R r = (U : Structure) × (u : Value) × IsUnifier L l p R r U u

-- nothing takes both sides
abbrev pub HasNoTaker : Structure → Value → List ℕ → Structure → Value → Type 0
HasNoTaker L l p R r = (G : Structure) (g : Value) → TakesBoth L l p R r G g → ⊥

-- two values, the second one at a path from the first, have a unifier, or no structure takes both
abbrev pub UnifiersAreDecided : Type 0
UnifiersAreDecided = (L : Structure) (l : Value) (p : List ℕ) (R : Structure) (r : Value)
    → IsStructure L → IsValue L l → IsStructure R → IsValue R r
    → HasUnifier L l p R r ⊎ HasNoTaker L l p R r

-- ---- variants, derivations and charts

-- What is asked of variants: their equations begin with categories and speak of what is there,
-- and those of an entry's lexical rules of the two sides of such a rule.
pub record AreReady (g : Rules) (cat : ℕ) : Type 0 where
  pub categories : HasCategories g cat
  pub states : StatesCategories g cat
  pub within : StaysWithin g
  pub chains : (e k : ℕ) (entry : EntryVariant) → entry_variant g e k ≡ Some entry
      → AllByRecursion (AreWithin 2) entry.chain

-- what a build makes is so
abbrev pub BuildsAreReady : Type 0
BuildsAreReady = (g : Rules) (cat : ℕ) → AreBuilt g cat → AreReady g cat

-- the derivation has a least value
abbrev pub HasLeast : Rules → Derivation → Type 0
HasLeast g t = (M : Structure) × (m : Value) × IsLeastValue g t M m

-- over such variants, each derivation has a least value, or no solution
abbrev pub LeastValuesAreDecided : Type 0
LeastValuesAreDecided = (g : Rules) (cat : ℕ) → AreReady g cat → (ws : List ℕ) (t : Derivation)
    → IsDerivation g ws t → HasLeast g t ⊎ (IsSolvable g t → ⊥)

-- a sentence's closed chart is this list, and has no more edges than the limit
abbrev pub IsWholeChart : Rules → ℕ → List ℕ → ℕ → List Derivation → Type 0
IsWholeChart g cat ws n ts =
    IsChart (solved g cat) g ws ts × (HasMoreThan (solved g cat) g ws n → ⊥)

-- over such variants, a closed chart has more edges than the limit, or it is a list and has not
abbrev pub ChartsAreDecided : Type 0
ChartsAreDecided = (g : Rules) (cat : ℕ) → AreReady g cat → (ws : List ℕ) (n : ℕ)
    → HasMoreThan (solved g cat) g ws n ⊎ ((ts : List Derivation) × IsWholeChart g cat ws n ts)

-- over such variants, prediction drops no analysis: each is an edge of the closed chart
abbrev pub PredictionDropsNone : Type 0
PredictionDropsNone = (g : Rules) (cat : ℕ) → AreReady g cat → (ws : List ℕ) (t : Derivation)
    → IsAnalysis (solved g cat) g ws t → InChart (solved g cat) g ws t

-- without written equations, categories alone give the edges that solutions give
abbrev pub PlainChartsAreSolved : Type 0
PlainChartsAreSolved = (g : Rules) (cat : ℕ) → IsBare g cat → (ws : List ℕ) (t : Derivation)
    → InChart (plain g) g ws t ↔ InChart (solved g cat) g ws t

-- ---- replies and runs

-- over such variants, each sentence has a reply
abbrev pub SentencesHaveReplies : Type 0
SentencesHaveReplies = (s : Grounds) → AreReady s.rules (cat_of s)
    → (st : State) (ws : List (List ℕ))
    → (text : List ℕ) × IsSentenceReply solved s st ws text

-- the command speaks of the grammar
abbrev pub SpeaksOfGrammar : Command → Type 0
SpeaksOfGrammar (Limit n) = ⊥
SpeaksOfGrammar (Features b) = ⊥
SpeaksOfGrammar (Count b) = ⊥
SpeaksOfGrammar (Show w) = Unit {0}
SpeaksOfGrammar Grammar = Unit {0}
SpeaksOfGrammar (Make n) = Unit {0}
SpeaksOfGrammar Quit = ⊥

-- each command of the forms that speaks of the grammar has a reply
abbrev pub IsAnswered : LineForms → Grounds → Type 0
IsAnswered forms s = (st : State) (ws : List (List ℕ)) (c : Command)
    → forms.command ws ≡ Some c → SpeaksOfGrammar c → (x : List ℕ) × forms.more s st c x

-- over such variants, the lines of a session have replies
abbrev pub SessionsHaveReplies : Type 0
SessionsHaveReplies = (s : Grounds) → AreReady s.rules (cat_of s)
    → (st : State) (ls : List (List ℕ))
    → (text : List ℕ) × (quit : Bool) × Replied solved lines_with_commands s st ls text quit

-- Under each numbering the run comes to this text and this ending, and under none to anything else.
pub record IsOnlyOut (notation : Notations) (words : List (List ℕ)) (files : List ℕ → Option (List ℕ))
    (input text : List ℕ) (ending : Ending) : Type 0 where
  pub is : (N : Numbering) → IsOut notation N words files input text ending
  pub only : (N : Numbering) (x : List ℕ) (e : Ending) → IsOut notation N words files input x e
      → (x ≡ text) × (e ≡ ending)

-- what a run writes, and how it ends, is a function of its words, files and input
abbrev pub WritesOne : Notations → Type 0
WritesOne notation = (words : List (List ℕ)) (files : List ℕ → Option (List ℕ)) (input : List ℕ)
    → (text : List ℕ) × (ending : Ending) × IsOnlyOut notation words files input text ending

-- so it is as runs are built, and at each stage
pub record WhatARunWritesIsOne : Type 0 where
  pub as_built : WritesOne built
  pub at_stages : (stage : Stage) → WritesOne (notations stage lines_with_commands)
