-- Rules and structures under another numbering of the symbols. Numbers are one symbol's where they are numbers of one text; all else is compared piece by piece.
--     AreOne N N' a b        a is for N what b is for N'
--     SameRules, SameGrounds the same for rules, and for what a session stands on
--     SameStructure          the same for structures, place by place
use Rattle.std.specs.Prelude.{◌≡◌, ℕ, List, [], ◌∷◌, Bool, Option, Some, None}
use Rattle.patr_model.specs.Structure.{Value, Atom, Node, Arc, Structure}
use Rattle.patr_model.specs.Equation.{SlotPath, Term, AtomOf, PathOf, Equation}
use Rattle.patr_model.specs.Derivation.{Rules, RuleVariant, EntryVariant}
use Rattle.patr_model.specs.Grammar.{Row, Rows, Done, One, OneOf, Optional, None', Or}
use Rattle.patr_model.specs.Solved.{solved}
use Rattle.patr_model.specs.Session.{Numbering, Grounds, State, Judge, LineForms, IsSentenceReply, IsLineReply, Replied}
use Rattle.patr_model.specs.Run.{Ending, Notations, IsOut}
use Rattle.patr_model.specs.Stages.{Stage}
use Rattle.patr_model.specs.Notations.{lines_with_commands, notations}

-- lists of one length, whose members belong together
abbrev pub Each : {X Y : Type 0} → (X → Y → Type 0) → List X → List Y → Type 0
Each R [] [] = Unit {0}
Each R [] (y ∷ ys) = ⊥
Each R (x ∷ xs) [] = ⊥
Each R (x ∷ xs) (y ∷ ys) = R x y × Each R xs ys

-- both are nothing, or things that belong together
abbrev pub Both : {X Y : Type 0} → (X → Y → Type 0) → Option X → Option Y → Type 0
Both R None None = Unit {0}
Both R None (Some y) = ⊥
Both R (Some x) None = ⊥
Both R (Some x) (Some y) = R x y

module _ (N N' : Numbering) where
  -- numbers of one text
  abbrev pub AreOne : ℕ → ℕ → Type 0
  AreOne a b = (t : List ℕ) × (a ≡ N.number t) × (b ≡ N'.number t)

  -- the same path from a slot
  pub record SamePath (p q : SlotPath) : Type 0 where
    pub slot : p.slot ≡ q.slot
    pub path : Each AreOne p.path q.path

  -- the same right side of an equation: one atom, or one path
  abbrev pub SameTerm : Term → Term → Type 0
  SameTerm (AtomOf c) (AtomOf d) = AreOne c d
  SameTerm (AtomOf c) (PathOf q) = ⊥
  SameTerm (PathOf p) (AtomOf d) = ⊥
  SameTerm (PathOf p) (PathOf q) = SamePath p q

  -- the same path equation
  pub record SameEquation (e f : Equation) : Type 0 where
    pub left : SamePath e.left f.left
    pub right : SameTerm e.right f.right

  -- the same rule variant: categories and equations are the same one by one
  pub record SameRule (r s : RuleVariant) : Type 0 where
    pub categories : Each AreOne r.categories s.categories
    pub equations : Each SameEquation r.equations s.equations

  -- the same entry variant: word, category, equations and chain of lexical rules
  pub record SameEntry (e f : EntryVariant) : Type 0 where
    pub word : AreOne e.word f.word
    pub category : AreOne e.category f.category
    pub equations : Each SameEquation e.equations f.equations
    pub chain : Each (Each SameEquation) e.chain f.chain

  -- the same rules and entries, start symbol and restrictor
  pub record SameRules (g h : Rules) : Type 0 where
    pub rules : Each (Each SameRule) g.rules h.rules
    pub entries : Each (Each SameEntry) g.entries h.entries
    pub start : AreOne g.start h.start
    pub restrictor : Each (Each AreOne) g.restrictor h.restrictor

  -- places are numbered as they were
  abbrev pub SameValue : Value → Value → Type 0
  SameValue (Atom c) (Atom d) = AreOne c d
  SameValue (Atom c) (Node k) = ⊥
  SameValue (Node n) (Atom d) = ⊥
  SameValue (Node n) (Node k) = n ≡ k

  -- the same attribute, and the same value
  pub record SameArc (e f : Arc) : Type 0 where
    pub attribute : AreOne e.attribute f.attribute
    pub to : SameValue e.to f.to

  -- the same feature structure, place by place and arc by arc
  abbrev pub SameStructure : Structure → Structure → Type 0
  SameStructure S T = Each (Each SameArc) S T

-- rows of the same shape, whose single things belong together
abbrev mutual
  pub SameRow : {X Y : Type 0} → (X → Y → Type 0) → Row X → Row Y → Type 0
  SameRow R Done Done = Unit {0}
  SameRow R (One x xs) (One y ys) = R x y × SameRow R xs ys
  SameRow R (OneOf rows xs) (OneOf rows' ys) = SameRows' R rows rows' × SameRow R xs ys
  SameRow R (Optional rows xs) (Optional rows' ys) = SameRows' R rows rows' × SameRow R xs ys
  SameRow R _ _ = ⊥

  -- choices of the same shape, whose single things belong together
  pub SameRows' : {X Y : Type 0} → (X → Y → Type 0) → Rows X → Rows Y → Type 0
  SameRows' R None' None' = Unit {0}
  SameRows' R (Or x xs) (Or y ys) = SameRow R x y × SameRows' R xs ys
  SameRows' R _ _ = ⊥

-- what a session stands on, with another numbering
pub record SameGrounds (s s' : Grounds) : Type 0 where
  pub rules : SameRules s.names s'.names s.rules s'.rules
  pub order : Each (AreOne s.names s'.names) s.order s'.order

-- Replies do not depend on the numbering.
pub record RepliesAgree (judge : Judge) (forms : LineForms) (s s' : Grounds) : Type 0 where
  pub sentence : (st : State) (ws : List (List ℕ)) (x : List ℕ) → IsSentenceReply judge s st ws x → IsSentenceReply judge s' st ws x
  pub one : (st : State) (ws : List (List ℕ)) (x y : List ℕ) → IsSentenceReply judge s st ws x → IsSentenceReply judge s' st ws y → x ≡ y
  pub line : (st : State) (bytes : List ℕ) (x : List ℕ) (st' : State) → IsLineReply judge forms s st bytes x st' → IsLineReply judge forms s' st bytes x st'
  pub session : (st : State) (lines : List (List ℕ)) (x : List ℕ) (quit : Bool) → Replied judge forms s st lines x quit → Replied judge forms s' st lines x quit
  pub one_line : (st : State) (bytes : List ℕ) (x y : List ℕ) (a b : State) → IsLineReply judge forms s st bytes x a → IsLineReply judge forms s' st bytes y b → (x ≡ y) × (a ≡ b)
  pub one_session : (st : State) (lines : List (List ℕ)) (x y : List ℕ) (quit quit' : Bool) → Replied judge forms s st lines x quit → Replied judge forms s' st lines y quit' → (x ≡ y) × (quit ≡ quit')

-- Replies do not depend on how symbols are numbered.
abbrev pub RepliesIgnoreNumbers : Type 0
RepliesIgnoreNumbers = (s s' : Grounds) → SameGrounds s s' → RepliesAgree solved lines_with_commands s s'

-- Nor does what a run writes, and how it ends. There is no premise: both numberings are any.
abbrev pub IgnoresNumbers : Notations → Type 0
IgnoresNumbers notation = (N N' : Numbering) (words : List (List ℕ)) (files : List ℕ → Option (List ℕ)) (input text : List ℕ) (ending : Ending)
    → IsOut notation N words files input text ending → IsOut notation N' words files input text ending

-- so it is at each stage
abbrev pub RunsIgnoreNumbers : Type 0
RunsIgnoreNumbers = (stage : Stage) → IgnoresNumbers (notations stage lines_with_commands)
