-- What a text builds, whichever tree it is written of.
--     HasBuilt       the reader has what the text's tree builds
--     IsReadBelow    symbols of what was read have texts
use Rattle.std.specs.Prelude.{◌≡◌, ℕ, ◌<◌, List, [], Option, Some, None}
use Rattle.std.specs.List.{AllByRecursion}
use Rattle.std.specs.Option.{option_map}
use Rattle.patr_model.specs.Items.{text_of}
use Rattle.patr_model.specs.Laws.{OfValue}
use Rattle.patr_model.specs.Reading.{built}
use Rattle.patr_model.specs.Stack.{Building, Half, events}
use Rattle.patr_model.specs.Structure.{Value, Arc, Arcs}
use Rattle.patr_model.specs.Text.{Look, Outline}
use Rattle.patr_canon.specs.declared.reader.Reader.{Reader}
use Rattle.patr_canon.specs.Items.{EventFits, IsLookOf}
use Rattle.patr_canon.specs.Readers.{nodes_seen, target_seen}

-- the root and the nodes are those that the tree builds
abbrev pub IsBuiltOf : Reader → Outline ℕ → Type 0
IsBuiltOf r o = (option_map target_seen r.root ≡ Some (built o [] []).value) × (nodes_seen r.nodes.items ≡ (built o [] []).nodes)

-- the tree has this text, by some Look of the table, and its numbers are below 2^32
pub record IsWritten (table : List (List ℕ)) (text : List ℕ) (o : Outline ℕ) : Type 0 where
  pub look : Look
  pub is_look : IsLookOf table look
  pub fits : AllByRecursion EventFits (events o)
  pub text_is : text_of look (events o) ≡ text

-- of each tree that has the text, the reader has what it builds; where there is no reader, no tree has the text
abbrev pub HasBuilt : List (List ℕ) → List ℕ → Option Reader → Type 0
HasBuilt table text None = (o : Outline ℕ) → IsWritten table text o → ⊥
HasBuilt table text (Some r) = (o : Outline ℕ) → IsWritten table text o → IsBuiltOf r o

-- the attribute and the atom of an arc are numbers below n
abbrev pub ArcIsBelow : ℕ → Arc → Type 0
ArcIsBelow n e = (e.attribute < n) × OfValue (λ c. c < n) e.to

-- the attributes and atoms of arcs are numbers below n
abbrev pub ArcsAreBelow : ℕ → Arcs → Type 0
ArcsAreBelow n es = AllByRecursion (ArcIsBelow n) es

-- the same of a begun node, and of the attribute whose value is read
abbrev pub HalfIsBelow : ℕ → Half → Type 0
HalfIsBelow n h = (h.attribute < n) × ArcsAreBelow n h.arcs

-- a root that is an atom is a number below n
abbrev pub RootIsBelow : ℕ → Option Value → Type 0
RootIsBelow n None = Unit {0}
RootIsBelow n (Some x) = OfValue (λ c. c < n) x

-- the symbols of what was read are numbers below n
pub record IsBelow (n : ℕ) (b : Building) : Type 0 where
  pub stack : AllByRecursion (HalfIsBelow n) b.stack
  pub root : RootIsBelow n b.root
  pub nodes : AllByRecursion (ArcsAreBelow n) b.nodes

-- the symbols of what a reader has are numbers below n
abbrev pub IsReadBelow : ℕ → Option Reader → Type 0
IsReadBelow n None = Unit {0}
IsReadBelow n (Some r) = RootIsBelow n (option_map target_seen r.root) × AllByRecursion (ArcsAreBelow n) (nodes_seen r.nodes.items)
