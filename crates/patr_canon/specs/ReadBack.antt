-- Structures read back from their canonical texts.
--     structure_of     the nodes of a block alone
--     IsReadBack       a block and its root have the text
--     IsCanonical      some value of a structure has the text
use Rattle.std.specs.Prelude.{◌≡◌, ℕ, List, length, Option, Some, None, Result, Ok, Err}
use Rattle.patr_model.specs.Reading.{HasText}
use Rattle.patr_model.specs.Structure.{Structure, Value}
use Rattle.patr_model.specs.Table.{table_look}
use Rattle.patr_model.specs.Text.{Look}
use Rattle.patr_text.specs.declared.fault.Fault.{Fault}
use Rattle.patr_text.specs.declared.fault.Fault.TheVariants.{Memory, Refused}
use Rattle.patr_arena.specs.declared.value.Feature.{Feature}
use Rattle.patr_arena.specs.declared.value.Ref.{Ref}
use Rattle.patr_arena.specs.Blocks.{nothing, with_block}
use Rattle.patr_arena.specs.Shown.{RefIsHeld, ref_of}
use Rattle.patr_canon.specs.declared.read_back.NotCanonical.{NotCanonical}
use Rattle.patr_canon.specs.Items.{IsLookOf}
use Rattle.patr_canon.specs.Nodes.{IsRefBelow, NodesAreBelow}

-- the structure that a block alone shows
abbrev pub structure_of : List (List Feature) → Structure
structure_of block = (with_block nothing block).structure

-- The value at the root has the text, by the table and the order. No arc leads out of the block, and all symbols are the table's.
pub record IsReadBack (table : List (List ℕ)) (order : List ℕ) (text : List ℕ) (block : List (List Feature)) (root : Ref) : Type 0 where
  pub has : HasText (table_look table order) (structure_of block) (ref_of (with_block nothing block) 0 root) text
  pub held : RefIsHeld (with_block nothing block) 0 root
  pub own : NodesAreBelow (length table) block
  pub root_own : IsRefBelow (length table) root

-- a block that was read, if there is one, has no old addresses, and its root is there; symbols are numbers below n
abbrev pub IsOwn : ℕ → Option (List (List Feature) × Ref) → Type 0
IsOwn n None = Unit {0}
IsOwn n (Some x) = NodesAreBelow n x.0 × RefIsHeld (with_block nothing x.0) 0 x.1 × IsRefBelow n x.1

-- Some value of a structure has the text, by this order and by some texts of symbols that are those of the table as far as it goes. Different
-- symbols have different texts.
pub record IsCanonical (table : List (List ℕ)) (order : List ℕ) (text : List ℕ) : Type 0 where
  pub look : Look
  pub is_look : IsLookOf table look
  pub order_is : look.order ≡ order
  pub structure : Structure
  pub value : Value
  pub has : HasText look structure value text

-- what is answered: a structure with the text, or that there is none
abbrev pub Answers : List (List ℕ) → List ℕ → List ℕ → Result (List (List Feature) × Ref) (Fault NotCanonical) → Type 0
Answers table order text (Ok x) = IsReadBack table order text x.0 x.1
Answers table order text (Err Memory) = Unit {0}
Answers table order text (Err (Refused c)) = IsCanonical table order text → ⊥
