-- The reply of `:show`: the variants of a word's entries that have a solution, each with its least value.
--     IsShown s w t         t is such a variant, as a derivation over one word
--     IsShowReply s w text  the reply
--     grammar_replies       the replies to the commands that speak of the grammar, as far as they are built
use Rattle.std.specs.Prelude.{◌≡◌, ℕ, suc, List, [], ◌∷◌, ◌++◌, length, Some, decimal, codes}
use Rattle.std.specs.List.{AllByRecursion}
use Rattle.patr_lists.specs.Members.{IsIn}
use Rattle.patr_model.specs.Derivation.{EntryVariant, Derivation, Leaf, entry_variant}
use Rattle.patr_model.specs.Solution.{IsSolvable}
use Rattle.patr_model.specs.Session.{Grounds, Replies, Limit, Features, Count, Show, Grammar, Make, Quit, Rises, IsKnown, IsLeastText, line}

-- a variant of an entry of this word that has a solution, as a derivation over the first word of a sentence
pub record IsShown (s : Grounds) (w : List ℕ) (t : Derivation) : Type 0 where
  pub entry : ℕ
  pub number : ℕ
  pub leaf : t ≡ Leaf entry number 0 1
  pub variant : EntryVariant
  pub is : entry_variant s.rules entry number ≡ Some variant
  pub word : variant.word ≡ s.names.number w
  pub solvable : IsSolvable s.rules t

-- all of these, by entry and variant
pub record AreShown (s : Grounds) (w : List ℕ) (ts : List Derivation) : Type 0 where
  pub rises : Rises ts
  pub each : AllByRecursion (IsShown s w) ts
  pub every : (t : Derivation) → IsShown s w t → IsIn ts t

-- a line with the least value of each, numbered from n
abbrev pub ListsValues : Grounds → ℕ → List Derivation → List ℕ → Type 0
ListsValues s n [] text = text ≡ []
ListsValues s n (t ∷ ts) text = (value rest : List ℕ) × IsLeastText s t value × ListsValues s (suc n) ts rest
    × (text ≡ line (decimal n ++ codes " " ++ value) ++ rest)

-- the reply: of a word without an entry that it is unknown, and else how many variants there are, and their lines
pub data IsShowReply (s : Grounds) (w : List ℕ) (text : List ℕ) : Type 0 where
  unknown : (IsKnown s w → ⊥) → text ≡ line (codes "error: unknown word at 1: " ++ w) → IsShowReply s w text
  shown : IsKnown s w → (ts : List Derivation) (body : List ℕ) → AreShown s w ts → ListsValues s 1 ts body
      → text ≡ line (codes "entries " ++ decimal (length ts)) ++ body → IsShowReply s w text

-- the replies to the commands that speak of the grammar, as far as they are built
abbrev pub grammar_replies : Replies
grammar_replies s st (Limit n) text = ⊥
grammar_replies s st (Features b) text = ⊥
grammar_replies s st (Count b) text = ⊥
grammar_replies s st (Show w) text = IsShowReply s w text
grammar_replies s st Grammar text = ⊥
grammar_replies s st (Make n) text = ⊥
grammar_replies s st Quit text = ⊥
