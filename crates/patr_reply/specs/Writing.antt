-- What is still to be written of a tree's text, the next part last.
use Rattle.std.specs.Prelude.{◌≡◌, ℕ, suc, ◌+◌, ◌*◌, ◌<◌, List, [], ◌∷◌, ◌++◌, length, codes, encode_utf8}
use Rattle.std.specs.List.{AllByRecursion}
use Rattle.patr_model.specs.Derivation.{Rules, entry_variant, rule_variant}
use Rattle.patr_model.specs.Session.{Numbering, AgreesWith}
use Rattle.patr_model.specs.Text.{Look, printed, entry_category, entry_word, mother_category, open_tree}
use Rattle.patr_chart.specs.declared.edge.EdgeKind.{EdgeKind}
use Rattle.patr_chart.specs.declared.edge.EdgeKind.TheVariants.{Entry, Rule}
use Rattle.patr_chart.specs.declared.edge.Edge.{Edge}
use Rattle.patr_chart.specs.Charted.{tree}
use Rattle.patr_chart.specs.Pending.{weight}
use Rattle.patr_reply.specs.declared.tree.Step.{Step}
use Rattle.patr_reply.specs.declared.tree.Step.TheVariants.{Tree, Mark}
use Rattle.patr_reply.specs.Lines.{look_by}

-- the text of an entry, or of a rule without daughters, without its last bracket
abbrev pub root_text : Look → Rules → EdgeKind → List ℕ
root_text l g (Entry e k) = codes "(" ++ printed (l.text (entry_category (entry_variant g e k))) ++ codes " " ++ printed (l.text (entry_word (entry_variant g e k)))
root_text l g (Rule r k i s n) = codes "(" ++ printed (l.text (mother_category (rule_variant g r k)))

-- what is written for a part: a tree without its last bracket, or a character
abbrev pub step_text : Look → Rules → List Edge → Step → List ℕ
step_text l g es (Tree k) = open_tree l g (tree es k)
step_text l g es (Mark c) = encode_utf8 c

-- what is written for the parts, the last of them first
abbrev pub steps_text : Look → Rules → List Edge → List Step → List ℕ
steps_text l g es [] = []
steps_text l g es (s ∷ ss) = steps_text l g es ss ++ step_text l g es s

-- more than the steps that a part still takes
abbrev pub step_weight : List Edge → Step → ℕ
step_weight es (Tree k) = suc (4 * weight (tree es k))
step_weight es (Mark c) = 1

-- more than the steps that all parts still take
abbrev pub steps_weight : List Edge → List Step → ℕ
steps_weight es [] = 0
steps_weight es (s ∷ ss) = step_weight es s + steps_weight es ss

-- a tree is that of an edge below n
abbrev pub IsHeld : ℕ → Step → Type 0
IsHeld n (Tree k) = k < n
IsHeld n (Mark c) = Unit {0}

-- one step: what is written and what is left still make the text, less is left, and it is of edges that are there
pub record IsStep (table : List (List ℕ)) (g : Rules) (es : List Edge) (left : List Step) (out : List ℕ) (rest : List Step) (new : List ℕ) : Type 0 where
  pub text : (names : Numbering) → AgreesWith names table → new ++ steps_text (look_by names) g es rest ≡ out ++ steps_text (look_by names) g es left
  pub falls : steps_weight es rest < steps_weight es left
  pub held : AllByRecursion (IsHeld (length es)) rest
