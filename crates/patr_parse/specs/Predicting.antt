-- What a chart has of the edges that need no passive edge.
use Rattle.std.specs.Prelude.{◌≡◌, ℕ, suc, ◌<◌, ◌≤◌, List, [], ◌++◌, length, take, true, Some, slice_get}
use Rattle.patr_lists.specs.Members.{IsIn}
use Rattle.patr_model.specs.Derivation.{Leaf, Begin, end}
use Rattle.patr_chart.specs.declared.edge.Edge.{Edge}
use Rattle.patr_chart.specs.Charted.{derivations, tree}
use Rattle.patr_library.specs.declared.item.RuleItem.{RuleItem}
use Rattle.patr_library.specs.declared.item.EntryItem.{EntryItem}
use Rattle.patr_library.specs.Stored.{Stored, rules_of, is_of_word}
use Rattle.patr_parse.specs.declared.prediction.Mark.{Mark}
use Rattle.patr_parse.specs.declared.prediction.Prediction.{Prediction}
use Rattle.patr_arena.specs.Shown.{Shown}
use Rattle.patr_parse.specs.Found.{AreSound}
use Rattle.patr_parse.specs.Standing.{Stands}
use Rattle.patr_parse.specs.Tasks.{IsReady, judge}
use Rattle.patr_parse.specs.Begun.{is_marked, next_of}

-- Marked c i: each rule item with mother c stands at position i, and no other rule does. The first `seen` edges have their predictions.
pub record ArePredicted (s : Stored) (ws : List ℕ) (Marked : ℕ → ℕ → Type 0) (seen : ℕ) (es : List Edge) : Type 0 where
  pub within : seen ≤ length es
  -- the leaves of each word, and the rules of the start symbol
  pub word : (n i w : ℕ) (item : EntryItem) → slice_get s.entries n ≡ Some item → slice_get ws i ≡ Some w → is_of_word s.lexicon w item ≡ true → IsIn (derivations es) (Leaf item.entry item.variant i (suc i))
  pub first : Marked (rules_of s).start 0
  -- what was predicted is there, and nothing else of its kind
  pub marked : (n i : ℕ) (item : RuleItem) → slice_get s.rules n ≡ Some item → Marked item.mother.0 i → IsIn (derivations es) (Begin item.rule item.variant i)
  pub begun : (n i : ℕ) (item : RuleItem) → slice_get s.rules n ≡ Some item → IsIn (derivations es) (Begin item.rule item.variant i) → Marked item.mother.0 i
  -- the next slot's category of each edge among the first is marked where the edge ends
  pub followed : (k c : ℕ) → k < seen → next_of (rules_of s) (tree es k) ≡ Some c → Marked c (end (tree es k))

-- the category is marked at the position
abbrev pub IsMarked : List Mark → ℕ → ℕ → Type 0
IsMarked marks c i = is_marked marks c i ≡ true

-- where a prediction stands
abbrev pub IsPrediction : Stored → List ℕ → Prediction → List Edge → Type 0
IsPrediction s ws p es = ArePredicted s ws (IsMarked p.marks.keys) p.seen es

-- the entries of the words and the rules of the start symbol are the first edges
pub record IsInitialized (s : Stored) (ws : List ℕ) (v : Shown) (limit : ℕ) (p : Prediction) (es : List Edge) : Type 0 where
  pub stands : Stands (judge s) (rules_of s) ws es 0 []
  pub sound : AreSound (rules_of s) s v es
  pub predicted : IsPrediction s ws p es
  pub few : length es ≤ limit

-- edges that need no passive edge were put behind the old ones
pub record IsFurther (s : Stored) (ws : List ℕ) (v : Shown) (limit : ℕ) (old : List Edge) (p : Prediction) (new : List Edge) : Type 0 where
  pub stands : (k : ℕ) → Stands (judge s) (rules_of s) ws old k [] → Stands (judge s) (rules_of s) ws new k []
  pub ready : IsReady (rules_of s) s v limit new
  pub predicted : IsPrediction s ws p new
  pub grown : (ys : List Edge) × (new ≡ old ++ ys)
  pub kept : (worked : ℕ) → worked ≤ length old → take worked (derivations new) ≡ take worked (derivations old)
  pub few : length new ≤ limit
