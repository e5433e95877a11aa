-- The trees whose keys are still to be written, the next one last.
use Rattle.std.specs.Prelude.{◌≡◌, ℕ, suc, ◌+◌, ◌<◌, List, [], ◌∷◌, ◌++◌, length, map, reverse}
use Rattle.patr_model.specs.Derivation as derivation
use Rattle.patr_model.specs.Derivation.{Derivation, Leaf, Begin, Extend, root_item, below_key}
use Rattle.patr_chart.specs.declared.edge.Edge.{Edge}
use Rattle.patr_chart.specs.declared.key.KeyItem.{KeyItem}
use Rattle.patr_chart.specs.declared.chart.Pending.{Pending}
use Rattle.patr_chart.specs.Edges.{item_of}
use Rattle.patr_chart.specs.Charted.{tree}

-- the key of a tree whose root is said to end there
abbrev pub tree_key : Derivation → ℕ → List derivation.KeyItem
tree_key t to = root_item t to ∷ below_key t

-- the keys of the pending trees, one after another
abbrev pub pending_keys : List Edge → List Pending → List derivation.KeyItem
pending_keys es [] = []
pending_keys es (p ∷ ps) = tree_key (tree es p.number) p.end ++ pending_keys es ps

-- the key so far: what is pending, and behind it what was written, last first
abbrev pub whole_key : List Edge → List Pending → List KeyItem → List derivation.KeyItem
whole_key es ps out = pending_keys es ps ++ map item_of (reverse out)

-- the number of nodes of a derivation in binary form
abbrev pub weight : Derivation → ℕ
weight (Leaf e k i j) = 1
weight (Begin r k i) = 1
weight (Extend a p) = suc (weight a + weight p)

-- the nodes of all pending trees together
abbrev pub weights : List Edge → List Pending → ℕ
weights es [] = 0
weights es (p ∷ ps) = weight (tree es p.number) + weights es ps

-- the pending trees are those of edges below n
abbrev pub AreHeld : ℕ → List Pending → Type 0
AreHeld n [] = Unit {0}
AreHeld n (p ∷ ps) = (p.number < n) × AreHeld n ps

-- one step: the key so far stays, fewer nodes are pending, and they are of edges that are there
pub record IsStep (es : List Edge) (ps : List Pending) (out : List KeyItem) (qs : List Pending) (more : List KeyItem) : Type 0 where
  pub key : whole_key es qs more ≡ whole_key es ps out
  pub falls : weights es qs < weights es ps
  pub held : AreHeld (length es) qs
