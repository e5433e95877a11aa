-- Edges, and the nodes of keys that stand for their roots.
use Rattle.std.specs.Prelude.{◌≡◌, ℕ, Bool, true, false, not, ltb}
use Rattle.patr_model.specs.Derivation as derivation
use Rattle.patr_chart.specs.declared.edge.EdgeKind.{EdgeKind}
use Rattle.patr_chart.specs.declared.edge.EdgeKind.TheVariants.{Entry, Rule}
use Rattle.patr_chart.specs.declared.edge.Edge.{Edge}
use Rattle.patr_chart.specs.declared.key.KeyItem.{KeyItem}

-- an entry, or a rule of which all daughters are there
abbrev pub kind_passive : EdgeKind → Bool
kind_passive (Entry entry variant) = true
kind_passive (Rule rule variant item seen slots) = not (ltb seen slots)

-- the edge is passive: no daughter is missing
abbrev pub is_passive : Edge → Bool
is_passive e = kind_passive e.kind

-- the first is active, and the second is passive and starts where the first ends
pub record AreAdjacent (a p : Edge) : Type 0 where
  pub active : is_passive a ≡ false
  pub passive : is_passive p ≡ true
  pub meet : a.end ≡ p.start

-- the same node of a key, as the definitions have it
abbrev pub item_of : KeyItem → derivation.KeyItem
item_of x = record { kind = x.kind; number = x.number; variant = x.variant; end = x.end }

-- the key's node for an edge of this kind that ends there
abbrev pub kind_item : EdgeKind → ℕ → derivation.KeyItem
kind_item (Entry entry variant) to = record { kind = 0; number = entry; variant = variant; end = to }
kind_item (Rule rule variant item seen slots) to = record { kind = 1; number = rule; variant = variant; end = to }
