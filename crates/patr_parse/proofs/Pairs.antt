-- Sizes and pairs of edges that are there.
use Rattle.std.proofs.Common.{◌≡◌, ℕ, Bool, true, false, cond, List, Some, slice_get, refl, ap, ◌∙◌, arith}
use Rattle.std.proofs.lemmas.Option.{slice_get_within}
use Rattle.patr_lists.proofs.Members.{in_at}
use Rattle.patr_lists.specs.Members.{IsIn}
use Rattle.patr_parse.proofs.Names.{Rules, Begin, Extend, Edge, AreEdges, derivations, KindsFit, ArePartners, pair}
use Rattle.patr_model.specs.Rounds.{IsPair}
use Rattle.patr_chart.specs.Charted.{tree}
use Rattle.patr_chart.proofs.Shown.{pairs_are}
use Rattle.patr_parse.proofs.Tasks.{trees_length}

pub tree_in : (es : List Edge) (k : ℕ) (e : Edge) → slice_get es k ≡ Some e → IsIn (derivations es) (tree es k)
tree_in es k e at = in_at (derivations es) (Begin 0 0 0) k (omega (arith, slice_get_within es k e at, trees_length es))

-- two edges that may be decided are a pair of the chart
pub is_pair : (g : Rules) (words : ℕ) (es : List Edge) → AreEdges words es → KindsFit g es → (b : Bool) (k j : ℕ) → ArePartners es (cond b j k) (cond b k j) → IsPair g (derivations es) (pair b es k j)
is_pair g words es all fit true k j h = (tree es j, tree es k, refl, tree_in es j h.0 h.2, tree_in es k h.1 h.3, (pairs_are words es all g fit j k h.0 h.1 h.2 h.3).0 h.4)
is_pair g words es all fit false k j h = (tree es k, tree es j, refl, tree_in es k h.0 h.2, tree_in es j h.1 h.3, (pairs_are words es all g fit k j h.0 h.1 h.2 h.3).0 h.4)

-- the pair of two edges, the active one first
pub pair_ordered : (b : Bool) (es : List Edge) (k j a p : ℕ) → a ≡ cond b j k → p ≡ cond b k j → Extend (tree es a) (tree es p) ≡ pair b es k j
pair_ordered true es k j a p q r = ap (λ n. Extend (tree es n) (tree es p)) q ∙ ap (λ n. Extend (tree es j) (tree es n)) r
pair_ordered false es k j a p q r = ap (λ n. Extend (tree es n) (tree es p)) q ∙ ap (λ n. Extend (tree es k) (tree es n)) r
