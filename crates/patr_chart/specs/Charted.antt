-- A chart: how many words the sentence has, and its edges in the order in which they came.
--     IsEdgeAfter words es e   e may be pushed behind es
--     partners es k            the numbers below k of the edges that are adjacent to edge k, rising
--     tree es k                the derivation of edge k
use Rattle.std.specs.Prelude.{◌≡◌, ℕ, suc, ◌≤◌, Bool, false, cond, nat_eq, List, [], ◌∷◌, ◌++◌, take, Option, Some, None, slice_get, get_or}
use Rattle.patr_lists.specs.Numbers.{places}
use Rattle.patr_model.specs.Derivation.{Derivation, Leaf, Begin, Extend}
use Rattle.patr_chart.specs.declared.edge.EdgeKind.{EdgeKind}
use Rattle.patr_chart.specs.declared.edge.EdgeKind.TheVariants.{Entry, Rule}
use Rattle.patr_chart.specs.declared.edge.Back.{Back}
use Rattle.patr_chart.specs.declared.edge.Edge.{Edge}
use Rattle.patr_chart.specs.Edges.{is_passive, AreAdjacent}

-- a chart: the number of words of its sentence, and its edges in the order in which they came
pub record Charted : Type 0 where
  pub words : ℕ
  pub edges : List Edge

-- a passive edge that starts at s
abbrev pub starts_at : ℕ → Edge → Bool
starts_at s e = cond (is_passive e) (nat_eq e.start s) false

-- an active edge that ends at s
abbrev pub ends_at : ℕ → Edge → Bool
ends_at s e = cond (is_passive e) false (nat_eq e.end s)

-- whether the second edge is adjacent to the first
abbrev pub is_partner : Edge → Edge → Bool
is_partner e = cond (is_passive e) (ends_at e.start) (starts_at e.end)

-- the numbers of the edges of the list that are adjacent to e, rising
abbrev pub partners_in : List Edge → Edge → List ℕ
partners_in es e = places (is_partner e) 0 es

-- the numbers below k of the edges that are adjacent to this edge, rising
abbrev pub partners_of : List Edge → ℕ → Option Edge → List ℕ
partners_of es k None = []
partners_of es k (Some e) = partners_in (take k es) e

-- the numbers of the edges that came before edge k and are adjacent to it, rising
abbrev pub partners : List Edge → ℕ → List ℕ
partners es k = partners_of es k (slice_get es k)

-- of the same rule variant, with one more daughter
abbrev pub IsNext : EdgeKind → EdgeKind → Type 0
IsNext (Entry entry variant) k = ⊥
IsNext (Rule rule variant item seen slots) (Entry f l) = ⊥
IsNext (Rule rule variant item seen slots) (Rule r v i s n) = (r ≡ rule) × (v ≡ variant) × (i ≡ item) × (s ≡ suc seen) × (n ≡ slots)

-- an entry, or a rule without daughters over the empty span
abbrev pub IsAlone : EdgeKind → Edge → Type 0
IsAlone (Entry entry variant) e = Unit {0}
IsAlone (Rule rule variant item seen slots) e = (seen ≡ 0) × (e.start ≡ e.end)

-- the edge e is made of the active edge a and the passive edge p, which is adjacent to it
pub record IsMadeOf (e a p : Edge) : Type 0 where
  pub adjacent : AreAdjacent a p
  pub start : e.start ≡ a.start
  pub end : e.end ≡ p.end
  pub kind : IsNext a.kind e.kind

-- where an edge comes from: it has no daughters, or it is made of two edges that are there
abbrev pub HasOrigin : List Edge → Edge → Option Back → Type 0
HasOrigin es e None = IsAlone e.kind e
HasOrigin es e (Some b) = (a : Edge) × (p : Edge) × (slice_get es b.active ≡ Some a) × (slice_get es b.passive ≡ Some p) × IsMadeOf e a p

-- the edge may follow these
pub record IsEdgeAfter (words : ℕ) (es : List Edge) (e : Edge) : Type 0 where
  pub order : e.start ≤ e.end
  pub within : e.end ≤ words
  pub origin : HasOrigin es e e.back

-- each edge may follow those before it
abbrev pub AreEdges : ℕ → List Edge → Type 0
AreEdges words es = (k : ℕ) (e : Edge) → slice_get es k ≡ Some e → IsEdgeAfter words (take k es) e

-- the derivation of an edge without daughters: a leaf, or a rule variant that has begun
abbrev pub alone : EdgeKind → Edge → Derivation
alone (Entry entry variant) e = Leaf entry variant e.start e.end
alone (Rule rule variant item seen slots) e = Begin rule variant e.start

-- the derivation with this number
abbrev pub derivation_at : List Derivation → ℕ → Derivation
derivation_at ds k = get_or ds k (Begin 0 0 0)

-- an edge without daughters stands for its root alone, and one made of two edges for their derivations, the active one extended by the passive one
abbrev pub derived_by : List Derivation → Edge → Option Back → Derivation
derived_by ds e None = alone e.kind e
derived_by ds e (Some b) = Extend (derivation_at ds b.active) (derivation_at ds b.passive)

-- the derivation of an edge, by those of the edges before it
abbrev pub derived : List Derivation → Edge → Derivation
derived ds e = derived_by ds e e.back

-- these derivations, and then those of the edges that follow
abbrev pub derivations_from : List Derivation → List Edge → List Derivation
derivations_from ds [] = ds
derivations_from ds (e ∷ es) = derivations_from (ds ++ derived ds e ∷ []) es

-- the derivations of the edges, in their order
abbrev pub derivations : List Edge → List Derivation
derivations es = derivations_from [] es

-- the derivation of edge k
abbrev pub tree : List Edge → ℕ → Derivation
tree es k = derivation_at (derivations es) k
