-- Laws about charts.
use Rattle.std.specs.Prelude.{◌≡◌, ◌⊎◌, ℕ, suc, ◌<◌, ◌≤◌, true, false, List, length, Option, Some, None, slice_get}
use Rattle.std.specs.List.{Contains}
use Rattle.std.specs.List.Sorted.{IsStrictlyIncreasing}
use Rattle.patr_model.specs.Derivation.{Rules, RuleVariant, Derivation, Leaf, Begin, Extend, root_rule, rule_variant, root_item, start, end, seen, IsComplete, IsPartial}
use Rattle.patr_model.specs.Rounds.{IsAdjacent}
use Rattle.patr_chart.specs.declared.edge.EdgeKind.{EdgeKind}
use Rattle.patr_chart.specs.declared.edge.EdgeKind.TheVariants.{Entry, Rule}
use Rattle.patr_chart.specs.declared.edge.Back.{Back}
use Rattle.patr_chart.specs.declared.edge.Edge.{Edge}
use Rattle.patr_chart.specs.Edges.{is_passive, AreAdjacent, kind_item}
use Rattle.patr_chart.specs.Charted.{partners, AreEdges, alone, tree}

-- one of the two is active, and the other is passive and starts where it ends
abbrev pub IsPartner : Edge → Edge → Type 0
IsPartner e f = AreAdjacent e f ⊎ AreAdjacent f e

-- n is the number of an earlier edge than k that is adjacent to e
abbrev pub IsPartnerBefore : List Edge → ℕ → Edge → ℕ → Type 0
IsPartnerBefore es k e n = (f : Edge) × (n < k) × (slice_get es n ≡ Some f) × IsPartner e f

-- the partners of an edge are the earlier edges that are adjacent to it, and no others, rising
pub record HasPartners (es : List Edge) (k : ℕ) (e : Edge) : Type 0 where
  pub rising : IsStrictlyIncreasing (partners es k)
  pub adjacent : (n : ℕ) → Contains (partners es k) n → IsPartnerBefore es k e n
  pub every : (n : ℕ) → IsPartnerBefore es k e n → Contains (partners es k) n

abbrev pub PartnersAreAdjacent : Type 0
PartnersAreAdjacent = (es : List Edge) (k : ℕ) (e : Edge) → slice_get es k ≡ Some e → HasPartners es k e

-- the derivation is a tree, and no leaf
abbrev pub IsTree : Derivation → Type 0
IsTree (Leaf e k i j) = ⊥
IsTree (Begin r k i) = Unit {0}
IsTree (Extend a p) = Unit {0}

-- the derivation is of the root that the kind names, with as many daughters as it says
abbrev pub IsOfKind : Rules → EdgeKind → Derivation → Type 0
IsOfKind g (Entry entry variant) t = (i : ℕ) × (j : ℕ) × (t ≡ Leaf entry variant i j)
IsOfKind g (Rule rule variant item there slots) t = (seen t ≡ there) × (root_rule g t ≡ rule_variant g rule variant) × IsTree t

-- the derivation t of an edge e comes from where the edge does: from nothing before it, or from the two edges before it of which it was made
abbrev pub ComesFrom : List Edge → ℕ → Edge → Derivation → Option Back → Type 0
ComesFrom es k e t None = t ≡ alone e.kind e
ComesFrom es k e t (Some b) = (b.active < k) × (b.passive < k) × (t ≡ Extend (tree es b.active) (tree es b.passive))

-- the derivation of edge k is made as the edge was, and has its span and its root
pub record IsTreeOf (es : List Edge) (k : ℕ) (e : Edge) : Type 0 where
  pub origin : ComesFrom es k e (tree es k) e.back
  pub start : start (tree es k) ≡ e.start
  pub end : end (tree es k) ≡ e.end
  pub root : (to : ℕ) → root_item (tree es k) to ≡ kind_item e.kind to
  pub kind : (g : Rules) → IsOfKind g e.kind (tree es k)

abbrev pub TreesAreMade : Type 0
TreesAreMade = (words : ℕ) (es : List Edge) (k : ℕ) (e : Edge) → AreEdges words es → slice_get es k ≡ Some e → IsTreeOf es k e

-- the kind is an entry, or of a variant of a rule with this many daughters, of which no more are there
abbrev pub KindFits : Rules → EdgeKind → Type 0
KindFits g (Entry entry variant) = Unit {0}
KindFits g (Rule rule variant item there slots) = (w : RuleVariant) × (rule_variant g rule variant ≡ Some w) × (suc slots ≡ length w.categories) × (there ≤ slots)

-- each edge without daughters fits
abbrev pub KindsFit : Rules → List Edge → Type 0
KindsFit g es = (k : ℕ) (e : Edge) → slice_get es k ≡ Some e → e.back ≡ None → KindFits g e.kind

-- the edge fits, and it is passive where its derivation is complete, and active where it is partial
pub record IsJudged (g : Rules) (t : Derivation) (e : Edge) : Type 0 where
  pub fits : KindFits g e.kind
  pub passive : is_passive e ≡ true → IsComplete g t
  pub active : is_passive e ≡ false → IsPartial g t
  pub complete : IsComplete g t → is_passive e ≡ true
  pub partial : IsPartial g t → is_passive e ≡ false

abbrev pub PassiveIsComplete : Type 0
PassiveIsComplete = (g : Rules) (words : ℕ) (es : List Edge) → AreEdges words es → KindsFit g es → (k : ℕ) (e : Edge) → slice_get es k ≡ Some e → IsJudged g (tree es k) e

-- two edges are adjacent exactly where their derivations are
abbrev pub PairsAreAdjacent : Type 0
PairsAreAdjacent = (g : Rules) (words : ℕ) (es : List Edge) → AreEdges words es → KindsFit g es → (k l : ℕ) (a p : Edge) → slice_get es k ≡ Some a → slice_get es l ≡ Some p
    → (AreAdjacent a p → IsAdjacent g (tree es k) (tree es l)) × (IsAdjacent g (tree es k) (tree es l) → AreAdjacent a p)
