-- What follows for charts and replies, each law the contract of a function with an empty body.
use Rattle.std.specs.Prelude.{◌≡◌, ◌↔◌, ℕ, ◌≤◌, List, ◌++◌, map, length, false, Some, slice_get, codes, decimal}
use Rattle.std.specs.List.{AllByRecursion}
use Rattle.patr_model.specs.Derivation.{Rules, Derivation}
use Rattle.patr_model.specs.Chart.{InChart, IsChart, HasMoreThan, IsAnalysis}
use Rattle.patr_model.specs.Solved.{solved}
use Rattle.patr_model.specs.Session.{Numbering, Grounds, State, cat_of, line, IsKnown, AreAnalyses, CountsEdges, IsSentenceReply}
use Rattle.patr_model.specs.Productions.{Grammar}
use Rattle.patr_model.specs.LexiconText.{EntryText}
use Rattle.patr_model.specs.Build.{grounds}
use Rattle.patr_totality.specs.Laws.{AreReady}

-- ---- restrictors

-- the same variants and the same start symbol; only the restrictors may differ
pub record SameButRestrictor (g h : Rules) : Type 0 where
  pub rules : g.rules ≡ h.rules
  pub entries : g.entries ≡ h.entries
  pub start : g.start ≡ h.start

-- an analysis in the closed chart
abbrev pub IsAnalysisInChart : Rules → ℕ → List ℕ → Derivation → Type 0
IsAnalysisInChart g cat ws t = InChart (solved g cat) g ws t × IsAnalysis (solved g cat) g ws t

-- whatever the restrictor is, the closed chart has the same analyses
abbrev pub RestrictorsKeepAnalyses : Type 0
RestrictorsKeepAnalyses = (g h : Rules) (cat : ℕ) → SameButRestrictor g h → AreReady g cat
    → (ws : List ℕ) (t : Derivation) → IsAnalysisInChart g cat ws t ↔ IsAnalysisInChart h cat ws t

-- the sentence has no line of refusal for its reply
pub record IsNotRefused (s : Grounds) (st : State) (ws : List (List ℕ)) : Type 0 where
  pub few : length ws ≤ 256
  pub known : AllByRecursion (IsKnown s) ws
  pub within : HasMoreThan (solved s.rules (cat_of s)) s.rules (map s.names.number ws) st.limit → ⊥

-- with these variants in place of its own
abbrev pub with_rules : Grounds → Rules → Grounds
with_rules s h = record s { rules = h }

-- The replies x over s and y over s' have the same lines of the same analyses, and differ at most in
-- the line on the number of edges.
pub record HaveSameLines (s s' : Grounds) (st : State) (ws : List ℕ) (x y : List ℕ) : Type 0 where
  pub analyses : List Derivation
  pub body : List ℕ
  pub tail : List ℕ
  pub other_tail : List ℕ
  pub are : AreAnalyses solved s ws analyses
  pub are_other : AreAnalyses solved s' ws analyses
  pub text : x ≡ line (codes "analyses " ++ decimal (length analyses)) ++ body ++ tail
  pub other_text : y ≡ line (codes "analyses " ++ decimal (length analyses)) ++ body ++ other_tail
  pub counts : CountsEdges solved s ws st.count tail
  pub other_counts : CountsEdges solved s' ws st.count other_tail
  -- without that line the replies are one
  pub same : st.count ≡ false → x ≡ y

-- a sentence that is refused under neither has the same lines of analyses under both
abbrev pub KeepLines : Grounds → Grounds → Type 0
KeepLines s s' = (st : State) (ws : List (List ℕ)) → IsNotRefused s st ws → IsNotRefused s' st ws
    → (x y : List ℕ) → IsSentenceReply solved s st ws x → IsSentenceReply solved s' st ws y
    → HaveSameLines s s' st (map s.names.number ws) x y

-- so it is whatever the restrictors are
abbrev pub RestrictorsKeepLines : Type 0
RestrictorsKeepLines = (s : Grounds) (h : Rules) → SameButRestrictor s.rules h
    → AreReady s.rules (cat_of s) → KeepLines s (with_rules s h)

-- each of the first paths is one of the others
abbrev pub AreAmong : List (List ℕ) → List (List ℕ) → Type 0
AreAmong ps qs = (k : ℕ) (p : List ℕ) → slice_get ps k ≡ Some p
    → (j : ℕ) × (slice_get qs j ≡ Some p)

-- The closed chart of h has no other edges than that of g, so it has no more of them, and passes no
-- limit that the other keeps.
pub record HasNoOtherEdges (g h : Rules) (cat : ℕ) (ws : List ℕ) : Type 0 where
  pub edges : (t : Derivation) → InChart (solved h cat) h ws t → InChart (solved g cat) g ws t
  pub count : (ts us : List Derivation) → IsChart (solved g cat) g ws ts
      → IsChart (solved h cat) h ws us → length us ≤ length ts
  pub limit : (n : ℕ) → HasMoreThan (solved h cat) h ws n → HasMoreThan (solved g cat) g ws n

-- where the restrictor of h has all paths of that of g, its closed chart has no other edges
abbrev pub LongerRestrictorsGiveNoOtherEdges : Type 0
LongerRestrictorsGiveNoOtherEdges = (g h : Rules) (cat : ℕ) → SameButRestrictor g h
    → AreAmong g.restrictor h.restrictor → (ws : List ℕ) → HasNoOtherEdges g h cat ws

-- so a sentence that the one does not refuse is not refused by the other
abbrev pub LongerRestrictorsRefuseLess : Type 0
LongerRestrictorsRefuseLess = (s : Grounds) (h : Rules) → SameButRestrictor s.rules h
    → AreAmong s.rules.restrictor h.restrictor → (st : State) (ws : List (List ℕ))
    → IsNotRefused s st ws → IsNotRefused (with_rules s h) st ws

-- an edge that the chart of g has and that of h has not
abbrev pub HasAnEdgeMore : Rules → Rules → ℕ → Type 0
HasAnEdgeMore g h cat = (ws : List ℕ) × (t : Derivation) × InChart (solved g cat) g ws t
    × (InChart (solved h cat) h ws t → ⊥)

-- a longer restrictor really drops an edge somewhere
abbrev pub SomeRestrictorDropsAnEdge : Type 0
SomeRestrictorDropsAnEdge = (g : Rules) × (h : Rules) × (cat : ℕ) × AreReady g cat
    × SameButRestrictor g h × AreAmong g.restrictor h.restrictor × HasAnEdgeMore g h cat

-- ---- what is built

-- the grammar with this restrictor in place of its own
abbrev pub with_restrictor : Grammar (List ℕ) → List (List (List ℕ)) → Grammar (List ℕ)
with_restrictor g paths = record g { restrictor = paths }

-- What a session stands on with one restrictor, s, and with another, s'.
pub record KeepsAnalyses (s s' : Grounds) : Type 0 where
  -- the analyses are the same
  pub analyses : (ws : List ℕ) (t : Derivation)
      → IsAnalysisInChart s.rules (cat_of s) ws t ↔ IsAnalysisInChart s'.rules (cat_of s) ws t
  -- and so are their lines in replies
  pub lines : KeepLines s s'
  -- with all paths of the first restrictor there are no other edges
  pub edges : AreAmong s.rules.restrictor s'.rules.restrictor
      → (ws : List ℕ) → HasNoOtherEdges s.rules s'.rules (cat_of s) ws

-- for each grammar and each lexicon, whatever they are, under each numbering
abbrev pub BuildsKeepAnalyses : Type 0
BuildsKeepAnalyses = (N : Numbering) (g : Grammar (List ℕ)) (l : List EntryText)
    → (paths : List (List (List ℕ)))
    → KeepsAnalyses (grounds N g l) (grounds N (with_restrictor g paths) l)
