-- The lines of a reply.
--     grounds names s         what a session over a library stands on
--     analysis_lines          the lines of the analyses, by the edges
--     listing                 these lines behind the one that says how many there are
--     items_text              the lines of a word's entries, behind the one that says how many there are
use Rattle.std.specs.Prelude.{ℕ, suc, List, [], ◌∷◌, ◌++◌, length, Bool, true, false, Option, Some, None, slice_get, codes, decimal}
use Rattle.patr_model.specs.Structure.{Value, Atom}
use Rattle.patr_model.specs.Derivation.{Rules}
use Rattle.patr_model.specs.Text.{Look, canonical, tree_text}
use Rattle.patr_model.specs.Table.{table_look}
use Rattle.patr_model.specs.Session.{Numbering, Grounds, State, line}
use Rattle.patr_arena.specs.Shown.{Shown, value_of}
use Rattle.patr_chart.specs.declared.edge.Edge.{Edge}
use Rattle.patr_chart.specs.Charted.{tree}
use Rattle.patr_library.specs.declared.item.EntryItem.{EntryItem}
use Rattle.patr_library.specs.Stored.{Stored, rules_of}
use Rattle.patr_reply.specs.Sources.{value_at}

-- what a session over a library stands on, under a numbering; no attribute is put first
abbrev pub grounds : Numbering → Stored → Grounds
grounds names s = record { names = names; rules = rules_of s; order = [] }

-- how symbols print under a numbering
abbrev pub look_by : Numbering → Look
look_by names = record { text = names.text; order = [] }

-- the state of a session
abbrev pub state_of : ℕ → Bool → Bool → State
state_of limit features count = record { limit = limit; features = features; count = count }

-- the line of edge k's features, where features are written
abbrev pub value_line : Look → Shown → List Edge → Bool → ℕ → List ℕ
value_line l v es false k = []
value_line l v es true k = line (codes "  " ++ canonical l v.structure (value_at v es k))

-- the line of the tree of edge k, as analysis n
abbrev pub tree_line : Look → Rules → List Edge → ℕ → ℕ → List ℕ
tree_line l g es n k = line (decimal n ++ codes " " ++ tree_text l g (tree es k))

-- the lines of one analysis: trees print by the first look, and features by the second
abbrev pub analysis_text : Look → Look → Rules → Shown → List Edge → Bool → ℕ → ℕ → List ℕ
analysis_text l m g v es features n k = tree_line l g es n k ++ value_line m v es features k

-- the texts of these, one after another, numbered from n
abbrev pub numbered : {X : Type 0} → (ℕ → X → List ℕ) → ℕ → List X → List ℕ
numbered f n [] = []
numbered f n (x ∷ xs) = f n x ++ numbered f (suc n) xs

-- the lines of the analyses with these edges, numbered from n
abbrev pub analysis_lines : Look → Look → Rules → Shown → List Edge → Bool → ℕ → List ℕ → List ℕ
analysis_lines l m g v es features n ks = numbered (analysis_text l m g v es features) n ks

-- the lines of these analyses of a library's chart, behind the line that says that there are n
abbrev pub listing : Numbering → List (List ℕ) → Stored → Shown → List Edge → Bool → ℕ → List ℕ → List ℕ
listing names table s v es features n ks = line (codes "analyses " ++ decimal n) ++ analysis_lines (look_by names) (table_look table []) (rules_of s) v es features 1 ks

-- the line on the number of edges, where it is asked for
abbrev pub count_line : Bool → ℕ → List ℕ
count_line false n = []
count_line true n = line (codes "edges " ++ decimal n)

-- ---- the entries of a word

-- the value of an item, where there is one
abbrev pub item_value : Shown → Option EntryItem → Value
item_value v None = Atom 0
item_value v (Some i) = value_of v i.root

-- the line of the item at place k, as number n
abbrev pub item_line : Look → Shown → List EntryItem → ℕ → ℕ → List ℕ
item_line l v items n k = line (decimal n ++ codes " " ++ canonical l v.structure (item_value v (slice_get items k)))

-- the lines of the items at these places, behind the line that says how many there are
abbrev pub items_text : Look → Shown → List EntryItem → List ℕ → List ℕ
items_text l v items ks = line (codes "entries " ++ decimal (length ks)) ++ numbered (item_line l v items) 1 ks
