-- Lines, commands and replies of a session.
use Rattle.std.specs.Prelude.{◌≡◌, ◌⊎◌, ℕ, suc, ◌+◌, ◌*◌, ◌-◌, ◌<◌, ◌≤◌, List, [], ◌∷◌, ◌++◌, map, length, Bool, true, false, cond, ◌&&◌, ◌||◌, nat_eq, nat_le, Option, Some, None, MatchBool, slice_get, decimal, codes, IsUtf8}
use Rattle.std.specs.List.{AllByRecursion}
use Rattle.std.specs.Option.{option_map}
use Rattle.patr_lists.specs.Members.{IsIn}
use Rattle.patr_model.specs.Bytes.{is_digit, same_text}
use Rattle.patr_model.specs.Structure.{Value, Structure}
use Rattle.patr_model.specs.Derivation.{Rules, EntryVariant, Derivation, KeyItem, entry_variant, key}
use Rattle.patr_model.specs.Solution.{IsLeastValue}
use Rattle.patr_model.specs.Chart.{Judgement, IsChart, HasMoreThan, IsAnalysis}
use Rattle.patr_model.specs.Text.{Look, canonical, tree_text}

-- the symbols as numbers: each text has a number, which has that text
pub record Numbering : Type 0 where
  pub number : List ℕ → ℕ
  pub text : ℕ → List ℕ
  pub back : (t : List ℕ) → text (number t) ≡ t

-- the numbering gives each text of the table its place there
abbrev pub AgreesWith : Numbering → List (List ℕ) → Type 0
AgreesWith N table = (i : ℕ) (t : List ℕ) → slice_get table i ≡ Some t → N.number t ≡ i

-- What a session stands on: the numbering, the variants, and the attribute order.
pub record Grounds : Type 0 where
  pub names : Numbering
  pub rules : Rules
  pub order : List ℕ

-- the number of the attribute `cat`
abbrev pub cat_of : Grounds → ℕ
cat_of s = s.names.number (codes "cat")

-- how symbols are printed and attributes are ordered
abbrev pub look_of : Grounds → Look
look_of s = record { text = s.names.text; order = s.order }

-- what the commands of a session set: the limit on edges, and whether features and the number of edges are written
pub record State : Type 0 where
  pub limit : ℕ
  pub features : Bool
  pub count : Bool

-- the pieces between the bytes that pass the test; there is always a first one
pub record Cut : Type 0 where
  pub first : List ℕ
  pub rest : List (List ℕ)

-- a text cut at the bytes that pass the test
abbrev pub cut_at : (ℕ → Bool) → List ℕ → Cut
cut_at test [] = record { first = []; rest = [] }
cut_at test (b ∷ bs) = cond (test b)
    (record { first = []; rest = (cut_at test bs).first ∷ (cut_at test bs).rest })
    (record { first = b ∷ (cut_at test bs).first; rest = (cut_at test bs).rest })

-- the same pieces as a list
abbrev pub pieces : (ℕ → Bool) → List ℕ → List (List ℕ)
pieces test bytes = (cut_at test bytes).first ∷ (cut_at test bytes).rest

-- the texts that are not empty
abbrev pub without_empty : List (List ℕ) → List (List ℕ)
without_empty [] = []
without_empty ([] ∷ xs) = without_empty xs
without_empty ((b ∷ bs) ∷ xs) = (b ∷ bs) ∷ without_empty xs

-- a space or a tab
abbrev pub is_blank : ℕ → Bool
is_blank b = nat_eq b 32 || nat_eq b 9

-- the words of a line, cut at spaces and tabs
abbrev pub words_of : List ℕ → List (List ℕ)
words_of line = without_empty (pieces is_blank line)

-- a CR at the end is dropped
abbrev pub without_cr : List ℕ → List ℕ
without_cr [] = []
without_cr (b ∷ []) = cond (nat_eq b 13) [] (b ∷ [])
without_cr (b ∷ c ∷ bs) = b ∷ without_cr (c ∷ bs)

-- the lines that LF ends, and a last one that is not empty, each cut to what the function leaves of it
abbrev pub lines_by : (List ℕ → List ℕ) → List ℕ → List (List ℕ) → List (List ℕ)
lines_by trim first [] = without_empty (trim first ∷ [])
lines_by trim first (next ∷ rest) = trim first ∷ lines_by trim next rest

-- the lines of an input
abbrev pub lines_of : List ℕ → List (List ℕ)
lines_of input = lines_by without_cr (cut_at (nat_eq 10) input).first (cut_at (nat_eq 10) input).rest

-- the lines that LF ends, alone
abbrev pub whole_lines_from : List ℕ → List (List ℕ) → List (List ℕ)
whole_lines_from first [] = []
whole_lines_from first (next ∷ rest) = without_cr first ∷ whole_lines_from next rest

-- the lines of an input that LF ends
abbrev pub whole_lines_of : List ℕ → List (List ℕ)
whole_lines_of input = whole_lines_from (cut_at (nat_eq 10) input).first (cut_at (nat_eq 10) input).rest

-- a text and the LF that ends its line
abbrev pub line : List ℕ → List ℕ
line text = text ++ 10 ∷ []

-- a word of the lexicon
abbrev pub IsKnown : Grounds → List ℕ → Type 0
IsKnown s w = (e k : ℕ) × (entry : EntryVariant) × (entry_variant s.rules e k ≡ Some entry) × (entry.word ≡ s.names.number w)

-- w at position p, from 1, is the first word that is not of the lexicon
abbrev pub IsFirstUnknown : Grounds → List (List ℕ) → ℕ → List ℕ → Type 0
IsFirstUnknown s ws p w = (i : ℕ) × (p ≡ suc i) × (slice_get ws i ≡ Some w) × (IsKnown s w → ⊥) × ((j : ℕ) (v : List ℕ) → j < i → slice_get ws j ≡ Some v → IsKnown s v)

-- one list of numbers stands before another, number by number; a shorter one before what it begins
abbrev pub number_before : List ℕ → List ℕ → Type 0
number_before [] [] = ⊥
number_before [] (y ∷ ys) = Unit {0}
number_before (x ∷ xs) [] = ⊥
number_before (x ∷ xs) (y ∷ ys) = (x < y) ⊎ ((x ≡ y) × number_before xs ys)

-- the numbers of a key, item by item
abbrev pub numbers : List KeyItem → List ℕ
numbers [] = []
numbers (x ∷ xs) = x.kind ∷ x.number ∷ x.variant ∷ x.end ∷ numbers xs

-- rising keys, so none stands twice
abbrev pub Rises : List Derivation → Type 0
Rises [] = Unit {0}
Rises (t ∷ []) = Unit {0}
Rises (t ∷ u ∷ ts) = number_before (numbers (key t)) (numbers (key u)) × Rises (u ∷ ts)

-- the number that these digits spell behind the number so far; none where one is no digit
abbrev pub digits_value : ℕ → List ℕ → Option ℕ
digits_value n [] = Some n
digits_value n (b ∷ bs) = cond (is_digit b) (digits_value (10 * n + (b - 48)) bs) None

-- a number that is from 1 to the greatest
abbrev pub within : ℕ → Option ℕ → Option ℕ
within most None = None
within most (Some n) = cond (nat_le 1 n && nat_le n most) (Some n) None

-- a number from 1 to the greatest, in one to six digits
abbrev pub number_of : ℕ → List ℕ → Option ℕ
number_of most w = cond (nat_le 1 (length w) && nat_le (length w) 6) (within most (digits_value 0 w)) None

-- the commands
pub data Command : Type 0 where
  Limit : ℕ → Command
  Features : Bool → Command
  Count : Bool → Command
  Show : List ℕ → Command
  Grammar : Command
  Make : ℕ → Command
  Quit : Command

-- `on` or `off`
abbrev pub switch : List ℕ → Option Bool
switch w = cond (same_text w (codes "on")) (Some true) (cond (same_text w (codes "off")) (Some false) None)

-- the command that two words spell
abbrev pub command_of_two : List ℕ → List ℕ → Option Command
command_of_two w v =
    cond (same_text w (codes ":limit")) (option_map (λ n. Limit n) (number_of 200000 v))
    (cond (same_text w (codes ":features")) (option_map (λ b. Features b) (switch v))
    (cond (same_text w (codes ":count")) (option_map (λ b. Count b) (switch v))
    (cond (same_text w (codes ":show")) (Some (Show v))
    (cond (same_text w (codes ":make")) (option_map (λ n. Make n) (number_of 256 v)) None))))

-- the command that the words of a line spell; none where they spell none
abbrev pub command_of : List (List ℕ) → Option Command
command_of [] = None
command_of (w ∷ []) = cond (same_text w (codes ":quit")) (Some Quit) (cond (same_text w (codes ":grammar")) (Some Grammar) None)
command_of (w ∷ v ∷ []) = command_of_two w v
command_of (w ∷ v ∷ u ∷ ws) = None

-- the first word begins with `:`
abbrev pub begins_with_colon : List (List ℕ) → Bool
begins_with_colon [] = false
begins_with_colon ([] ∷ ws) = false
begins_with_colon ((b ∷ bs) ∷ ws) = nat_eq b 58

-- a switch as it is written
abbrev pub on_off : Bool → List ℕ
on_off true = codes "on"
on_off false = codes "off"

-- replies to the commands that speak of the grammar
abbrev pub Replies : Type 1
Replies = Grounds → State → Command → List ℕ → Type 0

-- the canonical text of a derivation's least value
abbrev pub IsLeastText : Grounds → Derivation → List ℕ → Type 0
IsLeastText s t text = (M : Structure) × (m : Value) × IsLeastValue s.rules t M m × (text ≡ canonical (look_of s) M m)

-- What the lines of a session may be, as far as it is built.
pub record LineForms : Type 1 where
  -- the replies to a line of more than 4,096 bytes, and to one that is not UTF-8
  pub too_long : List ℕ
  pub not_text : List ℕ
  -- the command that the words of a line spell; none where they spell none
  pub command : List (List ℕ) → Option Command
  -- the replies to the commands that speak of the grammar
  pub more : Replies

-- all forms of lines, with these replies to the commands that speak of the grammar
abbrev pub whole_forms : Replies → LineForms
whole_forms more = record { too_long = line (codes "error: line too long"); not_text = line (codes "error: line is not UTF-8"); command = command_of; more = more }

-- the line ends the session
abbrev pub IsQuit : LineForms → List ℕ → Type 0
IsQuit forms bytes = (length bytes ≤ 4096) × IsUtf8 bytes × (forms.command (words_of bytes) ≡ Some Quit)

-- how edges are judged, by the rules and the number of the attribute `cat`
abbrev pub Judge : Type 1
Judge = Rules → ℕ → Judgement

module _ (judge : Judge) where
  -- all the analyses, in order
  pub record AreAnalyses (s : Grounds) (ws : List ℕ) (ts : List Derivation) : Type 0 where
    pub rises : Rises ts
    pub each : AllByRecursion (IsAnalysis (judge s.rules (cat_of s)) s.rules ws) ts
    pub every : (t : Derivation) → IsAnalysis (judge s.rules (cat_of s)) s.rules ws t → IsIn ts t

  -- the lines of the analyses, numbered from n
  abbrev pub ListsAnalyses : Grounds → Bool → ℕ → List Derivation → List ℕ → Type 0
  ListsAnalyses s features n [] text = text ≡ []
  ListsAnalyses s false n (t ∷ ts) text = (rest : List ℕ) × ListsAnalyses s false (suc n) ts rest
      × (text ≡ line (decimal n ++ codes " " ++ tree_text (look_of s) s.rules t) ++ rest)
  ListsAnalyses s true n (t ∷ ts) text = (value rest : List ℕ) × IsLeastText s t value × ListsAnalyses s true (suc n) ts rest
      × (text ≡ line (decimal n ++ codes " " ++ tree_text (look_of s) s.rules t) ++ line (codes "  " ++ value) ++ rest)

  -- the line on the number of edges, where it is asked for
  abbrev pub CountsEdges : Grounds → List ℕ → Bool → List ℕ → Type 0
  CountsEdges s ws false text = text ≡ []
  CountsEdges s ws true text = (ts : List Derivation) × IsChart (judge s.rules (cat_of s)) s.rules ws ts × (text ≡ line (codes "edges " ++ decimal (length ts)))

  -- the reply to a sentence that is not refused
  abbrev pub ListsAll : Grounds → State → List ℕ → List ℕ → Type 0
  ListsAll s st ws text = (ts : List Derivation) × (body tail : List ℕ) × AreAnalyses s ws ts × ListsAnalyses s st.features 1 ts body × CountsEdges s ws st.count tail
      × (text ≡ line (codes "analyses " ++ decimal (length ts)) ++ body ++ tail)

  -- the reply to a sentence's words: the first of these that fits
  pub data IsSentenceReply (s : Grounds) (st : State) (ws : List (List ℕ)) (text : List ℕ) : Type 0 where
    too_long : 256 < length ws → text ≡ line (codes "error: more than 256 words") → IsSentenceReply s st ws text
    unknown : (p : ℕ) (w : List ℕ) → length ws ≤ 256 → IsFirstUnknown s ws p w
        → text ≡ line (codes "error: unknown word at " ++ decimal p ++ codes ": " ++ w) → IsSentenceReply s st ws text
    too_many : length ws ≤ 256 → AllByRecursion (IsKnown s) ws → HasMoreThan (judge s.rules (cat_of s)) s.rules (map s.names.number ws) st.limit
        → text ≡ line (codes "error: more than " ++ decimal st.limit ++ codes " edges") → IsSentenceReply s st ws text
    analyses : length ws ≤ 256 → AllByRecursion (IsKnown s) ws → (HasMoreThan (judge s.rules (cat_of s)) s.rules (map s.names.number ws) st.limit → ⊥)
        → ListsAll s st (map s.names.number ws) text → IsSentenceReply s st ws text

  -- the reply to a command, and the state after it
  abbrev pub IsCommandReply : LineForms → Grounds → State → Command → List ℕ → State → Type 0
  IsCommandReply forms s st (Limit n) text st' = (text ≡ line (codes "limit " ++ decimal n)) × (st' ≡ record st { limit = n })
  IsCommandReply forms s st (Features b) text st' = (text ≡ line (codes "features " ++ on_off b)) × (st' ≡ record st { features = b })
  IsCommandReply forms s st (Count b) text st' = (text ≡ line (codes "count " ++ on_off b)) × (st' ≡ record st { count = b })
  IsCommandReply forms s st (Show w) text st' = forms.more s st (Show w) text × (st' ≡ st)
  IsCommandReply forms s st Grammar text st' = forms.more s st Grammar text × (st' ≡ st)
  IsCommandReply forms s st (Make n) text st' = forms.more s st (Make n) text × (st' ≡ st)
  IsCommandReply forms s st Quit text st' = ⊥

  -- the reply to words that begin with `:`, and the state after it
  abbrev pub IsColonReply : LineForms → Grounds → State → Option Command → List ℕ → State → Type 0
  IsColonReply forms s st None text st' = (text ≡ line (codes "error: bad command")) × (st' ≡ st)
  IsColonReply forms s st (Some c) text st' = IsCommandReply forms s st c text st'

  -- the reply to the words of a line of text, and the state after it
  abbrev pub IsWordsReply : LineForms → Grounds → State → List (List ℕ) → List ℕ → State → Type 0
  IsWordsReply forms s st [] text st' = (text ≡ []) × (st' ≡ st)
  IsWordsReply forms s st (w ∷ ws) text st' = MatchBool (begins_with_colon (w ∷ ws))
      (IsColonReply forms s st (forms.command (w ∷ ws)) text st')
      (IsSentenceReply s st (w ∷ ws) text × (st' ≡ st))

  -- the reply to a line: the first of these that fits
  pub data IsLineReply (forms : LineForms) (s : Grounds) (st : State) (bytes : List ℕ) (text : List ℕ) (st' : State) : Type 0 where
    too_long : 4096 < length bytes → text ≡ forms.too_long → st' ≡ st → IsLineReply forms s st bytes text st'
    not_text : length bytes ≤ 4096 → (IsUtf8 bytes → ⊥) → text ≡ forms.not_text → st' ≡ st → IsLineReply forms s st bytes text st'
    spelled : length bytes ≤ 4096 → IsUtf8 bytes → IsWordsReply forms s st (words_of bytes) text st' → IsLineReply forms s st bytes text st'

  -- the replies to the lines, up to a `:quit`; whether there was one
  abbrev pub Replied : LineForms → Grounds → State → List (List ℕ) → List ℕ → Bool → Type 0
  Replied forms s st [] text quit = (text ≡ []) × (quit ≡ false)
  Replied forms s st (l ∷ ls) text quit =
      (IsQuit forms l × (text ≡ []) × (quit ≡ true))
      ⊎ ((IsQuit forms l → ⊥) × (first : List ℕ) × (st' : State) × (rest : List ℕ) × IsLineReply forms s st l first st' × Replied forms s st' ls rest quit × (text ≡ first ++ rest))
