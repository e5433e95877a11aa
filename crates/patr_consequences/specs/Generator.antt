-- A grammar and a lexicon of n words, whose sentence of all the words has one analysis.
--     generated_grammar             S -> W S_1 and S -> W: the words agree, and make a list
--     generated_entries word n      an entry for each of the first n words
--     generated_sentence word n     the words in order
--     edge_count n                  how many edges its chart has
--     grammar_text, lexicon_text, sentence_text     how they are written
use Rattle.std.specs.Prelude.{◌≡◌, ℕ, zero, suc, ◌+◌, ◌-◌, ◌*◌, ◌/◌, ◌^◌, ◌<◌, ◌≤◌, List, [], ◌∷◌, ◌++◌, map, length, true, false, Some, None, flat_map, codes, decimal}
use Rattle.patr_consequences.specs.Edges.{tree, all_edges}
use Rattle.patr_model.specs.Derivation.{Rules, Derivation}
use Rattle.patr_model.specs.Chart.{IsChart, HasMoreThan, IsAnalysis}
use Rattle.patr_model.specs.Solved.{solved}
use Rattle.patr_model.specs.Grammar.{Done, One}
use Rattle.patr_model.specs.Productions.{SymbolText, PathText, AtomText, OfPath, EquationText, Equates, RuleText, Grammar}
use Rattle.patr_model.specs.LexiconText.{EntryText, ReadsLexicon}
use Rattle.patr_model.specs.Session.{Numbering, Grounds, State, words_of, line, AreAnalyses, ListsAll, IsSentenceReply}
use Rattle.patr_model.specs.Bytes.{same_text}
use Rattle.patr_model.specs.Build.{build_fault, grounds}
use Rattle.patr_model.specs.GrammarText.{ReadsGrammar}
use Rattle.patr_model.specs.Stages.{Stage}

-- ---- the grammar

-- a symbol with this category
abbrev pub symbol : List ℕ → List ℕ → SymbolText (List ℕ)
symbol s c = record { symbol = s; category = c }

-- a path of one attribute from a constituent
abbrev pub of : List ℕ → List ℕ → PathText (List ℕ)
of s a = record { head = Some s; attributes = a ∷ [] }

-- that two paths lead to one value
abbrev pub equal : PathText (List ℕ) → PathText (List ℕ) → EquationText (List ℕ)
equal p q = record { left = p; right = OfPath q }

-- a word in front of a sentence: they agree, and the sentence's list begins with the word
abbrev pub more_rule : RuleText (List ℕ)
more_rule = record {
  line = 1;
  name = codes "more" ∷ [];
  mother = symbol (codes "S") (codes "S");
  right = One (symbol (codes "W") (codes "W")) (One (symbol (codes "S_1") (codes "S")) Done);
  equations = One (equal (of (codes "S") (codes "agr")) (of (codes "W") (codes "agr")))
      (One (equal (of (codes "S") (codes "agr")) (of (codes "S_1") (codes "agr")))
      (One (equal (of (codes "S") (codes "first")) (of (codes "W") (codes "lex")))
      (One (equal (of (codes "S") (codes "rest")) (record { head = Some (codes "S_1"); attributes = [] }))
      Done)));
}

-- a last word
abbrev pub last_rule : RuleText (List ℕ)
last_rule = record {
  line = 6;
  name = codes "last" ∷ [];
  mother = symbol (codes "S") (codes "S");
  right = One (symbol (codes "W") (codes "W")) Done;
  equations = One (equal (of (codes "S") (codes "agr")) (of (codes "W") (codes "agr")))
      (One (equal (of (codes "S") (codes "first")) (of (codes "W") (codes "lex"))) Done);
}

-- the two rules
abbrev pub generated_grammar : Grammar (List ℕ)
generated_grammar = record {
  rules = more_rule ∷ last_rule ∷ [];
  templates = [];
  lexical_rules = [];
  start = codes "S";
  restrictor = (codes "cat" ∷ []) ∷ [];
  order = [];
}

-- ---- the words

-- that the agreement's number is singular
abbrev pub singular : EquationText (List ℕ)
singular = record {
  left = record { head = None; attributes = codes "agr" ∷ codes "num" ∷ [] };
  right = AtomText (codes "sg");
}

-- the entry of the k-th of these words, of three lines
abbrev pub entry : (ℕ → List ℕ) → ℕ → EntryText
entry word k = record {
  line = 3 * k + 1;
  word = word k;
  category = codes "W";
  gloss = None;
  features = One (Equates singular) Done;
}

-- what there is for n words from the k-th on
abbrev pub from : {X : Type 0} → (ℕ → X) → ℕ → ℕ → List X
from f k zero = []
from f k (suc n) = f k ∷ from f (suc k) n

-- the entries of the first n words
abbrev pub generated_entries : (ℕ → List ℕ) → ℕ → List EntryText
generated_entries word n = from (entry word) 0 n

-- the sentence of the first n words
abbrev pub generated_sentence : (ℕ → List ℕ) → ℕ → List (List ℕ)
generated_sentence word n = from word 0 n

-- what a session over the grammar and n words stands on
abbrev pub generated_grounds : Numbering → (ℕ → List ℕ) → ℕ → Grounds
generated_grounds N word n = grounds N generated_grammar (generated_entries word n)

-- the variants of the grammar and of n words, under a numbering
abbrev pub generated_rules : Numbering → (ℕ → List ℕ) → ℕ → Rules
generated_rules N word n = (generated_grounds N word n).rules

-- the numbers of the sentence's words
abbrev pub generated_words : Numbering → (ℕ → List ℕ) → ℕ → List ℕ
generated_words N word n = map N.number (generated_sentence word n)

-- the number of the attribute `cat`
abbrev pub cat_in : Numbering → ℕ
cat_in N = N.number (codes "cat")

-- the first n words are different
abbrev pub AreDifferent : (ℕ → List ℕ) → ℕ → Type 0
AreDifferent word n = (i j : ℕ) → i < n → j < n → word i ≡ word j → i ≡ j

-- the words that are generated: w and the number
abbrev pub numbered : ℕ → List ℕ
numbered k = codes "w" ++ decimal k

-- ---- what its chart comes to

-- so many edges has the chart of n words
abbrev pub edge_count : ℕ → ℕ
edge_count n = 5 * n + 2 + n * (n - 1) / 2

-- The closed chart is this list of so many edges, and passes a limit exactly where that is lower.
pub record IsCounted (g : Rules) (cat : ℕ) (ws : List ℕ) (n : ℕ) : Type 0 where
  pub chart : IsChart (solved g cat) g ws (all_edges n)
  pub count : length (all_edges n) ≡ edge_count n
  pub each_chart : (ts : List Derivation) → IsChart (solved g cat) g ws ts
      → length ts ≡ edge_count n
  pub passes : (limit : ℕ) → limit < edge_count n → HasMoreThan (solved g cat) g ws limit
  pub keeps : (limit : ℕ) → edge_count n ≤ limit → HasMoreThan (solved g cat) g ws limit → ⊥

-- this is the one analysis
abbrev pub IsOnlyAnalysis : Rules → ℕ → List ℕ → Derivation → Type 0
IsOnlyAnalysis g cat ws t = IsAnalysis (solved g cat) g ws t
    × ((u : Derivation) → IsAnalysis (solved g cat) g ws u → u ≡ t)

-- Whatever the n words are, if they are different: under each numbering the closed chart of their
-- sentence has 5 n + 2 + n (n - 1) / 2 edges, and one analysis where there is a word.
abbrev pub ChartsOfWordsAreCounted : Type 0
ChartsOfWordsAreCounted = (N : Numbering) (word : ℕ → List ℕ) (n : ℕ) → AreDifferent word n
    → IsCounted (generated_rules N word n) (cat_in N) (generated_words N word n) n
    × (0 < n → IsOnlyAnalysis (generated_rules N word n) (cat_in N) (generated_words N word n) (tree (n - 1) 0))

-- What is known of the sentence w0 to w(n - 1).
pub record IsGenerated (N : Numbering) (n : ℕ) : Type 0 where
  pub counted : IsCounted (generated_rules N numbered n) (cat_in N) (generated_words N numbered n) n
  pub one_analysis : IsOnlyAnalysis (generated_rules N numbered n) (cat_in N)
      (generated_words N numbered n) (tree (n - 1) 0)
  -- up to 256 words it stays below the greatest limit
  pub fits : n ≤ 256 → HasMoreThan (solved (generated_rules N numbered n) (cat_in N))
      (generated_rules N numbered n) (generated_words N numbered n) 200000 → ⊥

-- so it is with the words w0 to w(n - 1)
abbrev pub GeneratedChartsAreCounted : Type 0
GeneratedChartsAreCounted = (N : Numbering) (n : ℕ) → 0 < n → n < 2 ^ 64 → IsGenerated N n

-- ---- the texts

-- the grammar as it is written
abbrev pub grammar_text : List ℕ
grammar_text =
    codes "Rule {more} S -> W S_1\n  <S agr> = <W agr>\n  <S agr> = <S_1 agr>\n"
    ++ codes "  <S first> = <W lex>\n  <S rest> = <S_1>\n"
    ++ codes "Rule {last} S -> W\n  <S agr> = <W agr>\n  <S first> = <W lex>\n"

-- the lines of a word
abbrev pub entry_text : List ℕ → List ℕ
entry_text w = codes "\\w " ++ w ++ codes "\n\\c W\n\\f <agr num> = sg\n"

-- the lexicon of these words as it is written
abbrev pub lexicon_text : List (List ℕ) → List ℕ
lexicon_text ws = flat_map entry_text ws

-- words, separated by one space
abbrev pub sentence_text : List (List ℕ) → List ℕ
sentence_text [] = []
sentence_text (w ∷ []) = w
sentence_text (w ∷ v ∷ ws) = w ++ 32 ∷ sentence_text (v ∷ ws)

-- The texts stand for the grammar, the lexicon and the sentence, and the build refuses nothing.
pub record AreGeneratedTexts (s : Stage) (n : ℕ) : Type 0 where
  pub grammar : ReadsGrammar s grammar_text generated_grammar
  pub lexicon : ReadsLexicon s (lexicon_text (generated_sentence numbered n))
      (generated_entries numbered n)
  pub sentence : words_of (sentence_text (generated_sentence numbered n))
      ≡ generated_sentence numbered n
  pub size : build_fault same_text generated_grammar (generated_entries numbered n) ≡ None

-- so the texts for n words are read at each stage that has equations
abbrev pub GeneratedTextsAreRead : Type 0
GeneratedTextsAreRead = (s : Stage) → s.equations ≡ true → (n : ℕ) → n < 2 ^ 64
    → AreGeneratedTexts s n

-- ---- replies

-- the tree of a sentence as it is printed
abbrev pub bracketed : List (List ℕ) → List ℕ
bracketed [] = []
bracketed (w ∷ []) = codes "(S (W " ++ w ++ codes "))"
bracketed (w ∷ v ∷ ws) = codes "(S (W " ++ w ++ codes ") " ++ bracketed (v ∷ ws) ++ codes ")"

-- the reply of three lines: the one analysis, its tree, and the number of edges
abbrev pub three_lines : ℕ → List ℕ
three_lines n =
    line (codes "analyses 1")
    ++ line (codes "1 " ++ bracketed (generated_sentence numbered n))
    ++ line (codes "edges " ++ decimal (edge_count n))

-- the text is the reply to the sentence of n words
abbrev pub IsReply : Numbering → ℕ → State → List ℕ → Type 0
IsReply N n st text =
    IsSentenceReply solved (generated_grounds N numbered n) st (generated_sentence numbered n) text

-- What the reply to the sentence lists, over the state.
pub record IsReplied (N : Numbering) (n : ℕ) (st : State) : Type 0 where
  -- a list of all analyses has the one
  pub one : (ts : List Derivation)
      → AreAnalyses solved (generated_grounds N numbered n) (generated_words N numbered n) ts
      → ts ≡ tree (n - 1) 0 ∷ []
  -- a sentence of at most 256 words, under a limit that lets its edges pass, is not refused
  pub listed : n ≤ 256 → edge_count n ≤ st.limit → (text : List ℕ) → IsReply N n st text
      → ListsAll solved (generated_grounds N numbered n) st (generated_words N numbered n) text
  -- with edges and without features its reply is of three lines, and no other
  pub has : n ≤ 256 → edge_count n ≤ st.limit → st.features ≡ false → st.count ≡ true
      → IsReply N n st (three_lines n)
  pub only : n ≤ 256 → edge_count n ≤ st.limit → st.features ≡ false → st.count ≡ true
      → (text : List ℕ) → IsReply N n st text → text ≡ three_lines n

-- so the reply is, whatever the numbering and the state
abbrev pub GeneratedReplies : Type 0
GeneratedReplies = (N : Numbering) (n : ℕ) (st : State) → 0 < n → n < 2 ^ 64 → IsReplied N n st
