-- Alternatives are rules: where a choice of a rule is written out as several rules, sentences have the same trees.
--     IsWrittenOut front r rows    each alternative of a choice or an option of the row stands in its place
--     AreSplit rs ss               one of the rules is written out so, in its right side or among its equations
--     counterpart f t              the derivation with its rule variants numbered otherwise
--     GiveSameTrees g h            derivations correspond one to one, with the same spans, solutions and texts
--     GiveSameReplies s s'         sentences and sessions have the same replies
use Rattle.std.specs.Prelude.{◌≡◌, ◌↔◌, ℕ, List, [], ◌∷◌, ◌++◌, map, flat_map, Bool, Some, IsPermutation}
use Rattle.std.specs.List.{AllByRecursion}
use Rattle.patr_lists.specs.Members.{NoRepeats, IsIn}
use Rattle.patr_model.specs.Structure.{Value, Structure}
use Rattle.patr_model.specs.Derivation.{Rules, RuleVariant, Derivation, Leaf, Begin, Extend, rule_variant, start, end, size}
use Rattle.patr_model.specs.Solution.{Solution, IsSolvable, IsLeastValue}
use Rattle.patr_model.specs.Chart.{Judgement, InChart, IsChart, HasMoreThan, IsDerivation, IsAnalysis}
use Rattle.patr_model.specs.Solved.{solved}
use Rattle.patr_model.specs.Plain.{category_of}
use Rattle.patr_model.specs.Text.{Look, tree_text}
use Rattle.patr_model.specs.Grammar.{Row, Rows, Done, One, OneOf, Optional, None', Or}
use Rattle.patr_model.specs.Renaming.{Each}
use Rattle.patr_model.specs.Productions.{SymbolText, EquationText, RuleText, Grammar}
use Rattle.patr_model.specs.LexiconText.{EntryOf, EntryText}
use Rattle.patr_model.specs.Session.{Numbering, Grounds, State, IsSentenceReply, Replied}
use Rattle.patr_model.specs.Notations.{lines_with_commands}
use Rattle.patr_model.specs.Build.{Keys, rule_variants, build, grounds}

-- ---- rows and rules written out

-- one row behind another
abbrev pub joined : {X : Type 0} → Row X → Row X → Row X
joined Done s = s
joined (One x r) s = One x (joined r s)
joined (OneOf rs r) s = OneOf rs (joined r s)
joined (Optional rs r) s = Optional rs (joined r s)

-- the alternatives of a choice
abbrev pub alternatives : {X : Type 0} → Rows X → List (Row X)
alternatives None' = []
alternatives (Or r rs) = r ∷ alternatives rs

-- rows with each of these between two others
abbrev pub between : {X : Type 0} → Row X → List (Row X) → Row X → List (Row X)
between front rows rest = map (λ a. joined front (joined a rest)) rows

-- Behind this front the row has a choice or an option. In each of the rows an alternative stands in
-- its place; of an option there is also the row without it, as the last.
pub data IsWrittenOut {X : Type 0} (front r : Row X) (rows : List (Row X)) : Type 0 where
  choice : (rest : Row X) (rs : Rows X) → r ≡ joined front (OneOf rs rest)
      → rows ≡ between front (alternatives rs) rest → IsWrittenOut front r rows
  option : (rest : Row X) (rs : Rows X) → r ≡ joined front (Optional rs rest)
      → rows ≡ between front (alternatives rs ++ Done ∷ []) rest → IsWrittenOut front r rows

-- a rule of this mother, right side and equations, whatever its line and its name
pub record HasParts {W : Type 0} (mother : SymbolText W) (right : Row (SymbolText W))
    (equations : Row (EquationText W)) (s : RuleText W) : Type 0 where
  pub mother_is : s.mother ≡ mother
  pub right_is : s.right ≡ right
  pub equations_is : s.equations ≡ equations

-- the rules have one by one these right sides in place of the rule's
abbrev pub HaveRights : {W : Type 0} → RuleText W → List (Row (SymbolText W)) → List (RuleText W)
    → Type 0
HaveRights r rows rules = Each (λ x s. HasParts r.mother x r.equations s) rows rules

-- or these equations
abbrev pub HaveEquations : {W : Type 0} → RuleText W → List (Row (EquationText W))
    → List (RuleText W) → Type 0
HaveEquations r rows rules = Each (λ x s. HasParts r.mother r.right x s) rows rules

-- a choice or an option of the rule is written out in these rules
pub data IsSplit {W : Type 0} (r : RuleText W) (rules : List (RuleText W)) : Type 0 where
  in_right : (front : Row (SymbolText W)) (rows : List (Row (SymbolText W)))
      → IsWrittenOut front r.right rows → HaveRights r rows rules → IsSplit r rules
  in_equations : (front : Row (EquationText W)) (rows : List (Row (EquationText W)))
      → IsWrittenOut front r.equations rows → HaveEquations r rows rules → IsSplit r rules

-- so, and it stands at the front of the right side
abbrev pub IsSplitInFront : {W : Type 0} → RuleText W → List (RuleText W) → Type 0
IsSplitInFront {W} r rules = (rows : List (Row (SymbolText W))) × IsWrittenOut Done r.right rows
    × HaveRights r rows rules

-- of rules the one behind these is written out, in this way
pub record AreSplitBy {W : Type 0} (way : RuleText W → List (RuleText W) → Type 0)
    (rs ss : List (RuleText W)) : Type 0 where
  pub before : List (RuleText W)
  pub rule : RuleText W
  pub behind : List (RuleText W)
  pub rules : List (RuleText W)
  pub whole : rs ≡ before ++ rule ∷ behind
  pub parts : ss ≡ before ++ (rules ++ behind)
  pub split : way rule rules

-- in any way
abbrev pub AreSplit : {W : Type 0} → List (RuleText W) → List (RuleText W) → Type 0
AreSplit rs ss = AreSplitBy IsSplit rs ss

-- ---- derivations with other numbers

-- the variants of all rules, one rule's after another's
abbrev pub gathered : List (List RuleVariant) → List RuleVariant
gathered rules = flat_map (λ vs. vs) rules

-- each variant as the only one of a rule
abbrev pub alone : List (List RuleVariant) → List (List RuleVariant)
alone rules = map (λ v. v ∷ []) (gathered rules)

-- the numbers of a rule and of its variant
abbrev pub Numbers : Type 0
Numbers = ℕ → ℕ → ℕ × ℕ

-- the variant of each rule has these numbers, and from them it has its own again
pub record AreNumbered (g h : Rules) (f back : Numbers) : Type 0 where
  pub there : (r k : ℕ) (v : RuleVariant) → rule_variant g r k ≡ Some v
      → rule_variant h (f r k).0 (f r k).1 ≡ Some v
  pub again : (r k : ℕ) (v : RuleVariant) → rule_variant g r k ≡ Some v
      → back (f r k).0 (f r k).1 ≡ (r, k)

-- the derivation with the variants of its rules numbered so
abbrev pub counterpart : Numbers → Derivation → Derivation
counterpart f (Leaf e k i j) = Leaf e k i j
counterpart f (Begin r k i) = Begin (f r k).0 (f r k).1 i
counterpart f (Extend a p) = Extend (counterpart f a) (counterpart f p)

-- these are all the analyses, each once
pub record AreAnalysesOnce (j : Judgement) (g : Rules) (ws : List ℕ) (ts : List Derivation) : Type 0 where
  pub once : NoRepeats ts
  pub each : AllByRecursion (IsAnalysis j g ws) ts
  pub every : (t : Derivation) → IsAnalysis j g ws t → IsIn ts t

-- What is known of a derivation of g is known of that of h.
pub record AreAlike (g h : Rules) (t u : Derivation) : Type 0 where
  pub start_is : start u ≡ start t
  pub end_is : end u ≡ end t
  pub size_is : size u ≡ size t
  pub category : category_of h u ≡ category_of g t
  pub text : (l : Look) → tree_text l h u ≡ tree_text l g t
  pub solution : (G : Structure) (v : Value) → Solution g t G v ↔ Solution h u G v
  pub solvable : IsSolvable g t ↔ IsSolvable h u
  pub least : (M : Structure) (m : Value) → IsLeastValue g t M m ↔ IsLeastValue h u M m
  pub edge : (cat : ℕ) (ws : List ℕ) → InChart (solved g cat) g ws t ↔ InChart (solved h cat) h ws u
  pub analysis : (cat : ℕ) (ws : List ℕ)
      → IsAnalysis (solved g cat) g ws t ↔ IsAnalysis (solved h cat) h ws u

-- the derivations of g have counterparts in h, by these numbers
pub record HaveCounterparts (g h : Rules) (f back : Numbers) : Type 0 where
  pub numbers : AreNumbered g h f back
  pub derivation : (ws : List ℕ) (t : Derivation) → IsDerivation g ws t
      → IsDerivation h ws (counterpart f t)
  -- from which they come again, so no two have the same
  pub again : (ws : List ℕ) (t : Derivation) → IsDerivation g ws t
      → counterpart back (counterpart f t) ≡ t
  pub alike : (ws : List ℕ) (t : Derivation) → IsDerivation g ws t
      → AreAlike g h t (counterpart f t)
  -- the edges of the closed chart, and the analyses, are as many
  pub chart : (cat : ℕ) (ws : List ℕ) (ts : List Derivation) → IsChart (solved g cat) g ws ts
      → IsChart (solved h cat) h ws (map (counterpart f) ts)
  pub analyses : (cat : ℕ) (ws : List ℕ) (ts : List Derivation)
      → AreAnalysesOnce (solved g cat) g ws ts
      → AreAnalysesOnce (solved h cat) h ws (map (counterpart f) ts)
  pub more : (cat : ℕ) (ws : List ℕ) (limit : ℕ) → HasMoreThan (solved g cat) g ws limit
      → HasMoreThan (solved h cat) h ws limit

-- Derivations correspond one to one.
pub record GiveSameTrees (g h : Rules) : Type 0 where
  pub to : Numbers
  pub from : Numbers
  pub forth : HaveCounterparts g h to from
  pub back : HaveCounterparts h g from to

-- sentences and sessions have the same replies, byte for byte
pub record GiveSameReplies (s s' : Grounds) : Type 0 where
  pub sentences : (st : State) (ws : List (List ℕ)) (text : List ℕ)
      → IsSentenceReply solved s st ws text ↔ IsSentenceReply solved s' st ws text
  pub sessions : (st : State) (ls : List (List ℕ)) (text : List ℕ) (quit : Bool)
      → Replied solved lines_with_commands s st ls text quit
      ↔ Replied solved lines_with_commands s' st ls text quit

-- ---- the law

-- A rule has up to order the variants of the rules in which it is written out;
-- in the same order where what is written out stands at the front of its right side.
pub record VariantsAreWrittenOut (W : Type 0) : Type 0 where
  pub anywhere : (number : W → ℕ) (cat : ℕ) (r : RuleText W) (rules : List (RuleText W))
      → IsSplit r rules → IsPermutation (rule_variants number cat r) (flat_map (rule_variants number cat) rules)
  pub in_front : (number : W → ℕ) (cat : ℕ) (r : RuleText W) (rules : List (RuleText W))
      → IsSplitInFront r rules
      → rule_variants number cat r ≡ flat_map (rule_variants number cat) rules

-- a grammar with one rule written out gives the same trees
abbrev pub GrammarsAreWrittenOut : Type 0 → Type 0
GrammarsAreWrittenOut W = (number : W → ℕ) (same : W → W → Bool) (keys : Keys) (g : Grammar W)
    (rules : List (RuleText W)) (l : List (EntryOf W)) → AreSplit g.rules rules
    → GiveSameTrees (build number same keys g l)
    (build number same keys (record g { rules = rules }) l)

-- The same variants in the same order give the same replies, however they are gathered in rules. So do
-- grammars where what is written out stands at the front of a right side.
pub record RepliesAreOfVariants : Type 0 where
  pub over_variants : (s : Grounds) (rules : List (List RuleVariant))
      → gathered s.rules.rules ≡ gathered rules
      → GiveSameReplies s (record s { rules = record s.rules { rules = rules } })
  pub as_built : (N : Numbering) (g : Grammar (List ℕ)) (rules : List (RuleText (List ℕ)))
      (l : List EntryText) → AreSplitBy IsSplitInFront g.rules rules
      → GiveSameReplies (grounds N g l) (grounds N (record g { rules = rules }) l)

-- The same variants give the same trees, in whatever order and however they are gathered in rules; each
-- alone in a rule, too. So alternatives are rules, by texts and by their numbers.
pub record AlternativesAreRules : Type 0 where
  pub reordered : (g : Rules) (rules : List (List RuleVariant))
      → IsPermutation (gathered g.rules) (gathered rules) → GiveSameTrees g (record g { rules = rules })
  pub apart : (g : Rules) → GiveSameTrees g (record g { rules = alone g.rules })
  pub text_variants : VariantsAreWrittenOut (List ℕ)
  pub number_variants : VariantsAreWrittenOut ℕ
  pub text_grammars : GrammarsAreWrittenOut (List ℕ)
  pub number_grammars : GrammarsAreWrittenOut ℕ
  pub replies : RepliesAreOfVariants
