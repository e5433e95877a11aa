-- Without written equations: what a build makes, and that replies are those by categories alone.
use Rattle.std.specs.Prelude.{◌≡◌, ◌↔◌, ℕ, List, [], ◌∷◌, map, Bool, codes}
use Rattle.std.specs.List.{AllByRecursion}
use Rattle.patr_model.specs.Grammar.{Done}
use Rattle.patr_model.specs.Plain.{plain, IsBare}
use Rattle.patr_model.specs.Solved.{solved}
use Rattle.patr_model.specs.Session.{Numbering, Grounds, State, cat_of, Judge, IsSentenceReply, Replied}
use Rattle.patr_model.specs.Notations.{lines_with_commands}
use Rattle.patr_model.specs.Productions.{RuleText, Grammar}
use Rattle.patr_model.specs.LexiconText.{EntryOf, EntryText}
use Rattle.patr_model.specs.Build.{Keys, keys_of, build, grounds}

-- the attributes that a build states are three
pub record AreDistinct (keys : Keys) : Type 0 where
  pub cat_lex : keys.cat ≡ keys.lex → ⊥
  pub cat_gloss : keys.cat ≡ keys.gloss → ⊥
  pub lex_gloss : keys.lex ≡ keys.gloss → ⊥

-- no rule has an equation, and no entry a feature
pub record HasNoEquations {W : Type 0} (g : Grammar W) (l : List (EntryOf W)) : Type 0 where
  pub rules : AllByRecursion (λ (r : RuleText W). r.equations ≡ Done) g.rules
  pub entries : AllByRecursion (λ (e : EntryOf W). e.features ≡ Done) l

-- Where nothing is written besides categories, words and glosses, and the category alone is
-- compared, categories say all that the variants do.
abbrev pub BuildsAreBareBy : Type 0 → Type 0
BuildsAreBareBy W = (number : W → ℕ) (same : W → W → Bool) (keys : Keys) (g : Grammar W) (l : List (EntryOf W))
    → AreDistinct keys → map (map number) g.restrictor ≡ (keys.cat ∷ []) ∷ [] → HasNoEquations g l
    → IsBare (build number same keys g l) keys.cat

-- so it is by texts, and by their numbers
pub record BuildsAreBare : Type 0 where
  pub by_texts : BuildsAreBareBy (List ℕ)
  pub by_numbers : BuildsAreBareBy ℕ
  pub keys : (N : Numbering) → AreDistinct (keys_of N)

-- edges by categories alone, as a session judges them
abbrev pub by_categories : Judge
by_categories g cat = plain g

-- Sentences and sessions have the same replies by categories alone and by solutions.
pub record SameReplies (s : Grounds) : Type 0 where
  pub sentences : (st : State) (ws : List (List ℕ)) (text : List ℕ)
      → IsSentenceReply by_categories s st ws text ↔ IsSentenceReply solved s st ws text
  pub sessions : (st : State) (ls : List (List ℕ)) (text : List ℕ) (quit : Bool)
      → Replied by_categories lines_with_commands s st ls text quit
      ↔ Replied solved lines_with_commands s st ls text quit

-- Without written equations categories alone give the replies, over variants and as built.
pub record WithoutEquationsNothingChanges : Type 0 where
  pub over_variants : (s : Grounds) → IsBare s.rules (cat_of s) → SameReplies s
  pub as_built : (N : Numbering) (g : Grammar (List ℕ)) (l : List EntryText) → HasNoEquations g l
      → g.restrictor ≡ (codes "cat" ∷ []) ∷ [] → SameReplies (grounds N g l)
