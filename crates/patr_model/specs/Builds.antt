-- Laws of what a build makes.
use Rattle.std.specs.Prelude.{◌≡◌, ℕ, suc, ◌<◌, List, [], ◌∷◌, ◌++◌, length, Bool, nat_eq, Some}
use Rattle.patr_model.specs.Equation.{Equation}
use Rattle.patr_model.specs.Derivation.{Rules, RuleVariant, EntryVariant, rule_variant, entry_variant, Derivation, Begin, seen, IsPartial, IsComplete}
use Rattle.patr_model.specs.Chart.{IsDerivation}
use Rattle.patr_model.specs.Structure.{Value, Structure}
use Rattle.patr_model.specs.Solution.{IsSolvable, IsLeastValue}
use Rattle.patr_model.specs.Solved.{solved}
use Rattle.patr_model.specs.Plain.{IsPlain, bare, stated, IsFact, slot_category, category_of, SameCategory}
use Rattle.patr_model.specs.Variants.{AreWithin}
use Rattle.patr_model.specs.Laws.{StatesCategories}
use Rattle.patr_model.specs.Bytes.{same_text}
use Rattle.patr_model.specs.Session.{Numbering}
use Rattle.patr_model.specs.Productions.{RuleText, Grammar}
use Rattle.patr_model.specs.LexiconText.{EntryOf}
use Rattle.patr_model.specs.Renaming.{Each, Both, AreOne, SameRow, SameRule, SameGrounds}
use Rattle.patr_model.specs.Agreeing.{SameSymbolText, SameEquationText, SameGrammar, SameEntryText, SameBuildFault}
use Rattle.patr_model.specs.Build.{Keys, rule_variants, build, build_fault, grounds}

-- The variants, and what is refused, do not depend on what stands for the words: texts and numbers that belong together, and are equal together, give the same.
abbrev pub BuildsIgnoreWords : Type 0
BuildsIgnoreWords = (number : List ℕ → ℕ) (other : ℕ → ℕ) (keys : Keys) (g : Grammar (List ℕ)) (h : Grammar ℕ) (l : List (EntryOf (List ℕ))) (k : List (EntryOf ℕ))
    → ((t u : List ℕ) (n m : ℕ) → other n ≡ number t → other m ≡ number u → same_text t u ≡ nat_eq n m)
    → SameGrammar (λ t n. other n ≡ number t) g h → Each (SameEntryText (λ t n. other n ≡ number t)) l k
    → (build number same_text keys g l ≡ build other nat_eq keys h k) × Both (SameBuildFault (λ t n. other n ≡ number t)) (build_fault same_text g l) (build_fault nat_eq h k)

-- what a session stands on is under each numbering the same
abbrev pub BuildsIgnoreNumbers : Type 0
BuildsIgnoreNumbers = (N X : Numbering) (g : Grammar (List ℕ)) (l : List (EntryOf (List ℕ))) → SameGrounds (grounds N g l) (grounds X g l)

-- the variants of one rule, whose words are numbers of the same texts under two numberings, are one for one the same
abbrev pub VariantsIgnoreNumbers : Type 0
VariantsIgnoreNumbers = (N X : Numbering) (cat cat' : ℕ) (r s : RuleText ℕ) → AreOne N X cat cat'
    → SameSymbolText (AreOne N X) r.mother s.mother → SameRow (SameSymbolText (AreOne N X)) r.right s.right → SameRow (SameEquationText (AreOne N X)) r.equations s.equations
    → Each (SameRule N X) (rule_variants (λ w. w) cat r) (rule_variants (λ w. w) cat' s)

-- ---- what the variants of a build state

-- Each rule variant has a mother, and its equations begin with those of its constituents' categories. Those of an entry variant begin with atoms at attributes, its category among them.
pub record HasCategories (g : Rules) (cat : ℕ) : Type 0 where
  pub rules : (r k : ℕ) (rule : RuleVariant) → rule_variant g r k ≡ Some rule
      → (0 < length rule.categories) × ((more : List Equation) × (rule.equations ≡ bare cat 0 rule.categories ++ more))
  pub entries : (e k : ℕ) (entry : EntryVariant) → entry_variant g e k ≡ Some entry
      → (facts : List (ℕ × ℕ)) × (more : List Equation) × (entry.equations ≡ stated facts ++ more) × IsFact facts cat entry.category

-- The equations of a rule variant speak of its constituents, and those of an entry variant of its one value.
pub record StaysWithin (g : Rules) : Type 0 where
  pub rules : (r k : ℕ) (rule : RuleVariant) → rule_variant g r k ≡ Some rule → AreWithin (length rule.categories) rule.equations
  pub entries : (e k : ℕ) (entry : EntryVariant) → entry_variant g e k ≡ Some entry → AreWithin 1 entry.equations

-- no entry variant goes through a lexical rule
abbrev pub HasNoChains : Rules → Type 0
HasNoChains g = (e k : ℕ) (entry : EntryVariant) → entry_variant g e k ≡ Some entry → entry.chain ≡ []

-- what is known of variants that a build makes
pub record AreBuilt (g : Rules) (cat : ℕ) : Type 0 where
  pub categories : HasCategories g cat
  pub states : StatesCategories g cat
  pub within : StaysWithin g
  pub chains : HasNoChains g

-- a build makes such variants, by whatever stands for the words
abbrev pub BuildsStateCategoriesBy : Type 0 → Type 0
BuildsStateCategoriesBy W = (number : W → ℕ) (same : W → W → Bool) (keys : Keys) (g : Grammar W) (l : List (EntryOf W)) → AreBuilt (build number same keys g l) keys.cat

-- by texts, and by their numbers
pub record BuildsStateCategories : Type 0 where
  pub by_texts : BuildsStateCategoriesBy (List ℕ)
  pub by_numbers : BuildsStateCategoriesBy ℕ

-- ---- prediction by categories

-- Where the category is all that is compared, a rule may follow an active edge exactly where its mother's category is that of the edge's next slot, as far as both have least values.
abbrev pub FollowingIsCategory : Type 0
FollowingIsCategory = (g : Rules) (cat : ℕ) → HasCategories g cat → g.restrictor ≡ (cat ∷ []) ∷ []
    → (a : Derivation) (r k i : ℕ) (rule : RuleVariant) → IsPartial g a → rule_variant g r k ≡ Some rule
    → (A : Structure) (active : Value) → IsLeastValue g a A active → (B : Structure) (begun : Value) → IsLeastValue g (Begin r k i) B begun
    → ((solved g cat).MayFollow a (Begin r k i) → SameCategory (slot_category g a (suc (seen a))) (category_of g (Begin r k i)))
    × (SameCategory (slot_category g a (suc (seen a))) (category_of g (Begin r k i)) → (solved g cat).MayFollow a (Begin r k i))

-- What has a solution has, in each slot with a daughter, that daughter's category. And where there is a least value, an analysis is whole exactly where its category is the start symbol.
pub record SolvedGoByCategory : Type 0 where
  pub daughters : (g : Rules) (cat : ℕ) → HasCategories g cat → HasNoChains g → (ws : List ℕ) (t : Derivation) → IsDerivation g ws t → IsSolvable g t → IsPlain g t
  pub whole : (g : Rules) (cat : ℕ) → HasCategories g cat → HasNoChains g → (ws : List ℕ) (t : Derivation) → IsDerivation g ws t → IsComplete g t → (M : Structure) (m : Value) → IsLeastValue g t M m
      → ((solved g cat).IsWhole t → category_of g t ≡ Some g.start) × (category_of g t ≡ Some g.start → (solved g cat).IsWhole t)
