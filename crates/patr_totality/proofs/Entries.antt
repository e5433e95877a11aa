-- The least value of an entry through its lexical rules, one by one, or that no structure solves it.
use Rattle.std.proofs.Common.{◌≡◌, ℕ, ◌⊎◌, inl, inr, List, [], ◌∷◌, ◌++◌, append_assoc, append-nil, Some, option_and_then, refl, sym, ap, ◌∙◌, subst}
use Rattle.std.specs.List.{AllByRecursion}
use Rattle.patr_model.specs.Structure.{Value, Structure, arc, IsValue, IsStructure}
use Rattle.patr_model.specs.Subsumption.{TakesBoth}
use Rattle.patr_model.specs.Equation.{Equation}
use Rattle.patr_model.specs.Derivation.{Rules, EntryVariant, Leaf, entry_variant}
use Rattle.patr_model.specs.Solution.{SolvesEntry, IsSolvable, IsLeastValue}
use Rattle.patr_model.specs.Variants.{variant, RuleAt, IsLeastOf, AreWithin}
use Rattle.patr_model.specs.Chains.{entry, IsLeastOut, StepAt}
use Rattle.patr_model.proofs.Maps.{and_then_some}
use Rattle.patr_model.proofs.Variants.{rule_carried}
use Rattle.patr_model.proofs.Leaves.{leaf_solves, entry_solution, leaves_are_rules}
use Rattle.patr_model.proofs.Chains.{chain_last, chain_steps}
use Rattle.patr_totality.specs.Laws.{HasLeast}
use Rattle.patr_totality.proofs.Beside.{decide_unifier}
use Rattle.patr_totality.proofs.Variants.{variant_decided}

-- ---- a leaf is solved as its entry is

module _ (g : Rules) (e k i j : ℕ) (variant : EntryVariant) (q : entry_variant g e k ≡ Some variant) where
  out_of_leaf : (M : Structure) (m : Value) → IsLeastValue g (Leaf e k i j) M m → IsLeastOut variant M m
  out_of_leaf M m l = record {
    structure = l.structure;
    held = l.held;
    solution = (l.solution.0, l.solution.1, l.solution.2.structure, leaf_solves g e k i j variant q l.solution.0 l.solution.1 l.solution.2, l.solution.3);
    least = λ G v st s. l.least G v (entry_solution g e k i j variant q G v st s);
  }

  leaf_of_out : (M : Structure) (m : Value) → IsLeastOut variant M m → IsLeastValue g (Leaf e k i j) M m
  leaf_of_out M m l = record {
    structure = l.structure;
    held = l.held;
    solution = (l.solution.0, l.solution.1, entry_solution g e k i j variant q l.solution.0 l.solution.1 l.solution.2 l.solution.3, l.solution.4);
    least = λ G v s. l.least G v s.structure (leaf_solves g e k i j variant q G v s);
  }

-- ---- a step

step_takes : (rule : List Equation) (M : Structure) (m : Value) (A : Structure) (a : Value) → IsLeastOf (RuleAt (variant (0 ∷ 0 ∷ []) rule)) A a
    → (G : Structure) (v : Value) → IsStructure G → IsValue G v → StepAt rule M m G v → TakesBoth A a (0 ∷ []) M m G v
step_takes rule M m A a l G v st held s = record {
  structure = st;
  held = held;
  left = l.least G v st held s.0;
  place = s.1.0;
  there = ap (option_and_then (λ y. Some y)) s.1.1;
  right = s.1.2;
}

step_decided : (rule : List Equation) (M : Structure) (m : Value) → AreWithin 2 rule → IsStructure M → IsValue M m
    → ((U : Structure) × (u : Value) × IsLeastOf (StepAt rule M m) U u) ⊎ ((G : Structure) (v : Value) → IsStructure G → IsValue G v → StepAt rule M m G v → ⊥)
step_decided rule M m within sm hm = elim (variant_decided (0 ∷ 0 ∷ []) rule within) [
  | inr none ↦ inr (λ G v st held s. none G v st held s.0)
  | inl l ↦ elim (decide_unifier l.0 l.1 (0 ∷ []) M m l.2.structure l.2.held sm hm) [
    | inr none ↦ inr (λ G v st held s. none G v (step_takes rule M m l.0 l.1 l.2 G v st held s))
    | inl u ↦
        let t = u.2.takes in
        let deep = and_then_some (arc u.0 u.1 0) (λ y. Some y) t.place t.there in
        inl (
          u.0,
          u.1,
          record {
            structure = t.structure;
            held = t.held;
            holds = (rule_carried (0 ∷ 0 ∷ []) rule l.0 l.1 u.0 u.1 within l.2.holds t.left t.structure, (t.place, deep.1 ∙ deep.2, t.right));
            least = λ G v st held s. u.2.least G v (step_takes rule M m l.0 l.1 l.2 G v st held s);
          },
        )
  ]
]

-- ---- an entry

module _ (w c : ℕ) (es : List Equation) where
  -- through these lexical rules
  abbrev OutOrNone : List (List Equation) → Type 0
  OutOrNone done = ((M : Structure) × (m : Value) × IsLeastOut (entry w c es done) M m) ⊎ ((G : Structure) (v : Value) → IsStructure G → SolvesEntry G (entry w c es done) v → ⊥)

  -- an entry by itself, as a leaf of a lexicon that has nothing else
  lone : Rules
  lone = record { rules = []; entries = (entry w c es [] ∷ []) ∷ []; start = 0; restrictor = [] }

  starts : AreWithin 1 es → OutOrNone []
  unfolding lone
  starts within = elim (variant_decided (c ∷ []) es within) [
    | inl l ↦ let x = leaves_are_rules.solved lone 0 0 0 0 (entry w c es []) l.0 l.1 refl refl l.2 in inl (l.0, x.0, out_of_leaf lone 0 0 0 0 (entry w c es []) refl l.0 x.0 x.2)
    | inr none ↦ inr (λ G v st s. leaves_are_rules.unsolved lone 0 0 0 0 (entry w c es []) refl refl none (G, v, entry_solution lone 0 0 0 0 (entry w c es []) refl G v st s))
  ]

  one_more : (done : List (List Equation)) (rule : List Equation) → AreWithin 2 rule → OutOrNone done → OutOrNone (done ++ rule ∷ [])
  one_more done rule within (inr none) = inr (λ G v st s. let t = chain_last G done rule s.0 v s.3 in none G t.0 st (s.0, s.1, s.2, t.1))
  one_more done rule within (inl l) = elim (step_decided rule l.0 l.1 within l.2.structure l.2.held) [
    | inl u ↦ let y = chain_steps.steps w c es done rule l.0 l.1 u.0 u.1 within l.2 u.2 in inl (u.0, y.0, y.2)
    | inr none ↦ inr (chain_steps.refuses w c es done rule l.0 l.1 within l.2 none)
  ]

  all_more : (done more : List (List Equation)) → AllByRecursion (AreWithin 2) more → OutOrNone done → OutOrNone (done ++ more)
  all_more done [] within h = subst OutOrNone (sym (append-nil done)) h
  all_more done (r ∷ more) within h = subst OutOrNone (append_assoc done (r ∷ []) more) (all_more (done ++ r ∷ []) more within.1 (one_more done r within.0 h))

  entry_decided : (chain : List (List Equation)) → AreWithin 1 es → AllByRecursion (AreWithin 2) chain → OutOrNone chain
  entry_decided chain within rules = all_more [] chain rules (starts within)

-- a leaf
pub leaf_decided : (g : Rules) (e k i j : ℕ) (v : EntryVariant) → entry_variant g e k ≡ Some v → AreWithin 1 v.equations → AllByRecursion (AreWithin 2) v.chain
    → HasLeast g (Leaf e k i j) ⊎ (IsSolvable g (Leaf e k i j) → ⊥)
leaf_decided g e k i j v q within rules = elim (entry_decided v.word v.category v.equations v.chain within rules) [
  | inl l ↦ inl (l.0, l.1, leaf_of_out g e k i j v q l.0 l.1 l.2)
  | inr none ↦ inr (λ s. none s.0 s.1 s.2.structure (leaf_solves g e k i j v q s.0 s.1 s.2))
]
