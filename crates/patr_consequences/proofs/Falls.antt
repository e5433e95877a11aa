-- A chart that falls as its restrictor grows: S -> A and X -> A, where X is not what S is followed by.
use Rattle.std.proofs.Common.{◌≡◌, ◌⊎◌, inl, inr, ℕ, zero, suc, nat_eq, List, [], ◌∷◌, length, Some, None, option_and_then, slice_get, ◌<◌, refl, sym, ap, ◌∙◌, arith, subst}
use Rattle.patr_model.specs.Derivation.{Rules, RuleVariant, Derivation, Leaf, Begin, Extend, rule_variant, seen, IsPartial, IsComplete}
use Rattle.patr_model.specs.Solution.{IsSolvable}
use Rattle.patr_model.specs.Chart.{InChart}
use Rattle.patr_model.specs.Solved.{MayFollow, solved}
use Rattle.patr_model.specs.Plain.{slot_category, SameCategory, IsBare, bare}
use Rattle.patr_model.specs.Grammar.{Done, One}
use Rattle.patr_model.specs.Productions.{SymbolText, RuleText, Grammar}
use Rattle.patr_model.specs.Build.{Keys, build}
use Rattle.patr_model.proofs.Maps.{some_inj}
use Rattle.patr_model.proofs.Steps.{partial_or_complete, partial_mother, may_follow}
use Rattle.patr_model.proofs.PlainChart.{plainly, slot_atom}
use Rattle.patr_model.proofs.PlainSolved.{plain_is_solvable}
use Rattle.patr_model.proofs.StatedCategories.{are_built}
use Rattle.patr_totality.specs.Laws.{AreReady}
use Rattle.patr_totality.proofs.Ready.{builds_are_ready}
use Rattle.patr_totality.proofs.Charts.{edge_least, have_least}
use Rattle.patr_consequences.specs.Laws.{SameButRestrictor, SomeRestrictorDropsAnEdge}
use Rattle.patr_consequences.proofs.Restrictors.{solvable_same}

abbrev symbol : ℕ → SymbolText ℕ
symbol c = record { symbol = c; category = c }

-- a rule of one constituent, of the category 2
abbrev to_two : ℕ → RuleText ℕ
to_two c = record { line = 1; name = []; mother = symbol c; right = One (symbol 2) Done; equations = Done }

-- 1 -> 2 and 3 -> 2, under a restrictor
abbrev written : List (List ℕ) → Grammar ℕ
written paths = record { rules = to_two 1 ∷ to_two 3 ∷ []; templates = []; lexical_rules = []; start = 1; restrictor = paths; order = [] }

abbrev keys : Keys
keys = record { cat = 0; lex = 4; gloss = 5 }

abbrev with : List (List ℕ) → Rules
with paths = build (λ n. n) nat_eq keys (written paths) []

abbrev g : Rules
g = with []

abbrev h : Rules
h = with ((0 ∷ []) ∷ [])

same : SameButRestrictor g h
same = record { rules = refl; entries = refl; start = refl }

back : SameButRestrictor h g
back = record { rules = refl; entries = refl; start = refl }

ready_g : AreReady g 0
ready_g = builds_are_ready g 0 (are_built (λ n. n) nat_eq keys (written []) [])

ready_h : AreReady h 0
ready_h = builds_are_ready h 0 (are_built (λ n. n) nat_eq keys (written ((0 ∷ []) ∷ [])) [])

-- what the rules of a category come to
abbrev variant_of : ℕ → RuleVariant
variant_of c = record { categories = c ∷ 2 ∷ []; equations = bare 0 0 (c ∷ 2 ∷ []) }

is_rule : (r k : ℕ) (v : RuleVariant) → rule_variant h r k ≡ Some v → (k ≡ 0) × (((r ≡ 0) × (variant_of 1 ≡ v)) ⊎ ((r ≡ 1) × (variant_of 3 ≡ v)))
is_rule zero zero v q = (refl, inl (refl, some_inj (variant_of 1) v q))
is_rule zero (suc k) v q = cc
is_rule (suc zero) zero v q = (refl, inr (refl, some_inj (variant_of 3) v q))
is_rule (suc zero) (suc k) v q = cc
is_rule (suc (suc r)) k v q = cc

-- ---- where the category is looked at, the second rule does not come

first_partial : (paths : List (List ℕ)) → IsPartial (with paths) (Begin 0 0 0)
first_partial paths = (variant_of 1, refl, omega arith)

second_partial : IsPartial g (Begin 1 0 0)
second_partial = (variant_of 3, refl, omega arith)

not_two : (r k i : ℕ) (v : RuleVariant) → rule_variant h r k ≡ Some v → SameCategory (Some 2) (slot_category h (Begin r k i) 0) → ⊥
not_two r k i v q c = go (is_rule r k v q).1
  where
    mother : slot_category h (Begin r k i) 0 ≡ slice_get v.categories 0
    mother = ap (option_and_then (λ (x : RuleVariant). slice_get x.categories 0)) q

    two : slice_get v.categories 0 ≡ Some 2
    two = sym mother ∙ (c.2 ∙ sym c.1)

    go : ((r ≡ 0) × (variant_of 1 ≡ v)) ⊎ ((r ≡ 1) × (variant_of 3 ≡ v)) → ⊥
    go (inl e) = let bad : 1 ≡ 2 = some_inj 1 2 (ap (λ (x : RuleVariant). slice_get x.categories 0) e.1 ∙ two) in omega (arith, bad)
    go (inr e) = let bad : 3 ≡ 2 = some_inj 3 2 (ap (λ (x : RuleVariant). slice_get x.categories 0) e.1 ∙ two) in omega (arith, bad)

only_first : (t : Derivation) → InChart (solved h 0) h [] t → Begin 0 0 0 ≡ t
only_first t (InChart.word e k i i' entry q w n edge) = let bad : None ≡ Some entry.word = w in cc
only_first t (InChart.first r k rule q c edge) = go (is_rule r k rule q)
  where
    go : (k ≡ 0) × (((r ≡ 0) × (variant_of 1 ≡ rule)) ⊎ ((r ≡ 1) × (variant_of 3 ≡ rule))) → Begin 0 0 0 ≡ Begin r k 0
    go (z, inl e) = ap (λ x. Begin x 0 0) (sym e.0) ∙ ap (λ x. Begin r x 0) (sym z)
    go (z, inr e) = let bad : 3 ≡ 1 = some_inj 3 1 (ap (λ (x : RuleVariant). slice_get x.categories 0) e.1 ∙ c) in absurd (omega (arith, bad))
only_first t (InChart.predicted a r k i in_a part q edge may) =
    let one = plainly h 0 ready_h.categories refl [] a r k i part (edge.2.solves.0, edge.2.solves.1) may in
    absurd (not_two r k i edge.2.solves.0 edge.2.solves.1 (subst (λ u. SameCategory (slot_category h u (suc (seen u))) (slot_category h (Begin r k i) 0)) (sym (only_first a in_a)) one))
only_first t (InChart.extended a p in_a part in_p full q edge) =
    absurd (partial_or_complete h (Begin 0 0 0) (first_partial ((0 ∷ []) ∷ [])) (subst (IsComplete h) (sym (only_first p in_p)) full))

-- ---- where nothing is looked at, it does

bare_h : IsBare h 0
bare_h = record {
  rules = λ r k rule q. elim (is_rule r k rule q).1 [
    | inl e ↦ subst (λ (x : RuleVariant). (x.equations ≡ bare 0 0 x.categories) × (0 < length x.categories)) e.1 (refl, omega arith)
    | inr e ↦ subst (λ (x : RuleVariant). (x.equations ≡ bare 0 0 x.categories) × (0 < length x.categories)) e.1 (refl, omega arith)
  ];
  entries = λ e k entry q. let bad : None ≡ Some entry = q in cc;
  restrictor = refl;
}

first_solvable : IsSolvable g (Begin 0 0 0)
first_solvable = solvable_same h g back (Begin 0 0 0) (plain_is_solvable h 0 bare_h [] (Begin 0 0 0) (variant_of 1, refl) (variant_of 1, refl))

second_solvable : IsSolvable g (Begin 1 0 0)
second_solvable = solvable_same h g back (Begin 1 0 0) (plain_is_solvable h 0 bare_h [] (Begin 1 0 0) (variant_of 3, refl) (variant_of 3, refl))

first_in : InChart (solved g 0) g [] (Begin 0 0 0)
first_in = InChart.first 0 0 (variant_of 1) refl refl first_solvable

follows : MayFollow g (Begin 0 0 0) (Begin 1 0 0)
follows =
    let la = edge_least g 0 ready_g [] (Begin 0 0 0) first_in in
    let lb = (have_least g 0 ready_g []).rules 1 0 0 second_solvable in
    let x = slot_atom g 0 ready_g.categories (Begin 0 0 0) (first_partial []) la.0 la.1 la.2 1 2 refl in
    let y = slot_atom g 0 ready_g.categories (Begin 1 0 0) second_partial lb.0 lb.1 lb.2 0 3 refl in
    may_follow g (Begin 0 0 0) (Begin 1 0 0) la x.0 x.1 lb y.0 (partial_mother g (Begin 1 0 0) second_partial lb.0 lb.1 y.0 y.1) (λ k a b e f. cc)

number_of : Derivation → ℕ
number_of (Leaf e k i j) = e
number_of (Begin r k i) = r
number_of (Extend a p) = 0

apart : Begin 0 0 0 ≡ Begin 1 0 0 → ⊥
unfolding number_of
apart e = let bad : number_of (Begin 0 0 0) ≡ number_of (Begin 1 0 0) = ap number_of e in omega (arith, bad)

pub falls : SomeRestrictorDropsAnEdge
falls = (
  g,
  h,
  0,
  ready_g,
  same,
  λ k p q. let bad : None ≡ Some p = q in cc,
  (
    [],
    Begin 1 0 0,
    InChart.predicted (Begin 0 0 0) 1 0 0 first_in (first_partial []) refl second_solvable follows,
    λ i. apart (only_first (Begin 1 0 0) i),
  ),
)
