-- The least value of two lists of equations, from one of each.
use Rattle.std.proofs.Common.{◌≡◌, ℕ, suc, ◌+◌, List, [], ◌∷◌, ◌++◌, length, map, take, drop, Option, Some, None, slice_get, refl, sym, ap, ◌∙◌, arith, subst}
use Rattle.patr_library.proofs.Names.{AllByRecursion, all_append, all_left, all_right, Value, Node, Structure, arc, IsValue, IsStructure, MapsInto, TakesBoth, IsUnifier, Equation, Holds, variant, RuleAt, IsLeastOf, AreWithin, some_inj, rule_carried, Feature, own_nodes, IsLeastAt, HasNone, AreUnified, IsSolvedIn, Shown, value_of}
use Rattle.patr_arena.specs.declared.value.Value as its
use Rattle.patr_library.proofs.Steps.{all_of, within_left}
use Rattle.patr_arena.specs.declared.value.Ref.TheVariants as ref

-- a node has its slots but once
slots_are : (G : Structure) (v : Value) (k : ℕ) (vs ws : List Value) → ((i : ℕ) (x : Value) → slice_get vs i ≡ Some x → arc G v (k + i) ≡ Some x)
    → ((i : ℕ) (x : Value) → slice_get ws i ≡ Some x → arc G v (k + i) ≡ Some x) → length vs ≡ length ws → vs ≡ ws
slots_are G v k [] [] f g n = refl
slots_are G v k [] (y ∷ ws) f g n = absurd (omega (arith, n))
slots_are G v k (x ∷ vs) [] f g n = absurd (omega (arith, n))
slots_are G v k (x ∷ vs) (y ∷ ws) f g n =
    let next : (i : ℕ) → arc G v (suc k + i) ≡ arc G v (k + suc i) = λ i. ap (λ m. arc G v m) (let e : suc k + i ≡ k + suc i = omega arith in e) in
    let same : x ≡ y = some_inj x y (sym (f 0 x refl) ∙ g 0 y refl) in
    let rest : vs ≡ ws = slots_are G v (suc k) vs ws (λ i z h. next i ∙ f (suc i) z h) (λ i z h. next i ∙ g (suc i) z h) (omega (arith, n)) in
    ap (λ z. z ∷ vs) same ∙ ap (λ l. y ∷ l) rest

module _ (cs : List ℕ) (es fs : List Equation) where
  both_hold : (G : Structure) (v : Value) → RuleAt (variant cs es) G v → RuleAt (variant cs fs) G v → RuleAt (variant cs (es ++ fs)) G v
  both_hold G v r s =
      let first : (i : ℕ) → arc G v (0 + i) ≡ arc G v i = λ i. ap (λ m. arc G v m) (let e : 0 + i ≡ i = omega arith in e) in
      let same : s.0 ≡ r.0 = slots_are G v 0 s.0 r.0 (λ i x h. first i ∙ s.2 i x h) (λ i x h. first i ∙ r.2 i x h) (s.1.count ∙ sym r.1.count) in (
        r.0,
        record {
          count = r.1.count;
          held = r.1.held;
          equations = all_append (Holds G r.0) es fs r.1.equations (subst (λ vs. AllByRecursion (Holds G vs) fs) same s.1.equations);
        },
        r.2,
      )

  front_holds : (G : Structure) (v : Value) → RuleAt (variant cs (es ++ fs)) G v → RuleAt (variant cs es) G v
  front_holds G v r = (r.0, record { count = r.1.count; held = r.1.held; equations = all_left (Holds G r.0) es fs r.1.equations }, r.2)

  back_holds : (G : Structure) (v : Value) → RuleAt (variant cs (es ++ fs)) G v → RuleAt (variant cs fs) G v
  back_holds G v r = (r.0, record { count = r.1.count; held = r.1.held; equations = all_right (Holds G r.0) es fs r.1.equations }, r.2)

  module _ (A : Structure) (α : Value) (B : Structure) (β : Value) (a : IsLeastOf (RuleAt (variant cs es)) A α) (b : IsLeastOf (RuleAt (variant cs fs)) B β) where
    -- whatever solves both takes both
    takes : (G : Structure) (v : Value) → IsStructure G → IsValue G v → RuleAt (variant cs (es ++ fs)) G v → TakesBoth A α [] B β G v
    takes G v s held r = record {
      structure = s;
      held = held;
      left = a.least G v s held (front_holds G v r);
      place = v;
      there = refl;
      right = b.least G v s held (back_holds G v r);
    }

    unifier_is_least : (U : Structure) (u : Value) → AreWithin (length cs) es → AreWithin (length cs) fs → IsUnifier A α [] B β U u → IsLeastOf (RuleAt (variant cs (es ++ fs))) U u
    unifier_is_least U u we wf un =
        let t = un.takes in
        let same : t.place ≡ u = some_inj t.place u (sym t.there) in
        let right : MapsInto B β U u = subst (λ x. MapsInto B β U x) same t.right in
        record {
          structure = t.structure;
          held = t.held;
          holds = both_hold U u (rule_carried cs es A α U u we a.holds t.left t.structure) (rule_carried cs fs B β U u wf b.holds right t.structure);
          least = λ G v s held r. un.least G v (takes G v s held r);
        }

-- the least values of both parts, and what they make
pub least_of_both : (slots : ℕ) (es fs : List Equation) (v w : Shown) (x : its.Value) (right : List (List Feature)) (r : ℕ) (o : Option its.Value)
    → AreWithin slots es → AreWithin slots fs → IsSolvedIn v slots es (Some x) → IsLeastAt slots fs right r → AreUnified v w x right (ref.New r) o → IsSolvedIn w slots (es ++ fs) o
least_of_both slots es fs v w x right r None we wf a b none = λ cs count G y s held h.
    none G y (takes cs es fs v.structure (value_of v x) (own_nodes right) (Node r) (a.1 cs count) (b.least cs count) G y s held h)
least_of_both slots es fs v w x right r (Some made) we wf a b un = (
  un.slots,
  λ cs count.
      unifier_is_least cs es fs v.structure (value_of v x) (own_nodes right) (Node r) (a.1 cs count) (b.least cs count) w.structure (value_of w made)
      (subst (λ n. AreWithin n es) (sym count) we) (subst (λ n. AreWithin n fs) (sym count) wf) un.unifier,
)

pub none_of_back : (slots : ℕ) (es fs : List Equation) → HasNone slots fs → HasNone slots (es ++ fs)
none_of_back slots es fs h = λ cs count G v s held x. h cs count G v s held (back_holds cs es fs G v x)

-- ---- the parts of a list

within_right : (n : ℕ) (es fs : List Equation) → AreWithin n (es ++ fs) → AreWithin n fs
within_right n [] fs h = h
within_right n (e ∷ es) fs h = within_right n es fs h.1

-- equations that are cut in two
pub record IsCut (slots : ℕ) (all front back : List Equation) : Type 0 where
  pub is : front ++ back ≡ all
  pub left : AreWithin slots front
  pub right : AreWithin slots back

pub cut_at : {X : Type 0} (f : X → Equation) (slots : ℕ) (s : List Equation) (xs front back : List X) (i : ℕ) → front ≡ take i xs → back ≡ drop i xs → AreWithin slots (s ++ map f xs) → IsCut slots (s ++ map f xs) (s ++ map f front) (map f back)
cut_at f slots s xs front back i p q w =
    let is = all_of f s xs i ∙ (ap (λ l. (s ++ map f l) ++ map f (drop i xs)) (sym p) ∙ ap (λ l. (s ++ map f front) ++ map f l) (sym q)) in
    let both = subst (AreWithin slots) is w in
    record { is = sym is; left = within_left slots (s ++ map f front) (map f back) both; right = within_right slots (s ++ map f front) (map f back) both }
