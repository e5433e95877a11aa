-- The least value of facts of one slot.
use Rattle.std.proofs.Common.{◌≡◌, ℕ, zero, suc, Bool, true, false, cond, nat_eq, eqb-true, List, [], ◌∷◌, length, Option, Some, None, option_and_then, slice_get, refl, sym, ap, ◌∙◌, arith, subst}
use Rattle.patr_library.proofs.Names.{AllByRecursion, some_inj, and_then_some, Value, Atom, Node, Structure, Arc, along, arc, IsValue, IsStructure, MapsInto, image, Holds, RuleAt, variant, IsLeastOf, Feature, own_arcs, own_nodes, IsOwnBlock, IsLeastAt, fact_features}
use Rattle.patr_model.specs.Plain.{arcs_for, stated}
use Rattle.patr_arena.specs.declared.value.Ref.TheVariants as ref
use Rattle.patr_library.proofs.Placed.{own_structure}
use Rattle.patr_library.proofs.Reached.{there_along}

-- the arc of the one slot
abbrev pub slot_feature : Feature
slot_feature = record { attribute = record { 0 = 0 }; to = ref.New 0 }

own_facts : (fs : List (ℕ × ℕ)) → own_arcs (fact_features fs) ≡ arcs_for fs
own_facts [] = refl
own_facts (f ∷ fs) = ap (λ es. record { attribute = f.0; to = Atom f.1 } ∷ es) (own_facts fs)

-- an arc for each fact makes the facts hold
facts_hold : (G : Structure) (v : Value) (fs : List (ℕ × ℕ)) → ((i : ℕ) (e : Arc) → slice_get (arcs_for fs) i ≡ Some e → arc G v e.attribute ≡ Some e.to) → AllByRecursion (Holds G (v ∷ [])) (stated fs)
facts_hold G v [] has = tt
facts_hold G v (f ∷ fs) has = ((Atom f.1, ap (option_and_then (λ y. Some y)) (has 0 (record { attribute = f.0; to = Atom f.1 }) refl), refl), facts_hold G v fs (λ i e h. has (suc i) e h))

-- where the facts hold, the arcs lead to atoms
facts_say : (G : Structure) (x : Value) (by : ℕ → Option Value) (fs : List (ℕ × ℕ)) → AllByRecursion (Holds G (x ∷ [])) (stated fs) → (a : ℕ) (y : Value) → along (arcs_for fs) a ≡ Some y → (image by y ≡ Some y) × (arc G x a ≡ Some y)
facts_say G x by [] all a y e = cc
facts_say G x by (f ∷ fs) all a y e = go (nat_eq f.0 a) refl (facts_say G x by fs all.1 a y) e
  where
    here : (c : ℕ) → option_and_then (λ z. Some z) (arc G x f.0) ≡ Some (Atom c) → arc G x f.0 ≡ Some (Atom c)
    here c h = let s = and_then_some (arc G x f.0) (λ z. Some z) (Atom c) h in s.1 ∙ s.2

    go : (b : Bool) → nat_eq f.0 a ≡ b → (along (arcs_for fs) a ≡ Some y → (image by y ≡ Some y) × (arc G x a ≡ Some y)) → cond b (Some (Atom f.1)) (along (arcs_for fs) a) ≡ Some y → (image by y ≡ Some y) × (arc G x a ≡ Some y)
    go true t rest k =
        let is : Atom f.1 ≡ y = some_inj (Atom f.1) y k in (
          subst (λ z. image by z ≡ Some z) is refl,
          subst (λ z. arc G x a ≡ Some z) is (subst (λ b. arc G x b ≡ Some (Atom f.1)) (eqb-true f.0 a t) (here f.1 (all.0.1 ∙ sym all.0.2))),
        )
    go false t rest k = rest k

module _ (fs : List (ℕ × ℕ)) (nodes : List (List Feature)) (own : IsOwnBlock nodes) (is : nodes ≡ fact_features fs ∷ (slot_feature ∷ []) ∷ []) where
  plain : own_nodes nodes ≡ arcs_for fs ∷ (record { attribute = 0; to = Node 0 } ∷ []) ∷ []
  plain = ap own_nodes is ∙ ap (λ es. es ∷ (record { attribute = 0; to = Node 0 } ∷ []) ∷ []) (own_facts fs)

  abbrev S : Structure
  S = arcs_for fs ∷ (record { attribute = 0; to = Node 0 } ∷ []) ∷ []

  shown : IsStructure S
  shown = subst IsStructure plain (own_structure nodes own)

  least : (cs : List ℕ) → length cs ≡ 1 → IsLeastOf (RuleAt (variant cs (stated fs))) S (Node 1)
  least cs count = record {
    structure = shown;
    held = omega arith;
    holds = (
      Node 0 ∷ [],
      record { count = sym count; held = (omega arith, tt); equations = facts_hold S (Node 0) fs (λ i e h. there_along (arcs_for fs) (shown.distinct 0) i e h) },
      slots,
    );
    least = λ G v s held r. into G v r.0 (r.1.count ∙ count) held r.1.held r.1.equations r.2;
  }
    where
      slots : (k : ℕ) (x : Value) → slice_get (Node 0 ∷ []) k ≡ Some x → arc S (Node 1) k ≡ Some x
      slots zero x h = h
      slots (suc k) x h = cc

      into : (G : Structure) (v : Value) (vs : List Value) → length vs ≡ 1 → IsValue G v → AllByRecursion (IsValue G) vs → AllByRecursion (Holds G vs) (stated fs) → ((k : ℕ) (x : Value) → slice_get vs k ≡ Some x → arc G v k ≡ Some x) → MapsInto S (Node 1) G v
      into G v [] n held all hold has = absurd (omega (arith, n))
      into G v (x ∷ y ∷ vs) n held all hold has = absurd (omega (arith, n))
      into G v (x ∷ []) n held all hold has = record { by = onto; is_map = record { values = values; arcs = arcs }; root = refl }
        where
          onto : ℕ → Option Value
          onto zero = Some x
          onto (suc zero) = Some v
          onto (suc (suc k)) = None

          values : (n : ℕ) (y : Value) → onto n ≡ Some y → IsValue G y
          values zero y e = subst (IsValue G) (some_inj x y e) all.0
          values (suc zero) y e = subst (IsValue G) (some_inj v y e) held
          values (suc (suc k)) y e = cc

          slot_arc : (a : ℕ) (z : Value) (b : Bool) → nat_eq 0 a ≡ b → cond b (Some (Node 0)) None ≡ Some z → (image onto z ≡ Some x) × (arc G v a ≡ Some x)
          slot_arc a z true t e = (
            subst (λ z. image onto z ≡ Some x) (some_inj (Node 0) z e) refl,
            subst (λ b. arc G v b ≡ Some x) (eqb-true 0 a t) (has 0 x refl),
          )
          slot_arc a z false t e = cc

          arcs : (n : ℕ) (y : Value) → onto n ≡ Some y → (a : ℕ) (z : Value) → arc S (Node n) a ≡ Some z → (w : Value) × (image onto z ≡ Some w) × (arc G y a ≡ Some w)
          arcs zero y e a z h =
              let r = facts_say G x onto fs hold a z h in
              (z, r.0, subst (λ u. arc G u a ≡ Some z) (some_inj x y e) r.1)
          arcs (suc zero) y e a z h =
              let r = slot_arc a z (nat_eq 0 a) refl h in
              (x, r.0, subst (λ u. arc G u a ≡ Some x) (some_inj v y e) r.1)
          arcs (suc (suc k)) y e a z h = cc

  pub facts_are_least : (root : ℕ) → root ≡ 1 → IsLeastAt 1 (stated fs) nodes root
  facts_are_least root at = record {
    rooted = record { own = own; root = omega (arith, at, ap length is) };
    least = λ cs count. subst (λ S. IsLeastOf (RuleAt (variant cs (stated fs))) S (Node root)) (sym plain) (subst (λ k. IsLeastOf (RuleAt (variant cs (stated fs))) S (Node k)) (sym at) (least cs count));
  }
