-- A structure without the symbols that fail a test: arcs of their attributes are dropped, and in place of their atoms stands one unspecified node, at the first place.
use Rattle.std.proofs.Common.{◌≡◌, ℕ, zero, suc, Bool, true, false, cond, nat_eq, eqb-true, true≢false, List, [], ◌∷◌, length, Option, Some, None, option_and_then, slice_index_or, refl, sym, ap, ◌∙◌, subst, arith}
use Rattle.patr_reply.proofs.Names.{AllPass, Arc, Arcs, Atom, HasDistinct, IsStructure, IsValue, Node, Structure, Value, along, and_then_some, arc, arcs_of, at, option_map, some_inj}
use Rattle.patr_model.specs.Structure.{IsBelow}

module _ (test : ℕ → Bool) where
  -- an atom that fails is the unspecified node
  abbrev pub pruned : Value → Value
  pruned (Atom c) = cond (test c) (Atom c) (Node 0)
  pruned (Node n) = Node (suc n)

  abbrev with_arc : Bool → Arc → Arcs → Arcs
  with_arc true e es = record { attribute = e.attribute; to = pruned e.to } ∷ es
  with_arc false e es = es

  abbrev pub pruned_arcs : Arcs → Arcs
  pruned_arcs [] = []
  pruned_arcs (e ∷ es) = with_arc (test e.attribute) e (pruned_arcs es)

  abbrev pub pruned_nodes : Structure → Structure
  pruned_nodes [] = []
  pruned_nodes (es ∷ S) = pruned_arcs es ∷ pruned_nodes S

  abbrev pub without : Structure → Structure
  without S = [] ∷ pruned_nodes S

  -- an attribute that passes leads where it led
  along_kept : (es : Arcs) (a : ℕ) → test a ≡ true → along (pruned_arcs es) a ≡ option_map pruned (along es a)
  along_kept [] a p = refl
  along_kept (e ∷ es) a p = go (test e.attribute) refl (nat_eq e.attribute a) refl (along_kept es a p)
    where
      go : (t : Bool) → test e.attribute ≡ t → (s : Bool) → nat_eq e.attribute a ≡ s → along (pruned_arcs es) a ≡ option_map pruned (along es a)
          → along (with_arc t e (pruned_arcs es)) a ≡ option_map pruned (cond s (Some e.to) (along es a))
      go true k true m rest = ap (λ s. cond s (Some (pruned e.to)) (along (pruned_arcs es) a)) m
      go true k false m rest = ap (λ s. cond s (Some (pruned e.to)) (along (pruned_arcs es) a)) m ∙ rest
      go false k true m rest = absurd (true≢false (sym p ∙ ap test (sym (eqb-true e.attribute a m)) ∙ k))
      go false k false m rest = rest

  -- an arc that is left has an attribute that passes, and leads to a value that was pruned
  along_back : (es : Arcs) (a : ℕ) (y : Value) → along (pruned_arcs es) a ≡ Some y → (test a ≡ true) × ((x : Value) × (y ≡ pruned x))
  along_back [] a y h = cc
  along_back (e ∷ es) a y h = go (test e.attribute) refl h (along_back es a y)
    where
      go : (t : Bool) → test e.attribute ≡ t → along (with_arc t e (pruned_arcs es)) a ≡ Some y → (along (pruned_arcs es) a ≡ Some y → (test a ≡ true) × ((x : Value) × (y ≡ pruned x)))
          → (test a ≡ true) × ((x : Value) × (y ≡ pruned x))
      go false k g rest = rest g
      go true k g rest = here (nat_eq e.attribute a) refl g
        where
          here : (s : Bool) → nat_eq e.attribute a ≡ s → cond s (Some (pruned e.to)) (along (pruned_arcs es) a) ≡ Some y → (test a ≡ true) × ((x : Value) × (y ≡ pruned x))
          here true m f = (ap test (sym (eqb-true e.attribute a m)) ∙ k, (e.to, sym (some_inj (pruned e.to) y f)))
          here false m f = rest f

  node_kept : (S : Structure) (n : ℕ) → slice_index_or (pruned_nodes S) n [] ≡ pruned_arcs (slice_index_or S n [])
  node_kept [] n = refl
  node_kept (es ∷ S) zero = refl
  node_kept (es ∷ S) (suc n) = node_kept S n

  pub arc_kept : (S : Structure) (v : Value) (a : ℕ) → test a ≡ true → arc (without S) (pruned v) a ≡ option_map pruned (arc S v a)
  arc_kept S (Atom c) a p = go (test c)
    where
      go : (t : Bool) → arc (without S) (cond t (Atom c) (Node 0)) a ≡ None
      go true = refl
      go false = refl
  arc_kept S (Node n) a p = ap (λ es. along es a) (node_kept S n) ∙ along_kept (slice_index_or S n []) a p

  pub arc_back : (S : Structure) (v : Value) (a : ℕ) (y : Value) → arc (without S) (pruned v) a ≡ Some y → (test a ≡ true) × ((x : Value) × (y ≡ pruned x))
  arc_back S (Atom c) a y h = go (test c) h
    where
      go : (t : Bool) → arc (without S) (cond t (Atom c) (Node 0)) a ≡ Some y → (test a ≡ true) × ((x : Value) × (y ≡ pruned x))
      go true k = cc
      go false k = cc
  arc_back S (Node n) a y h = along_back (slice_index_or S n []) a y (ap (λ es. along es a) (sym (node_kept S n)) ∙ h)

  pub at_kept : (S : Structure) (p : List ℕ) (v x : Value) → AllPass test p → at S v p ≡ Some x → at (without S) (pruned v) p ≡ Some (pruned x)
  at_kept S [] v x all h = ap (λ y. Some (pruned y)) (some_inj v x h)
  at_kept S (a ∷ p) v x all h =
      let step = and_then_some (arc S v a) (λ y. at S y p) x h in
      ap (λ o. option_and_then (λ y. at (without S) y p) o) (arc_kept S v a all.0 ∙ ap (option_map pruned) step.1) ∙ at_kept S p step.0 x all.1 step.2

  pub at_back : (S : Structure) (p : List ℕ) (v y : Value) → at (without S) (pruned v) p ≡ Some y → (x : Value) × (y ≡ pruned x)
  at_back S [] v y h = (v, sym (some_inj (pruned v) y h))
  at_back S (a ∷ p) v y h =
      let step = and_then_some (arc (without S) (pruned v) a) (λ z. at (without S) z p) y h in
      let one = arc_back S v a step.0 step.1 in
      at_back S p one.1.0 y (subst (λ z. at (without S) z p ≡ Some y) one.1.1 step.2)

  pub atom_passes : (x : Value) (c : ℕ) → Atom c ≡ pruned x → test c ≡ true
  atom_passes (Atom d) c h = go (test d) refl h
    where
      go : (t : Bool) → test d ≡ t → Atom c ≡ cond t (Atom d) (Node 0) → test c ≡ true
      go true k e = let same : c ≡ d = cc in ap test same ∙ k
      go false k e = cc
  atom_passes (Node n) c h = cc

  length_kept : (S : Structure) → length (pruned_nodes S) ≡ length S
  length_kept [] = refl
  length_kept (es ∷ S) = ap suc (length_kept S)

  pub value_kept : (S : Structure) (x : Value) → IsValue S x → IsValue (without S) (pruned x)
  value_kept S (Atom c) h = go (test c)
    where
      go : (t : Bool) → IsValue (without S) (cond t (Atom c) (Node 0))
      go true = tt
      go false = omega arith
  value_kept S (Node n) h = let e = length_kept S in omega (arith, e, h)

  below_kept : (n : ℕ) (x : Value) → IsBelow n x → IsBelow (suc n) (pruned x)
  below_kept n (Atom c) h = go (test c)
    where
      go : (t : Bool) → IsBelow (suc n) (cond t (Atom c) (Node 0))
      go true = tt
      go false = omega arith
  below_kept n (Node k) h = omega (arith, h)

  along_none : (es : Arcs) (a : ℕ) → along es a ≡ None → along (pruned_arcs es) a ≡ None
  along_none [] a h = refl
  along_none (e ∷ es) a h = go (test e.attribute) (nat_eq e.attribute a) refl h (along_none es a)
    where
      go : (t s : Bool) → nat_eq e.attribute a ≡ s → cond s (Some e.to) (along es a) ≡ None → (along es a ≡ None → along (pruned_arcs es) a ≡ None) → along (with_arc t e (pruned_arcs es)) a ≡ None
      go t true m k rest = cc
      go true false m k rest = ap (λ s. cond s (Some (pruned e.to)) (along (pruned_arcs es) a)) m ∙ rest k
      go false false m k rest = rest k

  distinct_kept : (es : Arcs) → HasDistinct es → HasDistinct (pruned_arcs es)
  distinct_kept [] h = tt
  distinct_kept (e ∷ es) h = go (test e.attribute) (distinct_kept es h.1)
    where
      go : (t : Bool) → HasDistinct (pruned_arcs es) → HasDistinct (with_arc t e (pruned_arcs es))
      go true rest = (along_none es e.attribute h.0, rest)
      go false rest = rest

  pub structure_kept : (S : Structure) → IsStructure S → IsStructure (without S)
  structure_kept S is = record { distinct = distinct; lower = lower }
    where
      distinct : (n : ℕ) → HasDistinct (arcs_of (without S) (Node n))
      distinct zero = tt
      distinct (suc n) = subst HasDistinct (sym (node_kept S n)) (distinct_kept (slice_index_or S n []) (is.distinct n))

      lower : (n a : ℕ) (x : Value) → arc (without S) (Node n) a ≡ Some x → IsBelow n x
      lower zero a x h = cc
      lower (suc n) a x h =
          let back = arc_back S (Node n) a x h in
          let passes = arc_kept S (Node n) a back.0 in
          go (arc S (Node n) a) refl (sym passes ∙ h)
        where
          go : (o : Option Value) → arc S (Node n) a ≡ o → option_map pruned o ≡ Some x → IsBelow (suc n) x
          go None e k = cc
          go (Some y) e k = subst (IsBelow (suc n)) (some_inj (pruned y) x k) (below_kept n y (is.lower n a y e))
