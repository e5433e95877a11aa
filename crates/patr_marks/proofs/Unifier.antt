-- At the end of a run: a unifier, or nothing that takes both.
use Rattle.std.proofs.Common.{◌≡◌, ℕ, zero, suc, ◌+◌, ◌<◌, inl, inr, Bool, true, false, cond, ◌||◌, List, [], ◌∷◌, ◌++◌, length, Option, Some, None, option_and_then, refl, sym, ap, ◌∙◌, subst, nat_eq, eqb-true, eq-eqb}
use Rattle.std.proofs.lemmas.Bool.{cases_eq}
use Rattle.patr_lists.specs.Members.{IsIn}
use Rattle.patr_lists.proofs.Conditions.{or_right}
use Rattle.patr_model.specs.Structure.{Value, Atom, Node, Arcs, Structure, along, arc, at, IsBelow, IsStructure, IsValue}
use Rattle.patr_model.specs.Subsumption.{image, IsMap, MapsInto, TakesBoth, IsUnifier}
use Rattle.patr_marks.specs.Machine.{Pair, ends, Has, has_attribute, pair_with, matches, State, own, arcs_at, IsMerge, IsBind, IsSkip, IsClash, IsMarked, Within, LogWithin, PairsWithin, IsWithin, IsClosed, Takes}
use Rattle.patr_marks.specs.Sides.{shift, sides, IsSide}
use Rattle.patr_marks.specs.Quotient.{Below, IsOrder, place, placed, built, becomes}
use Rattle.patr_marks.specs.Walk.{Leads, ReachedIn, IsWalk}
use Rattle.patr_marks.specs.Run.{first_pair, IsRun}
use Rattle.patr_marks.proofs.Lists.{has_right, has_cases, along_has, ends_atom}
use Rattle.patr_marks.proofs.Marks.{tied_ends, tied_later, merge_keeps, bind_keeps, skip_keeps, merge_marked, bind_marked, skip_marked, start_marked, merge_sources}
use Rattle.patr_marks.proofs.Forced.{merge_forced, bind_forced, skip_forced, clash_refutes, arcs_forced, ends_within, popped_within, pairs_left}
use Rattle.patr_marks.proofs.Quotient.{built_is_structure, becomes_arc, built_least, length_built, place_below}
use Rattle.patr_marks.proofs.Walk.{cycle_refutes}
use Rattle.patr_marks.proofs.Sides.{own_left, own_right, along_shifted, sides_is_structure, joined, joined_left, image_shift, image_left, joined_is_map, full, full_some, IsMapped, map_takes, mapped_within, mapped_closed, sides_least}
use Rattle.patr_model.proofs.Maps.{some_inj, and_then_some, carries}
use Rattle.patr_model.proofs.Steps.{has_place}

-- side nodes are closed along arcs
pub side_closed : (S : Structure) (l : ℕ) (r : Value) → IsClosed (sides S) (IsSide S l r)
side_closed S l r k a (Atom c) h n = tt
side_closed S l r k a (Node j) h n = (suc h.0, (k, a, h.1, n))

-- the marks stay at side nodes
matches_within : (P : ℕ → Type 0) (es bs : Arcs) → ((a : ℕ) (x : Value) → Has es a x → Within P x) → ((a : ℕ) (x : Value) → Has bs a x → Within P x) → PairsWithin P (matches es bs)
matches_within P [] bs f g = tt
matches_within P (e ∷ es) bs f g = go (has_attribute es e.attribute) (along bs e.attribute) refl (matches_within P es bs (λ a x h. f a x (inr h)) g)
  where
    go : (b : Bool) (o : Option Value) → along bs e.attribute ≡ o → PairsWithin P (matches es bs) → PairsWithin P (cond b (matches es bs) (pair_with o e.to (matches es bs)))
    go true o q ih = ih
    go false None q ih = ih
    go false (Some y) q ih = (f e.attribute e.to (inl (refl, refl)), g e.attribute y (along_has bs e.attribute y q), ih)

pairs_both : (P : ℕ → Type 0) (ps qs : List Pair) → PairsWithin P ps → PairsWithin P qs → PairsWithin P (ps ++ qs)
pairs_both P [] qs h k = k
pairs_both P (p ∷ ps) qs h k = (h.0, h.1, pairs_both P ps qs h.2 k)

pub arcs_within : (D : Structure) (P : ℕ → Type 0) (s : State) → IsClosed D P → IsWithin P s → (k a : ℕ) (x : Value) → P k → Has (arcs_at D s k) a x → Within P x
arcs_within D P s c w k a x h n = elim (has_cases (own D k) (s.added k) a x n) [ inl u ↦ c k a x h u | inr u ↦ (w.added k a x u).1 ]

merge_within : (D : Structure) (P : ℕ → Type 0) (s t : State) (A B : ℕ) (rest : List Pair) (p : Pair) → IsClosed D P → IsWithin P s → IsMerge D s t A B rest p → IsWithin P t
merge_within D P s t A B rest p c w g =
    let here = popped_within P s rest p (Node A) (Node B) w g.popped g.ends_are in
    record {
      log = subst (LogWithin P) (sym g.log) (here.0, here.1, w.log);
      pending = subst (PairsWithin P) (sym g.pending) (pairs_both P rest (matches (arcs_at D s A) (arcs_at D s B)) (pairs_left P rest (p ∷ []) (subst (PairsWithin P) g.popped w.pending))
          (matches_within P (arcs_at D s A) (arcs_at D s B) (λ a x h. arcs_within D P s c w A a x here.0 h) (λ a x h. arcs_within D P s c w B a x here.1 h)));
      added = λ k a x h. elim (cases_eq k B) [
        | inl kB ↦
            let h' : Has (t.added B) a x = subst (λ i. Has (t.added i) a x) kB h in
            let v : Within P x = elim (merge_sources D s t A B rest p g a x (has_right (own D B) (t.added B) a x h')) [
              | inl u ↦ arcs_within D P s c w A a x here.0 u
              | inr u ↦ arcs_within D P s c w B a x here.1 u
            ] in
            (subst P (sym kB) here.1, v)
        | inr kB ↦ elim (cases_eq k A) [
          | inl kA ↦ absurd (subst (λ es. Has es a x) g.emptied (subst (λ i. Has (t.added i) a x) kA h))
          | inr kA ↦ w.added k a x (subst (λ es. Has es a x) (g.others k kA kB) h)
        ]
      ];
    }

pub root_within : (S : Structure) (l : ℕ) (r v : Value) → v ≡ shift (length S) r → Within (IsSide S l r) v
root_within S l r (Atom c) e = tt
root_within S l r (Node k) e = (0, inr e)

-- a run starts
pub run_starts : (S : Structure) (l : ℕ) (r target : Value) → IsStructure S → Within (IsSide S l r) target → IsRun S l r target (record { log = []; added = λ k. []; pending = first_pair S target r ∷ [] })
run_starts S l r target s h = record {
  marked = start_marked (sides S) (first_pair S target r) (sides_is_structure S s);
  within = record { log = tt; pending = (h, root_within S l r (shift (length S) r) refl, tt); added = λ k a x n. absurd n };
  tied = λ m a b. b.0;
  forced = λ G M t e. record { log = tt; pending = (e, tt); added = λ k a x n. absurd n };
}

-- and goes on
pub run_merges : (S : Structure) (l : ℕ) (r target : Value) (s t : State) (A B : ℕ) (rest : List Pair) (p : Pair) → IsRun S l r target s → IsMerge (sides S) s t A B rest p → IsRun S l r target t
run_merges S l r target s t A B rest p i g = record {
  marked = merge_marked (sides S) s t A B rest p i.marked g;
  within = merge_within (sides S) (IsSide S l r) s t A B rest p (side_closed S l r) i.within g;
  tied = tied_later s t target (shift (length S) r) (merge_keeps (sides S) s t A B rest p g) i.tied;
  forced = λ G M k e. merge_forced (sides S) (IsSide S l r) G M s t A B rest p k i.within g (i.forced G M k e);
}

pub run_binds : (S : Structure) (l : ℕ) (r target : Value) (s t : State) (A c : ℕ) (rest : List Pair) (p : Pair) → IsRun S l r target s → IsBind (sides S) s t A c rest p → IsRun S l r target t
run_binds S l r target s t A c rest p i g =
    let here = popped_within (IsSide S l r) s rest p (Node A) (Atom c) i.within g.popped g.ends_are in
    record {
      marked = bind_marked (sides S) s t A c rest p i.marked g;
      within = record {
        log = subst (LogWithin (IsSide S l r)) (sym g.log) (here.0, tt, i.within.log);
        pending = subst (PairsWithin (IsSide S l r)) (sym g.pending) (pairs_left (IsSide S l r) rest (p ∷ []) (subst (PairsWithin (IsSide S l r)) g.popped i.within.pending));
        added = λ k a x h. i.within.added k a x (subst (λ es. Has es a x) (g.others k) h);
      };
      tied = tied_later s t target (shift (length S) r) (bind_keeps (sides S) s t A c rest p g) i.tied;
      forced = λ G M k e. bind_forced (sides S) G M s t A c rest p g (i.forced G M k e);
    }

pub run_skips : (S : Structure) (l : ℕ) (r target : Value) (s t : State) (rest : List Pair) (p : Pair) → IsRun S l r target s → IsSkip s t rest p → IsRun S l r target t
run_skips S l r target s t rest p i g = record {
  marked = skip_marked (sides S) s t rest p i.marked g;
  within = record {
    log = subst (LogWithin (IsSide S l r)) (sym g.log) i.within.log;
    pending = subst (PairsWithin (IsSide S l r)) (sym g.pending) (pairs_left (IsSide S l r) rest (p ∷ []) (subst (PairsWithin (IsSide S l r)) g.popped i.within.pending));
    added = λ k a x h. i.within.added k a x (subst (λ es. Has es a x) (g.others k) h);
  };
  tied = tied_later s t target (shift (length S) r) (skip_keeps s t rest p g) i.tied;
  forced = λ G M k e. skip_forced G M s t rest p g (i.forced G M k e);
}

-- what two maps that take both sides come to
pub record IsTaker (S : Structure) (l : ℕ) (r : Value) (target : Value) (G : Structure) (g : Value) (M : Value → Value) : Type 0 where
  pub takes : Takes (sides S) (IsSide S l r) G M
  pub first : M target ≡ M (shift (length S) r)
  pub root : M (Node l) ≡ g
  pub held : (k : ℕ) → IsSide S l r k → IsBelow (length G) (M (Node k))

pub takes_both_taker : (S : Structure) (l : ℕ) (p : List ℕ) (r target : Value) (G : Structure) (g : Value) → IsStructure S → l < length S → IsValue S target → at S (Node l) p ≡ Some target
    → TakesBoth S (Node l) p S r G g → (M : Value → Value) × IsTaker S l r target G g M
takes_both_taker S l p r target G g s hl ht e b =
    let n = length S in
    let m = joined n b.left.by b.right.by in
    let im = joined_is_map S G b.left.by b.right.by s b.left.is_map b.right.is_map in
    let ds = sides_is_structure S s in
    let il : image m (Node l) ≡ Some g = joined_left n b.left.by b.right.by l hl ∙ b.left.root in
    let ir : image m (shift n r) ≡ Some b.place = image_shift n b.left.by b.right.by r ∙ b.right.root in
    let c = carries S G b.left.by b.left.is_map p (Node l) g b.left.root target e in
    let z : c.0 ≡ b.place = some_inj c.0 b.place (sym c.2 ∙ b.there) in
    let it : image m target ≡ Some b.place = image_left n b.left.by b.right.by target ht ∙ (c.1 ∙ ap (λ v. Some v) z) in
    let mapped : (k : ℕ) → IsSide S l r k → IsMapped m k = sides_least S l r (IsMapped m) (mapped_closed (sides S) G m ds im) (g, il) (mapped_within m (shift n r) b.place ir) in
    let t = map_takes (sides S) G m ds im in (
      full m,
      record {
        takes = record { atoms = t.atoms; arcs = λ k a x h n'. t.arcs k a x (mapped k h) n' };
        first = full_some m target b.place it ∙ sym (full_some m (shift n r) b.place ir);
        root = full_some m (Node l) g il;
        held = λ k h. let w = mapped k h in subst (IsBelow (length G)) (sym (full_some m (Node k) w.0 w.1)) (im.values k w.0 w.1);
      },
    )

-- a clash: nothing takes both
pub clash_ends : (S : Structure) (l : ℕ) (p : List ℕ) (r target : Value) (s : State) (rest : List Pair) (q : Pair) → IsStructure S → l < length S → IsValue S target → at S (Node l) p ≡ Some target
    → IsRun S l r target s → IsClash (sides S) s rest q → (G : Structure) (g : Value) → TakesBoth S (Node l) p S r G g → ⊥
clash_ends S l p r target s rest q is hl ht e i c G g b =
    let t = takes_both_taker S l p r target G g is hl ht e b in
    clash_refutes (sides S) (IsSide S l r) G t.0 s rest q t.1.takes i.within c (i.forced G t.0 t.1.takes t.1.first)

-- a cycle: nothing takes both
pub reached_side : (S : Structure) (l : ℕ) (r : Value) (s : State) → IsWithin (IsSide S l r) s → (root : ℕ) → IsSide S l r root → (n k : ℕ) → ReachedIn (sides S) s root n k → IsSide S l r k
reached_side S l r s w root h zero k e = subst (IsSide S l r) e h
reached_side S l r s w root h (suc n) k x =
    let one = reached_side S l r s w root h n x.0 x.1 in
    let to = arcs_within (sides S) (IsSide S l r) s (side_closed S l r) w x.0 x.2.0 x.2.1 one x.2.2 in
    subst (Within (IsSide S l r)) x.2.3 (ends_within (IsSide S l r) s.log x.2.1 w.log to)

pub root_side : (S : Structure) (l : ℕ) (r : Value) (s : State) → IsWithin (IsSide S l r) s → (root : ℕ) → ends s.log (Node l) ≡ Node root → IsSide S l r root
root_side S l r s w root e = subst (Within (IsSide S l r)) e (ends_within (IsSide S l r) s.log (Node l) w.log (0, inl refl))

pub cycle_ends : (S : Structure) (l : ℕ) (p : List ℕ) (r target : Value) (s : State) → IsStructure S → l < length S → IsValue S target → at S (Node l) p ≡ Some target
    → IsRun S l r target s → (root k : ℕ) (ks order : List ℕ) (j : ℕ) → ends s.log (Node l) ≡ Node root → IsWalk (sides S) s root (k ∷ ks) order → Leads (sides S) s k j → IsIn (k ∷ ks) j
    → (G : Structure) (g : Value) → TakesBoth S (Node l) p S r G g → ⊥
cycle_ends S l p r target s is hl ht e i root k ks order j er w to h G g b =
    let t = takes_both_taker S l p r target G g is hl ht e b in
    let rs = root_side S l r s i.within root er in
    cycle_refutes (sides S) (IsSide S l r) G t.0 s b.structure t.1.takes (i.forced G t.0 t.1.takes t.1.first) k ks j
    (λ q n. let u = w.reached q (inr n) in reached_side S l r s i.within root rs u.0 q u.1) w.chain to h

-- the test that goes with Below
is_in : List ℕ → ℕ → Bool
is_in [] k = false
is_in (j ∷ js) k = nat_eq j k || is_in js k

is_in_true : (js : List ℕ) (k : ℕ) → is_in js k ≡ true → IsIn js k
unfolding is_in
is_in_true [] k h = cc
is_in_true (j ∷ js) k h = go (nat_eq j k) refl (is_in_true js k) h
  where
    go : (b : Bool) → nat_eq j k ≡ b → (is_in js k ≡ true → IsIn js k) → (b || is_in js k) ≡ true → IsIn (j ∷ js) k
    go true q ih h = inl (eqb-true j k q)
    go false q ih h = inr (ih h)

is_in_from : (js : List ℕ) (k : ℕ) → IsIn js k → is_in js k ≡ true
unfolding is_in
is_in_from [] k h = absurd h
is_in_from (j ∷ js) k (inl e) = ap (λ b. b || is_in js k) (eq-eqb j k e)
is_in_from (j ∷ js) k (inr h) = or_right (nat_eq j k) (is_in js k) (is_in_from js k h)

is_below : List ℕ → Value → Bool
is_below js (Atom c) = true
is_below js (Node k) = is_in js k

is_below_true : (js : List ℕ) (v : Value) → is_below js v ≡ true → Below js v
unfolding is_below
is_below_true js (Atom c) h = tt
is_below_true js (Node k) h = is_in_true js k h

is_below_from : (js : List ℕ) (v : Value) → Below js v → is_below js v ≡ true
unfolding is_below
is_below_from js (Atom c) h = refl
is_below_from js (Node k) h = is_in_from js k h

-- the map of D's places into the structure that was built
into : State → List ℕ → ℕ → Option Value
into s ks k = cond (is_below ks (ends s.log (Node k))) (Some (becomes s ks (Node k))) None

into_some : (s : State) (ks : List ℕ) (k : ℕ) (y : Value) → into s ks k ≡ Some y → Below ks (ends s.log (Node k)) × (y ≡ becomes s ks (Node k))
unfolding into
into_some s ks k y e = go (is_below ks (ends s.log (Node k))) refl e
  where
    go : (b : Bool) → is_below ks (ends s.log (Node k)) ≡ b → cond b (Some (becomes s ks (Node k))) None ≡ Some y → Below ks (ends s.log (Node k)) × (y ≡ becomes s ks (Node k))
    go true q e = (is_below_true ks (ends s.log (Node k)) q, sym (some_inj (becomes s ks (Node k)) y e))
    go false q e = cc

into_from : (s : State) (ks : List ℕ) (v : Value) → Below ks (ends s.log v) → image (into s ks) v ≡ Some (becomes s ks v)
unfolding into
into_from s ks (Atom c) b = ap (λ v. Some (placed ks v)) (sym (ends_atom s.log c))
into_from s ks (Node k) b = ap (λ t. cond t (Some (becomes s ks (Node k))) None) (is_below_from ks (ends s.log (Node k)) b)

pub placed_value : (D : Structure) (s : State) (ks : List ℕ) (v : Value) → Below ks v → IsValue (built D s ks) (placed ks v)
placed_value D s ks (Atom c) b = tt
placed_value D s ks (Node k) b = subst (λ n. place ks k < n) (sym (length_built D s ks)) (place_below ks k b)

pub arc_sides : (S : Structure) (k a : ℕ) (x : Value) → arc S (Node k) a ≡ Some x → arc (sides S) (Node k) a ≡ Some x
arc_sides S k a x h = ap (λ es. along es a) (own_left S k (has_place S k a x h)) ∙ h

into_left : (S : Structure) (s : State) (ks : List ℕ) → IsMarked (sides S) s → s.pending ≡ [] → IsOrder (sides S) s ks → IsMap S (built (sides S) s ks) (into s ks)
into_left S s ks i e o = record {
  values = λ k y h. let r = into_some s ks k y h in subst (IsValue (built (sides S) s ks)) (sym r.1) (placed_value (sides S) s ks (ends s.log (Node k)) r.0);
  arcs = λ k y h a x n.
      let r = into_some s ks k y h in
      let w = becomes_arc (sides S) s ks i e o k a x r.0 (along_has (own (sides S) k) a x (arc_sides S k a x n)) in
      (becomes s ks x, into_from s ks x w.1, ap (λ v. arc (built (sides S) s ks) v a) r.1 ∙ w.0);
}

behind : State → List ℕ → ℕ → ℕ → Option Value
behind s ks n k = into s ks (n + k)

behind_image : (s : State) (ks : List ℕ) (n : ℕ) (x : Value) → image (behind s ks n) x ≡ image (into s ks) (shift n x)
unfolding behind
behind_image s ks n (Atom c) = refl
behind_image s ks n (Node k) = refl

into_right : (S : Structure) (s : State) (ks : List ℕ) → IsMarked (sides S) s → s.pending ≡ [] → IsOrder (sides S) s ks → IsMap S (built (sides S) s ks) (behind s ks (length S))
unfolding behind
into_right S s ks i e o = record {
  values = λ k y h. let r = into_some s ks (length S + k) y h in subst (IsValue (built (sides S) s ks)) (sym r.1) (placed_value (sides S) s ks (ends s.log (Node (length S + k))) r.0);
  arcs = λ k y h a x n.
      let r = into_some s ks (length S + k) y h in
      let n' : arc (sides S) (Node (length S + k)) a ≡ Some (shift (length S) x) = ap (λ es. along es a) (own_right S k) ∙ along_shifted (length S) (own S k) a x n in
      let w = becomes_arc (sides S) s ks i e o (length S + k) a (shift (length S) x) r.0 (along_has (own (sides S) (length S + k)) a (shift (length S) x) n') in
      (becomes s ks (shift (length S) x), behind_image s ks (length S) x ∙ into_from s ks (shift (length S) x) w.1, ap (λ v. arc (built (sides S) s ks) v a) r.1 ∙ w.0);
}

-- a path leads on in what was built
pub path_into : (S : Structure) (s : State) (ks : List ℕ) → IsMarked (sides S) s → s.pending ≡ [] → IsOrder (sides S) s ks → (p : List ℕ) (v x : Value) → Below ks (ends s.log v) → at S v p ≡ Some x
    → (at (built (sides S) s ks) (becomes s ks v) p ≡ Some (becomes s ks x)) × Below ks (ends s.log x)
path_into S s ks i e o [] v x b h = let q = some_inj v x h in (ap (λ u. Some (becomes s ks u)) q, subst (λ u. Below ks (ends s.log u)) q b)
path_into S s ks i e o (a ∷ p) (Atom c) x b h = cc
path_into S s ks i e o (a ∷ p) (Node k) x b h =
    let step = and_then_some (arc S (Node k) a) (λ y. at S y p) x h in
    let w = becomes_arc (sides S) s ks i e o k a step.0 b (along_has (own (sides S) k) a step.0 (arc_sides S k a step.0 step.1)) in
    let rest = path_into S s ks i e o p step.0 x w.1 step.2 in
    (ap (λ q. option_and_then (λ y. at (built (sides S) s ks) y p) q) w.0 ∙ rest.0, rest.1)

-- closed marks in an order: what was built is a unifier
pub solved : (S : Structure) (l : ℕ) (p : List ℕ) (r target : Value) (s : State) (ks : List ℕ) → IsStructure S → l < length S → IsValue S target → at S (Node l) p ≡ Some target
    → IsRun S l r target s → s.pending ≡ [] → IsOrder (sides S) s ks → Below ks (ends s.log (Node l)) → ((k : ℕ) → IsIn ks k → IsSide S l r k)
    → IsUnifier S (Node l) p S r (built (sides S) s ks) (becomes s ks (Node l))
solved S l p r target s ks is hl ht at' i e o b inside =
    let D = sides S in
    let U = built D s ks in
    let path = path_into S s ks i.marked e o p (Node l) target b at' in
    let same : ends s.log target ≡ ends s.log (shift (length S) r) = tied_ends D s target (shift (length S) r) i.marked e i.tied in
    record {
      takes = record {
        structure = built_is_structure D s ks o;
        held = placed_value D s ks (ends s.log (Node l)) b;
        left = record { by = into s ks; is_map = into_left S s ks i.marked e o; root = into_from s ks (Node l) b };
        place = becomes s ks target;
        there = path.0;
        right = record {
          by = behind s ks (length S);
          is_map = into_right S s ks i.marked e o;
          root = behind_image s ks (length S) r ∙ (into_from s ks (shift (length S) r) (subst (Below ks) same path.1) ∙ ap (λ v. Some (placed ks v)) (sym same));
        };
      };
      least = λ G g tk.
          let t = takes_both_taker S l p r target G g is hl ht at' tk in
          let f = i.forced G t.0 t.1.takes t.1.first in
          subst (MapsInto U (becomes s ks (Node l)) G) t.1.root
          (built_least D G t.0 s ks o f.log t.1.takes.atoms (λ k a x h n. arcs_forced D (IsSide S l r) G t.0 s t.1.takes f k a x (inside k h) n) (λ k h. t.1.held k (inside k h)) (Node l) b);
    }
