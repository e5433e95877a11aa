-- Two values of two structures: both in one.
use Rattle.std.proofs.Common.{◌≡◌, ℕ, ◌+◌, ◌<◌, ◌⊎◌, inl, inr, cond, nat_eq, nat_lt, List, [], ◌∷◌, ◌++◌, map, length, length-append, Option, Some, None, refl, sym, ap, ◌∙◌, arith, subst, eq-eqb, ne_eqb, lt-ltb, le-ltb}
use Rattle.std.proofs.lemmas.Bool.{cases_eq, cases_lt}
use Rattle.std.proofs.lemmas.List.{get_or_append_left, get_or-append-add, length-map}
use Rattle.patr_lists.proofs.Places.{below_or_behind}
use Rattle.patr_model.specs.Structure.{Value, Atom, Node, Arcs, Structure, along, arc, at, IsBelow, IsStructure, IsValue}
use Rattle.patr_model.specs.Subsumption.{image, MapsInto, TakesBoth}
use Rattle.patr_marks.specs.Machine.{own}
use Rattle.patr_marks.specs.Sides.{shift, shifted}
use Rattle.patr_marks.proofs.Lists.{along_has, distinct_along}
use Rattle.patr_marks.proofs.Sides.{along_shifted, has_shifted, get_or_map, beside_is_structure, joined, joined_left, joined_right, image_shift}
use Rattle.patr_model.proofs.Maps.{keep, keep_only, image_keep, takes_before, some_inj, maps_transitive, maps_into_longer, maps_into_shorter, carries_arc, below_more_places}
use Rattle.patr_model.proofs.Steps.{value_longer}
use Rattle.patr_model.specs.EquationStructures.{Pointed, forked, below_arc, one_place}
use Rattle.patr_model.proofs.EquationStructures.{at_longer, at_value, empty_structure, equations}
use Rattle.patr_totality.specs.Laws.{HasUnifier, HasNoTaker, UnifiersAreDecided}
use Rattle.patr_totality.proofs.Work.{unify_in}

-- the places n on, of those below m
forth : ℕ → ℕ → ℕ → Option Value
forth n m k = cond (nat_lt k m) (Some (Node (n + k))) None

forth_some : (n m k : ℕ) (y : Value) → forth n m k ≡ Some y → (k < m) × (y ≡ Node (n + k))
unfolding forth
forth_some n m k y e = elim (cases_lt k m) [
  | inl h ↦ (h, sym (some_inj (Node (n + k)) y (ap (λ b. cond b (Some (Node (n + k))) None) (sym (lt-ltb k m h)) ∙ e)))
  | inr h ↦ let bad : None ≡ Some y = ap (λ b. cond b (Some (Node (n + k))) None) (sym (le-ltb k m h)) ∙ e in cc
]

forth_image : (n m : ℕ) (x : Value) → IsBelow m x → image (forth n m) x ≡ Some (shift n x)
unfolding forth
forth_image n m (Atom c) h = refl
forth_image n m (Node k) h = ap (λ b. cond b (Some (Node (n + k))) None) (lt-ltb k m h)

-- and back
back : ℕ → ℕ → ℕ → Option Value
back n m = joined n (λ k. None) (keep m)

back_some : (n m k : ℕ) (y : Value) → back n m k ≡ Some y → (j : ℕ) × (k ≡ n + j) × (j < m) × (y ≡ Node j)
unfolding back
back_some n m k y e = elim (below_or_behind n k) [
  | inl h ↦ let bad : None ≡ Some y = sym (joined_left n (λ i. None) (keep m) k h) ∙ e in cc
  | inr h ↦
      let o = keep_only m h.0 y (sym (joined_right n (λ i. None) (keep m) h.0) ∙ (ap (joined n (λ i. None) (keep m)) (sym h.1) ∙ e)) in
      (h.0, h.1, o.0, o.1)
]

back_image : (n m : ℕ) (x : Value) → IsBelow m x → image (back n m) (shift n x) ≡ Some x
unfolding back
back_image n m x h = image_shift n (λ i. None) (keep m) x ∙ image_keep m x h

module _ (L R : Structure) (sl : IsStructure L) (sr : IsStructure R) where
  -- both structures, the second one behind the first
  both : Structure
  both = L ++ map (shifted (length L)) R

  own_left : (k : ℕ) → k < length L → own both k ≡ own L k
  unfolding both
  own_left k h = get_or_append_left L (map (shifted (length L)) R) [] k h

  own_right : (k : ℕ) → own both (length L + k) ≡ shifted (length L) (own R k)
  unfolding both
  own_right k = get_or-append-add L (map (shifted (length L)) R) k [] ∙ get_or_map (length L) R k

  both_is_structure : IsStructure both
  unfolding both
  both_is_structure = beside_is_structure L R sl sr

  length_both : length both ≡ length L + length R
  unfolding both
  length_both = length-append L (map (shifted (length L)) R) ∙ ap (λ n. length L + n) (length-map R (shifted (length L)))

  right_value : (x : Value) → IsValue R x → IsValue both (shift (length L) x)
  right_value (Atom c) h = tt
  right_value (Node k) h = omega (arith, h, length_both)

  to_both : (x : Value) → IsValue R x → MapsInto R x both (shift (length L) x)
  to_both x h = record {
    by = forth (length L) (length R);
    is_map = record {
      values = λ k y e. let f = forth_some (length L) (length R) k y e in subst (IsValue both) (sym f.1) (omega (arith, f.0, length_both));
      arcs = λ k y e a z n.
          let f = forth_some (length L) (length R) k y e in
          let low = below_more_places k (length R) z (sr.lower k a z n) (omega (arith, f.0)) in (
            shift (length L) z,
            forth_image (length L) (length R) z low,
            ap (λ v. arc both v a) f.1 ∙ (ap (λ es. along es a) (own_right k) ∙ along_shifted (length L) (own R k) a z n),
          );
    };
    root = forth_image (length L) (length R) x h;
  }

  from_both : (x : Value) → IsValue R x → MapsInto both (shift (length L) x) R x
  from_both x h = record {
    by = back (length L) (length R);
    is_map = record {
      values = λ k y e. let f = back_some (length L) (length R) k y e in subst (IsValue R) (sym f.3) f.2;
      arcs = λ k y e a z n.
          let f = back_some (length L) (length R) k y e in
          let n' : along (shifted (length L) (own R f.0)) a ≡ Some z = ap (λ es. along es a) (sym (own_right f.0)) ∙ (ap (λ i. along (own both i) a) (sym f.1) ∙ n) in
          let w = has_shifted (length L) (own R f.0) a z (along_has (shifted (length L) (own R f.0)) a z n') in
          let m = distinct_along (own R f.0) a w.0 (sr.distinct f.0) w.1 in
          let low = below_more_places f.0 (length R) w.0 (sr.lower f.0 a w.0 m) (omega (arith, f.2)) in
          (w.0, ap (image (back (length L) (length R))) w.2 ∙ back_image (length L) (length R) w.0 low, ap (λ v. arc R v a) f.3 ∙ m);
    };
    root = back_image (length L) (length R) x h;
  }

  to_left : (v : Value) → IsValue L v → MapsInto both v L v
  unfolding both
  to_left v h = maps_into_shorter L (map (shifted (length L)) R) v sl h

  from_left : (v : Value) → IsValue L v → MapsInto L v both v
  unfolding both
  from_left v h = maps_into_longer L (map (shifted (length L)) R) v sl h

  left_value : (v : Value) → IsValue L v → IsValue both v
  unfolding both
  left_value v h = value_longer L (map (shifted (length L)) R) v h

  left_at : (p : List ℕ) (v x : Value) → IsValue L v → at L v p ≡ Some x → at both v p ≡ Some x
  unfolding both
  left_at p v x h e = at_longer L (map (shifted (length L)) R) sl p v x h e

  module _ (l : Value) (p : List ℕ) (r : Value) (hl : IsValue L l) (hr : IsValue R r) where
    takes_both : (G : Structure) (g : Value) → TakesBoth L l p R r G g → TakesBoth both l p both (shift (length L) r) G g
    takes_both G g t = takes_before both l L l p both (shift (length L) r) R r (to_left l hl) (from_both r hr) G g t

    takes_each : (G : Structure) (g : Value) → TakesBoth both l p both (shift (length L) r) G g → TakesBoth L l p R r G g
    takes_each G g t = takes_before L l both l p R r both (shift (length L) r) (from_left l hl) (to_both r hr) G g t

    of_both : HasUnifier both l p both (shift (length L) r) ⊎ HasNoTaker both l p both (shift (length L) r) → HasUnifier L l p R r ⊎ HasNoTaker L l p R r
    of_both (inl u) = inl (u.0, u.1, record { takes = takes_each u.0 u.1 u.2.takes; least = λ G g t. u.2.least G g (takes_both G g t) })
    of_both (inr none) = inr (λ G g t. none G g (takes_both G g t))

-- ---- a left side that is an atom

atom_maps : (S G : Structure) (c : ℕ) → MapsInto S (Atom c) G (Atom c)
atom_maps S G c = record { by = λ n. None; is_map = record { values = λ n y e. cc; arcs = λ n y e a x h. cc }; root = refl }

one_place_to : ℕ → Value → ℕ → Option Value
one_place_to k v n = cond (nat_eq n k) (Some v) None

bare_maps : (R : Structure) (k c : ℕ) → own R k ≡ [] → MapsInto R (Node k) [] (Atom c)
unfolding one_place_to
bare_maps R k c e = record {
  by = one_place_to k (Atom c);
  is_map = record {
    values = λ n y h. elim (cases_eq n k) [
      | inl q ↦ subst (IsValue []) (some_inj (Atom c) y (ap (λ b. cond b (Some (Atom c)) None) (sym (eq-eqb n k q)) ∙ h)) tt
      | inr q ↦ let bad : None ≡ Some y = ap (λ b. cond b (Some (Atom c)) None) (sym (ne_eqb n k q)) ∙ h in cc
    ];
    arcs = λ n y h a x m. elim (cases_eq n k) [
      | inl q ↦ let bad : None ≡ Some x = ap (λ es. along es a) (sym e) ∙ (ap (λ i. arc R (Node i) a) (sym q) ∙ m) in cc
      | inr q ↦ let bad : None ≡ Some y = ap (λ b. cond b (Some (Atom c)) None) (sym (ne_eqb n k q)) ∙ h in cc
    ];
  };
  root = ap (λ b. cond b (Some (Atom c)) None) (eq-eqb k k refl);
}

-- both are taken by the atom
atom_unifies : (L : Structure) (c : ℕ) (R : Structure) (r : Value) → MapsInto R r [] (Atom c) → HasUnifier L (Atom c) [] R r
atom_unifies L c R r m = (
  [],
  Atom c,
  record {
    takes = record { structure = empty_structure; held = tt; left = atom_maps L [] c; place = Atom c; there = refl; right = m };
    least = λ G g t. subst (λ v. MapsInto [] (Atom c) G v) (some_inj (Atom c) g t.left.root) (atom_maps [] G c);
  },
)

arcs_or_none : (es : Arcs) → (es ≡ []) ⊎ ((a : ℕ) × (x : Value) × (along es a ≡ Some x))
arcs_or_none [] = inl refl
arcs_or_none (e ∷ es) = inr (e.attribute, e.to, ap (λ b. cond b (Some e.to) (along es e.attribute)) (eq-eqb e.attribute e.attribute refl))

atom_left : (L : Structure) (c : ℕ) (R : Structure) (r : Value) → HasUnifier L (Atom c) [] R r ⊎ HasNoTaker L (Atom c) [] R r
atom_left L c R (Atom d) = elim (cases_eq d c) [
  | inl e ↦ inl (atom_unifies L c R (Atom d) (subst (λ b. MapsInto R (Atom d) [] (Atom b)) e (atom_maps R [] d)))
  | inr e ↦ inr (λ G g t.
      let one : Atom c ≡ g = some_inj (Atom c) g t.left.root in
      let two : g ≡ t.place = some_inj g t.place t.there in
      let three : Atom d ≡ t.place = some_inj (Atom d) t.place t.right.root in
      let all : Atom d ≡ Atom c = three ∙ (sym two ∙ sym one) in
      e cc)
]
atom_left L c R (Node k) = elim (arcs_or_none (own R k)) [
  | inl e ↦ inl (atom_unifies L c R (Node k) (bare_maps R k c e))
  | inr x ↦ inr (λ G g t.
      let one : Atom c ≡ g = some_inj (Atom c) g t.left.root in
      let two : g ≡ t.place = some_inj g t.place t.there in
      let f = carries_arc R G t.right.by t.right.is_map (Node k) t.place t.right.root x.0 x.1 x.2 in
      let bad : None ≡ Some f.0 = ap (λ v. arc G v x.0) (one ∙ two) ∙ f.2 in
      cc)
]

decide_at : (L : Structure) (l : Value) (p : List ℕ) (R : Structure) (r : Value) (target : Value) → IsStructure L → IsValue L l → IsStructure R → IsValue R r → at L l p ≡ Some target
    → HasUnifier L l p R r ⊎ HasNoTaker L l p R r
decide_at L (Atom c) [] R r target sl hl sr hr e = atom_left L c R r
decide_at L (Atom c) (a ∷ p) R r target sl hl sr hr e = cc
decide_at L (Node l) p R r target sl hl sr hr e =
    let ht : IsValue L target = at_value L sl p (Node l) target hl e in
    of_both L R sl sr (Node l) p r hl hr
    (unify_in (both L R sl sr) l p (shift (length L) r) target (both_is_structure L R sl sr) (left_value L R sl sr (Node l) hl) (left_value L R sl sr target ht) (right_value L R sl sr r hr) (left_at L R sl sr p (Node l) target hl e))

-- ---- a path that the left side need not have

-- that a path is there, as a structure
path_there : (p : List ℕ) → (E : Pointed) × (one_place p p ≡ Some E)
path_there [] = (_, refl)
path_there (a ∷ p) =
    let r = path_there p in
    (_, ap (λ b. cond b (below_arc a (one_place p p)) (Some (forked a p a p))) (eq-eqb a a refl) ∙ ap (below_arc a) r.1)

pub decide_unifier : UnifiersAreDecided
decide_unifier L l p R r sl hl sr hr =
    let path = path_there p in
    let E : Pointed = path.0 in
    let stands = equations.paths p p E path.1 in
    let with_path : (G : Structure) (g : Value) → TakesBoth L l p R r G g → TakesBoth L l [] E.nodes E.root G g = λ G g t. record {
      structure = t.structure;
      held = t.held;
      left = t.left;
      place = g;
      there = refl;
      right = stands.maps G g t.structure t.held (t.place, t.there, t.there);
    } in
    elim (decide_at L l [] E.nodes E.root l sl hl stands.structure stands.held refl) [
      | inr none ↦ inr (λ G g t. none G g (with_path G g t))
      | inl u ↦
          let takes = u.2.takes in
          let root : takes.place ≡ u.1 = sym (some_inj u.1 takes.place takes.there) in
          let has = stands.holds u.0 u.1 (subst (MapsInto E.nodes E.root u.0) root takes.right) in
          let onto : (G : Structure) (g : Value) → TakesBoth L l p R r G g → TakesBoth u.0 u.1 p R r G g = λ G g t. record {
            structure = t.structure;
            held = t.held;
            left = u.2.least G g (with_path G g t);
            place = t.place;
            there = t.there;
            right = t.right;
          } in
          elim (decide_at u.0 u.1 p R r has.0 takes.structure takes.held sr hr has.1) [
            | inr none ↦ inr (λ G g t. none G g (onto G g t))
            | inl v ↦ inl (
              v.0,
              v.1,
              record {
                takes = record {
                  structure = v.2.takes.structure;
                  held = v.2.takes.held;
                  left = maps_transitive L l u.0 u.1 v.0 v.1 takes.left v.2.takes.left;
                  place = v.2.takes.place;
                  there = v.2.takes.there;
                  right = v.2.takes.right;
                };
                least = λ G g t. v.2.least G g (onto G g t);
              },
            )
          ]
    ]
