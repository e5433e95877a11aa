-- What was copied is a unifier that keeps what is untouched.
use Rattle.std.proofs.Common.{◌≡◌, ℕ, zero, suc, ◌+◌, ◌<◌, inl, inr, Some, None, List, [], ◌∷◌, length, map, refl, sym, ap, ◌∙◌, subst, arith}
use Rattle.std.proofs.lemmas.List.{length-map}
use Rattle.patr_lists.proofs.Members.{in_map, once_map}
use Rattle.patr_lists.proofs.Totals.{total_same, total_map}
use Rattle.patr_lists.specs.Members.{NoRepeats, IsIn}
use Rattle.patr_model.specs.Structure.{Value, Atom, Node, Structure, IsReached, arcs_of, at}
use Rattle.patr_model.specs.Settled.{Images, Keeps}
use Rattle.patr_model.specs.Subsumption.{IsUnifier}
use Rattle.patr_model.proofs.Maps.{some_inj}
use Rattle.patr_marks.specs.Machine.{Has, Within, own}
use Rattle.patr_marks.specs.Quotient.{Below}
use Rattle.patr_marks.specs.Settled.{Copy, CopyReach, Copying, IsSettled, through}
use Rattle.patr_marks.specs.Sides.{IsSide}
use Rattle.patr_marks.proofs.Copied.{copied_unifies}
use Rattle.patr_marks.proofs.Kept.{copies_keep}
use Rattle.patr_marks.proofs.Reach.{reach_copy, reach_only}
use Rattle.patr_arena.specs.Shown.{Shown, IsShown, arcs_from}
use Rattle.patr_arena.specs.Blocks.{with_block}
use Rattle.patr_arena.specs.declared.value.Feature.{Feature}
use Rattle.patr_arena.specs.declared.value.Ref.{Ref}
use Rattle.patr_scratch.specs.Contents.{Contents}
use Rattle.patr_unify.specs.Copying.{HasCopied, IsEndRef, IsMade, copying_by, free_of, made_of, new_nodes}
use Rattle.patr_unify.specs.Deciding.{IsEndIn, IsEndOfLeft, IsSettledFor, marks_by}
use Rattle.patr_unify.specs.Merging.{both}
use Rattle.patr_unify.specs.Reading.{forward_of}
use Rattle.patr_unify.specs.Walking.{end_value}
use Rattle.patr_unify.proofs.Worked.{ref_value}
use Rattle.patr_unify.proofs.Reaching.{all_reached, copy_fits, is_free, numbered, reached_is_end, same_end, tidy}

-- the place of a node
abbrev pub place_in : Value → ℕ
place_in (Atom c) = 0
place_in (Node k) = k

in_by : (f : ℕ → ℕ) (ks : List ℕ) (m : ℕ) → IsIn (map f ks) m → (k : ℕ) × IsIn ks k × (m ≡ f k)
in_by f [] m h = absurd h
in_by f (k ∷ ks) m (inl e) = (k, inl refl, sym e)
in_by f (k ∷ ks) m (inr h) = let r = in_by f ks m h in (r.0, inr r.1, r.2)

module _ (v : Shown) (s : IsShown v) (w t : Contents) (l : ℕ) (p : List ℕ) (r : Value) (hl : l < length v.structure) (set : IsSettledFor v w l p r) (block : List (List Feature)) (nodes arcs : ℕ)
    (ks : List ℕ) (has : HasCopied v w t l r block nodes arcs ks) (once : NoRepeats ks) (ends : (k : ℕ) → IsIn ks k → IsEndOfLeft v w l k) (every : (k : ℕ) → IsEndOfLeft v w l k → IsIn ks k) where
  abbrev S : Structure
  S = v.structure

  abbrev V : Structure
  V = (with_block v block).structure

  abbrev y : Copying
  y = copying_by v w

  abbrev c : Copy
  c = record { value = has.value; new = new_nodes v block }

  abbrev P : ℕ → Type 0
  P = IsSide v.structure l r

  abbrev i : IsSettled v.structure l p r (marks_by v w)
  i = numbered v s w l p r hl set

  abbrev top : Value
  top = through has.value (end_value v w (Node l))

  is_end : (k : ℕ) → IsIn ks k → IsSide v.structure l r k × (forward_of v w k ≡ None)
  is_end k h = let e = ends k h in reached_is_end v s w l p r hl set e.0 k e.1

  below_end : (x : Value) → Within (IsEndOfLeft v w l) x → Below ks x
  below_end (Atom d) h = tt
  below_end (Node k) h = every k h

  all : (k : ℕ) → IsSide v.structure l r k → Below ks (end_value v w (Node k))
  all k h = below_end (end_value v w (Node k)) (all_reached v s w l p r hl set k h)

  root_below : Below ks (end_value v w (Node l))
  root_below = all l (0, inl refl)

  one : (k a : ℕ) (x z : Value) → IsIn ks k → Has (both v w k) a x → Has (both v w k) a z → end_value v w x ≡ end_value v w z
  one k a x z h m n =
      let e = is_end k h in
      let ax = i.arcs k a x e m in
      let az = i.arcs k a z e n in
      same_end v s w l p r hl set x z ax.0 az.0 (some_inj (i.image x) (i.image z) (sym ax.1 ∙ az.1))

  end_root : (m k : ℕ) → IsEndIn v w l m k → (root : ℕ) × (end_value v w (Node l) ≡ Node root) × CopyReach y root m k
  end_root zero k e = (k, e, refl)
  end_root (suc m) k h = let q = end_root m h.0 h.3 in (q.0, q.1, (h.0, h.1, h.2, q.2, h.4, h.5))

  -- each copied end is reached from the root
  path_to : (k : ℕ) → IsIn ks k → (q : List ℕ) × (at V top q ≡ Some (has.value k))
  path_to k h =
      let e = ends k h in
      let root = end_root e.0 k e.1 in
      let is = reach_copy P y ks c has.copy one root.0 (every root.0 (0, root.1)) e.0 k root.2 in
      (is.1, ap (λ x. at V (through has.value x) is.1) root.1 ∙ is.2)

  value_node : (k : ℕ) → IsIn ks k → has.value k ≡ Node (place_in (has.value k))
  value_node k h = elim (has.copy.node k h) [ inl e ↦ as_node (has.value k) _ e.0 | inr e ↦ as_node (has.value k) (length v.structure + e.0) e.1 ]
    where
      as_node : (x : Value) (j : ℕ) → x ≡ Node j → x ≡ Node (place_in x)
      as_node (Atom d) j e = cc
      as_node (Node k) j e = refl

  abbrev list : List ℕ
  list = map (λ k. place_in (has.value k)) ks

  one_place : (j k : ℕ) → IsIn ks j → IsIn ks k → place_in (has.value j) ≡ place_in (has.value k) → j ≡ k
  one_place j k a b e = has.copy.apart j k a b (value_node j a ∙ (ap Node e ∙ sym (value_node k b)))

  all_in : (m : ℕ) → IsReached (with_block v block).structure top m → IsIn list m
  all_in m h = go (reach_only P y ks c has.copy h.0 (end_value v w (Node l)) (Node m) root_below h.1)
    where
      go : (x : Value) × Below ks x × (Node m ≡ through has.value x) → IsIn list m
      go (Atom d, b, e) = cc
      go (Node k, b, e) = subst (IsIn list) (sym (ap place_in e)) (in_map (λ k. place_in (has.value k)) ks k b)

  new_reached : (j : ℕ) → j < length (new_nodes v block) → IsReached (with_block v block).structure top (length v.structure + j)
  new_reached j h =
      let k = has.sparing.from_end j h in
      let path = path_to k.0 k.1 in
      (path.0, path.1 ∙ ap (λ x. Some x) k.2)

  list_reached : (m : ℕ) → IsIn list m → IsReached (with_block v block).structure top m
  list_reached m h =
      let k = in_by (λ k. place_in (has.value k)) ks m h in
      let path = path_to k.0 k.1 in
      (path.0, path.1 ∙ ap (λ x. Some x) (value_node k.0 k.1 ∙ ap Node (sym k.2)))

  pub made : (q : Ref) → IsEndRef v t (end_value v w (Node l)) q → IsMade v l p r block q nodes arcs
  made q e =
      let is = ref_value v t (length block) has.value ks (end_value v w (Node l)) q has.marked root_below e in
      let mapped : length (new_nodes v block) ≡ length block = length-map block (arcs_from v (length v.sizes)) in
      let unifies = copied_unifies S l p r (marks_by v w) i (free_of v w) ks c has.copy (λ k h. (is_end k h).1) root_below (0, inl refl) in
      let sum = total_map (λ k. length (own V k)) (λ k. place_in (has.value k)) ks in
      let each = total_same (λ k. length (own V (place_in (has.value k)))) (λ k. length (arcs_of V (has.value k))) ks (λ k h. ap (λ x. length (arcs_of V x)) (sym (value_node k h))) in
      let arcs_were = has.arcs_are in
      let size = length-map ks (λ k. place_in (has.value k)) in
      let nodes_were = has.nodes_are in
      let G = V in
      record {
        unifier = subst (IsUnifier S (Node l) p S r G) (sym is.0) unifies;
        keeps = λ images. kept (made_of v q) is.0 images;
        reached = λ j h. subst (λ z. IsReached G z (length S + j)) (sym is.0) (new_reached j (omega (arith, h, mapped)));
        counts = record {
          list = list;
          is = record {
            once = once_map (λ k. place_in (has.value k)) ks once one_place;
            reached = λ m h. subst (λ z. IsReached G z m) (sym is.0) (list_reached m h);
            all = λ m h. all_in m (subst (λ z. IsReached G z m) is.0 h);
          };
          nodes_are = size ∙ sym nodes_were;
          arcs_are = omega (arith, sum, each, arcs_were);
        };
        old = has.old;
        fits = is.1;
      }
    where
      keep_all : (images : Images v.structure (Node l) p v.structure r (with_block v block).structure top) → Keeps v.structure (Node l) p v.structure r (with_block v block).structure top images
      keep_all images =
          copies_keep S l p r set.there.0 (marks_by v w) i (free_of v w) ks c s.structure hl set.there.1 (tidy v s w l p r hl set) (is_free v s w l p r hl set) (copy_fits v s w l p r hl set) has.copy has.sparing all images

      kept : (z : Value) → z ≡ top → (images : Images v.structure (Node l) p v.structure r (with_block v block).structure z) → Keeps v.structure (Node l) p v.structure r (with_block v block).structure z images
      kept z e = subst (λ x. (images : Images v.structure (Node l) p v.structure r (with_block v block).structure x) → Keeps v.structure (Node l) p v.structure r (with_block v block).structure x images) (sym e) keep_all
