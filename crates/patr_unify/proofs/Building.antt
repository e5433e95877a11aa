-- The copy of the ends, one after the other.
use Rattle.std.proofs.Common.{◌≡◌, ℕ, ◌+◌, ◌-◌, ◌<◌, inl, inr, Bool, true, false, cond, ◌&&◌, nat_lt, Option, Some, None, List, [], ◌∷◌, ◌++◌, length, length-append, get_or, refl, sym, ap, ◌∙◌, subst, arith, append_assoc}
use Rattle.std.proofs.Math.Seq.{get_or-append_seam}
use Rattle.std.specs.List.Sorted.{IsStrictlyIncreasing}
use Rattle.std.proofs.lemmas.Bool.{and_from}
use Rattle.std.proofs.lemmas.List.{length-map, map-append}
use Rattle.patr_lists.proofs.Totals.{total_same}
use Rattle.patr_lists.specs.Members.{IsIn}
use Rattle.patr_lists.specs.Numbers.{total}
use Rattle.patr_model.specs.Structure.{Value, Atom, Node, Arc, HasDistinct, IsBelow, along, arc, arcs_of}
use Rattle.patr_marks.specs.Machine.{Has, own}
use Rattle.patr_marks.specs.Quotient.{Below}
use Rattle.patr_marks.specs.Settled.{Copy, Copying, IsCopy, IsSparing, all_arcs, base, covered, extend, keep_end, keeps, led_by, new_end, stays, through, IsFinal, follow}
use Rattle.patr_marks.specs.Settled as marks_settled
use Rattle.patr_marks.specs.Sides.{IsSide, sides}
use Rattle.patr_marks.proofs.Lists.{has_left}
use Rattle.patr_marks.proofs.Copy.{base_below, base_has, kept_is_copy, node_is_copy, put_in, put_same, stays_has}
use Rattle.patr_marks.proofs.Untouched.{extend_spares, stays_from}
use Rattle.patr_arena.specs.Blocks.{OldIsHeld}
use Rattle.patr_arena.specs.Paths.{feature_to}
use Rattle.patr_arena.specs.Shown.{Shown, IsShown, IsHeld, arc_from, arcs_from}
use Rattle.patr_arena.specs.declared.value.Feature.{Feature}
use Rattle.patr_arena.specs.declared.value.Ref.{Ref}
use Rattle.patr_arena.proofs.Arcs.{along_features, attributes_from, led_to}
use Rattle.patr_arena.proofs.Rises.{rising_distinct}
use Rattle.patr_arena.proofs.Showing.{old_push}
use Rattle.patr_scratch.specs.declared.Copied.{Copied}
use Rattle.patr_scratch.specs.declared.Copied.TheVariants as copied
use Rattle.patr_scratch.specs.declared.Place.{Place}
use Rattle.patr_scratch.specs.Contents.{Contents}
use Rattle.patr_unify.specs.Copying.{Fits, HasCopied, IsCopiedTo, IsCopyMarked, IsEndRef, IsKeptOrNot, IsNodeOf, MarkFits, copied_of, copying_by, free_of, made_of, new_nodes, stays_free}
use Rattle.patr_unify.specs.Merging.{both}
use Rattle.patr_unify.specs.Reading.{added_of, forward_of, key, marks_in, slot_of}
use Rattle.patr_unify.specs.Walking.{end_value, visit_of}
use Rattle.patr_unify.proofs.Worked.{arcs_longer, base_arcs, base_key, copied_more, mark_more, new_place, old_from, old_to, ref_value, worked_added, worked_both, worked_end, worked_forward, worked_then}

-- one more end is copied, whose arcs lead to ends that were copied before
module _ (v : Shown) (s : IsShown v) (w t u : Contents) (l : ℕ) (r : Value) (fits : marks_settled.Fits (IsSide v.structure l r) (copying_by v w)) (block : List (List Feature)) (nodes arcs : ℕ) (ks : List ℕ) (has : HasCopied v w t l r block nodes arcs ks)
    (top : Place) (top_held : IsHeld v top.block top.offset) (K_side : IsSide v.structure l r (key v top)) (K_out : IsIn ks (key v top) → ⊥) (all : (a : ℕ) (x : Value) → Has (both v w (key v top)) a x → Below ks (end_value v w x)) where
  abbrev n : ℕ
  n = length v.structure

  abbrev K : ℕ
  K = key v top

  abbrev y : Copying
  y = copying_by v w

  abbrev c : Copy
  c = record { value = has.value; new = new_nodes v block }

  abbrev P : ℕ → Type 0
  P = IsSide v.structure l r

  end_made : (a : ℕ) (x : Value) (q : Ref) → Has (both v w (key v top)) a x → IsEndRef v t (end_value v t x) q → (made_of v q ≡ through has.value (end_value v w x)) × Fits v (length block) q
  end_made a x q h e = ref_value v t (length block) has.value ks (end_value v w x) q has.marked (all a x h) (subst (λ z. IsEndRef v t z q) (worked_end v w t has.still x) e)

  own_has : (a : ℕ) (x : Value) → Has (own (sides v.structure) (key v top)) a x → Has (both v w (key v top)) a x
  own_has a x h = has_left (own (sides v.structure) (key v top)) (added_of v w (key v top)) a x h

  free_same : free_of v t (key v top) ≡ free_of v w (key v top)
  free_same = ap (cond (nat_lt K n) true) (ap (λ o. stays_free o (visit_of v t (K - n))) (worked_forward v w t has.still (K - n)) ∙ ap (stays_free (forward_of v w (K - n))) (has.visit (K - n)))

  covered_same : covered (added_of v t (key v top)) (own (sides v.structure) (key v top)) ≡ covered (added_of v w (key v top)) (own (sides v.structure) (key v top))
  covered_same = ap (λ es. covered es (own (sides v.structure) (key v top))) (worked_added v w t has.still (key v top))

  own_below : (a : ℕ) (x : Value) → Has (own (sides v.structure) (key v top)) a x → IsBelow n (base n x)
  own_below a x h = base_value a x (base_has v.structure s.structure (key v top) a x h (fits.range (key v top) K_side))
    where
      base_value : (a : ℕ) (x : Value) → arc v.structure (base n (Node (key v top))) a ≡ Some (base n x) → IsBelow n (base n x)
      base_value a x e = value_there (base n (Node (key v top))) (base_below v.structure (key v top) (fits.range (key v top) K_side)) e
        where
          value_there : (z : Value) → IsBelow n z → arc v.structure z a ≡ Some (base n x) → IsBelow n (base n x)
          value_there (Atom d) b f = cc
          value_there (Node j) b f = lower_more j n (base n x) b (s.structure.lower j a (base n x) f)
            where
              lower_more : (j m : ℕ) (z : Value) → j < m → IsBelow j z → IsBelow m z
              lower_more j m (Atom d) h i = tt
              lower_more j m (Node k) h i = omega (arith, h, i)

  kept_is : IsKeptOrNot v t (key v top) true → keeps y has.value (key v top) ≡ true
  kept_is k =
      and_from (free_of v w K) (covered (added_of v w K) (own (sides v.structure) K) && stays y has.value (own (sides v.structure) K)) (sym free_same ∙ k.0)
      (and_from (covered (added_of v w K) (own (sides v.structure) K)) (stays y has.value (own (sides v.structure) K)) (sym covered_same ∙ k.1)
      (stays_from y has.value (own (sides v.structure) K) (λ a x h. (let q = k.2 a x h in let e = end_made a x q.0 (own_has a x h) q.1 in sym e.0 ∙ old_to v q.0 (base n x) q.2))))

  not_kept : IsKeptOrNot v t (key v top) false → keeps y has.value (key v top) ≡ false
  not_kept (inl f) = ap (λ b. b && (covered (added_of v w K) (own (sides v.structure) K) && stays y has.value (own (sides v.structure) K))) (sym free_same ∙ f)
  not_kept (inr (inl f)) =
      ap (λ b. free_of v w K && (b && stays y has.value (own (sides v.structure) K))) (sym covered_same ∙ f) ∙ and_false (free_of v w K)
    where
      and_false : (b : Bool) → (b && false) ≡ false
      and_false true = refl
      and_false false = refl
  not_kept (inr (inr f)) = and_off (free_of v w K) (covered (added_of v w K) (own (sides v.structure) K)) (stays y has.value (own (sides v.structure) K)) off
    where
      and_off : (a b d : Bool) → d ≡ false → (a && (b && d)) ≡ false
      and_off true true d h = h
      and_off true false d h = refl
      and_off false b d h = refl

      bool_off : (b : Bool) → (b ≡ true → ⊥) → b ≡ false
      bool_off true h = absurd (h refl)
      bool_off false h = refl

      moved : stays y has.value (own (sides v.structure) K) ≡ true → ⊥
      moved q =
          let a = f.0 in
          let x = f.1 in
          let e = end_made a x f.3.0 (own_has a x f.2) f.3.1 in
          f.3.2 (old_from v s (length block) f.3.0 (base n x) e.1 (e.0 ∙ stays_has y has.value (own (sides v.structure) K) a x q f.2) (own_below a x f.2))

      off : stays y has.value (own (sides v.structure) K) ≡ false
      off = bool_off (stays y has.value (own (sides v.structure) K)) moved

  module _ (d : Copied) (m : IsCopyMarked v t u (key v top) d) where
    -- one more end was copied
    more : (blocks : List (List Feature)) (x : Value) → ((o : Option Copied) (z : Value) → IsCopiedTo v (length block) o z → IsCopiedTo v (length blocks) o z) → ((o : Option Copied) → MarkFits v (length block) o → MarkFits v (length blocks) o)
        → IsCopy P y (key v top ∷ ks) (record { value = marks_settled.put (key v top) x has.value; new = new_nodes v blocks }) → IsSparing y (key v top ∷ ks) (record { value = marks_settled.put (key v top) x has.value; new = new_nodes v blocks })
        → IsCopiedTo v (length blocks) (Some d) x → OldIsHeld v blocks → (more_nodes more_arcs : ℕ) → more_nodes ≡ nodes + 1
        → more_arcs ≡ total (λ k. length (arcs_of (v.structure ++ new_nodes v blocks) (marks_settled.put (key v top) x has.value k))) (key v top ∷ ks) → HasCopied v w u l r blocks more_nodes more_arcs (key v top ∷ ks)
    more blocks x lift lift_mark copy sparing made old more_nodes more_arcs en ea =
        let value = marks_settled.put K x has.value in
        let count = has.nodes_are in
        record {
          still = worked_then w t u has.still m.still;
          order = m.order ∙ has.order;
          visit = λ k. m.visit (slot_of n k) ∙ has.visit k;
          value = value;
          copy = copy;
          sparing = sparing;
          marked = λ j h. elim h [
            | inl e ↦ subst (λ z. IsCopiedTo v (length blocks) (copied_of v u z) (value z)) e (subst (λ o. IsCopiedTo v (length blocks) o (value K)) (sym m.here) (subst (IsCopiedTo v (length blocks) (Some d)) (sym (put_same K x has.value)) made))
            | inr q ↦
                subst (λ z. IsCopiedTo v (length blocks) (copied_of v u j) z) (sym (put_in K x has.value ks j K_out q))
                (subst (λ o. IsCopiedTo v (length blocks) o (has.value j)) (sym (m.others j (λ e. K_out (subst (IsIn ks) e q)))) (lift (copied_of v t j) (has.value j) (has.marked j q)))
          ];
          fits = λ j. elim (m.each j) [ inl e ↦ subst (MarkFits v (length blocks)) (sym e) made.1 | inr e ↦ subst (MarkFits v (length blocks)) (sym e) (lift_mark (marks_in t j).copied (has.fits j)) ];
          old = old;
          nodes_are = omega (arith, en, count);
          arcs_are = ea;
        }

  -- it stays at its place
  pub stayed : IsKeptOrNot v t (key v top) true → IsCopyMarked v t u (key v top) (copied.Old top.block top.offset) → (more_nodes more_arcs : ℕ) → more_nodes ≡ nodes + 1 → more_arcs ≡ arcs + length (own (sides v.structure) (key v top))
      → HasCopied v w u l r block more_nodes more_arcs (key v top ∷ ks)
  stayed k m more_nodes more_arcs en ea =
      let d = copied.Old top.block top.offset in
      let x = base n (Node K) in
      let value = marks_settled.put K x has.value in
      let V = v.structure ++ new_nodes v block in
      let low = base_below v.structure K (fits.range K K_side) in
      let first : length (arcs_of V (value K)) ≡ length (own (sides v.structure) K) =
      ap (λ z. length {A = Arc} (arcs_of V z)) (put_same K x has.value) ∙ (ap (length {A = Arc}) (arcs_longer v.structure (new_nodes v block) x low) ∙ base_arcs v.structure K (fits.range K K_side)) in
      let others = total_same (λ j. length (arcs_of V (value j))) (λ j. length (arcs_of V (has.value j))) ks (λ j h. ap (λ z. length {A = Arc} (arcs_of V z)) (put_in K x has.value ks j K_out h)) in
      let was = has.arcs_are in
      more d m block x (λ o z h. h) (λ o h. h) (kept_is_copy P y ks c K fits has.copy K_out K_side all (kept_is k))
      (subst (IsSparing y (K ∷ ks)) (ap (λ b. cond b (keep_end y c K) (new_end y c K)) (kept_is k)) (extend_spares P y ks c K has.copy has.sparing K_out all)) (sym (base_key v top s top_held), (tt, top_held)) has.old more_nodes more_arcs en
      (omega (arith, ea, was, first, others))

  led_some : (o : Option Ref) (x : Value) → led_to v (length v.sizes) o ≡ Some x → (q : Ref) × (o ≡ Some q) × (x ≡ made_of v q)
  led_some None x e = cc
  led_some (Some q) x e = (q, refl, same (made_of v q) x e)
    where
      same : (a b : Value) → Some a ≡ Some b → b ≡ a
      same a b e = cc

  -- it gets a new node
  pub renewed : IsKeptOrNot v t (key v top) false → (fs : List Feature) → IsNodeOf v t (length block) (both v t (key v top)) [] fs → IsCopyMarked v t u (key v top) (copied.New (length block)) → (more_nodes more_arcs : ℕ)
      → more_nodes ≡ nodes + 1 → more_arcs ≡ arcs + length fs → HasCopied v w u l r (block ++ fs ∷ []) more_nodes more_arcs (key v top ∷ ks)
  renewed k fs node m more_nodes more_arcs en ea =
      let d = copied.New (length block) in
      let S = v.structure in
      let B = length v.sizes in
      let old_new = new_nodes v block in
      let es = arcs_from v B fs in
      let x = Node (n + length old_new) in
      let value = marks_settled.put K x has.value in
      let size = length-append block (fs ∷ []) in
      let mapped : length old_new ≡ length block = length-map block (arcs_from v B) in
      let is_new : new_nodes v (block ++ fs ∷ []) ≡ old_new ++ (es ∷ []) = map-append (arcs_from v B) block (fs ∷ []) in
      let distinct : HasDistinct es = rising_distinct es (subst IsStrictlyIncreasing (sym (attributes_from v B fs)) node.rising) in
      let each : (a : ℕ) (z : Value) → Has (all_arcs y K) a z → (q : Value) × Has (all_arcs y K) a q × (along es a ≡ Some (through has.value (end_value v w q))) = λ a z h. each_arc fs node a z h in
      let only : (a : ℕ) (z : Value) → along es a ≡ Some z → (q : Value) × Has (all_arcs y K) a q × (z ≡ through has.value (end_value v w q)) = λ a z e. only_arc fs node a z e in
      let is_copy = node_is_copy P y ks c K es fits has.copy K_out K_side all distinct each only in
      let spares = subst (IsSparing y (K ∷ ks)) (ap (λ b. cond b (keep_end y c K) (new_end y c K)) (not_kept k)) (extend_spares P y ks c K has.copy has.sparing K_out all) in
      let whole : S ++ new_nodes v (block ++ fs ∷ []) ≡ (S ++ old_new) ++ (es ∷ []) = ap (λ N. S ++ N) is_new ∙ sym (append_assoc S old_new (es ∷ [])) in
      let V = S ++ new_nodes v (block ++ fs ∷ []) in
      let first : length (arcs_of V (value K)) ≡ length fs =
      ap (λ z. length {A = Arc} (arcs_of V z)) (put_same K x has.value) ∙ (ap (λ G. length {A = Arc} (arcs_of G x)) whole ∙ (ap (λ q. length {A = Arc} (get_or ((S ++ old_new) ++ (es ∷ [])) q [])) (sym (length-append S old_new))
      ∙ (ap (length {A = Arc}) (get_or-append_seam (S ++ old_new) es [] []) ∙ length-map fs (arc_from v B)))) in
      let others = total_same (λ j. length (arcs_of V (value j))) (λ j. length (arcs_of (S ++ old_new) (has.value j))) ks (λ j h.
      ap (λ z. length {A = Arc} (arcs_of V z)) (put_in K x has.value ks j K_out h) ∙ (ap (λ G. length {A = Arc} (arcs_of G (has.value j))) whole ∙ ap (length {A = Arc}) (arcs_longer (S ++ old_new) (es ∷ []) (has.value j) (has.copy.below j h)))) in
      let was = has.arcs_are in
      more d m (block ++ fs ∷ []) x (λ o z h. subst (λ q. IsCopiedTo v q o z) (sym size) (copied_more v (length block) o z h)) (λ o h. subst (λ q. MarkFits v q o) (sym size) (mark_more v (length block) o h))
      (subst (λ N. IsCopy P y (K ∷ ks) (record { value = value; new = N })) (sym is_new) is_copy) (record { kept = spares.kept; from_end = from_new fs spares })
      (ap Node (new_place v s (length block) ∙ ap (λ q. n + q) (sym mapped)), (omega (arith, size), tt)) (old_push v block fs has.old node.old) more_nodes more_arcs en (omega (arith, ea, was, first, others))
    where
      each_arc : (fs : List Feature) → IsNodeOf v t (length block) (both v t (key v top)) [] fs → (a : ℕ) (z : Value) → Has (both v w (key v top)) a z
          → (q : Value) × Has (both v w (key v top)) a q × (along (arcs_from v (length v.sizes) fs) a ≡ Some (through has.value (end_value v w q)))
      each_arc fs node a z h =
          let found : (q : Ref) × (feature_to fs a ≡ Some q) = elim (node.each a z (subst (λ us. Has us a z) (sym (worked_both v w t has.still K)) h)) [ inl none ↦ absurd none | inr m ↦ m ] in
          let made = node.only a found.0 found.1 in
          let there = subst (λ us. Has us a made.0) (worked_both v w t has.still K) made.1 in
          let is = end_made a made.0 found.0 there made.2 in
          (made.0, there, along_features v (length v.sizes) fs a ∙ (ap (led_to v (length v.sizes)) found.1 ∙ ap (λ q. Some q) is.0))

      only_arc : (fs : List Feature) → IsNodeOf v t (length block) (both v t (key v top)) [] fs → (a : ℕ) (z : Value) → along (arcs_from v (length v.sizes) fs) a ≡ Some z
          → (q : Value) × Has (both v w (key v top)) a q × (z ≡ through has.value (end_value v w q))
      only_arc fs node a z e =
          let led = led_some (feature_to fs a) z (sym (along_features v (length v.sizes) fs a) ∙ e) in
          let made = node.only a led.0 led.1 in
          let there = subst (λ us. Has us a made.0) (worked_both v w t has.still K) made.1 in
          let is = end_made a made.0 led.0 there made.2 in
          (made.0, there, led.2 ∙ is.0)

      from_new : (fs : List Feature) → IsSparing (copying_by v w) (key v top ∷ ks) (new_end y c (key v top)) → (i : ℕ) → i < length (new_nodes v (block ++ fs ∷ [])) → (k : ℕ) × IsIn (key v top ∷ ks) k
          × (marks_settled.put (key v top) (Node (length v.structure + length (new_nodes v block))) has.value k ≡ Node (length v.structure + i))
      from_new fs spares i h =
          let one = length-map (block ++ fs ∷ []) (arcs_from v (length v.sizes)) in
          let two = length-append block (fs ∷ []) in
          let three = length-map block (arcs_from v (length v.sizes)) in
          let four = length-append (new_nodes v block) (led_by (λ x. through has.value (end_value v w x)) (own (sides v.structure) K ++ added_of v w K) ∷ []) in
          spares.from_end i (omega (arith, h, one, two, three, four))
