-- Which ends stay where they are.
use Rattle.std.proofs.Common.{◌≡◌, ◌≢◌, ℕ, ◌+◌, ◌-◌, ◌*◌, Bool, true, false, cond, ◌&&◌, Option, Some, None, List, ◌∷◌, length, refl, sym, ap, ◌∙◌, subst, arith}
use Rattle.patr_model.specs.Structure.{Value, Node, Arc, Arcs, IsBelow}
use Rattle.patr_marks.specs.Machine.{has_attribute}
use Rattle.patr_marks.specs.Settled.{base, covered}
use Rattle.patr_marks.proofs.Copy.{base_left, base_shift}
use Rattle.patr_arena.specs.Shown.{Shown, IsShown, IsHeld, number_of, ref_of, value_of}
use Rattle.patr_arena.specs.Blocks.{OldRefIsHeld}
use Rattle.patr_arena.specs.declared.value.Addr.{Addr}
use Rattle.patr_arena.specs.declared.value.Feature.{Feature}
use Rattle.patr_arena.specs.declared.value.Ref.{Ref}
use Rattle.patr_arena.specs.declared.value.Ref.TheVariants as ref
use Rattle.patr_arena.specs.declared.value.Value as its
use Rattle.patr_arena.proofs.Addresses.{address_tells}
use Rattle.patr_arena.proofs.Showing.{held_below}
use Rattle.patr_scratch.specs.declared.Copied.{Copied}
use Rattle.patr_scratch.specs.declared.Place.{Place}
use Rattle.patr_scratch.specs.declared.Side.{Side}
use Rattle.patr_scratch.specs.declared.Side.TheVariants as side
use Rattle.patr_scratch.specs.declared.Target.{Target}
use Rattle.patr_scratch.specs.declared.Visit.{Visit}
use Rattle.patr_scratch.specs.declared.Visit.TheVariants as visit
use Rattle.patr_scratch.specs.Contents.{Contents, Link, PlaceMarks, after, marks}
use Rattle.patr_unify.specs.Copying.{CopiesFit, Fits, IsEndRef, IsOld, LeadsAsBefore, LeadsElsewhere, MarkFits, copied_of, free_of, ref_to, stays_free}
use Rattle.patr_unify.specs.Reading.{arcs_at, behind, forward_of, key, marks_in, marks_of, slot_of, target_on, value_at, value_on}
use Rattle.patr_unify.specs.Walking.{end_value, visit_of}
use Rattle.patr_unify.proofs.Keys.{key_marks, lt_false, lt_true, node_one, target_value}
use Rattle.patr_unify.proofs.Takes.{arc_of}

-- the mark that is read
pub copied_is : (v : Shown) (w : Contents) → IsShown v → (p : Place) (number : ℕ) (o : Option Copied) → IsHeld v p.block p.offset → number ≡ number_of v p.block p.offset → o ≡ (marks w p.side number).copied → o ≡ copied_of v w (key v p)
copied_is v w s p number o h e g = g ∙ ap (λ (m : PlaceMarks). m.copied) (key_marks v w s p number h e)

pub some_ref : (v : Shown) (w : Contents) (k : ℕ) (o : Option Copied) (made : Copied) (r : Ref) → o ≡ copied_of v w k → o ≡ Some made → r ≡ ref_to made → IsEndRef v w (Node k) r
some_ref v w k o made r e q g d f = g ∙ ap ref_to (some made d (sym q ∙ (e ∙ f)))
  where
    some : (a b : Copied) → Some a ≡ Some b → a ≡ b
    some a b e = cc

pub none_ref : (v : Shown) (w : Contents) (k : ℕ) (o : Option Copied) (r : Ref) → o ≡ copied_of v w k → o ≡ None → IsEndRef v w (Node k) r
none_ref v w k o r e q d f = none d (sym q ∙ (e ∙ f))
  where
    none : {A : Type 0} (b : Copied) → None ≡ Some b → A
    none b e = cc

pub mark_fits : (v : Shown) (w : Contents) (size k : ℕ) (o : Option Copied) (made : Copied) (r : Ref) → CopiesFit v size w → o ≡ copied_of v w k → o ≡ Some made → r ≡ ref_to made → Fits v size r
mark_fits v w size k o made r c e q g = subst (Fits v size) (sym g) (subst (MarkFits v size) (sym e ∙ q) (c (slot_of (length v.structure) k)))

-- an arc that leads to an old node
pub old_is : (v : Shown) (r : Ref) (at : Addr) → OldRefIsHeld v r → IsHeld v at.block at.offset → IsOld v r (Node (number_of v at.block at.offset)) → r ≡ ref.Old at
old_is v (ref.Atom c) at h k e = cc
old_is v (ref.Old b) at h k e = ap ref.Old (sym (address_tells v at b k h (node_one (number_of v at.block at.offset) (number_of v b.block b.offset) e)))
old_is v (ref.New n) at h k e = absurd e

-- a value of a side, back among the nodes
pub base_on : (s : Side) (n : ℕ) (y : Value) → IsBelow n y → base n (value_on s n y) ≡ y
base_on side.Left n y h = base_left n y h
base_on side.Right n y h = base_shift n y

-- an own arc of a place, and the arc to the copy of its end
module _ (v : Shown) (w : Contents) (p : Place) (f : Feature) (x : its.Value) (t : Target) (r : Ref) (below : IsBelow (length v.structure) (value_of v x)) (is : value_of v x ≡ ref_of v p.block f.to) (on : t ≡ target_on p.side x)
    (copied : IsEndRef v w (end_value v w (value_at v t)) r) where
  copy_of : IsEndRef v w (end_value v w (arc_of v p f).to) r
  copy_of = subst (λ z. IsEndRef v w (end_value v w z) r) (ap (value_at v) on ∙ (target_value v p.side x ∙ ap (value_on p.side (length v.structure)) is)) copied

  led : base (length v.structure) (arc_of v p f).to ≡ value_of v x
  led = ap (λ y. base (length v.structure) (value_on p.side (length v.structure) y)) (sym is) ∙ base_on p.side (length v.structure) (value_of v x) below

  pub leads_before : IsOld v r (value_of v x) → LeadsAsBefore v w (arc_of v p f).to
  leads_before o = (r, copy_of, subst (IsOld v r) (sym led) o)

  pub leads_elsewhere : (IsOld v r (value_of v x) → ⊥) → LeadsElsewhere v w (arc_of v p f).to
  leads_elsewhere o = (r, copy_of, λ q. o (subst (IsOld v r) led q))

-- the next added arc is covered, or not
pub covered_on : (es fs rest : Arcs) (e : Arc) → covered (e ∷ rest) fs ≡ covered es fs → has_attribute fs e.attribute ≡ true → covered rest fs ≡ covered es fs
covered_on es fs rest e q h = sym (ap (λ b. b && covered rest fs) h) ∙ q

pub covered_off : (es fs rest : Arcs) (e : Arc) → covered (e ∷ rest) fs ≡ covered es fs → has_attribute fs e.attribute ≡ false → false ≡ covered es fs
covered_off es fs rest e q h = sym (ap (λ b. b && covered rest fs) h) ∙ q

pub covered_all : (v : Shown) (ls : List Link) (next : Option ℕ) (fs : Arcs) → covered (arcs_at v (after ls next)) fs ≡ covered (arcs_at v ls) fs → ((cell : ℕ) → next ≡ Some cell → ⊥) → true ≡ covered (arcs_at v ls) fs
covered_all v ls (Some cell) fs e n = absurd (n cell refl)
covered_all v ls None fs e n = e

pub free_behind : (v : Shown) (w : Contents) (k : ℕ) → free_of v w (length v.structure + k) ≡ stays_free (forward_of v w k) (visit_of v w k)
free_behind v w k =
    ap (λ b. cond b true (stays_free (forward_of v w ((length v.structure + k) - length v.structure)) (visit_of v w ((length v.structure + k) - length v.structure)))) (lt_false (length v.structure + k) (length v.structure) (omega arith))
    ∙ ap (λ j. stays_free (forward_of v w j) (visit_of v w j)) (back (length v.structure) k)
  where
    back : (n k : ℕ) → (n + k) - n ≡ k
    back n k = omega arith

pub free_right : (v : Shown) (w : Contents) (p : Place) (k : ℕ) → p.side ≡ side.Right → key v p ≡ behind p.side (length v.structure) k → stays_free (forward_of v w k) (visit_of v w k) ≡ free_of v w (key v p)
free_right v w p k e q = sym (ap (free_of v w) (q ∙ ap (λ s. behind s (length v.structure) k) e) ∙ free_behind v w k)

pub free_seen : (o : Option Value) (state : Visit) (b : Bool) → o ≡ None → (b ≡ true → state ≡ visit.Unseen) → (b ≡ false → state ≢ visit.Unseen) → b ≡ stays_free o state
free_seen None visit.Unseen true e y n = refl
free_seen None visit.Unseen false e y n = absurd (n refl refl)
free_seen None visit.Entered true e y n = (let q = y refl in cc)
free_seen None visit.Entered false e y n = refl
free_seen None visit.Left true e y n = (let q = y refl in cc)
free_seen None visit.Left false e y n = refl
free_seen (Some x) state b e y n = cc

-- the left side's marks at a number
pub left_marks : (v : Shown) (w : Contents) → IsShown v → (p : Place) (number : ℕ) → IsHeld v p.block p.offset → number ≡ number_of v p.block p.offset → marks w side.Left number ≡ marks_of v w (number_of v p.block p.offset)
left_marks v w s p number h e =
    let n = length v.structure in
    let k = number_of v p.block p.offset in
    ap (λ j. marks w side.Left j) e ∙ ap (marks_in w) (sym (ap (λ b. cond b (2 * k) (2 * (k - n) + 1)) (lt_true k n (held_below v s p.block p.offset h))))
