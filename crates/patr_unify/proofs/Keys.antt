-- Places of both sides, their slots, and their arcs.
use Rattle.std.proofs.Common.{◌≡◌, ℕ, ◌+◌, ◌-◌, ◌*◌, ◌<◌, ◌≤◌, inl, Bool, true, false, cond, nat_eq, nat_lt, ◌||◌, Option, Some, None, option_and_then, List, [], ◌∷◌, ◌++◌, length, refl, sym, ap, ◌∙◌, subst, arith}
use Rattle.patr_model.specs.Structure.{Value, Node, Arcs, along, at}
use Rattle.patr_marks.specs.Machine.{own, has_attribute}
use Rattle.patr_marks.specs.Sides.{shift, shifted, sides}
use Rattle.patr_marks.proofs.Sides.{own_left, own_right}
use Rattle.patr_arena.specs.declared.value.Value as its
use Rattle.patr_arena.specs.declared.value.Value.TheVariants as value
use Rattle.patr_arena.specs.Shown.{Shown, IsShown, IsHeld, number_of, value_of, ValueIsHeld}
use Rattle.patr_arena.specs.Paths.{found_of}
use Rattle.patr_arena.proofs.Showing.{held_below}
use Rattle.patr_scratch.specs.declared.Side.{Side}
use Rattle.patr_scratch.specs.declared.Side.TheVariants as side
use Rattle.patr_scratch.specs.declared.Place.{Place}
use Rattle.patr_scratch.specs.declared.Target.{Target}
use Rattle.patr_scratch.specs.Contents.{Link, PlaceMarks, Contents, slot, marks, first_cell, EndsOrHas}
use Rattle.patr_unify.specs.Reading.{behind, key, value_at, TargetIsHeld, slot_of, marks_in, marks_of, option_at, forward_of, arcs_at, added_of, LinksHeld, OptionIsHeld, AreHeld, has_link, link_to, value_on, arcs_on, target_on}
use Rattle.patr_unify.specs.Merging.{both}

pub node_one : (j k : ℕ) → Node j ≡ Node k → j ≡ k
node_one j k e = cc

pub lt_true : (k n : ℕ) → k < n → nat_lt k n ≡ true
lt_true k n h = grind arith

pub lt_false : (k n : ℕ) → n ≤ k → nat_lt k n ≡ false
lt_false k n h = grind arith

slot_behind : (s : Side) (n k : ℕ) → k < n → slot_of n (behind s n k) ≡ slot s k
slot_behind side.Left n k h = ap (λ b. cond b (2 * k) (2 * (k - n) + 1)) (lt_true k n h)
slot_behind side.Right n k h =
    ap (λ b. cond b (2 * (n + k)) (2 * ((n + k) - n) + 1)) (lt_false (n + k) n (omega arith)) ∙ ap (λ j. 2 * j + 1) (same n k)
  where
    same : (n k : ℕ) → (n + k) - n ≡ k
    same n k = omega arith

pub key_slot : (v : Shown) → IsShown v → (p : Place) → IsHeld v p.block p.offset → slot_of (length v.structure) (key v p) ≡ slot p.side (number_of v p.block p.offset)
key_slot v s p h = slot_behind p.side (length v.structure) (number_of v p.block p.offset) (held_below v s p.block p.offset h)

pub key_marks : (v : Shown) (w : Contents) → IsShown v → (p : Place) (number : ℕ) → IsHeld v p.block p.offset → number ≡ number_of v p.block p.offset → marks w p.side number ≡ marks_of v w (key v p)
key_marks v w s p number h e = ap (λ k. marks w p.side k) e ∙ ap (marks_in w) (sym (key_slot v s p h))

slot_below : (s : Side) (n k : ℕ) → k < n → slot s k < 2 * n
slot_below side.Left n k h = omega arith
slot_below side.Right n k h = omega arith

pub key_room : (v : Shown) (w : Contents) → IsShown v → AreHeld v w → (p : Place) → IsHeld v p.block p.offset → slot_of (length v.structure) (key v p) < length w.places
key_room v w s a p h = let one = slot_below p.side (length v.structure) (number_of v p.block p.offset) (held_below v s p.block p.offset h) in let two = key_slot v s p h in omega (arith, one, two, a.room)

-- the slot tells the place
pub slot_one : (n j k : ℕ) → slot_of n j ≡ slot_of n k → j ≡ k
slot_one n j k e = go (nat_lt j n) refl (nat_lt k n) refl e
  where
    over : (j n : ℕ) → nat_lt j n ≡ false → n ≤ j
    over j n e = grind arith

    go : (b : Bool) → nat_lt j n ≡ b → (c : Bool) → nat_lt k n ≡ c → cond b (2 * j) (2 * (j - n) + 1) ≡ cond c (2 * k) (2 * (k - n) + 1) → j ≡ k
    go true p true q e = omega arith
    go true p false q e = omega arith
    go false p true q e = omega arith
    go false p false q e = let a = over j n p in let b = over k n q in omega arith

-- a side's value
pub target_value : (v : Shown) (s : Side) (x : its.Value) → value_at v (target_on s x) ≡ value_on s (length v.structure) (value_of v x)
target_value v side.Left (value.Atom c) = refl
target_value v side.Left (value.Node a) = refl
target_value v side.Right (value.Atom c) = refl
target_value v side.Right (value.Node a) = refl

pub target_held : (v : Shown) (s : Side) (x : its.Value) → ValueIsHeld v x → TargetIsHeld v (target_on s x)
target_held v s (value.Atom c) h = tt
target_held v s (value.Node a) h = h

-- the own arcs of a place
pub own_key : (v : Shown) → IsShown v → (p : Place) → IsHeld v p.block p.offset → own (sides v.structure) (key v p) ≡ arcs_on p.side (length v.structure) (own v.structure (number_of v p.block p.offset))
own_key v s p h = go p.side (number_of v p.block p.offset) (held_below v s p.block p.offset h)
  where
    go : (d : Side) (k : ℕ) → k < length v.structure → own (sides v.structure) (behind d (length v.structure) k) ≡ arcs_on d (length v.structure) (own v.structure k)
    go side.Left k l = own_left v.structure k l
    go side.Right k l = own_right v.structure k

abbrev pub option_on : Side → ℕ → Option Value → Option Value
option_on s n None = None
option_on s n (Some x) = Some (value_on s n x)

along_on : (s : Side) (n : ℕ) (es : Arcs) (a : ℕ) → along (arcs_on s n es) a ≡ option_on s n (along es a)
along_on side.Left n es a = same (along es a)
  where
    same : (o : Option Value) → o ≡ option_on side.Left n o
    same None = refl
    same (Some x) = refl
along_on side.Right n [] a = refl
along_on side.Right n (e ∷ es) a = go (nat_eq e.attribute a) (along_on side.Right n es a)
  where
    go : (b : Bool) → along (shifted n es) a ≡ option_on side.Right n (along es a) → cond b (Some (shift n e.to)) (along (shifted n es) a) ≡ option_on side.Right n (cond b (Some e.to) (along es a))
    go true ih = refl
    go false ih = ih

one_step : (o : Option Value) → option_and_then (λ y. Some y) o ≡ o
one_step None = refl
one_step (Some x) = refl

-- what `find_own` finds
pub own_found : (v : Shown) → IsShown v → (p : Place) (o : Option its.Value) (a : ℕ) → IsHeld v p.block p.offset → found_of v o ≡ at v.structure (Node (number_of v p.block p.offset)) (a ∷ [])
    → option_on p.side (length v.structure) (found_of v o) ≡ along (own (sides v.structure) (key v p)) a
own_found v s p o a h e =
    ap (option_on p.side (length v.structure)) (e ∙ one_step (along (own v.structure (number_of v p.block p.offset)) a))
    ∙ (sym (along_on p.side (length v.structure) (own v.structure (number_of v p.block p.offset)) a) ∙ ap (λ es. along es a) (sym (own_key v s p h)))

-- the arcs of both kinds
along_append : (es fs : Arcs) (a : ℕ) → along es a ≡ None → along (es ++ fs) a ≡ along fs a
along_append [] fs a h = refl
along_append (e ∷ es) fs a h = go (nat_eq e.attribute a) (along_append es fs a) h
  where
    go : (b : Bool) → (along es a ≡ None → along (es ++ fs) a ≡ along fs a) → cond b (Some e.to) (along es a) ≡ None → cond b (Some e.to) (along (es ++ fs) a) ≡ along fs a
    go true ih h = cc
    go false ih h = ih h

along_front : (es fs : Arcs) (a : ℕ) (x : Value) → along es a ≡ Some x → along (es ++ fs) a ≡ Some x
along_front [] fs a x h = cc
along_front (e ∷ es) fs a x h = go (nat_eq e.attribute a) (along_front es fs a x) h
  where
    go : (b : Bool) → (along es a ≡ Some x → along (es ++ fs) a ≡ Some x) → cond b (Some e.to) (along es a) ≡ Some x → cond b (Some e.to) (along (es ++ fs) a) ≡ Some x
    go true ih h = h
    go false ih h = ih h

along_links : (v : Shown) (ls : List Link) (a : ℕ) → option_at v (link_to ls a) ≡ along (arcs_at v ls) a
along_links v [] a = refl
along_links v (l ∷ ls) a = go (nat_eq l.attribute a) (along_links v ls a)
  where
    go : (b : Bool) → option_at v (link_to ls a) ≡ along (arcs_at v ls) a → option_at v (cond b (Some l.to) (link_to ls a)) ≡ cond b (Some (value_at v l.to)) (along (arcs_at v ls) a)
    go true ih = refl
    go false ih = ih

pub has_links : (v : Shown) (ls : List Link) (a : ℕ) → has_link ls a ≡ has_attribute (arcs_at v ls) a
has_links v [] a = refl
has_links v (l ∷ ls) a = ap (λ b. nat_eq l.attribute a || b) (has_links v ls a)

links_held : (v : Shown) (ls : List Link) (a : ℕ) → LinksHeld v ls → OptionIsHeld v (link_to ls a)
links_held v [] a h = tt
links_held v (l ∷ ls) a h = go (nat_eq l.attribute a) (links_held v ls a h.1)
  where
    go : (b : Bool) → OptionIsHeld v (link_to ls a) → OptionIsHeld v (cond b (Some l.to) (link_to ls a))
    go true ih = h.0
    go false ih = ih

-- what `find` finds
pub found_own : (v : Shown) (w : Contents) (k a : ℕ) (t : Target) → option_at v (Some t) ≡ along (own (sides v.structure) k) a → option_at v (Some t) ≡ along (both v w k) a
found_own v w k a t e = sym (along_front (own (sides v.structure) k) (added_of v w k) a (value_at v t) (sym e))

pub found_added : (v : Shown) (w : Contents) → IsShown v → (p : Place) (number a : ℕ) (o : Option Target) → IsHeld v p.block p.offset → number ≡ number_of v p.block p.offset
    → None ≡ along (own (sides v.structure) (key v p)) a → o ≡ link_to (marks w p.side number).added a → option_at v o ≡ along (both v w (key v p)) a
found_added v w s p number a o h e n g =
    ap (option_at v) (g ∙ ap (λ (m : PlaceMarks). link_to m.added a) (key_marks v w s p number h e))
    ∙ (along_links v (marks_of v w (key v p)).added a ∙ sym (along_append (own (sides v.structure) (key v p)) (added_of v w (key v p)) a (sym n)))

pub found_held : (v : Shown) (w : Contents) → IsShown v → AreHeld v w → (p : Place) (number a : ℕ) (o : Option Target) → IsHeld v p.block p.offset → number ≡ number_of v p.block p.offset
    → o ≡ link_to (marks w p.side number).added a → OptionIsHeld v o
found_held v w s i p number a o h e g =
    subst (OptionIsHeld v) (sym (g ∙ ap (λ (m : PlaceMarks). link_to m.added a) (key_marks v w s p number h e))) (links_held v (marks_of v w (key v p)).added a (i.added (slot_of (length v.structure) (key v p))))

pub forward_is : (v : Shown) (w : Contents) → IsShown v → (p : Place) (number : ℕ) (o : Option Target) → IsHeld v p.block p.offset → number ≡ number_of v p.block p.offset
    → o ≡ (marks w p.side number).forward → forward_of v w (key v p) ≡ option_at v o
forward_is v w s p number o h e g = ap (option_at v) (sym (g ∙ ap (λ (m : PlaceMarks). m.forward) (key_marks v w s p number h e)))

pub forward_held : (v : Shown) (w : Contents) → IsShown v → AreHeld v w → (p : Place) (number : ℕ) (o : Option Target) → IsHeld v p.block p.offset → number ≡ number_of v p.block p.offset
    → o ≡ (marks w p.side number).forward → OptionIsHeld v o
forward_held v w s i p number o h e g =
    subst (OptionIsHeld v) (sym (g ∙ ap (λ (m : PlaceMarks). m.forward) (key_marks v w s p number h e))) (i.forwards (slot_of (length v.structure) (key v p)))

pub first_has : (ls : List Link) → EndsOrHas ls (first_cell ls)
first_has [] = tt
first_has (l ∷ ls) = inl refl
