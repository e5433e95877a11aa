-- What is done with a pair is a step of the machine.
use Rattle.std.proofs.Common.{◌≡◌, ◌≢◌, ℕ, ◌+◌, ◌-◌, ◌*◌, ◌<◌, ◌≤◌, inl, inr, Bool, true, false, cond, nat_eq, Some, List, [], ◌∷◌, ◌++◌, length, length-set, get_or-set_same, get_or-set_other, refl, sym, ap, ◌∙◌, subst, arith, eq-eqb, ne_eqb, true≢false}
use Rattle.std.proofs.lemmas.Bool.{cases_eq}
use Rattle.patr_model.specs.Structure.{Value, Atom, Node, Arcs}
use Rattle.patr_marks.specs.Machine.{lookup, Forward, Has, Ends, ends, own, missing}
use Rattle.patr_marks.specs.Settled.{follow, IsFinal}
use Rattle.patr_marks.specs.Sides.{sides}
use Rattle.patr_marks.proofs.Lists.{ends_atom, ends_twice, has_cases, has_left, has_right}
use Rattle.patr_marks.proofs.Follow.{final_end, final_ext, follow_add, follow_ends, follow_ext}
use Rattle.patr_marks.proofs.Settles.{end_final, follow_final, log_follow}
use Rattle.patr_arena.specs.Shown.{Shown, IsShown, IsHeld, number_of}
use Rattle.patr_arena.specs.declared.value.Addr.{Addr}
use Rattle.patr_arena.proofs.Addresses.{address_tells}
use Rattle.patr_arena.proofs.Showing.{held_below}
use Rattle.patr_scratch.specs.declared.Side.{Side}
use Rattle.patr_scratch.specs.declared.Side.TheVariants as side
use Rattle.patr_scratch.specs.declared.Place.{Place}
use Rattle.patr_scratch.specs.declared.Target.{Target}
use Rattle.patr_scratch.specs.declared.Target.TheVariants as target
use Rattle.patr_scratch.specs.Contents.{PlaceMarks, Contents, unmarked, slot, marks, HasPlace}
use Rattle.patr_unify.specs.Reading.{behind, key, value_at, slot_of, marks_in, option_at, forward_of, arcs_at, added_of, LinksHeld, PairsHeld, OptionIsHeld, AreHeld, IsEnding, IsEndOf}
use Rattle.patr_unify.specs.Merging.{both, rev_onto, IsMerged}
use Rattle.patr_unify.specs.Stepping.{HasLog, pair_of, before, Outcome, IsSteady, bound, BoundOrNot}
use Rattle.patr_unify.proofs.Keys.{key_slot, key_room, node_one, slot_one}
use Rattle.patr_unify.proofs.Merges.{marks_put, field_put, kept_same, put_kept}

-- a log no longer than the room of the pairs is followed within it
pub end_by_log : (v : Shown) (w : Contents) (log : List Forward) (x : Value) → HasLog v w log → length log ≤ w.pair_room → follow w.pair_room (forward_of v w) x ≡ ends log x
end_by_log v w log x h l =
    let f = forward_of v w in
    let n = length log in
    let e : follow n f x ≡ ends log x = follow_ext n f (lookup log) x h.table ∙ log_follow log h.is_log x in
    let i : IsFinal f (follow n f x) = subst (IsFinal f) (sym e) (final_ext f (lookup log) (ends log x) h.table (end_final log h.is_log (ends log x) (ends_twice log h.is_log x))) in
    let room : w.pair_room ≡ (w.pair_room - n) + n = omega arith in
    ap (λ q. follow q f x) room ∙ (follow_add (w.pair_room - n) n f x ∙ (follow_final (w.pair_room - n) f (follow n f x) i ∙ e))

pub log_ends : (v : Shown) (w : Contents) (log : List Forward) → HasLog v w log → length log ≤ w.pair_room → (x : Value) → IsFinal (forward_of v w) (follow w.pair_room (forward_of v w) x)
log_ends v w log h l x =
    subst (IsFinal (forward_of v w)) (sym (end_by_log v w log x h l)) (final_ext (forward_of v w) (lookup log) (ends log x) h.table (end_final log h.is_log (ends log x) (ends_twice log h.is_log x)))

pub ending_of : (v : Shown) (w : Contents) (log : List Forward) (t : Target) → HasLog v w log → length log ≤ w.pair_room → IsEnding v w t
ending_of v w log t h l = log_ends v w log h l (value_at v t)

-- what `dereference` finds is the end by the log
pub end_is : (v : Shown) (w : Contents) (log : List Forward) (from t : Target) → HasLog v w log → IsEndOf v w from t → (ends log (value_at v from) ≡ value_at v t) × (ends log (value_at v t) ≡ value_at v t)
end_is v w log from t h e =
    let last = final_end (forward_of v w) log h.table (value_at v t) e.last in
    (sym (follow_ends e.steps (forward_of v w) log h.is_log h.table (value_at v from)) ∙ (ap (ends log) e.follows ∙ last), last)

-- the ends of a pair
pub record AreEnds (v : Shown) (log : List Forward) (a : Target) (b : Target) (x : Target) (y : Target) : Type 0 where
  pub first : ends log (value_at v a) ≡ value_at v x
  pub first_end : ends log (value_at v x) ≡ value_at v x
  pub second : ends log (value_at v b) ≡ value_at v y
  pub second_end : ends log (value_at v y) ≡ value_at v y

pub ends_are : (v : Shown) (w : Contents) (log : List Forward) (a b x y : Target) → HasLog v w log → IsEndOf v w a x → IsEndOf v w b y → AreEnds v log a b x y
ends_are v w log a b x y h e f =
    let one = end_is v w log a x h e in
    let two = end_is v w log b y h f in
    record { first = one.0; first_end = one.1; second = two.0; second_end = two.1 }

-- two places with one key are the same
pub key_one : (v : Shown) → IsShown v → (p q : Place) → IsHeld v p.block p.offset → IsHeld v q.block q.offset → key v p ≡ key v q → p ≡ q
key_one v s p q hp hq e =
    let n = length v.structure in
    let i = number_of v p.block p.offset in
    let j = number_of v q.block q.offset in
    let bp = held_below v s p.block p.offset hp in
    let bq = held_below v s q.block q.offset hq in
    let both = split p.side q.side n i j bp bq e in
    let addresses = address_tells v (record { block = p.block; offset = p.offset }) (record { block = q.block; offset = q.offset }) hp hq both.1 in
    let b : p.block ≡ q.block = ap (λ (a : Addr). a.block) addresses in
    let o : p.offset ≡ q.offset = ap (λ (a : Addr). a.offset) addresses in
    same p.side q.side p.block q.block p.offset q.offset both.0 b o
  where
    same : (c d : Side) (i j k l : ℕ) → c ≡ d → i ≡ j → k ≡ l → (let x : Place = record { side = c; block = i; offset = k } in x) ≡ record { side = d; block = j; offset = l }
    same c d i j k l e f g = cc

    split : (c d : Side) (n i j : ℕ) → i < n → j < n → behind c n i ≡ behind d n j → (c ≡ d) × (i ≡ j)
    split side.Left side.Left n i j a b e = (refl, e)
    split side.Left side.Right n i j a b e = absurd (omega (arith, e))
    split side.Right side.Left n i j a b e = absurd (omega (arith, e))
    split side.Right side.Right n i j a b e = (refl, omega (arith, e))

-- places that a test tells apart have two keys
pub keys_apart : (v : Shown) → IsShown v → (p q : Place) → IsHeld v p.block p.offset → IsHeld v q.block q.offset → (same : Bool) → (p ≡ q → same ≡ true) → same ≡ false → key v p ≢ key v q
keys_apart v s p q hp hq same told not e = true≢false (sym (told (key_one v s p q hp hq e)) ∙ not)

-- two places with two keys have two numbers, or are of two sides
pub numbers_apart : (v : Shown) (p q : Place) (m n : ℕ) → m ≡ number_of v p.block p.offset → n ≡ number_of v q.block q.offset → key v p ≢ key v q → p.side ≡ q.side → m ≢ n
numbers_apart v p q m n em en ne es e =
    ne (ap (λ d. behind d (length v.structure) (number_of v p.block p.offset)) es ∙ ap (λ k. behind q.side (length v.structure) k) (sym em ∙ (e ∙ en)))

pub key_below : (v : Shown) → IsShown v → (p : Place) → IsHeld v p.block p.offset → key v p < 2 * length v.structure
key_below v s p h = go p.side (number_of v p.block p.offset) (held_below v s p.block p.offset h)
  where
    go : (d : Side) (k : ℕ) → k < length v.structure → behind d (length v.structure) k < 2 * length v.structure
    go side.Left k l = omega arith
    go side.Right k l = omega arith

rev_has : (ms fs : Arcs) (a : ℕ) (x : Value) → Has (rev_onto ms fs) a x → Has (ms ++ fs) a x
rev_has [] fs a x h = h
rev_has (e ∷ ms) fs a x h = elim (has_cases ms (e ∷ fs) a x (rev_has ms (e ∷ fs) a x h)) [
  | inl g ↦ inr (has_left ms fs a x g)
  | inr g ↦ elim g [ inl q ↦ inl q | inr q ↦ inr (has_right ms fs a x q) ]
]

has_rev : (ms fs : Arcs) (a : ℕ) (x : Value) → Has (ms ++ fs) a x → Has (rev_onto ms fs) a x
has_rev [] fs a x h = h
has_rev (e ∷ ms) fs a x (inl q) = has_rev ms (e ∷ fs) a x (has_right ms (e ∷ fs) a x (inl q))
has_rev (e ∷ ms) fs a x (inr q) = has_rev ms (e ∷ fs) a x (elim (has_cases ms fs a x q) [ inl g ↦ has_left ms (e ∷ fs) a x g | inr g ↦ has_right ms (e ∷ fs) a x (inr g) ])

in_front_of : (es fs gs : Arcs) (a : ℕ) (x : Value) → (Has fs a x → Has gs a x) → Has (es ++ fs) a x → Has (es ++ gs) a x
in_front_of es fs gs a x f h = elim (has_cases es fs a x h) [ inl g ↦ has_left es gs a x g | inr g ↦ has_right es gs a x (f g) ]

log_more : (v : Shown) (w t : Contents) (log : List Forward) (A : ℕ) (y : Value) → HasLog v w log → ends log (Node A) ≡ Node A → ends log y ≡ y → y ≢ Node A → forward_of v t A ≡ Some y → ((k : ℕ) → k ≢ A → forward_of v t k ≡ forward_of v w k)
    → HasLog v t (record { from = A; to = y } ∷ log)
log_more v w t log A y h eA ey n at others = record {
  is_log = (eA, ey, n, h.is_log);
  table = λ k. elim (cases_eq k A) [
    | inl e ↦ ap (forward_of v t) e ∙ (at ∙ sym (ap (λ b. cond b (Some y) (lookup log k)) (eq-eqb k A e)))
    | inr ne ↦ others k ne ∙ (h.table k ∙ sym (ap (λ b. cond b (Some y) (lookup log k)) (ne_eqb k A ne)))
  ];
}

-- a merge
pub merge_step : (v : Shown) (w t : Contents) (log : List Forward) (a b : Target) (A B : ℕ) → HasLog v w log → IsMerged v w t A B → A ≢ B → A < 2 * length v.structure → B < 2 * length v.structure → Ends (before v w log a b) (pair_of v a b) (Node A) (Node B) → ends log (Node A) ≡ Node A → ends log (Node B) ≡ Node B
    → Outcome v w t log a b true
merge_step v w t log a b A B h m n lA lB e eA eB =
    let ms = missing (own (sides v.structure) A) (added_of v w A) (both v w B) in (
      record { from = A; to = Node B } ∷ log,
      log_more v w t log A (Node B) h eA eB (λ q. n (sym (node_one B A q))) m.forward m.forwards,
      omega arith,
      inl (
        A,
        B,
        m.arcs,
        lA,
        lB,
        record {
          popped = refl;
          ends_are = e;
          apart = n;
          from_end = eA;
          to_end = eB;
          log = refl;
          pending = m.pairs;
          emptied = m.emptied;
          others = m.others;
          only = λ c x q. in_front_of (added_of v w A) (rev_onto ms (added_of v w B)) (ms ++ added_of v w B) c x (rev_has ms (added_of v w B) c x) (subst (λ es. Has es c x) m.added q);
          each = λ c x q. subst (λ es. Has es c x) (sym m.added) (in_front_of (added_of v w A) (ms ++ added_of v w B) (rev_onto ms (added_of v w B)) c x (has_rev ms (added_of v w B) c x) q);
        },
      ),
    )

pub same_steady : (v : Shown) (w : Contents) → AreHeld v w → PairsHeld v w.pairs → IsSteady v w w
same_steady v w h p = record { kept = kept_same w; held = h; pairs_held = p }

-- nothing is to be done
pub skip_step : (v : Shown) (w : Contents) (log : List Forward) (a b : Target) → HasLog v w log → ends log (value_at v a) ≡ ends log (value_at v b) → Outcome v w w log a b true
skip_step v w log a b h e = (log, h, omega arith, inr (inr (refl, record { popped = refl; same = e; log = refl; pending = refl; others = λ k. refl })))

-- a place becomes an atom
abbrev pub with_atom : Contents → Side → ℕ → ℕ → PlaceMarks
with_atom w s n c = record (marks w s n) { forward = Some (target.Atom c) }

pub bind_steady : (v : Shown) (w : Contents) (p : Place) (c : ℕ) → IsShown v → AreHeld v w → PairsHeld v w.pairs → IsHeld v p.block p.offset → IsSteady v w (bound v w p c)
bind_steady v w p c s h ph i =
    let n = number_of v p.block p.offset in
    let m = with_atom w p.side n c in
    let room = key_room v w s h p i in
    let at = key_slot v s p i in
    let has : HasPlace w p.side n = omega (arith, room, at) in
    record {
      kept = put_kept w w.arcs p.side n m has refl refl;
      held = record {
        room = omega (arith, h.room, length-set w.places (slot p.side n) m);
        forwards = λ j. elim (marks_put w p.side n m j has) [
          | inl g ↦ subst (λ (u : PlaceMarks). OptionIsHeld v u.forward) (sym g.1) tt
          | inr g ↦ subst (λ (u : PlaceMarks). OptionIsHeld v u.forward) (sym g.1) (h.forwards j)
        ];
        added = λ j. subst (LinksHeld v) (sym (field_put (λ (u : PlaceMarks). u.added) w p.side n m has refl j)) (h.added j);
      };
      pairs_held = ph;
    }

pub bind_step : (v : Shown) (w : Contents) (log : List Forward) (a b : Target) (p : Place) (c : ℕ) → IsShown v → AreHeld v w → IsHeld v p.block p.offset → HasLog v w log → both v w (key v p) ≡ []
    → Ends (before v w log a b) (pair_of v a b) (Node (key v p)) (Atom c) → ends log (Node (key v p)) ≡ Node (key v p) → Outcome v w (bound v w p c) log a b true
bind_step v w log a b p c s held i h bare e eA =
    let A = key v p in
    let N = length v.structure in
    let n = number_of v p.block p.offset in
    let m = with_atom w p.side n c in
    let room = key_room v w s held p i in
    let at = key_slot v s p i in
    let has : HasPlace w p.side n = omega (arith, room, at) in
    let t = bound v w p c in
    let here : forward_of v t A ≡ Some (Atom c) = ap (λ j. option_at v (marks_in t j).forward) at ∙ ap (λ (u : PlaceMarks). option_at v u.forward) (get_or-set_same w.places (slot p.side n) m unmarked has) in
    let others : (k : ℕ) → k ≢ A → forward_of v t k ≡ forward_of v w k = λ k ne.
    ap (λ (u : PlaceMarks). option_at v u.forward) (get_or-set_other w.places (slot p.side n) (slot_of N k) m unmarked (λ q. ne (slot_one N k A (q ∙ sym at)))) in (
      record { from = A; to = Atom c } ∷ log,
      log_more v w t log A (Atom c) h eA (ends_atom log c) (λ q. cc) here others,
      omega arith,
      inr (inl (
        A,
        c,
        refl,
        record {
          popped = refl;
          ends_are = e;
          from_end = eA;
          bare = bare;
          log = refl;
          pending = refl;
          others = λ k. ap (arcs_at v) (field_put (λ (u : PlaceMarks). u.added) w p.side n m has refl (slot_of N k));
        },
      )),
    )

-- what a bind comes to
pub bind_outcome : (v : Shown) (w t : Contents) (log : List Forward) (a b : Target) (p : Place) (c : ℕ) (r : Bool) → IsShown v → AreHeld v w → IsHeld v p.block p.offset → HasLog v w log → BoundOrNot v w t p c r
    → Ends (before v w log a b) (pair_of v a b) (Node (key v p)) (Atom c) → ends log (Node (key v p)) ≡ Node (key v p) → Outcome v w t log a b r
bind_outcome v w t log a b p c true s held i h g e eA = subst (λ u. Outcome v w u log a b true) (sym g.1) (bind_step v w log a b p c s held i h g.0 e eA)
bind_outcome v w t log a b p c false s held i h g e eA = record { popped = refl; clash = inr (inl (key v p, c, g.0.0, g.0.1, e, g.0.2)) }

pub bind_keeps : (v : Shown) (w t : Contents) (p : Place) (c : ℕ) (r : Bool) → IsShown v → AreHeld v w → PairsHeld v w.pairs → IsHeld v p.block p.offset → BoundOrNot v w t p c r → IsSteady v w t
bind_keeps v w t p c true s h ph i g = subst (IsSteady v w) (sym g.1) (bind_steady v w p c s h ph i)
bind_keeps v w t p c false s h ph i g = subst (IsSteady v w) (sym g.1) (same_steady v w h ph)

pub atoms_outcome : (v : Shown) (w : Contents) (log : List Forward) (a b : Target) (c d : ℕ) (r : Bool) → HasLog v w log → r ≡ nat_eq c d → ends log (value_at v a) ≡ Atom c → ends log (value_at v b) ≡ Atom d → Outcome v w w log a b r
atoms_outcome v w log a b c d r h q ea eb = elim (cases_eq c d) [
  | inl e ↦ subst (Outcome v w w log a b) (sym (q ∙ eq-eqb c d e)) (skip_step v w log a b h (ea ∙ (ap Atom e ∙ sym eb)))
  | inr n ↦ subst (Outcome v w w log a b) (sym (q ∙ ne_eqb c d n)) (record { popped = refl; clash = inl (c, d, inl (ea, eb), n) })
]
