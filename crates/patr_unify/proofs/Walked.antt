-- The walk over the ends that the left side reaches, step by step.
use Rattle.std.proofs.Common.{◌≡◌, ◌≢◌, ℕ, ◌+◌, ◌*◌, ◌<◌, ◌≤◌, ◌⊎◌, inl, inr, Option, Some, None, MatchOption, List, [], ◌∷◌, ◌++◌, length, length-append, refl, sym, ap, ◌∙◌, subst, arith}
use Rattle.std.proofs.lemmas.Bool.{cases_eq}
use Rattle.patr_lists.proofs.Totals.{total_change, upto_once, upto_in, total_ext}
use Rattle.patr_lists.proofs.Members.{no_longer}
use Rattle.patr_lists.specs.Members.{NoRepeats, IsIn}
use Rattle.patr_lists.specs.Numbers.{total, upto}
use Rattle.patr_model.specs.Structure.{Value, Atom, Node, Structure}
use Rattle.patr_marks.specs.Machine.{Forward, Has, State, arcs_at, ends, own}
use Rattle.patr_marks.specs.Quotient.{Below, IsOrder}
use Rattle.patr_marks.specs.Sides.{sides}
use Rattle.patr_marks.specs.Walk.{IsWalk, Leads, ReachedIn}
use Rattle.patr_marks.proofs.Walk.{walk_starts, walk_enters, walk_leaves, walk_done}
use Rattle.patr_arena.specs.Shown.{Shown, IsShown, IsHeld}
use Rattle.patr_scratch.specs.declared.Place.{Place}
use Rattle.patr_scratch.specs.declared.Target.{Target}
use Rattle.patr_scratch.specs.declared.Visit.{Visit}
use Rattle.patr_scratch.specs.declared.Visit.TheVariants as visit
use Rattle.patr_scratch.specs.Contents.{Contents}
use Rattle.patr_unify.specs.Reading.{AreHeld, LinksHeld, OptionIsHeld, IsEndOf, added_of, forward_of, key, marks_in, slot_of, state_of, value_at, option_at}
use Rattle.patr_unify.specs.Reading as reading
use Rattle.patr_unify.specs.Merging.{both}
use Rattle.patr_unify.specs.Stepping.{HasLog}
use Rattle.patr_unify.specs.declared.cursor.Cursor.{Cursor}
use Rattle.patr_unify.specs.Walking.{AllEnd, ArePaused, HasEntered, HasLeft, HasStack, HasVisitRoom, HasWalked, IsAtPlace, IsDone, IsFoundAt, IsLedBack, IsStill, IsTurned, IsVisited, IsWalkable, IsWalkedOff, LeadsBack, VisitsHeld, cursors_of, end_value, first, stack_of, to_visit, unseen_of, visit_of}
use Rattle.patr_unify.proofs.Keys.{node_one}
use Rattle.patr_unify.proofs.Outcomes.{end_by_log, end_is, key_below, log_ends}
use Rattle.patr_unify.proofs.Pauses.{none_paused, onward_visited, pairs_length, paused_popped, paused_starts, stack_length, stack_popped, stack_pushed, went_back, went_down}

-- what stays where only visits change
pub still_then : (w t u : Contents) → IsStill w t → IsStill t u → IsStill w u
still_then w t u h k = record {
  places = k.places ∙ h.places;
  arcs = k.arcs ∙ h.arcs;
  arc_room = k.arc_room ∙ h.arc_room;
  pair_room = k.pair_room ∙ h.pair_room;
  visit_room = k.visit_room ∙ h.visit_room;
  order_room = k.order_room ∙ h.order_room;
  forward = λ j. k.forward j ∙ h.forward j;
  copied = λ j. k.copied j ∙ h.copied j;
  added = λ j. k.added j ∙ h.added j;
}

pub still_same : (w : Contents) → IsStill w w
still_same w = record {
  places = refl;
  arcs = refl;
  arc_room = refl;
  pair_room = refl;
  visit_room = refl;
  order_room = refl;
  forward = λ j. refl;
  copied = λ j. refl;
  added = λ j. refl;
}

pub still_forward : (v : Shown) (w t : Contents) → IsStill w t → (k : ℕ) → forward_of v t k ≡ forward_of v w k
still_forward v w t h k = ap (option_at v) (h.forward (slot_of (length v.structure) k))

pub still_added : (v : Shown) (w t : Contents) → IsStill w t → (k : ℕ) → added_of v t k ≡ added_of v w k
still_added v w t h k = ap (reading.arcs_at v) (h.added (slot_of (length v.structure) k))

pub still_both : (v : Shown) (w t : Contents) → IsStill w t → (k : ℕ) → both v t k ≡ both v w k
still_both v w t h k = ap (λ es. own (sides v.structure) k ++ es) (still_added v w t h k)

pub still_held : (v : Shown) (w t : Contents) → IsStill w t → AreHeld v w → AreHeld v t
still_held v w t h a = record {
  room = omega (arith, h.places, a.room);
  forwards = λ j. subst (OptionIsHeld v) (sym (h.forward j)) (a.forwards j);
  added = λ j. subst (LinksHeld v) (sym (h.added j)) (a.added j);
}

pub still_log : (v : Shown) (w t : Contents) (log : List Forward) → IsStill w t → HasLog v w log → HasLog v t log
still_log v w t log h l = record { is_log = l.is_log; table = λ k. still_forward v w t h k ∙ l.table k }

pub still_end : (v : Shown) (w t : Contents) (l : ℕ) (i : IsWalkable v w l) → IsStill w t → (x : Value) → end_value v t x ≡ ends i.log x
still_end v w t l i h x = end_by_log v t i.log x (still_log v w t i.log h i.has_log) (omega (arith, i.short, h.pair_room))

pub still_ends : (v : Shown) (w t : Contents) (l : ℕ) (i : IsWalkable v w l) → IsStill w t → AllEnd v t
still_ends v w t l i h = log_ends v t i.log (still_log v w t i.log h i.has_log) (omega (arith, i.short, h.pair_room))

-- what is held on the stack
pub held_popped : (v : Shown) (ps : List Place) (p : Place) → VisitsHeld v (ps ++ p ∷ []) → VisitsHeld v ps × IsHeld v p.block p.offset
held_popped v [] p h = (tt, h.0)
held_popped v (q ∷ ps) p h = let r = held_popped v ps p h.1 in ((h.0, r.0), r.1)

pub held_pushed : (v : Shown) (ps qs : List Place) → VisitsHeld v ps → VisitsHeld v qs → VisitsHeld v (ps ++ qs)
held_pushed v [] qs h k = k
held_pushed v (p ∷ ps) qs h k = (h.0, held_pushed v ps qs h.1 k)

stack_moved : (v : Shown) (w t u : Contents) (l : ℕ) (i : IsWalkable v w l) (stack order : List ℕ) (ps : List Place) → HasStack v w t l i stack order → u ≡ record t { visits = ps } → HasStack v w u l i stack order
stack_moved v w t u l i stack order ps h e = subst (λ z. HasStack v w z l i stack order) (sym e) h

-- the top of the stack is taken
pub at_place : (v : Shown) (w t u : Contents) (l : ℕ) (i : IsWalkable v w l) (top : Place) (c : Cursor) → HasWalked v w t l i c → u ≡ record t { visits = u.visits } → t.visits ≡ u.visits ++ top ∷ [] → IsAtPlace v w u l i top c
at_place v w t u l i top c h e q =
    let held = held_popped v u.visits top (subst (VisitsHeld v) q h.held) in
    let order = sym (ap (λ (z : Contents). z.order) e) in
    let has = subst (λ ks. HasStack v w t l i ks (stack_of v t.order)) (ap (stack_of v) q ∙ stack_popped v u.visits top) h.has in
    record {
      top_held = held.1;
      held = held.0;
      left_held = subst (VisitsHeld v) order h.left_held;
      paused = paused_popped v t u top c h.paused e q;
      has = subst (λ ps. HasStack v w u l i (key v top ∷ stack_of v u.visits) (stack_of v ps)) order (stack_moved v w t u l i (key v top ∷ stack_of v u.visits) (stack_of v t.order) u.visits has e);
    }

order_once : (D : Structure) (s : State) (ks : List ℕ) → IsOrder D s ks → NoRepeats ks
order_once D s [] o = tt
order_once D s (k ∷ ks) o = (o.1, order_once D s ks o.3)

is_unseen : (x : Visit) → x ≢ visit.Left → x ≢ visit.Entered → x ≡ visit.Unseen
is_unseen visit.Unseen a b = refl
is_unseen visit.Entered a b = absurd (b refl)
is_unseen visit.Left a b = absurd (a refl)

module _ (v : Shown) (w t : Contents) (l : ℕ) (i : IsWalkable v w l) (top : Place) (c : Cursor) (at : IsAtPlace v w t l i top c) where
  abbrev s : State
  s = state_of v w i.log

  leads_on : (a : ℕ) (x : Value) (j : ℕ) → Has (both v t (key v top)) a x → end_value v t x ≡ Node j → Leads (sides v.structure) (state_of v w i.log) (key v top) j
  leads_on a x j h e = (a, x, subst (λ es. Has es a x) (still_both v w t at.has.still (key v top)) h, sym (still_end v w t l i at.has.still x) ∙ e)

  -- an end that was not visited makes the stack longer
  longer : (p : Place) → IsFoundAt v t (both v t (key v top)) (Some p) → visit_of v t (key v p) ≢ visit.Entered → IsWalk (sides v.structure) (state_of v w i.log) at.has.root (key v p ∷ key v top ∷ stack_of v t.visits) (stack_of v t.order)
  longer p (a, x, h, o) n =
      walk_enters (sides v.structure) s at.has.root (key v top) (stack_of v t.visits) (stack_of v t.order) (key v p) i.has_log.is_log at.has.walk (leads_on a x (key v p) h o.1)
      (λ m. n (at.has.entered (key v p) m)) (λ m. o.2 (at.has.left (key v p) m))

  -- what the walk reaches is one of the ends that there is room for
  in_room : (k : ℕ) → IsIn (stack_of v t.order) k ⊎ IsIn (key v top ∷ stack_of v t.visits) k → IsIn i.ks k
  in_room k m = let r = at.has.walk.reached k m in i.reached at.has.root r.0 k at.has.from r.1

  -- and there is room for it
  pub has_room : HasVisitRoom v t (key v top)
  has_room a x p h o n =
      let next = longer p (a, x, h, o) n in
      let size = no_longer (key v p ∷ key v top ∷ stack_of v t.visits) i.ks next.once (λ k m. let r = next.reached k (inr m) in i.reached at.has.root r.0 k at.has.from r.1) in
      let stack = stack_length v t.visits in
      let pairs = pairs_length v t (key v top) (stack_of v t.visits) t.pairs at.paused.1 in
      (omega (arith, size, stack, i.room, at.has.still.visit_room), omega (arith, size, pairs, i.pair_room, at.has.still.pair_room))

  -- as there is for the place, once it is left
  pub has_order_room : length t.order < t.order_room
  has_order_room =
      let once : NoRepeats (key v top ∷ stack_of v t.order) = (at.has.walk.apart (key v top) (inl refl), order_once (sides v.structure) s (stack_of v t.order) at.has.walk.ordered) in
      let size = no_longer (key v top ∷ stack_of v t.order) i.ks once (λ k m. elim m [ inl e ↦ in_room k (inr (inl e)) | inr r ↦ in_room k (inl r) ]) in
      omega (arith, size, stack_length v t.order, i.order_room, at.has.still.order_room)

  -- the walk goes on to it
  pub entered_on : (u : Contents) → HasEntered v t u top → HasWalked v w u l i first
  entered_on u e =
      let p = e.place in
      let o = e.found.3 in
      let set = e.visited in
      let stack = key v top ∷ stack_of v t.visits in
      let shown = sym (ap (stack_of v) e.visits ∙ stack_pushed v t.visits top p) in
      let new : HasStack v w u l i (key v p ∷ stack) (stack_of v t.order) = record {
        still = still_then w t u at.has.still set.still;
        root = at.has.root;
        from = at.has.from;
        walk = longer p e.found e.new;
        entered = λ k m. elim (cases_eq k (key v p)) [ inl q ↦ ap (visit_of v u) q ∙ set.here | inr ne ↦ elim m [ inl q ↦ absurd (ne (sym q)) | inr r ↦ set.others k ne ∙ at.has.entered k r ] ];
        on_stack = λ k m. elim (cases_eq k (key v p)) [ inl q ↦ inl (sym q) | inr ne ↦ inr (at.has.on_stack k (sym (set.others k ne) ∙ m)) ];
        left = λ k m. elim (cases_eq k (key v p)) [ inl q ↦ absurd (o.2 (ap (visit_of v t) (sym q) ∙ at.has.left k m)) | inr ne ↦ set.others k ne ∙ at.has.left k m ];
        in_order = λ k m. elim (cases_eq k (key v p)) [ inl q ↦ (let z : visit.Entered ≡ visit.Left = sym (ap (visit_of v u) q ∙ set.here) ∙ m in cc) | inr ne ↦ at.has.in_order k (sym (set.others k ne) ∙ m) ];
      } in
      record {
        held = subst (VisitsHeld v) (sym e.visits) (held_pushed v t.visits (top ∷ p ∷ []) at.held (at.top_held, (o.0, tt)));
        left_held = subst (VisitsHeld v) (sym e.order) at.left_held;
        has = subst (λ ps. HasStack v w u l i (stack_of v u.visits) (stack_of v ps)) (sym e.order) (subst (λ ks. HasStack v w u l i ks (stack_of v t.order)) shown new);
        paused = subst (λ ks. ArePaused v u ks first (cursors_of u.pairs)) shown
            (went_down v t u (key v p) (key v top) (stack_of v t.visits) e.from (onward_visited v t u (key v p) visit.Entered set (λ q. absurd (o.2 q))) at.paused.1 e.paused e.put);
      }

  below_of : (y : Value) → IsDone v t y → Below (stack_of v t.order) y
  below_of (Atom c) h = tt
  below_of (Node k) h = at.has.in_order k h

  -- the walk goes back
  pub left_on : (u : Contents) (d : Cursor) → HasLeft v t u top d → HasWalked v w u l i d
  left_on u d e =
      let set = e.visited in
      let K = key v top in
      let stack = stack_of v t.visits in
      let all : (a : ℕ) (x : Value) → Has (arcs_at (sides v.structure) s K) a x → Below (stack_of v t.order) (ends i.log x) =
      λ a x h. below_of (ends i.log x) (subst (IsDone v t) (still_end v w t l i at.has.still x) (e.none a x (subst (λ es. Has es a x) (sym (still_both v w t at.has.still K)) h))) in
      let new : HasStack v w u l i stack (K ∷ stack_of v t.order) = record {
        still = still_then w t u at.has.still set.still;
        root = at.has.root;
        from = at.has.from;
        walk = walk_leaves (sides v.structure) s at.has.root K stack (stack_of v t.order) at.has.walk all;
        entered = λ k m. set.others k (λ q. at.has.walk.once.0 (subst (IsIn stack) q m)) ∙ at.has.entered k (inr m);
        on_stack = λ k m. elim (cases_eq k K) [
          | inl q ↦ (let z : visit.Entered ≡ visit.Left = sym m ∙ (ap (visit_of v u) q ∙ set.here) in cc)
          | inr ne ↦ elim (at.has.on_stack k (sym (set.others k ne) ∙ m)) [ inl q ↦ absurd (ne (sym q)) | inr r ↦ r ]
        ];
        left = λ k m. elim (cases_eq k K) [ inl q ↦ ap (visit_of v u) q ∙ set.here | inr ne ↦ elim m [ inl q ↦ absurd (ne (sym q)) | inr r ↦ set.others k ne ∙ at.has.left k r ] ];
        in_order = λ k m. elim (cases_eq k K) [ inl q ↦ inl (sym q) | inr ne ↦ inr (at.has.in_order k (sym (set.others k ne) ∙ m)) ];
      } in
      record {
        held = subst (VisitsHeld v) (sym e.visits) at.held;
        left_held = subst (VisitsHeld v) (sym e.order) (held_pushed v t.order (top ∷ []) at.left_held (at.top_held, tt));
        has = subst (HasStack v w u l i (stack_of v u.visits)) (sym (ap (stack_of v) e.order ∙ stack_popped v t.order top)) (subst (λ ps. HasStack v w u l i (stack_of v ps) (K ∷ stack_of v t.order)) (sym e.visits) new);
        paused = subst (λ ps. ArePaused v u (stack_of v ps) d (cursors_of u.pairs)) (sym e.visits)
            (went_back v t u K stack d (onward_visited v t u K visit.Left set (λ q. refl)) set.here at.paused.1 e.taken);
      }

  -- the walk is led back
  pub led_back : LeadsBack v t (key v top) → IsLedBack v w l i
  led_back b = (at.has.root, key v top, stack_of v t.visits, stack_of v t.order, b.2, at.has.from, at.has.walk, leads_on b.0 b.1 b.2 b.3 b.4, at.has.on_stack b.2 b.5)

-- it was not gone on
pub not_turned : (v : Shown) (w t : Contents) (top : Place) (o : Option Cursor) → IsTurned v w t top o → ((c : Cursor) → o ≡ Some c → ⊥) → LeadsBack v w (key v top)
not_turned v w t top None h n = h
not_turned v w t top (Some c) h n = absurd (n c refl)

-- the end of the left side
pub root_is : (v : Shown) (w : Contents) (l : ℕ) (i : IsWalkable v w l) (from t : Target) → value_at v from ≡ Node l → IsEndOf v w from t → (ends i.log (Node l) ≡ value_at v t) × (ends i.log (value_at v t) ≡ value_at v t)
root_is v w l i from t q e = let is = end_is v w i.log from t i.has_log e in (ap (ends i.log) (sym q) ∙ is.0, is.1)

pub has_some : (ks : List ℕ) (k : ℕ) → IsIn ks k → 1 ≤ length ks
has_some [] k m = absurd m
has_some (j ∷ ks) k m = omega arith

pub root_room : (v : Shown) (w : Contents) (l : ℕ) (i : IsWalkable v w l) (root : ℕ) → ends i.log (Node l) ≡ Node root → length w.visits < w.visit_room
root_room v w l i root e =
    let some = has_some i.ks root (i.reached root 0 root e refl) in
    let none = ap (length {A = Place}) i.empty in
    omega (arith, some, none, i.room)

-- where the walk begins
pub walked_starts : (v : Shown) (w t : Contents) (l : ℕ) (i : IsWalkable v w l) (root : Place) → IsHeld v root.block root.offset → ends i.log (Node l) ≡ Node (key v root) → ends i.log (Node (key v root)) ≡ Node (key v root)
    → IsVisited v w t (key v root) visit.Entered → t.visits ≡ w.visits ++ root ∷ [] → t.pairs ≡ w.pairs → t.order ≡ w.order → HasWalked v w t l i first
walked_starts v w t l i root held from is_end set e pairs order =
    let K = key v root in
    let only : t.visits ≡ root ∷ [] = e ∙ ap (λ ps. ps ++ root ∷ []) i.empty in
    let none = sym (order ∙ i.no_order) in
    let new : HasStack v w t l i (K ∷ []) [] = record {
      still = set.still;
      root = K;
      from = from;
      walk = walk_starts (sides v.structure) (state_of v w i.log) K is_end;
      entered = λ k m. elim m [ inl q ↦ ap (visit_of v t) (sym q) ∙ set.here | inr n ↦ absurd n ];
      on_stack = λ k m. elim (cases_eq k K) [ inl q ↦ inl (sym q) | inr ne ↦ (let z : visit.Unseen ≡ visit.Entered = sym (set.others k ne ∙ i.unseen k) ∙ m in cc) ];
      left = λ k m. absurd m;
      in_order = λ k m. elim (cases_eq k K) [ inl q ↦ (let z : visit.Entered ≡ visit.Left = sym (ap (visit_of v t) q ∙ set.here) ∙ m in cc) | inr ne ↦ (let z : visit.Unseen ≡ visit.Left = sym (set.others k ne ∙ i.unseen k) ∙ m in cc) ];
    } in
    record {
      held = subst (VisitsHeld v) (sym only) (held, tt);
      left_held = subst (VisitsHeld v) none tt;
      has = subst (λ ps. HasStack v w t l i (stack_of v t.visits) (stack_of v ps)) none (subst (λ ps. HasStack v w t l i (stack_of v ps) []) (sym only) new);
      paused = paused_starts v t root only (pairs ∙ i.no_pairs);
    }

-- where the left side's end is an atom, there is nothing to walk over
pub atom_walked : (v : Shown) (w : Contents) (l : ℕ) (i : IsWalkable v w l) (c : ℕ) → ends i.log (Node l) ≡ Atom c → IsWalkedOff v w w l i
atom_walked v w l i c e = record {
  still = still_same w;
  empty = i.empty;
  no_pairs = i.no_pairs;
  left_held = subst (VisitsHeld v) (sym i.no_order) tt;
  ordered = subst (λ ps. IsOrder (sides v.structure) (state_of v w i.log) (stack_of v ps)) (sym i.no_order) tt;
  below = subst (Below (stack_of v w.order)) (sym e) tt;
  reached = λ k m. none k m;
  done = λ root n k q r. (let z : Atom c ≡ Node root = sym e ∙ q in cc);
  left = λ k m. none k m;
  in_order = λ k m. (let z : visit.Unseen ≡ visit.Left = sym (i.unseen k) ∙ m in cc);
  unseen = λ k m. i.unseen k;
}
  where
    none : {A : Type 0} (k : ℕ) → IsIn (stack_of v w.order) k → A
    none k m = absurd (subst (λ ps. IsIn (stack_of v ps) k) i.no_order m)

-- nothing was popped
pub none_popped : (t u : Contents) (o : Option Place) → MatchOption o ((t.visits ≡ []) × (u.visits ≡ [])) (λ p. t.visits ≡ u.visits ++ p ∷ []) → ((p : Place) → o ≡ Some p → ⊥) → (t.visits ≡ []) × (u.visits ≡ [])
none_popped t u None m n = m
none_popped t u (Some p) m n = absurd (n p refl)

-- and else it ends when the stack is empty
pub walked_off : (v : Shown) (w t u : Contents) (l : ℕ) (i : IsWalkable v w l) (c : Cursor) → HasWalked v w t l i c → u ≡ record t { visits = u.visits } → t.visits ≡ [] → u.visits ≡ [] → IsWalkedOff v w u l i
walked_off v w t u l i c h e none empty =
    let same = sym (ap (λ (z : Contents). z.order) e) in
    let has : HasStack v w u l i [] (stack_of v u.order) = subst (λ ps. HasStack v w u l i [] (stack_of v ps)) same (stack_moved v w t u l i [] (stack_of v t.order) u.visits (subst (λ ps. HasStack v w t l i (stack_of v ps) (stack_of v t.order)) none h.has) e) in
    let s = state_of v w i.log in
    let done : (n k : ℕ) → ReachedIn (sides v.structure) s has.root n k → IsIn (stack_of v u.order) k = walk_done (sides v.structure) s has.root (stack_of v u.order) has.walk in
    record {
      still = has.still;
      empty = empty;
      no_pairs = ap (λ (z : Contents). z.pairs) e ∙ none_paused t.pairs (subst (λ ps. ArePaused v t (stack_of v ps) c (cursors_of t.pairs)) none h.paused);
      left_held = subst (VisitsHeld v) same h.left_held;
      ordered = has.walk.ordered;
      below = subst (Below (stack_of v u.order)) (sym has.from) (done 0 has.root refl);
      reached = λ k m. (let r = has.walk.reached k (inl m) in (has.root, r.0, has.from, r.1));
      done = λ root n k q r. done n k (subst (λ z. ReachedIn (sides v.structure) s z n k) (node_one root has.root (sym q ∙ has.from)) r);
      left = has.left;
      in_order = has.in_order;
      unseen = λ k m. is_unseen (visit_of v u k) (λ q. m (has.in_order k q)) (λ q. absurd (has.on_stack k q));
    }

-- with each turn less is left to do
pub turn_falls : (v : Shown) → IsShown v → (t u x : Contents) (top : Place) → visit_of v u (key v top) ≡ visit.Entered → u ≡ record t { visits = u.visits } → t.visits ≡ u.visits ++ top ∷ [] → (c : Cursor)
    → HasLeft v u x top c ⊎ (HasEntered v u x top × (c ≡ first)) → total (unseen_of v x) (upto (2 * length v.structure)) + length x.visits < total (unseen_of v t) (upto (2 * length v.structure)) + length t.visits
turn_falls v s t u x top now e q c turned =
    let popped = ap (length {A = Place}) q ∙ length-append u.visits (top ∷ []) in
    let same = ap (λ z. total (unseen_of v z) (upto (2 * length v.structure))) e in
    elim turned [ inl a ↦ back popped same a | inr b ↦ down popped same b.0 ]
  where
    N : ℕ
    N = 2 * length v.structure

    -- the place was entered, and counts no more than before
    back : length t.visits ≡ length u.visits + 1 → total (unseen_of v u) (upto (2 * length v.structure)) ≡ total (unseen_of v t) (upto (2 * length v.structure)) → HasLeft v u x top c
        → total (unseen_of v x) (upto (2 * length v.structure)) + length x.visits < total (unseen_of v t) (upto (2 * length v.structure)) + length t.visits
    back popped same a =
        let all = total_ext (unseen_of v x) (unseen_of v u) (upto N) (λ k. elim (cases_eq k (key v top)) [
          | inl f ↦ ap (unseen_of v x) f ∙ (ap to_visit a.visited.here ∙ (sym (ap to_visit now) ∙ ap (unseen_of v u) (sym f)))
          | inr ne ↦ ap to_visit (a.visited.others k ne)
        ]) in
        let size = ap (length {A = Place}) a.visits in
        omega (arith, same, all, popped, size)

    -- a place is entered that counted twice
    down : length t.visits ≡ length u.visits + 1 → total (unseen_of v u) (upto (2 * length v.structure)) ≡ total (unseen_of v t) (upto (2 * length v.structure)) → HasEntered v u x top
        → total (unseen_of v x) (upto (2 * length v.structure)) + length x.visits < total (unseen_of v t) (upto (2 * length v.structure)) + length t.visits
    down popped same b =
        let o = b.found.3 in
        let change = total_change (unseen_of v x) (unseen_of v u) (upto N) (key v b.place) (upto_once N) (upto_in N (key v b.place) (key_below v s b.place o.0)) (λ k ne. ap to_visit (b.visited.others k ne)) in
        let was = ap to_visit (is_unseen (visit_of v u (key v b.place)) o.2 b.new) in
        let is = ap to_visit b.visited.here in
        let size = ap (length {A = Place}) b.visits ∙ length-append u.visits (top ∷ b.place ∷ []) in
        omega (arith, same, change, was, is, popped, size)
