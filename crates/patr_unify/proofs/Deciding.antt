-- How a decision begins and ends.
use Rattle.std.proofs.Common.{◌≡◌, ℕ, zero, suc, ◌+◌, ◌<◌, ◌≤◌, inl, inr, Option, Some, None, List, [], ◌∷◌, ◌++◌, length, length-append, map, replicate, get_or, refl, sym, ap, ◌∙◌, subst, arith}
use Rattle.std.proofs.lemmas.List.{length-map, length-replicate}
use Rattle.patr_lists.proofs.Members.{once_append, in_right, in_left}
use Rattle.patr_lists.proofs.Places.{below_or_behind}
use Rattle.patr_lists.proofs.Totals.{total_same, total_append, total_ext}
use Rattle.patr_lists.specs.Members.{NoRepeats, IsIn}
use Rattle.patr_lists.specs.Numbers.{total}
use Rattle.patr_model.specs.Structure.{Value, Node, Arc, Arcs, Structure, IsStructure, IsValue, at}
use Rattle.patr_model.specs.Subsumption.{TakesBoth}
use Rattle.patr_model.specs.Settled.{IsSideNode}
use Rattle.patr_marks.specs.Machine.{Pair, State, Has, ends, own, weight, degree, lookup}
use Rattle.patr_marks.specs.Named.{side_of}
use Rattle.patr_marks.specs.Quotient.{Below, IsOrder}
use Rattle.patr_marks.specs.Run.{IsRun, first_pair}
use Rattle.patr_marks.specs.Settled.{IsSettled, IsTidy, Marks}
use Rattle.patr_marks.specs.Sides.{IsSide, shift, shifted, sides}
use Rattle.patr_marks.specs.Walk.{ReachedIn}
use Rattle.patr_marks.proofs.Bounds.{start_room}
use Rattle.patr_marks.proofs.Named.{left_within, reached_below, side_left, side_right, side_to}
use Rattle.patr_marks.proofs.Settles.{settles, tidies}
use Rattle.patr_marks.proofs.Sides.{own_left, own_right}
use Rattle.patr_marks.proofs.Unifier.{cycle_ends, reached_side, root_side, run_starts}
use Rattle.patr_arena.specs.Shown.{Shown, IsShown, ValueIsHeld, value_of}
use Rattle.patr_arena.specs.declared.value.Value as its
use Rattle.patr_arena.proofs.Addresses.{value_below}
use Rattle.patr_scratch.specs.declared.Side.TheVariants as side
use Rattle.patr_scratch.specs.declared.Target.{Target}
use Rattle.patr_scratch.specs.Contents.{Contents, HasRoom, PlaceMarks, begun, unmarked}
use Rattle.patr_unify.specs.Deciding.{HasDecisionRoom, IsEndIn, IsEndOfLeft, IsOrdered, IsReachOf, IsSettledFor, LeadBehind, marks_by}
use Rattle.patr_unify.specs.Reading.{AreHeld, LinksHeld, OptionIsHeld, added_of, arcs_at as links_at, forward_of, marks_in, option_at, pairs_at, slot_of, state_of, target_on, value_at}
use Rattle.patr_unify.specs.Stepping.{Covers, IsRunning}
use Rattle.patr_unify.specs.Walking.{IsLedBack, IsStill, IsWalkable, IsWalkedOff, stack_of}
use Rattle.patr_unify.proofs.Keys.{target_held, target_value}
use Rattle.patr_unify.proofs.Edges.{reach_edges}
use Rattle.patr_unify.proofs.Walked.{still_added, still_both, still_end, still_ends, still_forward, still_held}

-- all side nodes: the right side's behind those of the left
abbrev pub both_lists : ℕ → List ℕ → List ℕ → List ℕ
both_lists n ls rs = ls ++ map (λ k. n + k) rs

in_map : (n : ℕ) (xs : List ℕ) (k : ℕ) → IsIn xs k → IsIn (map (λ j. n + j) xs) (n + k)
in_map n [] k h = absurd h
in_map n (x ∷ xs) k (inl e) = inl (ap (λ j. n + j) e)
in_map n (x ∷ xs) k (inr h) = inr (in_map n xs k h)

map_in : (n : ℕ) (xs : List ℕ) (k : ℕ) → IsIn (map (λ j. n + j) xs) k → (j : ℕ) × IsIn xs j × (k ≡ n + j)
map_in n [] k h = absurd h
map_in n (x ∷ xs) k (inl e) = (x, inl refl, sym e)
map_in n (x ∷ xs) k (inr h) = let r = map_in n xs k h in (r.0, inr r.1, r.2)

once_map : (n : ℕ) (xs : List ℕ) → NoRepeats xs → NoRepeats (map (λ j. n + j) xs)
once_map n [] h = tt
once_map n (x ∷ xs) h = ((λ m. let r = map_in n xs (n + x) m in h.0 (subst (IsIn xs) (same n x r.0 r.2) r.1)), once_map n xs h.1)
  where
    same : (n x j : ℕ) → n + x ≡ n + j → j ≡ x
    same n x j e = omega (arith, e)

total_map : (f : ℕ → ℕ) (n : ℕ) (xs : List ℕ) → total f (map (λ k. n + k) xs) ≡ total (λ k. f (n + k)) xs
total_map f n [] = refl
total_map f n (x ∷ xs) = let r = total_map f n xs in omega (arith, r)

shifted_length : (n : ℕ) (es : Arcs) → length (shifted n es) ≡ length es
shifted_length n [] = refl
shifted_length n (e ∷ es) = ap suc (shifted_length n es)

module _ (S : Structure) (s : IsStructure S) (l : ℕ) (r : Value) (hl : l < length S) (ls rs : List ℕ) (left : IsReachOf S (Node l) ls) (right : IsReachOf S r rs) where
  pub all_covered : (k : ℕ) → IsSide S l r k → IsIn (both_lists (length S) ls rs) k
  all_covered k h = elim (below_or_behind (length S) k) [
    | inl b ↦ in_left ls (map (λ j. length S + j) rs) k (left.all k (subst (IsSideNode S (Node l) S r) (side_left (length S) k b) (side_to S s l r hl k h)))
    | inr b ↦
        let there = subst (IsSideNode S (Node l) S r) (ap (side_of (length S)) b.1 ∙ side_right (length S) b.0) (side_to S s l r hl k h) in
        subst (IsIn (both_lists (length S) ls rs)) (sym b.1) (in_right ls (map (λ j. length S + j) rs) (length S + b.0) (in_map (length S) rs b.0 (right.all b.0 there)))
  ]

  pub all_once : NoRepeats (both_lists (length S) ls rs)
  all_once = once_append ls (map (λ j. length S + j) rs) left.once (once_map (length S) rs right.once) apart
    where
      apart : (k : ℕ) → IsIn ls k → IsIn (map (λ j. length S + j) rs) k → ⊥
      apart k m n =
          let low = reached_below S s l k hl (left.reached k m) in
          let high = map_in (length S) rs k n in
          let e = high.2 in
          absurd (omega (arith, low, e))

  pub all_arcs : total (λ k. length (own (sides S) k)) (both_lists (length S) ls rs) ≡ total (λ k. length (own S k)) ls + total (λ k. length (own S k)) rs
  all_arcs =
      let f : ℕ → ℕ = λ k. length (own (sides S) k) in
      let one = total_append f ls (map (λ k. length S + k) rs) in
      let two = total_same f (λ k. length (own S k)) ls (λ k m. ap (length {A = Arc}) (own_left S k (reached_below S s l k hl (left.reached k m)))) in
      let three = total_map f (length S) rs in
      let four = total_ext (λ k. f (length S + k)) (λ k. length (own S k)) rs (λ k. ap (length {A = Arc}) (own_right S k) ∙ shifted_length (length S) (own S k)) in
      omega (arith, one, two, three, four)

-- there are at most two more of them than arcs: the roots
pub all_few : (S : Structure) → IsStructure S → (l : ℕ) (r : Value) → l < length S → (ls rs : List ℕ) → IsReachOf S (Node l) ls → IsReachOf S r rs
    → length (both_lists (length S) ls rs) ≤ total (λ k. length (own (sides S) k)) (both_lists (length S) ls rs) + 2
all_few S s l r hl ls rs left right =
    let arcs = all_arcs S s l r hl ls rs left right in
    let size = length-append ls (map (λ k. length S + k) rs) in
    let mapped = length-map rs (λ k. length S + k) in
    let one = reach_edges S (Node l) ls left in
    let two = reach_edges S r rs right in
    omega (arith, arcs, size, mapped, one, two)

pub all_covers : (v : Shown) → IsShown v → (l : ℕ) (r : Value) → l < length v.structure → (ls rs : List ℕ) → IsReachOf v.structure (Node l) ls → IsReachOf v.structure r rs → Covers v l r (both_lists (length v.structure) ls rs)
all_covers v s l r hl ls rs left right = record {
  once = all_once v.structure s.structure l r hl ls rs left right;
  all = all_covered v.structure s.structure l r hl ls rs left right;
  few = all_few v.structure s.structure l r hl ls rs left right;
}

-- after `begin` nothing is marked
pub begun_marks : (w : Contents) (j : ℕ) → marks_in (begun w) j ≡ unmarked
begun_marks w j = at (length w.places) j
  where
    at : (n j : ℕ) → get_or (replicate n unmarked) j unmarked ≡ unmarked
    at zero j = refl
    at (suc n) zero = refl
    at (suc n) (suc j) = at n j

-- the scratch with its first pair
abbrev pub with_first : Contents → Target → Target → Contents
with_first w a b = record (begun w) { pairs = (a, b) ∷ [] }

module _ (v : Shown) (s : IsShown v) (w : Contents) (l : ℕ) (hl : l < length v.structure) (p : List ℕ) (x y : its.Value) (hx : ValueIsHeld v x) (hy : ValueIsHeld v y)
    (there : at v.structure (Node l) p ≡ Some (value_of v x)) (room : HasDecisionRoom v w l (value_of v y)) where
  abbrev z : Contents
  z = with_first w (target_on side.Left x) (target_on side.Right y)

  no_forward : (k : ℕ) → forward_of v z k ≡ None
  no_forward k = ap (λ (m : PlaceMarks). option_at v m.forward) (begun_marks w (slot_of (length v.structure) k))

  none_added : (k : ℕ) → added_of v z k ≡ []
  none_added k = ap (λ (m : PlaceMarks). links_at v m.added) (begun_marks w (slot_of (length v.structure) k))

  begun_held : AreHeld v z
  begun_held = record {
    room = (let size = length-replicate (length w.places) unmarked in omega (arith, size, room.room.for_places));
    forwards = λ j. subst (λ (m : PlaceMarks). OptionIsHeld v m.forward) (sym (begun_marks w j)) tt;
    added = λ j. subst (λ (m : PlaceMarks). LinksHeld v m.added) (sym (begun_marks w j)) tt;
  }

  first_is : first_pair v.structure (value_of v x) (value_of v y) ∷ [] ≡ pairs_at v z.pairs
  first_is = pair (value_of v x) (shift (length v.structure) (value_of v y)) (value_at v (target_on side.Left x)) (value_at v (target_on side.Right y)) (sym (target_value v side.Left x)) (sym (target_value v side.Right y))
    where
      pair : (c d e f : Value) → c ≡ e → d ≡ f → (let q : Pair = record { left = c; right = d } in q) ∷ [] ≡ record { left = e; right = f } ∷ []
      pair c d e f g h = cc

  run_begun : IsRun v.structure l (value_of v y) (value_of v x) (state_of v z [])
  run_begun =
      let start = run_starts v.structure l (value_of v y) (value_of v x) s.structure (left_within v.structure l (value_of v y) p (Node l) (value_of v x) (0, inl refl) there) in
      let nothing : (λ (k : ℕ). (let none : Arcs = [] in none)) ≡ added_of v z = λ i k. sym (none_added k) i in
      subst (λ f. IsRun v.structure l (value_of v y) (value_of v x) (record { log = []; added = f; pending = pairs_at v z.pairs })) nothing
      (subst (λ ps. IsRun v.structure l (value_of v y) (value_of v x) (record { log = []; added = λ k. []; pending = ps })) first_is start)

  pub running_starts : IsRunning v (with_first w (target_on side.Left x) (target_on side.Right y)) l (value_of v y) (value_of v x) (both_lists (length v.structure) room.left.list room.right.list)
  running_starts =
      let ls = room.left.list in
      let rs = room.right.list in
      let D = sides v.structure in
      let all = both_lists (length v.structure) ls rs in
      let arcs = all_arcs v.structure s.structure l (value_of v y) hl ls rs room.left.is room.right.is in
      let size = length-append ls (map (λ k. length v.structure + k) rs) in
      let mapped = length-map rs (λ k. length v.structure + k) in
      let places = length-replicate (length w.places) unmarked in
      let st = state_of v z [] in
      let most = start_room D [] all in
      let none : State = record { log = []; added = λ k. []; pending = [] } in
      let weights = total_ext (weight D st) (weight D none) all (λ k. ap (λ es. degree (own D k ++ es)) (none_added k)) in
      record {
        held = begun_held;
        pairs_held = (target_held v side.Left x hx, target_held v side.Right y hy, tt);
        log = [];
        has_log = record { is_log = tt; table = no_forward };
        run = run_begun;
        pair_room = omega (arith, most, weights, arcs, room.left.arcs_are, room.right.arcs_are, room.room.for_pairs);
        arc_room = omega (arith, arcs, room.left.arcs_are, room.right.arcs_are, room.room.for_arcs);
        rooms = record {
          for_places = omega (arith, places, room.room.for_places);
          for_visits = omega (arith, size, mapped, room.left.nodes_are, room.right.nodes_are, room.room.for_visits);
          for_order = omega (arith, size, mapped, room.left.nodes_are, room.right.nodes_are, room.room.for_order);
          for_arcs = omega (arith, arcs, room.left.arcs_are, room.right.arcs_are, room.room.for_arcs);
          for_pairs = omega (arith, arcs, room.left.arcs_are, room.right.arcs_are, room.room.for_pairs);
        };
        unseen = λ j. ap (λ (m : PlaceMarks). m.visit) (begun_marks w j);
        uncopied = λ j. ap (λ (m : PlaceMarks). m.copied) (begun_marks w j);
        empty = refl;
        no_order = refl;
      }

-- where the walk begins
abbrev pub walkable : (v : Shown) → IsShown v → (w : Contents) (l : ℕ) (r target : Value) (ks : List ℕ) → Covers v l r ks → IsRunning v w l r target ks → w.pairs ≡ [] → IsWalkable v w l
walkable v s w l r target ks c i none = record {
  held = i.held;
  log = i.log;
  has_log = i.has_log;
  short = omega (arith, i.pair_room);
  unseen = λ k. i.unseen (slot_of (length v.structure) k);
  empty = i.empty;
  no_pairs = none;
  no_order = i.no_order;
  ks = ks;
  room = i.rooms.for_visits;
  order_room = i.rooms.for_order;
  pair_room = omega (arith, c.few, i.rooms.for_pairs);
  reached = λ root n k e h. c.all k (reached_side v.structure l r (state_of v w i.log) i.run.within root (root_side v.structure l r (state_of v w i.log) i.run.within root e) n k h);
}

-- where it is led back, nothing takes both sides
pub circle_refutes : (v : Shown) (s : IsShown v) (w : Contents) (l : ℕ) (r target : Value) (ks : List ℕ) (c : Covers v l r ks) (i : IsRunning v w l r target ks) (none : w.pairs ≡ []) → l < length v.structure → IsValue v.structure target
    → (p : List ℕ) → at v.structure (Node l) p ≡ Some target → IsLedBack v w l (walkable v s w l r target ks c i none) → (G : Structure) (g : Value) → TakesBoth v.structure (Node l) p v.structure r G g → ⊥
circle_refutes v s w l r target ks c i none hl ht p there b =
    cycle_ends v.structure l p r target (state_of v w i.log) s.structure hl ht there i.run b.0 b.1 b.2 b.3 b.4 b.5 b.6 b.7 b.8

-- the first pair is pushed
pub first_pushed : (w u t : Contents) (a b c d : Target) → u ≡ begun w → a ≡ c → b ≡ d → t ≡ record u { pairs = u.pairs ++ (a, b) ∷ [] } → t ≡ with_first w c d
first_pushed w u t a b c d e f g h = h ∙ (ap (λ (q : Contents). record q { pairs = q.pairs ++ (a, b) ∷ [] }) e ∙ (ap (λ o. with_first w o b) f ∙ ap (λ o. with_first w c o) g))

-- the ends that the left side reaches, with and without the log
module _ (v : Shown) (w t : Contents) (l : ℕ) (i : IsWalkable v w l) (off : IsWalkedOff v w t l i) where
  end_in : (n k root : ℕ) → ends i.log (Node l) ≡ Node root → ReachedIn (sides v.structure) (state_of v w i.log) root n k → IsEndIn v t l n k
  end_in zero k root e h = still_end v w t l i off.still (Node l) ∙ (e ∙ ap Node h)
  end_in (suc n) k root e h =
      let arc = h.2 in
      (h.0, arc.0, arc.1, end_in n h.0 root e h.1, subst (λ es. Has es arc.0 arc.1) (sym (still_both v w t off.still h.0)) arc.2, still_end v w t l i off.still arc.1 ∙ arc.3)

  end_from : (n k : ℕ) → IsEndIn v t l n k → (root : ℕ) × (ends i.log (Node l) ≡ Node root) × ReachedIn (sides v.structure) (state_of v w i.log) root n k
  end_from zero k h = (k, sym (still_end v w t l i off.still (Node l)) ∙ h, refl)
  end_from (suc n) k h =
      let r = end_from n h.0 h.3 in
      (r.0, r.1, (h.0, r.2, (h.1, h.2, subst (λ es. Has es h.1 h.2) (still_both v w t off.still h.0) h.4, sym (still_end v w t l i off.still h.2) ∙ h.5)))

  pub left_ends : (k : ℕ) → IsEndOfLeft v t l k → IsIn (stack_of v t.order) k
  left_ends k h = let r = end_from h.0 k h.1 in off.done r.0 h.0 k r.1 r.2

  pub ends_left : (k : ℕ) → IsIn (stack_of v t.order) k → IsEndOfLeft v t l k
  ends_left k m = let r = off.reached k m in (r.1, end_in r.1 k r.0 r.2 r.3)

  lead_behind : (ks : List ℕ) → IsOrder (sides v.structure) (state_of v w i.log) ks → LeadBehind v t ks
  lead_behind [] o = tt
  lead_behind (k ∷ ks) o =
      (o.1, (λ a x h. subst (Below ks) (sym (still_end v w t l i off.still x)) (o.2 a x (subst (λ es. Has es a x) (still_both v w t off.still k) h))), lead_behind ks o.3)

  -- the places that were left, in order
  pub ordered : IsOrdered v t l
  ordered = record { held = off.left_held; behind = lead_behind (stack_of v t.order) off.ordered; ends = ends_left; all = left_ends }

-- the room is still there
pub room_stays : (v : Shown) (s : IsShown v) (w u t : Contents) (l : ℕ) (r : Value) → l < length v.structure → (room : HasDecisionRoom v w l r)
    → HasRoom u (length v.structure) (length (both_lists (length v.structure) room.left.list room.right.list)) (total (λ k. length (own (sides v.structure) k)) (both_lists (length v.structure) room.left.list room.right.list))
    → IsStill u t → HasDecisionRoom v t l r
room_stays v s w u t l r hl room has still =
    let ls = room.left.list in
    let rs = room.right.list in
    let arcs = all_arcs v.structure s.structure l r hl ls rs room.left.is room.right.is in
    let size = length-append ls (map (λ k. length v.structure + k) rs) in
    let mapped = length-map rs (λ k. length v.structure + k) in
    record {
      left_nodes = room.left_nodes;
      left_arcs = room.left_arcs;
      left = room.left;
      right_nodes = room.right_nodes;
      right_arcs = room.right_arcs;
      right = room.right;
      room = record {
        for_places = omega (arith, has.for_places, still.places);
        for_visits = omega (arith, has.for_visits, still.visit_room, size, mapped, room.left.nodes_are, room.right.nodes_are);
        for_order = omega (arith, has.for_order, still.order_room, size, mapped, room.left.nodes_are, room.right.nodes_are);
        for_arcs = omega (arith, has.for_arcs, still.arc_room, arcs, room.left.arcs_are, room.right.arcs_are);
        for_pairs = omega (arith, has.for_pairs, still.pair_room, arcs, room.left.arcs_are, room.right.arcs_are);
      };
    }

-- the first pair is pushed: the decision has begun
pub record HasBegun (v : Shown) (t : Contents) (l : ℕ) (p : List ℕ) (target r : Value) : Type 0 where
  pub below : l < length v.structure
  pub value : IsValue v.structure target
  pub there : at v.structure (Node l) p ≡ Some target
  pub ks : List ℕ
  pub covers : Covers v l r ks
  pub running : IsRunning v t l r target ks
  pub stays : (u z : Contents) → HasRoom u (length v.structure) (length ks) (total (λ k. length (own (sides v.structure) k)) ks) → IsStill u z → HasDecisionRoom v z l r

pub decision_begins : (v : Shown) (s : IsShown v) (w : Contents) (l : ℕ) (hl : l < length v.structure) (p : List ℕ) (x y : its.Value) → ValueIsHeld v x → ValueIsHeld v y → at v.structure (Node l) p ≡ Some (value_of v x) → HasDecisionRoom v w l (value_of v y)
    → (t : Contents) → t ≡ with_first w (target_on side.Left x) (target_on side.Right y) → HasBegun v t l p (value_of v x) (value_of v y)
decision_begins v s w l hl p x y hx hy there room t e = record {
  below = hl;
  value = value_below v s x hx;
  there = there;
  ks = both_lists (length v.structure) room.left.list room.right.list;
  covers = all_covers v s l (value_of v y) hl room.left.list room.right.list room.left.is room.right.is;
  running = subst (λ q. IsRunning v q l (value_of v y) (value_of v x) (both_lists (length v.structure) room.left.list room.right.list)) (sym e) (running_starts v s w l hl p x y hx hy there room);
  stays = λ u z. room_stays v s w u z l (value_of v y) hl room;
}

marks_same : (f g : ℕ → Option Value) (a b : ℕ → Arcs) → ((k : ℕ) → f k ≡ g k) → ((k : ℕ) → a k ≡ b k) → (let m : Marks = record { forward = f; added = a } in m) ≡ record { forward = g; added = b }
marks_same f g a b e h = λ i. record { forward = λ k. e k i; added = λ k. h k i }

-- where the walk is done, the scratch is settled
module _ (v : Shown) (s : IsShown v) (w t : Contents) (l : ℕ) (r target : Value) (ks : List ℕ) (c : Covers v l r ks) (i : IsRunning v w l r target ks) (hl : l < length v.structure) (ht : IsValue v.structure target)
    (p : List ℕ) (there : at v.structure (Node l) p ≡ Some target) (none : w.pairs ≡ []) (off : IsWalkedOff v w t l (walkable v s w l r target ks c i none)) where
  abbrev state : State
  state = state_of v w i.log

  inside : (k : ℕ) → IsIn (stack_of v t.order) k → IsSide v.structure l r k
  inside k m = let q = off.reached k m in reached_side v.structure l r state i.run.within q.0 (root_side v.structure l r state i.run.within q.0 q.2) q.1 k q.3

  same : (let m : Marks = record { forward = lookup i.log; added = added_of v w } in m) ≡ marks_by v t
  same = marks_same (lookup i.log) (forward_of v t) (added_of v w) (added_of v t) (λ k. sym (i.has_log.table k) ∙ sym (still_forward v w t off.still k)) (λ k. sym (still_added v w t off.still k))

  marks_settled : (m : IsSettled v.structure l p r (marks_by v t)) × IsTidy v.structure l p r (marks_by v t) m
  marks_settled =
      let pending = ap (pairs_at v) none in
      subst (λ m. (n : IsSettled v.structure l p r m) × IsTidy v.structure l p r m n) same (
        settles v.structure l p r target state (stack_of v t.order) s.structure hl ht there i.run pending off.ordered off.below inside,
        tidies v.structure l p r target state (stack_of v t.order) s.structure hl ht there i.run pending off.ordered off.below inside,
      )

  pub settled_for : IsValue v.structure r → HasDecisionRoom v t l r → IsSettledFor v t l p r
  settled_for hr room = record {
    there = (target, there);
    right = hr;
    held = still_held v w t off.still i.held;
    marks = marks_settled.0;
    tidy = marks_settled.1;
    ending = still_ends v w t l (walkable v s w l r target ks c i none) off.still;
    uncopied = λ j. off.still.copied j ∙ i.uncopied j;
    no_pairs = off.no_pairs;
    no_visits = off.empty;
    room = room;
    left = λ k h. off.left k (left_ends v w t l (walkable v s w l r target ks c i none) off k h);
    reached = λ k h. ends_left v w t l (walkable v s w l r target ks c i none) off k (off.in_order k h);
    unseen = λ k h. off.unseen k (λ m. h (ends_left v w t l (walkable v s w l r target ks c i none) off k m));
    ordered = ordered v w t l (walkable v s w l r target ks c i none) off;
  }
