-- The steps of a walk over a value.
use Rattle.std.proofs.Common.{◌≡◌, ℕ, suc, ◌+◌, ◌<◌, ◌≤◌, Bool, true, false, cond, nat_eq, eqb-true, ne_eqb, List, [], ◌∷◌, ◌++◌, append-nil, length, length-append, reverse, Option, Some, None, option_and_then, is_some, refl, sym, ap, ◌∙◌, subst, arith}
use Rattle.patr_canon.proofs.Names.{All, AllByRecursion, ArcIsHeld, Arcs, AreBelow, AreSpelled, Atom, Closes, Event, EventIsSpelled, EventsAreSpelled, Id, IsDone, IsEntering, IsHeld, IsShown, IsStructure, IsWalking, Look, Node, OfAgain, OfArc, OfAtom, Opens, Shown, Structure, Task, TaskIsReady, append_assoc, arc_tasks, arcs_of, arcs_seen, at, event_seen, events, events_of, events_seen, full, in_order, left_of, length-map, list_any, look_of, map-append, number_of, place_in, recursion_from_All, reverse-append, tree_of, value_of, walk_arcs, walk_node}
use Rattle.std.specs.HashSet.{HashSet, IsEmpty, contains}
use Rattle.patr_lists.proofs.Alls.{all_append}
use Rattle.patr_model.specs.Structure as structure
use Rattle.patr_model.proofs.Shared.{all_along}
use Rattle.patr_model.proofs.Sorted.{order_all}
use Rattle.patr_model.proofs.Stack.{full_node}
use Rattle.patr_arena.specs.declared.value.Value.{Value}
use Rattle.patr_arena.specs.declared.value.Value.TheVariants as value
use Rattle.patr_arena.specs.declared.value.Addr.{Addr}
use Rattle.patr_arena.proofs.Showing.{held_below}
use Rattle.patr_canon.specs.declared.event.Event as its
use Rattle.patr_canon.specs.declared.event.Event.TheVariants as event
use Rattle.patr_canon.specs.declared.order.Arc as arc
use Rattle.patr_canon.specs.declared.order.Look as code
use Rattle.patr_canon.specs.declared.walk.Task.TheVariants as task
use Rattle.patr_canon.proofs.Orders.{place_added, place_had}

-- ---- arcs as tasks

later_task : (arcs : List arc.Arc) (a : arc.Arc) (rest : List Task) → arc_tasks false (arcs ++ a ∷ []) ++ rest ≡ arc_tasks false arcs ++ task.Arc false a.attribute a.to ∷ rest
later_task [] a rest = refl
later_task (b ∷ arcs) a rest = ap (λ (ts : List Task). task.Arc false b.attribute b.to ∷ ts) (later_task arcs a rest)

pub last_task : (arcs : List arc.Arc) (a : arc.Arc) (rest : List Task) → arc_tasks true (arcs ++ a ∷ []) ++ rest ≡ arc_tasks true arcs ++ task.Arc (nat_eq (length arcs) 0) a.attribute a.to ∷ rest
last_task [] a rest = refl
last_task (b ∷ arcs) a rest =
    ap (λ (ts : List Task). task.Arc true b.attribute b.to ∷ ts) (later_task arcs a rest ∙ ap (λ x. arc_tasks false arcs ++ task.Arc x a.attribute a.to ∷ rest) (sym (ne_eqb (suc (length arcs)) 0 (λ e. omega (arith, e)))))

-- one arc more, off the end of the arcs
pub tasks_more : (arcs rest : List arc.Arc) (ts us : List Task) (a : arc.Arc) (first : Bool) → arcs ≡ rest ++ a ∷ [] → first ≡ nat_eq (length rest) 0 → us ≡ ts ++ task.Arc first a.attribute a.to ∷ []
    → arc_tasks true rest ++ reverse us ≡ arc_tasks true arcs ++ reverse ts
tasks_more arcs rest ts us a first e f t =
    ap (λ (xs : List Task). arc_tasks true rest ++ reverse xs) t
    ∙ (ap (λ (xs : List Task). arc_tasks true rest ++ xs) (reverse-append ts (task.Arc first a.attribute a.to ∷ []))
    ∙ (ap (λ x. arc_tasks true rest ++ task.Arc x a.attribute a.to ∷ reverse ts) f
    ∙ (sym (last_task rest a (reverse ts)) ∙ ap (λ (xs : List arc.Arc). arc_tasks true xs ++ reverse ts) (sym e))))

-- ---- symbols with texts

pub spelled_along : (n : ℕ) (S : Structure) (x : structure.Value) (a : ℕ) (y : structure.Value) → AreSpelled n S x → structure.arc S x a ≡ Some y → AreSpelled n S y
spelled_along n S x a y h e = record {
  atoms = λ p c q. h.atoms (a ∷ p) c (ap (λ o. option_and_then (λ z. at S z p) o) e ∙ q);
  attributes = λ p z b w q r. h.attributes (a ∷ p) z b w (ap (λ o. option_and_then (λ u. at S u p) o) e ∙ q) r;
}

-- a node's arcs have texts, and so do the values that they lead to
spelled_arcs : (n : ℕ) (S : Structure) (m : ℕ) → IsStructure S → AreSpelled n S (Node m) → AllByRecursion (λ e. (e.attribute < n) × AreSpelled n S e.to) (arcs_of S (Node m))
spelled_arcs n S m s h = all_along (λ a x. (a < n) × AreSpelled n S x) (arcs_of S (Node m)) (s.distinct m) (λ a x q. (h.attributes [] (Node m) a x refl q, spelled_along n S (Node m) a x h q))

pub attributes_below : (n : ℕ) (S : Structure) (m : ℕ) → IsStructure S → AreSpelled n S (Node m) → AreBelow n (arcs_of S (Node m))
attributes_below n S m s h = all_along (λ a x. a < n) (arcs_of S (Node m)) (s.distinct m) (λ a x q. h.attributes [] (Node m) a x refl q)

-- ---- lists

one_seen : (es : List its.Event) (e : its.Event) → events_seen (es ++ e ∷ []) ≡ events_seen es ++ event_seen e ∷ []
one_seen es e = map-append event_seen es (e ∷ [])

spelled_more : (n : ℕ) (es : List its.Event) (e : its.Event) → EventsAreSpelled n (events_seen es) → EventIsSpelled n (event_seen e) → EventsAreSpelled n (events_seen (es ++ e ∷ []))
spelled_more n es e h k = subst (EventsAreSpelled n) (sym (one_seen es e)) (all_append (EventIsSpelled n) (events_seen es) (event_seen e ∷ []) h (k, tt))

last_first : (ts : List Task) (t : Task) → reverse (ts ++ t ∷ []) ≡ t ∷ reverse ts
last_first ts t = reverse-append ts (t ∷ [])

-- one more node that is done
pub done_more : {S : Type 0} (d e : HashSet ℕ S) (ns : List ℕ) (m : ℕ) → IsDone d ns → ((q : ℕ) → contains nat_eq e q ≡ cond (nat_eq m q) true (contains nat_eq d q)) → IsDone e (ns ++ m ∷ [])
done_more d e ns m h updates = λ q. updates q ∙ (ap (cond (nat_eq m q) true) (h q) ∙ sym (go q (place_in ns m) refl))
  where
    go : (q : ℕ) (o : Option ℕ) → place_in ns m ≡ o → is_some (place_in (ns ++ m ∷ []) q) ≡ cond (nat_eq m q) true (is_some (place_in ns q))
    go q (Some j) p = ap is_some (place_had ns m j p q) ∙ test (nat_eq m q) refl
      where
        test : (t : Bool) → nat_eq m q ≡ t → is_some (place_in ns q) ≡ cond t true (is_some (place_in ns q))
        test true e = ap (λ k. is_some (place_in ns k)) (sym (eqb-true m q e)) ∙ ap is_some p
        test false e = refl
    go q None p = ap is_some (place_added ns m p q) ∙ test (nat_eq m q)
      where
        test : (t : Bool) → is_some (cond t (Some (length ns)) (place_in ns q)) ≡ cond t true (is_some (place_in ns q))
        test true = refl
        test false = refl

pub with_close : (arcs : List arc.Arc) (m : ℕ) (ts mid us : List Task) → mid ≡ ts ++ task.Close m ∷ [] → reverse us ≡ arc_tasks true arcs ++ reverse mid → reverse us ≡ arc_tasks true arcs ++ task.Close m ∷ reverse ts
with_close arcs m ts mid us e t = t ∙ (ap (λ (xs : List Task). arc_tasks true arcs ++ reverse xs) e ∙ ap (λ (xs : List Task). arc_tasks true arcs ++ xs) (last_first ts (task.Close m)))

pub one_longer : {A : Type 0} (xs ys : List A) (x : A) → ys ≡ xs ++ x ∷ [] → length xs + 1 ≤ length ys
one_longer xs ys x e = let same = ap length e in let both = length-append xs (x ∷ []) in omega (arith, same, both)

pub no_shorter : {A : Type 0} (xs ys : List A) (x : A) → ys ≡ xs ++ x ∷ [] → length xs ≤ length ys
no_shorter xs ys x e = let more = one_longer xs ys x e in omega (arith, more)

pub set_none : {S : Type 0} (d : HashSet ℕ S) → IsEmpty d → (q : ℕ) → contains nat_eq d q ≡ false
set_none d e q = ap (list_any (nat_eq q)) e

-- ---- the steps

module _ (v : Shown) (s : IsShown v) (look : code.Look) where
  abbrev n : ℕ
  n = length look.symbols.now

  abbrev l : Look
  l = look_of look

  -- what a node's tasks will meet
  arcs_left : (first : Bool) (arcs : List arc.Arc) (m : ℕ) (ts : List Task) (done : List ℕ)
      → left_of v l (arc_tasks first arcs ++ task.Close m ∷ ts) done
      ≡ events_of first (walk_arcs (full l v.structure) (arcs_seen v arcs) done).branches ++ left_of v l ts ((walk_arcs (full l v.structure) (arcs_seen v arcs) done).done ++ m ∷ [])
  arcs_left first [] m ts done = refl
  arcs_left first (a ∷ arcs) m ts done =
      let w = full l v.structure (value_of v a.to) done in
      let r = walk_arcs (full l v.structure) (arcs_seen v arcs) w.done in
      ap (λ es. OfArc first a.attribute.0 ∷ (events w.tree ++ es)) (arcs_left false arcs m ts w.done)
      ∙ ap (λ es. OfArc first a.attribute.0 ∷ es) (sym (append_assoc (events w.tree) (events_of false r.branches) (left_of v l ts (r.done ++ m ∷ []))))

  arcs_ready : (first : Bool) (arcs : List arc.Arc) → AllByRecursion (λ e. (e.attribute < n) × AreSpelled n v.structure e.to) (arcs_seen v arcs) → AllByRecursion (ArcIsHeld v) arcs → AllByRecursion (TaskIsReady v n) (arc_tasks first arcs)
  arcs_ready first [] h k = tt
  arcs_ready first (a ∷ arcs) h k = ((h.0.0, k.0, h.0.1), arcs_ready false arcs h.1 k.1)

  module _ {S : Type 0} (total : List Event) where
    -- an atom
    pub enter_atom : (d : HashSet ℕ S) (c : Id) (es new : List its.Event) (ts : List Task) → AreSpelled n v.structure (Atom c.0) → new ≡ es ++ event.Atom c ∷ []
        → IsEntering v look (value.Atom c) total d es ts → IsWalking v look total d new ts
    enter_atom d c es new ts h e w = record {
      nodes = w.nodes;
      done_are = w.done_are;
      all = ap (λ us. events_seen us ++ left_of v l (reverse ts) w.nodes) e ∙ (ap (λ us. us ++ left_of v l (reverse ts) w.nodes) (one_seen es (event.Atom c)) ∙ (append_assoc (events_seen es) (OfAtom c.0 ∷ []) (left_of v l (reverse ts) w.nodes) ∙ w.all));
      ready = w.ready;
      spelled = subst (λ us. EventsAreSpelled n (events_seen us)) (sym e) (spelled_more n es (event.Atom c) w.spelled (h.atoms [] c.0 refl));
    }

    -- a node that is done
    pub enter_again : (d : HashSet ℕ S) (a : Addr) (m : ℕ) (es new : List its.Event) (ts : List Task) → IsHeld v a.block a.offset → m ≡ number_of v a.block a.offset → contains nat_eq d m ≡ true → new ≡ es ++ event.Again m ∷ []
        → IsEntering v look (value.Node a) total d es ts → IsWalking v look total d new ts
    enter_again d a m es new ts held is there e w =
        let k = number_of v a.block a.offset in
        let there' : is_some (place_in w.nodes k) ≡ true = ap (λ i. is_some (place_in w.nodes i)) (sym is) ∙ (sym (w.done_are m) ∙ there) in
        let walked = full_node l v.structure s.structure k w.nodes (held_below v s a.block a.offset held)
        ∙ ap (λ b. walk_node (walk_arcs (full l v.structure) (in_order l (arcs_of v.structure (Node k)))) k b w.nodes) there' in
        record {
          nodes = w.nodes;
          done_are = w.done_are;
          all = ap (λ us. events_seen us ++ left_of v l (reverse ts) w.nodes) e ∙ (ap (λ us. us ++ left_of v l (reverse ts) w.nodes) (one_seen es (event.Again m)) ∙ (append_assoc (events_seen es) (OfAgain m ∷ []) (left_of v l (reverse ts) w.nodes)
              ∙ (ap (λ i. events_seen es ++ OfAgain i ∷ left_of v l (reverse ts) w.nodes) is ∙ (sym (ap (λ u. events_seen es ++ (events u.tree ++ left_of v l (reverse ts) u.done)) walked) ∙ w.all))));
          ready = w.ready;
          spelled = subst (λ us. EventsAreSpelled n (events_seen us)) (sym e) (spelled_more n es (event.Again m) w.spelled tt);
        }

    -- a new node
    pub enter_new : (d : HashSet ℕ S) (a : Addr) (m : ℕ) (arcs : List arc.Arc) (es new : List its.Event) (ts us : List Task) → IsHeld v a.block a.offset → m ≡ number_of v a.block a.offset → contains nat_eq d m ≡ false
        → AreSpelled n v.structure (Node (number_of v a.block a.offset)) → arcs_seen v arcs ≡ in_order l (arcs_of v.structure (Node (number_of v a.block a.offset))) → All (ArcIsHeld v) arcs
        → new ≡ es ++ event.Open m ∷ [] → reverse us ≡ arc_tasks true arcs ++ task.Close m ∷ reverse ts
        → IsEntering v look (value.Node a) total d es ts → IsWalking v look total d new us
    enter_new d a m arcs es new ts us held is none spell order arcs_held e t w =
        let k = number_of v a.block a.offset in
        let none' : is_some (place_in w.nodes k) ≡ false = ap (λ i. is_some (place_in w.nodes i)) (sym is) ∙ (sym (w.done_are m) ∙ none) in
        let walked = full_node l v.structure s.structure k w.nodes (held_below v s a.block a.offset held)
        ∙ ap (λ b. walk_node (walk_arcs (full l v.structure) (in_order l (arcs_of v.structure (Node k)))) k b w.nodes) none' in
        let r = walk_arcs (full l v.structure) (arcs_seen v arcs) w.nodes in
        let left : left_of v l (reverse us) w.nodes ≡ events_of true r.branches ++ left_of v l (reverse ts) (r.done ++ m ∷ []) = ap (λ xs. left_of v l xs w.nodes) t ∙ arcs_left true arcs m (reverse ts) w.nodes in
        record {
          nodes = w.nodes;
          done_are = w.done_are;
          all = ap (λ xs. events_seen xs ++ left_of v l (reverse us) w.nodes) e ∙ (ap (λ xs. xs ++ left_of v l (reverse us) w.nodes) (one_seen es (event.Open m)) ∙ (append_assoc (events_seen es) (Opens m ∷ []) (left_of v l (reverse us) w.nodes)
              ∙ (ap (λ xs. events_seen es ++ Opens m ∷ xs) left
              ∙ (ap (λ i. events_seen es ++ Opens i ∷ (events_of true r.branches ++ left_of v l (reverse ts) (r.done ++ i ∷ []))) is
              ∙ (ap (λ (xs : Arcs). events_seen es ++ Opens k ∷ (events_of true (walk_arcs (full l v.structure) xs w.nodes).branches ++ left_of v l (reverse ts) ((walk_arcs (full l v.structure) xs w.nodes).done ++ k ∷ []))) order
              ∙ (sym (ap (λ u. events_seen es ++ (events u.tree ++ left_of v l (reverse ts) u.done)) walked) ∙ w.all))))));
          ready = subst (AllByRecursion (TaskIsReady v n)) (sym t) (all_append (TaskIsReady v n) (arc_tasks true arcs) (task.Close m ∷ reverse ts)
              (arcs_ready true arcs (subst (AllByRecursion (λ e. (e.attribute < n) × AreSpelled n v.structure e.to)) (sym order)
              (order_all l (λ e. (e.attribute < n) × AreSpelled n v.structure e.to) (arcs_of v.structure (Node k)) (spelled_arcs n v.structure k s.structure spell))) (recursion_from_All (ArcIsHeld v) arcs arcs_held))
              (tt, w.ready));
          spelled = subst (λ xs. EventsAreSpelled n (events_seen xs)) (sym e) (spelled_more n es (event.Open m) w.spelled tt);
        }

    -- the end of a node
    pub step_close : (d f : HashSet ℕ S) (m : ℕ) (es new : List its.Event) (ts : List Task) → ((q : ℕ) → contains nat_eq f q ≡ cond (nat_eq m q) true (contains nat_eq d q)) → new ≡ es ++ event.Close ∷ []
        → IsWalking v look total d es (ts ++ task.Close m ∷ []) → IsWalking v look total f new ts
    step_close d f m es new ts updates e w =
        let left = ap (λ xs. left_of v l xs w.nodes) (last_first ts (task.Close m)) in
        record {
          nodes = w.nodes ++ m ∷ [];
          done_are = done_more d f w.nodes m w.done_are updates;
          all = ap (λ us. events_seen us ++ left_of v l (reverse ts) (w.nodes ++ m ∷ [])) e ∙ (ap (λ us. us ++ left_of v l (reverse ts) (w.nodes ++ m ∷ [])) (one_seen es event.Close)
              ∙ (append_assoc (events_seen es) (Closes ∷ []) (left_of v l (reverse ts) (w.nodes ++ m ∷ [])) ∙ (sym (ap (λ xs. events_seen es ++ xs) left) ∙ w.all)));
          ready = (subst (AllByRecursion (TaskIsReady v n)) (last_first ts (task.Close m)) w.ready).1;
          spelled = subst (λ us. EventsAreSpelled n (events_seen us)) (sym e) (spelled_more n es event.Close w.spelled tt);
        }

    -- an arc, whose value comes next
    pub step_arc : (d : HashSet ℕ S) (first : Bool) (a : Id) (to : Value) (es new : List its.Event) (ts : List Task) → new ≡ es ++ event.Arc first a ∷ []
        → IsWalking v look total d es (ts ++ task.Arc first a to ∷ []) → IsEntering v look to total d new ts
    step_arc d first a to es new ts e w =
        let u = full l v.structure (value_of v to) w.nodes in
        let behind = events u.tree ++ left_of v l (reverse ts) u.done in
        let left = ap (λ xs. left_of v l xs w.nodes) (last_first ts (task.Arc first a to)) in
        let ready = subst (AllByRecursion (TaskIsReady v n)) (last_first ts (task.Arc first a to)) w.ready in
        record {
          nodes = w.nodes;
          done_are = w.done_are;
          all = ap (λ us. events_seen us ++ behind) e ∙ (ap (λ us. us ++ behind) (one_seen es (event.Arc first a)) ∙ (append_assoc (events_seen es) (OfArc first a.0 ∷ []) behind ∙ (sym (ap (λ xs. events_seen es ++ xs) left) ∙ w.all)));
          ready = ready.1;
          spelled = subst (λ us. EventsAreSpelled n (events_seen us)) (sym e) (spelled_more n es (event.Arc first a) w.spelled ready.0.0);
        }

    pub next_ready : (d : HashSet ℕ S) (t : Task) (es : List its.Event) (ts : List Task) → IsWalking v look total d es (ts ++ t ∷ []) → TaskIsReady v n t
    next_ready d t es ts w = (subst (AllByRecursion (TaskIsReady v n)) (last_first ts t) w.ready).0

    -- nothing is left
    pub walked_all : (d : HashSet ℕ S) (es : List its.Event) (ts : List Task) → ts ≡ [] → IsWalking v look total d es ts → events_seen es ≡ total
    walked_all d es ts none w = sym (append-nil (events_seen es)) ∙ (sym (ap (λ (xs : List Task). events_seen es ++ left_of v l (reverse xs) w.nodes) none) ∙ w.all)

    -- there are no more events than in all
    pub walked_part : (d : HashSet ℕ S) (es : List its.Event) (ts : List Task) → IsWalking v look total d es ts → length es ≤ length total
    walked_part d es ts w =
        let all = ap length w.all in
        let both = length-append (events_seen es) (left_of v l (reverse ts) w.nodes) in
        let seen : length (events_seen es) ≡ length es = length-map es event_seen in
        omega (arith, all, both, seen)

  -- nothing is done yet
  pub enter_first : {S : Type 0} (d : HashSet ℕ S) (x : Value) (es : List its.Event) (ts : List Task) → ((q : ℕ) → contains nat_eq d q ≡ false) → es ≡ [] → ts ≡ []
      → IsEntering v look x (events (tree_of l v.structure (value_of v x))) d es ts
  enter_first d x es ts none e t = record {
    nodes = [];
    done_are = none;
    all = ap (λ us. events_seen us ++ (events (tree_of l v.structure (value_of v x)) ++ left_of v l (reverse ts) (full l v.structure (value_of v x) []).done)) e
        ∙ (ap (λ (us : List Task). events (tree_of l v.structure (value_of v x)) ++ left_of v l (reverse us) (full l v.structure (value_of v x) []).done) t ∙ append-nil (events (tree_of l v.structure (value_of v x))));
    ready = subst (λ (us : List Task). AllByRecursion (TaskIsReady v n) (reverse us)) (sym t) tt;
    spelled = subst (λ us. EventsAreSpelled n (events_seen us)) (sym e) tt;
  }
