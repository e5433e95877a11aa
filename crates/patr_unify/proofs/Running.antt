-- Pairs are worked off one after the other.
use Rattle.std.proofs.Common.{◌≡◌, ◌≢◌, ℕ, suc, ◌+◌, ◌*◌, ◌<◌, ◌≤◌, inl, inr, Bool, true, false, cond, nat_eq, ◌||◌, Some, List, [], ◌∷◌, ◌++◌, length, length-append, refl, sym, ap, ◌∙◌, subst, arith, eq-eqb, ne_eqb}
use Rattle.patr_lists.proofs.Totals.{total_change, upto_once, upto_in, total_ext, total_mono, total_member}
use Rattle.patr_lists.specs.Numbers.{total, upto}
use Rattle.patr_model.specs.Structure.{Value, Atom, Node, Arcs, Structure, IsValue, at}
use Rattle.patr_model.specs.Subsumption.{TakesBoth}
use Rattle.patr_marks.specs.Machine.{Forward, Pair, State, Has, IsLog, Ends, ends, IsEnd, IsMerge, own, missing, matches, arcs_at, weight, left_over, is_forwarded, degree, lookup}
use Rattle.patr_marks.specs.Sides.{sides, IsSide}
use Rattle.patr_marks.specs.Run.{IsRun}
use Rattle.patr_marks.proofs.Lists.{ends_twice}
use Rattle.patr_marks.proofs.Forced.{popped_within}
use Rattle.patr_marks.proofs.Room.{merge_room, end_not_forwarded}
use Rattle.patr_marks.proofs.Bounds.{bind_room, skip_room}
use Rattle.patr_marks.proofs.Unifier.{run_merges, run_binds, run_skips, clash_ends}
use Rattle.patr_arena.specs.Shown.{Shown, IsShown}
use Rattle.patr_scratch.specs.declared.Target.{Target}
use Rattle.patr_scratch.specs.Contents.{Contents}
use Rattle.patr_unify.specs.Reading.{TargetIsHeld, added_of, pairs_at, PairsHeld, AreHeld, state_of}
use Rattle.patr_unify.specs.Merging.{both}
use Rattle.patr_unify.specs.Stepping.{HasLog, pair_of, before, MergesFit, Outcome, IsSteady, Covers, IsRunning, weight_of}
use Rattle.patr_unify.specs.Following.{is_some}
use Rattle.patr_unify.proofs.Merges.{pairs_append, pairs_length}

-- the scratch before a pair was popped
abbrev pub with_pair : Contents → Target → Target → Contents
with_pair w a b = record w { pairs = w.pairs ++ (a, b) ∷ [] }

pub was_pushed : (w t : Contents) (p : Target × Target) → t ≡ record w { pairs = t.pairs } → w.pairs ≡ t.pairs ++ p ∷ [] → w ≡ with_pair t p.0 p.1
was_pushed w t p h e = ap (λ ps. record w { pairs = ps }) e ∙ sym (ap (λ (q : Contents). record q { pairs = t.pairs ++ p ∷ [] }) h)

state_before : (v : Shown) (w : Contents) (log : List Forward) (a b : Target) → state_of v (with_pair w a b) log ≡ before v w log a b
state_before v w log a b = ap (λ ps. (let s : State = record { log = log; added = added_of v w; pending = ps } in s)) (pairs_append v w.pairs ((a, b) ∷ []))

-- the ends of a pair are ends
ends_end : (s : State) (p : Pair) (A : ℕ) (y : Value) → IsLog s.log → Ends s p (Node A) y → IsEnd s A
ends_end s p A y h (inl e) = subst (λ x. ends s.log x ≡ x) e.0 (ends_twice s.log h p.left)
ends_end s p A y h (inr e) = subst (λ x. ends s.log x ≡ x) e.1 (ends_twice s.log h p.right)

swap_ends : (s : State) (p : Pair) (x y : Value) → Ends s p x y → Ends s p y x
swap_ends s p x y (inl e) = inr (e.0, e.1)
swap_ends s p x y (inr e) = inl (e.0, e.1)

-- the state that a merge would lead to
would_add : Structure → State → ℕ → ℕ → ℕ → Arcs
would_add D s A B k = cond (nat_eq k A) [] (cond (nat_eq k B) (s.added A ++ (missing (own D A) (s.added A) (arcs_at D s B) ++ s.added B)) (s.added k))

would_merge : (D : Structure) (s : State) (A B : ℕ) (rest : List Pair) (p : Pair) → s.pending ≡ rest ++ (p ∷ []) → Ends s p (Node A) (Node B) → A ≢ B → IsEnd s A → IsEnd s B
    → IsMerge D s (record { log = record { from = A; to = Node B } ∷ s.log; added = would_add D s A B; pending = rest ++ matches (arcs_at D s A) (arcs_at D s B) }) A B rest p
unfolding would_add
would_merge D s A B rest p q e n eA eB =
    let all : Arcs = s.added A ++ (missing (own D A) (s.added A) (arcs_at D s B) ++ s.added B) in
    let at_B : would_add D s A B B ≡ all = ap (λ b. cond b [] (cond (nat_eq B B) all (s.added B))) (ne_eqb B A (λ z. n (sym z))) ∙ ap (λ b. cond b all (s.added B)) (eq-eqb B B refl) in
    record {
      popped = q;
      ends_are = e;
      apart = n;
      from_end = eA;
      to_end = eB;
      log = refl;
      pending = refl;
      emptied = ap (λ b. cond b [] (cond (nat_eq A B) all (s.added A))) (eq-eqb A A refl);
      others = λ k nA nB. ap (λ b. cond b [] (cond (nat_eq k B) all (s.added k))) (ne_eqb k A nA) ∙ ap (λ b. cond b all (s.added k)) (ne_eqb k B nB);
      only = λ a x h. subst (λ es. Has es a x) at_B h;
      each = λ a x h. subst (λ es. Has es a x) (sym at_B) h;
    }

-- there is room for the merge of the popped pair's ends
pub merges_fit : (v : Shown) (w : Contents) (a b : Target) (l : ℕ) (r target : Value) (ks : List ℕ) (i : IsRunning v (with_pair w a b) l r target ks) → Covers v l r ks → MergesFit v w i.log a b
merges_fit v w a b l r target ks i c A B e n =
    let D = sides v.structure in
    let s = before v w i.log a b in
    let p = pair_of v a b in
    let rest = pairs_at v w.pairs in
    let run : IsRun v.structure l r target s = subst (IsRun v.structure l r target) (state_before v w i.log a b) i.run in
    let eA = ends_end s p A (Node B) i.has_log.is_log e in
    let eB = ends_end s p B (Node A) i.has_log.is_log (swap_ends s p (Node A) (Node B) e) in
    let inside = popped_within (IsSide v.structure l r) s rest p (Node A) (Node B) run.within refl e in
    let inA = c.all A inside.0 in
    let inB = c.all B inside.1 in
    let g = would_merge D s A B rest p refl e n eA eB in
    let t : State = record { log = record { from = A; to = Node B } ∷ s.log; added = would_add D s A B; pending = rest ++ matches (arcs_at D s A) (arcs_at D s B) } in
    let falls = merge_room D s t A B rest p ks c.once inA inB run.marked g in
    let own_A : left_over D s A ≡ length (own D A) = ap (λ q. cond q 0 (length (own D A))) (end_not_forwarded i.log i.has_log.is_log A eA) in
    let ge = total_member (left_over D s) ks A inA in
    record {
      pairs = omega (arith, falls, i.pair_room, length-append rest (matches (arcs_at D s A) (arcs_at D s B)), length-append rest (p ∷ []), pairs_length v w.pairs, length-append w.pairs ((a, b) ∷ []));
      arcs = omega (arith, ge, own_A, i.arc_room);
    }

-- a step leads on
pub running_on : (v : Shown) (w t : Contents) (a b : Target) (l : ℕ) (r target : Value) (ks : List ℕ) (i : IsRunning v (with_pair w a b) l r target ks) → Covers v l r ks → IsSteady v w t → Outcome v w t i.log a b true → IsRunning v t l r target ks
running_on v w t a b l r target ks i c k o =
    let D = sides v.structure in
    let s = before v w i.log a b in
    let p = pair_of v a b in
    let rest = pairs_at v w.pairs in
    let new = o.0 in
    let u = state_of v t new in
    let run : IsRun v.structure l r target s = subst (IsRun v.structure l r target) (state_before v w i.log a b) i.run in
    let sized : (IsRun v.structure l r target u) × (total (weight D u) ks + length u.pending < total (weight D s) ks + length s.pending) × (total (left_over D u) ks + t.arcs ≤ total (left_over D s) ks + w.arcs) = elim o.3 [
      | inl m ↦ let g = m.5 in (run_merges v.structure l r target s u m.0 m.1 rest p run g, of_merge D s u m.0 m.1 rest p run g, arcs_fall D s u m.0 m.1 rest p run g m.2)
      | inr q ↦ elim q [
        | inl m ↦ (run_binds v.structure l r target s u m.0 m.1 rest p run m.3, bind_room D s u m.0 m.1 rest p ks m.3, more_log D s u m.0 (Atom m.1) m.3.log m.2)
        | inr m ↦ (run_skips v.structure l r target s u rest p run m.1, skip_room D s u rest p ks m.1, same_log D s u m.1.log m.0)
      ]
    ] in
    let size : length s.pending ≡ suc (length w.pairs) = length-append rest (p ∷ []) ∙ (ap (λ z. z + 1) (pairs_length v w.pairs) ∙ one (length w.pairs)) in
    record {
      held = k.held;
      pairs_held = k.pairs_held;
      log = new;
      has_log = o.1;
      run = sized.0;
      pair_room = omega (arith, sized.1, i.pair_room, o.2, size, pairs_length v t.pairs, length-append w.pairs ((a, b) ∷ []), k.kept.pair_room);
      arc_room = omega (arith, sized.2, i.arc_room, k.kept.arc_room);
      rooms = record {
        for_places = omega (arith, i.rooms.for_places, k.kept.places);
        for_visits = omega (arith, i.rooms.for_visits, k.kept.visit_room);
        for_order = omega (arith, i.rooms.for_order, k.kept.order_room);
        for_arcs = omega (arith, i.rooms.for_arcs, k.kept.arc_room);
        for_pairs = omega (arith, i.rooms.for_pairs, k.kept.pair_room);
      };
      unseen = λ j. k.kept.visit j ∙ i.unseen j;
      uncopied = λ j. k.kept.copied j ∙ i.uncopied j;
      empty = k.kept.visits ∙ i.empty;
      no_order = k.kept.order ∙ i.no_order;
    }
  where
    one : (n : ℕ) → n + 1 ≡ suc n
    one n = omega arith

    of_merge : (D : Structure) (s u : State) (A B : ℕ) (rest : List Pair) (p : Pair) → IsRun v.structure l r target s → IsMerge (sides v.structure) s u A B rest p → total (weight (sides v.structure) u) ks + length u.pending < total (weight (sides v.structure) s) ks + length s.pending
    of_merge D s u A B rest p run g =
        let inside = popped_within (IsSide v.structure l r) s rest p (Node A) (Node B) run.within g.popped g.ends_are in
        merge_room (sides v.structure) s u A B rest p ks c.once (c.all A inside.0) (c.all B inside.1) run.marked g

    arcs_fall : (D : Structure) (s u : State) (A B : ℕ) (rest : List Pair) (p : Pair) → IsRun v.structure l r target s → IsMerge (sides v.structure) s u A B rest p → t.arcs ≤ w.arcs + length (own (sides v.structure) A)
        → total (left_over (sides v.structure) u) ks + t.arcs ≤ total (left_over (sides v.structure) s) ks + w.arcs
    arcs_fall D s u A B rest p run g m =
        let E = sides v.structure in
        let inside = popped_within (IsSide v.structure l r) s rest p (Node A) (Node B) run.within g.popped g.ends_are in
        let fwd : (k : ℕ) → is_forwarded u.log k ≡ (nat_eq k A || is_forwarded s.log k) = λ k. ap (λ z. is_forwarded z k) g.log in
        let change = total_change (left_over E u) (left_over E s) ks A c.once (c.all A inside.0) (λ k nA.
        ap (λ q. cond q 0 (length (own E k))) (fwd k ∙ ap (λ q. q || is_forwarded s.log k) (ne_eqb k A nA))) in
        let now : left_over E u A ≡ 0 = ap (λ q. cond q 0 (length (own E A))) (fwd A ∙ ap (λ q. q || is_forwarded s.log A) (eq-eqb A A refl)) in
        let was : left_over E s A ≡ length (own E A) = ap (λ q. cond q 0 (length (own E A))) (end_not_forwarded s.log run.marked.is_log A g.from_end) in
        omega (arith, change, now, was, m)

    more_log : (D : Structure) (s u : State) (A : ℕ) (y : Value) → u.log ≡ record { from = A; to = y } ∷ s.log → t.arcs ≡ w.arcs → total (left_over (sides v.structure) u) ks + t.arcs ≤ total (left_over (sides v.structure) s) ks + w.arcs
    more_log D s u A y e q =
        let le = total_mono (left_over (sides v.structure) u) (left_over (sides v.structure) s) ks (λ k. subst (λ z. cond (is_forwarded z k) 0 (length (own (sides v.structure) k)) ≤ left_over (sides v.structure) s k) (sym e) (less (nat_eq k A) (is_forwarded s.log k) (length (own (sides v.structure) k)))) in
        omega (arith, le, q)
      where
        less : (b d : Bool) (n : ℕ) → cond (b || d) 0 n ≤ cond d 0 n
        less true true n = omega arith
        less true false n = omega arith
        less false true n = omega arith
        less false false n = omega arith

    same_log : (D : Structure) (s u : State) → u.log ≡ s.log → t.arcs ≡ w.arcs → total (left_over (sides v.structure) u) ks + t.arcs ≤ total (left_over (sides v.structure) s) ks + w.arcs
    same_log D s u e q =
        let le = total_mono (left_over (sides v.structure) u) (left_over (sides v.structure) s) ks (λ k. subst (λ z. cond (is_forwarded z k) 0 (length (own (sides v.structure) k)) ≤ left_over (sides v.structure) s k) (sym e) (self (left_over (sides v.structure) s k))) in
        omega (arith, le, q)
      where
        self : (n : ℕ) → n ≤ n
        self n = omega arith

-- a clash: nothing takes both sides
pub clash_refutes : (v : Shown) (w t : Contents) (a b : Target) (l : ℕ) (r target : Value) (ks : List ℕ) (i : IsRunning v (with_pair w a b) l r target ks) → IsShown v → Outcome v w t i.log a b false
    → (p : List ℕ) → l < length v.structure → IsValue v.structure target → at v.structure (Node l) p ≡ Some target → (G : Structure) (g : Value) → TakesBoth v.structure (Node l) p v.structure r G g → ⊥
clash_refutes v w t a b l r target ks i s o p hl ht e =
    clash_ends v.structure l p r target (before v w i.log a b) (pairs_at v w.pairs) (pair_of v a b) s.structure hl ht e (subst (IsRun v.structure l r target) (state_before v w i.log a b) i.run) o

-- the measure
forwarded_is : (log : List Forward) (k : ℕ) → is_forwarded log k ≡ is_some (lookup log k)
forwarded_is [] k = refl
forwarded_is (e ∷ log) k = go (nat_eq k e.from) (forwarded_is log k)
  where
    go : (b : Bool) → is_forwarded log k ≡ is_some (lookup log k) → (b || is_forwarded log k) ≡ is_some (cond b (Some e.to) (lookup log k))
    go true ih = refl
    go false ih = ih

weight_is : (v : Shown) (w : Contents) (log : List Forward) → HasLog v w log → (k : ℕ) → weight (sides v.structure) (state_of v w log) k ≡ weight_of v w k
weight_is v w log h k = ap (λ b. cond b 0 (degree (both v w k))) (forwarded_is log k ∙ ap is_some (sym (h.table k)))

pub falls_on : (v : Shown) (w t : Contents) (a b : Target) (l : ℕ) (r target : Value) (ks : List ℕ) (i : IsRunning v (with_pair w a b) l r target ks) → Outcome v w t i.log a b true
    → total (weight_of v t) (upto (2 * length v.structure)) + length t.pairs < total (weight_of v (with_pair w a b)) (upto (2 * length v.structure)) + length (with_pair w a b).pairs
falls_on v w t a b l r target ks i o =
    let D = sides v.structure in
    let s = before v w i.log a b in
    let p = pair_of v a b in
    let rest = pairs_at v w.pairs in
    let u = state_of v t o.0 in
    let all = upto (2 * length v.structure) in
    let run : IsRun v.structure l r target s = subst (IsRun v.structure l r target) (state_before v w i.log a b) i.run in
    let fall : total (weight D u) all + length u.pending < total (weight D s) all + length s.pending = elim o.3 [
      | inl m ↦ merge_room D s u m.0 m.1 rest p all (upto_once (2 * length v.structure)) (upto_in (2 * length v.structure) m.0 m.3) (upto_in (2 * length v.structure) m.1 m.4) run.marked m.5
      | inr q ↦ elim q [ inl m ↦ bind_room D s u m.0 m.1 rest p all m.3 | inr m ↦ skip_room D s u rest p all m.1 ]
    ] in
    let now : total (weight D u) all ≡ total (weight_of v t) all = total_ext (weight D u) (weight_of v t) all (weight_is v t o.0 o.1) in
    let was : total (weight D s) all ≡ total (weight_of v (with_pair w a b)) all = total_ext (weight D s) (weight_of v (with_pair w a b)) all (weight_is v (with_pair w a b) i.log i.has_log) in
    omega (arith, fall, now, was, length-append rest (p ∷ []), pairs_length v w.pairs, pairs_length v t.pairs, length-append w.pairs ((a, b) ∷ []))

-- what the popped pair has to be
pub pair_held : (v : Shown) (ps : List (Target × Target)) (p : Target × Target) → PairsHeld v (ps ++ p ∷ []) → PairsHeld v ps × TargetIsHeld v p.0 × TargetIsHeld v p.1
pair_held v [] p h = (tt, h.0, h.1)
pair_held v (q ∷ ps) p h = let r = pair_held v ps p h.2 in ((h.0, h.1, r.0), r.1, r.2)

pub log_there : (v : Shown) (w : Contents) (a b : Target) (l : ℕ) (r target : Value) (ks : List ℕ) → Covers v l r ks → IsRunning v (with_pair w a b) l r target ks
    → (log : List Forward) × HasLog v w log × (length log ≤ w.pair_room) × MergesFit v w log a b
log_there v w a b l r target ks c i = (i.log, record { is_log = i.has_log.is_log; table = i.has_log.table }, omega (arith, i.pair_room), merges_fit v w a b l r target ks i c)

pub still_held : (v : Shown) (w : Contents) (a b : Target) (l : ℕ) (r target : Value) (ks : List ℕ) → IsRunning v (with_pair w a b) l r target ks → AreHeld v w
still_held v w a b l r target ks i = record { room = i.held.room; forwards = i.held.forwards; added = i.held.added }

pub same_log : (v : Shown) (w : Contents) (a b : Target) (log : List Forward) → HasLog v (with_pair w a b) log → HasLog v w log
same_log v w a b log h = record { is_log = h.is_log; table = h.table }
