-- How far the arcs of the places on the stack were looked over.
use Rattle.std.proofs.Common.{◌≡◌, ◌⊎◌, ℕ, suc, inl, inr, Some, List, [], ◌∷◌, ◌++◌, length, map, reverse, drop, refl, sym, ap, ◌∙◌, subst}
use Rattle.std.proofs.lemmas.Bool.{cases_eq}
use Rattle.std.proofs.lemmas.List.{reverse-append, length-map, length-reverse}
use Rattle.patr_model.specs.Structure.{Value, Atom, Node}
use Rattle.patr_marks.specs.Machine.{Has, own}
use Rattle.patr_marks.specs.Sides.{sides}
use Rattle.patr_arena.specs.Shown.{Shown}
use Rattle.patr_scratch.specs.declared.Place.{Place}
use Rattle.patr_scratch.specs.declared.Target.{Target}
use Rattle.patr_scratch.specs.declared.Visit.{Visit}
use Rattle.patr_scratch.specs.declared.Visit.TheVariants as visit
use Rattle.patr_scratch.specs.Contents.{Contents, HasCell, Link, after}
use Rattle.patr_unify.specs.declared.cursor.Cursor.{Cursor}
use Rattle.patr_unify.specs.declared.cursor.Cursor.TheVariants as cursor
use Rattle.patr_unify.specs.Reading.{arcs_at, key, marks_of, slot_of}
use Rattle.patr_unify.specs.Merging.{both}
use Rattle.patr_unify.specs.Walking.{AllButRest, AreBelow, ArePaused, HasArcAt, IsDone, IsPaused, IsPausedFor, IsPutOn, IsTakenFrom, IsVisited, StandsFor, cursor_of, cursors_of, end_value, first, rest_at, stack_of, visit_of}
use Rattle.patr_unify.specs.Copying.{IsWorked}
use Rattle.patr_unify.proofs.Worked.{still_worked, worked_added, worked_both, worked_end}

-- the stack
pub stack_popped : (v : Shown) (ps : List Place) (p : Place) → stack_of v (ps ++ p ∷ []) ≡ key v p ∷ stack_of v ps
stack_popped v ps p = ap (map (key v)) (reverse-append ps (p ∷ []))

pub stack_pushed : (v : Shown) (ps : List Place) (a b : Place) → stack_of v (ps ++ a ∷ b ∷ []) ≡ key v b ∷ key v a ∷ stack_of v ps
stack_pushed v ps a b = ap (map (key v)) (reverse-append ps (a ∷ b ∷ []))

pub stack_length : (v : Shown) (ps : List Place) → length (stack_of v ps) ≡ length ps
stack_length v ps = length-map (reverse ps) (key v) ∙ length-reverse ps

-- from the first arc on nothing was passed over
pub paused_first : (v : Shown) (w : Contents) (k : ℕ) → IsPaused v w k first
paused_first v w k = record { there = tt; before = λ a x h. inl h }

paused_for : (v : Shown) (w : Contents) (j k : ℕ) → IsPausedFor v w j k first
paused_for v w j k = record { there = tt; before = λ a x h. inl h }

-- what the walk has left stays so
pub record IsOnward (v : Shown) (t : Contents) (u : Contents) : Type 0 where
  pub still : IsWorked t u
  pub visit : (k : ℕ) → visit_of v t k ≡ visit.Left → visit_of v u k ≡ visit.Left

-- one visit is set, to `Left` or from another one
pub onward_visited : (v : Shown) (t u : Contents) (k : ℕ) (state : Visit) → IsVisited v t u k state → (visit_of v t k ≡ visit.Left → state ≡ visit.Left) → IsOnward v t u
onward_visited v t u k state set f = record {
  still = still_worked t u set.still;
  visit = λ j h. elim (cases_eq j k) [ inl e ↦ ap (visit_of v u) e ∙ (set.here ∙ f (ap (visit_of v t) (sym e) ∙ h)) | inr ne ↦ set.others j ne ∙ h ];
}

-- the stacks alone change
pub onward_stacks : (v : Shown) (t u : Contents) (ps : List Place) (qs : List (Target × Target)) → u ≡ record t { visits = ps; pairs = qs } → IsOnward v t u
onward_stacks v t u ps qs e = subst (λ z. IsOnward v t z) (sym e) (record { still = record { places = refl; pair_room = refl; forward = λ j. refl; added = λ j. refl }; visit = λ k h. h })

module _ (v : Shown) (t u : Contents) (on : IsOnward v t u) where
  links_on : (k : ℕ) → (marks_of v u k).added ≡ (marks_of v t k).added
  links_on k = on.still.added (slot_of (length v.structure) k)

  there_on : (k : ℕ) (c : Cursor) → HasArcAt v t k c → HasArcAt v u k c
  there_on k (cursor.Own i) h = tt
  there_on k (cursor.Added c) h = subst (λ (ls : List Link). HasCell ls c) (sym (links_on k)) h
  there_on k cursor.Behind h = tt

  rest_on : (k : ℕ) (c : Cursor) → rest_at v t k c ≡ rest_at v u k c
  rest_on k (cursor.Own i) = ap (λ es. drop i (own (sides v.structure) k) ++ es) (sym (worked_added v t u on.still k))
  rest_on k (cursor.Added c) = ap (λ (ls : List Link). arcs_at v (after ls (Some c))) (sym (links_on k))
  rest_on k cursor.Behind = refl

  done_on : (y : Value) → IsDone v t y → IsDone v u y
  done_on (Atom c) h = tt
  done_on (Node k) h = on.visit k h

  -- where such targets become others
  but_rest : (P Q : Value → Type 0) → ((x : Value) → P x → Q x) → (k : ℕ) (c : Cursor) → AllButRest P (both v t k) (rest_at v t k c) → AllButRest Q (both v u k) (rest_at v u k c)
  but_rest P Q f k c p a x h = elim (p a x (subst (λ es. Has es a x) (worked_both v t u on.still k) h)) [ inl r ↦ inl (subst (λ es. Has es a x) (rest_on k c) r) | inr d ↦ inr (f x d) ]

  end_done : (x : Value) → IsDone v t (end_value v t x) → IsDone v u (end_value v u x)
  end_done x d = subst (IsDone v u) (sym (worked_end v t u on.still x)) (done_on (end_value v t x) d)

  pub paused_on : (k : ℕ) (c : Cursor) → IsPaused v t k c → IsPaused v u k c
  paused_on k c p = record { there = there_on k c p.there; before = but_rest (λ x. IsDone v t (end_value v t x)) (λ x. IsDone v u (end_value v u x)) end_done k c p.before }

  pub paused_for_on : (j k : ℕ) (c : Cursor) → IsPausedFor v t j k c → IsPausedFor v u j k c
  paused_for_on j k c p = record {
    there = there_on k c p.there;
    before = but_rest (λ x. IsDone v t (end_value v t x) ⊎ (end_value v t x ≡ Node j)) (λ x. IsDone v u (end_value v u x) ⊎ (end_value v u x ≡ Node j))
        (λ x d. elim d [ inl e ↦ inl (end_done x e) | inr e ↦ inr (worked_end v t u on.still x ∙ e) ]) k c p.before;
  }

  -- the end above was left
  pub paused_again : (j k : ℕ) (c : Cursor) → visit_of v u j ≡ visit.Left → IsPausedFor v t j k c → IsPaused v u k c
  paused_again j k c left p = record {
    there = there_on k c p.there;
    before = but_rest (λ x. IsDone v t (end_value v t x) ⊎ (end_value v t x ≡ Node j)) (λ x. IsDone v u (end_value v u x))
        (λ x d. elim d [ inl e ↦ end_done x e | inr e ↦ subst (IsDone v u) (sym (worked_end v t u on.still x ∙ e)) left ]) k c p.before;
  }

  pub below_on : (j : ℕ) (ks : List ℕ) (cs : List Cursor) → AreBelow v t j ks cs → AreBelow v u j ks cs
  below_on j [] [] h = tt
  below_on j [] (c ∷ cs) h = absurd h
  below_on j (k ∷ ks) [] h = absurd h
  below_on j (k ∷ ks) (c ∷ cs) h = (paused_for_on j k c h.0, below_on k ks cs h.1)

  pub all_on : (ks : List ℕ) (c : Cursor) (cs : List Cursor) → ArePaused v t ks c cs → ArePaused v u ks c cs
  all_on [] c cs h = h
  all_on (k ∷ ks) c cs h = (paused_on k c h.0, below_on k ks cs h.1)

-- as many cursors as places
below_length : (v : Shown) (t : Contents) (j : ℕ) (ks : List ℕ) (cs : List Cursor) → AreBelow v t j ks cs → length cs ≡ length ks
below_length v t j [] [] h = refl
below_length v t j [] (c ∷ cs) h = absurd h
below_length v t j (k ∷ ks) [] h = absurd h
below_length v t j (k ∷ ks) (c ∷ cs) h = ap suc (below_length v t k ks cs h.1)

cursors_length : (qs : List (Target × Target)) → length (cursors_of qs) ≡ length qs
cursors_length qs = length-map (reverse qs) cursor_of ∙ length-reverse qs

pub pairs_length : (v : Shown) (t : Contents) (j : ℕ) (ks : List ℕ) (qs : List (Target × Target)) → AreBelow v t j ks (cursors_of qs) → length qs ≡ length ks
pairs_length v t j ks qs h = sym (cursors_length qs) ∙ below_length v t j ks (cursors_of qs) h

cursors_put : (qs : List (Target × Target)) (q : Target × Target) → cursors_of (qs ++ q ∷ []) ≡ cursor_of q ∷ cursors_of qs
cursors_put qs q = ap (map cursor_of) (reverse-append qs (q ∷ []))

pub none_paused : (qs : List (Target × Target)) → cursors_of qs ≡ [] → qs ≡ []
none_paused qs e = empty qs (sym (cursors_length qs) ∙ ap length e)
  where
    empty : (qs : List (Target × Target)) → length qs ≡ 0 → qs ≡ []
    empty [] e = refl
    empty (q ∷ qs) e = cc

-- the walk goes down
pub went_down : (v : Shown) (t u : Contents) (j k : ℕ) (ks : List ℕ) (c : Cursor) → IsOnward v t u → AreBelow v t k ks (cursors_of t.pairs) → IsPausedFor v t j k c → IsPutOn t.pairs u.pairs c
    → ArePaused v u (j ∷ k ∷ ks) first (cursors_of u.pairs)
went_down v t u j k ks c on below at put =
    let same = ap cursors_of put.1 ∙ cursors_put t.pairs put.0 in
    (paused_first v u j, subst (AreBelow v u j (k ∷ ks)) (sym same) (paused_for_on v t u on j k (cursor_of put.0) (either put.2), below_on v t u on k ks (cursors_of t.pairs) below))
  where
    either : StandsFor put.0 c → IsPausedFor v t j k (cursor_of put.0)
    either (inl e) = subst (IsPausedFor v t j k) (sym e) at
    either (inr e) = subst (IsPausedFor v t j k) (sym e.0) (paused_for v t j k)

-- and back from the end j, which it has left
pub went_back : (v : Shown) (t u : Contents) (j : ℕ) (ks : List ℕ) (c : Cursor) → IsOnward v t u → visit_of v u j ≡ visit.Left → AreBelow v t j ks (cursors_of t.pairs) → IsTakenFrom t.pairs u.pairs c → ArePaused v u ks c (cursors_of u.pairs)
went_back v t u j ks c on left below (inl none) = nothing ks (subst (AreBelow v t j ks) (ap cursors_of none.0) below)
  where
    nothing : (ks : List ℕ) → AreBelow v t j ks [] → ArePaused v u ks c (cursors_of u.pairs)
    nothing [] h = ap cursors_of none.1
    nothing (k ∷ ks) h = absurd h
went_back v t u j ks c on left below (inr taken) = back ks (subst (AreBelow v t j ks) (ap cursors_of taken.1 ∙ cursors_put u.pairs taken.0) below)
  where
    back : (ks : List ℕ) → AreBelow v t j ks (cursor_of taken.0 ∷ cursors_of u.pairs) → ArePaused v u ks c (cursors_of u.pairs)
    back [] h = absurd h
    back (k ∷ ks) h = (paused_again v t u on j k c left (subst (IsPausedFor v t j k) (sym taken.2) h.0), below_on v t u on k ks (cursors_of u.pairs) h.1)

-- the first place is entered
pub paused_starts : (v : Shown) (t : Contents) (root : Place) → t.visits ≡ root ∷ [] → t.pairs ≡ [] → ArePaused v t (stack_of v t.visits) first (cursors_of t.pairs)
paused_starts v t root e f =
    subst (λ (ps : List Place). ArePaused v t (stack_of v ps) first (cursors_of t.pairs)) (sym e) (subst (λ qs. ArePaused v t (key v root ∷ []) first (cursors_of qs)) (sym f) (paused_first v t (key v root), tt))

-- the top is taken
pub paused_popped : (v : Shown) (t u : Contents) (top : Place) (c : Cursor) → ArePaused v t (stack_of v t.visits) c (cursors_of t.pairs) → u ≡ record t { visits = u.visits } → t.visits ≡ u.visits ++ top ∷ []
    → ArePaused v u (key v top ∷ stack_of v u.visits) c (cursors_of u.pairs)
paused_popped v t u top c h e q =
    let all = subst (λ ks. ArePaused v t ks c (cursors_of t.pairs)) (ap (stack_of v) q ∙ stack_popped v u.visits top) h in
    let same = ap (λ (z : Contents). z.pairs) e in
    subst (λ qs. ArePaused v u (key v top ∷ stack_of v u.visits) c (cursors_of qs)) (sym same) (all_on v t u (onward_stacks v t u u.visits t.pairs e) (key v top ∷ stack_of v u.visits) c (cursors_of t.pairs) all)
