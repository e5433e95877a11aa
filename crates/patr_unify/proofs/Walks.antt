-- What the walk finds.
use Rattle.std.proofs.Common.{◌≡◌, ◌⊎◌, ℕ, zero, suc, inl, inr, Bool, true, false, cond, nat_eq, Option, Some, None, List, [], ◌∷◌, drop, refl, sym, ap, ◌∙◌, subst}
use Rattle.patr_model.specs.Structure.{Value, Node, Arc, Arcs}
use Rattle.patr_marks.specs.Machine.{Has}
use Rattle.patr_marks.specs.Settled.{IsFinal}
use Rattle.patr_marks.proofs.Follow.{one_final}
use Rattle.patr_arena.specs.Shown.{Shown, IsShown, IsHeld, number_of}
use Rattle.patr_scratch.specs.declared.Place.{Place}
use Rattle.patr_scratch.specs.declared.Target.{Target}
use Rattle.patr_scratch.specs.declared.Visit.{Visit}
use Rattle.patr_scratch.specs.Contents.{EndsOrHas, Link, PlaceMarks, Contents, marks, after, from_cell}
use Rattle.patr_unify.specs.Reading.{key, value_at, forward_of, arcs_at, marks_of, IsEndOf}
use Rattle.patr_unify.specs.Merging.{both}
use Rattle.patr_unify.specs.Walking.{end_value, AllEnd, visit_of, AllButRest, IsDone, IsFound, IsFoundAt, IsPassed, IsPausedFor, added_at}
use Rattle.patr_unify.proofs.Keys.{key_marks}

-- what `dereference` finds is the end
pub end_found : (v : Shown) (w : Contents) (from t : Target) → AllEnd v w → IsEndOf v w from t → end_value v w (value_at v from) ≡ value_at v t
end_found v w from t all e =
    one_final (forward_of v w) w.pair_room e.steps (value_at v from) (all (value_at v from)) (subst (IsFinal (forward_of v w)) (sym e.follows) e.last) ∙ e.follows

pub visit_is : (v : Shown) (w : Contents) → IsShown v → (p : Place) (number : ℕ) (visit : Visit) → IsHeld v p.block p.offset → number ≡ number_of v p.block p.offset → visit ≡ (marks w p.side number).visit → visit ≡ visit_of v w (key v p)
visit_is v w s p number visit h e g = g ∙ ap (λ (m : PlaceMarks). m.visit) (key_marks v w s p number h e)

-- one arc less is left
pub one_less : (P : Value → Type 0) (es : Arcs) (e : Arc) (rest : Arcs) → AllButRest P es (e ∷ rest) → P e.to → AllButRest P es rest
one_less P es e rest i h a x n = elim (i a x n) [
  | inl m ↦ elim m [ inl q ↦ inr (subst P q.1 h) | inr r ↦ inl r ]
  | inr d ↦ inr d
]

-- the arc in front of the rest leads to the end that was found
pub found_there : (v : Shown) (w : Contents) (k : ℕ) (p : Place) (e : Arc) (rest : Arcs) → IsPassed v w (both v w k) (e ∷ rest) → end_value v w e.to ≡ Node (key v p)
    → AllButRest (λ x. IsDone v w (end_value v w x) ⊎ (end_value v w x ≡ Node (key v p))) (both v w k) rest
found_there v w k p e rest i h = one_less (λ x. IsDone v w (end_value v w x) ⊎ (end_value v w x ≡ Node (key v p))) (both v w k) e rest (λ a x n. elim (i a x n) [ inl m ↦ inl m | inr d ↦ inr (inl d) ]) (inr h)

-- the cursor behind an added arc
pub added_paused : (v : Shown) (w : Contents) (j k : ℕ) (next : Option ℕ) → EndsOrHas (marks_of v w k).added next
    → AllButRest (λ x. IsDone v w (end_value v w x) ⊎ (end_value v w x ≡ Node j)) (both v w k) (arcs_at v (after (marks_of v w k).added next)) → IsPausedFor v w j k (added_at next)
added_paused v w j k None h i = record { there = tt; before = i }
added_paused v w j k (Some c) h i = record { there = h; before = i }

-- nothing was found there
pub none_found : (v : Shown) (w : Contents) (x : Value) (o : Option Place) → IsFound v w x o → ((p : Place) → o ≡ Some p → ⊥) → IsDone v w (end_value v w x)
none_found v w x None f n = f
none_found v w x (Some p) f n = absurd (n p refl)

-- none is left
pub none_left : (P : Value → Type 0) (es : Arcs) → AllButRest P es [] → (a : ℕ) (x : Value) → Has es a x → P x
none_left P es i a x h = elim (i a x h) [ inl n ↦ absurd n | inr d ↦ d ]

-- an arc that is left is an arc
pub drop_has : (es : Arcs) (i a : ℕ) (x : Value) → Has (drop i es) a x → Has es a x
drop_has es zero a x h = h
drop_has [] (suc i) a x h = absurd h
drop_has (e ∷ es) (suc i) a x h = inr (drop_has es i a x h)

pub after_has : (v : Shown) (ls : List Link) (o : Option ℕ) (a : ℕ) (x : Value) → Has (arcs_at v (after ls o)) a x → Has (arcs_at v ls) a x
after_has v ls None a x h = absurd h
after_has v ls (Some c) a x h = from ls h
  where
    from : (ls : List Link) → Has (arcs_at v (from_cell ls c)) a x → Has (arcs_at v ls) a x
    from [] h = h
    from (l ∷ ls) h = go (nat_eq l.cell c) (from ls) h
      where
        go : (b : Bool) → (Has (arcs_at v (from_cell ls c)) a x → Has (arcs_at v ls) a x) → Has (arcs_at v (cond b (l ∷ ls) (from_cell ls c))) a x → Has (arcs_at v (l ∷ ls)) a x
        go true ih h = h
        go false ih h = inr (ih h)

-- no cell is left
pub links_passed : (v : Shown) (w : Contents) (es : Arcs) (ls : List Link) (next : Option ℕ) → IsPassed v w es (arcs_at v (after ls next)) → ((cell : ℕ) → next ≡ Some cell → ⊥) → IsFoundAt v w es None
links_passed v w es ls (Some cell) i n = absurd (n cell refl)
links_passed v w es ls None i n = none_left (λ x. IsDone v w (end_value v w x)) es i
