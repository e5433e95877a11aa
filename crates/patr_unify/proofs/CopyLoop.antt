-- The copy's loop: where it begins, its turns, and what it comes to.
use Rattle.std.proofs.Common.{◌≡◌, ℕ, zero, suc, ◌+◌, ◌<◌, inl, inr, List, [], ◌∷◌, ◌++◌, length, map, reverse, take, drop, get_or, refl, sym, ap, ◌∙◌, subst, arith}
use Rattle.std.proofs.lemmas.List.{reverse-append, map-append, take-append-drop, take_more}
use Rattle.patr_lists.proofs.Members.{in_right}
use Rattle.patr_lists.specs.Members.{NoRepeats, IsIn}
use Rattle.patr_model.specs.Structure.{Value, Node}
use Rattle.patr_marks.specs.Settled as marks_settled
use Rattle.patr_marks.specs.Sides.{IsSide}
use Rattle.patr_marks.proofs.Growth.{nothing_spares}
use Rattle.patr_marks.proofs.Reach.{copy_starts}
use Rattle.patr_arena.specs.Blocks.{OldIsHeld}
use Rattle.patr_arena.specs.Shown.{Shown, IsShown, IsHeld}
use Rattle.patr_scratch.specs.declared.Place.{Place}
use Rattle.patr_scratch.specs.Contents.{Contents}
use Rattle.patr_unify.specs.declared.draft.Draft.{Draft}
use Rattle.patr_unify.specs.Copying.{HasCopied, HasFinished, MarkFits, copying_by}
use Rattle.patr_unify.specs.Deciding.{IsSettledFor, LeadBehind}
use Rattle.patr_unify.specs.Reading.{key}
use Rattle.patr_unify.specs.Walking.{VisitsHeld, stack_of}
use Rattle.patr_unify.proofs.Building.{renewed, stayed}
use Rattle.patr_unify.proofs.Pauses.{stack_popped}
use Rattle.patr_unify.proofs.Reaching.{copy_fits, reached_is_end}

-- the copy of no end
pub copied_none : (v : Shown) (w : Contents) (l : ℕ) (r : Value) (p : List ℕ) → IsSettledFor v w l p r → marks_settled.Fits (IsSide v.structure l r) (copying_by v w) → HasCopied v w w l r [] 0 0 []
copied_none v w l r p set fits = record {
  still = record { places = refl; pair_room = refl; forward = λ j. refl; added = λ j. refl };
  order = refl;
  visit = λ k. refl;
  value = λ k. Node 0;
  copy = copy_starts (IsSide v.structure l r) (copying_by v w) fits;
  sparing = nothing_spares (copying_by v w);
  marked = λ k m. absurd m;
  fits = λ j. subst (MarkFits v 0) (sym (set.uncopied j)) tt;
  old = nothing_old;
  nodes_are = refl;
  arcs_are = refl;
}
  where
    nothing_old : OldIsHeld v []
    nothing_old zero = tt
    nothing_old (suc k) = tt

-- each end of the order stands there once
pub behind_once : (v : Shown) (w : Contents) (ks : List ℕ) → LeadBehind v w ks → NoRepeats ks
behind_once v w [] o = tt
behind_once v w (k ∷ ks) o = (o.0, behind_once v w ks o.2)

stack_append : (v : Shown) (ps qs : List Place) → stack_of v (ps ++ qs) ≡ stack_of v qs ++ stack_of v ps
stack_append v ps qs = ap (map (key v)) (reverse-append ps qs) ∙ map-append (key v) (reverse qs) (reverse ps)

behind_of : (v : Shown) (w : Contents) (js ks : List ℕ) → LeadBehind v w (js ++ ks) → LeadBehind v w ks
behind_of v w [] ks o = o
behind_of v w (j ∷ js) ks o = behind_of v w js ks o.2

held_at : (v : Shown) (ps : List Place) (i : ℕ) (p : Place) → VisitsHeld v ps → i < length ps → p ≡ get_or ps i p → IsHeld v p.block p.offset
held_at v [] i p h l e = absurd (omega (arith, l))
held_at v (q ∷ ps) zero p h l e = subst (λ (z : Place). IsHeld v z.block z.offset) (sym e) h.0
held_at v (q ∷ ps) (suc i) p h l e = held_at v ps i p h.1 (omega (arith, l)) e

-- the next end of the order, and what is copied before it
module _ (v : Shown) (s : IsShown v) (w : Contents) (l : ℕ) (p : List ℕ) (r : Value) (hl : l < length v.structure) (set : IsSettledFor v w l p r) (i : ℕ) (top : Place) (h : i < length w.order) (is : top ≡ get_or w.order i top) where
  pub next_held : IsHeld v top.block top.offset
  next_held = held_at v w.order i top set.ordered.held h is

  stack_more : stack_of v (take (i + 1) w.order) ≡ key v top ∷ stack_of v (take i w.order)
  stack_more = ap (stack_of v) (take_more w.order i top h ∙ ap (λ q. take i w.order ++ q ∷ []) (sym is)) ∙ stack_popped v (take i w.order) top

  whole : stack_of v w.order ≡ stack_of v (drop (i + 1) w.order) ++ (key v top ∷ stack_of v (take i w.order))
  whole = ap (stack_of v) (sym (take-append-drop (i + 1) w.order)) ∙ (stack_append v (take (i + 1) w.order) (drop (i + 1) w.order) ∙ ap (λ ks. stack_of v (drop (i + 1) w.order) ++ ks) stack_more)

  behind : LeadBehind v w (key v top ∷ stack_of v (take i w.order))
  behind = behind_of v w (stack_of v (drop (i + 1) w.order)) (key v top ∷ stack_of v (take i w.order)) (subst (LeadBehind v w) whole set.ordered.behind)

  side : IsSide v.structure l r (key v top)
  side =
      let e = set.ordered.ends (key v top) (subst (λ ks. IsIn ks (key v top)) (sym whole) (in_right (stack_of v (drop (i + 1) w.order)) (key v top ∷ stack_of v (take i w.order)) (key v top) (inl refl))) in
      (reached_is_end v s w l p r hl set e.0 (key v top) e.1).0

  -- it is copied
  pub copied_next : (t u : Contents) (old new : Draft) → HasCopied v w t l r old.block old.nodes old.arcs (stack_of v (take i w.order)) → HasFinished v t u top old new
      → HasCopied v w u l r new.block new.nodes new.arcs (stack_of v (take (i + 1) w.order))
  copied_next t u old new has (inl done) =
      let next = stayed v s w t u l r (copy_fits v s w l p r hl set) old.block old.nodes old.arcs (stack_of v (take i w.order)) has top next_held side behind.0 behind.1 done.kept done.marked new.nodes new.arcs done.nodes done.arcs in
      subst (HasCopied v w u l r new.block new.nodes new.arcs) (sym stack_more) (subst (λ b. HasCopied v w u l r b new.nodes new.arcs (key v top ∷ stack_of v (take i w.order))) (sym done.block) next)
  copied_next t u old new has (inr done) =
      let next =
      renewed v s w t u l r (copy_fits v s w l p r hl set) old.block old.nodes old.arcs (stack_of v (take i w.order)) has top next_held side behind.0 behind.1 done.changed done.features done.node done.marked new.nodes new.arcs done.nodes done.arcs in
      subst (HasCopied v w u l r new.block new.nodes new.arcs) (sym stack_more) (subst (λ b. HasCopied v w u l r b new.nodes new.arcs (key v top ∷ stack_of v (take i w.order))) (sym done.block) next)
