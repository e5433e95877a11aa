-- A step along a chain of forwards.
use Rattle.std.proofs.Common.{◌≡◌, ℕ, zero, suc, ◌<◌, false, cond, Option, Some, None, refl, sym, ap, ◌∙◌, subst, arith}
use Rattle.patr_model.specs.Structure.{Value, Atom, Node}
use Rattle.patr_marks.specs.Settled.{onward, follow, IsFinal}
use Rattle.patr_marks.proofs.Follow.{follow_on, onward_final, or_stay}
use Rattle.patr_unify.specs.Following.{is_some, goes_on, chain}

final_stays : (f : ℕ → Option Value) (v : Value) → IsFinal f v → goes_on f v ≡ false
final_stays f (Atom c) h = refl
final_stays f (Node k) h = ap is_some h

chain_more : (n : ℕ) (f : ℕ → Option Value) (v : Value) → IsFinal f (follow n f v) → chain (suc n) f v ≡ chain n f v
chain_more zero f v h = ap (λ b. cond b (suc (chain zero f (onward f v))) 0) (final_stays f v h)
chain_more (suc n) f v h = ap (λ m. cond (goes_on f v) (suc m) 0) (chain_more n f (onward f v) h)

-- one step on, the chain is shorter, and it still ends
pub step_on : (n : ℕ) (f : ℕ → Option Value) (k : ℕ) (v : Value) → f k ≡ Some v → IsFinal f (follow n f (Node k)) → (chain n f v < chain n f (Node k)) × IsFinal f (follow n f v)
step_on zero f k v e h = let bad : None ≡ Some v = sym h ∙ e in cc
step_on (suc n) f k v e h =
    let on : onward f (Node k) ≡ v = ap (or_stay k) e in
    let h' : IsFinal f (follow n f v) = subst (λ u. IsFinal f (follow n f u)) on h in
    let c : chain (suc n) f (Node k) ≡ suc (chain n f v) = ap (λ o. cond (is_some o) (suc (chain n f (or_stay k o))) 0) e in (
      omega (arith, c, chain_more n f v h'),
      subst (IsFinal f) (sym (follow_on n f v ∙ onward_final f (follow n f v) h')) h',
    )

-- what has been followed so far, and one step on
pub followed_on : (f : ℕ → Option Value) (from : Value) (k : ℕ) (v : Value) → f k ≡ Some v → (m : ℕ) × (follow m f from ≡ Node k) → (m : ℕ) × (follow m f from ≡ v)
followed_on f from k v e m = (suc m.0, follow_on m.0 f from ∙ (ap (onward f) m.1 ∙ ap (or_stay k) e))
