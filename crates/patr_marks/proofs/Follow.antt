-- Following forwards: what they lead to by a log, and with any number of steps that is enough.
use Rattle.std.proofs.Common.{◌≡◌, ℕ, zero, suc, ◌+◌, Bool, true, false, cond, nat_eq, List, [], ◌∷◌, Option, Some, None, refl, sym, ap, ◌∙◌, subst, arith, eqb-true, add-suc, add-zero}
use Rattle.patr_model.specs.Structure.{Value, Atom, Node, Structure}
use Rattle.patr_marks.specs.Machine.{Forward, Agrees, IsLog, Within, ends, lookup}
use Rattle.patr_marks.specs.Settled.{IsFinal, IsSettled, Marks, follow, onward}
use Rattle.patr_marks.specs.Sides.{IsSide}
use Rattle.patr_marks.proofs.Lists.{ends_atom, log_agrees}
use Rattle.patr_marks.proofs.Settles.{follow_final, none_end}

abbrev pub or_stay : ℕ → Option Value → Value
or_stay k o = elim o as (λ o. Value) [ None ↦ Node k | Some v ↦ v ]

pub follow_on : (n : ℕ) (f : ℕ → Option Value) (v : Value) → follow n f (onward f v) ≡ onward f (follow n f v)
follow_on zero f v = refl
follow_on (suc n) f v = follow_on n f (onward f v)

pub onward_final : (f : ℕ → Option Value) (v : Value) → IsFinal f v → onward f v ≡ v
onward_final f (Atom c) h = refl
onward_final f (Node k) h = ap (or_stay k) h

pub follow_ext : (n : ℕ) (f g : ℕ → Option Value) (x : Value) → ((k : ℕ) → f k ≡ g k) → follow n f x ≡ follow n g x
follow_ext zero f g x h = refl
follow_ext (suc n) f g x h = ap (follow n f) (on x) ∙ follow_ext n f g (onward g x) h
  where
    on : (x : Value) → onward f x ≡ onward g x
    on (Atom c) = refl
    on (Node k) = ap (or_stay k) (h k)

pub final_ext : (f g : ℕ → Option Value) (x : Value) → ((k : ℕ) → f k ≡ g k) → IsFinal g x → IsFinal f x
final_ext f g (Atom c) h i = tt
final_ext f g (Node k) h i = h k ∙ i

pub follow_add : (n m : ℕ) (f : ℕ → Option Value) (x : Value) → follow (n + m) f x ≡ follow n f (follow m f x)
follow_add n zero f x = ap (λ q. follow q f x) (add-zero n)
follow_add n (suc m) f x = ap (λ q. follow q f x) (add-suc n m) ∙ follow_add n m f (onward f x)

lookup_agrees : (m : Value → Value) (log : List Forward) (k : ℕ) (x : Value) → Agrees m log → lookup log k ≡ Some x → m (Node k) ≡ m x
lookup_agrees m [] k x g e = cc
lookup_agrees m (f ∷ log) k x g e = go (nat_eq k f.from) refl (lookup_agrees m log k x g.1) e
  where
    go : (b : Bool) → nat_eq k f.from ≡ b → (lookup log k ≡ Some x → m (Node k) ≡ m x) → cond b (Some f.to) (lookup log k) ≡ Some x → m (Node k) ≡ m x
    go true q ih e = let w : f.to ≡ x = cc in ap (λ i. m (Node i)) (eqb-true k f.from q) ∙ (g.0 ∙ ap m w)
    go false q ih e = ih e

pub follow_ends : (n : ℕ) (f : ℕ → Option Value) (log : List Forward) → IsLog log → ((k : ℕ) → f k ≡ lookup log k) → (x : Value) → ends log (follow n f x) ≡ ends log x
follow_ends zero f log h t x = refl
follow_ends (suc n) f log h t x = follow_ends n f log h t (onward f x) ∙ one x
  where
    one : (x : Value) → ends log (onward f x) ≡ ends log x
    one (Atom c) = refl
    one (Node k) = go (f k) refl
      where
        go : (o : Option Value) → f k ≡ o → ends log (or_stay k o) ≡ ends log (Node k)
        go None e = refl
        go (Some y) e = sym (lookup_agrees (ends log) log k y (log_agrees log h) (sym (t k) ∙ e))

pub final_end : (f : ℕ → Option Value) (log : List Forward) → ((k : ℕ) → f k ≡ lookup log k) → (x : Value) → IsFinal f x → ends log x ≡ x
final_end f log t (Atom c) h = ends_atom log c
final_end f log t (Node k) h = none_end log k (sym (t k) ∙ h)

-- forwards lead to one end
pub one_final : (f : ℕ → Option Value) (m n : ℕ) (x : Value) → IsFinal f (follow m f x) → IsFinal f (follow n f x) → follow m f x ≡ follow n f x
one_final f m n x hm hn =
    sym (follow_final n f (follow m f x) hm) ∙ (sym (follow_add n m f x) ∙ (ap (λ q. follow q f x) (swapped n m) ∙ (follow_add m n f x ∙ follow_final m f (follow n f x) hn)))
  where
    swapped : (n m : ℕ) → n + m ≡ m + n
    swapped n m = omega arith

-- settled marks are settled with any number of steps that is enough
abbrev pub settled_within : (S : Structure) (l : ℕ) (p : List ℕ) (r : Value) (m : Marks) → IsSettled S l p r m → (n : ℕ) → ((k : ℕ) → IsSide S l r k → IsFinal m.forward (follow n m.forward (Node k))) → IsSettled S l p r m
settled_within S l p r m i n all = record {
  unifier = i.unifier;
  top = i.top;
  is_unifier = i.is_unifier;
  steps = n;
  image = i.image;
  atoms = i.atoms;
  held = i.held;
  root = i.root;
  right = i.right;
  ended = λ k h. subst (λ x. IsFinal m.forward x × Within (IsSide S l r) x × (i.image x ≡ i.image (Node k))) (one_final m.forward i.steps n (Node k) (i.ended k h).0 (all k h)) (i.ended k h);
  node = i.node;
  apart = i.apart;
  arcs = i.arcs;
  only = i.only;
}
