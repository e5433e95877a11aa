-- A value's canonical text depends on the texts of the symbols to which its paths lead, and on no other.
use Rattle.std.proofs.Common.{◌≡◌, ℕ, Bool, true, List, [], ◌∷◌, ◌++◌, Some, refl}
use Rattle.patr_reply.proofs.Names.{Atom, HasNamed, IsStructure, IsValue, Look, Node, Structure, Value, arc, arcs_of, at, canonical}
use Rattle.patr_model.specs.Laws.{GiveOneText, OfValue}
use Rattle.patr_model.proofs.Alike.{more}
use Rattle.patr_model.proofs.Local.{local_of}
use Rattle.patr_model.proofs.Shared.{all_along}

-- two looks that agree on what paths from a value lead to write one text of it
module _ (test : ℕ → Bool) (M : Structure) (m : Value) (is : IsStructure M) (held : IsValue M m) (named : HasNamed test M m) (l k : Look) (order : l.order ≡ k.order) (texts : (c : ℕ) → test c ≡ true → l.text c ≡ k.text c) where
  abbrev P : ℕ → Type 0
  P = GiveOneText l k

  abbrev R : Value → Type 0
  R x = (p : List ℕ) × (at M m p ≡ Some x)

  of : (x : Value) → R x → OfValue P x
  of (Atom c) r = texts c (named.atoms r.0 c r.1)
  of (Node n) r = tt

  arcs : (n : ℕ) → R (Node n) → (a : ℕ) (x : Value) → arc M (Node n) a ≡ Some x → P a × R x
  arcs n r a x h = (texts a (named.attributes r.0 (Node n) a x r.1 h), (r.0 ++ a ∷ [], more M m r.0 a (Node n) x r.1 h))

  pub named_text : canonical l M m ≡ canonical k M m
  named_text = local_of l k M m is held order R of (λ n r. all_along (λ a x. P a × R x) (arcs_of M (Node n)) (is.distinct n) (arcs n r)) ([], refl)
