-- What stays the same in a structure with more nodes.
use Rattle.std.proofs.Common.{◌≡◌, ℕ, ◌<◌, List, [], ◌∷◌, ◌++◌, length, Some, option_and_then, sym, ap, ◌∙◌}
use Rattle.patr_parse.proofs.Names.{Value, Node, Structure, arc, IsReached, IsValue, IsStructure, IsUnifier, some_inj, and_then_some}
use Rattle.patr_model.specs.Structure.{at}
use Rattle.patr_model.proofs.Maps.{takes_before, maps_into_shorter, maps_into_longer}
use Rattle.patr_model.proofs.EquationStructures.{at_of_longer, at_value}

-- ---- paths

module _ (S N : Structure) (s : IsStructure S) where
  pub reached_more : (v : Value) (n : ℕ) → IsValue S v → IsReached S v n → IsReached (S ++ N) v n
  reached_more v n h r = (r.0, at_of_longer S N s r.0 v h ∙ r.1)

  pub reached_less : (v : Value) (n : ℕ) → IsValue S v → IsReached (S ++ N) v n → IsReached S v n
  reached_less v n h r = (r.0, sym (at_of_longer S N s r.0 v h) ∙ r.1)

  pub reached_value : (v : Value) (n : ℕ) → IsValue S v → IsReached S v n → n < length S
  reached_value v n h r = at_value S s r.0 v (Node n) h r.1

-- a path behind another
pub at_behind : (S : Structure) (p q : List ℕ) (v x : Value) → at S v p ≡ Some x → at S v (p ++ q) ≡ at S x q
at_behind S [] q v x h = ap (λ y. at S y q) (some_inj v x h)
at_behind S (a ∷ p) q v x h =
    let step = and_then_some (arc S v a) (λ y. at S y p) x h in
    ap (λ o. option_and_then (λ y. at S y (p ++ q)) o) step.1 ∙ at_behind S p q step.0 x step.2

pub reached_on : (S : Structure) (v : Value) (n k : ℕ) → IsReached S v n → IsReached S (Node n) k → IsReached S v k
reached_on S v n k r h = (r.0 ++ h.0, at_behind S r.0 h.0 v (Node n) r.1 ∙ h.1)

-- ---- unifiers

pub unifier_sides : (S N U : Structure) (l r u : Value) (p : List ℕ) → IsStructure S → IsValue S l → IsValue S r → IsUnifier S l p S r U u → IsUnifier (S ++ N) l p (S ++ N) r U u
unifier_sides S N U l r u p s hl hr un = record {
  takes = takes_before (S ++ N) l S l p (S ++ N) r S r (maps_into_shorter S N l s hl) (maps_into_shorter S N r s hr) U u un.takes;
  least = λ G g b. un.least G g (takes_before S l (S ++ N) l p S r (S ++ N) r (maps_into_longer S N l s hl) (maps_into_longer S N r s hr) G g b);
}
