-- The first nodes of a block alone.
use Rattle.std.proofs.Common.{◌≡◌, ℕ, ◌+◌, ◌≤◌, List, [], ◌∷◌, length, take, get_or, refl, sym, ap, ◌∙◌, arith, subst}
use Rattle.std.proofs.lemmas.List.{get_or-take}
use Rattle.patr_arena.proofs.Cutting.{block_front, front_keeps}
use Rattle.patr_arena.specs.declared.value.Ref.TheVariants as ref
use Rattle.patr_library.proofs.Names.{length-map, length-take-le, Node, Structure, Value, IsStructure, IsValue, Same, maps_transitive, Rules, IsLeastValue, Ref, Feature, own_arcs, own_nodes, own_value, IsOwn, AllOwn, IsOwnBlock, IsPlacedAt, shift, shifted}
use Rattle.patr_model.specs.Derivation.{Derivation}
use Rattle.patr_library.proofs.Corresponding.{own_get}
use Rattle.patr_library.proofs.Placed.{placed_same}

pub own_front : (nodes : List (List Feature)) (m : ℕ) → IsOwnBlock nodes → IsOwnBlock (take m nodes)
own_front nodes m own = record { block = block_front nodes m own.block; own = λ n. front_keeps (AllOwn n) tt m nodes n (own.own n) }

value_unshifted : (r : Ref) → own_value r ≡ shift 0 r
value_unshifted (ref.Atom c) = refl
value_unshifted (ref.Old at) = refl
value_unshifted (ref.New k) = ap Node (let e : k ≡ 0 + k = omega arith in e)

arcs_unshifted : (fs : List Feature) → own_arcs fs ≡ shifted 0 fs
arcs_unshifted [] = refl
arcs_unshifted (f ∷ fs) = ap (λ x. record { attribute = f.attribute.0; to = x } ∷ own_arcs fs) (value_unshifted f.to) ∙ ap (λ es. record { attribute = f.attribute.0; to = shift 0 f.to } ∷ es) (arcs_unshifted fs)

front_placed : (nodes : List (List Feature)) (m : ℕ) → m ≤ length nodes → IsPlacedAt (own_nodes nodes) 0 (take m nodes)
front_placed nodes m l =
    let size = length-take-le m nodes l in
    record {
      within = omega (arith, size, length-map nodes own_arcs, l);
      each = λ k h.
          ap (λ j. get_or (own_nodes nodes) j []) (let e : 0 + k ≡ k = omega arith in e)
          ∙ (own_get nodes k ∙ (ap own_arcs (sym (get_or-take m nodes k [] (omega (arith, h, size)))) ∙ arcs_unshifted (get_or (take m nodes) k [])));
    }

-- what stands before a node is the same without it and all behind it
pub front_same : (whole nodes : List (List Feature)) (m : ℕ) (r : Ref) → IsOwnBlock whole → m ≤ length whole → nodes ≡ take m whole → IsOwn (length nodes) r
    → IsOwnBlock nodes × Same (own_nodes whole) (own_value r) (own_nodes nodes) (own_value r)
front_same whole nodes m r own l e =
    subst (λ ns. IsOwn (length ns) r → IsOwnBlock ns × Same (own_nodes whole) (own_value r) (own_nodes ns) (own_value r)) (sym e)
    (λ h. (
      own_front whole m own,
      subst (λ x. Same (own_nodes whole) x (own_nodes (take m whole)) (own_value r)) (sym (value_unshifted r)) (placed_same (own_nodes whole) 0 (take m whole) (own_front whole m own) (front_placed whole m l) r h),
    ))

-- what is the same as a derivation's least value is one
pub least_value_same : (g : Rules) (t : Derivation) (U : Structure) (u : Value) (C : Structure) (c : Value) → IsStructure C → IsValue C c → Same U u C c → IsLeastValue g t U u → IsLeastValue g t C c
least_value_same g t U u C c s h same least = record {
  structure = s;
  held = h;
  solution = let x = least.solution in (x.0, x.1, x.2, (maps_transitive x.0 x.1 U u C c x.3.0 same.0, maps_transitive C c U u x.0 x.1 same.1 x.3.1));
  least = λ G v x. maps_transitive C c U u G v same.1 (least.least G v x);
}
