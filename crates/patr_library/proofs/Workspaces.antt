-- What stands in a workspace: blocks that were put there, unifiers, and least values.
use Rattle.std.proofs.Common.{◌≡◌, ℕ, ◌+◌, ◌<◌, List, [], ◌∷◌, ◌++◌, length, map, Some, refl, sym, ap, ◌∙◌, arith, subst}
use Rattle.patr_library.proofs.Names.{sum_by, length-map, value_below, carries_arc, Value, Same, IsUnifier, Equation, AreWithin, Feature, Ref, Shown, IsShown, ValueIsHeld, value_of, arcs_from, with_block, Fits, made_of, own_nodes, own_value, IsOwn, IsRooted, shift, IsLeastAt, IsLeastIn, IsSlots, IsUnified, IsSolvedIn}
use Rattle.std.proofs.lemmas.List.Sums.{sum_by-cons, sum_by-append}
use Rattle.patr_model.proofs.Maps.{maps_into_longer, maps_into_shorter}
use Rattle.patr_arena.specs.declared.value.Ref.TheVariants as ref
use Rattle.patr_arena.specs.declared.value.Value as its
use Rattle.patr_library.proofs.Keeping.{further, value_still}
use Rattle.patr_library.proofs.Placed.{own_shift, own_structure, own_is_value, placed_same, placed_new}
use Rattle.patr_library.proofs.Steps.{first_slot, same_least, same_unifier, swap}

-- a value of a block without old addresses may be put anywhere
pub own_fits : (v : Shown) (n : ℕ) (r : Ref) → IsOwn n r → Fits v n r
own_fits v n (ref.Atom c) h = (tt, tt)
own_fits v n (ref.Old at) h = absurd h
own_fits v n (ref.New k) h = (h, tt)

-- the arcs of the nodes with one block more
pub arcs_more : (v : Shown) (b : ℕ) (nodes : List (List Feature)) → sum_by length (v.structure ++ map (arcs_from v b) nodes) ≡ sum_by length v.structure + sum_by length nodes
arcs_more v b nodes = sum_by-append length v.structure (map (arcs_from v b) nodes) ∙ ap (λ n. sum_by length v.structure + n) (go nodes)
  where
    go : (nodes : List (List Feature)) → sum_by length (map (arcs_from v b) nodes) ≡ sum_by length nodes
    go [] = refl
    go (fs ∷ nodes) =
        let here = sum_by-cons length (arcs_from v b fs) (map (arcs_from v b) nodes) in
        let there = sum_by-cons length fs nodes in
        let long : length (arcs_from v b fs) ≡ length fs = length-map fs _ in
        omega (arith, here, there, long, go nodes)

module _ (v w : Shown) (s : IsShown v) (nodes : List (List Feature)) (is : w ≡ with_block v nodes) where
  -- what stood there before is the same
  pub before_same : (x : its.Value) → ValueIsHeld v x → Same w.structure (value_of w x) v.structure (value_of v x)
  before_same x held =
      let e = further v w nodes is in
      let y = value_of v x in
      let h = value_below v s x held in
      subst (λ S. Same S (value_of w x) v.structure y) (sym e.structure.1)
      (subst (λ z. Same (v.structure ++ e.structure.0) z v.structure y) (sym (value_still v w e x held).1)
      (maps_into_shorter v.structure e.structure.0 y s.structure h, maps_into_longer v.structure e.structure.0 y s.structure h))

  -- and so is a value of the block, if it has no old addresses
  pub put_same : (r : Ref) (x : Value) → IsRooted nodes r → x ≡ made_of v r → Same w.structure x (own_nodes nodes) (own_value r)
  put_same r x rooted at =
      subst (λ y. Same w.structure y (own_nodes nodes) (own_value r)) (sym (at ∙ own_shift v s nodes rooted.own r rooted.root))
      (subst (λ u. Same u.structure (shift (length v.structure) r) (own_nodes nodes) (own_value r)) (sym is)
      (placed_same (with_block v nodes).structure (length v.structure) nodes rooted.own (placed_new v s nodes rooted.own) r rooted.root))

  -- so is a least value
  pub put_least : (slots : ℕ) (es : List Equation) (root : ℕ) (x : its.Value) → IsShown w → 0 < slots → AreWithin slots es → IsLeastAt slots es nodes root → ValueIsHeld w x → value_of w x ≡ made_of v (ref.New root)
      → IsSolvedIn w slots es (Some x)
  put_least slots es root x t some within at held put =
      let same = put_same (ref.New root) (value_of w x) at.rooted put in
      let least : IsLeastIn w slots es x = λ cs count.
      same_least cs es (subst (λ n. AreWithin n es) (sym count) within) (own_nodes nodes) (own_value (ref.New root)) w.structure (value_of w x) t.structure (value_below w t x held)
      (swap w.structure (value_of w x) (own_nodes nodes) (own_value (ref.New root)) same) (at.least cs count) in
      (record { held = held; slot = first_slot w.structure (value_of w x) slots es some least }, least)

  module _ (u : Shown) (left stated made : its.Value) (r : Ref) (slots : IsSlots v left) (rooted : IsRooted nodes r) (at : value_of w stated ≡ made_of v r) where
    -- a unifier in the workspace is one of what stood there before and of the block
    sides_unified : IsUnifier w.structure (value_of w left) [] w.structure (value_of w stated) u.structure (value_of u made)
        → IsUnifier v.structure (value_of v left) [] (own_nodes nodes) (own_value r) u.structure (value_of u made)
    sides_unified =
        same_unifier w.structure (value_of w left) w.structure (value_of w stated) v.structure (value_of v left) (own_nodes nodes) (own_value r) (before_same left slots.held) (put_same r (value_of w stated) rooted at) u.structure (value_of u made)

    pub is_unified : (block : List (List Feature)) (root : Ref) → u ≡ with_block w block → value_of u made ≡ made_of w root → ValueIsHeld u made
        → IsUnifier w.structure (value_of w left) [] w.structure (value_of w stated) (with_block w block).structure (made_of w root) → IsUnified v u left nodes r made
    is_unified block root more put held unifier =
        let un = sides_unified (subst (λ z. IsUnifier w.structure (value_of w left) [] w.structure (value_of w stated) u.structure z) (sym put)
        (subst (λ z. IsUnifier w.structure (value_of w left) [] w.structure (value_of w stated) z.structure (made_of w root)) (sym more) unifier)) in
        let into = un.takes.left in
        let z = carries_arc v.structure u.structure into.by into.is_map (value_of v left) (value_of u made) into.root 0 slots.slot.0 slots.slot.1 in
        record { slots = record { held = held; slot = (z.0, z.2) }; unifier = un }

-- a least value, in a block of its own
pub least_alone : (w : Shown) (slots : ℕ) (es : List Equation) (x : its.Value) (nodes : List (List Feature)) (root : ℕ) → AreWithin slots es → IsSolvedIn w slots es (Some x)
    → IsRooted nodes (ref.New root) → Same w.structure (value_of w x) (own_nodes nodes) (own_value (ref.New root)) → IsLeastAt slots es nodes root
least_alone w slots es x nodes root within solved rooted same = record {
  rooted = rooted;
  least = λ cs count.
      same_least cs es (subst (λ n. AreWithin n es) (sym count) within) w.structure (value_of w x) (own_nodes nodes) (own_value (ref.New root)) (own_structure nodes rooted.own) (own_is_value nodes (ref.New root) rooted.root) same (solved.1 cs count);
}
