-- The least value of a block where the block stands in an arena, and what is reached from it.
use Rattle.std.proofs.Common.{◌≡◌, ℕ, ◌+◌, ◌<◌, ◌≤◌, Bool, true, false, cond, nat_eq, List, [], ◌∷◌, length, length-append, get_or, Some, refl, sym, ap, ◌∙◌, arith, subst}
use Rattle.patr_library.proofs.Names.{sum_by, length-map, get_or-append-add, total, Value, Atom, Node, Structure, along, arc, at, Same, Equation, variant, RuleAt, IsLeastOf, AreWithin, some_inj, and_then_some, own, Ref, Feature, Shown, IsShown, IsHeld, number_of, ref_of, with_block, held_below, still_held, same_number, block_extends, new_number, own_nodes, own_value, IsOwn, AllOwn, IsOwnBlock, IsPlacedAt, shift, shifted, IsLeastAt, Bounds, HasBlock, Counts}
use Rattle.patr_library.proofs.Room.{range, range_has, range_long, range_weight}
use Rattle.patr_lists.proofs.Totals.{total_room}
use Rattle.patr_lists.proofs.Members.{no_longer}
use Rattle.patr_lists.specs.Members.{IsIn}
use Rattle.patr_arena.specs.declared.value.Ref.TheVariants as ref
use Rattle.patr_library.proofs.Placed.{ref_shifted, held_anywhere, placed_same, placed_new, placed_longer}
use Rattle.patr_library.proofs.Steps.{same_least}

-- ---- what is reached from a block's node

module _ (S : Structure) (p : ℕ) (nodes : List (List Feature)) (alone : IsOwnBlock nodes) (placed : IsPlacedAt S p nodes) where
  -- an atom, or a node of the block
  abbrev Inside : Value → Type 0
  Inside (Atom c) = Unit {0}
  Inside (Node n) = (i : ℕ) × (n ≡ p + i) × (i < length nodes)

  own_inside : (n : ℕ) → n ≤ length nodes → (r : Ref) → IsOwn n r → Inside (shift p r)
  own_inside n l (ref.Atom c) h = tt
  own_inside n l (ref.Old at) h = absurd h
  own_inside n l (ref.New k) h = (k, refl, omega (arith, h, l))

  inside_along : (n : ℕ) → n ≤ length nodes → (fs : List Feature) → AllOwn n fs → (a : ℕ) (x : Value) → along (shifted p fs) a ≡ Some x → Inside x
  inside_along n l [] h a x e = cc
  inside_along n l (f ∷ fs) h a x e = go (nat_eq f.attribute.0 a) (inside_along n l fs h.1 a x) e
    where
      go : (b : Bool) → (along (shifted p fs) a ≡ Some x → Inside x) → cond b (Some (shift p f.to)) (along (shifted p fs) a) ≡ Some x → Inside x
      go true rest k = subst Inside (some_inj (shift p f.to) x k) (own_inside n l f.to h.0)
      go false rest k = rest k

  inside_arc : (x : Value) → Inside x → (a : ℕ) (y : Value) → arc S x a ≡ Some y → Inside y
  inside_arc (Atom c) h a y e = cc
  inside_arc (Node n) h a y e =
      inside_along h.0 (omega (arith, h.2)) (get_or nodes h.0 []) (alone.own h.0) a y
      (ap (λ es. along es a) (sym (placed.each h.0 h.2)) ∙ (ap (λ j. along (get_or S j []) a) (sym h.1) ∙ e))

  inside_at : (q : List ℕ) (x : Value) → Inside x → (y : Value) → at S x q ≡ Some y → Inside y
  inside_at [] x h y e = subst Inside (some_inj x y e) h
  inside_at (a ∷ q) x h y e =
      let s = and_then_some (arc S x a) (λ z. at S z q) y e in
      inside_at q s.0 (inside_arc x h a s.0 s.1) y s.2

  -- no more nodes are reached than the block has, nor more arcs
  placed_bounds : (x : Value) → Inside x → (n a : ℕ) → Counts S x n a → (n ≤ length nodes) × (a ≤ sum_by length nodes)
  placed_bounds x h n a c =
      let m = length nodes in
      let f : ℕ → ℕ = λ k. length (own S k) in
      let members : (k : ℕ) → IsIn c.list k → IsIn (range p m) k =
      λ k i. let r = c.is.reached k i in let s = inside_at r.0 x h (Node k) r.1 in subst (IsIn (range p m)) (sym s.1) (range_has p m s.0 s.2) in
      let long = no_longer c.list (range p m) c.is.once members in
      let size = range_long p m in
      let weight = total_room f c.list (range p m) c.is.once members in
      let whole : total f (range p m) ≡ sum_by length nodes = range_weight f p nodes (λ k h. ap length (placed.each k h) ∙ length-map (get_or nodes k []) (λ g. record { attribute = g.attribute.0; to = shift p g.to })) in
      let count = c.nodes_are in
      let arcs = c.arcs_are in
      (omega (arith, long, size, count), omega (arith, weight, whole, arcs))

-- ---- a block of an arena

module _ (v : Shown) (s : IsShown v) (b : ℕ) (nodes : List (List Feature)) (has : HasBlock v b nodes) (alone : IsOwnBlock nodes) where
  abbrev place : ℕ
  place = length has.before.structure

  pub block_held : (o : ℕ) → o < length nodes → IsHeld v b o
  block_held o below =
      let w = with_block has.before nodes in
      let size : get_or w.sizes (length has.before.sizes) 0 ≡ length nodes = ap (λ k. get_or w.sizes k 0) (let e : length has.before.sizes ≡ length has.before.sizes + 0 = omega arith in e) ∙ get_or-append-add has.before.sizes (length nodes ∷ []) 0 0 in
      subst (λ c. IsHeld v c o) has.number (still_held w v has.extends (length has.before.sizes) o (omega (arith, size, below)))

  block_number : (o : ℕ) → number_of v b o ≡ place + o
  block_number o =
      let w = with_block has.before nodes in
      let old = held_anywhere has.before nodes alone in
      ap (λ c. number_of v c o) (sym has.number)
      ∙ (same_number w v has.extends (length has.before.sizes) o (omega (arith, length-append has.before.sizes (length nodes ∷ [])))
      ∙ (same_number has.before w (block_extends has.before has.shown nodes alone.block old) (length has.before.sizes) o (omega arith)
      ∙ new_number has.before has.shown nodes alone.block old o))

  block_placed : IsPlacedAt v.structure place nodes
  block_placed =
      let w = with_block has.before nodes in
      subst (λ S. IsPlacedAt S place nodes) (sym has.extends.structure.1) (placed_longer w.structure has.extends.structure.0 place nodes (placed_new has.before has.shown nodes alone))

  block_value : (r : Ref) → IsOwn (length nodes) r → ref_of v b r ≡ shift place r
  block_value = ref_shifted v b place (length nodes) block_number

  -- a value of the block is the same where it stands
  pub block_value_same : (r : Ref) → IsOwn (length nodes) r → Same v.structure (ref_of v b r) (own_nodes nodes) (own_value r)
  block_value_same r h = subst (λ x. Same v.structure x (own_nodes nodes) (own_value r)) (sym (block_value r h)) (placed_same v.structure place nodes alone block_placed r h)

  pub block_bounds : (r : Ref) → IsOwn (length nodes) r → (n a : ℕ) → n ≡ length nodes → a ≡ sum_by length nodes → Bounds v (ref_of v b r) n a
  block_bounds r h n a count arcs = λ m c k.
      let i = placed_bounds v.structure place nodes alone block_placed (shift place r) (own_inside v.structure place nodes alone block_placed (length nodes) (omega arith) r h) m c (subst (λ x. Counts v.structure x m c) (block_value r h) k) in
      (omega (arith, i.0, count), omega (arith, i.1, arcs))

  pub block_least : (o : ℕ) → o < length nodes → (cs : List ℕ) (es : List Equation) → AreWithin (length cs) es → IsLeastAt (length cs) es nodes o → IsLeastOf (RuleAt (variant cs es)) v.structure (Node (number_of v b o))
  block_least o below cs es within least =
      same_least cs es within (own_nodes nodes) (Node o) v.structure (Node (number_of v b o)) s.structure (held_below v s b o (block_held o below)) ((block_value_same (ref.New o) below).1, (block_value_same (ref.New o) below).0) (least.least cs refl)
