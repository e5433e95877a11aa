-- A block behind the nodes by which it was made, and behind more nodes.
use Rattle.std.proofs.Common.{◌≡◌, ◌⊎◌, inl, inr, ℕ, ◌+◌, ◌-◌, ◌<◌, ◌≤◌, Bool, true, false, cond, nat_eq, nat_lt, ltb-true, ltb-false, lt-ltb, List, [], ◌∷◌, length, length-append, map, get_or, Option, Some, None, refl, sym, ap, ◌∙◌, arith}
use Rattle.std.specs.Option.{option_map}
use Rattle.std.specs.List.{sum}
use Rattle.std.proofs.lemmas.List.{length-map, get_or_append_left, get_or-append-add, take_all}
use Rattle.std.proofs.Math.ListN.{get_or-map}
use Rattle.std.proofs.lemmas.Bool.{le-ltb}
use Rattle.patr_parse.proofs.Names.{Value, Atom, Node, Structure, arc, IsValue, arc_of_longer, arc_value, Ref, Feature, Shown, IsShown, number_of, Extends, with_block, held_below, same_number_held, own, made_of}
use Rattle.patr_model.specs.Structure.{along}
use Rattle.patr_arena.specs.declared.value.Ref.TheVariants as ref
use Rattle.patr_arena.specs.Shown.{ref_of, arc_from, arcs_from}
use Rattle.patr_arena.specs.Blocks.{AllOldHeld, OldIsHeld, OldRefIsHeld}
use Rattle.patr_arena.proofs.Showing.{same_number}
use Rattle.patr_parse.proofs.Renumbered.{IsRenumbered, moved}

pub block_behind : (v : Shown) (block : List (List Feature)) → Extends v (with_block v block)
block_behind v block = record { sizes = (length block ∷ [], refl); structure = (map (arcs_from v (length v.sizes)) block, refl) }

made_placed : (v : Shown) (block : List (List Feature)) (r : Ref) → OldRefIsHeld v r → ref_of (with_block v block) (length v.sizes) r ≡ made_of v r
made_placed v block (ref.Atom c) h = refl
made_placed v block (ref.Old at) h = ap Node (same_number_held v (with_block v block) (block_behind v block) at.block at.offset h)
made_placed v block (ref.New k) h = ap Node (same_number v (with_block v block) (block_behind v block) (length v.sizes) k (omega arith))

-- the value that the root stands for is what the copy made
pub value_placed : (v w : Shown) (block : List (List Feature)) (r : Ref) (number : ℕ) → number ≡ length v.sizes → w ≡ with_block v block → OldRefIsHeld v r → (x : Value) → x ≡ ref_of w number r → x ≡ made_of v r
value_placed v w block r number is same h x q = q ∙ (ap (λ u. ref_of u number r) same ∙ (ap (λ n. ref_of (with_block v block) n r) is ∙ made_placed v block r h))

-- the nodes of a block stand behind the others
number_new : (v : Shown) → IsShown v → (o : ℕ) → number_of v (length v.sizes) o ≡ length v.structure + o
number_new v s o = ap (λ k. k + o) (ap sum (take_all (length v.sizes) v.sizes (omega arith)) ∙ s.whole)

node_new : (v : Shown) (nodes : List (List Feature)) (o : ℕ) → get_or (with_block v nodes).structure (length v.structure + o) [] ≡ arcs_from v (length v.sizes) (get_or nodes o [])
node_new v nodes o = get_or-append-add v.structure (map (arcs_from v (length v.sizes)) nodes) o [] ∙ get_or-map (arcs_from v (length v.sizes)) nodes o []

-- a block that was made over v, behind v and behind w
module _ (v w : Shown) (sv : IsShown v) (sw : IsShown w) (e : Extends v w) (nodes : List (List Feature)) (old : OldIsHeld v nodes) where
  abbrev P : ℕ
  P = length v.structure

  abbrev Q : ℕ
  Q = length w.structure

  longer : P ≤ Q
  longer = omega (arith, ap length e.structure.1, length-append v.structure e.structure.0)

  pub place : ℕ → ℕ
  place n = cond (nat_lt n P) n (Q + (n - P))

  pub home : ℕ → ℕ
  home n = cond (nat_lt n P) n (P + (n - Q))

  place_old : (n : ℕ) → n < P → place n ≡ n
  unfolding place
  place_old n q = ap (λ b. cond b n (Q + (n - P))) (lt-ltb n P q)

  place_new : (o : ℕ) → place (P + o) ≡ Q + o
  unfolding place
  place_new o = ap (λ b. cond b (P + o) (Q + ((P + o) - P))) (le-ltb (P + o) P (omega arith)) ∙ omega arith

  home_old : (n : ℕ) → n < P → home n ≡ n
  unfolding home
  home_old n q = ap (λ b. cond b n (P + (n - Q))) (lt-ltb n P q)

  home_new : (o : ℕ) → home (Q + o) ≡ P + o
  unfolding home
  home_new o = ap (λ b. cond b (Q + o) (P + ((Q + o) - Q))) (le-ltb (Q + o) P (omega (arith, longer))) ∙ omega arith

  -- what a reference stands for goes along
  pub ref_moved : (r : Ref) → OldRefIsHeld v r → made_of w r ≡ moved place (made_of v r)
  ref_moved (ref.Atom c) h = refl
  ref_moved (ref.Old at) h = ap Node (same_number_held v w e at.block at.offset h ∙ sym (place_old (number_of v at.block at.offset) (held_below v sv at.block at.offset h)))
  ref_moved (ref.New k) h = ap Node (number_new w sw k ∙ sym (ap place (number_new v sv k) ∙ place_new k))

  led_moved : (fs : List Feature) (a : ℕ) → AllOldHeld v fs → along (arcs_from w (length w.sizes) fs) a ≡ option_map (moved place) (along (arcs_from v (length v.sizes) fs) a)
  led_moved [] a h = refl
  led_moved (f ∷ fs) a h = go (nat_eq f.attribute.0 a) (led_moved fs a h.1)
    where
      go : (t : Bool) → along (arcs_from w (length w.sizes) fs) a ≡ option_map (moved place) (along (arcs_from v (length v.sizes) fs) a)
          → cond t (Some (made_of w f.to)) (along (arcs_from w (length w.sizes) fs) a) ≡ option_map (moved place) (cond t (Some (made_of v f.to)) (along (arcs_from v (length v.sizes) fs) a))
      go true rest = ap (λ x. Some x) (ref_moved f.to h.0)
      go false rest = rest

  stay : (o : Option Value) → ((x : Value) → o ≡ Some x → IsValue v.structure x) → o ≡ option_map (moved place) o
  stay None q = refl
  stay (Some x) q = ap (λ y. Some y) (same x (q x refl))
    where
      same : (x : Value) → IsValue v.structure x → x ≡ moved place x
      same (Atom c) h = refl
      same (Node n) h = ap Node (sym (place_old n h))

  abbrev U : Structure
  U = (with_block v nodes).structure

  abbrev W : Structure
  W = (with_block w nodes).structure

  -- a node of v, or of the block
  kind : (n : ℕ) → n < length U → (n < P) ⊎ ((o : ℕ) × (n ≡ P + o) × (o < length nodes))
  kind n q = go (nat_lt n P) refl
    where
      go : (b : Bool) → nat_lt n P ≡ b → (n < P) ⊎ ((o : ℕ) × (n ≡ P + o) × (o < length nodes))
      go true t = inl (ltb-true n P t)
      go false t =
          let long = length-append v.structure (map (arcs_from v (length v.sizes)) nodes) in let more = length-map nodes (arcs_from v (length v.sizes)) in
          inr (n - P, omega (arith, ltb-false n P t), omega (arith, ltb-false n P t, q, long, more))

  old_node : (n : ℕ) → n < P → get_or W n [] ≡ get_or U n []
  old_node n q =
      get_or_append_left w.structure (map (arcs_from w (length w.sizes)) nodes) [] n (omega (arith, q, longer))
      ∙ (ap (λ s. get_or s n []) e.structure.1 ∙ (get_or_append_left v.structure e.structure.0 [] n q ∙ sym (get_or_append_left v.structure (map (arcs_from v (length v.sizes)) nodes) [] n q)))

  pub block_moved : IsRenumbered P U W place home
  block_moved = record {
    there = λ n q. elim (kind n q) as (λ _. (place n < length W) × (home (place n) ≡ n)) [
      | inl l ↦ (
        (let long = length-append w.structure (map (arcs_from w (length w.sizes)) nodes) in omega (arith, place_old n l, l, longer, long)),
        ap home (place_old n l) ∙ home_old n l,
      )
      | inr o ↦ (
        (let long = length-append w.structure (map (arcs_from w (length w.sizes)) nodes) in
            let more = length-map nodes (arcs_from w (length w.sizes)) in
            let at = ap place o.1 ∙ place_new o.0 in let below = o.2 in omega (arith, at, below, long, more)),
        ap home (ap place o.1 ∙ place_new o.0) ∙ (home_new o.0 ∙ sym o.1),
      )
    ];
    fixed = place_old;
    arcs = λ n q a. elim (kind n q) as (λ _. arc W (Node (place n)) a ≡ option_map (moved place) (arc U (Node n) a)) [
      | inl l ↦ ap (λ k. arc W (Node k) a) (place_old n l) ∙ (ap (λ es. along es a) (old_node n l)
          ∙ stay (arc U (Node n) a) (λ x h. arc_value v.structure sv.structure (Node n) a x (sym (arc_of_longer v.structure (map (arcs_from v (length v.sizes)) nodes) (Node n) l a) ∙ h)))
      | inr o ↦ ap (λ k. arc W (Node k) a) (ap place o.1 ∙ place_new o.0) ∙ (ap (λ es. along es a) (node_new w nodes o.0)
          ∙ (led_moved (get_or nodes o.0 []) a (old o.0) ∙ ap (λ es. option_map (moved place) (along es a)) (sym (ap (λ k. get_or U k []) o.1 ∙ node_new v nodes o.0))))
    ];
    lengths = λ n q. elim (kind n q) as (λ _. length (own U n) ≡ length (own W (place n))) [
      | inl l ↦ ap length (sym (old_node n l) ∙ ap (λ k. get_or W k []) (sym (place_old n l)))
      | inr o ↦ ap (λ k. length (get_or U k [])) o.1 ∙ (ap length (node_new v nodes o.0) ∙ (length-map (get_or nodes o.0 []) (arc_from v (length v.sizes))
          ∙ (sym (length-map (get_or nodes o.0 []) (arc_from w (length w.sizes))) ∙ (sym (ap length (node_new w nodes o.0)) ∙ ap (λ k. length (get_or W k [])) (sym (ap place o.1 ∙ place_new o.0))))))
    ];
  }
