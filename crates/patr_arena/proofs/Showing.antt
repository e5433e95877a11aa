-- What blocks show, one behind another.
use Rattle.std.proofs.Common.{◌≡◌, ◌⊎◌, inl, inr, ℕ, zero, suc, ◌+◌, ◌<◌, ◌≤◌, Bool, true, false, cond, nat_eq, List, [], ◌∷◌, ◌++◌, length, length-append, map, take, get_or, Some, refl, sym, ap, ◌∙◌, subst, arith}
use Rattle.std.proofs.lemmas.List.{append_assoc, append-nil, length-map, get_or_append_left, get_or-append-add, take_all, take-append-le}
use Rattle.std.proofs.lemmas.Option.{none-some}
use Rattle.std.proofs.Math.ListN.{get_or-map}
use Rattle.std.specs.List.{sum}
use Rattle.std.specs.List.Sorted.{IsStrictlyIncreasing}
use Rattle.patr_model.specs.Structure.{Value, Node, along, IsBelow}
use Rattle.patr_arena.specs.declared.value.Ref.{Ref}
use Rattle.patr_arena.specs.declared.value.Ref.TheVariants as ref
use Rattle.patr_arena.specs.declared.value.Feature.{Feature}
use Rattle.patr_arena.specs.Shown.{Shown, IsShown, IsHeld, RefIsHeld, AllHeld, number_of, ref_of, arc_from, arcs_from}
use Rattle.patr_arena.specs.Blocks.{AllBelow, AllOldHeld, AreBlocks, Extends, IsBlock, LeadsBelow, OldIsHeld, OldRefIsHeld, attributes, with_block, with_blocks}
use Rattle.patr_arena.proofs.Rises.{rising_distinct}
use Rattle.patr_arena.proofs.Sizes.{held_front, place_below, sum_push}

pub held_below : (v : Shown) → IsShown v → (b o : ℕ) → IsHeld v b o → number_of v b o < length v.structure
held_below v s b o h = let whole = s.whole in let place = place_below v.sizes b o h in omega (arith, whole, place)

-- what was shown is shown still
module _ (v : Shown) (w : Shown) (e : Extends v w) where
  pub still_held : (b o : ℕ) → IsHeld v b o → IsHeld w b o
  still_held b o h = subst (λ n. o < n) (sym (ap (λ s. get_or s b 0) e.sizes.1 ∙ get_or_append_left v.sizes e.sizes.0 0 b (held_front v.sizes b o h))) h

  pub same_number : (b o : ℕ) → b ≤ length v.sizes → number_of w b o ≡ number_of v b o
  same_number b o h = ap (λ s. sum s + o) (ap (take b) e.sizes.1 ∙ take-append-le b v.sizes e.sizes.0 h)

  pub same_number_held : (b o : ℕ) → IsHeld v b o → number_of w b o ≡ number_of v b o
  same_number_held b o h = let front = held_front v.sizes b o h in same_number b o (omega (arith, front))

  same_ref : (b : ℕ) → b ≤ length v.sizes → (r : Ref) → OldRefIsHeld v r → ref_of w b r ≡ ref_of v b r
  same_ref b m (ref.Atom c) h = refl
  same_ref b m (ref.Old at) h = ap Node (same_number_held at.block at.offset h)
  same_ref b m (ref.New k) h = ap Node (same_number b k m)

  pub same_arcs : (b : ℕ) → b ≤ length v.sizes → (fs : List Feature) → AllOldHeld v fs → arcs_from w b fs ≡ arcs_from v b fs
  same_arcs b m [] h = refl
  same_arcs b m (f ∷ fs) h = ap (λ x. record { attribute = f.attribute.0; to = x } ∷ arcs_from w b fs) (same_ref b m f.to h.0) ∙ ap (λ es. arc_from v b f ∷ es) (same_arcs b m fs h.1)

  pub still_all_held : (b : ℕ) (fs : List Feature) → AllHeld v b fs → AllHeld w b fs
  still_all_held b [] h = tt
  still_all_held b (f ∷ fs) h = (go f.to h.0, still_all_held b fs h.1)
    where
      go : (r : Ref) → RefIsHeld v b r → RefIsHeld w b r
      go (ref.Atom c) h = tt
      go (ref.Old at) h = still_held at.block at.offset h
      go (ref.New k) h = still_held b k h

  pub same_node : (n : ℕ) → n < length v.structure → get_or w.structure n [] ≡ get_or v.structure n []
  same_node n h = ap (λ s. get_or s n []) e.structure.1 ∙ get_or_append_left v.structure e.structure.0 [] n h

pub old_of_all : (v : Shown) (b : ℕ) (fs : List Feature) → AllHeld v b fs → AllOldHeld v fs
old_of_all v b [] h = tt
old_of_all v b (f ∷ fs) h = (go f.to h.0, old_of_all v b fs h.1)
  where
    go : (r : Ref) → RefIsHeld v b r → OldRefIsHeld v r
    go (ref.Atom c) h = tt
    go (ref.Old at) h = h
    go (ref.New k) h = tt

-- a block behind what is shown
module _ (v : Shown) (s : IsShown v) (nodes : List (List Feature)) (block : IsBlock nodes) (old : OldIsHeld v nodes) where
  pub block_extends : Extends v (with_block v nodes)
  block_extends = record { sizes = (length nodes ∷ [], refl); structure = (map (arcs_from v (length v.sizes)) nodes, refl) }

  -- the new nodes' places are those behind the old ones
  pub new_number : (o : ℕ) → number_of v (length v.sizes) o ≡ length v.structure + o
  new_number o = ap (λ k. k + o) (ap sum (take_all (length v.sizes) v.sizes (omega arith)) ∙ s.whole)

  pub new_node : (n : ℕ) → get_or (with_block v nodes).structure (length v.structure + n) [] ≡ arcs_from v (length v.sizes) (get_or nodes n [])
  new_node n = get_or-append-add v.structure (map (arcs_from v (length v.sizes)) nodes) n [] ∙ get_or-map (arcs_from v (length v.sizes)) nodes n []

  ref_below : (n : ℕ) (r : Ref) → LeadsBelow n r → OldRefIsHeld v r → IsBelow (length v.structure + n) (ref_of v (length v.sizes) r)
  ref_below n (ref.Atom c) b h = tt
  ref_below n (ref.Old at) b h = let below = held_below v s at.block at.offset h in omega (arith, below)
  ref_below n (ref.New k) b h = let here = new_number k in omega (arith, here, b)

  arcs_below : (n : ℕ) (fs : List Feature) → AllBelow n fs → AllOldHeld v fs → (a : ℕ) (x : Value) → along (arcs_from v (length v.sizes) fs) a ≡ Some x → IsBelow (length v.structure + n) x
  arcs_below n [] b h a x e = absurd (none-some x e)
  arcs_below n (f ∷ fs) b h a x e = go (nat_eq f.attribute.0 a) e (arcs_below n fs b.1 h.1 a x)
    where
      inside : (y : Value) → Some y ≡ Some x → y ≡ x
      inside y q = cc

      go : (t : Bool) → cond t (Some (ref_of v (length v.sizes) f.to)) (along (arcs_from v (length v.sizes) fs) a) ≡ Some x
          → (along (arcs_from v (length v.sizes) fs) a ≡ Some x → IsBelow (length v.structure + n) x) → IsBelow (length v.structure + n) x
      go true q rest = subst (IsBelow (length v.structure + n)) (inside (ref_of v (length v.sizes) f.to) q) (ref_below n f.to b.0 h.0)
      go false q rest = rest q

  same_attributes : (fs : List Feature) → map (λ e. e.attribute) (arcs_from v (length v.sizes) fs) ≡ attributes fs
  same_attributes [] = refl
  same_attributes (f ∷ fs) = ap (λ xs. f.attribute.0 ∷ xs) (same_attributes fs)

  -- a place is an old one or a new one
  place_cases : (n : ℕ) → (n < length v.structure) ⊎ ((k : ℕ) × (n ≡ length v.structure + k))
  place_cases n = go n (length v.structure)
    where
      go : (n m : ℕ) → (n < m) ⊎ ((k : ℕ) × (n ≡ m + k))
      go n zero = inr (n, omega arith)
      go zero (suc m) = inl (omega arith)
      go (suc n) (suc m) = elim (go n m) as (λ _. (suc n < suc m) ⊎ ((k : ℕ) × (suc n ≡ suc m + k))) [ inl h ↦ inl (omega (arith, h)) | inr h ↦ inr (h.0, let e = h.1 in omega (arith, e)) ]

  rising_node : (n : ℕ) → (n < length v.structure) ⊎ ((k : ℕ) × (n ≡ length v.structure + k)) → IsStrictlyIncreasing (map (λ e. e.attribute) (get_or (with_block v nodes).structure n []))
  rising_node n (inl h) = subst (λ es. IsStrictlyIncreasing (map (λ e. e.attribute) es)) (sym (same_node v (with_block v nodes) block_extends n h)) (s.rising n)
  rising_node n (inr h) =
      subst (λ es. IsStrictlyIncreasing (map (λ e. e.attribute) es)) (sym (ap (λ k. get_or (with_block v nodes).structure k []) h.1 ∙ new_node h.0))
      (subst IsStrictlyIncreasing (sym (same_attributes (get_or nodes h.0 []))) (block.rising h.0))

  lower_node : (n : ℕ) → (n < length v.structure) ⊎ ((k : ℕ) × (n ≡ length v.structure + k)) → (a : ℕ) (x : Value) → along (get_or (with_block v nodes).structure n []) a ≡ Some x → IsBelow n x
  lower_node n (inl h) a x e = s.structure.lower n a x (ap (λ es. along es a) (sym (same_node v (with_block v nodes) block_extends n h)) ∙ e)
  lower_node n (inr h) a x e =
      subst (λ k. IsBelow k x) (sym h.1)
      (arcs_below h.0 (get_or nodes h.0 []) (block.below h.0) (old h.0) a x (ap (λ es. along es a) (sym (ap (λ k. get_or (with_block v nodes).structure k []) h.1 ∙ new_node h.0)) ∙ e))

  pub block_shown : IsShown (with_block v nodes)
  block_shown = record {
    structure = record {
      distinct = λ n. rising_distinct (get_or (with_block v nodes).structure n []) (rising_node n (place_cases n));
      lower = λ n a x e. lower_node n (place_cases n) a x e;
    };
    whole = sum_push v.sizes (length nodes) ∙ counted;
    rising = λ n. rising_node n (place_cases n);
  }
    where
      counted : sum v.sizes + length nodes ≡ length (with_block v nodes).structure
      counted =
          let all = length-append v.structure (map (arcs_from v (length v.sizes)) nodes) in
          let new = length-map nodes (arcs_from v (length v.sizes)) in
          let whole = s.whole in
          omega (arith, all, new, whole)

  -- the new nodes' arcs lead to what is held
  all_held : (n : ℕ) → n < length nodes → (fs : List Feature) → AllBelow n fs → AllOldHeld v fs → AllHeld (with_block v nodes) (length v.sizes) fs
  all_held n m [] b h = tt
  all_held n m (f ∷ fs) b h = (go f.to b.0 h.0, all_held n m fs b.1 h.1)
    where
      size : get_or (with_block v nodes).sizes (length v.sizes) 0 ≡ length nodes
      size = ap (λ k. get_or (with_block v nodes).sizes k 0) (plus_zero (length v.sizes)) ∙ get_or-append-add v.sizes (length nodes ∷ []) 0 0
        where
          plus_zero : (k : ℕ) → k ≡ k + 0
          plus_zero k = omega arith

      go : (r : Ref) → LeadsBelow n r → OldRefIsHeld v r → RefIsHeld (with_block v nodes) (length v.sizes) r
      go (ref.Atom c) b h = tt
      go (ref.Old at) b h = still_held v (with_block v nodes) block_extends at.block at.offset h
      go (ref.New k) b h = omega (arith, b, m, size)

  pub new_held : (n : ℕ) → n < length nodes → AllHeld (with_block v nodes) (length v.sizes) (get_or nodes n [])
  new_held n m = all_held n m (get_or nodes n []) (block.below n) (old n)

-- blocks behind what is shown
pub blocks_shown : (v : Shown) → IsShown v → (blocks : List (List (List Feature))) → AreBlocks v blocks → IsShown (with_blocks v blocks)
blocks_shown v s [] are = s
blocks_shown v s (nodes ∷ blocks) are = blocks_shown (with_block v nodes) (block_shown v s nodes are.0 are.1) blocks are.2

pub extends_on : (u v w : Shown) → Extends u v → Extends v w → Extends u w
extends_on u v w e f = record {
  sizes = (e.sizes.0 ++ f.sizes.0, f.sizes.1 ∙ (ap (λ s. s ++ f.sizes.0) e.sizes.1 ∙ append_assoc u.sizes e.sizes.0 f.sizes.0));
  structure = (e.structure.0 ++ f.structure.0, f.structure.1 ∙ (ap (λ s. s ++ f.structure.0) e.structure.1 ∙ append_assoc u.structure e.structure.0 f.structure.0));
}

pub extends_same : (v : Shown) → Extends v v
extends_same v = record { sizes = ([], sym (append-nil v.sizes)); structure = ([], sym (append-nil v.structure)) }

pub blocks_extend : (v : Shown) (blocks : List (List (List Feature))) → Extends v (with_blocks v blocks)
blocks_extend v [] = extends_same v
blocks_extend v (nodes ∷ blocks) =
    extends_on v (with_block v nodes) (with_blocks (with_block v nodes) blocks)
    (record { sizes = (length nodes ∷ [], refl); structure = (map (arcs_from v (length v.sizes)) nodes, refl) })
    (blocks_extend (with_block v nodes) blocks)

-- the sizes are those of the blocks
pub blocks_sizes : (v : Shown) (blocks : List (List (List Feature))) → (with_blocks v blocks).sizes ≡ v.sizes ++ map length blocks
blocks_sizes v [] = sym (append-nil v.sizes)
blocks_sizes v (nodes ∷ blocks) = blocks_sizes (with_block v nodes) blocks ∙ append_assoc v.sizes (length nodes ∷ []) (map length blocks)

-- a node of a block is found among what is shown
pub node_of_block : (v : Shown) → IsShown v → (blocks : List (List (List Feature))) → AreBlocks v blocks → (k n : ℕ) → n < length (get_or blocks k [])
    → (get_or (with_blocks v blocks).structure (number_of (with_blocks v blocks) (length v.sizes + k) n) [] ≡ arcs_from (with_blocks v blocks) (length v.sizes + k) (get_or (get_or blocks k []) n []))
    × AllHeld (with_blocks v blocks) (length v.sizes + k) (get_or (get_or blocks k []) n [])
node_of_block v s [] are k n h = absurd (omega arith)
node_of_block v s (nodes ∷ blocks) are zero n h = subst (λ b. Found b) (plus_zero (length v.sizes)) (found, held)
  where
    w : Shown
    w = with_blocks (with_block v nodes) blocks

    Found : ℕ → Type 0
    Found b = (get_or w.structure (number_of w b n) [] ≡ arcs_from w b (get_or nodes n [])) × AllHeld w b (get_or nodes n [])

    plus_zero : (k : ℕ) → k ≡ k + 0
    plus_zero k = omega arith

    shown : IsShown (with_block v nodes)
    shown = block_shown v s nodes are.0 are.1

    extends : Extends (with_block v nodes) w
    extends = blocks_extend (with_block v nodes) blocks

    here : AllHeld (with_block v nodes) (length v.sizes) (get_or nodes n [])
    here = new_held v s nodes are.0 are.1 n h

    few : length v.sizes ≤ length (with_block v nodes).sizes
    few = let all = length-append v.sizes (length nodes ∷ []) in omega (arith, all)

    number : number_of w (length v.sizes) n ≡ length v.structure + n
    number = same_number (with_block v nodes) w extends (length v.sizes) n few
        ∙ (same_number v (with_block v nodes) (block_extends v s nodes are.0 are.1) (length v.sizes) n (omega arith) ∙ new_number v s nodes are.0 are.1 n)

    inside : length v.structure + n < length (with_block v nodes).structure
    inside = let all = length-append v.structure (map (arcs_from v (length v.sizes)) nodes) in let new = length-map nodes (arcs_from v (length v.sizes)) in omega (arith, all, new, h)

    found : get_or w.structure (number_of w (length v.sizes) n) [] ≡ arcs_from w (length v.sizes) (get_or nodes n [])
    found = ap (λ i. get_or w.structure i []) number
        ∙ (same_node (with_block v nodes) w extends (length v.structure + n) inside
        ∙ (new_node v s nodes are.0 are.1 n
        ∙ (sym (same_arcs v (with_block v nodes) (block_extends v s nodes are.0 are.1) (length v.sizes) (omega arith) (get_or nodes n []) (are.1 n))
        ∙ sym (same_arcs (with_block v nodes) w extends (length v.sizes) few (get_or nodes n []) (old_of_all (with_block v nodes) (length v.sizes) (get_or nodes n []) here)))))

    held : AllHeld w (length v.sizes) (get_or nodes n [])
    held = still_all_held (with_block v nodes) w extends (length v.sizes) (get_or nodes n []) here
node_of_block v s (nodes ∷ blocks) are (suc k) n h =
    subst (λ b. (get_or w.structure (number_of w b n) [] ≡ arcs_from w b (get_or (get_or blocks k []) n [])) × AllHeld w b (get_or (get_or blocks k []) n []))
    (let all = length-append v.sizes (length nodes ∷ []) in omega (arith, all))
    (node_of_block (with_block v nodes) (block_shown v s nodes are.0 are.1) blocks are.2 k n h)
  where
    w : Shown
    w = with_blocks (with_block v nodes) blocks

-- a node without new addresses behind others
pub old_push : (v : Shown) (nodes : List (List Feature)) (arcs : List Feature) → OldIsHeld v nodes → AllOldHeld v arcs → OldIsHeld v (nodes ++ arcs ∷ [])
old_push v [] arcs old h zero = h
old_push v [] arcs old h (suc n) = tt
old_push v (first ∷ nodes) arcs old h zero = old 0
old_push v (first ∷ nodes) arcs old h (suc n) = old_push v nodes arcs (λ k. old (suc k)) h n
