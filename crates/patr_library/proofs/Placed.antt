-- Blocks without old addresses, by themselves and where they stand in an arena.
use Rattle.std.proofs.Common.{◌≡◌, ℕ, zero, suc, ◌<◌, List, [], ◌∷◌, ◌++◌, length, length-append, get_or, drop, refl, sym, ap, ◌∙◌, arith, inl, inr, ◌+◌, ◌-◌, ◌≤◌, Bool, true, false, cond, nat_eq, nat_lt, lt-ltb, le-ltb, ltb-true, ltb-false, map, Option, Some, None, slice_get, subst}
use Rattle.patr_library.proofs.Names.{length-map, map-append, append_assoc, append-nil, IsStrictlyIncreasing, Node, Pointed, topped, to_value, Id, Ref, Feature, Shown, AllBelow, AllOldHeld, LeadsBelow, OldRefIsHeld, OldIsHeld, attributes, ids, own_arcs, own_nodes, pointed, IsOwn, AllOwn, IsOwnBlock, IsRooted, IsLedTo, get_parts, cond_some, get_or_append_left, get_or-append-add, Value, Structure, along, IsBelow, IsValue, IsStructure, Same, some_inj, Addr, IsShown, IsHeld, RefIsHeld, number_of, ref_of, arcs_from, IsBlock, with_block, still_held, same_number, same_number_held, block_extends, new_number, new_node, rising_distinct, own_value, ArePlaces, offsets_of, shift, shifted, IsPlacedAt, IsImage, AreCopies, Corresponds}
use Rattle.patr_library.proofs.Corresponding.{same, own_get}
use Rattle.patr_arena.specs.declared.value.Ref.TheVariants as ref

pub own_below : (n : ℕ) (fs : List Feature) → AllOwn n fs → AllBelow n fs
own_below n [] h = tt
own_below n (f ∷ fs) h = (go f.to h.0, own_below n fs h.1)
  where
    go : (r : Ref) → IsOwn n r → LeadsBelow n r
    go (ref.Atom c) h = tt
    go (ref.Old at) h = tt
    go (ref.New k) h = h

pub own_ref_held : (v : Shown) (n : ℕ) (r : Ref) → IsOwn n r → OldRefIsHeld v r
own_ref_held v n (ref.Atom c) h = tt
own_ref_held v n (ref.Old at) h = absurd h
own_ref_held v n (ref.New k) h = tt

pub own_old : (v : Shown) (n : ℕ) (fs : List Feature) → AllOwn n fs → AllOldHeld v fs
own_old v n [] h = tt
own_old v n (f ∷ fs) h = (own_ref_held v n f.to h.0, own_old v n fs h.1)

-- a block without old addresses may stand behind whatever is shown
pub held_anywhere : (v : Shown) (nodes : List (List Feature)) → IsOwnBlock nodes → OldIsHeld v nodes
held_anywhere v nodes own = λ n. own_old v n (get_or nodes n []) (own.own n)

-- what holds of each node holds with one more
pushed : (P : ℕ → List Feature → Type 0) (nodes : List (List Feature)) (fs : List Feature) → ((n : ℕ) → P n (get_or nodes n [])) → P (length nodes) fs → (n : ℕ) → P n (get_or (nodes ++ fs ∷ []) n [])
pushed P [] fs h k zero = k
pushed P [] fs h k (suc n) = h (suc n)
pushed P (x ∷ nodes) fs h k zero = h zero
pushed P (x ∷ nodes) fs h k (suc n) = pushed (λ m. P (suc m)) nodes fs (λ m. h (suc m)) k n

pub own_push : (nodes : List (List Feature)) (fs : List Feature) → IsStrictlyIncreasing (attributes fs) → AllOwn (length nodes) fs → IsOwnBlock nodes → IsOwnBlock (nodes ++ fs ∷ [])
own_push nodes fs rising own old = record {
  block = record {
    rising = pushed (λ n gs. IsStrictlyIncreasing (attributes gs)) nodes fs old.block.rising rising;
    below = pushed (λ n gs. AllBelow n gs) nodes fs old.block.below (own_below (length nodes) fs own);
  };
  own = pushed AllOwn nodes fs old.own own;
}

pub empty_own : IsOwnBlock []
empty_own = record { block = record { rising = λ n i h. absurd (omega (arith, h)); below = λ n. tt }; own = λ n. tt }

pub pointed_is : (nodes : List (List Feature)) (fs : List Feature) → topped (own_nodes nodes) (own_arcs fs) ≡ pointed (nodes ++ fs ∷ []) (ref.New (length nodes))
pointed_is nodes fs =
    ap (λ l. record { nodes = l; root = Node (length (own_nodes nodes)) }) (sym (map-append own_arcs nodes (fs ∷ [])))
    ∙ ap (λ n. record { nodes = own_nodes (nodes ++ fs ∷ []); root = Node n }) (length-map nodes own_arcs)

-- no nodes lead to the value itself
pub led_none : (old : List (List Feature)) (to : Ref) → IsRooted old to → IsLedTo old to [] old to
led_none old to r = record { rooted = r; longer = ([], sym (append-nil old)); is = refl }

-- one more node in front
pub led_more : (old : List (List Feature)) (to : Ref) (path : List ℕ) (new : List (List Feature)) (root : Ref) (a : Id) (new2 : List (List Feature)) → IsLedTo old to path new root
    → new2 ≡ new ++ (record { attribute = a; to = root } ∷ []) ∷ [] → IsOwnBlock new2 → IsLedTo old to (a.0 ∷ path) new2 (ref.New (length new))
led_more old to path new root a new2 l is own =
    let f : List Feature = record { attribute = a; to = root } ∷ [] in
    record {
      rooted = record { own = own; root = omega (arith, ap length is, length-append new (f ∷ [])) };
      longer = (l.longer.0 ++ f ∷ [], is ∙ (ap (λ l. l ++ f ∷ []) l.longer.1 ∙ append_assoc old l.longer.0 (f ∷ [])));
      is = ap (λ (x : Pointed). topped x.nodes (to_value a.0 x.root ∷ [])) l.is ∙ (pointed_is new f ∙ ap (λ n. pointed n (ref.New (length new))) (sym is));
    }

pub drop_one : (xs : List Id) (i : ℕ) (d : Id) → i < length xs → ids (drop i xs) ≡ (get_or xs i d).0 ∷ ids (drop (suc i) xs)
drop_one [] i d h = absurd (omega (arith, h))
drop_one (x ∷ xs) zero d h = refl
drop_one (x ∷ xs) (suc i) d h = drop_one xs i d (omega (arith, h))

-- ---- a block is a structure

own_attributes : (fs : List Feature) → map (λ e. e.attribute) (own_arcs fs) ≡ attributes fs
own_attributes [] = refl
own_attributes (f ∷ fs) = ap (λ l. f.attribute.0 ∷ l) (own_attributes fs)

own_lower : (n : ℕ) (fs : List Feature) → AllOwn n fs → (a : ℕ) (x : Value) → along (own_arcs fs) a ≡ Some x → IsBelow n x
own_lower n [] h a x e = cc
own_lower n (f ∷ fs) h a x e = go (nat_eq f.attribute.0 a) (own_lower n fs h.1 a x) e
  where
    below : (r : Ref) → IsOwn n r → IsBelow n (own_value r)
    below (ref.Atom c) k = tt
    below (ref.Old at) k = absurd k
    below (ref.New j) k = k

    go : (b : Bool) → (along (own_arcs fs) a ≡ Some x → IsBelow n x) → cond b (Some (own_value f.to)) (along (own_arcs fs) a) ≡ Some x → IsBelow n x
    go true rest k = subst (IsBelow n) (some_inj (own_value f.to) x k) (below f.to h.0)
    go false rest k = rest k

pub own_structure : (nodes : List (List Feature)) → IsOwnBlock nodes → IsStructure (own_nodes nodes)
own_structure nodes own = record {
  distinct = λ n. rising_distinct (get_or (own_nodes nodes) n []) (subst (λ es. IsStrictlyIncreasing (map (λ e. e.attribute) es)) (sym (own_get nodes n)) (subst IsStrictlyIncreasing (sym (own_attributes (get_or nodes n []))) (own.block.rising n)));
  lower = λ n a x e. own_lower n (get_or nodes n []) (own.own n) a x (ap (λ es. along es a) (sym (own_get nodes n)) ∙ e);
}

pub own_is_value : (nodes : List (List Feature)) (r : Ref) → IsOwn (length nodes) r → IsValue (own_nodes nodes) (own_value r)
own_is_value nodes (ref.Atom c) h = tt
own_is_value nodes (ref.Old at) h = absurd h
own_is_value nodes (ref.New k) h = omega (arith, h, length-map nodes own_arcs)

-- ---- a block that stands from a place on

module _ (p m : ℕ) where
  to_own : ℕ → Option ℕ
  to_own n = cond (nat_lt n p) None (cond (nat_lt (n - p) m) (Some (n - p)) None)

  from_own : ℕ → Option ℕ
  from_own k = cond (nat_lt k m) (Some (p + k)) None

  to_own_at : (k : ℕ) → k < m → to_own (p + k) ≡ Some k
  unfolding to_own
  to_own_at k h =
      let e : (p + k) - p ≡ k = omega arith in
      ap (λ b. cond b None (cond (nat_lt ((p + k) - p) m) (Some ((p + k) - p)) None)) (le-ltb (p + k) p (omega arith))
      ∙ (ap (λ j. cond (nat_lt j m) (Some j) None) e ∙ ap (λ b. cond b (Some k) None) (lt-ltb k m h))

  from_own_at : (k : ℕ) → k < m → from_own k ≡ Some (p + k)
  unfolding from_own
  from_own_at k h = ap (λ b. cond b (Some (p + k)) None) (lt-ltb k m h)

  to_own_is : (n k : ℕ) → to_own n ≡ Some k → (n ≡ p + k) × (k < m)
  unfolding to_own
  to_own_is n k h = first (nat_lt n p) refl h
    where
      first : (b : Bool) → nat_lt n p ≡ b → cond b None (cond (nat_lt (n - p) m) (Some (n - p)) None) ≡ Some k → (n ≡ p + k) × (k < m)
      first true t e = cc
      first false t e =
          let s = cond_some (nat_lt (n - p) m) (n - p) k e in
          let below = ltb-true (n - p) m s.0 in
          let above = ltb-false n p t in
          (omega (arith, s.1, above), omega (arith, s.1, below))

  from_own_is : (k n : ℕ) → from_own k ≡ Some n → (n ≡ p + k) × (k < m)
  unfolding from_own
  from_own_is k n h = let s = cond_some (nat_lt k m) (p + k) n h in (sym s.1, ltb-true k m s.0)

  own_image : (r : Ref) → IsOwn m r → IsImage to_own (shift p r) r
  own_image (ref.Atom c) h = refl
  own_image (ref.Old at) h = absurd h
  own_image (ref.New k) h = to_own_at k h

  own_copies : (n : ℕ) → n ≤ m → (fs : List Feature) → AllOwn n fs → AreCopies to_own (shifted p fs) fs
  own_copies n l [] h = tt
  own_copies n l (f ∷ fs) h = (refl, own_image f.to (wider f.to h.0), own_copies n l fs h.1)
    where
      wider : (r : Ref) → IsOwn n r → IsOwn m r
      wider (ref.Atom c) k = tt
      wider (ref.Old at) k = absurd k
      wider (ref.New j) k = omega (arith, k, l)

pub placed_same : (S : Structure) (p : ℕ) (nodes : List (List Feature)) → IsOwnBlock nodes → IsPlacedAt S p nodes → (r : Ref) → IsOwn (length nodes) r → Same S (shift p r) (own_nodes nodes) (own_value r)
placed_same S p nodes own placed r h = same S nodes (to_own p (length nodes)) (from_own p (length nodes)) both (shift p r) r (own_image p (length nodes) r h)
  where
    both : Corresponds S nodes (to_own p (length nodes)) (from_own p (length nodes))
    both = record {
      forth = λ n k e.
          let i = to_own_is p (length nodes) n k e in (
            i.1,
            omega (arith, i.0, i.1, placed.within),
            from_own_at p (length nodes) k i.1 ∙ ap (λ j. Some j) (sym i.0),
            subst (λ j. AreCopies (to_own p (length nodes)) (get_or S j []) (get_or nodes k [])) (sym i.0)
                (subst (λ es. AreCopies (to_own p (length nodes)) es (get_or nodes k [])) (sym (placed.each k i.1)) (own_copies p (length nodes) k (omega (arith, i.1)) (get_or nodes k []) (own.own k))),
          );
      back = λ k n e. let i = from_own_is p (length nodes) k n e in ap (to_own p (length nodes)) i.0 ∙ to_own_at p (length nodes) k i.1;
    }

pub placed_longer : (S N : Structure) (p : ℕ) (nodes : List (List Feature)) → IsPlacedAt S p nodes → IsPlacedAt (S ++ N) p nodes
placed_longer S N p nodes placed = record {
  within = omega (arith, placed.within, length-append S N);
  each = λ k h. get_or_append_left S N [] (p + k) (omega (arith, h, placed.within)) ∙ placed.each k h;
}

-- where the block's nodes stand from a place on, its arcs lead there
pub ref_shifted : (v : Shown) (b p m : ℕ) → ((o : ℕ) → number_of v b o ≡ p + o) → (r : Ref) → IsOwn m r → ref_of v b r ≡ shift p r
ref_shifted v b p m e (ref.Atom c) h = refl
ref_shifted v b p m e (ref.Old at) h = absurd h
ref_shifted v b p m e (ref.New k) h = ap Node (e k)

arcs_shifted : (v : Shown) (p m : ℕ) → ((o : ℕ) → number_of v (length v.sizes) o ≡ p + o) → (fs : List Feature) → AllOwn m fs → arcs_from v (length v.sizes) fs ≡ shifted p fs
arcs_shifted v p m e [] h = refl
arcs_shifted v p m e (f ∷ fs) h = ap (λ x. record { attribute = f.attribute.0; to = x } ∷ arcs_from v (length v.sizes) fs) (ref_shifted v (length v.sizes) p m e f.to h.0) ∙ ap (λ es. record { attribute = f.attribute.0; to = shift p f.to } ∷ es) (arcs_shifted v p m e fs h.1)

pub placed_new : (v : Shown) → IsShown v → (nodes : List (List Feature)) → IsOwnBlock nodes → IsPlacedAt (with_block v nodes).structure (length v.structure) nodes
placed_new v s nodes own =
    let old = held_anywhere v nodes own in
    record {
      within = omega (arith, length-append v.structure (map (arcs_from v (length v.sizes)) nodes), length-map nodes (arcs_from v (length v.sizes)));
      each = λ k h. new_node v s nodes own.block old k ∙ arcs_shifted v (length v.structure) k (new_number v s nodes own.block old) (get_or nodes k []) (own.own k);
    }

-- ---- addresses

offset_at : (b k m i : ℕ) (at : Addr) → slice_get (offsets_of b k m) i ≡ Some at → (at ≡ record { block = b; offset = k + i }) × (i < m)
offset_at b k zero i at h = cc
offset_at b k (suc m) zero at h = (sym (some_inj (record { block = b; offset = k }) at h) ∙ ap (λ o. record { block = b; offset = o }) (let e : k ≡ k + 0 = omega arith in e), omega arith)
offset_at b k (suc m) (suc i) at h = let s = offset_at b (suc k) m i at h in (s.0 ∙ ap (λ o. record { block = b; offset = o }) (let e : suc k + i ≡ k + suc i = omega arith in e), omega (arith, s.1))

pub offsets_more : (b k n : ℕ) → offsets_of b k (n + 1) ≡ offsets_of b k n ++ record { block = b; offset = k + n } ∷ []
offsets_more b k zero = ap (λ o. record { block = b; offset = o } ∷ []) (let e : k ≡ k + 0 = omega arith in e)
offsets_more b k (suc n) =
    ap (λ m. offsets_of b k m) (let e : suc n + 1 ≡ suc (n + 1) = omega arith in e)
    ∙ ap (λ l. record { block = b; offset = k } ∷ l) (offsets_more b (suc k) n ∙ ap (λ o. offsets_of b (suc k) n ++ record { block = b; offset = o } ∷ []) (let e : suc k + n ≡ k + suc n = omega arith in e))

offsets_long : (b k n : ℕ) → length (offsets_of b k n) ≡ n
offsets_long b k zero = refl
offsets_long b k (suc n) = ap (λ m. suc m) (offsets_long b (suc k) n)

pub places_pushed : (v : Shown) → IsShown v → (nodes : List (List Feature)) → IsBlock nodes → OldIsHeld v nodes → (places : List Addr) → ArePlaces v places
    → ArePlaces (with_block v nodes) (places ++ offsets_of (length v.sizes) 0 (length nodes))
places_pushed v s nodes block old places are =
    let w = with_block v nodes in
    let more = block_extends v s nodes block old in
    record {
      long = omega (arith, length-append places (offsets_of (length v.sizes) 0 (length nodes)), offsets_long (length v.sizes) 0 (length nodes), are.long, length-append v.structure (map (arcs_from v (length v.sizes)) nodes), length-map nodes (arcs_from v (length v.sizes)));
      each = λ n at e. elim (get_parts places (offsets_of (length v.sizes) 0 (length nodes)) n at e) [
        | inl h ↦ let a = are.each n at h in (still_held v w more at.block at.offset a.0, same_number_held v w more at.block at.offset a.0 ∙ a.1)
        | inr h ↦
            let o = offset_at (length v.sizes) 0 (length nodes) h.0 at h.2 in
            let offset : at.offset ≡ h.0 = ap (λ (x : Addr). x.offset) o.0 ∙ (let e : 0 + h.0 ≡ h.0 = omega arith in e) in
            let number : at.block ≡ length v.sizes = ap (λ (x : Addr). x.block) o.0 in
            let size : get_or w.sizes (length v.sizes) 0 ≡ length nodes = ap (λ k. get_or w.sizes k 0) (let e : length v.sizes ≡ length v.sizes + 0 = omega arith in e) ∙ get_or-append-add v.sizes (length nodes ∷ []) 0 0 in (
              subst (λ b. IsHeld w b at.offset) (sym number) (omega (arith, size, offset, o.1)),
              ap (λ b. number_of w b at.offset) number ∙ (same_number v w more (length v.sizes) at.offset (omega arith) ∙ (new_number v s nodes block old at.offset ∙ omega (arith, offset, h.1, are.long))),
            )
      ];
    }

-- ---- arcs of a new block

pub ref_held : (v : Shown) → IsShown v → (nodes : List (List Feature)) → IsBlock nodes → OldIsHeld v nodes → (r : Ref) → LeadsBelow (length nodes) r → OldRefIsHeld v r → RefIsHeld (with_block v nodes) (length v.sizes) r
ref_held v s nodes block old (ref.Atom c) b h = tt
ref_held v s nodes block old (ref.Old at) b h = still_held v (with_block v nodes) (block_extends v s nodes block old) at.block at.offset h
ref_held v s nodes block old (ref.New k) b h =
    let size : get_or (with_block v nodes).sizes (length v.sizes) 0 ≡ length nodes = ap (λ k. get_or (with_block v nodes).sizes k 0) (let e : length v.sizes ≡ length v.sizes + 0 = omega arith in e) ∙ get_or-append-add v.sizes (length nodes ∷ []) 0 0 in
    omega (arith, size, b)

pub ref_same : (v : Shown) → IsShown v → (nodes : List (List Feature)) → IsBlock nodes → OldIsHeld v nodes → (r : Ref) → OldRefIsHeld v r → ref_of (with_block v nodes) (length v.sizes) r ≡ ref_of v (length v.sizes) r
ref_same v s nodes block old (ref.Atom c) h = refl
ref_same v s nodes block old (ref.Old at) h = ap Node (same_number_held v (with_block v nodes) (block_extends v s nodes block old) at.block at.offset h)
ref_same v s nodes block old (ref.New k) h = ap Node (same_number v (with_block v nodes) (block_extends v s nodes block old) (length v.sizes) k (omega arith))

pub own_shift : (v : Shown) → IsShown v → (nodes : List (List Feature)) → IsOwnBlock nodes → (r : Ref) → IsOwn (length nodes) r → ref_of v (length v.sizes) r ≡ shift (length v.structure) r
own_shift v s nodes own = ref_shifted v (length v.sizes) (length v.structure) (length nodes) (new_number v s nodes own.block (held_anywhere v nodes own))
