-- The least value of one more equation.
use Rattle.std.proofs.Common.{◌≡◌, inl, inr, ℕ, zero, suc, ◌+◌, ◌<◌, ◌≤◌, cond, List, [], ◌∷◌, ◌++◌, length, length-append, map, get_or, replicate, take, drop, Option, None, Some, refl, sym, ap, ◌∙◌, arith, subst, eq-eqb, ne_eqb}
use Rattle.patr_library.proofs.Names.{eq-or-lt_of_le, get_there, append_assoc, map-append, length-replicate, take_more, take-append-drop, IsStrictlyIncreasing, Value, Node, Arcs, Structure, IsValue, IsStructure, along, arc, MapsInto, Same, TakesBoth, IsUnifier, Equation, slots_from, variant, RuleAt, IsLeastOf, AreWithin, IsWithin, blank_slots, nodes_from, carries_arc, maps_reflexive, maps_transitive, rule_carried, variant_steps, Ref, Feature, attributes, rising_tail, own_value, own_arcs, own_nodes, pointed, AllOwn, IsOwn, IsOwnBlock, IsRooted, IsStatement, slot_features, HasSlot, IsLeastAt, IsNew, HasNone, AreUnified, IsSolvedIn, Pointed, Shown, value_of}
use Rattle.patr_arena.specs.declared.value.Value as its
use Rattle.patr_model.specs.Variants.{equation_at}
use Rattle.patr_arena.specs.declared.value.Ref.TheVariants as ref
use Rattle.patr_library.proofs.Corresponding.{own_get}

-- ---- unspecified slots

pub features_more : (k n : ℕ) → slot_features k (n + 1) ≡ slot_features k n ++ record { attribute = record { 0 = k + n }; to = ref.New (k + n) } ∷ []
features_more k zero = ap (λ o. record { attribute = record { 0 = o }; to = ref.New o } ∷ []) (let e : k ≡ k + 0 = omega arith in e)
features_more k (suc n) =
    ap (slot_features k) (let e : suc n + 1 ≡ suc (n + 1) = omega arith in e)
    ∙ ap (λ l. record { attribute = record { 0 = k }; to = ref.New k } ∷ l) (features_more (suc k) n ∙ ap (λ o. slot_features (suc k) n ++ record { attribute = record { 0 = o }; to = ref.New o } ∷ []) (let e : suc k + n ≡ k + suc n = omega arith in e))

pub blanks_more : (n : ℕ) → replicate {A = List Feature} (n + 1) [] ≡ replicate n [] ++ [] ∷ []
blanks_more zero = refl
blanks_more (suc n) = ap (λ m. replicate {A = List Feature} m []) (let e : suc n + 1 ≡ suc (n + 1) = omega arith in e) ∙ ap (λ l. [] ∷ l) (blanks_more n)

attribute_at : (k n i d : ℕ) → i < n → get_or (attributes (slot_features k n)) i d ≡ k + i
attribute_at k zero i d h = absurd (omega (arith, h))
attribute_at k (suc n) zero d h = omega arith
attribute_at k (suc n) (suc i) d h = attribute_at (suc k) n i d (omega (arith, h)) ∙ (let e : suc k + i ≡ k + suc i = omega arith in e)

attributes_long : (k n : ℕ) → length (attributes (slot_features k n)) ≡ n
attributes_long k zero = refl
attributes_long k (suc n) = ap (λ m. suc m) (attributes_long (suc k) n)

pub features_rise : (k n : ℕ) → IsStrictlyIncreasing (attributes (slot_features k n))
features_rise k n = λ i h.
    let long = attributes_long k n in
    let one = attribute_at k n i 0 (omega (arith, h, long)) in
    let two = attribute_at k n (i + 1) 0 (omega (arith, h, long)) in
    omega (arith, one, two)

pub features_own : (k n m : ℕ) → k + n ≤ m → AllOwn m (slot_features k n)
features_own k zero m h = tt
features_own k (suc n) m h = (omega (arith, h), features_own (suc k) n m (omega (arith, h)))

own_blanks : (n : ℕ) → own_nodes (replicate n []) ≡ replicate n []
own_blanks zero = refl
own_blanks (suc n) = ap (λ l. [] ∷ l) (own_blanks n)

own_slots : (k n : ℕ) → own_arcs (slot_features k n) ≡ slots_from k (nodes_from k n)
own_slots k zero = refl
own_slots k (suc n) = ap (λ l. record { attribute = k; to = Node k } ∷ l) (own_slots (suc k) n)

pub blank_is_least : (n : ℕ) (nodes : List (List Feature)) (root : ℕ) → IsOwnBlock nodes → nodes ≡ replicate n [] ++ slot_features 0 n ∷ [] → root ≡ n → IsLeastAt n [] nodes root
blank_is_least n nodes root own is at = record {
  rooted = record { own = own; root = omega (arith, at, ap length is, length-append (replicate {A = List Feature} n []) (slot_features 0 n ∷ []), length-replicate {A = List Feature} n []) };
  least = λ cs count.
      let structure : own_nodes nodes ≡ (blank_slots n).nodes =
      ap own_nodes is ∙ (map-append own_arcs (replicate n []) (slot_features 0 n ∷ []) ∙ (ap (λ l. l ++ own_arcs (slot_features 0 n) ∷ []) (own_blanks n) ∙ ap (λ es. replicate n [] ++ es ∷ []) (own_slots 0 n))) in
      let place : root ≡ length (replicate {A = Arcs} n []) = at ∙ sym (length-replicate {A = Arcs} n []) in
      subst (λ S. IsLeastOf (RuleAt (variant cs [])) S (Node root)) (sym structure)
      (subst (λ k. IsLeastOf (RuleAt (variant cs [])) (blank_slots n).nodes (Node k)) (sym place)
      (subst (λ k. IsLeastOf (RuleAt (variant cs [])) (blank_slots k).nodes (blank_slots k).root) count (variant_steps.starts cs)));
}

-- ---- one equation more

pub within_left : (n : ℕ) (es fs : List Equation) → AreWithin n (es ++ fs) → AreWithin n es
within_left n [] fs h = tt
within_left n (e ∷ es) fs h = (h.0, within_left n es fs h.1)

within_last : (n : ℕ) (es : List Equation) (e : Equation) → AreWithin n (es ++ e ∷ []) → IsWithin n e
within_last n [] e h = h.0
within_last n (x ∷ es) e h = within_last n es e h.1

-- the same sides have the same unifiers
same_takes : (L : Structure) (l : Value) (R : Structure) (r : Value) (A : Structure) (α : Value) (E : Structure) (ε : Value) → MapsInto A α L l → MapsInto E ε R r
    → (G : Structure) (v : Value) → TakesBoth L l [] R r G v → TakesBoth A α [] E ε G v
same_takes L l R r A α E ε a e G v t = record {
  structure = t.structure;
  held = t.held;
  left = maps_transitive A α L l G v a t.left;
  place = t.place;
  there = t.there;
  right = maps_transitive E ε R r G t.place e t.right;
}

pub same_unifier : (L : Structure) (l : Value) (R : Structure) (r : Value) (A : Structure) (α : Value) (E : Structure) (ε : Value) → Same L l A α → Same R r E ε
    → (U : Structure) (u : Value) → IsUnifier L l [] R r U u → IsUnifier A α [] E ε U u
same_unifier L l R r A α E ε a e U u un = record {
  takes = same_takes L l R r A α E ε a.1 e.1 U u un.takes;
  least = λ G g t. un.least G g (same_takes A α E ε L l R r a.0 e.0 G g t);
}

pub same_none : (L : Structure) (l : Value) (R : Structure) (r : Value) (A : Structure) (α : Value) (E : Structure) (ε : Value) → Same L l A α → Same R r E ε
    → ((G : Structure) (v : Value) → TakesBoth L l [] R r G v → ⊥) → (G : Structure) (v : Value) → TakesBoth A α [] E ε G v → ⊥
same_none L l R r A α E ε a e none G v t = none G v (same_takes A α E ε L l R r a.0 e.0 G v t)

-- what is the same as a least value is one
pub same_least : (cs : List ℕ) (es : List Equation) → AreWithin (length cs) es → (U : Structure) (u : Value) (C : Structure) (c : Value) → IsStructure C → IsValue C c → Same U u C c
    → IsLeastOf (RuleAt (variant cs es)) U u → IsLeastOf (RuleAt (variant cs es)) C c
same_least cs es w U u C c s h same least = record {
  structure = s;
  held = h;
  holds = rule_carried cs es U u C c w least.holds same.0 s;
  least = λ G v g held p. maps_transitive C c U u G v same.1 (least.least G v g held p);
}

pub swap : (S : Structure) (v : Value) (G : Structure) (w : Value) → Same S v G w → Same G w S v
swap S v G w s = (s.1, s.0)

-- where the value so far and the equation have a unifier, it is the next value, and else there is none
pub least_more : (slots : ℕ) (es : List Equation) (e : Equation) (v w : Shown) (x : its.Value) (right : List (List Feature)) (r : Ref) (o : Option its.Value)
    → IsSolvedIn v slots es (Some x) → AreWithin slots (es ++ e ∷ []) → IsStatement e (pointed right r) → AreUnified v w x right r o → IsSolvedIn w slots (es ++ e ∷ []) o
least_more slots es e v w x right r o so_far within stated made = go o made
  where
    E : Pointed
    E = stated.stated

    inside : (cs : List ℕ) → length cs ≡ slots → AreWithin (length cs) (es ++ e ∷ [])
    inside cs count = subst (λ n. AreWithin n (es ++ e ∷ [])) (sym count) within

    left : (cs : List ℕ) → length cs ≡ slots → Same v.structure (value_of v x) v.structure (value_of v x)
    left cs count =
        let l = so_far.1 cs count in
        let m = maps_reflexive v.structure (value_of v x) l.structure l.held in (m, m)

    right_same : Same (own_nodes right) (own_value r) E.nodes E.root
    right_same = swap E.nodes E.root (own_nodes right) (own_value r) stated.same

    go : (o : Option its.Value) → AreUnified v w x right r o → IsSolvedIn w slots (es ++ e ∷ []) o
    go None none = λ cs count.
        variant_steps.refuses cs es e E v.structure (value_of v x) (within_last (length cs) es e (inside cs count)) stated.is (so_far.1 cs count)
        (same_none v.structure (value_of v x) (own_nodes right) (own_value r) v.structure (value_of v x) E.nodes E.root (left cs count) right_same none)
    go (Some y) un = (
      un.slots,
      λ cs count.
          variant_steps.adds cs es e E v.structure (value_of v x) w.structure (value_of w y) (within_left (length cs) es (e ∷ []) (inside cs count)) (within_last (length cs) es e (inside cs count)) stated.is (so_far.1 cs count)
          (same_unifier v.structure (value_of v x) (own_nodes right) (own_value r) v.structure (value_of v x) E.nodes E.root (left cs count) right_same w.structure (value_of w y) un.unifier),
    )

pub none_at_once : (slots : ℕ) (es : List Equation) (e : Equation) → equation_at e ≡ None → HasNone slots (es ++ e ∷ [])
none_at_once slots es e h = λ cs count. variant_steps.refuses_at_once cs es e h

pub none_still : (slots : ℕ) (es fs : List Equation) → HasNone slots es → HasNone slots (es ++ fs)
none_still slots es fs h = λ cs count. variant_steps.keeps_refusing cs es fs (h cs count)

-- ---- the equations so far

pub all_of : {X : Type 0} (f : X → Equation) (s : List Equation) (xs : List X) (i : ℕ) → s ++ map f xs ≡ (s ++ map f (take i xs)) ++ map f (drop i xs)
all_of f s xs i = ap (λ l. s ++ map f l) (sym (take-append-drop i xs)) ∙ (ap (λ l. s ++ l) (map-append f (take i xs) (drop i xs)) ∙ sym (append_assoc s (map f (take i xs)) (map f (drop i xs))))

-- with one more
pub taken_more : {X : Type 0} (f : X → Equation) (n : ℕ) (s : List Equation) (xs : List X) (i : ℕ) (x : X) → i < length xs → x ≡ get_or xs i x → AreWithin n (s ++ map f xs)
    → (s ++ map f (take (i + 1) xs) ≡ (s ++ map f (take i xs)) ++ f x ∷ []) × AreWithin n ((s ++ map f (take i xs)) ++ f x ∷ [])
taken_more f n s xs i x h is w =
    let taken = ap (map f) (take_more xs i x h) ∙ (map-append f (take i xs) (get_or xs i x ∷ []) ∙ ap (λ y. map f (take i xs) ++ f y ∷ []) (sym is)) in
    let more = ap (λ l. s ++ l) taken ∙ sym (append_assoc s (map f (take i xs)) (f x ∷ [])) in
    (more, subst (AreWithin n) more (within_left n (s ++ map f (take (i + 1) xs)) (map f (drop (i + 1) xs)) (subst (AreWithin n) (all_of f s xs (i + 1)) w)))

-- ---- the first slot

-- where there are slots, there is a first one
pub first_slot : (S : Structure) (v : Value) (slots : ℕ) (es : List Equation) → 0 < slots → ((cs : List ℕ) → length cs ≡ slots → IsLeastOf (RuleAt (variant cs es)) S v) → HasSlot S v
first_slot S v slots es some least =
    let cs = replicate slots 0 in
    let count = length-replicate {A = ℕ} slots 0 in
    let holds = (least cs count).holds in
    let x = get_there holds.0 0 (omega (arith, some, holds.1.count, count)) in
    (x.0, holds.2 0 x.0 x.1)

-- a value into which a node with a first slot maps has one, so it is a node
pub still_new : (S : Structure) (x : Value) (nodes : List (List Feature)) (r : Ref) → HasSlot S x → MapsInto S x (own_nodes nodes) (own_value r) → IsRooted nodes r → IsNew r
still_new S x nodes r slot into rooted =
    let z = carries_arc S (own_nodes nodes) into.by into.is_map x (own_value r) into.root 0 slot.0 slot.1 in
    go r rooted.root z.0 z.2
  where
    go : (r : Ref) → IsOwn (length nodes) r → (w : Value) → arc (own_nodes nodes) (own_value r) 0 ≡ Some w → IsNew r
    go (ref.Atom c) own w e = cc
    go (ref.Old at) own w e = absurd own
    go (ref.New k) own w e = tt

-- no arc behind another one has the attribute 0
later_none : (low : ℕ) (fs : List Feature) → IsStrictlyIncreasing (low ∷ attributes fs) → along (own_arcs fs) 0 ≡ None
later_none low [] rising = refl
later_none low (f ∷ fs) rising =
    ap (λ b. cond b (Some (own_value f.to)) (along (own_arcs fs) 0)) (ne_eqb f.attribute.0 0 (λ e. omega (arith, e, rising 0 (omega arith)))) ∙ later_none f.attribute.0 fs (rising_tail low (attributes (f ∷ fs)) rising)

-- so the arc of the first slot stands first
pub slot_first : (nodes : List (List Feature)) (root : ℕ) (d : Feature) → IsOwnBlock nodes → HasSlot (own_nodes nodes) (Node root)
    → (0 < length (get_or nodes root [])) × (arc (own_nodes nodes) (Node root) 0 ≡ Some (own_value (get_or (get_or nodes root []) 0 d).to))
slot_first nodes root d own slot =
    let fs = get_or nodes root [] in
    let r = go fs (own.block.rising root) slot.0 (ap (λ es. along es 0) (sym (own_get nodes root)) ∙ slot.1) in
    (r.0, ap (λ es. along es 0) (own_get nodes root) ∙ r.1)
  where
    go : (fs : List Feature) → IsStrictlyIncreasing (attributes fs) → (x : Value) → along (own_arcs fs) 0 ≡ Some x → (0 < length fs) × (along (own_arcs fs) 0 ≡ Some (own_value (get_or fs 0 d).to))
    go [] rising x e = cc
    go (f ∷ fs) rising x e = (
      omega arith,
      elim (eq-or-lt_of_le {n = 0} {m = f.attribute.0} (omega arith)) [
        | inl z ↦ ap (λ b. cond b (Some (own_value f.to)) (along (own_arcs fs) 0)) (eq-eqb f.attribute.0 0 (sym z))
        | inr p ↦
            let none : along (own_arcs (f ∷ fs)) 0 ≡ None = ap (λ b. cond b (Some (own_value f.to)) (along (own_arcs fs) 0)) (ne_eqb f.attribute.0 0 (λ e. omega (arith, e, p))) ∙ later_none f.attribute.0 fs rising in
            let bad : None ≡ Some x = sym none ∙ e in
            cc
      ],
    )
