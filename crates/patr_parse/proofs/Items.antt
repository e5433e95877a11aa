-- The items of a library, as derivations: each stands for one that has a solution.
use Rattle.std.proofs.Common.{◌≡◌, ◌⊎◌, inl, inr, ℕ, zero, suc, ◌+◌, ◌<◌, Bool, true, false, nat_lt, ltb-true, ltb-false, List, [], ◌∷◌, length, map, Some, slice_get, refl, sym, ap, ◌∙◌, arith, subst, zero-add, eqb-true, eq-eqb}
use Rattle.std.specs.Option.{option_map}
use Rattle.std.proofs.lemmas.Option.{slice_get-map}
use Rattle.patr_lists.proofs.Alls.{all_at}
use Rattle.patr_lists.proofs.Members.{in_cases, in_left, in_right, once_append, contains_in, in_map, map_in, once_map, place_of}
use Rattle.patr_lists.specs.Numbers.{places}
use Rattle.patr_lists.specs.Members.{NoRepeats, IsIn}
use Rattle.patr_parse.proofs.Names.{Value, Structure, Rules, Derivation, Leaf, Begin, IsSolvable, IsLeastValue, IsNoPair, some_inj, variant_steps, places_pass, passes_placed, RuleItem, EntryItem, Stored, IsStored, IsRuleItem, rules_of, root_of, is_of_word, begun_at, leaves_at, leaves_from}
use Rattle.patr_model.specs.Derivation.{start, key}
use Rattle.patr_model.specs.Session as session
use Rattle.patr_model.specs.Session.{number_before, numbers}
use Rattle.patr_chart.proofs.Passing.{places_rise}
use Rattle.patr_library.specs.Stored.{Rises, IsEntryItem, is_of_mother}
use Rattle.patr_parse.specs.Begun.{begun_of, begun, leaf_of, leaf}
use Rattle.patr_parse.proofs.Numbers.{Rising, rising_once, rising_of}

-- ---- the members of a list that pass a test

module _ {X : Type 0} (test : X → Bool) (xs : List X) where
  pub placed_is : (n : ℕ) → IsIn (places test 0 xs) n → (x : X) × (slice_get xs n ≡ Some x) × (test x ≡ true)
  placed_is n h =
      let p = places_pass test 0 xs n (place_of (places test 0 xs) n n h) in
      let same : p.0 ≡ n = sym (p.2 ∙ zero-add p.0) in
      (p.1, ap (λ k. slice_get xs k) (sym same) ∙ p.3, p.4)

  pub is_placed : (n : ℕ) (x : X) → slice_get xs n ≡ Some x → test x ≡ true → IsIn (places test 0 xs) n
  is_placed n x at t = subst (λ k. IsIn (places test 0 xs) k) (zero-add n) (contains_in (places test 0 xs) (0 + n) (passes_placed test 0 xs n x at t))

  pub placed_once : NoRepeats (places test 0 xs)
  placed_once = rising_once 0 (places test 0 xs) (rising_of 0 (places test 0 xs) (λ h. omega arith) (places_rise test 0 xs))

-- ---- pairs that rise differ

abbrev Before : ℕ × ℕ → ℕ × ℕ → Type 0
Before x y = (x.0 < y.0) ⊎ ((x.0 ≡ y.0) × (x.1 < y.1))

before_on : (x y z : ℕ × ℕ) → Before x y → Before y z → Before x z
before_on x y z (inl h) (inl k) = inl (omega (arith, h, k))
before_on x y z (inl h) (inr k) = inl (let same = k.0 in omega (arith, h, same))
before_on x y z (inr h) (inl k) = inl (let same = h.0 in omega (arith, k, same))
before_on x y z (inr h) (inr k) = inr (h.0 ∙ k.0, (let a = h.1 in let b = k.1 in omega (arith, a, b)))

first_before : (x : ℕ × ℕ) (ps : List (ℕ × ℕ)) → Rises (x ∷ ps) → (n : ℕ) (y : ℕ × ℕ) → slice_get ps n ≡ Some y → Before x y
first_before x [] r n y h = cc
first_before x (z ∷ zs) r zero y h = subst (λ w. Before x w) (some_inj z y h) r.0
first_before x (z ∷ zs) r (suc n) y h = before_on x z y r.0 (first_before z zs r.1 n y h)

rises_rest : (x : ℕ × ℕ) (ps : List (ℕ × ℕ)) → Rises (x ∷ ps) → Rises ps
rises_rest x [] r = tt
rises_rest x (z ∷ zs) r = r.1

earlier_before : (ps : List (ℕ × ℕ)) → Rises ps → (m n : ℕ) (x y : ℕ × ℕ) → slice_get ps m ≡ Some x → slice_get ps n ≡ Some y → m < n → Before x y
earlier_before [] r m n x y h k b = cc
earlier_before (z ∷ zs) r m zero x y h k b = absurd (omega (arith, b))
earlier_before (z ∷ zs) r zero (suc n) x y h k b = subst (λ w. Before w y) (some_inj z x h) (first_before z zs r n y k)
earlier_before (z ∷ zs) r (suc m) (suc n) x y h k b = earlier_before zs (rises_rest z zs r) m n x y h k (omega (arith, b))

not_before_itself : (x y : ℕ × ℕ) → x.0 ≡ y.0 → x.1 ≡ y.1 → Before x y → ⊥
not_before_itself x y p q (inl h) = omega (arith, p, h)
not_before_itself x y p q (inr h) = let less = h.1 in omega (arith, q, less)

pub one_place : (ps : List (ℕ × ℕ)) → Rises ps → (m n : ℕ) (x y : ℕ × ℕ) → slice_get ps m ≡ Some x → slice_get ps n ≡ Some y → x.0 ≡ y.0 → x.1 ≡ y.1 → m ≡ n
one_place ps r m n x y h k p q = go (nat_lt m n) refl (nat_lt n m) refl
  where
    go : (a : Bool) → nat_lt m n ≡ a → (b : Bool) → nat_lt n m ≡ b → m ≡ n
    go true e b f = absurd (not_before_itself x y p q (earlier_before ps r m n x y h k (ltb-true m n e)))
    go false e true f = absurd (not_before_itself y x (sym p) (sym q) (earlier_before ps r n m y x k h (ltb-true n m f)))
    go false e false f = omega (arith, ltb-false m n e, ltb-false n m f)

get_mapped : {X Y : Type 0} (f : X → Y) (xs : List X) (n : ℕ) (x : X) → slice_get xs n ≡ Some x → slice_get (map f xs) n ≡ Some (f x)
get_mapped f xs n x h = slice_get-map f xs n ∙ ap (option_map f) h

-- ---- items

module _ (s : Stored) (stored : IsStored s) where
  abbrev g : Rules
  g = rules_of s

  pub rule_item : (n : ℕ) (item : RuleItem) → slice_get s.rules n ≡ Some item → IsRuleItem g s.shown item
  rule_item n item at = all_at (IsRuleItem g s.shown) s.rules stored.rule_items n item at

  pub entry_item : (n : ℕ) (item : EntryItem) → slice_get s.entries n ≡ Some item → IsEntryItem g s.shown item
  entry_item n item at = all_at (IsEntryItem g s.shown) s.entries stored.entry_items n item at

  -- partial or complete, by the number of daughters
  pub begun_least : (item : RuleItem) → IsRuleItem g s.shown item → (i : ℕ) → (m : Value) × IsLeastValue g (Begin item.rule item.variant i) s.shown.structure m
  begun_least item is i = go item.slots is.slots
    where
      go : (k : ℕ) → length is.variant.categories ≡ suc k → (m : Value) × IsLeastValue g (Begin item.rule item.variant i) s.shown.structure m
      go zero q =
          let c = variant_steps.complete g item.rule item.variant i is.variant s.shown.structure (root_of s.shown item) is.is (is.variant, is.is, sym q) is.least in
          (c.0, c.2)
      go (suc k) q = (root_of s.shown item, variant_steps.partial g item.rule item.variant i is.variant s.shown.structure (root_of s.shown item) is.is (is.variant, is.is, omega (arith, q)) is.least)

  solvable_of : (t : Derivation) (M : Structure) (m : Value) → IsLeastValue g t M m → IsSolvable g t
  solvable_of t M m l = (l.solution.0, l.solution.1, l.solution.2)

  pub begun_solvable : (item : RuleItem) → IsRuleItem g s.shown item → (i : ℕ) → IsSolvable g (Begin item.rule item.variant i)
  begun_solvable item is i = let m = begun_least item is i in solvable_of (Begin item.rule item.variant i) s.shown.structure m.0 m.1

  pub leaf_solvable : (item : EntryItem) → IsEntryItem g s.shown item → (i j : ℕ) → IsSolvable g (Leaf item.entry item.variant i j)
  leaf_solvable item is i j = solvable_of (Leaf item.entry item.variant i j) s.shown.structure _ (is.least i j)

  -- an item with the mother c, begun at i
  pub record IsBegun (c i : ℕ) (t : Derivation) : Type 0 where
    pub number : ℕ
    pub item : RuleItem
    pub there : slice_get s.rules number ≡ Some item
    pub mother : item.mother.0 ≡ c
    pub is : t ≡ Begin item.rule item.variant i

  begun_number : (c i n : ℕ) → IsIn (places (is_of_mother c) 0 s.rules) n → IsBegun c i (begun s i n)
  begun_number c i n h =
      let p = placed_is (is_of_mother c) s.rules n h in
      record { number = n; item = p.0; there = p.1; mother = eqb-true p.0.mother.0 c p.2; is = ap (λ o. begun_of o i) p.1 }

  pub in_begun : (c i : ℕ) (t : Derivation) → IsIn (begun_at s c i) t → IsBegun c i t
  in_begun c i t h = let a = map_in (begun s i) (places (is_of_mother c) 0 s.rules) t h in subst (λ x. IsBegun c i x) a.2 (begun_number c i a.0 a.1)

  pub begun_in : (c i n : ℕ) (item : RuleItem) → slice_get s.rules n ≡ Some item → item.mother.0 ≡ c → IsIn (begun_at s c i) (Begin item.rule item.variant i)
  begun_in c i n item at q =
      subst (λ o. IsIn (begun_at s c i) (begun_of o i)) at
      (in_map (begun s i) (places (is_of_mother c) 0 s.rules) n (is_placed (is_of_mother c) s.rules n item at (eq-eqb item.mother.0 c q)))

  pub once_begun : (c i : ℕ) → NoRepeats (begun_at s c i)
  unfolding begun_number placed_is
  once_begun c i = once_map (begun s i) (places (is_of_mother c) 0 s.rules) (placed_once (is_of_mother c) s.rules) (λ m n hm hn q.
      (let a = begun_number c i m hm in
      let b = begun_number c i n hn in
      let same = same_begin a.item.rule a.item.variant b.item.rule b.item.variant i (sym a.is ∙ (q ∙ b.is)) in
      one_place (map (λ x. (x.rule, x.variant)) s.rules) stored.rules_rise m n (a.item.rule, a.item.variant) (b.item.rule, b.item.variant)
      (get_mapped (λ (x : RuleItem). (x.rule, x.variant)) s.rules m a.item (placed_there c i m hm))
      (get_mapped (λ (x : RuleItem). (x.rule, x.variant)) s.rules n b.item (placed_there c i n hn)) same.0 same.1))
    where
      same_begin : (r k q l i : ℕ) → Begin r k i ≡ Begin q l i → (r ≡ q) × (k ≡ l)
      same_begin r k q l i e = (cc, cc)

      placed_there : (c i n : ℕ) (h : IsIn (places (is_of_mother c) 0 s.rules) n) → slice_get s.rules n ≡ Some (begun_number c i n h).item
      placed_there c i n h = (placed_is (is_of_mother c) s.rules n h).1

  pub no_pair_begun : (c i : ℕ) (t : Derivation) → IsIn (begun_at s c i) t → IsNoPair t
  no_pair_begun c i t h = let b = in_begun c i t h in subst IsNoPair (sym b.is) tt

  -- an entry of the word w, at i
  pub record IsLeaf (w i : ℕ) (t : Derivation) : Type 0 where
    pub number : ℕ
    pub item : EntryItem
    pub there : slice_get s.entries number ≡ Some item
    pub word : is_of_word s.lexicon w item ≡ true
    pub is : t ≡ Leaf item.entry item.variant i (suc i)

  leaf_number : (w i n : ℕ) → IsIn (places (is_of_word s.lexicon w) 0 s.entries) n → IsLeaf w i (leaf s i n)
  leaf_number w i n h =
      let p = placed_is (is_of_word s.lexicon w) s.entries n h in
      record { number = n; item = p.0; there = p.1; word = p.2; is = ap (λ o. leaf_of o i) p.1 }

  pub in_leaves : (w i : ℕ) (t : Derivation) → IsIn (leaves_at s w i) t → IsLeaf w i t
  in_leaves w i t h = let a = map_in (leaf s i) (places (is_of_word s.lexicon w) 0 s.entries) t h in subst (λ x. IsLeaf w i x) a.2 (leaf_number w i a.0 a.1)

  pub leaves_in : (w i n : ℕ) (item : EntryItem) → slice_get s.entries n ≡ Some item → is_of_word s.lexicon w item ≡ true → IsIn (leaves_at s w i) (Leaf item.entry item.variant i (suc i))
  leaves_in w i n item at t =
      subst (λ o. IsIn (leaves_at s w i) (leaf_of o i)) at
      (in_map (leaf s i) (places (is_of_word s.lexicon w) 0 s.entries) n (is_placed (is_of_word s.lexicon w) s.entries n item at t))

  -- the entries of a word stand by entry and variant
  leaves_rising : (i n : ℕ) (ks : List ℕ) → Rising n ks → ((k : ℕ) → IsIn ks k → (item : EntryItem) × (slice_get s.entries k ≡ Some item)) → session.Rises (map (leaf s i) ks)
  leaves_rising i n [] rises there = tt
  leaves_rising i n (k ∷ []) rises there = tt
  leaves_rising i n (k ∷ m ∷ ks) rises there = (
    go (earlier_before (map (λ x. (x.entry, x.variant)) s.entries) stored.entries_rise k m (a.0.entry, a.0.variant) (b.0.entry, b.0.variant)
        (get_mapped (λ (x : EntryItem). (x.entry, x.variant)) s.entries k a.0 a.1) (get_mapped (λ (x : EntryItem). (x.entry, x.variant)) s.entries m b.0 b.1) (let less = rises.1.0 in omega (arith, less))),
    leaves_rising i (suc k) (m ∷ ks) rises.1 (λ j h. there j (inr h)),
  )
    where
      a : (item : EntryItem) × (slice_get s.entries k ≡ Some item)
      a = there k (inl refl)

      b : (item : EntryItem) × (slice_get s.entries m ≡ Some item)
      b = there m (inr (inl refl))

      ordered : Before (a.0.entry, a.0.variant) (b.0.entry, b.0.variant) → number_before (numbers (key (Leaf a.0.entry a.0.variant i (suc i)))) (numbers (key (Leaf b.0.entry b.0.variant i (suc i))))
      ordered (inl h) = inr (refl, inl h)
      ordered (inr h) = inr (refl, inr (h.0, inl h.1))

      go : Before (a.0.entry, a.0.variant) (b.0.entry, b.0.variant) → number_before (numbers (key (leaf s i k))) (numbers (key (leaf s i m)))
      go h = subst (λ o. number_before (numbers (key (leaf_of o i))) (numbers (key (leaf s i m)))) (sym a.1) (subst (λ o. number_before (numbers (key (Leaf a.0.entry a.0.variant i (suc i)))) (numbers (key (leaf_of o i)))) (sym b.1) (ordered h))

  pub leaves_rise : (w i : ℕ) → session.Rises (leaves_at s w i)
  leaves_rise w i =
      let T = is_of_word s.lexicon w in
      leaves_rising i 0 (places T 0 s.entries) (rising_of 0 (places T 0 s.entries) (λ h. omega arith) (places_rise T 0 s.entries)) (λ k h. let p = placed_is T s.entries k h in (p.0, p.1))

  once_leaves : (w i : ℕ) → NoRepeats (leaves_at s w i)
  unfolding leaf_number placed_is
  once_leaves w i = once_map (leaf s i) (places (is_of_word s.lexicon w) 0 s.entries) (placed_once (is_of_word s.lexicon w) s.entries) (λ m n hm hn q.
      (let a = leaf_number w i m hm in
      let b = leaf_number w i n hn in
      let same = same_leaf a.item.entry a.item.variant b.item.entry b.item.variant i (suc i) (sym a.is ∙ (q ∙ b.is)) in
      one_place (map (λ x. (x.entry, x.variant)) s.entries) stored.entries_rise m n (a.item.entry, a.item.variant) (b.item.entry, b.item.variant)
      (get_mapped (λ (x : EntryItem). (x.entry, x.variant)) s.entries m a.item (placed_is (is_of_word s.lexicon w) s.entries m hm).1)
      (get_mapped (λ (x : EntryItem). (x.entry, x.variant)) s.entries n b.item (placed_is (is_of_word s.lexicon w) s.entries n hn).1) same.0 same.1))
    where
      same_leaf : (r k q l i j : ℕ) → Leaf r k i j ≡ Leaf q l i j → (r ≡ q) × (k ≡ l)
      same_leaf r k q l i j e = (cc, cc)

  -- an entry of one of the words
  pub record IsLeafOf (i : ℕ) (ws : List ℕ) (t : Derivation) : Type 0 where
    pub place : ℕ
    pub word : ℕ
    pub said : slice_get ws place ≡ Some word
    pub leaf : IsLeaf word (i + place) t

  pub in_words : (i : ℕ) (ws : List ℕ) (t : Derivation) → IsIn (leaves_from s i ws) t → IsLeafOf i ws t
  in_words i [] t h = absurd h
  in_words i (w ∷ ws) t h = go (in_words (suc i) ws t) (in_cases (leaves_at s w i) (leaves_from s (suc i) ws) t h)
    where
      go : (IsIn (leaves_from s (suc i) ws) t → IsLeafOf (suc i) ws t) → IsIn (leaves_at s w i) t ⊎ IsIn (leaves_from s (suc i) ws) t → IsLeafOf i (w ∷ ws) t
      go rest (inl k) = record { place = zero; word = w; said = refl; leaf = subst (λ n. IsLeaf w n t) (let e : i ≡ i + zero = omega arith in e) (in_leaves w i t k) }
      go rest (inr k) = let l = rest k in record { place = suc l.place; word = l.word; said = l.said; leaf = subst (λ n. IsLeaf l.word n t) (let e : suc i + l.place ≡ i + suc l.place = omega arith in e) l.leaf }

  pub words_in : (i : ℕ) (ws : List ℕ) (n w m : ℕ) (item : EntryItem) → slice_get ws n ≡ Some w → slice_get s.entries m ≡ Some item → is_of_word s.lexicon w item ≡ true
      → IsIn (leaves_from s i ws) (Leaf item.entry item.variant (i + n) (suc (i + n)))
  words_in i [] n w m item said at t = cc
  words_in i (u ∷ ws) zero w m item said at t =
      in_left (leaves_at s u i) (leaves_from s (suc i) ws) (Leaf item.entry item.variant (i + zero) (suc (i + zero)))
      (subst (λ k. IsIn (leaves_at s u i) (Leaf item.entry item.variant k (suc k))) (let e : i ≡ i + zero = omega arith in e)
      (leaves_in u i m item at (subst (λ x. is_of_word s.lexicon x item ≡ true) (sym (some_inj u w said)) t)))
  words_in i (u ∷ ws) (suc n) w m item said at t =
      in_right (leaves_at s u i) (leaves_from s (suc i) ws) (Leaf item.entry item.variant (i + suc n) (suc (i + suc n)))
      (subst (λ k. IsIn (leaves_from s (suc i) ws) (Leaf item.entry item.variant k (suc k))) (let e : suc i + n ≡ i + suc n = omega arith in e) (words_in (suc i) ws n w m item said at t))

  pub once_words : (i : ℕ) (ws : List ℕ) → NoRepeats (leaves_from s i ws)
  once_words i [] = tt
  once_words i (w ∷ ws) =
      once_append (leaves_at s w i) (leaves_from s (suc i) ws) (once_leaves w i) (once_words (suc i) ws) (λ t h k.
      (let a = in_leaves w i t h in
      let b = in_words (suc i) ws t k in
      let same : i ≡ suc i + b.place = ap start (sym a.is ∙ b.leaf.is) in omega (arith, same)))
