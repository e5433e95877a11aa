-- The steps of the search for a map.
use Rattle.std.proofs.Common.{◌≡◌, inl, inr, ℕ, ◌+◌, ◌<◌, ◌↔◌, Bool, true, false, cond, nat_eq, eqb-true, IsTrue, List, [], ◌∷◌, ◌++◌, length, length-append, drop, get_or, Option, Some, None, option_map, option_and_then, refl, sym, ap, ◌∙◌, subst, arith}
use Rattle.std.proofs.lemmas.List.{append_assoc, drop_more, length-map}
use Rattle.std.specs.Map.{lookup}
use Rattle.std.specs.HashMap as hash
use Rattle.std.specs.HashMap.{HashMap}
use Rattle.patr_model.specs.Structure as structure
use Rattle.patr_model.specs.Structure.{Arcs, Structure, Node, IsValue, arc, arcs_of}
use Rattle.patr_model.specs.Subsumption.{MapsInto}
use Rattle.patr_model.specs.Pairs.{IsOnPairs, Pair, Waits, left_over, pair, pairs_of, set_image}
use Rattle.patr_model.specs.Laws.{MapsByPairs}
use Rattle.patr_model.proofs.Pairs.{maps_by_pairs}
use Rattle.patr_arena.specs.declared.value.Addr.{Addr}
use Rattle.patr_arena.specs.declared.value.Value.{Value}
use Rattle.patr_arena.specs.declared.value.Value.TheVariants as value
use Rattle.patr_arena.specs.declared.value.Feature.{Feature}
use Rattle.patr_arena.specs.Paths.{FoundIsHeld, found_of}
use Rattle.patr_arena.specs.Shown.{Shown, IsShown, AllHeld, ValueIsHeld, arcs_from, number_of, ref_of, value_of}
use Rattle.patr_arena.specs.Mapping.{HasPushed, ImagesAreHeld, IsSettled, PairsAreHeld, images_at, pairs_at}
use Rattle.patr_arena.proofs.Addresses.{value_below, value_tells}
use Rattle.patr_arena.proofs.Arcs.{nowhere}

-- one arc's pair more
pub pair_step : (S : Structure) (y z x : structure.Value) (a : ℕ) (es all : Arcs) (ps : List Pair) → arc S y a ≡ Some z
    → pairs_of S y all ≡ option_map (λ qs. ps ++ qs) (pairs_of S y (record { attribute = a; to = x } ∷ es))
    → pairs_of S y all ≡ option_map (λ qs. (ps ++ pair x z ∷ []) ++ qs) (pairs_of S y es)
pair_step S y z x a es all ps found e =
    e ∙ (ap (λ o. option_map (λ qs. ps ++ qs) (option_and_then (λ u. option_map (λ qs. pair x u ∷ qs) (pairs_of S y es)) o)) found ∙ joined (pairs_of S y es))
  where
    joined : (o : Option (List Pair)) → option_map (λ qs. ps ++ qs) (option_map (λ qs. pair x z ∷ qs) o) ≡ option_map (λ qs. (ps ++ pair x z ∷ []) ++ qs) o
    joined None = refl
    joined (Some qs) = ap Some (sym (append_assoc ps (pair x z ∷ []) qs))

pub pairs_push : (v : Shown) (old : List (Value × Value)) (x y : Value) → pairs_at v (old ++ (x, y) ∷ []) ≡ pairs_at v old ++ pair (value_of v x) (value_of v y) ∷ []
pairs_push v [] x y = refl
pairs_push v (p ∷ old) x y = ap (λ ps. pair (value_of v p.0) (value_of v p.1) ∷ ps) (pairs_push v old x y)

pub held_push : (v : Shown) (old : List (Value × Value)) (x y : Value) → PairsAreHeld v old → ValueIsHeld v x → ValueIsHeld v y → PairsAreHeld v (old ++ (x, y) ∷ [])
held_push v [] x y h a b = (a, b, tt)
held_push v (p ∷ old) x y h a b = (h.0, h.1, held_push v old x y h.2 a b)

held_split : (v : Shown) (old : List (Value × Value)) (x y : Value) → PairsAreHeld v (old ++ (x, y) ∷ []) → PairsAreHeld v old × ValueIsHeld v x × ValueIsHeld v y
held_split v [] x y h = (tt, h.0, h.1)
held_split v (p ∷ old) x y h = let rest = held_split v old x y h.2 in ((h.0, h.1, rest.0), rest.1, rest.2)

pub held_pop : (v : Shown) (all old : List (Value × Value)) (x y : Value) → all ≡ old ++ (x, y) ∷ [] → PairsAreHeld v all → PairsAreHeld v old × ValueIsHeld v x × ValueIsHeld v y
held_pop v all old x y e h = held_split v old x y (subst (PairsAreHeld v) e h)

-- what is known in the midst of a node's arcs
abbrev pub PushedSoFar : Shown → Value → Arcs → List (Value × Value) → List (Value × Value) → Arcs → Type 0
PushedSoFar v y all old now rest = (ps : List Pair) × (pairs_at v now ≡ pairs_at v old ++ ps) × (pairs_of v.structure (value_of v y) all ≡ option_map (λ qs. ps ++ qs) (pairs_of v.structure (value_of v y) rest))

pub arc_pushed : (v : Shown) (b : ℕ) (y : Value) (all : Arcs) (fs : List Feature) (i : ℕ) (d : Feature) (old now new : List (Value × Value)) (x z : Value) → i < length fs
    → PushedSoFar v y all old now (arcs_from v b (drop i fs)) → Some (value_of v z) ≡ arc v.structure (value_of v y) (get_or fs i d).attribute.0 → value_of v x ≡ ref_of v b (get_or fs i d).to → new ≡ now ++ (x, z) ∷ []
    → PushedSoFar v y all old new (arcs_from v b (drop (i + 1) fs))
arc_pushed v b y all fs i d old now new x z inside far found leads is_new = (
  far.0 ++ pair (value_of v x) (value_of v z) ∷ [],
  ap (pairs_at v) is_new ∙ (pairs_push v now x z ∙ (ap (λ ps. ps ++ pair (value_of v x) (value_of v z) ∷ []) far.1 ∙ append_assoc (pairs_at v old) far.0 (pair (value_of v x) (value_of v z) ∷ []))),
  subst (λ (u : structure.Value). pairs_of v.structure (value_of v y) all ≡ option_map (λ qs. (far.0 ++ pair u (value_of v z) ∷ []) ++ qs) (pairs_of v.structure (value_of v y) (arcs_from v b (drop (i + 1) fs)))) (sym leads) step,
)
  where
    step : pairs_of v.structure (value_of v y) all ≡ option_map (λ qs. (far.0 ++ pair (ref_of v b (get_or fs i d).to) (value_of v z) ∷ []) ++ qs) (pairs_of v.structure (value_of v y) (arcs_from v b (drop (i + 1) fs)))
    step = pair_step v.structure (value_of v y) (value_of v z) (ref_of v b (get_or fs i d).to) (get_or fs i d).attribute.0 (arcs_from v b (drop (i + 1) fs)) all far.0 (sym found)
        (far.2 ∙ ap (λ (gs : List Feature). option_map (λ qs. far.0 ++ qs) (pairs_of v.structure (value_of v y) (arcs_from v b gs))) (drop_more fs i d inside))

pub rest_held : (v : Shown) (b : ℕ) (fs : List Feature) (i : ℕ) → i < length fs → AllHeld v b (drop i fs) → AllHeld v b (drop (i + 1) fs)
rest_held v b fs i inside h = (subst (AllHeld v b) (drop_more fs i nowhere inside) h).1

pub nothing_waits : {A : Type 0} (xs : List A) → 0 ≡ length xs → xs ≡ []
nothing_waits [] e = refl
nothing_waits (x ∷ xs) e = absurd (omega (arith, e))

-- the order of two parts does not matter
waits_left : (ps qs : List Pair) (x y : structure.Value) → Waits ps x y → Waits (ps ++ qs) x y
waits_left [] qs x y h = absurd h
waits_left (p ∷ ps) qs x y (inl h) = inl h
waits_left (p ∷ ps) qs x y (inr h) = inr (waits_left ps qs x y h)

waits_right : (ps qs : List Pair) (x y : structure.Value) → Waits qs x y → Waits (ps ++ qs) x y
waits_right [] qs x y h = h
waits_right (p ∷ ps) qs x y h = inr (waits_right ps qs x y h)

pub waits_turned : (ps qs : List Pair) (x y : structure.Value) → Waits (ps ++ qs) x y → Waits (qs ++ ps) x y
waits_turned [] qs x y h = waits_left qs [] x y h
waits_turned (p ∷ ps) qs x y (inl h) = waits_right qs (p ∷ ps) x y (inl h)
waits_turned (p ∷ ps) qs x y (inr h) = behind (qs ++ ps) qs ps (waits_turned ps qs x y h)
  where
    behind : (rs qs ps : List Pair) → Waits (qs ++ ps) x y → Waits (qs ++ p ∷ ps) x y
    behind rs [] ps h = inr h
    behind rs (q ∷ qs) ps (inl h) = inl h
    behind rs (q ∷ qs) ps (inr h) = inr (behind rs qs ps h)

pub not_so : IsTrue false → ⊥
not_so e = cc

module _ (v : Shown) (s : IsShown v) where
  by_pairs : (from to : structure.Value) → IsValue v.structure to → MapsByPairs v.structure from v.structure to
  by_pairs from to h = maps_by_pairs v.structure from v.structure to s.structure s.structure h

  -- the pair of an atom
  pub settle_atom : {Z : Type 0} (m : HashMap ℕ Value Z) (left right : Value) (c : _) (w : List (Value × Value)) (b : Bool) → left ≡ value.Atom c → IsTrue b ↔ (left ≡ right)
      → ValueIsHeld v left → ValueIsHeld v right → ImagesAreHeld v m → PairsAreHeld v w → IsSettled v m m left right w w b
  settle_atom m left right c w true is_atom test hl hr images held = record {
    images_held = images;
    pairs_held = held;
    pairs = λ from to k on.
        (by_pairs from to k).atom (images_at v m) (pairs_at v w) c.0
        (subst (λ (p : Pair). IsOnPairs v.structure from v.structure to (images_at v m) (p ∷ pairs_at v w))
        (λ i. pair (value_of v (is_atom i)) (value_of v ((sym (test.0 refl) ∙ is_atom) i))) on);
    fewer = refl;
  }
  settle_atom m left right c w false is_atom test hl hr images held = λ from to k on.
      (by_pairs from to k).other_atom (images_at v m) (pairs_at v w) c.0 (value_of v right)
      (subst (λ (x : Value). IsOnPairs v.structure from v.structure to (images_at v m) (pair (value_of v x) (value_of v right) ∷ pairs_at v w)) is_atom on)
      (λ same. not_so (test.1 (value_tells v left right hl hr (ap (value_of v) is_atom ∙ same))))

  -- the image of a node that had one stays
  same_images : {Z : Type 0} (m n : HashMap ℕ Value Z) (k : ℕ) (z : Value) → ((q : ℕ) → hash.get nat_eq n q ≡ cond (nat_eq k q) (Some z) (hash.get nat_eq m q)) → hash.get nat_eq m k ≡ Some z → (q : ℕ) → hash.get nat_eq n q ≡ hash.get nat_eq m q
  same_images m n k z updates had q = go (nat_eq k q) refl
    where
      go : (t : Bool) → nat_eq k q ≡ t → hash.get nat_eq n q ≡ hash.get nat_eq m q
      go true e = updates q ∙ (ap (λ t. cond t (Some z) (hash.get nat_eq m q)) e ∙ (sym had ∙ ap (hash.get nat_eq m) (eqb-true k q e)))
      go false e = updates q ∙ ap (λ t. cond t (Some z) (hash.get nat_eq m q)) e

  -- the pair of a node that has an image
  pub settle_known : {Z : Type 0} (m n : HashMap ℕ Value Z) (left right image : Value) (at : Addr) (k : ℕ) (w : List (Value × Value)) (b : Bool) → left ≡ value.Node at → k ≡ number_of v at.block at.offset
      → Some image ≡ hash.get nat_eq m k → ((q : ℕ) → hash.get nat_eq n q ≡ cond (nat_eq k q) (Some right) (hash.get nat_eq m q)) → IsTrue b ↔ (image ≡ right)
      → ValueIsHeld v right → ImagesAreHeld v m → PairsAreHeld v w → IsSettled v m n left right w w b
  settle_known m n left right image at k w true is_node place had updates test hr images held =
      let had_right : hash.get nat_eq m k ≡ Some right = sym had ∙ ap Some (test.0 refl) in
      let same = same_images m n k right updates had_right in
      let all : images_at v n ≡ images_at v m = λ i q. found_of v (same q i) in
      record {
        images_held = λ q. subst (FoundIsHeld v) (sym (same q)) (images q);
        pairs_held = held;
        pairs = λ from to h on.
            subst (λ f. IsOnPairs v.structure from v.structure to f (pairs_at v w)) (sym all)
            ((by_pairs from to h).known (images_at v m) (pairs_at v w) (number_of v at.block at.offset) (value_of v right)
            (subst (λ (x : Value). IsOnPairs v.structure from v.structure to (images_at v m) (pair (value_of v x) (value_of v right) ∷ pairs_at v w)) is_node on)
            (ap (images_at v m) (sym place) ∙ ap (found_of v) had_right));
        fewer = ap (λ f. length w + left_over f 0 v.structure) all;
      }
  settle_known m n left right image at k w false is_node place had updates test hr images held = λ from to h on.
      (by_pairs from to h).other (images_at v m) (pairs_at v w) (number_of v at.block at.offset) (value_of v right) (value_of v image)
      (subst (λ (x : Value). IsOnPairs v.structure from v.structure to (images_at v m) (pair (value_of v x) (value_of v right) ∷ pairs_at v w)) is_node on)
      (ap (images_at v m) (sym place) ∙ ap (found_of v) (sym had))
      (λ same. not_so (test.1 (value_tells v image right (subst (FoundIsHeld v) (sym had) (images k)) hr same)))

  -- the node's image is put in
  new_images : {Z : Type 0} (m n : HashMap ℕ Value Z) (k : ℕ) (z : Value) → ((q : ℕ) → hash.get nat_eq n q ≡ cond (nat_eq k q) (Some z) (hash.get nat_eq m q)) → (q : ℕ) → images_at v n q ≡ set_image (images_at v m) k (value_of v z) q
  new_images m n k z updates q = ap (found_of v) (updates q) ∙ (apart (nat_eq k q) ∙ ap (λ t. cond t (Some (value_of v z)) (images_at v m q)) (turned k q))
    where
      apart : (t : Bool) → found_of v (cond t (Some z) (hash.get nat_eq m q)) ≡ cond t (Some (value_of v z)) (images_at v m q)
      apart true = refl
      apart false = refl

      turned : (k q : ℕ) → nat_eq k q ≡ nat_eq q k
      turned k q = grind arith

  new_held : {Z : Type 0} (m n : HashMap ℕ Value Z) (k : ℕ) (z : Value) → ((q : ℕ) → hash.get nat_eq n q ≡ cond (nat_eq k q) (Some z) (hash.get nat_eq m q)) → ValueIsHeld v z → ImagesAreHeld v m → ImagesAreHeld v n
  new_held m n k z updates h images q = subst (FoundIsHeld v) (sym (updates q)) (go (nat_eq k q))
    where
      go : (t : Bool) → FoundIsHeld v (cond t (Some z) (hash.get nat_eq m q))
      go true = h
      go false = images q

  -- the pair of a node without an image
  pub settle_new : {Z : Type 0} (m n : HashMap ℕ Value Z) (left right : Value) (at : Addr) (k : ℕ) (w rest : List (Value × Value)) (b : Bool) → left ≡ value.Node at → k ≡ number_of v at.block at.offset
      → None ≡ hash.get nat_eq m k → ((q : ℕ) → hash.get nat_eq n q ≡ cond (nat_eq k q) (Some right) (hash.get nat_eq m q)) → HasPushed v (number_of v at.block at.offset) right w rest b
      → ValueIsHeld v right → ImagesAreHeld v m → IsSettled v m n left right w rest b
  settle_new m n left right at k w rest true is_node place none updates pushed hr images =
      let node = number_of v at.block at.offset in
      let empty : images_at v m node ≡ None = ap (images_at v m) (sym place) ∙ ap (found_of v) (sym none) in
      let all : images_at v n ≡ set_image (images_at v m) node (value_of v right) = (λ i q. new_images m n k right updates q i) ∙ ap (λ j. set_image (images_at v m) j (value_of v right)) place in
      record {
        images_held = new_held m n k right updates hr images;
        pairs_held = pushed.3;
        pairs = λ from to h on.
            subst (λ f. IsOnPairs v.structure from v.structure to f (pairs_at v rest)) (sym all)
            (subst (λ ps. IsOnPairs v.structure from v.structure to (set_image (images_at v m) node (value_of v right)) ps) (sym pushed.2)
            ((by_pairs from to h).reordered (set_image (images_at v m) node (value_of v right)) (pushed.0 ++ pairs_at v w) (pairs_at v w ++ pushed.0) (waits_turned pushed.0 (pairs_at v w)) (waits_turned (pairs_at v w) pushed.0)
            ((by_pairs from to h).new (images_at v m) (pairs_at v w) node (value_of v right) pushed.0
            (subst (λ (x : Value). IsOnPairs v.structure from v.structure to (images_at v m) (pair (value_of v x) (value_of v right) ∷ pairs_at v w)) is_node on) empty pushed.1)));
        fewer =
            let counted = (by_pairs (value_of v right) (value_of v right) (value_below v s right hr)).measure (images_at v m) (pairs_at v w) node (value_of v right) pushed.0 empty pushed.1 in
            let new = ap (λ f. left_over f 0 v.structure) all in
            let both = length-append (pairs_at v w) pushed.0 in
            let turned = length-append pushed.0 (pairs_at v w) in
            let size = ap length pushed.2 in
            let few = length-map rest (λ p. pair (value_of v p.0) (value_of v p.1)) in
            let were = length-map w (λ p. pair (value_of v p.0) (value_of v p.1)) in
            omega (arith, counted, new, both, turned, size, few, were);
      }
  settle_new m n left right at k w rest false is_node place none updates pushed hr images = λ from to h on.
      (by_pairs from to h).no_arc (images_at v m) (pairs_at v w) (number_of v at.block at.offset) (value_of v right)
      (subst (λ (x : Value). IsOnPairs v.structure from v.structure to (images_at v m) (pair (value_of v x) (value_of v right) ∷ pairs_at v w)) is_node on) pushed

  -- the first pair
  pub start : {Z : Type 0} (m : HashMap ℕ Value Z) (x y : Value) → ((q : ℕ) → hash.get nat_eq m q ≡ None) → ValueIsHeld v y → IsOnPairs v.structure (value_of v x) v.structure (value_of v y) (images_at v m) (pairs_at v ((x, y) ∷ []))
  start m x y none h = subst (λ f. IsOnPairs v.structure (value_of v x) v.structure (value_of v y) f (pairs_at v ((x, y) ∷ []))) (λ i q. found_of v (sym (none q) i)) (by_pairs (value_of v x) (value_of v y) (value_below v s y h)).start

  -- the last pair comes first
  pub last_first : (f : ℕ → Option structure.Value) (from to : structure.Value) → IsValue v.structure to → (all w : List (Value × Value)) (x y : Value) → all ≡ w ++ (x, y) ∷ [] → IsOnPairs v.structure from v.structure to f (pairs_at v all)
      → IsOnPairs v.structure from v.structure to f (pair (value_of v x) (value_of v y) ∷ pairs_at v w)
  last_first f from to h all w x y e on =
      let one = pair (value_of v x) (value_of v y) ∷ [] in
      (by_pairs from to h).reordered f (pairs_at v w ++ one) (one ++ pairs_at v w) (waits_turned (pairs_at v w) one) (waits_turned one (pairs_at v w)) (subst (λ ps. IsOnPairs v.structure from v.structure to f ps) (ap (pairs_at v) e ∙ pairs_push v w x y) on)

  pub ended : (f : ℕ → Option structure.Value) (from to : structure.Value) → IsValue v.structure to → IsOnPairs v.structure from v.structure to f [] → MapsInto v.structure from v.structure to
  ended f from to h on = (by_pairs from to h).end f on

pub lookup_empty : {Z : Type 0} (m : HashMap ℕ Value Z) → hash.IsEmpty m → (q : ℕ) → hash.get nat_eq m q ≡ None
lookup_empty m empty q = ap (lookup (nat_eq q)) empty
