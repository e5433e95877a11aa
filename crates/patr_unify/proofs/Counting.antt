-- What a value reaches, counted node by node.
use Rattle.std.proofs.Common.{◌≡◌, ◌≢◌, ℕ, ◌+◌, ◌*◌, ◌<◌, ◌⊎◌, inl, inr, Bool, true, false, cond, nat_eq, Some, List, [], ◌∷◌, ◌++◌, length, length-append, drop, get_or, refl, sym, ap, ◌∙◌, subst, arith, eqb-true, eq-eqb, ne_eqb, true≢false}
use Rattle.std.proofs.lemmas.List.{append_assoc, drop_more, get_or-set_other, get_or-set_same, length-map, length-replicate, map-append}
use Rattle.std.proofs.lemmas.Bool.{cases_eq}
use Rattle.patr_marks.proofs.Reach.{at_more}
use Rattle.patr_lists.proofs.Members.{in_cases, in_right, in_left}
use Rattle.patr_lists.proofs.Totals.{total_change, upto_once, upto_in}
use Rattle.patr_lists.specs.Numbers.{upto}
use Rattle.patr_lists.specs.Members.{IsIn}
use Rattle.patr_model.specs.Structure.{Value, Atom, Node, Arcs, Structure, HasDistinct, IsReached, arc, at}
use Rattle.patr_model.proofs.Maps.{and_then_some}
use Rattle.patr_marks.specs.Machine.{Has, own}
use Rattle.patr_marks.proofs.Lists.{along_has, distinct_along}
use Rattle.patr_arena.specs.declared.value.Value as its
use Rattle.patr_arena.specs.declared.value.Feature.{Feature}
use Rattle.patr_arena.specs.Shown.{Shown, IsShown, ValueIsHeld, arcs_from, ref_of, value_of}
use Rattle.patr_unify.specs.Deciding.{IsReachOf}
use Rattle.patr_scratch.specs.declared.Side.TheVariants as side
use Rattle.patr_scratch.specs.declared.Visit.{Visit}
use Rattle.patr_scratch.specs.declared.Visit.TheVariants as visit
use Rattle.patr_scratch.specs.Contents.{Contents, HasPlace, KeepsRoom, PlaceMarks, begun, marks, put, unmarked}
use Rattle.patr_unify.specs.declared.reach.Reach.{Reach}
use Rattle.patr_unify.specs.Counting.{IsCounting, IsLookedAt, IsNoted, IsReaching, ValuesHeld, is_seen, seen_in, targets, values}

target_waits : (es : Arcs) (a : ℕ) (y : Value) → Has es a y → IsIn (targets es) y
target_waits [] a y h = absurd h
target_waits (e ∷ es) a y (inl h) = inl h.1
target_waits (e ∷ es) a y (inr h) = inr (target_waits es a y h)

waits_target : (es : Arcs) (y : Value) → IsIn (targets es) y → (a : ℕ) × Has es a y
waits_target [] y h = absurd h
waits_target (e ∷ es) y (inl h) = (e.attribute, inl (refl, h))
waits_target (e ∷ es) y (inr h) = let r = waits_target es y h in (r.0, inr r.1)

noted_more : (ks js : List ℕ) (ws us : List Value) (y : Value) → ((k : ℕ) → IsIn ks k → IsIn js k) → ((k : ℕ) → IsIn ws (Node k) → IsIn js k ⊎ IsIn us (Node k)) → IsNoted ks ws y → IsNoted js us y
noted_more ks js ws us (Atom c) f g h = tt
noted_more ks js ws us (Node k) f g (inl h) = inl (f k h)
noted_more ks js ws us (Node k) f g (inr h) = g k h

-- the last value is an atom, or was looked at before
pub reaching_dropped : (S : Structure) (x y : Value) (ks : List ℕ) (ws : List Value) → IsNoted ks [] y → IsReaching S x ks (ws ++ y ∷ []) → IsReaching S x ks ws
reaching_dropped S x y ks ws known i = record {
  once = i.once;
  reached = i.reached;
  waits = λ z h. i.waits z (in_left ws (y ∷ []) z h);
  first = noted_more ks ks (ws ++ y ∷ []) ws x (λ k h. h) gone i.first;
  closed = λ k a z h e. noted_more ks ks (ws ++ y ∷ []) ws z (λ j g. g) gone (i.closed k a z h e);
}
  where
    seen : (k : ℕ) → IsNoted ks [] (Node k) → IsIn ks k
    seen k (inl h) = h
    seen k (inr h) = absurd h

    gone : (k : ℕ) → IsIn (ws ++ y ∷ []) (Node k) → IsIn ks k ⊎ IsIn ws (Node k)
    gone k h = elim (in_cases ws (y ∷ []) (Node k) h) [ inl g ↦ inr g | inr g ↦ elim g [ inl e ↦ inl (seen k (subst (IsNoted ks []) e known)) | inr n ↦ absurd n ] ]

-- the last value is a node that was not looked at: what its arcs lead to waits
pub reaching_new : (S : Structure) (x : Value) (n : ℕ) (ks : List ℕ) (ws : List Value) → HasDistinct (own S n) → (IsIn ks n → ⊥) → IsReaching S x ks (ws ++ Node n ∷ []) → IsReaching S x (n ∷ ks) (ws ++ targets (own S n))
reaching_new S x n ks ws distinct new i = record {
  once = (new, i.once);
  reached = λ k h. elim h [ inl e ↦ subst (IsReached S x) e root | inr g ↦ i.reached k g ];
  waits = λ y h. elim (in_cases ws (targets (own S n)) y h) [ inl g ↦ i.waits y (in_left ws (Node n ∷ []) y g) | inr g ↦ led y g ];
  first = noted_more ks (n ∷ ks) (ws ++ Node n ∷ []) (ws ++ targets (own S n)) x (λ k h. inr h) kept i.first;
  closed = λ k a y h e. elim h [
    | inl q ↦ noted y (target_waits (own S n) a y (along_has (own S n) a y (subst (λ (j : ℕ). arc S (Node j) a ≡ Some y) (sym q) e)))
    | inr g ↦ noted_more ks (n ∷ ks) (ws ++ Node n ∷ []) (ws ++ targets (own S n)) y (λ j m. inr m) kept (i.closed k a y g e)
  ];
}
  where
    root : IsReached S x n
    root = i.waits (Node n) (in_right ws (Node n ∷ []) (Node n) (inl refl))

    led : (y : Value) → IsIn (targets (own S n)) y → (p : List ℕ) × (at S x p ≡ Some y)
    led y h =
        let t = waits_target (own S n) y h in
        (root.0 ++ (t.0 ∷ []), at_more S root.0 x (Node n) y t.0 root.1 (distinct_along (own S n) t.0 y distinct t.1))

    kept : (k : ℕ) → IsIn (ws ++ Node n ∷ []) (Node k) → IsIn (n ∷ ks) k ⊎ IsIn (ws ++ targets (own S n)) (Node k)
    kept k h = elim (in_cases ws (Node n ∷ []) (Node k) h) [ inl g ↦ inr (in_left ws (targets (own S n)) (Node k) g) | inr g ↦ elim g [ inl e ↦ inl (inl cc) | inr m ↦ absurd m ] ]

    noted : (y : Value) → IsIn (targets (own S n)) y → IsNoted (n ∷ ks) (ws ++ targets (own S n)) y
    noted (Atom c) h = tt
    noted (Node k) h = inr (in_right ws (targets (own S n)) (Node k) h)

-- nothing waits: the list has all that is reached
pub reaching_ends : (S : Structure) (x : Value) (ks : List ℕ) → IsReaching S x ks [] → IsReachOf S x ks
reaching_ends S x ks i = record {
  once = i.once;
  reached = i.reached;
  all = λ k h. go h.0 x k i.first h.1;
}
  where
    seen : (k : ℕ) → IsNoted ks [] (Node k) → IsIn ks k
    seen k (inl h) = h
    seen k (inr h) = absurd h

    go : (p : List ℕ) (y : Value) (k : ℕ) → IsNoted ks [] y → at S y p ≡ Some (Node k) → IsIn ks k
    go [] y k h e = let s : y ≡ Node k = cc in seen k (subst (IsNoted ks []) s h)
    go (a ∷ p) (Atom c) k h e = cc
    go (a ∷ p) (Node j) k h e =
        let s = and_then_some (arc S (Node j) a) (λ z. at S z p) (Node k) e in
        go p s.0 k (i.closed j a s.0 (seen j h) s.1) s.2

-- values that wait
pub values_held_push : (v : Shown) (ws : List its.Value) (x : its.Value) → ValuesHeld v ws → ValueIsHeld v x → ValuesHeld v (ws ++ x ∷ [])
values_held_push v [] x h g = (g, tt)
values_held_push v (w ∷ ws) x h g = (h.0, values_held_push v ws x h.1 g)

pub values_held_pop : (v : Shown) (ws : List its.Value) (x : its.Value) → ValuesHeld v (ws ++ x ∷ []) → ValuesHeld v ws × ValueIsHeld v x
values_held_pop v [] x h = (tt, h.0)
values_held_pop v (w ∷ ws) x h = let r = values_held_pop v ws x h.1 in ((h.0, r.0), r.1)

-- one more arc's target waits
pub target_pushed : (v : Shown) (b : ℕ) (fs : List Feature) (i : ℕ) (d : Feature) (ws us : List its.Value) (x : its.Value) (all : List Value) → i < length fs → us ≡ ws ++ x ∷ [] → value_of v x ≡ ref_of v b (get_or fs i d).to
    → values v ws ++ targets (arcs_from v b (drop i fs)) ≡ all → values v us ++ targets (arcs_from v b (drop (i + 1) fs)) ≡ all
target_pushed v b fs i d ws us x all inside pushed leads e =
    let rest = targets (arcs_from v b (drop (i + 1) fs)) in
    let more : values v us ≡ values v ws ++ value_of v x ∷ [] = ap (values v) pushed ∙ map-append (value_of v) ws (x ∷ []) in
    let next : targets (arcs_from v b (drop i fs)) ≡ ref_of v b (get_or fs i d).to ∷ rest = ap (λ (gs : List Feature). targets (arcs_from v b gs)) (drop_more fs i d inside) in
    ap (λ zs. zs ++ rest) more ∙ (append_assoc (values v ws) (value_of v x ∷ []) rest ∙ (ap (λ z. values v ws ++ z ∷ rest) leads ∙ (ap (λ zs. values v ws ++ zs) (sym next) ∙ e)))

-- nothing was seen, and the first value waits
pub counting_starts : (v : Shown) (seen : ℕ → Bool) (x : its.Value) → ((k : ℕ) → seen k ≡ false) → IsCounting v seen (value_of v x) (x ∷ []) (record { nodes = 0; arcs = 0 })
counting_starts v seen x none = record {
  list = [];
  reaching = record { once = tt; reached = λ k h. absurd h; waits = λ y h. elim h [ inl e ↦ ([], ap (λ z. Some z) e) | inr n ↦ absurd n ]; first = noted (value_of v x); closed = λ k a y h e. absurd h };
  in_list = λ k e. absurd (true≢false (sym e ∙ none k));
  in_set = λ k h. absurd h;
  nodes_are = refl;
  arcs_are = refl;
}
  where
    noted : (y : Value) → IsNoted [] (y ∷ []) y
    noted (Atom c) = tt
    noted (Node k) = inr (inl refl)

-- an atom, or a node that was seen
abbrev pub IsSeen : (ℕ → Bool) → Value → Type 0
IsSeen seen (Atom c) = Unit {0}
IsSeen seen (Node k) = seen k ≡ true

pub looked_known : (v : Shown) (seen : ℕ → Bool) (value : its.Value) (ws : List its.Value) (reach : Reach) → IsSeen seen (value_of v value) → ValuesHeld v ws → IsLookedAt v seen seen value ws ws reach reach
looked_known v seen value ws reach known held = record {
  held = held;
  counts = λ x i. record {
    list = i.list;
    reaching = reaching_dropped v.structure x (value_of v value) i.list (values v ws) (noted (value_of v value) i.list i.in_list known) (subst (λ us. IsReaching v.structure x i.list us) (map-append (value_of v) ws (value ∷ [])) i.reaching);
    in_list = i.in_list;
    in_set = i.in_set;
    nodes_are = i.nodes_are;
    arcs_are = i.arcs_are;
  };
  fewer = omega arith;
}
  where
    noted : (y : Value) (ks : List ℕ) → ((k : ℕ) → seen k ≡ true → IsIn ks k) → IsSeen seen y → IsNoted ks [] y
    noted (Atom c) ks f h = tt
    noted (Node k) ks f h = inl (f k h)

pub looked_new : (v : Shown) → IsShown v → (seen now : ℕ → Bool) (value : its.Value) (n : ℕ) (ws us : List its.Value) (old new : Reach) → value_of v value ≡ Node n → n < length v.structure → seen n ≡ false
    → ((k : ℕ) → now k ≡ cond (nat_eq n k) true (seen k)) → new.nodes ≡ old.nodes + 1 → new.arcs ≡ old.arcs + length (own v.structure n) → values v us ≡ values v ws ++ targets (own v.structure n) → ValuesHeld v us
    → IsLookedAt v seen now value ws us old new
looked_new v s seen now value n ws us old new is_node inside unseen updates size more pushed held = record {
  held = held;
  counts = λ x i. record {
    list = n ∷ i.list;
    reaching = subst (λ ys. IsReaching v.structure x (n ∷ i.list) ys) (sym pushed)
        (reaching_new v.structure x n i.list (values v ws) (s.structure.distinct n) (λ h. let e = i.in_set n h in cc)
        (subst (λ ys. IsReaching v.structure x i.list ys) (map-append (value_of v) ws (value ∷ []) ∙ ap (λ z. values v ws ++ z ∷ []) is_node) i.reaching));
    in_list = λ k e. listed i.list i.in_list k (nat_eq n k) refl (sym (updates k) ∙ e);
    in_set = λ k h. updates k ∙ kept i.list i.in_set k h;
    nodes_are = (let e = i.nodes_are in omega (arith, e, size));
    arcs_are = (let e = i.arcs_are in omega (arith, e, more));
  };
  fewer =
      let f : ℕ → ℕ = λ k. cond (now k) 0 (length (own v.structure k)) in
      let g : ℕ → ℕ = λ k. cond (seen k) 0 (length (own v.structure k)) in
      let e = total_change f g (upto (length v.structure)) n (upto_once (length v.structure)) (upto_in (length v.structure) n inside) (λ k ne. ap (λ b. cond b 0 (length (own v.structure k))) (other k ne)) in
      let here : f n ≡ 0 = ap (λ b. cond b 0 (length (own v.structure n))) (updates n ∙ ap (λ b. cond b true (seen n)) (eq-eqb n n refl)) in
      let was : g n ≡ length (own v.structure n) = ap (λ b. cond b 0 (length (own v.structure n))) unseen in
      let long : length us ≡ length (values v us) = sym (length-map us (value_of v)) in
      let short : length (values v ws) ≡ length ws = length-map ws (value_of v) in
      let both = ap length pushed in
      let parts = length-append (values v ws) (targets (own v.structure n)) in
      let many : length (targets (own v.structure n)) ≡ length (own v.structure n) = length-map (own v.structure n) (λ e. e.to) in
      omega (arith, e, here, was, long, short, both, parts, many);
}
  where
    other : (k : ℕ) → k ≢ n → now k ≡ seen k
    other k ne = updates k ∙ ap (λ b. cond b true (seen k)) (ne_eqb n k (λ e. ne (sym e)))

    listed : (ks : List ℕ) → ((k : ℕ) → seen k ≡ true → IsIn ks k) → (k : ℕ) (b : Bool) → nat_eq n k ≡ b → cond b true (seen k) ≡ true → IsIn (n ∷ ks) k
    listed ks f k true e h = inl (eqb-true n k e)
    listed ks f k false e h = inr (f k h)

    kept : (ks : List ℕ) → ((k : ℕ) → IsIn ks k → seen k ≡ true) → (k : ℕ) → IsIn (n ∷ ks) k → cond (nat_eq n k) true (seen k) ≡ true
    kept ks f k (inl e) = ap (λ b. cond b true (seen k)) (eq-eqb n k e)
    kept ks f k (inr h) = either (nat_eq n k) (f k h)
      where
        either : (b : Bool) → seen k ≡ true → cond b true (seen k) ≡ true
        either true e = refl
        either false e = e

-- a place of the left side was visited
abbrev pub visited_at : Contents → ℕ → Contents
visited_at w n = put w side.Left n (record (marks w side.Left n) { visit = visit.Left })

-- what was seen then
pub seen_put : (w : Contents) (n : ℕ) → HasPlace w side.Left n → (k : ℕ) → seen_in (visited_at w n) k ≡ cond (nat_eq n k) true (seen_in w k)
seen_put w n h k =
    let m : PlaceMarks = record (marks w side.Left n) { visit = visit.Left } in
    elim (cases_eq n k) [
      | inl e ↦ ap (λ (u : PlaceMarks). is_seen u.visit) (ap (λ j. marks (visited_at w n) side.Left j) (sym e) ∙ get_or-set_same w.places (2 * n) m unmarked h) ∙ sym (ap (λ b. cond b true (seen_in w k)) (eq-eqb n k e))
      | inr ne ↦ ap (λ (u : PlaceMarks). is_seen u.visit) (get_or-set_other w.places (2 * n) (2 * k) m unmarked (λ q. ne (half n k q))) ∙ sym (ap (λ b. cond b true (seen_in w k)) (ne_eqb n k ne))
    ]
  where
    half : (n k : ℕ) → 2 * k ≡ 2 * n → n ≡ k
    half n k q = omega (arith, q)

-- a visit is one that was seen, or not
pub seen_visit : (a : Visit) → (a ≢ visit.Unseen) → is_seen a ≡ true
seen_visit visit.Unseen n = absurd (n refl)
seen_visit visit.Entered n = refl
seen_visit visit.Left n = refl

-- a new generation keeps the room
pub begun_keeps : (w : Contents) → KeepsRoom w (begun w)
begun_keeps w = record { for_places = (let size = length-replicate (length w.places) unmarked in omega (arith, size)); for_visits = omega arith; for_order = omega arith; for_arcs = omega arith; for_pairs = omega arith }
