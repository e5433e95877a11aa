-- Copies of the first places of a structure.
use Rattle.std.proofs.Common.{◌≡◌, ◌⊎◌, inl, inr, ℕ, zero, suc, ◌+◌, ◌<◌, List, [], ◌∷◌, ◌++◌, length, length-append, map, get_or, take, Option, Some, None, slice_get, refl, sym, ap, ◌∙◌, arith, subst}
use Rattle.patr_library.proofs.Names.{get_left, get_cases, get_or_push, get_or_past, map-append, get_or_append_left, take_more, get_last, Value, Node, Arc, Arcs, Structure, arcs_of, Same, some_inj, Ref, Feature, Shown, RefIsHeld, AllHeld, arc_from, arcs_from, ref_of, attributes, own_nodes, own_value, IsOwn, AllOwn, IsOwnBlock, IsRooted, IsImage, AreCopies, image_at, AreImages}
use Rattle.patr_library.proofs.Corresponding.{each_image, same, same_copies}
use Rattle.patr_library.proofs.Placed.{empty_own}

pub held_at : (v : Shown) (b : ℕ) (fs : List Feature) (i : ℕ) (d : Feature) → AllHeld v b fs → i < length fs → RefIsHeld v b (get_or fs i d).to
held_at v b [] i d h l = absurd (omega (arith, l))
held_at v b (f ∷ fs) zero d h l = h.0
held_at v b (f ∷ fs) (suc i) d h l = held_at v b fs i d h.1 (omega (arith, l))

copies_push : (to : ℕ → Option ℕ) (es : Arcs) (fs : List Feature) (e : Arc) (f : Feature) → AreCopies to es fs → e.attribute ≡ f.attribute.0 → IsImage to e.to f.to → AreCopies to (es ++ e ∷ []) (fs ++ f ∷ [])
copies_push to [] [] e f h a i = (a, i, tt)
copies_push to [] (g ∷ fs) e f h a i = absurd h
copies_push to (x ∷ es) [] e f h a i = absurd h
copies_push to (x ∷ es) (g ∷ fs) e f h a i = (h.0, h.1, copies_push to es fs e f h.2 a i)

-- one more arc
pub copies_more : (to : ℕ → Option ℕ) (v : Shown) (b : ℕ) (fs : List Feature) (i : ℕ) (d : Feature) (arcs new : List Feature) (r : Ref) → i < length fs → AreCopies to (arcs_from v b (take i fs)) arcs
    → IsImage to (ref_of v b (get_or fs i d).to) r → new ≡ arcs ++ record { attribute = (get_or fs i d).attribute; to = r } ∷ [] → AreCopies to (arcs_from v b (take (i + 1) fs)) new
copies_more to v b fs i d arcs new r l h image is =
    let f : Feature = record { attribute = (get_or fs i d).attribute; to = r } in
    let whole : arcs_from v b (take (i + 1) fs) ≡ arcs_from v b (take i fs) ++ arc_from v b (get_or fs i d) ∷ [] = ap (arcs_from v b) (take_more fs i d l) ∙ map-append (arc_from v b) (take i fs) (get_or fs i d ∷ []) in
    subst (λ es. AreCopies to es new) (sym whole) (subst (AreCopies to (arcs_from v b (take i fs) ++ arc_from v b (get_or fs i d) ∷ [])) (sym is) (copies_push to (arcs_from v b (take i fs)) arcs (arc_from v b (get_or fs i d)) f h refl image))

pub copies_attributes : (to : ℕ → Option ℕ) (es : Arcs) (fs : List Feature) → AreCopies to es fs → map (λ e. e.attribute) es ≡ attributes fs
copies_attributes to [] [] h = refl
copies_attributes to [] (f ∷ fs) h = absurd h
copies_attributes to (e ∷ es) [] h = absurd h
copies_attributes to (e ∷ es) (f ∷ fs) h = ap (λ n. n ∷ map (λ e. e.attribute) es) h.0 ∙ ap (λ l. f.attribute.0 ∷ l) (copies_attributes to es fs h.2)

image_own : (to : ℕ → Option ℕ) (m : ℕ) → ((n k : ℕ) → to n ≡ Some k → k < m) → (x : Value) (r : Ref) → IsImage to x r → IsOwn m r
image_own to m b = each_image to (λ x r. IsOwn m r) (λ c d h. tt) b

copies_own : (to : ℕ → Option ℕ) (m : ℕ) → ((n k : ℕ) → to n ≡ Some k → k < m) → (es : Arcs) (fs : List Feature) → AreCopies to es fs → AllOwn m fs
copies_own to m b [] [] h = tt
copies_own to m b [] (f ∷ fs) h = absurd h
copies_own to m b (e ∷ es) [] h = absurd h
copies_own to m b (e ∷ es) (f ∷ fs) h = (image_own to m b e.to f.to h.1, copies_own to m b es fs h.2)

pub arcs_own : (S : Structure) (images : List (Option ℕ)) (nodes : List (List Feature)) → AreImages S images nodes → (es : Arcs) (fs : List Feature) → AreCopies (image_at images) es fs → AllOwn (length nodes) fs
arcs_own S images nodes a es fs h = copies_own (image_at images) (length nodes) (λ n k e. (a.corresponds.forth n k e).0) es fs h

pub copy_within : (images : List (Option ℕ)) (n k : ℕ) → image_at images n ≡ Some k → n < length images
copy_within [] n k h = cc
copy_within (o ∷ images) zero k h = omega arith
copy_within (o ∷ images) (suc n) k h = omega (arith, copy_within images n k h)

at_kept : (images : List (Option ℕ)) (x : Option ℕ) (n k : ℕ) → image_at images n ≡ Some k → image_at (images ++ x ∷ []) n ≡ Some k
at_kept images x n k h = get_or_append_left images (x ∷ []) None n (copy_within images n k h) ∙ h

at_push : (images : List (Option ℕ)) (x : Option ℕ) (n k : ℕ) → image_at (images ++ x ∷ []) n ≡ Some k → (image_at images n ≡ Some k) ⊎ ((n ≡ length images) × (x ≡ Some k))
at_push [] x zero k h = inr (refl, h)
at_push [] x (suc n) k h = cc
at_push (y ∷ images) x zero k h = inl h
at_push (y ∷ images) x (suc n) k h = elim (at_push images x n k h) as (λ _. (image_at images n ≡ Some k) ⊎ ((suc n ≡ suc (length images)) × (x ≡ Some k))) [ inl i ↦ inl i | inr i ↦ inr (ap (λ m. suc m) i.0, i.1) ]

pub no_images : (S : Structure) → AreImages S [] []
no_images S = record {
  own = empty_own;
  origins = [];
  long = refl;
  corresponds = record {
    forth = λ n k e. let bad : None ≡ Some k = sym (get_or_past [] n None (omega arith)) ∙ e in cc;
    back = λ k n e. let bad : None ≡ Some n = e in cc;
  };
}

-- one more place without a copy
pub images_none : (S : Structure) (images : List (Option ℕ)) (nodes : List (List Feature)) → AreImages S images nodes → AreImages S (images ++ None ∷ []) nodes
images_none S images nodes a = record {
  own = a.own;
  origins = a.origins;
  long = a.long;
  corresponds = record {
    forth = λ n k e. elim (at_push images None n k e) [
      | inl h ↦ let f = a.corresponds.forth n k h in (f.0, f.1, f.2, same_copies (image_at images) (image_at (images ++ None ∷ [])) (λ m j. at_kept images None m j) (arcs_of S (Node n)) (get_or nodes k []) f.3)
      | inr h ↦ let bad : None ≡ Some k = h.1 in cc
    ];
    back = λ k n e. at_kept images None n k (a.corresponds.back k n e);
  };
}

-- one more copy
pub images_some : (S : Structure) (images : List (Option ℕ)) (nodes : List (List Feature)) (fs : List Feature) → AreImages S images nodes → AreCopies (image_at images) (arcs_of S (Node (length images))) fs
    → length images < length S → IsOwnBlock (nodes ++ fs ∷ []) → AreImages S (images ++ Some (length nodes) ∷ []) (nodes ++ fs ∷ [])
images_some S images nodes fs a copies here own =
    let origins = a.origins in
    let more = λ (m j : ℕ) (e : image_at images m ≡ Some j). at_kept images (Some (length nodes)) m j e in
    let long = length-append nodes (fs ∷ []) in
    record {
      own = own;
      origins = origins ++ length images ∷ [];
      long = omega (arith, length-append origins (length images ∷ []), long, a.long);
      corresponds = record {
        forth = λ n k e. elim (at_push images (Some (length nodes)) n k e) [
          | inl h ↦ let f = a.corresponds.forth n k h in (
            omega (arith, long, f.0),
            f.1,
            get_left origins (length images ∷ []) k n f.2,
            subst (AreCopies (image_at (images ++ Some (length nodes) ∷ [])) (arcs_of S (Node n))) (sym (get_or_append_left nodes (fs ∷ []) [] k f.0))
                (same_copies (image_at images) (image_at (images ++ Some (length nodes) ∷ [])) more (arcs_of S (Node n)) (get_or nodes k []) f.3),
          )
          | inr h ↦ let at : length nodes ≡ k = some_inj (length nodes) k h.1 in (
            omega (arith, long, at),
            omega (arith, here, h.0),
            ap (λ j. slice_get (origins ++ length images ∷ []) j) (sym at ∙ sym a.long) ∙ (get_last origins (length images) ∙ ap (λ m. Some m) (sym h.0)),
            subst (λ m. AreCopies (image_at (images ++ Some (length nodes) ∷ [])) (arcs_of S (Node m)) (get_or (nodes ++ fs ∷ []) k [])) (sym h.0)
                (subst (AreCopies (image_at (images ++ Some (length nodes) ∷ [])) (arcs_of S (Node (length images)))) (sym (ap (λ j. get_or (nodes ++ fs ∷ []) j []) (sym at) ∙ get_or_push nodes fs [] (length nodes) refl))
                (same_copies (image_at images) (image_at (images ++ Some (length nodes) ∷ [])) more (arcs_of S (Node (length images))) fs copies)),
          )
        ];
        back = λ k n e. elim (get_cases origins (length images) k n e) [
          | inl h ↦ more n k (a.corresponds.back k n h.1)
          | inr h ↦ ap (λ m. image_at (images ++ Some (length nodes) ∷ []) m) (sym h.1) ∙ (get_or_push images (Some (length nodes)) None (length images) refl ∙ ap (λ j. Some j) (sym a.long ∙ sym h.0))
        ];
      };
    }

-- the copy of a value
pub image_is : (S : Structure) (images : List (Option ℕ)) (nodes : List (List Feature)) → AreImages S images nodes → (x : Value) (r : Ref) → IsImage (image_at images) x r → IsRooted nodes r × Same S x (own_nodes nodes) (own_value r)
image_is S images nodes a x r h = (
  record { own = a.own; root = image_own (image_at images) (length nodes) (λ n k e. (a.corresponds.forth n k e).0) x r h },
  same S nodes (image_at images) (slice_get a.origins) a.corresponds x r h,
)
