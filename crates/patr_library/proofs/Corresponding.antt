-- What corresponds is the same.
use Rattle.std.proofs.Common.{◌≡◌, ℕ, zero, suc, Bool, true, false, cond, nat_eq, List, [], ◌∷◌, get_or, Option, Some, None, refl, sym, ap, ◌∙◌, arith, subst}
use Rattle.patr_library.proofs.Names.{Id, length-map, Value, Atom, Node, Arcs, Structure, along, arc, arcs_of, IsValue, image, IsMap, Same, some_inj, Ref, Feature, own_value, own_arcs, own_nodes, IsImage, AreCopies, Corresponds}
use Rattle.patr_arena.specs.declared.value.Ref.TheVariants as ref

pub own_get : (nodes : List (List Feature)) (k : ℕ) → get_or (own_nodes nodes) k [] ≡ own_arcs (get_or nodes k [])
own_get [] k = refl
own_get (x ∷ nodes) zero = refl
own_get (x ∷ nodes) (suc k) = own_get nodes k

-- where the copies' numbers lead
abbrev as_node : Option ℕ → Option Value
as_node None = None
as_node (Some k) = Some (Node k)

is_node : (o : Option ℕ) (x : Value) → as_node o ≡ Some x → (k : ℕ) × (o ≡ Some k) × (Node k ≡ x)
is_node None x e = cc
is_node (Some k) x e = (k, refl, some_inj (Node k) x e)

module _ (to : ℕ → Option ℕ) where
  -- what holds of copies that are atoms and of those that are nodes holds of all
  pub each_image : (P : Value → Ref → Type 0) → ((c : ℕ) (d : Id) → c ≡ d.0 → P (Atom c) (ref.Atom d)) → ((n k : ℕ) → to n ≡ Some k → P (Node n) (ref.New k)) → (x : Value) (r : Ref) → IsImage to x r → P x r
  each_image P atoms nodes (Atom c) (ref.Atom d) h = atoms c d h
  each_image P atoms nodes (Node n) (ref.New k) h = nodes n k h
  each_image P atoms nodes (Atom c) (ref.Old at) h = absurd h
  each_image P atoms nodes (Atom c) (ref.New k) h = absurd h
  each_image P atoms nodes (Node n) (ref.Atom d) h = absurd h
  each_image P atoms nodes (Node n) (ref.Old at) h = absurd h

  forth_image : (x : Value) (r : Ref) → IsImage to x r → image (λ n. as_node (to n)) x ≡ Some (own_value r)
  forth_image = each_image (λ x r. image (λ n. as_node (to n)) x ≡ Some (own_value r)) (λ c d h. ap (λ n. Some (Atom n)) h) (λ n k h. ap as_node h)

  -- an arc of the place is one of the copy
  forth_arc : (es : Arcs) (fs : List Feature) → AreCopies to es fs → (a : ℕ) (x : Value) → along es a ≡ Some x → (r : Ref) × IsImage to x r × (along (own_arcs fs) a ≡ Some (own_value r))
  forth_arc [] fs h a x e = cc
  forth_arc (e ∷ es) [] h a x q = absurd h
  forth_arc (e ∷ es) (f ∷ fs) h a x q = go (nat_eq e.attribute a) refl (forth_arc es fs h.2 a x) q
    where
      go : (b : Bool) → nat_eq e.attribute a ≡ b → (along es a ≡ Some x → (r : Ref) × IsImage to x r × (along (own_arcs fs) a ≡ Some (own_value r))) → cond b (Some e.to) (along es a) ≡ Some x
          → (r : Ref) × IsImage to x r × (along (own_arcs (f ∷ fs)) a ≡ Some (own_value r))
      go true t rest k = (f.to, subst (λ y. IsImage to y f.to) (some_inj e.to x k) h.1, ap (λ n. cond (nat_eq n a) (Some (own_value f.to)) (along (own_arcs fs) a)) (sym h.0) ∙ ap (λ b. cond b (Some (own_value f.to)) (along (own_arcs fs) a)) t)
      go false t rest k = let s = rest k in (s.0, s.1, (ap (λ n. cond (nat_eq n a) (Some (own_value f.to)) (along (own_arcs fs) a)) (sym h.0) ∙ ap (λ b. cond b (Some (own_value f.to)) (along (own_arcs fs) a)) t) ∙ s.2)

  -- and the other way
  back_arc : (es : Arcs) (fs : List Feature) → AreCopies to es fs → (a : ℕ) (z : Value) → along (own_arcs fs) a ≡ Some z → (x : Value) × (r : Ref) × IsImage to x r × (own_value r ≡ z) × (along es a ≡ Some x)
  back_arc es [] h a z e = cc
  back_arc [] (f ∷ fs) h a z q = absurd h
  back_arc (e ∷ es) (f ∷ fs) h a z q = go (nat_eq f.attribute.0 a) refl (back_arc es fs h.2 a z) q
    where
      go : (b : Bool) → nat_eq f.attribute.0 a ≡ b → (along (own_arcs fs) a ≡ Some z → (x : Value) × (r : Ref) × IsImage to x r × (own_value r ≡ z) × (along es a ≡ Some x)) → cond b (Some (own_value f.to)) (along (own_arcs fs) a) ≡ Some z
          → (x : Value) × (r : Ref) × IsImage to x r × (own_value r ≡ z) × (along (e ∷ es) a ≡ Some x)
      go true t rest k = (e.to, f.to, h.1, some_inj (own_value f.to) z k, ap (λ n. cond (nat_eq n a) (Some e.to) (along es a)) h.0 ∙ ap (λ b. cond b (Some e.to) (along es a)) t)
      go false t rest k = let s = rest k in (s.0, s.1, s.2, s.3, (ap (λ n. cond (nat_eq n a) (Some e.to) (along es a)) h.0 ∙ ap (λ b. cond b (Some e.to) (along es a)) t) ∙ s.4)

module _ (S : Structure) (nodes : List (List Feature)) (to from : ℕ → Option ℕ) (c : Corresponds S nodes to from) where
  back_image : (x : Value) (r : Ref) → IsImage to x r → image (λ k. as_node (from k)) (own_value r) ≡ Some x
  back_image = each_image to (λ x r. image (λ k. as_node (from k)) (own_value r) ≡ Some x) (λ c d h. ap (λ n. Some (Atom n)) (sym h)) (λ n k h. ap as_node (c.forth n k h).2)

  forth_is_map : IsMap S (own_nodes nodes) (λ n. as_node (to n))
  forth_is_map = record {
    values = λ n y e.
        let i = is_node (to n) y e in
        let f = c.forth n i.0 i.1 in
        subst (IsValue (own_nodes nodes)) i.2 (omega (arith, f.0, length-map nodes own_arcs));
    arcs = λ n y e a x h.
        let i = is_node (to n) y e in
        let f = c.forth n i.0 i.1 in
        let s = forth_arc to (arcs_of S (Node n)) (get_or nodes i.0 []) f.3 a x h in
        (own_value s.0, forth_image to x s.0 s.1, ap (λ v. arc (own_nodes nodes) v a) (sym i.2) ∙ (ap (λ es. along es a) (own_get nodes i.0) ∙ s.2));
  }

  back_is_map : IsMap (own_nodes nodes) S (λ k. as_node (from k))
  back_is_map = record {
    values = λ k y e.
        let i = is_node (from k) y e in
        let f = c.forth i.0 k (c.back k i.0 i.1) in
        subst (IsValue S) i.2 f.1;
    arcs = λ k y e a z h.
        let i = is_node (from k) y e in
        let f = c.forth i.0 k (c.back k i.0 i.1) in
        let s = back_arc to (arcs_of S (Node i.0)) (get_or nodes k []) f.3 a z (ap (λ es. along es a) (sym (own_get nodes k)) ∙ h) in
        (s.0, ap (image (λ k. as_node (from k))) (sym s.3) ∙ back_image s.0 s.1 s.2, ap (λ v. arc S v a) (sym i.2) ∙ s.4);
  }

  pub same : (x : Value) (r : Ref) → IsImage to x r → Same S x (own_nodes nodes) (own_value r)
  same x r h = (record { by = λ n. as_node (to n); is_map = forth_is_map; root = forth_image to x r h }, record { by = λ k. as_node (from k); is_map = back_is_map; root = back_image x r h })

-- ---- one more copy

pub same_image : (to more : ℕ → Option ℕ) → ((n k : ℕ) → to n ≡ Some k → more n ≡ Some k) → (x : Value) (r : Ref) → IsImage to x r → IsImage more x r
same_image to more m = each_image to (IsImage more) (λ c d h. h) m

pub same_copies : (to more : ℕ → Option ℕ) → ((n k : ℕ) → to n ≡ Some k → more n ≡ Some k) → (es : Arcs) (fs : List Feature) → AreCopies to es fs → AreCopies more es fs
same_copies to more m [] [] h = tt
same_copies to more m [] (f ∷ fs) h = absurd h
same_copies to more m (e ∷ es) [] h = absurd h
same_copies to more m (e ∷ es) (f ∷ fs) h = (h.0, same_image to more m e.to f.to h.1, same_copies to more m es fs h.2)
