-- A structure whose nodes stand in another one, maybe at other places: unifiers, counts and what is kept go along.
use Rattle.std.proofs.Common.{◌≡◌, inl, inr, ℕ, ◌<◌, ◌≤◌, Bool, true, false, cond, nat_eq, nat_lt, eqb-true, eq-eqb, ltb-true, lt-ltb, List, [], ◌∷◌, ◌++◌, length, length-append, map, Option, Some, None, refl, sym, ap, ◌∙◌, arith, subst}
use Rattle.std.specs.Option.{option_map}
use Rattle.std.proofs.lemmas.List.{get_or_append_left, length-map}
use Rattle.patr_lists.proofs.Members.{map_in, in_map}
use Rattle.patr_lists.specs.Members.{IsIn}
use Rattle.patr_parse.proofs.Names.{Value, Atom, Node, Structure, arc, IsReached, IsValue, IsStructure, IsUnifier, Images, Keeps, some_inj, arc_of_longer, arc_value, map_some, NoRepeats, own, total, Counts}
use Rattle.patr_model.specs.Structure.{at}
use Rattle.patr_model.specs.Subsumption.{image, IsMap, MapsInto}
use Rattle.patr_model.specs.Settled.{SideNode, Left, Right, IsSideNode, image_of, arc_of, IsAlone}
use Rattle.patr_model.proofs.Maps.{carries, after, after_is_map, image_after, maps_transitive}
use Rattle.patr_model.proofs.EquationStructures.{at_of_longer}
use Rattle.patr_model.proofs.Steps.{has_place}
use Rattle.patr_parse.proofs.Longer.{reached_more, reached_less, reached_value, reached_on}

-- a value whose node stands elsewhere
abbrev pub moved : (ℕ → ℕ) → Value → Value
moved f (Atom c) = Atom c
moved f (Node n) = Node (f n)

-- each node of U stands in W at its place f, from which h leads back; the first b nodes stand at their own
pub record IsRenumbered (b : ℕ) (U W : Structure) (f h : ℕ → ℕ) : Type 0 where
  pub there : (n : ℕ) → n < length U → (f n < length W) × (h (f n) ≡ n)
  pub fixed : (n : ℕ) → n < b → f n ≡ n
  pub arcs : (n : ℕ) → n < length U → (a : ℕ) → arc W (Node (f n)) a ≡ option_map (moved f) (arc U (Node n) a)
  pub lengths : (n : ℕ) → n < length U → length (own U n) ≡ length (own W (f n))

-- with more nodes behind, the others stay where they are
pub stays : (S N : Structure) → IsRenumbered (length S) S (S ++ N) (λ n. n) (λ n. n)
stays S N = record {
  there = λ n q. (omega (arith, q, length-append S N), refl);
  fixed = λ n q. refl;
  arcs = λ n q a. arc_of_longer S N (Node n) q a ∙ same (arc S (Node n) a);
  lengths = λ n q. ap length (sym (get_or_append_left S N [] n q));
}
  where
    same : (o : Option Value) → o ≡ option_map (moved (λ n. n)) o
    same None = refl
    same (Some (Atom c)) = refl
    same (Some (Node n)) = refl

pub arc_moved : (b : ℕ) (U W : Structure) (f h : ℕ → ℕ) → IsRenumbered b U W f h → (x : Value) → IsValue U x → (a : ℕ) → arc W (moved f x) a ≡ option_map (moved f) (arc U x a)
arc_moved b U W f h m (Atom c) q a = refl
arc_moved b U W f h m (Node n) q a = m.arcs n q a

-- ---- lists of numbers

once_mapped : (h : ℕ → ℕ) (ks : List ℕ) → ((j k : ℕ) → IsIn ks j → IsIn ks k → h j ≡ h k → j ≡ k) → NoRepeats ks → NoRepeats (map h ks)
once_mapped h [] one n = tt
once_mapped h (j ∷ ks) one n = (
  λ i. (let r = map_in h ks (h j) i in n.0 (subst (λ k. IsIn ks k) (one r.0 j (inr r.1) (inl refl) r.2) r.1)),
  once_mapped h ks (λ i k hi hk e. one i k (inr hi) (inr hk) e) n.1,
)

total_mapped : (h f g : ℕ → ℕ) (ks : List ℕ) → ((k : ℕ) → IsIn ks k → f (h k) ≡ g k) → total f (map h ks) ≡ total g ks
total_mapped h f g [] same = refl
total_mapped h f g (k ∷ ks) same = let here = same k (inl refl) in let rest = total_mapped h f g ks (λ j i. same j (inr i)) in omega (arith, here, rest)

module _ (b : ℕ) (U W : Structure) (f h : ℕ → ℕ) (m : IsRenumbered b U W f h) (su : IsStructure U) (sw : IsStructure W) where
  -- ---- the maps to and from

  to : ℕ → Option Value
  to n = cond (nat_lt n (length U)) (Some (Node (f n))) None

  to_only : (n : ℕ) (y : Value) → to n ≡ Some y → (n < length U) × (y ≡ Node (f n))
  unfolding to
  to_only n y e = go (nat_lt n (length U)) refl e
    where
      go : (t : Bool) → nat_lt n (length U) ≡ t → cond t (Some (Node (f n))) None ≡ Some y → (n < length U) × (y ≡ Node (f n))
      go true t q = (ltb-true n (length U) t, sym (some_inj (Node (f n)) y q))
      go false t q = cc

  image_to : (x : Value) → IsValue U x → image to x ≡ Some (moved f x)
  unfolding to
  image_to (Atom c) q = refl
  image_to (Node n) q = ap (λ t. cond t (Some (Node (f n))) None) (lt-ltb n (length U) q)

  to_map : IsMap U W to
  to_map = record {
    values = λ n y e. let o = to_only n y e in subst (λ u. IsValue W u) (sym o.1) (m.there n o.0).0;
    arcs = λ n y e a x q.
        let o = to_only n y e in
        (moved f x, image_to x (arc_value U su (Node n) a x q), ap (λ u. arc W u a) o.1 ∙ (m.arcs n o.0 a ∙ ap (option_map (moved f)) q));
  }

  from : ℕ → Option Value
  from k = cond (nat_lt (h k) (length U)) (cond (nat_eq (f (h k)) k) (Some (Node (h k))) None) None

  from_only : (k : ℕ) (y : Value) → from k ≡ Some y → (h k < length U) × (f (h k) ≡ k) × (y ≡ Node (h k))
  unfolding from
  from_only k y e = go (nat_lt (h k) (length U)) (nat_eq (f (h k)) k) refl refl e
    where
      go : (t s : Bool) → nat_lt (h k) (length U) ≡ t → nat_eq (f (h k)) k ≡ s → cond t (cond s (Some (Node (h k))) None) None ≡ Some y → (h k < length U) × (f (h k) ≡ k) × (y ≡ Node (h k))
      go true true t s q = (ltb-true (h k) (length U) t, eqb-true (f (h k)) k s, sym (some_inj (Node (h k)) y q))
      go true false t s q = cc
      go false s t r q = cc

  from_place : (n : ℕ) → n < length U → from (f n) ≡ Some (Node n)
  unfolding from
  from_place n q =
      let back = (m.there n q).1 in
      ap (λ j. cond (nat_lt j (length U)) (cond (nat_eq (f j) (f n)) (Some (Node j)) None) None) back
      ∙ (ap (λ t. cond t (cond (nat_eq (f n) (f n)) (Some (Node n)) None) None) (lt-ltb n (length U) q) ∙ ap (λ t. cond t (Some (Node n)) None) (eq-eqb (f n) (f n) refl))

  image_from : (x : Value) → IsValue U x → image from (moved f x) ≡ Some x
  image_from (Atom c) q = refl
  image_from (Node n) q = from_place n q

  from_map : IsMap W U from
  from_map = record {
    values = λ k y e. let o = from_only k y e in subst (λ u. IsValue U u) (sym o.2) o.0;
    arcs = λ k y e a x q.
        let o = from_only k y e in
        let s = map_some (moved f) (arc U (Node (h k)) a) x (sym (m.arcs (h k) o.0 a) ∙ (ap (λ j. arc W (Node j) a) o.1 ∙ q)) in
        (s.0, ap (image from) s.2 ∙ image_from s.0 (arc_value U su (Node (h k)) a s.0 s.1), ap (λ u. arc U u a) o.2 ∙ s.1);
  }

  up : (x : Value) → IsValue U x → MapsInto U x W (moved f x)
  up x q = record { by = to; is_map = to_map; root = image_to x q }

  down : (x : Value) → IsValue U x → MapsInto W (moved f x) U x
  down x q = record { by = from; is_map = from_map; root = image_from x q }

  value_moved : (x : Value) → IsValue U x → IsValue W (moved f x)
  value_moved (Atom c) q = tt
  value_moved (Node n) q = (m.there n q).0

  -- what is there, is there at its place
  pub at_moved : (x z : Value) (p : List ℕ) → IsValue U x → at U x p ≡ Some z → IsValue U z → at W (moved f x) p ≡ Some (moved f z)
  at_moved x z p q there held =
      let c = carries U W to to_map p x (moved f x) (image_to x q) z there in
      c.2 ∙ (sym c.1 ∙ image_to z held)

  pub unifier_moved : (L R : Structure) (l r u : Value) (p : List ℕ) → IsUnifier L l p R r U u → IsUnifier L l p R r W (moved f u)
  unifier_moved L R l r u p un =
      let t = un.takes in
      let c = carries U W to to_map p u (moved f u) (image_to u t.held) t.place t.there in
      record {
        takes = record {
          structure = sw;
          held = value_moved u t.held;
          left = maps_transitive L l U u W (moved f u) t.left (up u t.held);
          place = c.0;
          there = c.2;
          right = maps_transitive R r U t.place W c.0 t.right (record { by = to; is_map = to_map; root = c.1 });
        };
        least = λ G g both. maps_transitive W (moved f u) U u G g (down u t.held) (un.least G g both);
      }

  -- ---- what is reached

  reached_home : (x : Value) → IsValue U x → (k : ℕ) → IsReached W (moved f x) k → IsReached U x (h k) × (h k < length U) × (f (h k) ≡ k)
  reached_home x q k r =
      let c = carries W U from from_map r.0 (moved f x) x (image_from x q) (Node k) r.1 in
      let o = from_only k c.0 c.1 in
      ((r.0, c.2 ∙ ap (λ y. Some y) o.2), o.0, o.1)

  pub counts_home : (x : Value) → IsValue U x → (nodes arcs : ℕ) → Counts W (moved f x) nodes arcs → Counts U x nodes arcs
  counts_home x q nodes arcs c =
      let home = λ (k : ℕ) (i : IsIn c.list k). reached_home x q k (c.is.reached k i) in
      record {
        list = map h c.list;
        is = record {
          once = once_mapped h c.list (λ j k hj hk e. sym (home j hj).2 ∙ (ap f e ∙ (home k hk).2)) c.is.once;
          reached = λ n i. let r = map_in h c.list n i in subst (λ j. IsReached U x j) r.2 (home r.0 r.1).0;
          all = λ n r.
              let in_u = reached_value_of x q n r in
              subst (λ j. IsIn (map h c.list) j) (m.there n in_u).1 (in_map h c.list (f n) (c.is.all (f n) (r.0, at_moved x (Node n) r.0 q r.1 in_u)));
        };
        nodes_are = length-map c.list h ∙ c.nodes_are;
        arcs_are = total_mapped h (λ k. length (own U k)) (λ k. length (own W k)) c.list (λ k i.
            (let o = home k i in m.lengths (h k) o.1 ∙ ap (λ j. length (own W j)) o.2)) ∙ c.arcs_are;
      }
    where
      reached_value_of : (x : Value) → IsValue U x → (n : ℕ) → IsReached U x n → n < length U
      reached_value_of x q n r = reached_value U [] su x n q r

  -- ---- what a unifier keeps, where the sides have more nodes behind them too
  module _ (S N : Structure) (s : IsStructure S) (short : length S ≤ b) (l r u : Value) (p : List ℕ) (hl : IsValue S l) (hr : IsValue S r) (hu : IsValue U u)
      (i : Images (S ++ N) l p (S ++ N) r W (moved f u)) where
    less : (g : ℕ → Option Value) → IsMap (S ++ N) W g → IsMap S W g
    less g is = record { values = is.values; arcs = λ n y e a x q. is.arcs n y e a x (arc_of_longer S N (Node n) (has_place S n a x q) a ∙ q) }

    here : (z : Value) × (image from i.place ≡ Some z) × (at U u p ≡ Some z)
    here = carries W U from from_map p (moved f u) u (image_from u hu) i.place i.there

    small : Images S l p S r U u
    small = record {
      left = after i.left from;
      right = after i.right from;
      left_map = after_is_map S W U i.left from (less i.left i.left_map) from_map;
      right_map = after_is_map S W U i.right from (less i.right i.right_map) from_map;
      left_root = image_after i.left from l (moved f u) u i.left_root (image_from u hu);
      place = here.0;
      there = here.2;
      right_root = image_after i.right from r i.place here.0 i.right_root here.1;
    }

    -- a side node has an image in W, and one in U
    goes : (t : SideNode) → IsSideNode S l S r t → (y z : Value) × (image_of i t ≡ Some y) × (image from y ≡ Some z) × (image_of small t ≡ Some z)
    unfolding small
    goes (Left n) q =
        let c = carries (S ++ N) W i.left i.left_map q.0 l (moved f u) i.left_root (Node n) (at_of_longer S N s q.0 l hl ∙ q.1) in
        let d = carries W U from from_map q.0 (moved f u) u (image_from u hu) c.0 c.2 in
        (c.0, d.0, c.1, d.1, image_after i.left from (Node n) c.0 d.0 c.1 d.1)
    goes (Right n) q =
        let c = carries (S ++ N) W i.right i.right_map q.0 r i.place i.right_root (Node n) (at_of_longer S N s q.0 r hr ∙ q.1) in
        let d = carries W U from from_map q.0 i.place here.0 here.1 c.0 c.2 in
        (c.0, d.0, c.1, d.1, image_after i.right from (Node n) c.0 d.0 c.1 d.1)

    to_big : (t : SideNode) → IsSideNode S l S r t → (j : ℕ) → image_of small t ≡ Some (Node j) → image_of i t ≡ Some (Node (f j))
    to_big t side j e = let q = goes t side in go q.0 q.2 (q.3 ∙ (sym q.4 ∙ e))
      where
        same : (n k : ℕ) → Node n ≡ Node k → n ≡ k
        same n k q = cc

        go : (y : Value) → image_of i t ≡ Some y → image from y ≡ Some (Node j) → image_of i t ≡ Some (Node (f j))
        go (Atom c) q h' = cc
        go (Node k) q h' =
            let o = from_only k (Node j) h' in
            q ∙ ap (λ n. Some (Node n)) (sym o.1 ∙ ap f (sym (same j (h k) o.2)))

    side_big : (t : SideNode) → IsSideNode S l S r t → IsSideNode (S ++ N) l (S ++ N) r t
    side_big (Left n) q = reached_more S N s l n hl q
    side_big (Right n) q = reached_more S N s r n hr q

    same_arcs : (t : SideNode) → IsSideNode S l S r t → (a : ℕ) → arc_of (S ++ N) (S ++ N) t a ≡ arc_of S S t a
    same_arcs (Left n) q a = arc_of_longer S N (Node n) (reached_value S N s l n hl q) a
    same_arcs (Right n) q a = arc_of_longer S N (Node n) (reached_value S N s r n hr q) a

    alone : (t : SideNode) → IsSideNode S l S r t → IsAlone (S ++ N) l p (S ++ N) r W (moved f u) i t → IsAlone S l p S r U u small t
    alone t side a =
        let q = goes t side in
        let o = from_only a.place q.1 (subst (λ w. image from w ≡ Some q.1) (some_inj q.0 (Node a.place) (sym q.2 ∙ a.is)) q.3) in
        record {
          place = h a.place;
          is = q.4 ∙ ap (λ w. Some w) o.2;
          one = λ t' side' e. a.one t' (side_big t' side') (to_big t' side' (h a.place) e ∙ ap (λ j. Some (Node j)) o.1);
          same = λ c x e none. a.same c (moved f x) (ap (λ j. arc W (Node j) c) (sym o.1) ∙ (m.arcs (h a.place) o.0 c ∙ ap (option_map (moved f)) e)) (same_arcs t side c ∙ none);
        }

    pub keeps_moved : ((j : Images S l p S r U u) → Keeps S l p S r U u j) → Keeps (S ++ N) l p (S ++ N) r W (moved f u) i
    keeps_moved keeps = record {
      left = λ n q free.
          let q' = reached_less S N s l n hl q in
          let at = to_big (Left n) q' n ((keeps small).left n q' (λ k on. alone (Left k) (reached_on S l n k q' on) (free k (reached_more S N s (Node n) k (reached_value S N s l n hl q') on)))) in
          at ∙ ap (λ j. Some (Node j)) (m.fixed n (omega (arith, short, reached_value S N s l n hl q')));
      right = λ n q free.
          let q' = reached_less S N s r n hr q in
          let at = to_big (Right n) q' n ((keeps small).right n q' (λ k on.
          (let g = free k (reached_more S N s (Node n) k (reached_value S N s r n hr q') on) in (alone (Right k) (reached_on S r n k q' on) g.0, λ other. g.1 (reached_more S N s l k hl other))))) in
          at ∙ ap (λ j. Some (Node j)) (m.fixed n (omega (arith, short, reached_value S N s r n hr q')));
    }

-- the same with more nodes behind both sides and the unifier
module _ (S N : Structure) (s : IsStructure S) (long : IsStructure (S ++ N)) where
  pub counts_longer : (x : Value) → IsValue S x → (nodes arcs : ℕ) → Counts (S ++ N) x nodes arcs → Counts S x nodes arcs
  counts_longer (Atom c) q n a k = counts_home (length S) S (S ++ N) (λ n. n) (λ n. n) (stays S N) s long (Atom c) q n a k
  counts_longer (Node i) q n a k = counts_home (length S) S (S ++ N) (λ n. n) (λ n. n) (stays S N) s long (Node i) q n a k

  pub keeps_longer : (l r u : Value) (p : List ℕ) → IsValue S l → IsValue S r → IsValue S u → (i : Images (S ++ N) l p (S ++ N) r (S ++ N) u)
      → ((j : Images S l p S r S u) → Keeps S l p S r S u j) → Keeps (S ++ N) l p (S ++ N) r (S ++ N) u i
  keeps_longer l r (Atom c) p hl hr hu i keeps = keeps_moved (length S) S (S ++ N) (λ n. n) (λ n. n) (stays S N) s long S N s (omega arith) l r (Atom c) p hl hr hu i keeps
  keeps_longer l r (Node n) p hl hr hu i keeps = keeps_moved (length S) S (S ++ N) (λ n. n) (λ n. n) (stays S N) s long S N s (omega arith) l r (Node n) p hl hr hu i keeps
