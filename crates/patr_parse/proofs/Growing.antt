-- What is promised of edges stays true where more nodes and more edges come.
use Rattle.std.proofs.Common.{◌≡◌, inl, inr, ℕ, zero, suc, ◌+◌, List, [], ◌∷◌, ◌++◌, length, map, get_or, Option, Some, None, slice_get, refl, sym, ap, ◌∙◌, arith, subst}
use Rattle.std.proofs.lemmas.List.{get_or_append_left, get_or-append-add}
use Rattle.std.proofs.lemmas.Option.{slice_get_within}
use Rattle.patr_lists.proofs.Places.{get_left, get_parts}
use Rattle.patr_parse.proofs.Names.{Value, Node, Structure, arc, IsValue, IsStructure, IsUnifier, Images, Keeps, Rules, Derivation, Begin, IsLeastValue, some_inj, arc_of_longer, Shown, IsShown, ValueIsHeld, value_of, Extends, held_below, still_held, same_number_held, value_below, Counts, EdgeKind, Rule, Back, Edge, derived, derivations, from_length, Stored, Bounds, root_of, IsJoined, HasSource, IsSoundEdge, AreSound, made_by, ItemsAreHeld, IsReady, AreWaiting}
use Rattle.patr_model.proofs.Longer.{longer_keeps}
use Rattle.patr_arena.specs.declared.value.Value as its
use Rattle.patr_arena.specs.declared.value.Value.TheVariants as value
use Rattle.patr_chart.specs.declared.edge.EdgeKind.TheVariants.{Entry}
use Rattle.patr_chart.specs.Charted.{tree}
use Rattle.patr_parse.specs.Found.{IsRootOf, IsItemRoot}
use Rattle.patr_parse.proofs.Renumbered.{counts_longer, keeps_longer}

-- ---- more nodes

module _ (v w : Shown) (sv : IsShown v) (sw : IsShown w) (e : Extends v w) where
  long : IsStructure (v.structure ++ e.structure.0)
  long = subst IsStructure e.structure.1 sw.structure

  pub value_still : (x : its.Value) → ValueIsHeld v x → ValueIsHeld w x
  value_still (value.Atom c) h = tt
  value_still (value.Node a) h = still_held v w e a.block a.offset h

  pub same_value : (x : its.Value) → ValueIsHeld v x → value_of w x ≡ value_of v x
  same_value (value.Atom c) h = refl
  same_value (value.Node a) h = ap Node (same_number_held v w e a.block a.offset h)

  pub least_still : (g : Rules) (t : Derivation) (x : its.Value) → ValueIsHeld v x → IsLeastValue g t v.structure (value_of v x) → IsLeastValue g t w.structure (value_of w x)
  least_still g t x h l =
      subst (λ S. IsLeastValue g t S (value_of w x)) (sym e.structure.1)
      (subst (λ m. IsLeastValue g t (v.structure ++ e.structure.0) m) (sym (same_value x h)) (longer_keeps.least g t v.structure e.structure.0 (value_of v x) long l))

  pub bounds_still : (x : its.Value) → ValueIsHeld v x → (nodes arcs : ℕ) → Bounds v (value_of v x) nodes arcs → Bounds w (value_of w x) nodes arcs
  bounds_still x h nodes arcs b = λ n a c.
      b n a (counts_longer v.structure e.structure.0 sv.structure long (value_of v x) (value_below v sv x h) n a
      (subst (λ S. Counts S (value_of v x) n a) e.structure.1 (subst (λ y. Counts w.structure y n a) (same_value x h) c)))

  pub root_still : (f : Edge) → ValueIsHeld v f.root → (u : Value) → IsValue v.structure u → IsRootOf v f u → IsRootOf w f u
  root_still f h u hu (inl r) = inl (r.0, same_value f.root h ∙ r.1)
  root_still f h u hu (inr r) = inr (r.0, ap (λ S. arc S u 0) e.structure.1 ∙ (arc_of_longer v.structure e.structure.0 u hu 0 ∙ (r.1 ∙ ap (λ y. Some y) (sym (same_value f.root h)))))

  pub back : (l r : Value) (a p : its.Value) → ValueIsHeld v a → ValueIsHeld v p → value_of v a ≡ l → value_of v p ≡ r
      → (P : Structure → Value → Value → Type 0) → P (v.structure ++ e.structure.0) l r → P w.structure (value_of w a) (value_of w p)
  back l r a p ha hp is_l is_r P h =
      subst (λ G. P G (value_of w a) (value_of w p)) (sym e.structure.1)
      (subst (λ x. P (v.structure ++ e.structure.0) x (value_of w p)) (sym (same_value a ha ∙ is_l)) (subst (λ y. P (v.structure ++ e.structure.0) l y) (sym (same_value p hp ∙ is_r)) h))

  pub joined_still : (f a p : Edge) (slot : ℕ) → ValueIsHeld v f.root → ValueIsHeld v a.root → ValueIsHeld v p.root → IsJoined v f a p slot → IsJoined w f a p slot
  joined_still f a p slot hf ha hp j =
      let S = v.structure in
      let N = e.structure.0 in
      let u = j.value in
      let l = value_of v a.root in
      let r = value_of v p.root in
      let hl = value_below v sv a.root ha in
      let hr = value_below v sv p.root hp in
      record {
        value = u;
        unifier = back l r a.root p.root ha hp refl refl (λ G x y. IsUnifier G x (slot ∷ []) G y G u)
            (longer_keeps.unifier S N l r u (slot ∷ []) sv.structure long hl hr j.unifier);
        keeps = back l r a.root p.root ha hp refl refl (λ G x y. (i : Images G x (slot ∷ []) G y G u) → Keeps G x (slot ∷ []) G y G u i)
            (λ i. keeps_longer S N sv.structure long l r u (slot ∷ []) hl hr j.unifier.takes.held i j.keeps);
        root = root_still f hf u j.unifier.takes.held j.root;
      }

  pub items_still : (s : Stored) → ItemsAreHeld s v → ItemsAreHeld s w
  items_still s h = λ n i at. still_held v w e i.root.block i.root.offset (h n i at)

  item_still : (s : Stored) → ItemsAreHeld s v → (f : Edge) → ValueIsHeld v f.root → (k : EdgeKind) → IsItemRoot s v f k → IsItemRoot s w f k
  item_still s items f h (Entry n k) r = r
  item_still s items f h (Rule r k item seen slots) i =
      let held = items item i.0 i.1 in
      (i.0, i.1, subst (λ u. IsRootOf w f u) (sym (ap Node (same_number_held v w e i.0.root.block i.0.root.offset held))) (root_still f h (root_of v i.0) (held_below v sv i.0.root.block i.0.root.offset held) i.2))

  source_still : (s : Stored) → ItemsAreHeld s v → (es : List Edge) → ((k : ℕ) (x : Edge) → slice_get es k ≡ Some x → ValueIsHeld v x.root)
      → (f : Edge) → ValueIsHeld v f.root → (o : Option Back) → HasSource s v es f o → HasSource s w es f o
  source_still s items es held f h None c = item_still s items f h f.kind c
  source_still s items es held f h (Some b) c = (c.0, c.1, c.2, c.3, joined_still f c.0 c.1 _ h (held b.active c.0 c.2) (held b.passive c.1 c.3) c.4)

  pub sound_still : (g : Rules) (s : Stored) → ItemsAreHeld s v → (es : List Edge) → ((k : ℕ) (x : Edge) → slice_get es k ≡ Some x → ValueIsHeld v x.root)
      → (t : Derivation) (f : Edge) → IsSoundEdge g s v es t f → IsSoundEdge g s w es t f
  sound_still g s items es held t f h = record {
    held = value_still f.root h.held;
    value = least_still g t f.root h.held h.value;
    bounds = bounds_still f.root h.held f.nodes f.arcs h.bounds;
    sized = h.sized;
    item = h.item;
    source = source_still s items es held f h.held f.back h.source;
  }

  module _ (g : Rules) (s : Stored) (limit : ℕ) (es : List Edge) (r : IsReady g s v limit es) where
    all_held : (k : ℕ) (x : Edge) → slice_get es k ≡ Some x → ValueIsHeld v x.root
    all_held k x at = (r.sound k x at).held

    pub ready_still : IsReady g s w limit es
    ready_still = record {
      fit = r.fit;
      once = r.once;
      sound = λ k f at. sound_still g s r.items es all_held (tree es k) f (r.sound k f at);
      items = items_still s r.items;
      small = r.small;
    }

    pub waiting_still : (ys : List Edge) → AreWaiting g s v es ys → AreWaiting g s w es ys
    waiting_still ys h = λ n f at. sound_still g s r.items es all_held (derived (derivations es) f) f (h n f at)

-- ---- more edges

made_at : (f : Edge → Derivation) (ys : List Edge) (n : ℕ) (e : Edge) (d : Derivation) → slice_get ys n ≡ Some e → get_or (map f ys) n d ≡ f e
made_at f [] n e d h = cc
made_at f (y ∷ ys) zero e d h = ap f (some_inj y e h)
made_at f (y ∷ ys) (suc n) e d h = made_at f ys n e d h

source_more : (s : Stored) (v : Shown) (es ys : List Edge) (f : Edge) (o : Option Back) → HasSource s v es f o → HasSource s v (es ++ ys) f o
source_more s v es ys f None c = c
source_more s v es ys f (Some b) c = (c.0, c.1, get_left es ys b.active c.0 c.2, get_left es ys b.passive c.1 c.3, c.4)

pub sound_more : (g : Rules) (s : Stored) (v : Shown) (es ys : List Edge) (t : Derivation) (f : Edge) → IsSoundEdge g s v es t f → IsSoundEdge g s v (es ++ ys) t f
sound_more g s v es ys t f h = record { held = h.held; value = h.value; bounds = h.bounds; sized = h.sized; item = h.item; source = source_more s v es ys f f.back h.source }

-- edges behind others
pub sound_pushed : (g : Rules) (s : Stored) (v : Shown) (es ys : List Edge) → derivations (es ++ ys) ≡ derivations es ++ made_by es ys → AreSound g s v es → AreWaiting g s v es ys → AreSound g s v (es ++ ys)
sound_pushed g s v es ys is sound waiting = λ k f at. elim (get_parts es ys k f at) [
  | inl old ↦ (let same : tree (es ++ ys) k ≡ tree es k = ap (λ l. get_or l k (Begin 0 0 0)) is ∙ get_or_append_left (derivations es) (made_by es ys) (Begin 0 0 0) k (omega (arith, slice_get_within es k f old, from_length [] es)) in
      subst (λ t. IsSoundEdge g s v (es ++ ys) t f) (sym same) (sound_more g s v es ys (tree es k) f (sound k f old)))
  | inr new ↦ (let place : k ≡ length (derivations es) + new.0 = (let q = new.1 in omega (arith, q, from_length [] es)) in
      let same : tree (es ++ ys) k ≡ derived (derivations es) f =
      ap (λ l. get_or l k (Begin 0 0 0)) is ∙ (ap (λ n. get_or (derivations es ++ made_by es ys) n (Begin 0 0 0)) place
      ∙ (get_or-append-add (derivations es) (made_by es ys) new.0 (Begin 0 0 0) ∙ made_at (derived (derivations es)) ys new.0 f (Begin 0 0 0) new.2)) in
      subst (λ t. IsSoundEdge g s v (es ++ ys) t f) (sym same) (sound_more g s v es ys (derived (derivations es) f) f (waiting new.0 f new.2)))
]
