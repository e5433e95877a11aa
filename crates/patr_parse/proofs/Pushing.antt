-- A draft's edge, once its nodes stand behind some others.
use Rattle.std.proofs.Common.{ℕ, Bool, true, false, List, [], ◌∷◌, length, refl, sym, ap, ◌∙◌, arith, subst}
use Rattle.patr_parse.proofs.Names.{extends_on, Value, Structure, arc, IsStructure, IsUnifier, Images, Keeps, Rules, size, IsLeastValue, arc_value, map_some, Extends, with_block, Shown, IsShown, ValueIsHeld, value_of, value_below, made_of, Counts, Edge, kind_passive, derivations, derived, derived_by, Stored, Bounds, Draft, IsDraft, with_root, HasSource, IsJoined, IsSoundEdge, daughters, IsRootBy, IsReady}
use Rattle.patr_arena.specs.declared.value.Value as its
use Rattle.patr_chart.specs.Charted.{tree}
use Rattle.patr_parse.proofs.Counted.{counts_below}
use Rattle.patr_parse.proofs.Growing.{back}
use Rattle.patr_parse.proofs.Joins.{least_by, next_item, root_of_edge, slot_reached, sum_of_sizes}
use Rattle.patr_parse.proofs.Longer.{unifier_sides}
use Rattle.patr_parse.proofs.Renumbered.{IsRenumbered, moved, arc_moved, counts_home, keeps_moved, unifier_moved}
use Rattle.patr_parse.proofs.Placed.{block_behind, block_moved, home, place, ref_moved}

-- a draft's edge is sound once its nodes stand behind some others
module _ (g : Rules) (s : Stored) (v : Shown) (limit words : ℕ) (es : List Edge) (sv : IsShown v) (ready : IsReady g s v limit es)
    (d : Draft) (h : IsDraft v words es limit d) (u : Shown) (su : IsShown u) (e : Extends v u) (sw : IsShown (with_block u d.block)) (root : its.Value)
    (held : ValueIsHeld (with_block u d.block) root) (stands : IsRootBy (kind_passive d.edge.kind) (with_block u d.block).structure (made_of u d.root) (value_of (with_block u d.block) root)) where
  abbrev w : Shown
  w = with_block u d.block

  abbrev S : Structure
  S = v.structure

  abbrev U : Structure
  U = (with_block v d.block).structure

  abbrev path : List ℕ
  path = daughters d.edge.kind ∷ []

  abbrev l : Value
  l = value_of v h.active.root

  abbrev r : Value
  r = value_of v h.passive.root

  abbrev x : Value
  x = made_of v d.root

  abbrev f : ℕ → ℕ
  f = place v u sv su e d.block h.made.old

  un : IsUnifier S l path S r U x
  un = subst (λ z. IsUnifier S z path S r U x) (sym h.left_is) h.made.unifier

  is : IsRenumbered (length S) U w.structure f (home v u sv su e d.block h.made.old)
  is = block_moved v u sv su e d.block h.made.old

  su' : IsStructure U
  su' = un.takes.structure

  -- the unifier, where it stands now
  there : IsUnifier S l path S r w.structure (moved f x)
  there = unifier_moved (length S) U w.structure f (home v u sv su e d.block h.made.old) is su' sw.structure S S l r x path un

  is_root : IsRootBy (kind_passive d.edge.kind) w.structure (moved f x) (value_of w root)
  is_root = subst (λ z. IsRootBy (kind_passive d.edge.kind) w.structure z (value_of w root)) (ref_moved v u sv su e d.block h.made.old d.root h.made.fits.1) stands

  bounded : (b : Bool) → IsRootBy b w.structure (moved f x) (value_of w root) → Bounds w (value_of w root) d.edge.nodes d.edge.arcs
  bounded true q n c k =
      let m = map_some (moved f) (arc U x 0) (value_of w root) (sym (arc_moved (length S) U w.structure f (home v u sv su e d.block h.made.old) is x un.takes.held 0) ∙ q) in
      let here = counts_home (length S) U w.structure f _ is su' sw.structure m.0 (arc_value U su' x 0 m.0 m.1) n c (subst (λ z. Counts w.structure z n c) m.2 k) in
      counts_below U x m.0 (slot_reached U x m.0 0 m.1) d.edge.nodes d.edge.arcs n c h.made.counts here
  bounded false q n c k =
      counts_below U x x (λ i reached. reached) d.edge.nodes d.edge.arcs n c h.made.counts (counts_home (length S) U w.structure f _ is su' sw.structure x un.takes.held n c (subst (λ z. Counts w.structure z n c) q k))

  more : Extends v w
  more = extends_on v u w e (block_behind u d.block)

  left : IsSoundEdge g s v es (tree es h.back.active) h.active
  left = ready.sound h.back.active h.active h.there_active

  right : IsSoundEdge g s v es (tree es h.back.passive) h.passive
  right = ready.sound h.back.passive h.passive h.there_passive

  joins : IsJoined w (with_root d.edge root) h.active h.passive (daughters d.edge.kind)
  joins =
      let N = more.structure.0 in
      let hl = value_below v sv h.active.root left.held in
      let hr = value_below v sv h.passive.root right.held in
      let here = back v w sv sw more l r h.active.root h.passive.root left.held right.held refl refl in
      record {
        value = moved f x;
        unifier = here (λ G i j. IsUnifier G i path G j w.structure (moved f x)) (unifier_sides S N w.structure l r (moved f x) path sv.structure hl hr there);
        keeps = here (λ G i j. (m : Images G i path G j w.structure (moved f x)) → Keeps G i path G j w.structure (moved f x) m)
            (λ i. keeps_moved (length S) U w.structure f _ is su' sw.structure S N sv.structure (omega arith) l r x path hl hr un.takes.held i
            (subst (λ z. (j : Images S z path S r U x) → Keeps S z path S r U x j) (sym h.left_is) h.made.keeps));
        root = root_of_edge w (with_root d.edge root) (moved f x) (kind_passive d.edge.kind) refl is_root;
      }

  pub sound_draft : IsSoundEdge g s w es (derived (derivations es) d.edge) (with_root d.edge root)
  sound_draft =
      let is_tree = ap (λ o. derived_by (derivations es) d.edge o) h.back_is in
      let both = h.made_of_both in
      record {
        held = held;
        value = subst (λ t. IsLeastValue g t w.structure (value_of w root)) (sym is_tree)
            (least_by g s v limit words es sv h.edges ready h.back.active h.back.passive h.active h.passive h.there_active h.there_passive both.adjacent d.edge.kind both.kind (daughters d.edge.kind) refl
            (kind_passive d.edge.kind) refl w.structure (moved f x) (value_of w root) there is_root);
        bounds = bounded (kind_passive d.edge.kind) is_root;
        sized = h.sum ∙ (sum_of_sizes g s v limit words es sv h.edges ready h.back.active h.back.passive h.active h.passive h.there_active h.there_passive both.adjacent d.edge.kind both.kind (daughters d.edge.kind) refl
            ∙ ap size (sym is_tree));
        item = next_item s h.active.kind d.edge.kind both.kind left.item;
        source = subst (λ o. HasSource s w es (with_root d.edge root) o) (sym h.back_is) (h.active, h.passive, h.there_active, h.there_passive, joins);
      }
