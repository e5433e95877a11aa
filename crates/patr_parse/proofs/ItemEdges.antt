-- The edges of a library's items.
use Rattle.std.proofs.Common.{◌≡◌, ℕ, suc, ◌+◌, ◌<◌, Bool, true, false, not, ltb, ltb-true, ltb-false, [], ◌++◌, length, Some, None, slice_get, refl, sym, ap, ◌∙◌, arith, subst}
use Rattle.patr_parse.proofs.Names.{Value, Node, arc, IsValue, IsStructure, Rules, Derivation, Begin, Leaf, IsLeastValue, some_inj, arc_of_longer, variant_steps, Shown, IsShown, ValueIsHeld, value_of, Extends, held_below, same_number_held, Counts, EdgeKind, Rule, Edge, kind_passive, RuleItem, EntryItem, Stored, IsStored, IsRuleItem, Bounds, rules_of, root_of, IsSoundEdge, HasMother, IsRootBy, IsAloneEdge}
use Rattle.patr_model.proofs.Longer.{longer_keeps}
use Rattle.patr_arena.specs.declared.value.Value as its
use Rattle.patr_arena.specs.declared.value.Value.TheVariants as value
use Rattle.patr_chart.specs.declared.edge.EdgeKind.TheVariants.{Entry}
use Rattle.patr_library.specs.Stored.{IsEntryItem}
use Rattle.patr_parse.specs.Begun.{begun_of, begun, leaf_of, leaf}
use Rattle.patr_parse.proofs.Counted.{counts_below}
use Rattle.patr_library.proofs.Reached.{counts_there}
use Rattle.patr_parse.proofs.Growing.{value_still, least_still, bounds_still}
use Rattle.patr_parse.proofs.Joins.{root_of_edge, slot_reached}
use Rattle.patr_parse.proofs.Items.{rule_item, entry_item}
use Rattle.patr_parse.proofs.Ready.{items_there}

module _ (s : Stored) (stored : IsStored s) (v : Shown) (base : IsShown s.shown) (sv : IsShown v) (e : Extends s.shown v) where
  abbrev g : Rules
  g = rules_of s

  -- ---- rules

  module _ (n : ℕ) (item : RuleItem) (at_n : slice_get s.rules n ≡ Some item) (i : ℕ) where
    abbrev kind : EdgeKind
    kind = Rule item.rule item.variant n 0 item.slots

    abbrev tree : Derivation
    tree = Begin item.rule item.variant i

    is : IsRuleItem g s.shown item
    is = rule_item s stored n item at_n

    abbrev old : Value
    old = root_of s.shown item

    abbrev new : Value
    new = root_of v item

    same_root : new ≡ old
    same_root = ap Node (same_number_held s.shown v e item.root.block item.root.offset is.held)

    old_value : IsValue s.shown.structure old
    old_value = held_below s.shown base item.root.block item.root.offset is.held

    new_value : IsValue v.structure new
    new_value = held_below v sv item.root.block item.root.offset (items_there s stored v e n item at_n)

    longer : (m : Value) → IsLeastValue g tree s.shown.structure m → IsLeastValue g tree v.structure m
    longer m l = subst (λ S. IsLeastValue g tree S m) (sym e.structure.1) (longer_keeps.least g tree s.shown.structure e.structure.0 m (subst IsStructure e.structure.1 sv.structure) l)

    -- where it has no daughters, the mother's slot is there, with the least value
    complete : kind_passive kind ≡ true → (m : Value) × (arc v.structure new 0 ≡ Some m) × IsLeastValue g tree s.shown.structure m
    complete q =
        let full : 1 ≡ length is.variant.categories = go (ltb 0 item.slots) refl q in
        let m = variant_steps.complete g item.rule item.variant i is.variant s.shown.structure old is.is (is.variant, is.is, full) is.least in
        (m.0, ap (λ S. arc S new 0) e.structure.1 ∙ (ap (λ x. arc (s.shown.structure ++ e.structure.0) x 0) same_root ∙ (arc_of_longer s.shown.structure e.structure.0 old old_value 0 ∙ m.1)), m.2)
      where
        go : (b : Bool) → ltb 0 item.slots ≡ b → not b ≡ true → 1 ≡ length is.variant.categories
        go true q w = cc
        go false q w = (let slots = is.slots in omega (arith, slots, ltb-false 0 item.slots q))

    pub begun_mother : kind_passive kind ≡ true → HasMother v.structure new
    begun_mother q = let m = complete q in (m.0, m.1)

    least_by : (b : Bool) → kind_passive kind ≡ b → (root : Value) → IsRootBy b v.structure new root → IsLeastValue g tree v.structure root
    least_by true q root h = let m = complete q in subst (λ x. IsLeastValue g tree v.structure x) (some_inj m.0 root (sym m.1 ∙ h)) (longer m.0 m.2)
    least_by false q root h =
        let more : 1 < length is.variant.categories = go (ltb 0 item.slots) refl q in
        subst (λ x. IsLeastValue g tree v.structure x) (sym (h ∙ same_root)) (longer old (variant_steps.partial g item.rule item.variant i is.variant s.shown.structure old is.is (is.variant, is.is, more) is.least))
      where
        go : (b : Bool) → ltb 0 item.slots ≡ b → not b ≡ false → 1 < length is.variant.categories
        go true q w = (let slots = is.slots in omega (arith, slots, ltb-true 0 item.slots q))
        go false q w = cc

    slots_bounds : Bounds v new item.nodes item.arcs
    slots_bounds = bounds_still s.shown v base sv e (value.Node item.root) is.held item.nodes item.arcs is.bounds

    bounds_by : (b : Bool) → (root : Value) → IsRootBy b v.structure new root → Bounds v root item.nodes item.arcs
    bounds_by true root h = λ k a c.
        let whole = counts_there v.structure sv.structure new new_value in
        let up = slots_bounds whole.0 whole.1 whole.2 in
        let down = counts_below v.structure new root (slot_reached v.structure new root 0 h) whole.0 whole.1 k a whole.2 c in
        (omega (arith, up.0, down.0), omega (arith, up.1, down.1))
    bounds_by false root h = λ k a c. slots_bounds k a (subst (λ x. Counts v.structure x k a) h c)

    -- a rule that has begun
    abbrev pub begun_edge : its.Value → Edge
    begun_edge root = record { kind = kind; start = i; end = i; back = None; root = root; nodes = item.nodes; arcs = item.arcs; size = 1 }

    pub begun_alone : (root : its.Value) → ValueIsHeld v root → IsRootBy (kind_passive kind) v.structure new (value_of v root) → IsAloneEdge g s v (begun s i n) (begun_edge root)
    begun_alone root held h = record {
      back = refl;
      is = ap (λ o. begun_of o i) (sym at_n);
      place = (refl, refl);
      fits = (is.variant, is.is, sym is.slots, omega arith);
      sound = subst (λ o. IsSoundEdge g s v [] (begun_of o i) (begun_edge root)) (sym at_n) (record {
        held = held;
        value = least_by (kind_passive kind) refl (value_of v root) h;
        bounds = bounds_by (kind_passive kind) (value_of v root) h;
        sized = refl;
        item = (item, at_n, refl, refl, refl);
        source = (item, at_n, root_of_edge v (begun_edge root) new (kind_passive kind) refl h);
      });
    }

  -- ---- entries

  module _ (n : ℕ) (item : EntryItem) (at_n : slice_get s.entries n ≡ Some item) (i : ℕ) where
    -- an entry over a word
    abbrev pub leaf_edge : Edge
    leaf_edge = record { kind = Entry item.entry item.variant; start = i; end = i + 1; back = None; root = item.root; nodes = item.nodes; arcs = item.arcs; size = 1 }

    entry : IsEntryItem g s.shown item
    entry = entry_item s stored n item at_n

    next : i + 1 ≡ suc i
    next = omega arith

    pub leaf_alone : IsAloneEdge g s v (leaf s i n) leaf_edge
    leaf_alone = record {
      back = refl;
      is = ap (λ k. Leaf item.entry item.variant i k) next ∙ ap (λ o. leaf_of o i) (sym at_n);
      place = tt;
      fits = tt;
      sound = subst (λ o. IsSoundEdge g s v [] (leaf_of o i) leaf_edge) (sym at_n) (record {
        held = value_still s.shown v base sv e item.root entry.held;
        value = least_still s.shown v base sv e g (Leaf item.entry item.variant i (suc i)) item.root entry.held (entry.least i (suc i));
        bounds = bounds_still s.shown v base sv e item.root entry.held item.nodes item.arcs entry.bounds;
        sized = refl;
        item = tt;
        source = (n, item, at_n, refl, refl, refl);
      });
    }
