-- The items of rules and of entries are exactly the variants that have a solution, and they are found by key.
use Rattle.std.proofs.Common.{◌≡◌, inl, inr, ℕ, List, length, map, Some, slice_get, refl, ap, ◌∙◌, [], ◌∷◌, sym, subst, zero, suc, ◌+◌, ◌<◌, Bool, cond, ◌++◌, take, get_or, None, arith}
use Rattle.patr_library.proofs.Names.{IsOwnBlock, IsValue, Same, own_nodes, own_value, maps_transitive, value_below, all_weaker, AllByRecursion, Rules, RuleVariant, Begin, rule_variant, IsSolvable, AreWithin, variant_steps, Shown, IsShown, RuleItem, IsRuleItem, AreKept, HasNoRule, HasRuleItem, Numbered, all_numbered, EntryVariant, Leaf, entry_variant, Node, IsLeastValue, some_inj, ref_of, value_of, EntryItem, Bounds, IsEntryItem, HasEntryItem, HasNoEntry, NumberedEntry, length-map, map-append, take_more, slice_get_within, and_then_some, places, rules_fault, grammar_first, grammar_fault, templates_fault, first_fault, meant, same, IsRefusedBy, ExpandCause, Fault, rule_variants, entry_variants, are_built, Id, rule_seen, Entry, entry_seen, has_key, AreOfEntries, HasItems, built_rules, grammar_of, entries_of, keys, word_at, is_number, is_of_word, is_of_mother, AreRulesDealt, variants_of, AreEntriesDealt, entry_variants_of, length-take-le}
use Rattle.patr_model.proofs.Leaves.{leaves_are_rules}
use Rattle.std.proofs.lemmas.Simd.{map-map}
use Rattle.patr_grammar.specs.declared.grammar.Grammar.{Grammar}
use Rattle.patr_lists.specs.Tables.{Table, with_number}
use Rattle.patr_lists.proofs.Tables.{index_added}
use Rattle.patr_library.proofs.ItemsKept.{block_held, block_bounds, block_least, block_value_same}
use Rattle.patr_library.proofs.Fronts.{front_same, least_value_same}
use Rattle.patr_library.proofs.Listed.{kept_all, kept_every, all_members, every_member, items_rise}
use Rattle.patr_library.specs.Stored.{number}
use Rattle.patr_library.proofs.Keeping.{kept_map, rule_still}
use Rattle.patr_arena.specs.declared.value.Ref.TheVariants as ref
use Rattle.patr_text.specs.declared.fault.Fault.TheVariants.{Memory, Refused}

-- ---- the items of rules

module _ (g : Rules) (v : Shown) (s : IsShown v) (within : (r k : ℕ) (rule : RuleVariant) → rule_variant g r k ≡ Some rule → AreWithin (length rule.categories) rule.equations) where
  rule_item : (d : Numbered) (i : RuleItem) → rule_variant g d.0 d.1 ≡ Some d.2 → HasRuleItem v d i → IsRuleItem g v i
  rule_item d i is stored =
      let alone = stored.least.rooted.own in
      let below = stored.least.rooted.root in
      record {
        variant = d.2;
        is = ap (λ r. rule_variant g r i.variant) stored.rule_is ∙ (ap (λ k. rule_variant g d.0 k) stored.variant_is ∙ is);
        slots = stored.slots;
        mother = stored.mother;
        held = block_held v s i.root.block stored.nodes stored.block alone i.root.offset below;
        least = block_least v s i.root.block stored.nodes stored.block alone i.root.offset below d.2.categories d.2.equations (within d.0 d.1 d.2 is) stored.least;
        bounds = block_bounds v s i.root.block stored.nodes stored.block alone (ref.New i.root.offset) below i.nodes i.arcs stored.nodes_are stored.arcs_are;
      }

  every_rule : (is : List RuleItem) → AreKept (HasRuleItem v) HasNoRule (all_numbered 0 g.rules) is
      → (r k at : ℕ) → IsSolvable g (Begin r k at) → (n : ℕ) × (i : RuleItem) × (slice_get is n ≡ Some i) × (i.rule ≡ r) × (i.variant ≡ k)
  every_rule is kept r k at h =
      let rule = h.2.solves.0 in
      let there = h.2.solves.1 in
      let m = every_member g.rules r k rule there in
      elim (kept_every (HasRuleItem v) HasNoRule (all_numbered 0 g.rules) is kept m.0 (r, k, rule) m.1) [
        | inl none ↦ absurd (variant_steps.unsolved g r k at rule there (none rule.categories refl) h)
        | inr f ↦ (f.0, f.1, f.2, f.3.rule_is, f.3.variant_is)
      ]

-- ---- the items of entries

module _ (g : Rules) (v : Shown) (s : IsShown v) (within : (e k : ℕ) (entry : EntryVariant) → entry_variant g e k ≡ Some entry → AreWithin 1 entry.equations)
    (chains : (e k : ℕ) (entry : EntryVariant) → entry_variant g e k ≡ Some entry → entry.chain ≡ []) where
  -- what is left of the block of the one slot, and what is in the slot
  left : (d : NumberedEntry) (i : EntryItem) → (h : HasEntryItem v d i) → IsOwnBlock h.nodes × Same (own_nodes h.whole) (own_value h.to) (own_nodes h.nodes) (own_value h.to)
  left d i h = front_same h.whole h.nodes h.slots h.to h.least.rooted.own (let below = h.least.rooted.root in omega (arith, below)) h.front h.own

  -- the value in the one slot is the entry's least value
  leaf_least : (d : NumberedEntry) (i : EntryItem) → entry_variant g d.0 d.1 ≡ Some d.2 → HasEntryItem v d i → (from to : ℕ) → IsLeastValue g (Leaf d.0 d.1 from to) v.structure (value_of v i.root)
  leaf_least d i is h from to =
      let x = leaves_are_rules.solved g d.0 d.1 from to d.2 (own_nodes h.whole) (Node h.slots) is (chains d.0 d.1 d.2 is) (h.least.least (d.2.category ∷ []) refl) in
      let least = subst (IsLeastValue g (Leaf d.0 d.1 from to) (own_nodes h.whole)) (some_inj x.0 (own_value h.to) (sym x.1 ∙ h.slot)) x.2 in
      let rest = left d i h in
      let here = block_value_same v s h.number h.nodes h.block rest.0 h.to h.own in
      let root : IsValue v.structure (value_of v i.root) = value_below v s i.root h.held in
      let same = subst (λ y. Same (own_nodes h.whole) (own_value h.to) v.structure y) (sym h.root) (
        maps_transitive (own_nodes h.whole) (own_value h.to) (own_nodes h.nodes) (own_value h.to) v.structure (ref_of v h.number h.to) rest.1.0 here.1,
        maps_transitive v.structure (ref_of v h.number h.to) (own_nodes h.nodes) (own_value h.to) (own_nodes h.whole) (own_value h.to) here.0 rest.1.1,
      ) in
      least_value_same g (Leaf d.0 d.1 from to) (own_nodes h.whole) (own_value h.to) v.structure (value_of v i.root) s.structure root same least

  entry_item : (d : NumberedEntry) (i : EntryItem) → entry_variant g d.0 d.1 ≡ Some d.2 → HasEntryItem v d i → IsEntryItem g v i
  entry_item d i is stored = record {
    variant = d.2;
    is = ap (λ e. entry_variant g e i.variant) stored.entry_is ∙ (ap (λ k. entry_variant g d.0 k) stored.variant_is ∙ is);
    held = stored.held;
    least = λ from to.
        subst (λ e. IsLeastValue g (Leaf e i.variant from to) v.structure (value_of v i.root)) (sym stored.entry_is)
        (subst (λ k. IsLeastValue g (Leaf d.0 k from to) v.structure (value_of v i.root)) (sym stored.variant_is) (leaf_least d i is stored from to));
    bounds =
        subst (λ x. Bounds v x i.nodes i.arcs) (sym stored.root)
        (block_bounds v s stored.number stored.nodes stored.block (left d i stored).0 stored.to stored.own i.nodes i.arcs stored.nodes_are stored.arcs_are);
  }

  every_entry : (is : List EntryItem) → AreKept (HasEntryItem v) HasNoEntry (all_numbered 0 g.entries) is
      → (e k from to : ℕ) → IsSolvable g (Leaf e k from to) → (n : ℕ) × (i : EntryItem) × (slice_get is n ≡ Some i) × (i.entry ≡ e) × (i.variant ≡ k)
  every_entry is kept e k from to h =
      let entry = h.2.solves.0 in
      let there = h.2.solves.2 in
      let m = every_member g.entries e k entry there in
      elim (kept_every (HasEntryItem v) HasNoEntry (all_numbered 0 g.entries) is kept m.0 (e, k, entry) m.1) [
        | inl none ↦ absurd (leaves_are_rules.unsolved g e k from to entry there (chains e k entry there) (none (entry.category ∷ []) refl) h)
        | inr f ↦ (f.0, f.1, f.2, f.3.entry_is, f.3.variant_is)
      ]

-- ---- both

rules_are : (g : Grammar) (l : List Entry) → map variants_of g.rules.items ≡ (built_rules g l).rules
rules_are g l = sym (map-map (rule_variants number keys.cat) rule_seen g.rules.items)

entries_are : (g : Grammar) (l : List Entry) → map (entry_variants_of (meant g.templates.items)) l ≡ (built_rules g l).entries
entries_are g l = sym (map-map (entry_variants number same keys (meant g.templates.items)) entry_seen l)

-- what was dealt with, from nothing on
pub has_items : (g : Grammar) (l : List Entry) (u v w : Shown) (rules : List RuleItem) (entries : List EntryItem) → IsShown w
    → AreRulesDealt u v (all_numbered 0 (map variants_of g.rules.items)) [] rules → AreEntriesDealt v w (all_numbered 0 (map (entry_variants_of (meant g.templates.items)) l)) [] entries
    → HasItems (built_rules g l) w rules entries
has_items g l u v w rules entries s d e =
    let b = built_rules g l in
    let built = are_built number same keys (grammar_of g) (entries_of l) in
    let k : AreKept (HasRuleItem w) HasNoRule (all_numbered 0 b.rules) rules =
    kept_map (HasRuleItem v) (HasRuleItem w) HasNoRule (rule_still v w e.extends) (all_numbered 0 b.rules) rules
    (subst (λ vss. AreKept (HasRuleItem v) HasNoRule (all_numbered 0 vss) rules) (rules_are g l) (d.kept [] tt)) in
    let h : AreKept (HasEntryItem w) HasNoEntry (all_numbered 0 b.entries) entries =
    subst (λ vss. AreKept (HasEntryItem w) HasNoEntry (all_numbered 0 vss) entries) (entries_are g l) (e.kept [] tt) in
    record {
      rule_items = kept_all (HasRuleItem w) HasNoRule (λ d. rule_variant b d.0 d.1 ≡ Some d.2) (IsRuleItem b w) (rule_item b w s built.within.rules) (all_numbered 0 b.rules) rules (all_members b.rules) k;
      rules_rise = items_rise (HasRuleItem w) HasNoRule (λ i. (i.rule, i.variant)) (λ d i h. ap (λ r. (r, i.variant)) h.rule_is ∙ ap (λ n. (d.0, n)) h.variant_is) b.rules rules k;
      every_rule = every_rule b w s built.within.rules rules k;
      entry_items = kept_all (HasEntryItem w) HasNoEntry (λ d. entry_variant b d.0 d.1 ≡ Some d.2) (IsEntryItem b w) (entry_item b w s built.within.entries built.chains) (all_numbered 0 b.entries) entries (all_members b.entries) h;
      entries_rise = items_rise (HasEntryItem w) HasNoEntry (λ i. (i.entry, i.variant)) (λ d i h. ap (λ n. (n, i.variant)) h.entry_is ∙ ap (λ n. (d.0, n)) h.variant_is) b.entries entries h;
      every_entry = every_entry b w s built.within.entries built.chains entries h;
    }

-- each item is one of an entry that is there
pub entries_there : (g : Grammar) (l : List Entry) (v : Shown) (es : List EntryItem) → AllByRecursion (IsEntryItem (built_rules g l) v) es → AreOfEntries (length l) es
entries_there g l v = all_weaker (IsEntryItem (built_rules g l) v) (λ i. i.entry < length l)
    (λ i item.
    let all = (built_rules g l).entries in
    let here = and_then_some (slice_get all i.entry) (λ vs. slice_get vs i.variant) item.variant item.is in
    omega (arith, slice_get_within all i.entry here.0 here.1, ap length (entries_are g l), length-map l (entry_variants_of (meant g.templates.items))))

-- without a fault of the templates the grammar's is that of its rules
pub no_template : (g : Grammar) → templates_fault same (grammar_of g).templates ≡ None → grammar_fault same (grammar_of g) ≡ rules_fault (map rule_seen g.rules.items)
no_template g h = ap (λ f. first_fault f (rules_fault (map rule_seen g.rules.items))) h

-- the fault of the templates is the grammar's
pub template_refused : (g : Grammar) (why : Fault ExpandCause) → IsRefusedBy (templates_fault same (grammar_of g).templates) why → IsRefusedBy (grammar_fault same (grammar_of g)) why
template_refused g Memory h = tt
template_refused g (Refused c) h = ap (λ f. first_fault f (rules_fault (map rule_seen g.rules.items))) h

-- ---- what is found

places_map : {X Z : Type 0} (T : Z → Bool) (f : X → Z) (i : ℕ) (xs : List X) → places T i (map f xs) ≡ places (λ x. T (f x)) i xs
places_map T f i [] = refl
places_map T f i (x ∷ xs) = ap (λ l. cond (T (f x)) (i ∷ l) l) (places_map T f (suc i) xs)

pub mothers_found : (m : ℕ) (ks : List Id) (rules : List RuleItem) → ks ≡ map (λ i. i.mother) rules → places (has_key m) 0 ks ≡ places (is_of_mother m) 0 rules
mothers_found m ks rules is = ap (places (has_key m) 0) is ∙ places_map (has_key m) (λ i. i.mother) 0 rules

pub words_found : (l : List Entry) (w : ℕ) (ks : List Id) (entries : List EntryItem) → map (λ key. Some key.0) ks ≡ map (λ i. word_at l i.entry) entries → places (has_key w) 0 ks ≡ places (is_of_word l w) 0 entries
words_found l w ks entries is =
    sym (places_map (λ o. is_number o w) (λ (key : Id). Some key.0) 0 ks) ∙ (ap (places (λ o. is_number o w) 0) is ∙ places_map (λ o. is_number o w) (λ i. word_at l i.entry) 0 entries)

pub word_is : (l : List Entry) (e : ℕ) (d : Entry) → e < length l → word_at l e ≡ Some (get_or l e d).word.0
word_is [] e d h = absurd (omega (arith, h))
word_is (y ∷ l) zero d h = refl
word_is (y ∷ l) (suc e) d h = word_is l e d (omega (arith, h))

-- with one more
pub words_more : (l : List Entry) (entries : List EntryItem) (i : ℕ) (d : EntryItem) (x : Id) (ks : List Id) → i < length entries → word_at l (get_or entries i d).entry ≡ Some x.0
    → map (λ key. Some key.0) ks ≡ map (λ i. word_at l i.entry) (take i entries)
    → map (λ key. Some key.0) (ks ++ x ∷ []) ≡ map (λ i. word_at l i.entry) (take (i + 1) entries)
words_more l entries i d x ks h there is =
    map-append (λ (key : Id). Some key.0) ks (x ∷ [])
    ∙ (ap (λ ws. ws ++ Some x.0 ∷ []) is
    ∙ (ap (λ o. map (λ i. word_at l i.entry) (take i entries) ++ o ∷ []) (sym there)
    ∙ sym (ap (map (λ i. word_at l i.entry)) (take_more entries i d h) ∙ map-append (λ i. word_at l i.entry) (take i entries) (get_or entries i d ∷ []))))

-- with the next key
pub index_next : (keys : List Id) (i : ℕ) (d : Id) (L M : Table) (s : ℕ) → i < length keys → (get_or keys i d).0 < length L → M ≡ with_number L (get_or keys i d).0 i → get_or L s [] ≡ places (has_key s) 0 (take i keys) → get_or M s [] ≡ places (has_key s) 0 (take (i + 1) keys)
index_next keys i d L M s h below more is =
    let x = get_or keys i d in
    let long : length (take i keys) ≡ i = length-take-le i keys (omega (arith, h)) in
    ap (λ N. get_or N s []) (more ∙ ap (λ k. with_number L x.0 k) (sym long))
    ∙ (index_added (has_key s) (take i keys) x L x.0 s below refl is ∙ ap (λ l. places (has_key s) 0 l) (sym (take_more keys i d h)))
