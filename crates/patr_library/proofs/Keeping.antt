-- What is kept of each variant of a rule and of an entry, and of all of them.
use Rattle.std.proofs.Common.{drop, ◌≡◌, ◌⊎◌, inl, inr, ℕ, ◌+◌, ◌-◌, ◌<◌, List, [], ◌∷◌, ◌++◌, length, length-append, map, take, get_or, Some, slice_get, refl, sym, ap, ◌∙◌, arith, subst, suc, Option, None, Vec, Global}
use Rattle.patr_library.proofs.Names.{drop_more, take-append-drop, sum_by, length-map, map-append, take_more, append-nil, append_assoc, slice_get-map, slice_get_within, equations_at, variant_at, Feature, Addr, extends_on, Shown, IsShown, arcs_from, Extends, with_block, RuleItem, IsLeastAt, HasBlock, AreKept, IsDealt, AreDealt, IsRuleDealt, HasRuleItem, Numbered, numbered, entries_fault, ExpandFault, Meaning, entry_seen, get_or_from_slice_get, AllByRecursion, length-take-le, AreWithin, first_fault, rule_fault, rules_fault, EntryIsBuilt, are_built, entry_is_built, Id, Fault, rule_seen, ExpandCause, number, variants_at, AreNumbered, IsRefusedBy, keys, numbered_from, all_numbered, variants_of, StaysWithin, Node, arc, EntryVariant, entry_variant_of, fault_of_features, feature_variants, same, Entry, lists_at, Ref, ValueIsHeld, ref_of, value_of, same_number, same_number_held, still_held, EntryItem, IsOwn, own_nodes, own_value, IsEntryDealt, HasEntryItem, NumberedEntry, StaysAlone, all_variants_of, entry_variants_of, variant_of}
use Rattle.std.specs.Option.{option_map}
use Rattle.patr_grammar.specs.declared.grammar.SymbolText.{SymbolText}
use Rattle.patr_expand.specs.declared.variant.RuleVariant.{RuleVariant}
use Rattle.patr_text.specs.declared.fault.Fault.TheVariants.{Memory, Refused}
use Rattle.patr_grammar.specs.declared.grammar.RuleText.{RuleText}
use Rattle.patr_grammar.specs.declared.grammar.Element.{Element}
use Rattle.patr_expand.specs.declared.equation.Equation.{Equation}
use Rattle.patr_model.specs.Derivation as model
use Rattle.patr_model.specs.Productions as production
use Rattle.patr_arena.specs.declared.value.Value as its
use Rattle.patr_arena.specs.declared.value.Value.TheVariants as value
use Rattle.patr_arena.specs.declared.value.Ref.TheVariants as ref

extends_self : (v : Shown) → Extends v v
extends_self v = record { sizes = ([], sym (append-nil v.sizes)); structure = ([], sym (append-nil v.structure)) }

-- the block that was put behind the others
pub new_block : (v w : Shown) (nodes : List (List Feature)) (b : ℕ) → IsShown v → w ≡ with_block v nodes → b ≡ length v.sizes → HasBlock w b nodes
new_block v w nodes b s is at = record { before = v; shown = s; number = sym at; extends = subst (Extends (with_block v nodes)) (sym is) (extends_self (with_block v nodes)) }

pub further : (v w : Shown) (nodes : List (List Feature)) → w ≡ with_block v nodes → Extends v w
further v w nodes is = subst (Extends v) (sym is) (record { sizes = (length nodes ∷ [], refl); structure = (map (arcs_from v (length v.sizes)) nodes, refl) })

-- it stays where more stands behind it
pub block_still : (v w : Shown) (b : ℕ) (nodes : List (List Feature)) → Extends v w → HasBlock v b nodes → HasBlock w b nodes
block_still v w b nodes e h = record { before = h.before; shown = h.shown; number = h.number; extends = extends_on (with_block h.before nodes) v w h.extends e }

pub rule_still : (v w : Shown) → Extends v w → (d : Numbered) (i : RuleItem) → HasRuleItem v d i → HasRuleItem w d i
rule_still v w e d i s = record {
  rule_is = s.rule_is;
  variant_is = s.variant_is;
  mother = s.mother;
  slots = s.slots;
  nodes = s.nodes;
  block = block_still v w i.root.block s.nodes e s.block;
  least = s.least;
  nodes_are = s.nodes_are;
  arcs_are = s.arcs_are;
}

-- a new item of a rule's variant
pub rule_dealt : (v w : Shown) (x : RuleVariant) (mother : SymbolText) (count : ℕ) (nodes : List (List Feature)) (root : ℕ) (at : Addr) (n a : ℕ) (old new : List RuleItem) → IsShown v
    → slice_get x.symbols.items 0 ≡ Some mother → count ≡ length x.symbols.items → IsLeastAt count (equations_at x.equations.items) nodes root → w ≡ with_block v nodes
    → at.block ≡ length v.sizes → at.offset ≡ root → n ≡ length nodes → a ≡ sum_by length nodes
    → new ≡ old ++ record { rule = x.rule; variant = x.variant; mother = mother.category; slots = count - 1; root = at; nodes = n; arcs = a } ∷ []
    → IsRuleDealt v w x.rule x.variant (variant_at x) old new
rule_dealt v w x mother count nodes root at n a old new s first long least is block offset counted arcs more =
    let i : RuleItem = record { rule = x.rule; variant = x.variant; mother = mother.category; slots = count - 1; root = at; nodes = n; arcs = a } in
    let categories : length (variant_at x).categories ≡ count = length-map x.symbols.items (λ y. y.category.0) ∙ sym long in
    let some : 0 < length x.symbols.items = slice_get_within x.symbols.items 0 mother first in
    inr (
      nodes,
      is,
      i,
      more,
      record {
        rule_is = refl;
        variant_is = refl;
        mother = slice_get-map (λ (y : SymbolText). y.category.0) x.symbols.items 0 ∙ ap (option_map (λ (y : SymbolText). y.category.0)) first;
        slots = omega (arith, categories, some, long);
        nodes = nodes;
        block = new_block v w nodes at.block s is block;
        least = subst (λ m. IsLeastAt m (equations_at x.equations.items) nodes at.offset) (sym categories) (subst (λ o. IsLeastAt count (equations_at x.equations.items) nodes o) (sym offset) least);
        nodes_are = counted;
        arcs_are = arcs;
      },
    )

-- ---- lists of items

module _ {D I : Type 0} (good : D → I → Type 0) (bad : D → Type 0) where
  pub kept_bad : (ds : List D) (is : List I) (d : D) → AreKept good bad ds is → bad d → AreKept good bad (ds ++ d ∷ []) is
  kept_bad [] [] d k b = (b, tt)
  kept_bad [] (i ∷ is) d k b = absurd k
  kept_bad (x ∷ ds) [] d k b = (k.0, kept_bad ds [] d k.1 b)
  kept_bad (x ∷ ds) (i ∷ is) d k b = elim k as (λ _. (bad x × AreKept good bad (ds ++ d ∷ []) (i ∷ is)) ⊎ (good x i × AreKept good bad (ds ++ d ∷ []) is)) [
    | inl h ↦ inl (h.0, kept_bad ds (i ∷ is) d h.1 b)
    | inr h ↦ inr (h.0, kept_bad ds is d h.1 b)
  ]

  pub kept_good : (ds : List D) (is : List I) (d : D) (j : I) → AreKept good bad ds is → good d j → AreKept good bad (ds ++ d ∷ []) (is ++ j ∷ [])
  kept_good [] [] d j k g = inr (g, tt)
  kept_good [] (i ∷ is) d j k g = absurd k
  kept_good (x ∷ ds) [] d j k g = inl (k.0, kept_good ds [] d j k.1 g)
  kept_good (x ∷ ds) (i ∷ is) d j k g = elim k as (λ _. (bad x × AreKept good bad (ds ++ d ∷ []) (i ∷ (is ++ j ∷ []))) ⊎ (good x i × AreKept good bad (ds ++ d ∷ []) (is ++ j ∷ []))) [
    | inl h ↦ inl (h.0, kept_good ds (i ∷ is) d j h.1 g)
    | inr h ↦ inr (h.0, kept_good ds is d j h.1 g)
  ]

pub kept_map : {D I : Type 0} (good better : D → I → Type 0) (bad : D → Type 0) → ((d : D) (i : I) → good d i → better d i) → (ds : List D) (is : List I) → AreKept good bad ds is → AreKept better bad ds is
kept_map good better bad f [] [] k = tt
kept_map good better bad f [] (i ∷ is) k = absurd k
kept_map good better bad f (x ∷ ds) [] k = (k.0, kept_map good better bad f ds [] k.1)
kept_map {D = D} {I = I} good better bad f (x ∷ ds) (i ∷ is) k = elim k as (λ _. (bad x × AreKept better bad ds (i ∷ is)) ⊎ (better x i × AreKept better bad ds is)) [
  | inl h ↦ inl (h.0, kept_map good better bad f ds (i ∷ is) h.1)
  | inr h ↦ inr (f x i h.0, kept_map good better bad f ds is h.1)
]

-- ---- variants one after another

module _ {D I : Type 0} (good : Shown → D → I → Type 0) (bad : D → Type 0) where
  pub none_dealt : (v : Shown) (old : List I) → AreDealt good bad v v [] old old
  none_dealt v old = record { extends = extends_self v; blocks = omega arith; kept = λ done k. subst (λ l. AreKept (good v) bad l old) (sym (append-nil done)) k }

  -- one more
  pub one_dealt : ((v w : Shown) → Extends v w → (d : D) (i : I) → good v d i → good w d i) → (v w u : Shown) (ds : List D) (d : D) (old mid new : List I)
      → AreDealt good bad v w ds old mid → IsDealt good bad w u d mid new → AreDealt good bad v u (ds ++ d ∷ []) old new
  one_dealt still v w u ds d old mid new a (inl h) = record {
    extends = subst (Extends v) h.0 a.extends;
    blocks = omega (arith, a.blocks, ap length h.1, ap (λ (x : Shown). length x.sizes) h.0);
    kept = λ done k.
        subst (λ l. AreKept (good u) bad l new) (append_assoc done ds (d ∷ []))
        (subst (λ x. AreKept (good x) bad ((done ++ ds) ++ d ∷ []) new) h.0
        (subst (λ is. AreKept (good w) bad ((done ++ ds) ++ d ∷ []) is) (sym h.1) (kept_bad (good w) bad (done ++ ds) mid d (a.kept done k) h.2)));
  }
  one_dealt still v w u ds d old mid new a (inr h) = record {
    extends = extends_on v w u a.extends (further w u h.0 h.1);
    blocks = omega (arith, a.blocks, ap length h.3, length-append mid (h.2 ∷ []), ap (λ (x : Shown). length x.sizes) h.1, length-append w.sizes (length h.0 ∷ []));
    kept = λ done k.
        subst (λ l. AreKept (good u) bad l new) (append_assoc done ds (d ∷ []))
        (subst (λ is. AreKept (good u) bad ((done ++ ds) ++ d ∷ []) is) (sym h.3)
        (kept_good (good u) bad (done ++ ds) mid d h.2 (kept_map (good w) (good u) bad (still w u (further w u h.0 h.1)) (done ++ ds) mid (a.kept done k)) h.4));
  }

  -- and all of them
  pub both_dealt : (v w u : Shown) (ds es : List D) (old mid new : List I) → AreDealt good bad v w ds old mid → AreDealt good bad w u es mid new → AreDealt good bad v u (ds ++ es) old new
  both_dealt v w u ds es old mid new d e = record {
    extends = extends_on v w u d.extends e.extends;
    blocks = omega (arith, d.blocks, e.blocks);
    kept = λ done a. subst (λ l. AreKept (good u) bad l new) (append_assoc done ds es) (e.kept (done ++ ds) (d.kept done a));
  }

pub numbered_more : (vs : List RuleVariant) (i : ℕ) (d : RuleVariant) → i < length vs → numbered (take (i + 1) vs) ≡ numbered (take i vs) ++ ((get_or vs i d).rule, (get_or vs i d).variant, variant_at (get_or vs i d)) ∷ []
numbered_more vs i d h = ap numbered (take_more vs i d h) ∙ map-append (λ x. (x.rule, x.variant, variant_at x)) (take i vs) (get_or vs i d ∷ [])

-- ---- all rules, and all entries

pub numbered_is : (n k : ℕ) (vs : List RuleVariant) → AreNumbered n k vs → numbered vs ≡ numbered_from n k (variants_at vs)
numbered_is n k [] h = refl
numbered_is n k (v ∷ vs) h =
    ap (λ r. (r, v.variant, variant_at v) ∷ numbered vs) h.0
    ∙ (ap (λ j. (n, j, variant_at v) ∷ numbered vs) h.1 ∙ ap (λ l. (n, k, variant_at v) ∷ l) (numbered_is n (suc k) vs h.2))

all_within : (vs : List RuleVariant) → ((k : ℕ) (x : model.RuleVariant) → slice_get (variants_at vs) k ≡ Some x → AreWithin (length x.categories) x.equations) → AllByRecursion StaysWithin vs
all_within [] f = tt
all_within (v ∷ vs) f = (subst (λ n. AreWithin n (equations_at v.equations.items)) (length-map v.symbols.items (λ y. y.category.0)) (f 0 (variant_at v) refl), all_within vs (λ k x h. f (suc k) x h))

-- the variants of a rule stay within its constituents
pub variants_within : (r : RuleText) (vs : List RuleVariant) → variants_at vs ≡ variants_of r → AllByRecursion StaysWithin vs
variants_within r vs is =
    let g : production.Grammar Id = record { rules = rule_seen r ∷ []; templates = []; lexical_rules = []; start = record { 0 = 0 }; restrictor = []; order = [] } in
    all_within vs (λ k x h. (are_built number same keys g []).within.rules 0 k x (ap (λ l. slice_get l k) (sym is) ∙ h))

-- one rule more, or one entry
all_more : {X : Type 0} (n : ℕ) (vss : List (List X)) (vs : List X) → all_numbered n (vss ++ vs ∷ []) ≡ all_numbered n vss ++ numbered_from (n + length vss) 0 vs
all_more n [] vs = append-nil (numbered_from n 0 vs) ∙ ap (λ m. numbered_from m 0 vs) (let e : n ≡ n + 0 = omega arith in e)
all_more n (ws ∷ vss) vs =
    ap (λ l. numbered_from n 0 ws ++ l) (all_more (suc n) vss vs ∙ ap (λ m. all_numbered (suc n) vss ++ numbered_from m 0 vs) (let e : suc n + length vss ≡ n + suc (length vss) = omega arith in e))
    ∙ sym (append_assoc (numbered_from n 0 ws) (all_numbered (suc n) vss) (numbered_from (n + suc (length vss)) 0 vs))

each_more : {X Y : Type 0} (f : X → List Y) (xs : List X) (i : ℕ) (d : X) → i < length xs → all_numbered 0 (map f (take (i + 1) xs)) ≡ all_numbered 0 (map f (take i xs)) ++ numbered_from i 0 (f (get_or xs i d))
each_more f xs i d h =
    let long : length (map f (take i xs)) ≡ i = length-map (take i xs) f ∙ length-take-le i xs (omega (arith, h)) in
    ap (all_numbered 0) (ap (map f) (take_more xs i d h) ∙ map-append f (take i xs) (get_or xs i d ∷ []))
    ∙ (all_more 0 (map f (take i xs)) (f (get_or xs i d)) ∙ ap (λ m. all_numbered 0 (map f (take i xs)) ++ numbered_from m 0 (f (get_or xs i d))) (omega (arith, long)))

none_first : (o : Option (ExpandFault Id)) → o ≡ None → first_fault o None ≡ None
none_first None h = refl
none_first (Some f) h = h

-- the first fault of a list of rules, or of one of entries
pub record AreFirst {X : Type 0} (fault : X → Option (ExpandFault Id)) (first : List X → Option (ExpandFault Id)) : Type 0 where
  pub none : first [] ≡ None
  pub more : (x : X) (xs : List X) → first (x ∷ xs) ≡ first_fault (fault x) (first xs)

module _ {X : Type 0} {fault : X → Option (ExpandFault Id)} {all : List X → Option (ExpandFault Id)} (are : AreFirst fault all) where
  fault_more : (xs ys : List X) → all xs ≡ None → all (xs ++ ys) ≡ all ys
  fault_more [] ys h = refl
  fault_more (x ∷ xs) ys h = are.more x (xs ++ ys) ∙ go (fault x) (λ k. fault_more xs ys k) (sym (are.more x xs) ∙ h)
    where
      go : (o : Option (ExpandFault Id)) → (all xs ≡ None → all (xs ++ ys) ≡ all ys) → first_fault o (all xs) ≡ None → first_fault o (all (xs ++ ys)) ≡ all ys
      go None rest k = rest k
      go (Some f) rest k = cc

  -- as far as this one get_there is none
  taken_fault : (xs : List X) (i : ℕ) (x : X) (d : X) → i < length xs → get_or xs i d ≡ x → all (take i xs) ≡ None → fault x ≡ None → all (take (i + 1) xs) ≡ None
  taken_fault xs i x d h e fine here =
      ap all (take_more xs i d h)
      ∙ (fault_more (take i xs) (get_or xs i d ∷ []) fine
      ∙ (are.more (get_or xs i d) [] ∙ (ap (λ o. first_fault (fault (get_or xs i d)) o) are.none ∙ none_first (fault (get_or xs i d)) (ap fault e ∙ here))))

  -- the first fault is that of this one
  pub fault_here : (xs : List X) (i : ℕ) (x : X) (why : Fault ExpandCause) → slice_get xs i ≡ Some x → all (take i xs) ≡ None → IsRefusedBy (fault x) why → IsRefusedBy (all xs) why
  fault_here xs i x Memory h fine k = tt
  fault_here xs i x (Refused c) h fine k =
      let rest = drop (i + 1) xs in
      let cut = drop_more xs i x (slice_get_within xs i x h) ∙ ap (λ y. y ∷ rest) (get_or_from_slice_get xs i x x h) in
      ap all (sym (take-append-drop i xs) ∙ ap (λ l. take i xs ++ l) cut) ∙ (fault_more (take i xs) (x ∷ rest) fine ∙ (are.more x rest ∙ ap (λ o. first_fault o (all rest)) k))

  -- what was dealt with, with this one
  pub next_dealt : {Y I : Type 0} (good : Shown → ℕ × ℕ × Y → I → Type 0) (bad : ℕ × ℕ × Y → Type 0) (f : X → List Y) (xs : List X) (i : ℕ) (x : X) (v mid u : Shown) (old some new : List I) → slice_get xs i ≡ Some x
      → AreDealt good bad v mid (all_numbered 0 (map f (take i xs))) old some × (all (take i xs) ≡ None) → AreDealt good bad mid u (numbered_from i 0 (f x)) some new → fault x ≡ None
      → AreDealt good bad v u (all_numbered 0 (map f (take (i + 1) xs))) old new × (all (take (i + 1) xs) ≡ None)
  next_dealt good bad f xs i x v mid u old some new e before here faultless =
      let below = slice_get_within xs i x e in
      let is = get_or_from_slice_get xs i x x e in
      let so_far = all_numbered 0 (map f (take i xs)) in (
        subst (λ ds. AreDealt good bad v u ds old new) (sym (each_more f xs i x below ∙ ap (λ y. so_far ++ numbered_from i 0 (f y)) is))
            (both_dealt good bad v mid u so_far (numbered_from i 0 (f x)) old some new before.0 here),
        taken_fault xs i x x below is before.1 faultless,
      )

-- the faults of rules, and of entries
pub rules_first : AreFirst (λ r. rule_fault (rule_seen r)) (λ rs. rules_fault (map rule_seen rs))
rules_first = record { none = refl; more = λ r rs. refl }

pub entries_first : (ms : List (Meaning Id)) → AreFirst (λ e. fault_of_features ms e.line e.features.items) (λ es. entries_fault same ms (map entry_seen es))
entries_first ms = record { none = refl; more = λ e es. refl }

-- ---- entries

-- a new item of an entry's variant
pub entry_dealt : (v w : Shown) (e k : ℕ) (x : EntryVariant) (whole nodes : List (List Feature)) (root : ℕ) (to : Ref) (b : ℕ) (at : its.Value) (n a : ℕ) (old new : List EntryItem) → IsShown v
    → IsLeastAt 1 x.equations whole root → nodes ≡ take root whole → w ≡ with_block v nodes → b ≡ length v.sizes → arc (own_nodes whole) (Node root) 0 ≡ Some (own_value to) → IsOwn (length nodes) to
    → value_of w at ≡ ref_of w b to → ValueIsHeld w at → n ≡ length nodes → a ≡ sum_by length nodes
    → new ≡ old ++ record { entry = e; variant = k; root = at; nodes = n; arcs = a } ∷ []
    → IsEntryDealt v w e k x old new
entry_dealt v w e k x whole nodes root to b at n a old new s least front is block slot own same held counted arcs more =
    inr (
      nodes,
      is,
      record { entry = e; variant = k; root = at; nodes = n; arcs = a },
      more,
      record {
        entry_is = refl;
        variant_is = refl;
        whole = whole;
        slots = root;
        to = to;
        least = least;
        slot = slot;
        nodes = nodes;
        number = b;
        front = front;
        block = new_block v w nodes b s is block;
        own = own;
        root = same;
        held = held;
        nodes_are = counted;
        arcs_are = arcs;
      },
    )

-- ---- what stays where more stands behind it

pub value_still : (v w : Shown) → Extends v w → (x : its.Value) → ValueIsHeld v x → ValueIsHeld w x × (value_of w x ≡ value_of v x)
value_still v w e (value.Atom c) h = (tt, refl)
value_still v w e (value.Node at) h = (still_held v w e at.block at.offset h, ap Node (same_number_held v w e at.block at.offset h))

ref_still : (v w : Shown) → Extends v w → (b : ℕ) (nodes : List (List Feature)) → HasBlock v b nodes → (r : Ref) → IsOwn (length nodes) r → ref_of w b r ≡ ref_of v b r
ref_still v w e b nodes h (ref.Atom c) own = refl
ref_still v w e b nodes h (ref.Old at) own = absurd own
ref_still v w e b nodes h (ref.New k) own =
    let before = h.before.sizes in
    let more = h.extends.sizes.0 in
    ap Node (same_number v w e b k (omega (arith, h.number, ap length h.extends.sizes.1, length-append (before ++ length nodes ∷ []) more, length-append before (length nodes ∷ []))))

pub entry_still : (v w : Shown) → Extends v w → (d : NumberedEntry) (i : EntryItem) → HasEntryItem v d i → HasEntryItem w d i
entry_still v w e d i s =
    let value = value_still v w e i.root s.held in
    record {
      entry_is = s.entry_is;
      variant_is = s.variant_is;
      whole = s.whole;
      slots = s.slots;
      to = s.to;
      least = s.least;
      slot = s.slot;
      nodes = s.nodes;
      number = s.number;
      front = s.front;
      block = block_still v w s.number s.nodes e s.block;
      own = s.own;
      root = value.1 ∙ (s.root ∙ sym (ref_still v w e s.number s.nodes s.block s.to s.own));
      held = value.0;
      nodes_are = s.nodes_are;
      arcs_are = s.arcs_are;
    }

-- ---- the variants of one entry

numbered_append : {X : Type 0} (n k : ℕ) (xs : List X) (x : X) → numbered_from n k (xs ++ x ∷ []) ≡ numbered_from n k xs ++ (n, k + length xs, x) ∷ []
numbered_append n k [] x = ap (λ j. (n, j, x) ∷ []) (let e : k ≡ k + 0 = omega arith in e)
numbered_append n k (y ∷ xs) x =
    ap (λ l. (n, k, y) ∷ l) (numbered_append n (suc k) xs x ∙ ap (λ j. numbered_from n (suc k) xs ++ (n, j, x) ∷ []) (let e : suc k + length xs ≡ k + suc (length xs) = omega arith in e))

-- with one variant more
pub variant_more : {X Y : Type 0} (f : X → Y) (n : ℕ) (xs : List X) (k : ℕ) (x : X) → k < length xs → numbered_from n 0 (map f (take (k + 1) xs)) ≡ numbered_from n 0 (map f (take k xs)) ++ (n, k, f (get_or xs k x)) ∷ []
variant_more f n xs k x h =
    let y = get_or xs k x in
    let long : length (map f (take k xs)) ≡ k = length-map (take k xs) f ∙ length-take-le k xs (omega (arith, h)) in
    ap (λ l. numbered_from n 0 (map f l)) (take_more xs k x h)
    ∙ (ap (numbered_from n 0) (map-append f (take k xs) (y ∷ []))
    ∙ (numbered_append n 0 (map f (take k xs)) (f y) ∙ ap (λ j. numbered_from n 0 (map f (take k xs)) ++ (n, j, f y) ∷ []) (let e : 0 + length (map f (take k xs)) ≡ k = omega (arith, long) in e)))

pub variants_are : (ms : List (Meaning Id)) (e : Entry) (fs : List Element) (vs : List (Vec Equation Global)) → fs ≡ e.features.items → lists_at vs ≡ feature_variants ms fs → all_variants_of e vs ≡ entry_variants_of ms e
variants_are ms e fs vs body is = go vs ∙ ap (map (entry_variant_of number keys (entry_seen e))) (is ∙ ap (feature_variants ms) body)
  where
    go : (us : List (Vec Equation Global)) → all_variants_of e us ≡ map (entry_variant_of number keys (entry_seen e)) (lists_at us)
    go [] = refl
    go (u ∷ us) = ap (λ l. variant_of e u.items ∷ l) (go us)

pub all_alone : (ms : List (Meaning Id)) (e : Entry) (vs : List (Vec Equation Global)) → all_variants_of e vs ≡ entry_variants_of ms e → AllByRecursion (StaysAlone e) vs
all_alone ms e vs is = go vs (subst (AllByRecursion (EntryIsBuilt keys.cat)) (sym is) (entry_is_built number same keys ms (entry_seen e)))
  where
    go : (us : List (Vec Equation Global)) → AllByRecursion (EntryIsBuilt keys.cat) (all_variants_of e us) → AllByRecursion (StaysAlone e) us
    go [] h = tt
    go (u ∷ us) h = (h.0.1, go us h.1)
