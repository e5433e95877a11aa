-- What a chart has of the edges that need no passive edge.
use Rattle.std.proofs.Common.{◌≡◌, ◌⊎◌, inl, inr, ℕ, zero, suc, ◌+◌, ◌<◌, Bool, true, false, cond, ◌&&◌, nat_eq, List, [], ◌∷◌, ◌++◌, length, map, get_or, Option, Some, None, slice_get, option_and_then, refl, sym, ap, ◌∙◌, arith, subst, length-append, eqb-true, eq-eqb}
use Rattle.std.proofs.lemmas.List.{get_or_append_left}
use Rattle.std.proofs.lemmas.Option.{slice_get_past, slice_get_within}
use Rattle.patr_lists.specs.Members.{IsIn}
use Rattle.patr_lists.proofs.Places.{below_or_behind}
use Rattle.patr_lists.proofs.Conditions.{and_left, and_right, and_both}
use Rattle.patr_lists.proofs.Members.{in_cases, in_left, in_right, place_of, in_at}
use Rattle.patr_parse.proofs.Names.{Value, Atom, Node, Structure, Rules, Derivation, Leaf, Begin, Extend, end, IsSolvable, IsLeastValue, InChart, Each, IsNoPair, some_inj, and_then_some, Shown, value_of, Edge, derivations, from_length, RuleItem, EntryItem, Stored, IsStored, rules_of, keys, is_of_word, Mark, AreSound, judge, made_by, Stands, begun_at, begun_by, next_of, HasMark, HasMarkOf, IsAloneEdge, ArePredicted, IsMarked}
use Rattle.patr_model.specs.Structure.{at}
use Rattle.patr_model.specs.Category.{atom_of}
use Rattle.patr_model.specs.Derivation as derivation
use Rattle.patr_model.specs.Derivation.{RuleVariant, EntryVariant, rule_variant, entry_variant, root_rule, IsPartial, IsComplete}
use Rattle.patr_model.specs.Plain.{slot_category}
use Rattle.patr_model.specs.Builds.{HasCategories}
use Rattle.patr_model.specs.Equation.{Equation}
use Rattle.patr_model.specs.Build.{entry_variant_of, entry_variants, equation_variants, written_out}
use Rattle.patr_model.specs.Rounds.{IsPredicted}
use Rattle.patr_model.proofs.PlainChart.{follows, plainly, slot_atom, slot_is}
use Rattle.patr_model.proofs.StatedCategories.{are_built}
use Rattle.patr_chart.specs.Charted.{tree}
use Rattle.patr_lexicon.specs.declared.lexicon.Entry.{Entry}
use Rattle.patr_lexicon.specs.Seen.{entry_seen}
use Rattle.patr_library.specs.Stored.{grammar_of, entries_of, meant, number, same, word_at, is_number}
use Rattle.patr_parse.specs.Begun.{begun_unless, is_marked}
use Rattle.patr_parse.proofs.Added.{AreNew, none_new, derivations_new}
use Rattle.patr_parse.proofs.Items.{rule_item, begun_least, begun_solvable, IsBegun, in_begun, begun_in, once_begun, no_pair_begun}

-- ---- what a library states

module _ (s : Stored) where
  pub has_categories : HasCategories (rules_of s) keys.cat
  has_categories = (are_built number same keys (grammar_of s.grammar) (entries_of s.lexicon)).categories

  -- prediction compares categories alone
  pub by_category : (rules_of s).restrictor ≡ (keys.cat ∷ []) ∷ []
  by_category = ap (map (map number)) s.grammar.default_restrictor

  -- the category of the next daughter stands at `cat` of the next slot
  pub next_there : (t : Derivation) → IsPartial (rules_of s) t → (A : Structure) (v : Value) → IsLeastValue (rules_of s) t A v
      → (c : ℕ) × (next_of (rules_of s) t ≡ Some c) × (at A v (suc (derivation.seen t) ∷ keys.cat ∷ []) ≡ Some (Atom c))
  next_there t part A v least =
      let d = slot_is (rules_of s) keys.cat has_categories t part in
      let x = slot_atom (rules_of s) keys.cat has_categories t part A v least (suc (derivation.seen t)) d.0 d.1 in
      let y = and_then_some (at A x.0 (keys.cat ∷ [])) atom_of d.0 x.2 in
      (d.0, d.1, ap (λ o. option_and_then (λ z. at A z (keys.cat ∷ [])) o) x.1 ∙ (y.1 ∙ ap (λ z. Some z) (atom_is y.0 d.0 y.2)))
    where
      atom_is : (z : Value) (c : ℕ) → atom_of z ≡ Some c → z ≡ Atom c
      atom_is (Atom b) c h = ap Atom (some_inj b c h)
      atom_is (Node k) c h = cc

  pub none_next : (t : Derivation) → IsComplete (rules_of s) t → next_of (rules_of s) t ≡ None
  none_next (Leaf e k i j) full = refl
  none_next (Begin r k i) full = ap (option_and_then (λ (w : RuleVariant). slice_get w.categories 1)) full.1 ∙ slice_get_past full.0.categories 1 (let q = full.2 in omega (arith, q))
  none_next (Extend a p) full = ap (option_and_then (λ (w : RuleVariant). slice_get w.categories (suc (suc (derivation.seen a))))) full.1 ∙ slice_get_past full.0.categories (suc (suc (derivation.seen a))) (let q = full.2 in omega (arith, q))

  -- a tree that has a next slot is partial
  partial_of : (t : Derivation) (c : ℕ) → next_of (rules_of s) t ≡ Some c → IsPartial (rules_of s) t
  partial_of t c h =
      let r = and_then_some (root_rule (rules_of s) t) (λ (v : RuleVariant). slice_get v.categories (suc (derivation.seen t))) c h in
      (r.0, r.1, slice_get_within r.0.categories (suc (derivation.seen t)) c r.2)

-- ---- marks

both_true : (a b c d : ℕ) → (nat_eq a b && nat_eq c d) ≡ true → (a ≡ b) × (c ≡ d)
both_true a b c d h = (eqb-true a b (and_left (nat_eq a b) (nat_eq c d) h), eqb-true c d (and_right (nat_eq a b) (nat_eq c d) h))

both_same : (c i : ℕ) → (nat_eq c c && nat_eq i i) ≡ true
both_same c i = and_both (nat_eq c c) (nat_eq i i) (eq-eqb c c refl) (eq-eqb i i refl)

-- what the marks are with one more
module _ (old new : List Mark) (c i : ℕ) (h : HasMark old new c i) where
  mark_stays : (d j : ℕ) → IsMarked old d j → IsMarked new d j
  mark_stays d j m = h d j ∙ (ap (λ b. cond (nat_eq c d && nat_eq i j) true b) m ∙ go (nat_eq c d && nat_eq i j))
    where
      go : (b : Bool) → cond b true true ≡ true
      go true = refl
      go false = refl

  pub mark_there : IsMarked new c i
  mark_there = h c i ∙ ap (λ b. cond b true (is_marked old c i)) (both_same c i)

  pub mark_is : (d j : ℕ) → IsMarked new d j → IsMarked old d j ⊎ ((c ≡ d) × (i ≡ j))
  mark_is d j m = go (nat_eq c d && nat_eq i j) refl (sym (h d j) ∙ m)
    where
      go : (b : Bool) → (nat_eq c d && nat_eq i j) ≡ b → cond b true (is_marked old d j) ≡ true → IsMarked old d j ⊎ ((c ≡ d) × (i ≡ j))
      go true q k = inr (both_true c d i j q)
      go false q k = inl k

-- ---- a chart with more edges

tree_more : (es ys : List Edge) (ts : List Derivation) → derivations (es ++ ys) ≡ derivations es ++ ts → (k : ℕ) → k < length es → tree (es ++ ys) k ≡ tree es k
tree_more es ys ts is k h = ap (λ l. get_or l k (Begin 0 0 0)) is ∙ get_or_append_left (derivations es) ts (Begin 0 0 0) k (omega (arith, h, from_length [] es))

module _ (s : Stored) (ws : List ℕ) (M : ℕ → ℕ → Type 0) (seen : ℕ) (es ys : List Edge) (ts : List Derivation) (is : derivations (es ++ ys) ≡ derivations es ++ ts) (p : ArePredicted s ws M seen es) where
  there_still : (t : Derivation) → IsIn (derivations es) t → IsIn (derivations (es ++ ys)) t
  there_still t h = subst (λ l. IsIn l t) (sym is) (in_left (derivations es) ts t h)

  -- a chart with more edges, of which more are predicted
  predicted_more : (N : ℕ → ℕ → Type 0) → ((c i : ℕ) → M c i → N c i)
      → ((n i : ℕ) (item : RuleItem) → slice_get s.rules n ≡ Some item → N item.mother.0 i → M item.mother.0 i ⊎ IsIn ts (Begin item.rule item.variant i))
      → ((n i : ℕ) (item : RuleItem) → slice_get s.rules n ≡ Some item → IsIn ts (Begin item.rule item.variant i) → N item.mother.0 i) → ArePredicted s ws N seen (es ++ ys)
  predicted_more N more marked begun = record {
    within = (let within = p.within in omega (arith, within, length-append es ys));
    word = λ n i w item at said t. there_still (Leaf item.entry item.variant i (suc i)) (p.word n i w item at said t);
    first = more (rules_of s).start 0 p.first;
    marked = λ n i item at m. elim (marked n i item at m) [
      | inl k ↦ there_still (Begin item.rule item.variant i) (p.marked n i item at k)
      | inr k ↦ subst (λ l. IsIn l (Begin item.rule item.variant i)) (sym is) (in_right (derivations es) ts (Begin item.rule item.variant i) k)
    ];
    begun = λ n i item at h. elim (in_cases (derivations es) ts (Begin item.rule item.variant i) (subst (λ l. IsIn l (Begin item.rule item.variant i)) is h)) [
      | inl k ↦ more item.mother.0 i (p.begun n i item at k)
      | inr k ↦ begun n i item at k
    ];
    followed = λ k c b h.
        let here : k < length es = (let within = p.within in omega (arith, b, within)) in
        let same = tree_more es ys ts is k here in
        subst (λ t. N c (end t)) (sym same) (more c (end (tree es k)) (p.followed k c b (subst (λ t. next_of (rules_of s) t ≡ Some c) same h)));
  }

-- edges that are made of two predict nothing until they are seen
pub predicted_grown : (s : Stored) (ws : List ℕ) (M : ℕ → ℕ → Type 0) (seen : ℕ) (es ys : List Edge) → derivations (es ++ ys) ≡ derivations es ++ made_by es ys
    → ((t : Derivation) → IsIn (made_by es ys) t → (a : Derivation) × (p : Derivation) × (t ≡ Extend a p)) → ArePredicted s ws M seen es → ArePredicted s ws M seen (es ++ ys)
predicted_grown s ws M seen es ys is two p =
    predicted_more s ws M seen es ys (made_by es ys) is p M (λ c i m. m) (λ n i item at m. inl m) (λ n i item at h. absurd (differ item.rule item.variant i (two (Begin item.rule item.variant i) h)))
  where
    differ : (r k i : ℕ) → (a : Derivation) × (p : Derivation) × (Begin r k i ≡ Extend a p) → ⊥
    differ r k i h = let e = h.2 in cc

-- one more edge was seen
predicted_next : (s : Stored) (ws : List ℕ) (M : ℕ → ℕ → Type 0) (seen : ℕ) (es : List Edge) → seen < length es
    → ((c : ℕ) → next_of (rules_of s) (tree es seen) ≡ Some c → M c (end (tree es seen))) → ArePredicted s ws M seen es → ArePredicted s ws M (seen + 1) es
predicted_next s ws M seen es here next p = record {
  within = omega (arith, here);
  word = p.word;
  first = p.first;
  marked = p.marked;
  begun = p.begun;
  followed = λ k c b h. elim (before k b) [
    | inl l ↦ p.followed k c l h
    | inr l ↦ subst (λ n. M c (end (tree es n))) (sym l) (next c (subst (λ n. next_of (rules_of s) (tree es n) ≡ Some c) l h))
  ];
}
  where
    before : (k : ℕ) → k < seen + 1 → (k < seen) ⊎ (k ≡ seen)
    before k b = elim (below_or_behind seen k) [ inl l ↦ inl l | inr r ↦ inr (let is = r.1 in omega (arith, b, is)) ]

-- the word of an entry variant is that of the lexicon's entry
word_at_is : (s : Stored) (item : EntryItem) (entry : EntryVariant) → entry_variant (rules_of s) item.entry item.variant ≡ Some entry → word_at s.lexicon item.entry ≡ Some entry.word
word_at_is s item entry h = go s.lexicon item.entry h
  where
    of_all : (vs : List (List Equation)) (e : Entry) (k : ℕ) → slice_get (map (entry_variant_of number keys (entry_seen e)) vs) k ≡ Some entry → Some e.word.0 ≡ Some entry.word
    of_all [] e k q = cc
    of_all (v ∷ vs) e zero q = ap (λ (x : EntryVariant). Some x.word) (some_inj (entry_variant_of number keys (entry_seen e) v) entry q)
    of_all (v ∷ vs) e (suc k) q = of_all vs e k q

    go : (l : List Entry) (n : ℕ) → option_and_then (λ vs. slice_get vs item.variant) (slice_get (map (entry_variants number same keys (meant s.grammar.templates.items)) (entries_of l)) n) ≡ Some entry → word_at l n ≡ Some entry.word
    go [] n q = cc
    go (e ∷ l) zero q = of_all (equation_variants number (written_out same (meant s.grammar.templates.items) (entry_seen e).features)) e item.variant q
    go (e ∷ l) (suc n) q = go l n q

word_of : (s : Stored) (item : EntryItem) (entry : EntryVariant) → entry_variant (rules_of s) item.entry item.variant ≡ Some entry → (w : ℕ) → w ≡ entry.word → is_of_word s.lexicon w item ≡ true
word_of s item entry h w q = ap (λ o. is_number o w) (word_at_is s item entry h) ∙ eq-eqb entry.word w (sym q)

pub word_is : (s : Stored) (item : EntryItem) (entry : EntryVariant) → entry_variant (rules_of s) item.entry item.variant ≡ Some entry → (w : ℕ) → is_of_word s.lexicon w item ≡ true → w ≡ entry.word
word_is s item entry h w t = sym (eqb-true entry.word w (sym (ap (λ o. is_number o w) (word_at_is s item entry h)) ∙ t))

-- where each edge was seen, all that is predicted is there
module _ (s : Stored) (stored : IsStored s) (ws : List ℕ) (v : Shown) (es : List Edge) (sound : AreSound (rules_of s) s v es) (M : ℕ → ℕ → Type 0) (p : ArePredicted s ws M (length es) es) where
  abbrev g : Rules
  g = rules_of s

  -- a rule variant whose mother is marked
  of_mother : (r k i c : ℕ) → M c i → IsSolvable g (Begin r k i) → (w : RuleVariant) → rule_variant g r k ≡ Some w → slice_get w.categories 0 ≡ Some c → IsIn (derivations es) (Begin r k i)
  of_mother r k i c m sol w is mother =
      let n = stored.every_rule r k i sol in
      let item = rule_item s stored n.0 n.1 n.2 in
      let same : item.variant ≡ w = some_inj item.variant w (sym item.is ∙ (ap (λ x. rule_variant g x n.1.variant) n.3 ∙ (ap (λ x. rule_variant g r x) n.4 ∙ is))) in
      let cat : c ≡ n.1.mother.0 = some_inj c n.1.mother.0 (sym mother ∙ (ap (λ (x : RuleVariant). slice_get x.categories 0) (sym same) ∙ item.mother)) in
      subst (λ x. IsIn (derivations es) (Begin x k i)) n.3
      (subst (λ x. IsIn (derivations es) (Begin n.1.rule x i)) n.4 (p.marked n.0 i n.1 n.2 (subst (λ x. M x i) cat m)))

  follow : (a : Derivation) (r k i : ℕ) → IsIn (derivations es) a → IsPartial g a → end a ≡ i → IsSolvable g (Begin r k i) → (judge s).MayFollow a (Begin r k i) → IsIn (derivations es) (Begin r k i)
  follow a r k i here part ends sol may =
      let variant = sol.2.solves in
      let same = plainly g keys.cat (has_categories s) (by_category s) ws a r k i part (variant.0, variant.1) may in
      let t = place_of (derivations es) (Begin 0 0 0) a here in
      let place : t.0 < length es = (let b = t.1 in omega (arith, b, from_length [] es)) in
      let marked : M same.0 (end a) = subst (λ x. M same.0 (end x)) t.2 (p.followed t.0 same.0 place (subst (λ x. next_of g x ≡ Some same.0) (sym t.2) same.1)) in
      let mother : slice_get variant.0.categories 0 ≡ Some same.0 = ap (option_and_then (λ (x : RuleVariant). slice_get x.categories 0)) (sym variant.1) ∙ same.2 in
      of_mother r k i same.0 (subst (λ x. M same.0 x) ends marked) sol variant.0 variant.1 mother

  pub predicted_all : IsPredicted (judge s) g ws (derivations es)
  predicted_all = record {
    word = λ e k i i' entry q w n edge.
        let item = stored.every_entry e k i i' edge in
        let is : entry_variant g item.1.entry item.1.variant ≡ Some entry = ap (λ x. entry_variant g x item.1.variant) item.3 ∙ (ap (λ x. entry_variant g e x) item.4 ∙ q) in
        let there = p.word item.0 i entry.word item.1 item.2 w (word_of s item.1 entry is entry.word refl) in
        subst (λ x. IsIn (derivations es) (Leaf e k i x)) (sym n)
        (subst (λ x. IsIn (derivations es) (Leaf x k i (suc i))) item.3 (subst (λ x. IsIn (derivations es) (Leaf item.1.entry x i (suc i))) item.4 there));
    first = λ r k rule q c edge. of_mother r k 0 g.start p.first edge rule q c;
    predicted = λ a r k i here part ends edge may. follow a r k i here part ends edge may;
  }

-- What the marks say of the edges that were added.
pub record AreMarked (s : Stored) (old new : List Mark) (o : Option ℕ) (i : ℕ) (ts : List Derivation) : Type 0 where
  pub more : (d j : ℕ) → IsMarked old d j → IsMarked new d j
  pub marked : (n j : ℕ) (item : RuleItem) → slice_get s.rules n ≡ Some item → IsMarked new item.mother.0 j → IsMarked old item.mother.0 j ⊎ IsIn ts (Begin item.rule item.variant j)
  pub begun : (n j : ℕ) (item : RuleItem) → slice_get s.rules n ≡ Some item → IsIn ts (Begin item.rule item.variant j) → IsMarked new item.mother.0 j
  pub next : (c : ℕ) → o ≡ Some c → IsMarked new c i

module _ (s : Stored) (stored : IsStored s) where
  -- an item that is begun among those with the mother c has it
  pub begun_mother : (c i n j : ℕ) (item : RuleItem) → slice_get s.rules n ≡ Some item → IsIn (begun_at s c i) (Begin item.rule item.variant j) → (c ≡ item.mother.0) × (i ≡ j)
  begun_mother c i n j item at h =
      let b = in_begun s stored c i (Begin item.rule item.variant j) h in
      let same = same_begin item.rule item.variant j b.item.rule b.item.variant i b.is in
      let one = rule_item s stored n item at in
      let other = rule_item s stored b.number b.item b.there in
      let variant : one.variant ≡ other.variant = some_inj one.variant other.variant (sym one.is ∙ (ap (λ x. rule_variant (rules_of s) x item.variant) same.0 ∙ (ap (λ x. rule_variant (rules_of s) b.item.rule x) same.1 ∙ other.is))) in
      let mother : item.mother.0 ≡ b.item.mother.0 = some_inj item.mother.0 b.item.mother.0 (sym one.mother ∙ (ap (λ (x : RuleVariant). slice_get x.categories 0) variant ∙ other.mother)) in
      (sym b.mother ∙ sym mother, sym same.2)
    where
      same_begin : (r k j q l i : ℕ) → Begin r k j ≡ Begin q l i → (r ≡ q) × (k ≡ l) × (j ≡ i)
      same_begin r k j q l i e = (cc, cc, cc)

  marked_by : (old new : List Mark) (c i : ℕ) → HasMark old new c i → (b : Bool) → is_marked old c i ≡ b → AreMarked s old new (Some c) i (begun_unless b s c i)
  marked_by old new c i h true q = record {
    more = mark_stays old new c i h;
    marked = λ n j item at m. elim (mark_is old new c i h item.mother.0 j m) [ inl k ↦ inl k | inr k ↦ inl (subst (λ x. IsMarked old x j) k.0 (subst (λ x. IsMarked old c x) k.1 q)) ];
    begun = λ n j item at b. absurd b;
    next = λ d e. subst (λ x. IsMarked new x i) (some_inj c d e) (mark_there old new c i h);
  }
  marked_by old new c i h false q = record {
    more = mark_stays old new c i h;
    marked = λ n j item at m. elim (mark_is old new c i h item.mother.0 j m) [
      | inl k ↦ inl k
      | inr k ↦ inr (subst (λ x. IsIn (begun_at s c i) (Begin item.rule item.variant x)) k.1 (begun_in s stored c i n item at (sym k.0)))
    ];
    begun = λ n j item at b.
        let same = begun_mother c i n j item at b in
        subst (λ x. IsMarked new x j) same.0 (subst (λ x. IsMarked new c x) same.1 (mark_there old new c i h));
    next = λ d e. subst (λ x. IsMarked new x i) (some_inj c d e) (mark_there old new c i h);
  }

  marks_follow : (old new : List Mark) (o : Option ℕ) (i : ℕ) → HasMarkOf old new o i → AreMarked s old new o i (begun_by old s o i)
  marks_follow old new None i h = record {
    more = λ d j m. subst (λ l. IsMarked l d j) (sym h) m;
    marked = λ n j item at m. inl (subst (λ l. IsMarked l item.mother.0 j) h m);
    begun = λ n j item at b. absurd b;
    next = λ c q. cc;
  }
  marks_follow old new (Some c) i h = marked_by old new c i h (is_marked old c i) refl

  pub no_pair_followed : (marks : List Mark) (o : Option ℕ) (i : ℕ) (t : Derivation) → IsIn (begun_by marks s o i) t → IsNoPair t
  no_pair_followed marks None i t h = absurd h
  no_pair_followed marks (Some c) i t h = go (is_marked marks c i) h
    where
      go : (b : Bool) → IsIn (begun_unless b s c i) t → IsNoPair t
      go true k = absurd k
      go false k = no_pair_begun s stored c i t k

  -- what an edge predicts
  module _ (ws : List ℕ) (v : Shown) (es : List Edge) (sound : AreSound (rules_of s) s v es) (j : ℕ) (stands : Stands (judge s) (rules_of s) ws es j [])
      (marks : List Mark) (seen : ℕ) (h : ArePredicted s ws (IsMarked marks) seen es) (e : Edge) (at_e : slice_get es seen ≡ Some e) where
    here : seen < length es
    here = slice_get_within es seen e at_e

    t : Derivation
    t = tree es seen

    t_in : InChart (judge s) (rules_of s) ws (tree es seen)
    t_in = stands.worked.edges (tree es seen) (in_left (derivations es) [] (tree es seen) (in_at (derivations es) (Begin 0 0 0) seen (omega (arith, here, from_length [] es))))

    -- a rule whose mother is the next category
    licensed : (c : ℕ) → next_of (rules_of s) (tree es seen) ≡ Some c → (u : Derivation) → IsBegun s stored c (end (tree es seen)) u → InChart (judge s) (rules_of s) ws u
    licensed c q u b =
        let g = rules_of s in
        let i = end (tree es seen) in
        let part = partial_of s (tree es seen) c q in
        let item = rule_item s stored b.number b.item b.there in
        let least = begun_least s stored b.item item i in
        let mother : slot_category g (Begin b.item.rule b.item.variant i) 0 ≡ Some c = ap (option_and_then (λ (w : RuleVariant). slice_get w.categories 0)) item.is ∙ (item.mother ∙ ap (λ n. Some n) b.mother) in
        subst (λ x. InChart (judge s) g ws x) (sym b.is)
        (InChart.predicted (tree es seen) b.item.rule b.item.variant i t_in part refl (begun_solvable s stored b.item item i)
        (follows g keys.cat (has_categories s) (by_category s) ws (tree es seen) b.item.rule b.item.variant i part (item.variant, item.is) v.structure (value_of v e.root) (sound seen e at_e).value s.shown.structure least.0 least.1 (c, q, mother)))

    pub followed_new : AreNew (judge s) (rules_of s) ws es (begun_by marks s (next_of (rules_of s) (tree es seen)) (end (tree es seen)))
    followed_new = go (next_of (rules_of s) (tree es seen)) refl
      where
        unmarked : (c : ℕ) → next_of (rules_of s) (tree es seen) ≡ Some c → (b : Bool) → is_marked marks c (end (tree es seen)) ≡ b → AreNew (judge s) (rules_of s) ws es (begun_unless b s c (end (tree es seen)))
        unmarked c q true m = none_new (judge s) (rules_of s) ws es
        unmarked c q false m = record {
          edges = λ u k. licensed c q u (in_begun s stored c (end (tree es seen)) u k);
          once = once_begun s stored c (end (tree es seen));
          new = λ u k l.
              let b = in_begun s stored c (end (tree es seen)) u k in
              let bad = h.begun b.number (end (tree es seen)) b.item b.there (subst (λ x. IsIn (derivations es) x) b.is l) in
              absurd_of c (subst (λ x. IsMarked marks x (end (tree es seen))) b.mother bad) m;
        }
          where
            absurd_of : (c : ℕ) → is_marked marks c (end (tree es seen)) ≡ true → is_marked marks c (end (tree es seen)) ≡ false → ⊥
            absurd_of c x y = cc

        go : (o : Option ℕ) → next_of (rules_of s) (tree es seen) ≡ o → AreNew (judge s) (rules_of s) ws es (begun_by marks s o (end (tree es seen)))
        go None q = none_new (judge s) (rules_of s) ws es
        go (Some c) q = unmarked c q (is_marked marks c (end (tree es seen))) refl

    pub followed_predicted : (new : List Mark) (ys : List Edge) → HasMarkOf marks new (next_of (rules_of s) (tree es seen)) (end (tree es seen))
        → Each (IsAloneEdge (rules_of s) s v) (begun_by marks s (next_of (rules_of s) (tree es seen)) (end (tree es seen))) ys → ArePredicted s ws (IsMarked new) (seen + 1) (es ++ ys)
    followed_predicted new ys m each =
        let ts = begun_by marks s (next_of (rules_of s) (tree es seen)) (end (tree es seen)) in
        let is = derivations_new (rules_of s) s v es ys ts each in
        let a = marks_follow marks new (next_of (rules_of s) (tree es seen)) (end (tree es seen)) m in
        let longer = predicted_more s ws (IsMarked marks) seen es ys ts is h (IsMarked new) a.more a.marked a.begun in
        let same = tree_more es ys ts is seen here in
        predicted_next s ws (IsMarked new) seen (es ++ ys) (omega (arith, here, length-append es ys))
        (λ c q. subst (λ x. IsMarked new c (end x)) (sym same) (a.next c (subst (λ x. next_of (rules_of s) x ≡ Some c) same q))) longer
