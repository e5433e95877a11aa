-- The same variants in the same order, gathered in other rules, give the same replies.
use Rattle.std.proofs.Common.{◌≡◌, ◌⊎◌, inl, inr, ℕ, suc, Bool, true, false, cond, nat_eq, eq-eqb, ne_eqb, List, [], ◌∷◌, ◌++◌, map, decimal, codes, Some, refl, sym, ap, ◌∙◌, subst, arith}
use Rattle.std.specs.List.{AllByRecursion}
use Rattle.std.proofs.lemmas.List.{length-map, map-append}
use Rattle.patr_lists.specs.Members.{IsIn}
use Rattle.patr_lists.proofs.Alls.{all_append, all_map, all_weaker}
use Rattle.patr_lists.proofs.Members.{in_map}
use Rattle.patr_model.specs.Derivation.{Rules, RuleVariant, EntryVariant, entry_variant, Derivation, Leaf, Begin, Extend, KeyItem, rule_variant, end, root_item, below_key, key}
use Rattle.patr_model.specs.Chart.{IsDerivation, IsAnalysis}
use Rattle.patr_model.specs.Solved.{solved}
use Rattle.patr_model.specs.Session.{Grounds, State, Command, Limit, Features, Count, Show, Grammar, Make, Quit, IsLeastText, look_of, cat_of, line, number_before, numbers, Rises, AreAnalyses, ListsAnalyses, CountsEdges, IsSentenceReply, too_long, unknown, too_many, analyses}
use Rattle.patr_model.specs.Solution.{IsSolvable}
use Rattle.patr_model.specs.Showing as show
use Rattle.patr_model.specs.Showing.{IsShown, ListsValues, grammar_replies}
use Rattle.patr_model.specs.Notations.{lines_with_commands}
use Rattle.patr_laws.specs.Alternatives.{gathered, Numbers, AreNumbered, counterpart, AreAlike, HaveCounterparts, GiveSameReplies}
use Rattle.patr_laws.proofs.Counterparts.{end_same, have_counterparts}
use Rattle.patr_laws.proofs.Gathered.{comes_first, regathered, regathered_numbers, regathered_rises}
use Rattle.patr_laws.proofs.SessionReplies.{lines_replied}

-- ---- keys

module _ (f : Numbers) where
  -- an item of a rule with its new numbers
  abbrev renamed : KeyItem → KeyItem
  renamed x = record x { number = cond (nat_eq x.kind 0) x.number (f x.number x.variant).0; variant = cond (nat_eq x.kind 0) x.variant (f x.number x.variant).1 }

  root_renamed : (t : Derivation) (to : ℕ) → root_item (counterpart f t) to ≡ renamed (root_item t to)
  root_renamed (Leaf e k i j) to = refl
  root_renamed (Begin r k i) to = refl
  root_renamed (Extend a p) to = root_renamed a to

  below_renamed : (t : Derivation) → below_key (counterpart f t) ≡ map renamed (below_key t)
  below_renamed (Leaf e k i j) = refl
  below_renamed (Begin r k i) = refl
  below_renamed (Extend a p) =
      let root : root_item (counterpart f p) (end (counterpart f p)) ≡ renamed (root_item p (end p)) = ap (root_item (counterpart f p)) (end_same f p) ∙ root_renamed p (end p) in
      (λ i. below_renamed a i ++ (root i ∷ below_renamed p i)) ∙ sym (map-append renamed (below_key a) (root_item p (end p) ∷ below_key p))

  key_renamed : (t : Derivation) → key (counterpart f t) ≡ map renamed (key t)
  key_renamed t = λ i. (ap (root_item (counterpart f t)) (end_same f t) ∙ root_renamed t (end t)) i ∷ below_renamed t i

-- an item of an entry, or of a rule whose variant is there
abbrev IsItem : Rules → KeyItem → Type 0
IsItem g x = (x.kind ≡ 0) ⊎ ((x.kind ≡ 1) × (v : RuleVariant) × (rule_variant g x.number x.variant ≡ Some v))

root_is : (g : Rules) (ws : List ℕ) (t : Derivation) → IsDerivation g ws t → (to : ℕ) → IsItem g (root_item t to)
root_is g ws (Leaf e k i j) d to = inl refl
root_is g ws (Begin r k i) d to = inr (refl, d.0, d.1)
root_is g ws (Extend a p) d to = root_is g ws a d.0 to

below_are : (g : Rules) (ws : List ℕ) (t : Derivation) → IsDerivation g ws t → AllByRecursion (IsItem g) (below_key t)
below_are g ws (Leaf e k i j) d = tt
below_are g ws (Begin r k i) d = tt
below_are g ws (Extend a p) d = all_append (IsItem g) (below_key a) (root_item p (end p) ∷ below_key p) (below_are g ws a d.0) (root_is g ws p d.1 (end p), below_are g ws p d.1)

items_are : (g : Rules) (ws : List ℕ) (t : Derivation) → IsDerivation g ws t → AllByRecursion (IsItem g) (key t)
items_are g ws t d = (root_is g ws t d (end t), below_are g ws t d)

-- the numbers keep the order
abbrev KeepsOrder : Rules → Numbers → Type 0
KeepsOrder g f = (r k r' k' : ℕ) (v v' : RuleVariant) → rule_variant g r k ≡ Some v → rule_variant g r' k' ≡ Some v' → comes_first (r, k) (r', k') → comes_first (f r k) (f r' k')

module _ (g : Rules) (f : Numbers) (keeps : KeepsOrder g f) where
  abbrev pair : KeyItem → ℕ × ℕ
  pair x = (x.number, x.variant)

  of_entry : (x : KeyItem) → x.kind ≡ 0 → pair (renamed f x) ≡ pair x
  of_entry x e = ap (λ b. (cond b x.number (f x.number x.variant).0, cond b x.variant (f x.number x.variant).1)) (eq-eqb x.kind 0 e)

  of_rule : (x : KeyItem) → x.kind ≡ 1 → pair (renamed f x) ≡ f x.number x.variant
  of_rule x e = ap (λ b. (cond b x.number (f x.number x.variant).0, cond b x.variant (f x.number x.variant).1)) (ne_eqb x.kind 0 (λ q. omega (arith, e, q)))

  pair_kept : (x y : KeyItem) → IsItem g x → IsItem g y → x.kind ≡ y.kind → comes_first (pair x) (pair y) → comes_first (pair (renamed f x)) (pair (renamed f y))
  pair_kept x y (inl p) (inl q) k h = subst (λ z. comes_first z (pair (renamed f y))) (sym (of_entry x p)) (subst (comes_first (pair x)) (sym (of_entry y q)) h)
  pair_kept x y (inr p) (inr q) k h =
      subst (λ z. comes_first z (pair (renamed f y))) (sym (of_rule x p.0)) (subst (comes_first (f x.number x.variant)) (sym (of_rule y q.0)) (keeps x.number x.variant y.number y.variant p.1 q.1 p.2 q.2 h))
  pair_kept x y (inl p) (inr q) k h = let one = q.0 in absurd (omega (arith, p, one, k))
  pair_kept x y (inr p) (inl q) k h = let one = p.0 in absurd (omega (arith, one, q, k))

  -- by the pair, behind a kind that is the same
  by_pair : (x y : KeyItem) (us vs : List ℕ) → comes_first (pair x) (pair y) → number_before (x.number ∷ x.variant ∷ us) (y.number ∷ y.variant ∷ vs)
  by_pair x y us vs (inl h) = inl h
  by_pair x y us vs (inr h) = inr (h.0, inl h.1)

  keys_kept : (xs ys : List KeyItem) → AllByRecursion (IsItem g) xs → AllByRecursion (IsItem g) ys → number_before (numbers xs) (numbers ys) → number_before (numbers (map (renamed f) xs)) (numbers (map (renamed f) ys))
  keys_kept [] [] p q h = h
  keys_kept [] (y ∷ ys) p q h = tt
  keys_kept (x ∷ xs) [] p q h = h
  keys_kept (x ∷ xs) (y ∷ ys) p q (inl h) = inl h
  keys_kept (x ∷ xs) (y ∷ ys) p q (inr h) = inr (h.0, go h.1 (keys_kept xs ys p.1 q.1))
    where
      -- what is left where the pairs are one
      after : x.number ≡ y.number → x.variant ≡ y.variant → number_before (x.end ∷ numbers (map (renamed f) xs)) (y.end ∷ numbers (map (renamed f) ys))
          → number_before ((renamed f x).number ∷ (renamed f x).variant ∷ x.end ∷ numbers (map (renamed f) xs)) ((renamed f y).number ∷ (renamed f y).variant ∷ y.end ∷ numbers (map (renamed f) ys))
      after n v r = inr (λ i. cond (nat_eq (h.0 i) 0) (n i) (f (n i) (v i)).0, inr (λ i. cond (nat_eq (h.0 i) 0) (v i) (f (n i) (v i)).1, r))

      go : number_before (x.number ∷ x.variant ∷ x.end ∷ numbers xs) (y.number ∷ y.variant ∷ y.end ∷ numbers ys)
          → (number_before (numbers xs) (numbers ys) → number_before (numbers (map (renamed f) xs)) (numbers (map (renamed f) ys)))
          → number_before ((renamed f x).number ∷ (renamed f x).variant ∷ x.end ∷ numbers (map (renamed f) xs)) ((renamed f y).number ∷ (renamed f y).variant ∷ y.end ∷ numbers (map (renamed f) ys))
      go (inl n) rest = by_pair (renamed f x) (renamed f y) (x.end ∷ numbers (map (renamed f) xs)) (y.end ∷ numbers (map (renamed f) ys)) (pair_kept x y p.0 q.0 h.0 (inl n))
      go (inr a) rest = elim a.1 [
        | inl v ↦ by_pair (renamed f x) (renamed f y) (x.end ∷ numbers (map (renamed f) xs)) (y.end ∷ numbers (map (renamed f) ys)) (pair_kept x y p.0 q.0 h.0 (inr (a.0, v)))
        | inr b ↦ elim b.1 [
          | inl e ↦ after a.0 b.0 (inl e)
          | inr c ↦ after a.0 b.0 (inr (c.0, rest c.1))
        ]
      ]

  rises_kept : (ws : List ℕ) (ts : List Derivation) → AllByRecursion (IsDerivation g ws) ts → Rises ts → Rises (map (counterpart f) ts)
  rises_kept ws [] a r = tt
  rises_kept ws (t ∷ []) a r = tt
  rises_kept ws (t ∷ u ∷ ts) a r = (
    subst (λ l. number_before (numbers l) (numbers (key (counterpart f u)))) (sym (key_renamed f t))
        (subst (λ l. number_before (numbers (map (renamed f) (key t))) (numbers l)) (sym (key_renamed f u)) (keys_kept (key t) (key u) (items_are g ws t a.0) (items_are g ws u a.1.0) r.0)),
    rises_kept ws (u ∷ ts) a.1 r.1,
  )

-- ---- replies

module _ (s : Grounds) (rules : List (List RuleVariant)) (f back : Numbers) (to : HaveCounterparts s.rules (record s.rules { rules = rules }) f back) (from : HaveCounterparts (record s.rules { rules = rules }) s.rules back f)
    (keeps : KeepsOrder s.rules f) where
  abbrev g : Rules
  g = s.rules

  abbrev s' : Grounds
  s' = record s { rules = record s.rules { rules = rules } }

  abbrev c : Derivation → Derivation
  c = counterpart f

  analyses_there : (ws : List ℕ) (ts : List Derivation) → AreAnalyses solved s ws ts → AreAnalyses solved s' ws (map c ts)
  analyses_there ws ts a = record {
    rises = rises_kept g f keeps ws ts (all_weaker (IsAnalysis (solved g (cat_of s)) g ws) (IsDerivation g ws) (λ t x. x.derivation) ts a.each) a.rises;
    each = all_map (IsAnalysis (solved s'.rules (cat_of s)) s'.rules ws) c (IsAnalysis (solved g (cat_of s)) g ws) (λ t x. ((to.alike ws t x.derivation).analysis (cat_of s) ws).0 x) ts a.each;
    every = λ u x.
        let home = counterpart back u in
        subst (IsIn (map c ts)) (from.again ws u x.derivation) (in_map c ts home (a.every home (((from.alike ws u x.derivation).analysis (cat_of s) ws).0 x)));
  }

  lines_there : (ws : List ℕ) (features : Bool) (n : ℕ) (ts : List Derivation) → AllByRecursion (IsDerivation g ws) ts → (text : List ℕ) → ListsAnalyses solved s features n ts text → ListsAnalyses solved s' features n (map c ts) text
  lines_there ws features n [] a text l = l
  lines_there ws false n (t ∷ ts) a text l = (
    l.0,
    lines_there ws false (suc n) ts a.1 l.0 l.1,
    l.2 ∙ ap (λ x. line (decimal n ++ codes " " ++ x) ++ l.0) (sym ((to.alike ws t a.0).text (look_of s))),
  )
  lines_there ws true n (t ∷ ts) a text l =
      let value = l.2 in (
        l.0,
        l.1,
        (value.0, value.1, ((to.alike ws t a.0).least value.0 value.1).0 value.2, value.3),
        lines_there ws true (suc n) ts a.1 l.1 l.3,
        l.4 ∙ ap (λ x. line (decimal n ++ codes " " ++ x) ++ line (codes "  " ++ l.0) ++ l.1) (sym ((to.alike ws t a.0).text (look_of s))),
      )

  count_there : (ws : List ℕ) (count : Bool) (text : List ℕ) → CountsEdges solved s ws count text → CountsEdges solved s' ws count text
  count_there ws false text x = x
  count_there ws true text x = (map c x.0, to.chart (cat_of s) ws x.0 x.1, x.2 ∙ ap (λ n. line (codes "edges " ++ decimal n)) (sym (length-map x.0 c)))

  sentence_there : (st : State) (ws : List (List ℕ)) (text : List ℕ) → IsSentenceReply solved s st ws text → IsSentenceReply solved s' st ws text
  sentence_there st ws text (too_long l e) = too_long l e
  sentence_there st ws text (unknown p w l u e) = unknown p w l u e
  sentence_there st ws text (too_many l all more e) = too_many l all (to.more (cat_of s) (map s.names.number ws) st.limit more) e
  sentence_there st ws text (analyses l all less a) =
      let vs = map s.names.number ws in
      let derived = all_weaker (IsAnalysis (solved g (cat_of s)) g vs) (IsDerivation g vs) (λ t x. x.derivation) a.0 a.3.each in
      analyses l all (λ m. less (from.more (cat_of s) vs st.limit m)) (
        map c a.0,
        a.1,
        a.2,
        analyses_there vs a.0 a.3,
        lines_there vs st.features 1 a.0 derived a.1 a.4,
        count_there vs st.count a.2 a.5,
        a.6 ∙ ap (λ n. line (codes "analyses " ++ decimal n) ++ a.1 ++ a.2) (sym (length-map a.0 c)),
      )

  -- the leaf of an entry has a solution, and its least values, as before
  leaf_alike : (e k : ℕ) (v : EntryVariant) → entry_variant g e k ≡ Some v → AreAlike g s'.rules (Leaf e k 0 1) (Leaf e k 0 1)
  leaf_alike e k v q = to.alike (v.word ∷ []) (Leaf e k 0 1) (v, q, refl, refl)

  is_shown : (w : List ℕ) (t : Derivation) → IsShown s w t → IsShown s' w t
  is_shown w t h = record {
    entry = h.entry;
    number = h.number;
    leaf = h.leaf;
    variant = h.variant;
    is = h.is;
    word = h.word;
    solvable = subst (IsSolvable s'.rules) (sym h.leaf) ((leaf_alike h.entry h.number h.variant h.is).solvable.0 (subst (IsSolvable g) h.leaf h.solvable));
  }

  values_there : (w : List ℕ) (n : ℕ) (ts : List Derivation) → AllByRecursion (IsShown s w) ts → (text : List ℕ) → ListsValues s n ts text → ListsValues s' n ts text
  values_there w n [] each text l = l
  values_there w n (t ∷ ts) each text l =
      let h = each.0 in
      let value = subst (λ u. IsLeastText s u l.0) h.leaf l.2 in (
        l.0,
        l.1,
        subst (λ u. IsLeastText s' u l.0) (sym h.leaf) (value.0, value.1, ((leaf_alike h.entry h.number h.variant h.is).least value.0 value.1).0 value.2, value.3),
        values_there w (suc n) ts each.1 l.1 l.3,
        l.4,
      )

-- the same where the one is shown as the other is
module _ (s : Grounds) (rules : List (List RuleVariant)) (f back : Numbers) (to : HaveCounterparts s.rules (record s.rules { rules = rules }) f back) (from : HaveCounterparts (record s.rules { rules = rules }) s.rules back f)
    (keeps : KeepsOrder s.rules f) (kept : KeepsOrder (record s.rules { rules = rules }) back) where
  abbrev there : Grounds
  there = record s { rules = record s.rules { rules = rules } }

  command_there : (st : State) (c : Command) (text : List ℕ) → grammar_replies s st c text → grammar_replies there st c text
  command_there st (Limit n) text r = r
  command_there st (Features b) text r = r
  command_there st (Count b) text r = r
  command_there st (Show w) text (show.unknown n e) = show.unknown n e
  command_there st (Show w) text (show.shown k ts body are l e) = show.shown k ts body
      (record {
        rises = are.rises;
        each = all_weaker (IsShown s w) (IsShown there w) (is_shown s rules f back to from keeps w) ts are.each;
        every = λ t h. are.every t (is_shown there s.rules.rules back f from to kept w t h);
      })
      (values_there s rules f back to from keeps w 1 ts are.each body l) e
  command_there st Grammar text r = r
  command_there st (Make n) text r = r
  command_there st Quit text r = r

-- the same variants in the same order give the same replies
pub same_replies : (s : Grounds) (rules : List (List RuleVariant)) → gathered s.rules.rules ≡ gathered rules → GiveSameReplies s (record s { rules = record s.rules { rules = rules } })
same_replies s rules e =
    let g = s.rules in
    let s' : Grounds = record s { rules = record s.rules { rules = rules } } in
    let h : Rules = record s.rules { rules = rules } in
    let f = regathered g.rules rules in
    let back = regathered rules g.rules in
    let m : AreNumbered g h f back = regathered_numbers g rules e in
    let n : AreNumbered h g back f = regathered_numbers h g.rules (sym e) in
    let to = have_counterparts g rules f back m n in
    let from = have_counterparts h g.rules back f n m in
    let keeps = regathered_rises g.rules rules e in
    let kept = regathered_rises rules g.rules (sym e) in
    let forth = sentence_there s rules f back to from keeps in
    let home = sentence_there s' g.rules back f from to kept in
    record {
      sentences = λ st ws text. (forth st ws text, home st ws text);
      sessions = λ st ls text quit. (
        lines_replied solved solved s s' forth lines_with_commands (command_there s rules f back to from keeps kept) st ls text quit,
        lines_replied solved solved s' s home lines_with_commands (command_there s' g.rules back f from to kept keeps) st ls text quit,
      );
    }
