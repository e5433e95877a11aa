-- One step of writing a key.
use Rattle.std.proofs.Common.{◌≡◌, ℕ, ◌+◌, List, [], ◌∷◌, ◌++◌, length, map, reverse, Some, None, slice_get, refl, sym, ap, ◌∙◌, arith, append_assoc, append-nil}
use Rattle.patr_chart.proofs.Names.{AreEdges, AreHeld, Back, Edge, EdgeKind, Entry, IsStep, KeyItem, Pending, Rule, alone, item_of, key, kind_item, pending_keys, reverse-append, slice_get_within, tree, tree_key, weight, weights, whole_key}
use Rattle.patr_chart.proofs.Trees.{tree_alone, tree_longer, tree_of}

keys_append : (es : List Edge) (ps qs : List Pending) → pending_keys es (ps ++ qs) ≡ pending_keys es ps ++ pending_keys es qs
keys_append es [] qs = refl
keys_append es (p ∷ ps) qs = ap (λ l. tree_key (tree es p.number) p.end ++ l) (keys_append es ps qs) ∙ sym (append_assoc (tree_key (tree es p.number) p.end) (pending_keys es ps) (pending_keys es qs))

weights_append : (es : List Edge) (ps qs : List Pending) → weights es (ps ++ qs) ≡ weights es ps + weights es qs
weights_append es [] qs = omega arith
weights_append es (p ∷ ps) qs = omega (arith, weights_append es ps qs)

pub held_append : (n : ℕ) (ps qs : List Pending) → AreHeld n ps → AreHeld n qs → AreHeld n (ps ++ qs)
held_append n [] qs h k = k
held_append n (p ∷ ps) qs h k = (h.0, held_append n ps qs h.1 k)

pub held_split : (n : ℕ) (ps qs : List Pending) → AreHeld n (ps ++ qs) → AreHeld n ps × AreHeld n qs
held_split n [] qs h = (tt, h)
held_split n (p ∷ ps) qs h = let r = held_split n ps qs h.1 in ((h.0, r.0), r.1)

-- the pending trees with one more
last_key : (es : List Edge) (ps : List Pending) (p : Pending) → pending_keys es (ps ++ p ∷ []) ≡ pending_keys es ps ++ tree_key (tree es p.number) p.end
last_key es ps p = keys_append es ps (p ∷ []) ∙ ap (λ l. pending_keys es ps ++ l) (append-nil (tree_key (tree es p.number) p.end))

last_weight : (es : List Edge) (ps : List Pending) (p : Pending) → weights es (ps ++ p ∷ []) ≡ weights es ps + weight (tree es p.number)
last_weight es ps p = omega (arith, weights_append es ps (p ∷ []))

alone_key : (k : EdgeKind) (e : Edge) (to : ℕ) → tree_key (alone k e) to ≡ kind_item k to ∷ []
alone_key (Entry f v) e to = refl
alone_key (Rule r v i s n) e to = refl

alone_weight : (k : EdgeKind) (e : Edge) → weight (alone k e) ≡ 1
alone_weight (Entry f v) e = refl
alone_weight (Rule r v i s n) e = refl

module _ (words : ℕ) (es : List Edge) (all : AreEdges words es) (next : Pending) (e : Edge) (at : slice_get es next.number ≡ Some e) (ps : List Pending) (out : List KeyItem) where
  root_written : (x : KeyItem) → e.back ≡ None → item_of x ≡ kind_item e.kind next.end → whole_key es ps (out ++ x ∷ []) ≡ whole_key es (ps ++ next ∷ []) out
  root_written x none is =
      let t = tree_alone es next.number e at none in
      let rest = map item_of (reverse out) in
      ap (λ l. pending_keys es ps ++ map item_of l) (reverse-append out (x ∷ []))
      ∙ (ap (λ i. pending_keys es ps ++ i ∷ rest) is
      ∙ (sym (append_assoc (pending_keys es ps) (kind_item e.kind next.end ∷ []) rest)
      ∙ (ap (λ l. (pending_keys es ps ++ l) ++ rest) (sym (alone_key e.kind e next.end) ∙ ap (λ u. tree_key u next.end) (sym t))
      ∙ ap (λ l. l ++ rest) (sym (last_key es ps next)))))

  pub root_step : (x : KeyItem) → e.back ≡ None → item_of x ≡ kind_item e.kind next.end → AreHeld (length es) ps → IsStep es (ps ++ next ∷ []) out ps (out ++ x ∷ [])
  root_step x none is h = record {
    key = root_written x none is;
    falls = omega (arith, last_weight es ps next, ap weight (tree_alone es next.number e at none), alone_weight e.kind e);
    held = h;
  }

  module _ (b : Back) (some : e.back ≡ Some b) (f : Edge) (there : slice_get es b.passive ≡ Some f) where
    abbrev pub first : Pending
    first = record { number = b.active; end = next.end }

    abbrev pub second : Pending
    second = record { number = b.passive; end = f.end }

    pair_written : whole_key es ((ps ++ first ∷ []) ++ second ∷ []) out ≡ whole_key es (ps ++ next ∷ []) out
    pair_written =
        let l = tree_longer words es all next.number e b at some in
        let key_second : tree_key (tree es b.passive) f.end ≡ key (tree es b.passive) = ap (λ to. tree_key (tree es b.passive) to) (sym (tree_of words es all b.passive f there).end) in
        ap (λ l. l ++ map item_of (reverse out))
        (last_key es (ps ++ first ∷ []) second ∙ (ap (λ l. l ++ tree_key (tree es b.passive) f.end) (last_key es ps first)
        ∙ (append_assoc (pending_keys es ps) (tree_key (tree es b.active) next.end) (tree_key (tree es b.passive) f.end)
        ∙ (ap (λ l. pending_keys es ps ++ (tree_key (tree es b.active) next.end ++ l)) key_second
        ∙ (ap (λ u. pending_keys es ps ++ tree_key u next.end) (sym l.tree) ∙ sym (last_key es ps next))))))

    pub pair_step : AreHeld (length es) ps → IsStep es (ps ++ next ∷ []) out ((ps ++ first ∷ []) ++ second ∷ []) out
    pair_step h =
        let l = tree_longer words es all next.number e b at some in
        let below = slice_get_within es next.number e at in
        record {
          key = pair_written;
          falls = omega (arith, last_weight es (ps ++ first ∷ []) second, last_weight es ps first, last_weight es ps next, ap weight l.tree);
          held = held_append (length es) (ps ++ first ∷ []) (second ∷ []) (held_append (length es) ps (first ∷ []) h (omega (arith, l.active_before, below), tt)) (omega (arith, l.passive_before, below), tt);
        }
