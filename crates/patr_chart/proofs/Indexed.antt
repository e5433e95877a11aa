-- The indexes stay right.
use Rattle.std.proofs.Common.{◌≡◌, ◌⊎◌, inl, inr, ℕ, suc, ◌<◌, ◌≤◌, ◌^◌, Bool, true, false, cond, nat_eq, List, [], ◌∷◌, ◌++◌, length, take, get_or, Some, slice_get, refl, sym, ap, ◌∙◌, arith, subst, ltb-true, ltb-false, nat_lt, length-append, length-set}
use Rattle.patr_chart.proofs.Names.{AreEdges, Edge, IsEdgeAfter, IsEntered, ends_at, get_cases, get_or-append_seam, get_or_append_left, index_added, index_kept, is_partner, is_passive, neighbours, partners, places, places_length, slice_get-get_or, starts_at, take-append-le, take-append_seam}
use Rattle.patr_lists.specs.Tables.{Table, with_number}
use Rattle.patr_chart.specs.Kept.{IsIndexed}
use Rattle.patr_chart.proofs.Places.{partners_last, partners_before, found}

edges_after : (words : ℕ) (es : List Edge) (e : Edge) → AreEdges words es → IsEdgeAfter words es e → AreEdges words (es ++ e ∷ [])
edges_after words es e all last k f at = go (get_cases es e k f at)
  where
    go : ((k < length es) × (slice_get es k ≡ Some f)) ⊎ ((k ≡ length es) × (e ≡ f)) → IsEdgeAfter words (take k (es ++ e ∷ [])) f
    go (inl h) = subst (λ l. IsEdgeAfter words l f) (sym (take-append-le k es (e ∷ []) (omega (arith, h.0)))) (all k f h.1)
    go (inr h) = subst (λ l. IsEdgeAfter words l f) (sym (ap (λ n. take n (es ++ e ∷ [])) h.0 ∙ take-append_seam es (e ∷ []))) (subst (λ x. IsEdgeAfter words es x) h.1 last)

-- the neighbours are the edges that pass the test
pub near : (words : ℕ) (es : List Edge) (ns : List ℕ) (S E : Table) → IsIndexed words es ns S E → (e : Edge) → e.start ≤ e.end → e.end ≤ words → neighbours S E e ≡ places (is_partner e) 0 es
near words es ns S E k e order within = go (is_passive e)
  where
    go : (b : Bool) → cond b (get_or E e.start []) (get_or S e.end []) ≡ places (cond b (ends_at e.start) (starts_at e.end)) 0 es
    go true = k.ending e.start (omega (arith, order, within))
    go false = k.starting e.end within

-- they are no more than there are edges
pub few_neighbours : (words : ℕ) (es : List Edge) (ns : List ℕ) (S E : Table) → IsIndexed words es ns S E → (e : Edge) → e.start ≤ e.end → e.end ≤ words → length (neighbours S E e) ≤ length es
few_neighbours words es ns S E k e order within = omega (arith, ap length (near words es ns S E k e order within), places_length (is_partner e) 0 es)

module _ (words : ℕ) (es : List Edge) (e : Edge) (S E : Table) (last : IsEdgeAfter words es e) where
  starting_after : (b : Bool) → is_passive e ≡ b → length S ≡ suc words → ((s : ℕ) → s ≤ words → get_or S s [] ≡ places (starts_at s) 0 es)
      → (s : ℕ) → s ≤ words → get_or (cond b (with_number S e.start (length es)) S) s [] ≡ places (starts_at s) 0 (es ++ e ∷ [])
  starting_after true q long is s h = index_added (starts_at s) es e S e.start s (omega (arith, long, last.order, last.within)) (ap (λ b. cond b (nat_eq e.start s) false) q) (is s h)
  starting_after false q long is s h = index_kept (starts_at s) es e (get_or S s []) (ap (λ b. cond b (nat_eq e.start s) false) q) (is s h)

  ending_after : (b : Bool) → is_passive e ≡ b → length E ≡ suc words → ((s : ℕ) → s ≤ words → get_or E s [] ≡ places (ends_at s) 0 es)
      → (s : ℕ) → s ≤ words → get_or (cond b E (with_number E e.end (length es))) s [] ≡ places (ends_at s) 0 (es ++ e ∷ [])
  ending_after true q long is s h = index_kept (ends_at s) es e (get_or E s []) (ap (λ b. cond b false (nat_eq e.end s)) q) (is s h)
  ending_after false q long is s h = index_added (ends_at s) es e E e.end s (omega (arith, long, last.order, last.within)) (ap (λ b. cond b false (nat_eq e.end s)) q) (is s h)

  long_if : (b : Bool) (L : Table) (n : ℕ) → length L ≡ suc words → length (cond b (with_number L n (length es)) L) ≡ suc words
  long_if true L n h = length-set L n (get_or L n [] ++ length es ∷ []) ∙ h
  long_if false L n h = h

  long_unless : (b : Bool) (L : Table) (n : ℕ) → length L ≡ suc words → length (cond b L (with_number L n (length es))) ≡ suc words
  long_unless true L n h = h
  long_unless false L n h = length-set L n (get_or L n [] ++ length es ∷ []) ∙ h

  pub more_indexed : (ns : List ℕ) (S2 E2 : Table) → IsIndexed words es ns S E → IsEntered e (length es) S E S2 E2 → suc (length es) < 2 ^ 32
      → IsIndexed words (es ++ e ∷ []) (ns ++ length (neighbours S E e) ∷ []) S2 E2
  more_indexed ns S2 E2 k i few = record {
    few = omega (arith, few, length-append es (e ∷ []));
    edges = edges_after words es e k.edges last;
    starting_length = ap length i.starting ∙ long_if (is_passive e) S e.start k.starting_length;
    ending_length = ap length i.ending ∙ long_unless (is_passive e) E e.end k.ending_length;
    starting = λ s h. ap (λ l. get_or l s []) i.starting ∙ starting_after (is_passive e) refl k.starting_length k.starting s h;
    ending = λ s h. ap (λ l. get_or l s []) i.ending ∙ ending_after (is_passive e) refl k.ending_length k.ending s h;
    counts_length = omega (arith, k.counts_length, length-append es (e ∷ []), length-append ns (length (neighbours S E e) ∷ []));
    counts = λ n d h. counted n d (before_or_last n h);
  }
    where
      before_or_last : (n : ℕ) → n < length (es ++ e ∷ []) → (n < length es) ⊎ (n ≡ length es)
      before_or_last n h = go (nat_lt n (length es)) refl
        where
          go : (b : Bool) → nat_lt n (length es) ≡ b → (n < length es) ⊎ (n ≡ length es)
          go true q = inl (ltb-true n (length es) q)
          go false q = inr (omega (arith, h, length-append es (e ∷ []), ltb-false n (length es) q))

      counted : (n d : ℕ) → (n < length es) ⊎ (n ≡ length es) → get_or (ns ++ length (neighbours S E e) ∷ []) n d ≡ length (partners (es ++ e ∷ []) n)
      counted n d (inl h) = get_or_append_left ns (length (neighbours S E e) ∷ []) d n (omega (arith, h, k.counts_length)) ∙ (k.counts n d h ∙ ap length (sym (partners_before es e n h)))
      counted n d (inr h) =
          ap (λ j. get_or (ns ++ length (neighbours S E e) ∷ []) j d) (h ∙ sym k.counts_length) ∙ (get_or-append_seam ns (length (neighbours S E e)) [] d
          ∙ (ap length (near words es ns S E k e last.order last.within) ∙ (ap length (sym (partners_last es e)) ∙ ap (λ j. length (partners (es ++ e ∷ []) j)) (sym h))))

-- what the indexes give for edge k
module _ (words : ℕ) (es : List Edge) (ns : List ℕ) (S E : Table) (x : IsIndexed words es ns S E) (k : ℕ) (e : Edge) (n : ℕ) (list : List ℕ) (here : k < length es) (is : e ≡ get_or es k e) (count : n ≡ get_or ns k n) where
  pub edge_at : slice_get es k ≡ Some e
  edge_at = slice_get-get_or es k e here ∙ ap (λ x. Some x) (sym is)

  pub edge_fits : IsEdgeAfter words (take k es) e
  edge_fits = x.edges k e edge_at

  pub are_partners : list ≡ neighbours S E e → take n list ≡ partners es k
  are_partners l = found es k e list n edge_at (l ∙ near words es ns S E x e edge_fits.order edge_fits.within) (count ∙ x.counts k n here)

  pub enough : list ≡ neighbours S E e → n ≡ length (take n list)
  enough l = count ∙ (x.counts k n here ∙ ap length (sym (are_partners l)))
