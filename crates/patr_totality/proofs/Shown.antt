-- The variants of a word's entries that have a solution, in order, and the reply that lists them.
use Rattle.std.proofs.Common.{◌≡◌, ℕ, zero, suc, ◌+◌, ◌<◌, ◌≤◌, ◌⊎◌, inl, inr, List, [], ◌∷◌, length, Option, Some, None, slice_get, get_or, refl, sym, ap, ◌∙◌, arith, subst}
use Rattle.std.proofs.lemmas.Bool.{cases_eq, cases_lt}
use Rattle.std.proofs.lemmas.Option.{slice_get_within, get_or_from_slice_get}
use Rattle.std.specs.List.{AllByRecursion}
use Rattle.patr_lists.specs.Members.{IsIn}
use Rattle.patr_model.specs.Derivation.{EntryVariant, entry_variant, Derivation, Leaf, key}
use Rattle.patr_model.specs.Solution.{IsSolvable}
use Rattle.patr_model.specs.Text.{canonical}
use Rattle.patr_model.specs.Session.{Grounds, cat_of, look_of, number_before, numbers, Rises}
use Rattle.patr_model.specs.Showing.{IsShown, AreShown, ListsValues, IsShowReply, unknown, shown}
use Rattle.patr_model.proofs.Maps.{some_inj, and_then_some}
use Rattle.patr_totality.specs.Laws.{AreReady, HasLeast}
use Rattle.patr_totality.proofs.Entries.{leaf_decided}
use Rattle.patr_totality.proofs.Analyses.{known_decided}

-- the variant k' of entry e' is the variant k of entry e, or one behind it
abbrev IsFrom : ℕ → ℕ → ℕ → ℕ → Type 0
IsFrom e k e' k' = (e < e') ⊎ ((e ≡ e') × (k ≤ k'))

-- the first of the list is such a variant
abbrev BeginsFrom : ℕ → ℕ → List Derivation → Type 0
BeginsFrom e k [] = Unit {0}
BeginsFrom e k (t ∷ ts) = (e' : ℕ) × (k' : ℕ) × (t ≡ Leaf e' k' 0 1) × IsFrom e k e' k'

module _ (s : Grounds) (made : AreReady s.rules (cat_of s)) (w : List ℕ) where
  abbrev IsOne : ℕ → ℕ → Type 0
  IsOne e k = IsShown s w (Leaf e k 0 1)

  -- all that are shown, from the variant k of entry e on
  record Listed (e k : ℕ) : Type 0 where
    ts : List Derivation
    rises : Rises ts
    each : AllByRecursion (IsShown s w) ts
    begins : BeginsFrom e k ts
    every : (e' k' : ℕ) → IsFrom e k e' k' → IsOne e' k' → IsIn ts (Leaf e' k' 0 1)

  -- the variant that is shown is there
  there : (e k : ℕ) → IsOne e k → (v : EntryVariant) × (entry_variant s.rules e k ≡ Some v) × (v.word ≡ s.names.number w)
  there e k h =
      let q = h.leaf in
      let a : e ≡ h.entry = cc in
      let b : k ≡ h.number = cc in
      (h.variant, (λ i. entry_variant s.rules (a i) (b i)) ∙ h.is, h.word)

  least_or_none : (e k : ℕ) (v : EntryVariant) → entry_variant s.rules e k ≡ Some v → HasLeast s.rules (Leaf e k 0 1) ⊎ (IsSolvable s.rules (Leaf e k 0 1) → ⊥)
  least_or_none e k v q = leaf_decided s.rules e k 0 1 v q (made.within.entries e k v q) (made.chains e k v q)

  one_decided : (e k : ℕ) → IsOne e k ⊎ (IsOne e k → ⊥)
  one_decided e k = go (entry_variant s.rules e k) refl
    where
      go : (o : Option EntryVariant) → entry_variant s.rules e k ≡ o → IsOne e k ⊎ (IsOne e k → ⊥)
      go None q = inr (λ h. let t = there e k h in let bad : None ≡ Some t.0 = sym q ∙ t.1 in cc)
      go (Some v) q = elim (cases_eq v.word (s.names.number w)) [
        | inr other ↦ inr (λ h. let t = there e k h in other (ap (λ (u : EntryVariant). u.word) (some_inj v t.0 (sym q ∙ t.1)) ∙ t.2))
        | inl word ↦ elim (least_or_none e k v q) [
          | inr none ↦ inr (λ h. none h.solvable)
          | inl l ↦ inl (record {
            entry = e;
            number = k;
            leaf = refl;
            variant = v;
            is = q;
            word = word;
            solvable = (l.2.solution.0, l.2.solution.1, l.2.solution.2);
          })
        ]
      ]

  -- a variant before all that are listed
  in_front : (e k : ℕ) → IsOne e k → (r : Listed e (suc k)) → Rises (Leaf e k 0 1 ∷ r.ts)
  in_front e k one r = go r.ts r.rises r.begins
    where
      go : (ts : List Derivation) → Rises ts → BeginsFrom e (suc k) ts → Rises (Leaf e k 0 1 ∷ ts)
      go [] rises begins = tt
      go (t ∷ ts) rises (e', k', is, inl before) = (subst (λ u. number_before (numbers (key (Leaf e k 0 1))) (numbers (key u))) (sym is) (inr (refl, inl before)), rises)
      go (t ∷ ts) rises (e', k', is, inr (same, behind)) =
          (subst (λ u. number_before (numbers (key (Leaf e k 0 1))) (numbers (key u))) (sym is) (inr (refl, inr (same, inl (omega (arith, behind))))), rises)

  -- the variants of entry e from k on, of which so many are left, before those that are listed
  variants_from : (e left k : ℕ) → Listed e (k + left) → Listed e k
  variants_from e zero k r = subst (Listed e) (omega arith) r
  variants_from e (suc left) k r = go (variants_from e left (suc k) (subst (Listed e) (omega arith) r)) (one_decided e k)
    where
      split : (e' k' : ℕ) → IsFrom e k e' k' → ((e ≡ e') × (k ≡ k')) ⊎ IsFrom e (suc k) e' k'
      split e' k' (inl before) = inr (inl before)
      split e' k' (inr (same, behind)) = elim (cases_lt k k') [ inl h ↦ inr (inr (same, h)) | inr h ↦ inl (same, omega (arith, behind, h)) ]

      weaker : (ts : List Derivation) → BeginsFrom e (suc k) ts → BeginsFrom e k ts
      weaker [] b = tt
      weaker (t ∷ ts) (e', k', is, inl before) = (e', k', is, inl before)
      weaker (t ∷ ts) (e', k', is, inr (same, behind)) = (e', k', is, inr (same, omega (arith, behind)))

      go : Listed e (suc k) → IsOne e k ⊎ (IsOne e k → ⊥) → Listed e k
      go r (inl one) = record {
        ts = Leaf e k 0 1 ∷ r.ts;
        rises = in_front e k one r;
        each = (one, r.each);
        begins = (e, k, refl, inr (refl, omega arith));
        every = λ e' k' from h. elim (split e' k' from) [
          | inl is ↦ inl (λ i. Leaf (is.0 i) (is.1 i) 0 1)
          | inr later ↦ inr (r.every e' k' later h)
        ];
      }
      go r (inr none) = record {
        ts = r.ts;
        rises = r.rises;
        each = r.each;
        begins = weaker r.ts r.begins;
        every = λ e' k' from h. elim (split e' k' from) [
          | inl is ↦ absurd (none (subst (λ n. IsOne e n) (sym is.1) (subst (λ n. IsOne n k') (sym is.0) h)))
          | inr later ↦ r.every e' k' later h
        ];
      }

  -- an entry's number of variants
  abbrev count : ℕ → ℕ
  count e = length (get_or s.rules.entries e [])

  -- a variant that is shown is one of these
  within : (e k : ℕ) → IsOne e k → (e < length s.rules.entries) × (k < count e)
  within e k h =
      let t = there e k h in
      let v = and_then_some (slice_get s.rules.entries e) (λ vs. slice_get vs k) t.0 t.1 in
      (slice_get_within s.rules.entries e v.0 v.1, subst (λ vs. k < length vs) (sym (get_or_from_slice_get s.rules.entries e v.0 [] v.1)) (slice_get_within v.0 k t.0 v.2))

  -- from entry e on, of which so many are left
  entries_from : (left e : ℕ) → e + left ≡ length s.rules.entries → Listed e 0
  entries_from zero e all = record {
    ts = [];
    rises = tt;
    each = tt;
    begins = tt;
    every = λ e' k' from h. let b = (within e' k' h).0 in absurd (elim from [ inl before ↦ omega (arith, all, before, b) | inr same ↦ omega (arith, all, same.0, b) ]);
  }
  entries_from (suc left) e all = variants_from e (count e) 0 (subst (Listed e) (omega arith) (behind (entries_from left (suc e) (omega (arith, all)))))
    where
      later : (ts : List Derivation) → BeginsFrom (suc e) 0 ts → BeginsFrom e (count e) ts
      later [] b = tt
      later (t ∷ ts) (e', k', is, inl before) = (e', k', is, inl (omega (arith, before)))
      later (t ∷ ts) (e', k', is, inr (same, behind)) = (e', k', is, inl (omega (arith, same)))

      behind : Listed (suc e) 0 → Listed e (count e)
      behind r = record {
        ts = r.ts;
        rises = r.rises;
        each = r.each;
        begins = later r.ts r.begins;
        every = λ e' k' from h. elim from [
          | inl before ↦ r.every e' k' (elim (cases_lt (suc e) e') [ inl more ↦ inl more | inr most ↦ inr (omega (arith, before, most), omega arith) ]) h
          | inr same ↦ let b = (within e' k' h).1 in absurd (let c = ap count same.0 in omega (arith, same.1, b, c))
        ];
      }

  all_shown : (ts : List Derivation) × AreShown s w ts
  all_shown =
      let r = entries_from (length s.rules.entries) 0 (omega arith) in (
        r.ts,
        record {
          rises = r.rises;
          each = r.each;
          every = λ t h.
              let here = subst (IsShown s w) h.leaf h in
              subst (IsIn r.ts) (sym h.leaf) (r.every h.entry h.number (elim (cases_lt 0 h.entry) [ inl more ↦ inl more | inr most ↦ inr (omega (arith, most), omega arith) ]) here);
        },
      )

  values_listed : (n : ℕ) (ts : List Derivation) → AllByRecursion (IsShown s w) ts → (text : List ℕ) × ListsValues s n ts text
  values_listed n [] each = ([], refl)
  values_listed n (t ∷ ts) each =
      let h = each.0 in
      let rest = values_listed (suc n) ts each.1 in
      elim (least_or_none h.entry h.number h.variant h.is) [
        | inl l ↦
            let least = subst (HasLeast s.rules) (sym h.leaf) l in
            (_, (canonical (look_of s) least.0 least.1, rest.0, (least.0, least.1, least.2, refl), rest.1, refl))
        | inr none ↦ absurd (none (subst (IsSolvable s.rules) h.leaf h.solvable))
      ]

  -- `:show` of this word has a reply
  pub show_reply : (text : List ℕ) × IsShowReply s w text
  show_reply = elim (known_decided s made w) [
    | inr none ↦ (_, unknown none refl)
    | inl known ↦
        let all = all_shown in
        let body = values_listed 1 all.0 all.1.each in
        (_, shown known all.0 body.0 all.1 body.1 refl)
  ]
