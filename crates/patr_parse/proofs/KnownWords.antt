-- Words of the lexicon, by the table and by the entries of a word.
use Rattle.std.proofs.Common.{◌≡◌, ℕ, zero, suc, ◌+◌, ◌<◌, Bool, true, false, ◌||◌, List, [], ◌∷◌, ◌++◌, length, map, take, get_or, Some, slice_get, refl, sym, ap, ◌∙◌, arith, subst, eqb-true, eq-eqb, Bor}
use Rattle.std.specs.List.{AllByRecursion, Contains, list_any}
use Rattle.std.specs.Str.{bytes_eq}
use Rattle.std.proofs.lemmas.Slice.Eq.{bytes_eq-Decides}
use Rattle.patr_lists.proofs.Places.{first_contained}
use Rattle.patr_lists.specs.Numbers.{places}
use Rattle.patr_parse.proofs.Names.{Id, ids, some_inj, Stored, places_pass, passes_placed, AreKnownTo}
use Rattle.patr_text.specs.Texts.{holds}
use Rattle.patr_model.specs.Table.{IsTable}
use Rattle.patr_lexicon.specs.Entries.{is_of}
use Rattle.patr_parse.specs.Sentences.{AreNumbers, IsKnown, IsFirstUnknown}
use Rattle.patr_parse.specs.Words.{IsNumberOf}

-- a text of the table is held
holds_there : (table : List (List ℕ)) (i : ℕ) (t : List ℕ) → slice_get table i ≡ Some t → holds table t ≡ true
holds_there [] i t at = cc
holds_there (x ∷ table) zero t at = ap (λ b. b || list_any (bytes_eq t) table) ((bytes_eq-Decides t x).1 (sym (some_inj x t at)))
holds_there (x ∷ table) (suc i) t at = either (bytes_eq t x) (list_any (bytes_eq t) table) (holds_there table i t at)
  where
    either : (b c : Bool) → c ≡ true → b || c ≡ true
    either true c h = refl
    either false c h = h

module _ (s : Stored) (table : List (List ℕ)) (w : List ℕ) where
  pub not_held : holds table w ≡ false → IsKnown s table w → ⊥
  not_held h known =
      let bad : true ≡ false = sym (holds_there table known.1.word.0 w known.3) ∙ h in
      cc

  module _ (id : ℕ) (at : slice_get table id ≡ Some w) (found : List ℕ) (is : found ≡ places (is_of id) 0 s.lexicon) where
    pub no_entries : IsTable table → length found ≡ 0 → IsKnown s table w → ⊥
    no_entries one none known =
        let same : known.1.word.0 ≡ id = one known.1.word.0 id w known.3 at in
        let there : Contains found (0 + known.0) = subst (λ l. Contains l (0 + known.0)) (sym is) (passes_placed (is_of id) 0 s.lexicon known.0 known.1 known.2 (eq-eqb known.1.word.0 id same)) in
        omega (arith, there.1, none)

    pub some_entries : (length found ≡ 0 → ⊥) → IsKnown s table w
    some_entries some =
        let n = first_contained found some in
        let p = places_pass (is_of id) 0 s.lexicon n.0 (subst (λ l. Contains l n.0) is n.1) in
        (p.0, p.1, p.3, ap (slice_get table) (eqb-true p.1.word.0 id p.4) ∙ at)

-- one more word is known
words_more : (P : List ℕ → Type 0) (ws : List (List ℕ)) (n : ℕ) (w : List ℕ) → slice_get ws n ≡ Some w → AllByRecursion P (take n ws) → P w → AllByRecursion P (take (n + 1) ws)
words_more P [] n w at all known = cc
words_more P (v ∷ ws) zero w at all known = (subst P (sym (some_inj v w at)) known, tt)
words_more P (v ∷ ws) (suc n) w at all known = subst (λ k. AllByRecursion P (take k (v ∷ ws))) (let e : suc (n + 1) ≡ suc n + 1 = omega arith in e) (all.0, words_more P ws n w at all.1 known)

numbers_more : (table : List (List ℕ)) (ws : List (List ℕ)) (n : ℕ) (w : List ℕ) (is : List Id) (i : Id) → slice_get ws n ≡ Some w
    → AreNumbers table (take n ws) (ids is) → slice_get table i.0 ≡ Some w → AreNumbers table (take (n + 1) ws) (ids (is ++ i ∷ []))
numbers_more table [] n w is i at h e = cc
numbers_more table (v ∷ ws) zero w [] i at h e = (e ∙ ap (λ x. Some x) (sym (some_inj v w at)), tt)
numbers_more table (v ∷ ws) zero w (j ∷ is) i at h e = absurd h
numbers_more table (v ∷ ws) (suc n) w [] i at h e = absurd h
numbers_more table (v ∷ ws) (suc n) w (j ∷ is) i at h e =
    let f : suc (n + 1) ≡ suc n + 1 = omega arith in
    subst (λ k. AreNumbers table (take k (v ∷ ws)) (ids ((j ∷ is) ++ i ∷ []))) f (h.0, numbers_more table ws n w is i at h.1 e)

pub known_more : (s : Stored) (table ws : List (List ℕ)) (n : ℕ) (w : List ℕ) (is : List Id) (i : Id) → slice_get ws n ≡ Some w
    → AreKnownTo s table ws n (ids is) → IsNumberOf s table w i.0 → AreKnownTo s table ws (n + 1) (ids (is ++ i ∷ []))
known_more s table ws n w is i at h k = record {
  known = words_more (IsKnown s table) ws n w at h.known k.0;
  are = numbers_more table ws n w is i at h.are k.1;
}

-- those before the first unknown word are known
pub first_unknown : (s : Stored) (table ws : List (List ℕ)) (n : ℕ) (w : List ℕ) (numbers : List ℕ) → slice_get ws n ≡ Some w
    → AreKnownTo s table ws n numbers → (IsKnown s table w → ⊥) → IsFirstUnknown s table ws (suc n)
first_unknown s table ws n w numbers at all unknown = record {
  place = n;
  position_is = refl;
  word = w;
  here = at;
  unknown = unknown;
  before = known_before ws n all.known;
}
  where
    known_before : (vs : List (List ℕ)) (m : ℕ) → AllByRecursion (IsKnown s table) (take m vs) → (j : ℕ) (v : List ℕ) → j < m → slice_get vs j ≡ Some v → IsKnown s table v
    known_before [] m all j v l e = cc
    known_before (u ∷ vs) zero all j v l e = absurd (omega (arith, l))
    known_before (u ∷ vs) (suc m) all zero v l e = subst (IsKnown s table) (some_inj u v e) all.0
    known_before (u ∷ vs) (suc m) all (suc j) v l e = known_before vs m all.1 j v (omega (arith, l)) e

-- the text of a word of a slice
pub word_at : (ws : List (Bor (List ℕ))) (n : ℕ) (d : Bor (List ℕ)) → n < length ws → slice_get (map (λ (w : Bor (List ℕ)). w.now) ws) n ≡ Some (get_or ws n d).now
word_at [] n d h = absurd (omega (arith, h))
word_at (w ∷ ws) zero d h = refl
word_at (w ∷ ws) (suc n) d h = word_at ws n d (omega (arith, h))
