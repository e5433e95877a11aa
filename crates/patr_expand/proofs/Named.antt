-- Names and what they stand for, by their numbers.
use Rattle.std.proofs.Common.{◌≡◌, ℕ, zero, suc, ◌+◌, ◌<◌, ◌≤◌, List, [], ◌∷◌, ◌++◌, map, length, get_or, slice_get, Bool, true, false, cond, Option, Some, None, max, refl, sym, ap, ◌∙◌, subst, arith, append-nil}
use Rattle.std.proofs.lemmas.List.{length-map, map_push}
use Rattle.patr_lists.specs.Numbers.{places}
use Rattle.patr_lists.specs.Tables.{with_number}
use Rattle.patr_lists.proofs.Tables.{index_added}
use Rattle.patr_model.specs.Grammar.{Row, single, variants, variants_of}
use Rattle.patr_model.specs.Productions.{EquationText}
use Rattle.patr_model.specs.Build.{Meaning, chosen, longest, longest_of, meaning_of, with_template, written_out}
use Rattle.patr_text.specs.declared.symbols.Id.{Id}
use Rattle.patr_grammar.specs.declared.grammar.Template.{Template}
use Rattle.patr_grammar.specs.Levels.{features_seen}
use Rattle.patr_grammar.specs.Reading.{template_seen}
use Rattle.patr_expand.specs.declared.size.Size.{Size}
use Rattle.patr_expand.specs.declared.measured.Measured.{Measured}
use Rattle.patr_expand.specs.Seen.{same}
use Rattle.patr_expand.specs.Sizes.{IsItemSize, IsRowSize, IsSize, capped}
use Rattle.patr_expand.specs.Written.{IsMeasured, IsNumber, is_named, named, written}
use Rattle.patr_expand.proofs.Written.{row_written}

-- the first of these numbers, from k on, is that of what a name stands for
abbrev Finds : ℕ → List (Meaning Id) → Option (Row (EquationText Id)) → List ℕ → Type 0
Finds k ms o [] = o ≡ None
Finds k ms o (n ∷ ns) = (j : ℕ) × (n ≡ k + j) × (x : Meaning Id) × (slice_get ms j ≡ Some x) × (o ≡ Some x.body)

finds : (k : ℕ) (ms : List (Meaning Id)) (w : Id) → Finds k ms (meaning_of same ms w) (places (is_named w.0) k ms)
finds k [] w = refl
finds k (m ∷ ms) w = by (finds (suc k) ms w) (same m.name w)
  where
    others : List ℕ
    others = places (is_named w.0) (suc k) ms

    behind : (o : Option (Row (EquationText Id))) (l : List ℕ) → Finds (suc k) ms o l → Finds k (m ∷ ms) o l
    behind o [] h = h
    behind o (n ∷ ns) h = (suc h.0, omega (arith, h.1), h.2, h.3, h.4)

    by : Finds (suc k) ms (meaning_of same ms w) others → (b : Bool) → Finds k (m ∷ ms) (cond b (Some m.body) (meaning_of same ms w)) (cond b (k ∷ places (is_named w.0) (suc k) ms) (places (is_named w.0) (suc k) ms))
    by h true = (0, omega arith, m, refl, refl)
    by h false = behind (meaning_of same ms w) others h

-- what the list of a name's numbers says
pub number_none : (ms : List (Meaning Id)) (m : Measured) (w : Id) (l : List ℕ) → IsMeasured ms m → l ≡ get_or m.by_name w.0 [] → length l < 1 → IsNumber ms w None
number_none ms m w l h e none = go l (subst (Finds 0 ms (meaning_of same ms w)) (sym (e ∙ h.names w.0)) (finds 0 ms w)) none
  where
    go : (l : List ℕ) → Finds 0 ms (meaning_of same ms w) l → length l < 1 → IsNumber ms w None
    go [] k none = k
    go (n ∷ ns) k none = absurd (omega (arith, none))

pub number_some : (ms : List (Meaning Id)) (m : Measured) (w : Id) (l : List ℕ) → IsMeasured ms m → l ≡ get_or m.by_name w.0 [] → 1 ≤ length l → IsNumber ms w (Some (get_or l 0 0))
number_some ms m w l h e some = go l (subst (Finds 0 ms (meaning_of same ms w)) (sym (e ∙ h.names w.0)) (finds 0 ms w)) some
  where
    go : (l : List ℕ) → Finds 0 ms (meaning_of same ms w) l → 1 ≤ length l → IsNumber ms w (Some (get_or l 0 0))
    go [] k some = absurd (omega (arith, some))
    go (n ∷ ns) k some = let e : n ≡ k.0 = omega (arith, k.1) in (k.2, ap (slice_get ms) e ∙ k.3, k.4)

-- ---- two lists that are mapped to one

pub mapped_at : {A B : Type 0} (f : A → ℕ) (g : B → ℕ) (xs : List A) (ys : List B) (n : ℕ) (x : A) (y : B) → map f xs ≡ map g ys → slice_get xs n ≡ Some x → slice_get ys n ≡ Some y → f x ≡ g y
mapped_at f g [] ys n x y e h k = cc
mapped_at f g (a ∷ xs) [] n x y e h k = cc
mapped_at f g (a ∷ xs) (b ∷ ys) zero x y e h k = cc
mapped_at f g (a ∷ xs) (b ∷ ys) (suc n) x y e h k = mapped_at f g xs ys n x y (cc) h k

pub mapped_there : {A B : Type 0} (f : A → ℕ) (g : B → ℕ) (xs : List A) (ys : List B) (n : ℕ) (y : B) → map f xs ≡ map g ys → slice_get xs n ≡ None → slice_get ys n ≡ Some y → ⊥
mapped_there f g [] [] n y e h k = cc
mapped_there f g [] (b ∷ ys) n y e h k = cc
mapped_there f g (a ∷ xs) [] n y e h k = cc
mapped_there f g (a ∷ xs) (b ∷ ys) zero y e h k = cc
mapped_there f g (a ∷ xs) (b ∷ ys) (suc n) y e h k = mapped_there f g xs ys n y (cc) h k

-- ---- how large what a name stands for is

pub named_size : (ms : List (Meaning Id)) (m : Measured) (w : Id) (n : ℕ) (s : Size) → IsMeasured ms m → IsNumber ms w (Some n) → slice_get m.sizes.items n ≡ Some s → IsItemSize (named ms w) s
named_size ms m w n s h k is = subst (λ o. IsSize (length (variants_of single (chosen o))) (longest_of (λ e. 1) (chosen o)) s) (sym k.2) (record {
  variants = mapped_at (λ s. s.variants) (λ x. capped (length (variants single x.body))) m.sizes.items ms n s k.0 h.variants is k.1 ∙ ap (λ vs. capped (length vs)) (sym (append-nil (variants single k.0.body)));
  equations = mapped_at (λ s. s.equations) (λ x. capped (longest (λ e. 1) x.body)) m.sizes.items ms n s k.0 h.equations is k.1 ∙ ap capped (none_more (longest (λ e. 1) k.0.body));
})
  where
    none_more : (n : ℕ) → n ≡ max n 0
    none_more n = omega arith

pub no_size : (ms : List (Meaning Id)) (m : Measured) (w : Id) (n : ℕ) → IsMeasured ms m → IsNumber ms w (Some n) → slice_get m.sizes.items n ≡ None → ⊥
no_size ms m w n h k is = mapped_there (λ s. s.variants) (λ x. capped (length (variants single x.body))) m.sizes.items ms n k.0 h.variants is k.1

-- ---- one more template

pub added : (ms : List (Meaning Id)) (m new : Measured) (t : Template) (grown : List (List ℕ)) (n : ℕ) (s : Size)
    → IsMeasured ms m → n ≡ length m.sizes.items → ((k : ℕ) → get_or grown k [] ≡ get_or m.by_name k []) → t.name.0 < length grown → new.by_name ≡ with_number grown t.name.0 n → new.sizes.items ≡ m.sizes.items ++ s ∷ []
    → IsRowSize (written ms t.body.items) s → IsMeasured (with_template same ms (template_seen t)) new
added ms m new t grown n s h is same_lists long put pushed size = record {
  names = λ w. ap (λ l. get_or l w []) (put ∙ ap (with_number grown t.name.0) (is ∙ many)) ∙ index_added (is_named w) ms x grown t.name.0 w long refl (same_lists w ∙ h.names w);
  variants = behind (λ s. s.variants) (λ x. capped (length (variants single x.body))) h.variants full.variants;
  equations = behind (λ s. s.equations) (λ x. capped (longest (λ e. 1) x.body)) h.equations full.equations;
}
  where
    x : Meaning Id
    x = record { name = t.name; body = written_out same ms (features_seen t.body.items) }

    many : length m.sizes.items ≡ length ms
    many = sym (length-map m.sizes.items (λ s. s.variants)) ∙ ap length h.variants ∙ length-map ms (λ x. capped (length (variants single x.body)))

    full : IsRowSize (written_out same ms (features_seen t.body.items)) s
    full = subst (λ r. IsRowSize r s) (sym (row_written ms t.body.items)) size

    behind : (f : Size → ℕ) (g : Meaning Id → ℕ) → map f m.sizes.items ≡ map g ms → f s ≡ g x → map f new.sizes.items ≡ map g (ms ++ x ∷ [])
    behind f g e k = ap (map f) pushed ∙ map_push f m.sizes.items s ∙ ap (λ l. l ++ f s ∷ []) e ∙ ap (λ v. map g ms ++ v ∷ []) k ∙ sym (map_push g ms x)
