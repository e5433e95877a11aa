-- Words of the notation, and indices.
use Rattle.std.proofs.Common.{◌≡◌, ℕ, zero, suc, ◌+◌, ◌-◌, ◌<◌, Bool, true, false, cond, ◌&&◌, List, [], ◌∷◌, ◌++◌, length, map, take, drop, IsTrue, ◌↔◌, refl, sym, ap, ◌∙◌, arith, add-one}
use Rattle.std.proofs.lemmas.Bool.{false≢true}
use Rattle.patr_grammar.proofs.Names.{after_first, all_digits, is_index, is_keyword, length-map, list_all, lower, nat_tests, take_rest, without_index}
use Rattle.std.specs.Char.{to_ascii_lowercase, is_ascii_digit}
use Rattle.patr_model.proofs.Canonical.{same_true, same_is}
use Rattle.patr_model.specs.Bytes.{same_text}

pub lower_is : (b : ℕ) → to_ascii_lowercase b ≡ lower b
lower_is b = grind (arith, nat_tests)

pub lower_all : (bs : List ℕ) → map to_ascii_lowercase bs ≡ map lower bs
lower_all [] = refl
lower_all (b ∷ bs) = ap (λ c. c ∷ map to_ascii_lowercase bs) (lower_is b) ∙ ap (λ cs. lower b ∷ cs) (lower_all bs)

-- a test that tells whether two texts are equal
pub same_by : (r : Bool) (xs ys : List ℕ) → (IsTrue r ↔ (xs ≡ ys)) → r ≡ same_text xs ys
same_by true xs ys h = sym (ap (same_text xs) (sym (h.0 refl)) ∙ same_true xs)
same_by false xs ys h = not_same (same_text xs ys) (λ e. absurd (false≢true (h.1 (same_is xs ys e))))
  where
    not_same : (b : Bool) → (b ≡ true → ⊥) → false ≡ b
    not_same true h = absurd (h refl)
    not_same false h = refl

pub digits_all : (bs : List ℕ) → list_all is_ascii_digit bs ≡ all_digits bs
digits_all [] = refl
digits_all (b ∷ bs) = ap (λ t. is_ascii_digit b && t) (digits_all bs)

-- ---- a walk to where an index begins

pub index_begins : (bs : List ℕ) → is_index bs ≡ true → after_first bs ≡ []
index_begins [] h = refl
index_begins (b ∷ bs) h = ap (λ t. cond t [] (b ∷ after_first bs)) h

pub no_index_yet : (b : ℕ) (bs : List ℕ) → is_index (b ∷ bs) ≡ false → after_first (b ∷ bs) ≡ b ∷ after_first bs
no_index_yet b bs h = ap (λ t. cond t [] (b ∷ after_first bs)) h

pub keyword_by : (r : Bool) (word text : List ℕ) → map lower word ≡ word → (IsTrue r ↔ (map to_ascii_lowercase text ≡ map to_ascii_lowercase word)) → r ≡ is_keyword word text
keyword_by r word text low h =
    let e : map to_ascii_lowercase word ≡ word = lower_all word ∙ low in
    same_by r (map lower text) word (λ t. sym (lower_all text) ∙ h.0 t ∙ e, λ p. h.1 (lower_all text ∙ p ∙ sym e))

-- a text of another length is another word
pub other_length : (word text : List ℕ) → map lower word ≡ word → (length text ≡ length word → ⊥) → false ≡ is_keyword word text
other_length word text low h =
    keyword_by false word text low (λ e. absurd (false≢true e), λ e. absurd (h (sym (length-map text to_ascii_lowercase) ∙ ap length e ∙ length-map word to_ascii_lowercase)))

walk_by : (bs : List ℕ) (n : ℕ) → n < length bs → is_index (drop n bs) ≡ false → take (suc n) bs ++ after_first (drop (suc n) bs) ≡ take n bs ++ after_first (drop n bs)
walk_by [] n lt h = absurd (omega arith)
walk_by (b ∷ bs) zero lt h = sym (no_index_yet b bs h)
walk_by (b ∷ bs) (suc n) lt h = ap (λ us. b ∷ us) (walk_by bs n (omega arith) h)

-- the walk goes on by one place
pub walk_goes_on : (bs whole : List ℕ) (n : ℕ) → n < length bs → is_index (take (length bs - n) (drop n bs)) ≡ false → take n bs ++ after_first (drop n bs) ≡ whole → take (n + 1) bs ++ after_first (drop (n + 1) bs) ≡ whole
walk_goes_on bs whole n lt h e = rw add-one (walk_by bs n lt (ap is_index (sym (take_rest bs n)) ∙ h) ∙ e)

-- ---- a text without its index

shorter_by : (t : Bool) (b : ℕ) (us bs : List ℕ) → (length us ≡ length bs → us ≡ bs) → length (cond t [] (b ∷ us)) ≡ suc (length bs) → cond t [] (b ∷ us) ≡ b ∷ bs
shorter_by true b us bs f e = absurd (omega arith)
shorter_by false b us bs f e = ap (λ vs. b ∷ vs) (f (omega arith))

shorter_behind : (bs : List ℕ) → length (after_first bs) ≡ length bs → after_first bs ≡ bs
shorter_behind [] h = refl
shorter_behind (b ∷ bs) h = shorter_by (is_index (b ∷ bs)) b (after_first bs) bs (shorter_behind bs) h

-- a text that is as long without its index has none
pub has_no_index : (bs : List ℕ) → length (without_index bs) ≡ length bs → without_index bs ≡ bs
has_no_index [] h = refl
has_no_index (b ∷ bs) h = ap (λ us. b ∷ us) (shorter_behind bs (omega arith))
