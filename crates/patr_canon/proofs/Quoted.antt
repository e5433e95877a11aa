-- Texts between quotes.
use Rattle.std.proofs.Common.{◌≡◌, ◌≢◌, ℕ, suc, ◌<◌, Bool, true, false, cond, ◌||◌, nat_eq, List, [], ◌∷◌, ◌++◌, length, get_or, flat_map, refl, sym, ap, ◌∙◌, arith, eqb-true, append_assoc, append-nil}
use Rattle.std.proofs.lemmas.Grind.{flat_map-append}
use Rattle.std.proofs.lemmas.Str.{encodes-append, inside_one}
use lib.Utf8.{encode, encodes}
use Rattle.patr_model.specs.Text.{escaped}

-- bytes none of which is escaped
plain_bytes : (bs : List ℕ) → ((k : ℕ) → k < length bs → (get_or bs k 0 ≢ 34) × (get_or bs k 0 ≢ 92)) → flat_map escaped bs ≡ bs
plain_bytes [] h = refl
plain_bytes (b ∷ bs) h = go (nat_eq b 34) (nat_eq b 92) refl refl (plain_bytes bs (λ k l. h (suc k) (omega (arith, l))))
  where
    go : (p q : Bool) → nat_eq b 34 ≡ p → nat_eq b 92 ≡ q → flat_map escaped bs ≡ bs → cond (nat_eq b 34 || nat_eq b 92) (92 ∷ b ∷ []) (b ∷ []) ++ flat_map escaped bs ≡ b ∷ bs
    go true q e f r = absurd ((h 0 (omega arith)).0 (eqb-true b 34 e))
    go false true e f r = absurd ((h 0 (omega arith)).1 (eqb-true b 92 f))
    go false false e f r = ap (λ x. cond (x || nat_eq b 92) (92 ∷ b ∷ []) (b ∷ []) ++ flat_map escaped bs) e ∙ (ap (λ x. cond x (92 ∷ b ∷ []) (b ∷ []) ++ flat_map escaped bs) f ∙ ap (λ l. b ∷ l) r)

pub plain_char : (c : ℕ) → c ≢ 34 → c ≢ 92 → flat_map escaped (encode c) ≡ encode c
plain_char c p q = plain_bytes (encode c) (λ k h. (λ e. p (inside_one c [] (encode c) k (sym (append-nil (encode c))) h (omega (arith, e)) ∙ e), λ e. q (inside_one c [] (encode c) k (sym (append-nil (encode c))) h (omega (arith, e)) ∙ e)))

-- one more character
pub quoted_more : (old before after : List ℕ) (ys : List ℕ) (c : ℕ) → before ≡ old ++ 34 ∷ flat_map escaped (encodes ys) → after ≡ before ++ flat_map escaped (encode c) → after ≡ old ++ 34 ∷ flat_map escaped (encodes (ys ++ c ∷ []))
quoted_more old before after ys c is more =
    let one : encodes (ys ++ c ∷ []) ≡ encodes ys ++ encode c = encodes-append ys (c ∷ []) ∙ ap (λ l. encodes ys ++ l) (append-nil (encode c)) in
    more ∙ (ap (λ l. l ++ flat_map escaped (encode c)) is
    ∙ (append_assoc old (34 ∷ flat_map escaped (encodes ys)) (flat_map escaped (encode c))
    ∙ ap (λ l. old ++ 34 ∷ l) (sym (flat_map-append escaped (encodes ys) (encode c)) ∙ ap (flat_map escaped) (sym one))))

pub text_more : (text rest next : List ℕ) (ys : List ℕ) (c : ℕ) → encodes ys ++ rest ≡ text → rest ≡ encode c ++ next → encodes (ys ++ c ∷ []) ++ next ≡ text
text_more text rest next ys c is step =
    let one : encodes (ys ++ c ∷ []) ≡ encodes ys ++ encode c = encodes-append ys (c ∷ []) ∙ ap (λ l. encodes ys ++ l) (append-nil (encode c)) in
    ap (λ l. l ++ next) one ∙ (append_assoc (encodes ys) (encode c) next ∙ (ap (λ l. encodes ys ++ l) (sym step) ∙ is))

-- no character is left
pub text_all : (text rest : List ℕ) (ys : List ℕ) → encodes ys ++ rest ≡ text → length rest ≡ 0 → encodes ys ≡ text
text_all text [] ys is none = sym (append-nil (encodes ys)) ∙ is
text_all text (b ∷ rest) ys is none = absurd (omega (arith, none))
