-- Plain words on the lines of a lexicon: where lines and words are cut, and that no character is refused.
use Rattle.std.proofs.Common.{◌≡◌, ℕ, ◌+◌, Bool, true, false, cond, ◌||◌, nat_eq, List, [], ◌∷◌, ◌++◌, reverse, Some, None, refl, ap, ◌∙◌, true≢false}
use Rattle.std.specs.List.{AllByRecursion}
use Rattle.std.proofs.lemmas.List.{reverse-reverse}
use Rattle.patr_lists.proofs.Alls.{all_reverse, all_weaker}
use Rattle.patr_model.specs.Session.{is_blank, Cut, cut_at, pieces}
use Rattle.patr_model.specs.Tokens.{Place, is_white, is_control, IsPlainWord}
use Rattle.patr_model.specs.LexiconLines.{is_edge, control}
use Rattle.patr_model.specs.LexiconText.{trimmed_front, trimmed}
use Rattle.patr_model.proofs.Spelling.{turned}

-- no byte passes the test
abbrev pub Misses : (ℕ → Bool) → List ℕ → Type 0
Misses test bytes = AllByRecursion (λ b. test b ≡ false) bytes

-- a text that is not cut, alone and in front of a cut
pub whole_cut : (test : ℕ → Bool) (bytes : List ℕ) → Misses test bytes → cut_at test bytes ≡ record { first = bytes; rest = [] }
whole_cut test [] a = refl
whole_cut test (b ∷ bs) a =
    ap (λ t. cond {A = Cut} t (record { first = []; rest = (cut_at test bs).first ∷ (cut_at test bs).rest }) (record { first = b ∷ (cut_at test bs).first; rest = (cut_at test bs).rest })) a.0
    ∙ ap (λ (c : Cut). record { first = b ∷ c.first; rest = c.rest }) (whole_cut test bs a.1)

pub front_cut : (test : ℕ → Bool) (bytes : List ℕ) (c : ℕ) (rest : List ℕ) → Misses test bytes → test c ≡ true → pieces test (bytes ++ c ∷ rest) ≡ bytes ∷ pieces test rest
front_cut test bytes c rest a h = ap (λ (d : Cut). d.first ∷ d.rest) (cut bytes a)
  where
    cut : (bytes : List ℕ) → Misses test bytes → cut_at test (bytes ++ c ∷ rest) ≡ record { first = bytes; rest = pieces test rest }
    cut [] a = ap (λ t. cond {A = Cut} t (record { first = []; rest = pieces test rest }) (record { first = c ∷ (cut_at test rest).first; rest = (cut_at test rest).rest })) h
    cut (b ∷ bs) a =
        let d = cut_at test (bs ++ c ∷ rest) in
        ap (λ t. cond {A = Cut} t (record { first = []; rest = d.first ∷ d.rest }) (record { first = b ∷ d.first; rest = d.rest })) a.0
        ∙ ap (λ (d : Cut). record { first = b ∷ d.first; rest = d.rest }) (cut bs a.1)

-- ---- plain words

abbrev pub IsPlain : ℕ → Type 0
IsPlain b = (is_white b ≡ false) × (is_control b ≡ false)

pub plain_all : (w : List ℕ) → IsPlainWord w → AllByRecursion IsPlain w
plain_all [] p = absurd p
plain_all (b ∷ bs) p = p

four : (a b c d : Bool) → (a || b || c || d) ≡ false → (a ≡ false) × (b ≡ false) × (c ≡ false) × (d ≡ false)
four true b c d e = absurd (true≢false e)
four false true c d e = absurd (true≢false e)
four false false true d e = absurd (true≢false e)
four false false false true e = absurd (true≢false e)
four false false false false e = (refl, refl, refl, refl)

-- a plain byte is no space, tab, LF or CR
plain_byte : (b : ℕ) → IsPlain b → (nat_eq b 32 ≡ false) × (nat_eq b 9 ≡ false) × (nat_eq b 10 ≡ false) × (nat_eq b 13 ≡ false)
plain_byte b h = four (nat_eq b 32) (nat_eq b 9) (nat_eq b 10) (nat_eq b 13) h.0

pub plain_no_line : (b : ℕ) → IsPlain b → nat_eq 10 b ≡ false
plain_no_line b h = turned b 10 (plain_byte b h).2

pub plain_no_blank : (b : ℕ) → IsPlain b → is_blank b ≡ false
plain_no_blank b h = ap (λ t. t || nat_eq b 9) (plain_byte b h).0 ∙ (plain_byte b h).1

plain_no_edge : (b : ℕ) → IsPlain b → is_edge b ≡ false
plain_no_edge b h = ap (λ t. t || nat_eq b 13) (plain_no_blank b h) ∙ (plain_byte b h).3

-- a text that begins with no edge is not cut at its front
front_kept : (bytes : List ℕ) → Misses is_edge bytes → trimmed_front bytes ≡ bytes
front_kept [] a = refl
front_kept (b ∷ bs) a = ap (λ t. cond t (trimmed_front bs) (b ∷ bs)) a.0

-- a word behind a space
pub word_trimmed : (w : List ℕ) → IsPlainWord w → trimmed (32 ∷ w) ≡ w
word_trimmed w p =
    let none = all_weaker IsPlain (λ b. is_edge b ≡ false) plain_no_edge w (plain_all w p) in
    ap (λ u. reverse (trimmed_front (reverse u))) (front_kept w none) ∙ (ap (λ u. reverse u) (front_kept (reverse w) (all_reverse (λ b. is_edge b ≡ false) w none)) ∙ reverse-reverse w)

-- no control character is refused in a plain word
pub control_none : (p : Place) (bytes : List ℕ) → AllByRecursion IsPlain bytes → control false p bytes ≡ None
unfolding control
control_none p [] a = refl
control_none p (b ∷ bs) a = ap (λ t. cond t (Some p) (control false (record { line = p.line; column = p.column + 1 }) bs)) (a.0).1 ∙ control_none (record { line = p.line; column = p.column + 1 }) bs a.1
