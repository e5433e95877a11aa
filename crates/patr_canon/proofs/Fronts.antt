-- Fronts of texts: where they end, and what is read of them.
use Rattle.std.proofs.Common.{◌≡◌, ◌≢◌, ℕ, zero, suc, ◌+◌, ◌*◌, ◌-◌, ◌<◌, ◌≤◌, Bool, true, false, cond, not, ◌&&◌, ◌||◌, nat_eq, nat_lt, eqb-true, ltb-true, lt-ltb, true≢false, List, [], ◌∷◌, ◌++◌, length, take, drop, get_or, append_assoc, append-nil, Option, Some, None, option_map, option_copied, refl, sym, ap, ◌∙◌, subst, arith}
use Rattle.std.specs.Option.{MatchOption}
use Rattle.patr_canon.proofs.Names.{Front, IsCharBoundary, IsUtf8, bare_front, bare_step, changed, digits_front, digits_step, drop_more, is_digit, is_end, prefix_len, prefix_len-le-length, prefix_len_passes, prefix_len_stops, quoted_front, quoted_step, skip}
use Rattle.std.proofs.lemmas.Str.{IsCharBoundary-before_ascii, IsCharBoundary-after_ascii, IsCharBoundary-end, IsCharBoundary-start, inside_one, encode_ascii, length-encode, len_utf8_bounds}
use lib.Utf8.{encode}
use denote.Ref.{Bor}
use Rattle.patr_model.proofs.Spelling.{skip_back}

-- ---- one character at the front

pub behind_is : (c : ℕ) (bs : List ℕ) (r : Option (Bor (List ℕ))) → MatchOption r ((rest : List ℕ) → bs ≢ c ∷ rest) (λ x. bs ≡ c ∷ x.now) → option_copied r ≡ skip (c ∷ []) bs
behind_is c [] None h = refl
behind_is c (b ∷ bs) None h = go (nat_eq c b) refl
  where
    go : (t : Bool) → nat_eq c b ≡ t → None ≡ cond t (Some bs) None
    go true e = absurd (h bs (ap (λ x. x ∷ bs) (sym (eqb-true c b e))))
    go false e = refl
behind_is c bs (Some x) h = sym (ap (skip (c ∷ [])) h ∙ skip_back (c ∷ []) x.now)

pub skip_two : (c d : ℕ) (bs rest : List ℕ) (o : Option (List ℕ)) → Some rest ≡ skip (c ∷ []) bs → o ≡ skip (d ∷ []) rest → o ≡ skip (c ∷ d ∷ []) bs
skip_two c d [] rest o h k = cc
skip_two c d (b ∷ bs) rest o h k = go (nat_eq c b) h
  where
    go : (t : Bool) → Some rest ≡ cond t (Some bs) None → o ≡ cond t (skip (d ∷ []) bs) None
    go true e = let same : rest ≡ bs = cc in k ∙ ap (skip (d ∷ [])) same
    go false e = cc

pub skip_none : (c d : ℕ) (bs : List ℕ) → None ≡ skip (c ∷ []) bs → None ≡ skip (c ∷ d ∷ []) bs
skip_none c d [] h = refl
skip_none c d (b ∷ bs) h = go (nat_eq c b) h
  where
    go : (t : Bool) → None ≡ cond t (Some bs) None → None ≡ cond t (skip (d ∷ []) bs) None
    go true e = cc
    go false e = refl

-- ---- texts without quotes

abbrev goes : ℕ → Bool
goes b = not (is_end b)

pub bare_is : (bs : List ℕ) → bare_front bs ≡ record { it = take (prefix_len goes bs) bs; rest = drop (prefix_len goes bs) bs }
bare_is [] = refl
bare_is (b ∷ bs) = go (is_end b) (bare_is bs)
  where
    n : ℕ
    n = prefix_len goes bs

    go : (t : Bool) → bare_front bs ≡ record { it = take n bs; rest = drop n bs }
        → bare_step t b bs (bare_front bs) ≡ record { it = take (cond (not t) (1 + n) 0) (b ∷ bs); rest = drop (cond (not t) (1 + n) 0) (b ∷ bs) }
    go true e = refl
    go false e =
        let more : suc n ≡ 1 + n = omega arith in
        ap (changed (λ t. b ∷ t)) e ∙ ap (λ k. record { it = take k (b ∷ bs); rest = drop k (b ∷ bs) }) more

end_is_ascii : (b : ℕ) → not (is_end b) ≡ false → b < 128
end_is_ascii b h = go (nat_eq b 32) refl (nat_eq b 58) refl (nat_eq b 93) refl h
  where
    go : (x : Bool) → nat_eq b 32 ≡ x → (y : Bool) → nat_eq b 58 ≡ y → (z : Bool) → nat_eq b 93 ≡ z → not (x || y || z) ≡ false → b < 128
    go true e y f z g k = let s = eqb-true b 32 e in omega (arith, s)
    go false e true f z g k = let s = eqb-true b 58 f in omega (arith, s)
    go false e false f true g k = let s = eqb-true b 93 g in omega (arith, s)
    go false e false f false g k = absurd (true≢false k)

pub bare_boundary : (bs : List ℕ) → IsUtf8 bs → IsCharBoundary bs (prefix_len goes bs)
bare_boundary bs u = go (nat_lt (prefix_len goes bs) (length bs)) refl
  where
    go : (t : Bool) → nat_lt (prefix_len goes bs) (length bs) ≡ t → IsCharBoundary bs (prefix_len goes bs)
    go true e =
        let lt = ltb-true (prefix_len goes bs) (length bs) e in
        IsCharBoundary-before_ascii bs (prefix_len goes bs) lt (end_is_ascii (get_or bs (prefix_len goes bs) 0) (prefix_len_stops goes bs 0 lt))
    go false e =
        let le = prefix_len-le-length goes bs in
        let no : prefix_len goes bs < length bs → ⊥ = λ lt. true≢false (sym (lt-ltb (prefix_len goes bs) (length bs) lt) ∙ e) in
        subst (IsCharBoundary bs) (omega (arith, le, no)) (IsCharBoundary-end bs)

-- ---- numbers

pub digit_range : (b : ℕ) → is_digit b ≡ true → (48 ≤ b) × (b < 58)
digit_range b h = go (nat_lt 47 b) refl (nat_lt b 58) refl h
  where
    go : (x : Bool) → nat_lt 47 b ≡ x → (y : Bool) → nat_lt b 58 ≡ y → (x && y) ≡ true → (48 ≤ b) × (b < 58)
    go true e true f k = let l = ltb-true 47 b e in let m = ltb-true b 58 f in (omega (arith, l), m)
    go true e false f k = absurd (true≢false (sym k))
    go false e y f k = absurd (true≢false (sym k))

pub digits_boundary : (bs : List ℕ) → IsUtf8 bs → IsCharBoundary bs (prefix_len is_digit bs)
digits_boundary bs u = go (prefix_len is_digit bs) refl
  where
    go : (n : ℕ) → prefix_len is_digit bs ≡ n → IsCharBoundary bs n
    go zero e = IsCharBoundary-start bs u
    go (suc n) e =
        let le = prefix_len-le-length is_digit bs in
        let d = digit_range (get_or bs n 0) (prefix_len_passes is_digit bs n 0 (omega (arith, e))) in
        let b = IsCharBoundary-after_ascii bs n u (omega (arith, e, le)) (omega (arith, d.1)) in
        let s : n + 1 ≡ suc n = omega arith in
        subst (IsCharBoundary bs) s b

pub digits_split : (bs : List ℕ) (k : ℕ) → digits_front bs k ≡ record { it = (digits_front (take (prefix_len is_digit bs) bs) k).it; rest = drop (prefix_len is_digit bs) bs }
digits_split [] k = refl
digits_split (b ∷ bs) k = go (is_digit b) refl (digits_split bs (k * 10 + (b - 48)))
  where
    n : ℕ
    n = prefix_len is_digit bs

    m : ℕ
    m = k * 10 + (b - 48)

    go : (t : Bool) → is_digit b ≡ t → digits_front bs m ≡ record { it = (digits_front (take n bs) m).it; rest = drop n bs }
        → digits_step t k (b ∷ bs) (digits_front bs m) ≡ record { it = (digits_front (take (cond t (1 + n) 0) (b ∷ bs)) k).it; rest = drop (cond t (1 + n) 0) (b ∷ bs) }
    go true e h =
        let more : suc n ≡ 1 + n = omega arith in
        h ∙ (ap (λ t. record { it = (digits_step t k (b ∷ take n bs) (digits_front (take n bs) m)).it; rest = drop n bs }) (sym e)
        ∙ ap (λ j. record { it = (digits_front (take j (b ∷ bs)) k).it; rest = drop j (b ∷ bs) }) more)
    go false e h = refl

pub digits_all : (bs : List ℕ) → prefix_len is_digit (take (prefix_len is_digit bs) bs) ≡ length (take (prefix_len is_digit bs) bs)
digits_all [] = refl
digits_all (b ∷ bs) = go (is_digit b) refl (digits_all bs)
  where
    n : ℕ
    n = prefix_len is_digit bs

    go : (t : Bool) → is_digit b ≡ t → prefix_len is_digit (take n bs) ≡ length (take n bs)
        → prefix_len is_digit (take (cond t (1 + n) 0) (b ∷ bs)) ≡ length (take (cond t (1 + n) 0) (b ∷ bs))
    go true e h =
        let more : suc n ≡ 1 + n = omega arith in
        let plus : 1 + length (take n bs) ≡ suc (length (take n bs)) = omega arith in
        subst (λ j. prefix_len is_digit (take j (b ∷ bs)) ≡ length (take j (b ∷ bs))) more
        (ap (λ t. cond t (1 + prefix_len is_digit (take n bs)) 0) e ∙ (ap (λ j. 1 + j) h ∙ plus))
    go false e h = refl

pub digit_step : (bs : List ℕ) (i k d : ℕ) → i < length bs → is_digit (get_or bs i d) ≡ true → digits_front (drop i bs) k ≡ digits_front (drop (i + 1) bs) (k * 10 + (get_or bs i d - 48))
digit_step bs i k d lt h =
    let b = get_or bs i d in
    ap (λ l. digits_front l k) (drop_more bs i d lt) ∙ ap (λ t. digits_step t k (b ∷ drop (i + 1) bs) (digits_front (drop (i + 1) bs) (k * 10 + (b - 48)))) h

pub digits_grow : (bs : List ℕ) (k : ℕ) → k ≤ (digits_front bs k).it
digits_grow [] k = omega arith
digits_grow (b ∷ bs) k = go (is_digit b) (digits_grow bs (k * 10 + (b - 48)))
  where
    go : (t : Bool) → k * 10 + (b - 48) ≤ (digits_front bs (k * 10 + (b - 48))).it → k ≤ (digits_step t k (b ∷ bs) (digits_front bs (k * 10 + (b - 48)))).it
    go true h = omega (arith, h)
    go false h = omega arith

-- ---- texts between quotes

unchanged : (o : Option (Front (List ℕ))) → o ≡ option_map (changed (λ t. t)) o
unchanged None = refl
unchanged (Some f) = refl

twice : (xs ys : List ℕ) (o : Option (Front (List ℕ))) → option_map (changed (λ t. xs ++ t)) (option_map (changed (λ t. ys ++ t)) o) ≡ option_map (changed (λ t. (xs ++ ys) ++ t)) o
twice xs ys None = refl
twice xs ys (Some f) = ap (λ t. Some (record { it = t; rest = f.rest })) (sym (append_assoc xs ys f.it))

-- bytes that are neither a quote nor a backslash stand for themselves
plain_front : (bs r : List ℕ) → ((k : ℕ) → k < length bs → (get_or bs k 0 ≢ 34) × (get_or bs k 0 ≢ 92)) → quoted_front (bs ++ r) false ≡ option_map (changed (λ t. bs ++ t)) (quoted_front r false)
plain_front [] r h = unchanged (quoted_front r false)
plain_front (b ∷ bs) r h = go (nat_eq b 34) refl (nat_eq b 92) refl (plain_front bs r (λ k l. h (suc k) (omega (arith, l))))
  where
    go : (p : Bool) → nat_eq b 34 ≡ p → (q : Bool) → nat_eq b 92 ≡ q → quoted_front (bs ++ r) false ≡ option_map (changed (λ t. bs ++ t)) (quoted_front r false)
        → quoted_step p q b (bs ++ r) (quoted_front (bs ++ r)) ≡ option_map (changed (λ t. b ∷ (bs ++ t))) (quoted_front r false)
    go true e q f m = absurd ((h 0 (omega arith)).0 (eqb-true b 34 e))
    go false e true f m = absurd ((h 0 (omega arith)).1 (eqb-true b 92 f))
    go false e false f m = ap (option_map (changed (λ t. b ∷ t))) m ∙ twice (b ∷ []) bs (quoted_front r false)

pub char_plain : (c : ℕ) (r : List ℕ) → c ≢ 34 → c ≢ 92 → quoted_front (encode c ++ r) false ≡ option_map (changed (λ t. encode c ++ t)) (quoted_front r false)
char_plain c r p q = plain_front (encode c) r (λ k h. (λ e. p (inside_one c [] (encode c) k (sym (append-nil (encode c))) h (omega (arith, e)) ∙ e), λ e. q (inside_one c [] (encode c) k (sym (append-nil (encode c))) h (omega (arith, e)) ∙ e)))

-- behind a backslash a character stands for itself: no byte behind its first is a quote or a backslash
pub char_escaped : (c : ℕ) (r : List ℕ) → quoted_front (encode c ++ r) true ≡ option_map (changed (λ t. encode c ++ t)) (quoted_front r false)
char_escaped c r = go (encode c) refl
  where
    later : (b : ℕ) (bs : List ℕ) (k d : ℕ) → encode c ≡ b ∷ bs → k < length bs → d < 128 → get_or bs k 0 ≡ d → ⊥
    later b bs k d e h lt g =
        let is : c ≡ get_or (encode c) (suc k) 0 = inside_one c [] (encode c) (suc k) (sym (append-nil (encode c))) (subst (λ l. suc k < length l) (sym e) (omega (arith, h))) (subst (λ l. get_or l (suc k) 0 < 128) (sym e) (omega (arith, g, lt))) in
        let low : c < 128 = omega (arith, is, subst (λ l. get_or l (suc k) 0 < 128) (sym e) (omega (arith, g, lt))) in
        let one = ap length (sym (encode_ascii c low) ∙ e) in
        omega (arith, one, h)

    go : (l : List ℕ) → encode c ≡ l → quoted_front (l ++ r) true ≡ option_map (changed (λ t. l ++ t)) (quoted_front r false)
    go [] e = let some = len_utf8_bounds c in let len = length-encode c in let none = ap length e in absurd (omega (arith, some.0, len, none))
    go (b ∷ bs) e =
        ap (option_map (changed (λ t. b ∷ t))) (plain_front bs r (λ k h. (later b bs k 34 e h (omega arith), later b bs k 92 e h (omega arith)))) ∙ twice (b ∷ []) bs (quoted_front r false)

-- one step of what is read so far
pub unquoted_more : (out rest next new c : List ℕ) (e : Bool) (all : Option (Front (List ℕ))) → all ≡ option_map (changed (λ t. out ++ t)) (quoted_front rest e)
    → quoted_front rest e ≡ option_map (changed (λ t. c ++ t)) (quoted_front next false) → new ≡ out ++ c → all ≡ option_map (changed (λ t. new ++ t)) (quoted_front next false)
unquoted_more out rest next new c e all h step is = h ∙ (ap (option_map (changed (λ t. out ++ t))) step ∙ (twice out c (quoted_front next false) ∙ ap (λ n. option_map (changed (λ t. n ++ t)) (quoted_front next false)) (sym is)))

pub unquoted_start : (out bs : List ℕ) → out ≡ [] → quoted_front bs false ≡ option_map (changed (λ t. out ++ t)) (quoted_front bs false)
unquoted_start out bs e = unchanged (quoted_front bs false) ∙ ap (λ n. option_map (changed (λ t. n ++ t)) (quoted_front bs false)) (sym e)
