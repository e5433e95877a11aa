-- Tokens, one after another: how many bytes they have, and what is made of each.
use Rattle.std.proofs.Common.{◌≡◌, ℕ, zero, suc, ◌+◌, ◌-◌, ◌≤◌, ◌<◌, List, [], ◌∷◌, length, map, take, drop, get_or, refl, sym, ap, ◌∙◌, arith, add-one}
use Rattle.std.proofs.Common.{◌++◌}
use Rattle.patr_grammar.proofs.Names.{Less, bytes_of, map_push, take_more}
use Rattle.patr_text.specs.declared.token.Token.{Token}

abbrev pub blank : Token
blank = record { kind = Less; start = 0; end = 0; line = 0; column = 0 }

abbrev pub len_of : Token → ℕ
len_of t = t.end - t.start

pub bytes_split : (ts : List Token) (n : ℕ) → bytes_of (take n ts) + bytes_of (drop n ts) ≡ bytes_of ts
bytes_split [] zero = refl
bytes_split [] (suc n) = refl
bytes_split (t ∷ ts) zero = omega arith
bytes_split (t ∷ ts) (suc n) = omega (arith, bytes_split ts n)

bytes_next : (ts : List Token) (n : ℕ) → n < length ts → bytes_of (take (suc n) ts) ≡ bytes_of (take n ts) + len_of (get_or ts n blank)
bytes_next [] n lt = absurd (omega arith)
bytes_next (t ∷ ts) zero lt = omega arith
bytes_next (t ∷ ts) (suc n) lt = omega (arith, bytes_next ts n (omega arith))

pub bytes_more : (ts : List Token) (n : ℕ) → n < length ts → bytes_of (take (n + 1) ts) ≡ bytes_of (take n ts) + len_of (get_or ts n blank)
bytes_more ts n lt = rw add-one (bytes_next ts n lt)

pub bytes_within : (ts : List Token) (n : ℕ) → n < length ts → bytes_of (take n ts) + len_of (get_or ts n blank) ≤ bytes_of ts
bytes_within ts n lt = omega (arith, bytes_more ts n lt, bytes_split ts (n + 1))

pub map_more : {X : Type 0} (f : Token → X) (ts : List Token) (n : ℕ) → n < length ts → map f (take n ts) ++ f (get_or ts n blank) ∷ [] ≡ map f (take (n + 1) ts)
map_more f ts n lt = sym (map_push f (take n ts) (get_or ts n blank)) ∙ ap (map f) (sym (take_more ts n blank lt))
