-- The first of some lexemes, as a pattern of the code takes it.
use Rattle.std.proofs.Common.{◌≡◌, ℕ, suc, ◌-◌, ◌≤◌, ◌<◌, List, [], ◌∷◌, length, get_or, take, drop, refl, sym, ap, ◌∙◌, arith, eqb, true, false}
use Rattle.std.proofs.Math.Seq.{take-length}
use Rattle.patr_grammar.proofs.Names.{Less, Lexeme, nat_tests}
use Rattle.patr_model.specs.declared.notation.Keyword.TheVariants.{Plain}

abbrev pub blank : Lexeme
blank = record { kind = Less; key = Plain; word = record { 0 = 0 }; category = record { 0 = 0 }; line = 0; column = 0 }

abbrev pub first : List Lexeme → Lexeme
first ts = get_or ts 0 blank

abbrev pub others : List Lexeme → List Lexeme
others ts = take (length ts - 1) (drop 1 ts)

pub cell : (ts : List Lexeme) → 1 ≤ length ts → ts ≡ first ts ∷ others ts
cell [] h = absurd (omega arith)
cell (t ∷ ts) h = let e : suc (length ts) - 1 ≡ length ts = omega arith in ap (λ (u : List Lexeme). t ∷ u) (sym (ap (λ (n : ℕ). take n ts) e ∙ take-length ts))

pub shorter_others : (ts : List Lexeme) → 1 ≤ length ts → length (others ts) < length ts
shorter_others ts h = omega (arith, ap length (cell ts h))

pub no_cell : (ts : List Lexeme) → length ts < 1 → ts ≡ []
no_cell [] h = refl
no_cell (t ∷ ts) h = absurd (omega arith)

pub some_left : (ts : List Lexeme) → eqb (length ts) 0 ≡ false → 1 ≤ length ts
some_left ts h = grind (arith, nat_tests)

pub none_left : (ts : List Lexeme) → eqb (length ts) 0 ≡ true → length ts ≡ 0
none_left ts h = grind (arith, nat_tests)
