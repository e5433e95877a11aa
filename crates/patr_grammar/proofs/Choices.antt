-- Choices in braces: what their productions give.
use Rattle.std.proofs.Common.{◌≡◌, ℕ, zero, suc, ◌-◌, Bool, true, false, cond, List, [], ◌∷◌, refl, sym, ap, ◌∙◌, arith}
use Rattle.patr_model.specs.declared.lookahead.Kind.TheVariants.{Slash}
use Rattle.patr_model.specs.declared.notation.What.TheVariants as what
use Rattle.patr_model.specs.Parsing.{TooDeep, maybe, plus}
use Rattle.patr_model.specs.Productions.{Choice, alternative, choices, rows}
use Rattle.patr_grammar.proofs.Names.{CloseBrace, Got, Id, Item, Lexeme, OpenBrace, Parse, Reads, Row, Rows, Stops, ◌>>=◌, as_item, begins, braced, by_id, is_kind, one, onto, star}
use Rattle.patr_grammar.proofs.Loops.{reads}
use Rattle.patr_grammar.proofs.Forms.{passes}

module _ {X : Type 0} (starts : List Lexeme → Bool) (single : Reads Lexeme Id X) where
  pub braced_single : (n : ℕ) (ts : List Lexeme) → begins (is_kind by_id OpenBrace) ts ≡ false → braced by_id n true starts single ts ≡ as_item single ts
  unfolding braced
  braced_single zero ts h = rw h refl
  braced_single (suc n) ts h = rw h refl

  pub braced_deep : (n : ℕ) (ts : List Lexeme) → n ≡ 0 → begins (is_kind by_id OpenBrace) ts ≡ true → braced by_id n true starts single ts ≡ Stops TooDeep ts
  unfolding braced
  braced_deep zero ts none h = rw h refl
  braced_deep (suc n) ts none h = absurd (omega arith)

  pub braced_choice : (n : ℕ) (ts : List Lexeme) → (n ≡ 0 → ⊥) → begins (is_kind by_id OpenBrace) ts ≡ true
      → braced by_id n true starts single ts ≡ (choices by_id starts (braced by_id (n - 1) true starts single) (is_kind by_id CloseBrace) what.CloseBrace (maybe (is_kind by_id OpenBrace) ts) >>= λ rs ts. Got (Choice rs) ts)
  unfolding braced
  braced_choice zero ts some h = absurd (some refl)
  braced_choice (suc n) ts some h =
      let p = passes {W = Id} (is_kind by_id OpenBrace) what.Equation ts h in
      let e : suc n - 1 ≡ n = omega arith in
      ap (λ b. cond b (one (is_kind by_id OpenBrace) what.Equation ts >>= λ _ ts. inner n ts) (as_item single ts)) h ∙ ap (λ q. q >>= λ _ ts. inner n ts) p.1 ∙ ap (λ m. inner m (maybe (is_kind by_id OpenBrace) ts)) (sym e)
    where
      inner : ℕ → Reads Lexeme Id (Item X)
      inner n ts = choices by_id starts (braced by_id n true starts single) (is_kind by_id CloseBrace) what.CloseBrace ts >>= λ rs ts. Got (Choice rs) ts

-- ---- alternatives

module _ {X : Type 0} (starts : List Lexeme → Bool) (read : Reads Lexeme Id (Item X)) where
  -- an alternative behind a slash
  abbrev pub next : Reads Lexeme Id (Row X)
  next ts = one (is_kind by_id Slash) what.CloseBrace ts >>= λ _ ts. alternative by_id starts read ts

  abbrev pub nexts : ℕ → Reads Lexeme Id (List (Row X))
  nexts = reads (begins (is_kind by_id Slash)) next

  -- the rows of all alternatives
  abbrev pub all : Reads Lexeme Id (List (Row X))
  all ts = alternative by_id starts read ts >>= λ r ts. onto (r ∷ []) (star (begins (is_kind by_id Slash)) next ts)

  -- and then what closes them
  abbrev pub closed : List (Row X) → Reads Lexeme Id (Rows X)
  closed rs ts = one (is_kind by_id CloseBrace) what.CloseBrace ts >>= λ _ ts. Got (rows rs) ts

  pub choices_are : (ts : List Lexeme) → choices by_id starts read (is_kind by_id CloseBrace) what.CloseBrace ts ≡ (all ts >>= closed)
  choices_are ts = first (alternative by_id starts read ts)
    where
      others : (r : Row X) (p : Parse Lexeme Id (List Lexeme) (List (Row X))) → (p >>= λ rs ts. closed (r ∷ rs) ts) ≡ (onto (r ∷ []) p >>= closed)
      others r (Stops x ts) = refl
      others r (Got rs ts) = refl

      first : (p : Parse Lexeme Id (List Lexeme) (Row X)) → (p >>= λ r ts. star (begins (is_kind by_id Slash)) next ts >>= λ rs ts. closed (r ∷ rs) ts)
          ≡ ((p >>= λ r ts. onto (r ∷ []) (star (begins (is_kind by_id Slash)) next ts)) >>= closed)
      first (Stops x ts) = refl
      first (Got r ts) = others r (star (begins (is_kind by_id Slash)) next ts)

  pub next_is : (ts : List Lexeme) → begins (is_kind by_id Slash) ts ≡ true → next ts ≡ alternative by_id starts read (maybe (is_kind by_id Slash) ts)
  next_is ts h = let p = passes {W = Id} (is_kind by_id Slash) what.CloseBrace ts h in ap (λ q. q >>= λ _ ts. alternative by_id starts read ts) p.1

  -- things of which the first was read
  pub plus_is : (ts rest : List Lexeme) (x : Item X) → read ts ≡ Got x rest → plus starts read ts ≡ onto (x ∷ []) (star starts read rest)
  plus_is ts rest x e = ap (λ p. p >>= λ x rest. star starts read rest >>= λ xs rest'. Got (x ∷ xs) rest') e
