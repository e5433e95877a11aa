-- Right sides: what their productions give, and which symbols they have.
use Rattle.std.proofs.Common.{◌≡◌, ℕ, zero, suc, Bool, true, false, List, [], ◌∷◌, ◌++◌, map, refl, sym, ap, ◌∙◌, append_assoc, append-nil}
use Rattle.std.proofs.lemmas.List.{map-append}
use Rattle.patr_model.specs.declared.lookahead.Kind.TheVariants.{Slash, CloseParen}
use Rattle.patr_model.specs.declared.notation.What.TheVariants as what
use Rattle.patr_model.specs.Parsing.{maybe}
use Rattle.patr_model.specs.Productions as production
use Rattle.patr_model.specs.Productions.{Choice, Option', RightReads, in_front, plain, row_right, alts, rows, things, things_of}
use Rattle.patr_grammar.proofs.Names.{CloseBrace, Gathers, Got, Id, Item, Left, Lexeme, OpenBrace, OpenParen, Parse, Row, Rows, Stops, SymbolText, ◌>>=◌, begins, begins_right, by_id, group_right, is_kind, item, one, onto, row, star_right, symbol_item, symbols_in}
use Rattle.patr_grammar.proofs.Loops.{reads_right}
use Rattle.patr_grammar.proofs.Forms.{passes}

abbrev Items : Type 0 → Type 0
Items X = Parse Lexeme Id (Left Lexeme) X

-- ---- an item

grouped : {A B C Y : Type 0} (f : B → Y) (p : Items A) (q : RightReads by_id B) (r : RightReads by_id C)
    → (p >>= λ _ s. q s >>= λ b s. r s >>= λ _ s. Got (f b) s) ≡ ((p >>= λ _ s. q s >>= λ b s. r s >>= λ _ s. Got b s) >>= λ b s. Got (f b) s)
grouped {B = B} {C = C} {Y = Y} f (Stops x ts) q r = refl
grouped {B = B} {C = C} {Y = Y} f (Got a s) q r = inside (q s)
  where
    closed : (b : B) (p : Items C) → (p >>= λ _ s. Got (f b) s) ≡ ((p >>= λ _ s. Got b s) >>= λ b s. Got (f b) s)
    closed b (Stops x ts) = refl
    closed b (Got c s) = refl

    inside : (p : Items B) → (p >>= λ b s. r s >>= λ _ s. Got (f b) s) ≡ ((p >>= λ b s. r s >>= λ _ s. Got b s) >>= λ b s. Got (f b) s)
    inside (Stops x ts) = refl
    inside (Got b s) = closed b (r s)

pub item_optional : (n : ℕ) (s : Left Lexeme) → begins (is_kind by_id OpenParen) s.tokens ≡ true → item by_id true n s ≡ (group_right OpenParen CloseParen what.CloseParen n s >>= λ rs s. Got (Option' rs) s)
unfolding item
item_optional zero s h = rw h refl
item_optional (suc n) s h = rw h (grouped (λ rs. Option' rs) (plain by_id (one (is_kind by_id OpenParen) what.Symbol) s) (alts by_id (item by_id true n)) (plain by_id (one (is_kind by_id CloseParen) what.CloseParen)))

pub item_choice : (n : ℕ) (s : Left Lexeme) → begins (is_kind by_id OpenParen) s.tokens ≡ false → begins (is_kind by_id OpenBrace) s.tokens ≡ true → item by_id true n s ≡ (group_right OpenBrace CloseBrace what.CloseBrace n s >>= λ rs s. Got (Choice rs) s)
unfolding item
item_choice zero s g h = rw (g, h) refl
item_choice (suc n) s g h = rw (g, h) (grouped (λ rs. Choice rs) (plain by_id (one (is_kind by_id OpenBrace) what.Symbol) s) (alts by_id (item by_id true n)) (plain by_id (one (is_kind by_id CloseBrace) what.CloseBrace)))

pub item_symbol : (n : ℕ) (s : Left Lexeme) → begins (is_kind by_id OpenParen) s.tokens ≡ false → begins (is_kind by_id OpenBrace) s.tokens ≡ false → item by_id true n s ≡ symbol_item by_id s
unfolding item
item_symbol zero s g h = rw (g, h) refl
item_symbol (suc n) s g h = rw (g, h) refl

-- ---- alternatives

module _ (read : RightReads by_id (Item (SymbolText Id))) where
  -- an alternative behind a slash
  abbrev pub next : RightReads by_id (Row (SymbolText Id))
  next s = plain by_id (one (is_kind by_id Slash) what.Symbol) s >>= λ _ s. row_right by_id read s

  abbrev pub nexts : ℕ → RightReads by_id (List (Row (SymbolText Id)))
  nexts = reads_right (begins (is_kind by_id Slash)) next

  -- the rows of all alternatives
  abbrev pub all : RightReads by_id (List (Row (SymbolText Id)))
  all s = row_right by_id read s >>= λ r s. onto (r ∷ []) (star_right by_id (begins (is_kind by_id Slash)) next s)

  pub alts_are : (s : Left Lexeme) → alts by_id read s ≡ (all s >>= λ rs s. Got (rows rs) s)
  alts_are s = first (row_right by_id read s)
    where
      others : (r : Row (SymbolText Id)) (p : Items (List (Row (SymbolText Id)))) → (p >>= λ rs s. Got (rows (r ∷ rs)) s) ≡ (onto (r ∷ []) p >>= λ rs s. Got (rows rs) s)
      others r (Stops x ts) = refl
      others r (Got rs s) = refl

      first : (p : Items (Row (SymbolText Id))) → (p >>= λ r s. star_right by_id (begins (is_kind by_id Slash)) next s >>= λ rs s. Got (rows (r ∷ rs)) s)
          ≡ ((p >>= λ r s. onto (r ∷ []) (star_right by_id (begins (is_kind by_id Slash)) next s)) >>= λ rs s. Got (rows rs) s)
      first (Stops x ts) = refl
      first (Got r s) = others r (star_right by_id (begins (is_kind by_id Slash)) next s)

  pub next_is : (s : Left Lexeme) → begins (is_kind by_id Slash) s.tokens ≡ true → next s ≡ row_right by_id read (record { symbols = s.symbols; tokens = maybe (is_kind by_id Slash) s.tokens })
  next_is s h = let p = passes {W = Id} (is_kind by_id Slash) what.Symbol s.tokens h in ap (λ q. (q >>= λ x ts. Got x (record { symbols = s.symbols; tokens = ts })) >>= λ _ s. row_right by_id read s) p.1

  -- an alternative whose first item was read
  pub row_is : (s t : Left Lexeme) (x : Item (SymbolText Id)) → read s ≡ Got x t → row_right by_id read s ≡ (onto (x ∷ []) (star_right by_id (begins_right false) read t) >>= λ xs s. Got (row xs) s)
  row_is s t x e = ap (λ p. p >>= λ x s. star_right by_id (begins_right false) read s >>= λ xs s. Got (row (x ∷ xs)) s) e ∙ others (star_right by_id (begins_right false) read t)
    where
      others : (p : Items (List (Item (SymbolText Id)))) → (p >>= λ xs s. Got (row (x ∷ xs)) s) ≡ (onto (x ∷ []) p >>= λ xs s. Got (row xs) s)
      others (Stops r ts) = refl
      others (Got xs s) = refl

pub none_outside : begins_right true [] ≡ false
none_outside = refl

pub none_begins : (outside : Bool) → begins_right outside [] ≡ false
none_begins true = refl
none_begins false = refl

-- ---- symbols

abbrev symbols : List (SymbolText Id) → List Id
symbols xs = map (λ x. x.symbol) xs

things_push : (is : List (Item (SymbolText Id))) (i : Item (SymbolText Id)) → things (row (is ++ i ∷ [])) ≡ things (row is) ++ things (row (i ∷ []))
things_push [] i = refl
things_push (production.Single x ∷ is) i = ap (λ xs. x ∷ xs) (things_push is i)
things_push (Choice rs ∷ is) i = ap (λ xs. things_of rs ++ xs) (things_push is i) ∙ sym (append_assoc (things_of rs) (things (row is)) (things (row (i ∷ []))))
things_push (Option' rs ∷ is) i = ap (λ xs. things_of rs ++ xs) (things_push is i) ∙ sym (append_assoc (things_of rs) (things (row is)) (things (row (i ∷ []))))

things_of_push : (rs : List (Row (SymbolText Id))) (r : Row (SymbolText Id)) → things_of (rows (rs ++ r ∷ [])) ≡ things_of (rows rs) ++ things r
things_of_push [] r = append-nil (things r)
things_of_push (s ∷ rs) r = ap (λ xs. things s ++ xs) (things_of_push rs r) ∙ sym (append_assoc (things s) (things_of (rows rs)) (things r))

-- what was put behind what was put behind
pub gathers_more : (before between after xs ys zs : List Id) → zs ≡ xs ++ ys → Gathers before between xs → Gathers between after ys → Gathers before after zs
gathers_more before between after xs ys zs e g h = record {
  all = h.all ∙ ap (λ us. us ++ ys) g.all ∙ append_assoc before xs ys ∙ ap (λ us. before ++ us) (sym e);
  few = λ le. h.few (g.few le);
}

pub symbols_push : (is : List (Item (SymbolText Id))) (i : Item (SymbolText Id)) → symbols_in (is ++ i ∷ []) ≡ symbols_in is ++ symbols_in (i ∷ [])
symbols_push is i = ap symbols (things_push is i) ∙ map-append (λ (x : SymbolText Id). x.symbol) (things (row is)) (things (row (i ∷ [])))

pub symbols_push_row : (rs : List (Row (SymbolText Id))) (r : Row (SymbolText Id)) → symbols (things_of (rows (rs ++ r ∷ []))) ≡ symbols (things_of (rows rs)) ++ symbols (things r)
symbols_push_row rs r = ap symbols (things_of_push rs r) ∙ map-append (λ (x : SymbolText Id). x.symbol) (things_of (rows rs)) (things r)

-- the symbols of a choice alone
pub symbols_all : (rs : Rows (SymbolText Id)) → symbols (things_of rs ++ []) ≡ symbols (things_of rs)
symbols_all rs = ap symbols (append-nil (things_of rs))
