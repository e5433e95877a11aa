-- Tables of texts that grow.
use Rattle.std.proofs.Common.{ℕ, List, [], ◌∷◌, ◌++◌}
use Rattle.patr_model.proofs.RenamedVariants.{each_append}
use Rattle.patr_grammar.proofs.Names.{Each, Extends, IsLexeme, Lexeme, Token, text_still}

-- ---- lists whose members belong together

pub each_push : {X Y : Type 0} (R : X → Y → Type 0) (xs : List X) (ys : List Y) (x : X) (y : Y) → Each R xs ys → R x y → Each R (xs ++ x ∷ []) (ys ++ y ∷ [])
each_push R xs ys x y h r = each_append R xs (x ∷ []) ys (y ∷ []) h (r, tt)

pub each_still : {X Y : Type 0} (R S : X → Y → Type 0) → ((x : X) (y : Y) → R x y → S x y) → (xs : List X) (ys : List Y) → Each R xs ys → Each S xs ys
each_still R S f [] [] h = tt
each_still R S f [] (b ∷ ys) h = absurd h
each_still R S f (a ∷ xs) [] h = absurd h
each_still R S f (a ∷ xs) (b ∷ ys) h = (f a b h.0, each_still R S f xs ys h.1)

-- ---- what holds by a table holds by one that extends it

pub lexeme_still : (old new : List (List ℕ)) → Extends old new → (l : Lexeme) (t : Token) → IsLexeme old l t → IsLexeme new l t
lexeme_still old new e l t h = record { kind = h.kind; key = h.key; word = text_still old new e l.word.0 _ h.word; category = text_still old new e l.category.0 _ h.category; place = h.place }

pub lexemes_still : (old new : List (List ℕ)) → Extends old new → (ls : List Lexeme) (ts : List Token) → Each (IsLexeme old) ls ts → Each (IsLexeme new) ls ts
lexemes_still old new e = each_still (IsLexeme old) (IsLexeme new) (lexeme_still old new e)
