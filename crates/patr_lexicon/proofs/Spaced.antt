-- The words and the text of pieces of a field, piece by piece.
use Rattle.std.proofs.Common.{◌≡◌, ℕ, Bool, true, false, cond, List, [], ◌∷◌, ◌++◌, refl, sym, ap, ◌∙◌, append_assoc, append-nil}
use Rattle.patr_lexicon.proofs.Names.{Cut, cut_at, pieces, without_empty, is_blank, words_of, trimmed, spaced, words_in, text_in}
use Rattle.patr_model.specs.LexiconLines.{Piece}

pub without_append : (xs ys : List (List ℕ)) → without_empty (xs ++ ys) ≡ without_empty xs ++ without_empty ys
without_append [] ys = refl
without_append ([] ∷ xs) ys = without_append xs ys
without_append ((b ∷ bs) ∷ xs) ys = ap (λ l. (b ∷ bs) ∷ l) (without_append xs ys)

abbrev onto : ℕ → Cut → Cut
onto b c = record { first = b ∷ c.first; rest = c.rest }

abbrev ended : Cut → Cut
ended c = record { first = []; rest = c.first ∷ c.rest }

-- a cut, and then a cut behind the byte that ends it
abbrev two : Cut → Cut → Cut
two c d = record { first = c.first; rest = c.rest ++ d.first ∷ d.rest }

two_by : (t : Bool) (b : ℕ) (c d : Cut) → cond t (ended (two c d)) (onto b (two c d)) ≡ two (cond t (ended c) (onto b c)) d
two_by true b c d = refl
two_by false b c d = refl

cut_two : (xs ys : List ℕ) → cut_at is_blank (xs ++ 32 ∷ ys) ≡ two (cut_at is_blank xs) (cut_at is_blank ys)
cut_two [] ys = refl
cut_two (b ∷ xs) ys = ap (λ c. cond (is_blank b) (ended c) (onto b c)) (cut_two xs ys) ∙ two_by (is_blank b) b (cut_at is_blank xs) (cut_at is_blank ys)

-- a space stands between words
words_two : (xs ys : List ℕ) → words_of (xs ++ 32 ∷ ys) ≡ words_of xs ++ words_of ys
words_two xs ys = ap (λ (c : Cut). without_empty (c.first ∷ c.rest)) (cut_two xs ys) ∙ without_append (pieces is_blank xs) (pieces is_blank ys)

words_spaced : (xs ys : List ℕ) → words_of (spaced xs ys) ≡ words_of xs ++ words_of ys
words_spaced [] ys = refl
words_spaced (b ∷ xs) [] = sym (append-nil (words_of (b ∷ xs)))
words_spaced (b ∷ xs) (c ∷ ys) = words_two (b ∷ xs) (c ∷ ys)

-- the words of the text of pieces are those of the pieces
pub words_of_text : (ps : List Piece) → words_of (text_in ps) ≡ words_in ps
words_of_text [] = refl
words_of_text (p ∷ ps) = words_spaced (trimmed p.text) (text_in ps) ∙ ap (λ l. words_of (trimmed p.text) ++ l) (words_of_text ps)

pub spaced_none : (xs : List ℕ) → spaced xs [] ≡ xs
spaced_none [] = refl
spaced_none (b ∷ xs) = refl

pub spaced_twice : (xs ys zs : List ℕ) → spaced (spaced xs ys) zs ≡ spaced xs (spaced ys zs)
spaced_twice [] ys zs = refl
spaced_twice (b ∷ xs) [] zs = refl
spaced_twice (b ∷ xs) (c ∷ ys) [] = refl
spaced_twice (b ∷ xs) (c ∷ ys) (d ∷ zs) = append_assoc (b ∷ xs) (32 ∷ c ∷ ys) (32 ∷ d ∷ zs)
