-- The variants of right sides: counted, and taken one constituent after another.
use Rattle.std.proofs.Common.{◌≡◌, ℕ, zero, suc, ◌+◌, ◌*◌, ◌/◌, ◌%◌, ◌<◌, ◌≤◌, List, [], ◌∷◌, ◌++◌, map, take, drop, length, get_or, Vec, Global, refl, sym, ap, ◌∙◌, subst, arith, append_assoc, append-nil}
use Rattle.patr_model.specs.Grammar.{Row, single, variants, variants_of}
use Rattle.patr_model.specs.Productions.{SymbolText, Single, Choice, Option', in_front, row, rows}
use Rattle.patr_text.specs.declared.symbols.Id.{Id}
use Rattle.patr_grammar.specs.declared.grammar.SymbolText as code
use Rattle.patr_grammar.specs.declared.grammar.Item.{Item}
use Rattle.patr_grammar.specs.declared.grammar.Item.TheVariants as item
use Rattle.patr_grammar.specs.Levels.{item_seen, right_seen, symbol_seen}
use Rattle.patr_grammar.proofs.Levels.{symbol_level, optional_level, choice_level}
use Rattle.patr_expand.specs.Seen.{rights_seen, symbols_seen}
use Rattle.patr_expand.specs.Sizes.{capped, item_variants}
use Rattle.patr_expand.specs.Frames.{IsPlace, variant_at}
use Rattle.patr_expand.proofs.Rows.{capped_product, row_length, rows_length}
use Rattle.patr_expand.proofs.Written.{map_more}
use Rattle.patr_expand.proofs.Parts.{AreParts, parts}

-- ---- items

pub symbol_variants : (s : code.SymbolText) → item_variants (item_seen (item.Symbol s)) ≡ (symbol_seen s ∷ []) ∷ []
symbol_variants s = ap item_variants (symbol_level s)

pub optional_variants : (vs : Vec (Vec Item Global) Global) → item_variants (item_seen (item.Optional vs)) ≡ variants_of single (rights_seen vs.items) ++ [] ∷ []
optional_variants vs = ap item_variants (optional_level vs)

pub choice_variants : (vs : Vec (Vec Item Global) Global) → item_variants (item_seen (item.OneOf vs)) ≡ variants_of single (rights_seen vs.items)
choice_variants vs = ap item_variants (choice_level vs)

-- ---- counts, with one more at the end

pub right_more : (items : List Item) (i : ℕ) (x : Item) (a b c : ℕ) → i < length items → get_or items i x ≡ x → a ≡ capped (length (variants single (right_seen (take i items)))) → b ≡ capped (length (item_variants (item_seen x))) → c ≡ capped (a * b)
    → c ≡ capped (length (variants single (right_seen (take (i + 1) items))))
right_more items i x a b c lt is h k e =
    e ∙ (λ i. capped (h i * k i)) ∙ capped_product (length (variants single (right_seen (take i items)))) (length (item_variants (item_seen x)))
    ∙ ap capped (sym (ap (λ xs. length (variants single (row xs))) (map_more item_seen items i x lt is) ∙ row_length (map item_seen (take i items)) (item_seen x)))

abbrev alternative : Vec Item Global → Row (SymbolText Id)
alternative v = right_seen v.items

capped_sum : (a b : ℕ) → capped (capped a + capped b) ≡ capped (a + b)
capped_sum a b = omega arith

pub rights_more : (vs : List (Vec Item Global)) (i : ℕ) (v : Vec Item Global) (a b c : ℕ) → i < length vs → get_or vs i v ≡ v → a ≡ capped (length (variants_of single (rights_seen (take i vs)))) → b ≡ capped (length (variants single (right_seen v.items))) → c ≡ capped (a + b)
    → c ≡ capped (length (variants_of single (rights_seen (take (i + 1) vs))))
rights_more vs i v a b c lt is h k e =
    e ∙ (λ i. capped (h i + k i)) ∙ capped_sum (length (variants_of single (rights_seen (take i vs)))) (length (variants single (right_seen v.items)))
    ∙ ap capped (sym (ap (λ rs. length (variants_of single (rows rs))) (map_more alternative vs i v lt is) ∙ rows_length (map alternative (take i vs)) (alternative v)))

-- ---- the constituents of a variant

-- behind those that were found come those of what is left
pub record IsTail (items left : List Item) (start found : List code.SymbolText) (number count m : ℕ) : Type 0 where
  pub place : IsPlace (right_seen left) count m
  pub same : symbols_seen found ++ variant_at (right_seen left) m ≡ symbols_seen start ++ variant_at (right_seen items) number

pub drop_here : {X : Type 0} (xs : List X) (i : ℕ) (x : X) → i < length xs → get_or xs i x ≡ x → drop i xs ≡ x ∷ drop (i + 1) xs
drop_here {X = X} xs i x lt is = go xs i lt is ∙ ap (λ n. x ∷ drop n xs) (next i)
  where
    next : (i : ℕ) → suc i ≡ i + 1
    next i = omega arith

    go : (xs : List X) (i : ℕ) → i < length xs → get_or xs i x ≡ x → drop i xs ≡ x ∷ drop (suc i) xs
    go [] i lt is = absurd (omega (arith, lt))
    go (y ∷ xs) zero lt is = ap (λ y. y ∷ xs) is
    go (y ∷ xs) (suc i) lt is = go xs i (omega (arith, lt)) is

module _ (items : List Item) (start found : List code.SymbolText) (number count m : ℕ) (i : ℕ) (x : Item) (lt : i < length items) (is : get_or items i x ≡ x) (h : IsTail items (drop i items) start found number count m) where
  front : right_seen (drop i items) ≡ in_front (item_seen x) (right_seen (drop (i + 1) items))
  front = ap right_seen (drop_here items i x lt is)

  pub tail_parts : (size : ℕ) → size ≡ capped (length (item_variants (item_seen x))) → AreParts (item_seen x) (right_seen (drop (i + 1) items)) count m size
  tail_parts size e = parts (item_seen x) (right_seen (drop (i + 1) items)) count m size (subst (λ r. IsPlace r count m) front h.place) e

  pub tail_more : (size : ℕ) (more : List code.SymbolText) → size ≡ capped (length (item_variants (item_seen x))) → symbols_seen more ≡ symbols_seen found ++ get_or (item_variants (item_seen x)) (m / (count / size)) []
      → IsTail items (drop (i + 1) items) start more number (count / size) (m % (count / size))
  tail_more size more e k =
      let p = tail_parts size e in
      record {
        place = p.behind;
        same =
            ap (λ l. l ++ variant_at (right_seen (drop (i + 1) items)) (m % (count / size))) k ∙ append_assoc (symbols_seen found) (get_or (item_variants (item_seen x)) (m / (count / size)) []) (variant_at (right_seen (drop (i + 1) items)) (m % (count / size)))
            ∙ ap (λ l. symbols_seen found ++ l) (p.same ∙ ap (λ r. variant_at r m) (sym front)) ∙ h.same;
      }

-- ---- where one variant has nothing in it

empty_only : {X : Type 0} (n : ℕ) → get_or {A = List X} ([] ∷ []) n [] ≡ []
empty_only zero = refl
empty_only (suc n) = refl

pub with_none : {X : Type 0} (vs : List (List X)) (n : ℕ) → get_or (vs ++ [] ∷ []) n [] ≡ get_or vs n []
with_none [] n = empty_only n
with_none (v ∷ vs) zero = refl
with_none (v ∷ vs) (suc n) = with_none vs n

pub only_first : {X : Type 0} (v : List X) (n : ℕ) → n < 1 → get_or (v ∷ []) n [] ≡ v
only_first v zero h = refl
only_first v (suc n) h = absurd (omega (arith, h))

-- nothing is left
pub tail_end : (items : List Item) (start found : List code.SymbolText) (number count m : ℕ) → IsTail items [] start found number count m → symbols_seen found ≡ symbols_seen start ++ variant_at (right_seen items) number
tail_end items start found number count m h = sym (append-nil (symbols_seen found)) ∙ ap (λ l. symbols_seen found ++ l) (sym (empty_only m)) ∙ h.same
