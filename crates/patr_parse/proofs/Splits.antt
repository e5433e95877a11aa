-- The words of a sentence, by its parts between spaces and theirs between tabs.
use Rattle.std.proofs.Common.{◌≡◌, ℕ, Bool, true, false, cond, ◌||◌, nat_eq, List, [], ◌∷◌, ◌++◌, length, flat_map, refl, sym, ap, ◌∙◌, arith, append_assoc, append-nil}
use Rattle.std.specs.List.{onto_first, slice_split}
use Rattle.std.proofs.lemmas.Grind.{flat_map-append}
use Rattle.patr_model.specs.Session.{Cut, cut_at, is_blank, pieces, without_empty, words_of}
use Rattle.patr_lexicon.proofs.Spaced.{without_append}
use Rattle.patr_parse.specs.Words.{between_tabs}

-- the pieces are the parts of a split
pieces_split : (test : ℕ → Bool) (bs : List ℕ) → pieces test bs ≡ slice_split test bs
pieces_split test [] = refl
pieces_split test (b ∷ bs) = go (test b) (pieces_split test bs)
  where
    go : (t : Bool) → pieces test bs ≡ slice_split test bs → (let c : Cut = cond t (record { first = []; rest = (cut_at test bs).first ∷ (cut_at test bs).rest }) (record { first = b ∷ (cut_at test bs).first; rest = (cut_at test bs).rest }) in c.first ∷ c.rest)
        ≡ cond t ([] ∷ slice_split test bs) (onto_first b (slice_split test bs))
    go true e = ap (λ l. [] ∷ l) e
    go false e = ap (onto_first b) e

split_cons : (test : ℕ → Bool) (bs : List ℕ) → (p : List ℕ) × (ps : List (List ℕ)) × (slice_split test bs ≡ p ∷ ps)
split_cons test bs = ((cut_at test bs).first, (cut_at test bs).rest, sym (pieces_split test bs))

first_append : (b : ℕ) (xs ys : List (List ℕ)) (p : List ℕ) (ps : List (List ℕ)) → xs ≡ p ∷ ps → onto_first b xs ++ ys ≡ onto_first b (xs ++ ys)
first_append b xs ys p ps e = ap (λ l. onto_first b l ++ ys) e ∙ sym (ap (λ l. onto_first b (l ++ ys)) e)

abbrev is_space : ℕ → Bool
is_space b = nat_eq b 32

abbrev is_tab : ℕ → Bool
is_tab b = nat_eq b 9

-- one more byte in front
cut_more : (x y : Bool) (b : ℕ) (S B : List (List ℕ)) (p : List ℕ) (ps : List (List ℕ)) → S ≡ p ∷ ps → flat_map (slice_split is_tab) S ≡ B → is_tab b ≡ y
    → flat_map (slice_split is_tab) (cond x ([] ∷ S) (onto_first b S)) ≡ cond (x || y) ([] ∷ B) (onto_first b B)
cut_more true y b S B p ps s e t = ap (λ l. [] ∷ l) e
cut_more false true b S B p ps s e t =
    ap (λ l. flat_map (slice_split is_tab) (onto_first b l)) s ∙ (ap (λ c. cond c ([] ∷ slice_split is_tab p) (onto_first b (slice_split is_tab p)) ++ flat_map (slice_split is_tab) ps) t
    ∙ ap (λ l. [] ∷ l) (sym (ap (flat_map (slice_split is_tab)) s) ∙ e))
cut_more false false b S B p ps s e t =
    let q = split_cons is_tab p in
    ap (λ l. flat_map (slice_split is_tab) (onto_first b l)) s ∙ (ap (λ c. cond c ([] ∷ slice_split is_tab p) (onto_first b (slice_split is_tab p)) ++ flat_map (slice_split is_tab) ps) t
    ∙ (first_append b (slice_split is_tab p) (flat_map (slice_split is_tab) ps) q.0 q.1 q.2 ∙ ap (onto_first b) (sym (ap (flat_map (slice_split is_tab)) s) ∙ e)))

-- cut at spaces, and the parts at tabs
cut_twice : (bs : List ℕ) → flat_map (slice_split is_tab) (slice_split is_space bs) ≡ slice_split is_blank bs
cut_twice [] = refl
cut_twice (b ∷ bs) =
    let s = split_cons is_space bs in
    cut_more (is_space b) (is_tab b) b (slice_split is_space bs) (slice_split is_blank bs) s.0 s.1 s.2 (cut_twice bs) refl

without_flat : (f : List ℕ → List (List ℕ)) (xs : List (List ℕ)) → without_empty (flat_map f xs) ≡ flat_map (λ x. without_empty (f x)) xs
without_flat f [] = refl
without_flat f (x ∷ xs) = without_append (f x) (flat_map f xs) ∙ ap (λ l. without_empty (f x) ++ l) (without_flat f xs)

pub words_by_parts : (bs : List ℕ) → flat_map between_tabs (slice_split (λ b. nat_eq b 32) bs) ≡ words_of bs
words_by_parts bs = sym (without_flat (slice_split is_tab) (slice_split is_space bs)) ∙ ap without_empty (cut_twice bs ∙ sym (pieces_split is_blank bs))

-- one more part
pub parts_more : (xs now : List (List ℕ)) (old : List (List ℕ)) (x : List ℕ) → old ≡ flat_map between_tabs xs → now ≡ old ++ between_tabs x → now ≡ flat_map between_tabs (xs ++ x ∷ [])
parts_more xs now old x is more = more ∙ (ap (λ l. l ++ between_tabs x) is ∙ (ap (λ l. flat_map between_tabs xs ++ l) (sym (append-nil (between_tabs x))) ∙ sym (flat_map-append between_tabs xs (x ∷ []))))

pub word_more : (head old now xs : List (List ℕ)) (x : List ℕ) → (length x ≡ 0 → ⊥) → old ≡ head ++ without_empty xs → now ≡ old ++ x ∷ [] → now ≡ head ++ without_empty (xs ++ x ∷ [])
word_more head old now xs [] some is more = absurd (some refl)
word_more head old now xs (b ∷ x) some is more = more ∙ (ap (λ l. l ++ (b ∷ x) ∷ []) is ∙ (append_assoc head (without_empty xs) ((b ∷ x) ∷ []) ∙ ap (λ l. head ++ l) (sym (without_append xs ((b ∷ x) ∷ [])))))

pub word_same : (head old xs : List (List ℕ)) (x : List ℕ) → length x ≡ 0 → old ≡ head ++ without_empty xs → old ≡ head ++ without_empty (xs ++ x ∷ [])
word_same head old xs [] none is = is ∙ ap (λ l. head ++ l) (sym (without_append xs ([] ∷ []) ∙ append-nil (without_empty xs)))
word_same head old xs (b ∷ x) none is = absurd (omega (arith, none))
