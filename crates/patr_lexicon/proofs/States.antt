-- Lines in front of what is left of a lexicon.
use Rattle.std.proofs.Common.{◌≡◌, ℕ, ◌+◌, ◌≤◌, List, [], ◌∷◌, ◌++◌, length, Result, Ok, Err, ◌⊎◌, inl, inr, Bor, refl, ap, ◌∙◌, arith}
use Rattle.patr_lexicon.proofs.Names.{Marker, Row, FeatureText, stage, State, Start, Skipped, Within, words_seen, record_seen, goes_on, ended_before, record_of, known_records, then_rest, from_record, some_words, some_text, most_texts}
use Rattle.patr_model.specs.declared.field.Marker.TheVariants as marker
use Rattle.patr_model.specs.LexiconLines.{Piece, Fields}
use Rattle.patr_model.specs.LexiconText.{EntryText, EntryFault, NoWord, SeveralWords, NoCategory, ◌>>=◌, gloss_of, features_of, entries, read_fields}
use Rattle.patr_lexicon.specs.Records.{Words, Empty, One, Several, Open, bytes_in, opened, with_field, with_pieces, with_fields, one_word, one_category, closed}
use Rattle.patr_lexicon.specs.declared.words.Words as code_words
use Rattle.patr_lexicon.specs.declared.words.Words.TheVariants as count
use Rattle.patr_lexicon.proofs.Records.{no_pieces, one_piece, a_field, category_begins, gloss_begins, features_begin, no_fields, entry_is}

-- a line of text
pub text_within : (m : Marker) (o : Open) (p : Piece) (fs : Fields) → from_record m o (record { pieces = p ∷ fs.pieces; fields = fs.fields }) ≡ from_record m (with_pieces o m (p ∷ [])) fs
text_within m o p fs = ap (λ x. then_rest (closed (with_fields x (known_records fs.fields).fields)) (entries stage (known_records fs.fields).records)) (one_piece o m p fs.pieces)

abbrev begun : Marker → ℕ → Piece → Fields → Fields
begun m n p fs = record { pieces = []; fields = a_field m n (p ∷ fs.pieces) ∷ fs.fields }

abbrev closes : Fields → Open → Result (List EntryText) EntryFault
closes fs o = then_rest (closed o) (entries stage (known_records fs.fields).records)

-- a line that begins a field
pub field_within : (m m' : Marker) (o : Open) (n : ℕ) (p : Piece) (fs : Fields) → (m' ≡ marker.Word → ⊥)
    → from_record m o (begun m' n p fs) ≡ from_record m' (with_pieces (with_field o m') m' (p ∷ [])) fs
field_within m marker.Word o n p fs other = absurd (other refl)
field_within m marker.Category o n p fs other =
    let os = (known_records fs.fields).fields in
    ap (λ x. closes fs (with_fields x (a_field marker.Category n (p ∷ fs.pieces) ∷ os))) (no_pieces o m)
    ∙ ap (closes fs) (category_begins o n (p ∷ fs.pieces) os ∙ ap (λ x. with_fields x os) (one_piece (with_field o marker.Category) marker.Category p fs.pieces))
field_within m marker.Gloss o n p fs other =
    let os = (known_records fs.fields).fields in
    ap (λ x. closes fs (with_fields x (a_field marker.Gloss n (p ∷ fs.pieces) ∷ os))) (no_pieces o m)
    ∙ ap (closes fs) (gloss_begins o n (p ∷ fs.pieces) os ∙ ap (λ x. with_fields x os) (one_piece (with_field o marker.Gloss) marker.Gloss p fs.pieces))
field_within m marker.Features o n p fs other =
    let os = (known_records fs.fields).fields in
    ap (λ x. closes fs (with_fields x (a_field marker.Features n (p ∷ fs.pieces) ∷ os))) (no_pieces o m)
    ∙ ap (closes fs) (features_begin o n (p ∷ fs.pieces) os ∙ ap (λ x. with_fields x os) (one_piece (with_field o marker.Features) marker.Features p fs.pieces))
field_within m marker.Other o n p fs other = ap (λ x. closes fs (with_fields x (known_records fs.fields).fields)) (no_pieces o m)

-- a line that begins a record
pub word_first : (n : ℕ) (p : Piece) (fs : Fields) → read_fields stage (begun marker.Word n p fs) ≡ from_record marker.Word (with_pieces (opened n) marker.Word (p ∷ [])) fs
word_first n p fs =
    let os = (known_records fs.fields).fields in
    ap (λ e. then_rest e (entries stage (known_records fs.fields).records)) (entry_is n (p ∷ fs.pieces) os)
    ∙ ap (λ x. closes fs (with_fields x os)) (one_piece (opened n) marker.Word p fs.pieces)

pub word_within : (m : Marker) (o : Open) (n : ℕ) (p : Piece) (fs : Fields)
    → from_record m o (begun marker.Word n p fs) ≡ then_rest (closed o) (from_record marker.Word (with_pieces (opened n) marker.Word (p ∷ [])) fs)
word_within m o n p fs =
    ap (λ x. then_rest (closed x) (read_fields stage (begun marker.Word n p fs))) (ap (λ x. with_fields x []) (no_pieces o m) ∙ no_fields o)
    ∙ ap (then_rest (closed o)) (word_first n p fs)

-- the end
pub end_within : (m : Marker) (o : Open) → from_record m o (record { pieces = []; fields = [] }) ≡ then_rest (closed o) (Ok [])
end_within m o = ap (λ x. then_rest (closed x) (Ok [])) (ap (λ x. with_fields x []) (no_pieces o m) ∙ no_fields o)

-- a known field before the first record
pub first_other : (m : Marker) (n : ℕ) (p : Piece) (fs : Fields) → (m ≡ marker.Word → ⊥) → (m ≡ marker.Other → ⊥) → read_fields stage (begun m n p fs) ≡ Err (NoWord n)
first_other marker.Word n p fs word other = absurd (word refl)
first_other marker.Category n p fs word other = refl
first_other marker.Gloss n p fs word other = refl
first_other marker.Features n p fs word other = refl
first_other marker.Other n p fs word other = absurd (other refl)

-- ---- states

pub before_record : (s : State) → (s ≡ Start) ⊎ (s ≡ Skipped) → (m : Marker) (n : ℕ) (p : Piece) (fs : Fields) → (m ≡ marker.Word → ⊥) → (m ≡ marker.Other → ⊥) → goes_on s (begun m n p fs) ≡ Err (NoWord n)
before_record s (inl e) m n p fs word other = rw e (first_other m n p fs word other)
before_record s (inr e) m n p fs word other = rw e (first_other m n p fs word other)

pub word_begins : (s : State) (n : ℕ) (p : Piece) (fs : Fields) → goes_on s (begun marker.Word n p fs) ≡ ended_before (record_of s) (from_record marker.Word (with_pieces (opened n) marker.Word (p ∷ [])) fs)
word_begins Start n p fs = word_first n p fs
word_begins Skipped n p fs = word_first n p fs
word_begins (Within m r) n p fs = word_within m (record_seen r) n p fs

-- nothing is left
pub ends : (s : State) → goes_on s (record { pieces = []; fields = [] }) ≡ ended_before (record_of s) (Ok [])
ends Start = refl
ends Skipped = refl
ends (Within m r) = end_within m (record_seen r)

-- ---- records that end

closed_by : Open → Words → Words → Result (Row (FeatureText (List ℕ))) EntryFault → Result EntryText EntryFault
closed_by o w c f = one_word o.line w >>= λ word. one_category o.line c >>= λ category. f >>= λ features. Ok (record { line = o.line; word = word; category = category; gloss = gloss_of o.gloss; features = features })

module _ (o : Open) where
  abbrev read : Result (Row (FeatureText (List ℕ))) EntryFault
  read = features_of stage o.features

  pub closed_empty : o.word ≡ Empty → closed o ≡ Err (NoWord o.line)
  unfolding closed_by
  closed_empty none = ap (λ w. closed_by o w o.category read) none

  pub closed_several : o.word ≡ Several → closed o ≡ Err (SeveralWords o.line)
  unfolding closed_by
  closed_several several = ap (λ w. closed_by o w o.category read) several

  none_fits : (w : List ℕ) (c : Words) → ((v : List ℕ) → c ≡ One v → ⊥) → closed_by o (One w) c read ≡ Err (NoCategory o.line)
  unfolding closed_by
  none_fits w Empty other = refl
  none_fits w (One v) other = absurd (other v refl)
  none_fits w Several other = refl

  pub closed_other : (w : List ℕ) → o.word ≡ One w → ((v : List ℕ) → o.category ≡ One v → ⊥) → closed o ≡ Err (NoCategory o.line)
  unfolding closed_by
  closed_other w word other = ap (λ w. closed_by o w o.category read) word ∙ none_fits w o.category other

  module _ (w v : List ℕ) (word : o.word ≡ One w) (category : o.category ≡ One v) where
    closed_as : (f : Result (Row (FeatureText (List ℕ))) EntryFault) → read ≡ f → closed o ≡ closed_by o (One w) (One v) f
    unfolding closed_by
    closed_as f is = ap (λ w. closed_by o w o.category read) word ∙ ap (λ c. closed_by o (One w) c read) category ∙ ap (closed_by o (One w) (One v)) is

    -- a record whose features stand for none
    pub closed_bad : (f : EntryFault) → read ≡ Err f → closed o ≡ Err f
    unfolding closed_by
    closed_bad f is = closed_as (Err f) is

    -- and one whose features are read
    pub closed_good : (r : Row (FeatureText (List ℕ))) → read ≡ Ok r → closed o ≡ Ok (record { line = o.line; word = w; category = v; gloss = gloss_of o.gloss; features = r })
    unfolding closed_by
    closed_good r is = closed_as (Ok r) is

seen_one : (c : code_words.Words) (v : List ℕ) → words_seen c ≡ One v → (x : Bor (List ℕ)) × (c ≡ count.One x)
seen_one count.Empty v h = absurd cc
seen_one (count.One x) v h = (x, refl)
seen_one count.Several v h = absurd cc

pub not_one : (c : code_words.Words) → ((x : Bor (List ℕ)) → c ≡ count.One x → ⊥) → (v : List ℕ) → words_seen c ≡ One v → ⊥
not_one c other v h = other (seen_one c v h).0 (seen_one c v h).1

-- ---- how many texts are still to be numbered

one_of_words : (w : Words) → some_words w ≤ 1
one_of_words Empty = omega arith
one_of_words (One w) = omega arith
one_of_words Several = omega arith

one_text : (t : List ℕ) → some_text t ≤ 1
one_text [] = omega arith
one_text (b ∷ bs) = omega arith

bytes_push : (ps : List Piece) (p : Piece) → bytes_in (ps ++ p ∷ []) ≡ bytes_in ps + length p.text
bytes_push [] p = omega arith
bytes_push (q ∷ ps) p = omega (arith, bytes_push ps p)

-- a piece brings no more texts than it has bytes, or one
pub most_with : (o : Open) (m : Marker) (p : Piece) (n : ℕ) → 1 ≤ n → length p.text ≤ n → most_texts (with_pieces o m (p ∷ [])) ≤ most_texts o + n
most_with o marker.Word p n one few = omega arith
most_with o marker.Category p n one few = omega (arith, one_of_words (with_pieces o marker.Category (p ∷ [])).category)
most_with o marker.Gloss p n one few = omega (arith, one_text (with_pieces o marker.Gloss (p ∷ [])).gloss)
most_with o marker.Features p n one few = omega (arith, bytes_push o.features p)
most_with o marker.Other p n one few = omega arith

pub most_begun : (o : Open) (m : Marker) → most_texts (with_field o m) ≤ most_texts o
most_begun o marker.Word = omega arith
most_begun o marker.Category = omega arith
most_begun o marker.Gloss = omega arith
most_begun o marker.Features = omega arith
most_begun o marker.Other = omega arith
