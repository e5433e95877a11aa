-- A record while it is read: what it becomes does not depend on how far it is read.
use Rattle.std.proofs.Common.{◌≡◌, ℕ, Bool, false, cond, List, [], ◌∷◌, ◌++◌, Option, Some, None, Result, Ok, refl, sym, ap, ◌∙◌, append-nil, append_assoc, length, arith}
use Rattle.patr_lexicon.proofs.Names.{Marker, is_blank, pieces, without_empty, words_of, Row, FeatureText, stage}
use Rattle.patr_model.specs.declared.field.Marker.TheVariants as marker
use Rattle.patr_model.specs.LexiconLines.{Piece, Field}
use Rattle.patr_model.specs.LexiconText as lexicon
use Rattle.patr_model.specs.LexiconText.{EntryFault, EntryText, ◌>>=◌, trimmed, spaced, field_text, text_of, gloss_of, is_category, is_features, is_gloss, or_field, last_field, entry, features_of}
use Rattle.patr_lexicon.specs.Records.{Words, Empty, One, Several, counted, plus, words_in, text_in, feature_pieces, Open, opened, with_field, with_pieces, words_or, text_or, with_fields, one_word, one_category, closed}
use Rattle.patr_lexicon.proofs.Spaced.{without_append, words_of_text, spaced_none, spaced_twice}

-- ---- words, texts and places

pub plus_none : (x : Words) → plus x Empty ≡ x
plus_none Empty = refl
plus_none (One w) = refl
plus_none Several = refl

pub plus_twice : (x y z : Words) → plus (plus x y) z ≡ plus x (plus y z)
plus_twice Empty y z = refl
plus_twice (One w) Empty z = refl
plus_twice (One w) (One v) Empty = refl
plus_twice (One w) (One v) (One u) = refl
plus_twice (One w) (One v) Several = refl
plus_twice (One w) Several z = refl
plus_twice Several y z = refl

pub counted_two : (xs ys : List (List ℕ)) → counted (xs ++ ys) ≡ plus (counted xs) (counted ys)
counted_two [] ys = refl
counted_two (x ∷ []) [] = refl
counted_two (x ∷ []) (y ∷ []) = refl
counted_two (x ∷ []) (y ∷ z ∷ ys) = refl
counted_two (x ∷ w ∷ xs) ys = refl

-- ---- pieces

pub no_pieces : (o : Open) (m : Marker) → with_pieces o m [] ≡ o
no_pieces o marker.Word = ap (λ w. record o { word = w }) (plus_none o.word)
no_pieces o marker.Category = ap (λ w. record o { category = w }) (plus_none o.category)
no_pieces o marker.Features = ap (λ ps. record o { features = ps }) (append-nil o.features)
no_pieces o marker.Gloss = ap (λ t. record o { gloss = t }) (spaced_none o.gloss)
no_pieces o marker.Other = refl

more_words : (x : Words) (p : Piece) (ps : List Piece) → plus x (counted (words_in (p ∷ ps))) ≡ plus (plus x (counted (words_in (p ∷ [])))) (counted (words_in ps))
more_words x p ps =
    let ws = words_of (trimmed p.text) in
    ap (plus x) (counted_two ws (words_in ps) ∙ ap (λ l. plus (counted l) (counted (words_in ps))) (sym (append-nil ws)))
    ∙ sym (plus_twice x (counted (words_in (p ∷ []))) (counted (words_in ps)))

more_text : (t : List ℕ) (p : Piece) (ps : List Piece) → spaced t (text_in (p ∷ ps)) ≡ spaced (spaced t (text_in (p ∷ []))) (text_in ps)
more_text t p ps =
    ap (λ x. spaced t (spaced x (text_in ps))) (sym (spaced_none (trimmed p.text))) ∙ sym (spaced_twice t (text_in (p ∷ [])) (text_in ps))

-- one piece, and then the others
pub one_piece : (o : Open) (m : Marker) (p : Piece) (ps : List Piece) → with_pieces o m (p ∷ ps) ≡ with_pieces (with_pieces o m (p ∷ [])) m ps
one_piece o marker.Word p ps = ap (λ w. record o { word = w }) (more_words o.word p ps)
one_piece o marker.Category p ps = ap (λ w. record o { category = w }) (more_words o.category p ps)
one_piece o marker.Features p ps = ap (λ qs. record o { features = qs }) (sym (append_assoc o.features (p ∷ []) ps))
one_piece o marker.Gloss p ps = ap (λ t. record o { gloss = t }) (more_text o.gloss p ps)
one_piece o marker.Other p ps = refl

-- ---- fields

other_field : (test : Marker → Bool) (f : Field) (g : Option Field) → test f.marker ≡ false → or_field test f g ≡ g
other_field test f None fails = ap (λ t. cond t (Some f) None) fails
other_field test f (Some g) fails = refl

abbrev pub a_field : Marker → ℕ → List Piece → Field
a_field m n ps = record { marker = m; line = n; pieces = ps }

last_words : (w : Words) (n : ℕ) (ps : List Piece) (g : Option Field) → words_or w (or_field is_category (a_field marker.Category n ps) g) ≡ words_or (counted (words_in ps)) g
last_words w n ps None = ap counted (words_of_text ps)
last_words w n ps (Some g) = refl

last_text : (t : List ℕ) (n : ℕ) (ps : List Piece) (g : Option Field) → text_or t (or_field is_gloss (a_field marker.Gloss n ps) g) ≡ text_or (text_in ps) g
last_text t n ps None = refl
last_text t n ps (Some g) = refl

with_rest : Open → Words → List ℕ → List Piece → Open
with_rest o ws t ps = record { line = o.line; word = o.word; category = ws; gloss = t; features = ps }

module _ (o : Open) (n : ℕ) (ps : List Piece) (os : List Field) where
  pub category_begins : with_fields o (a_field marker.Category n ps ∷ os) ≡ with_fields (with_pieces (with_field o marker.Category) marker.Category ps) os
  unfolding with_rest
  category_begins =
      let f = a_field marker.Category n ps in
      let q = o.features ++ feature_pieces os in
      ap (λ ws. with_rest o ws (text_or o.gloss (last_field is_gloss (f ∷ os))) q) (last_words o.category n ps (last_field is_category os))
      ∙ ap (λ g. with_rest o (words_or (counted (words_in ps)) (last_field is_category os)) (text_or o.gloss g) q) (other_field is_gloss f (last_field is_gloss os) refl)

  pub gloss_begins : with_fields o (a_field marker.Gloss n ps ∷ os) ≡ with_fields (with_pieces (with_field o marker.Gloss) marker.Gloss ps) os
  unfolding with_rest
  gloss_begins =
      let f = a_field marker.Gloss n ps in
      let q = o.features ++ feature_pieces os in
      ap (λ t. with_rest o (words_or o.category (last_field is_category (f ∷ os))) t q) (last_text o.gloss n ps (last_field is_gloss os))
      ∙ ap (λ g. with_rest o (words_or o.category g) (text_or (text_in ps) (last_field is_gloss os)) q) (other_field is_category f (last_field is_category os) refl)

  pub features_begin : with_fields o (a_field marker.Features n ps ∷ os) ≡ with_fields (with_pieces (with_field o marker.Features) marker.Features ps) os
  unfolding with_rest
  features_begin =
      let f = a_field marker.Features n ps in
      let q = (o.features ++ ps) ++ feature_pieces os in
      ap (λ q. with_rest o (words_or o.category (last_field is_category (f ∷ os))) (text_or o.gloss (last_field is_gloss (f ∷ os))) q) (sym (append_assoc o.features ps (feature_pieces os)))
      ∙ ap (λ g. with_rest o (words_or o.category g) (text_or o.gloss (last_field is_gloss (f ∷ os))) q) (other_field is_category f (last_field is_category os) refl)
      ∙ ap (λ g. with_rest o (words_or o.category (last_field is_category os)) (text_or o.gloss g) q) (other_field is_gloss f (last_field is_gloss os) refl)

-- ---- entries

same_word : (n : ℕ) (ws : List (List ℕ)) → lexicon.one_word n ws ≡ one_word n (counted ws)
same_word n [] = refl
same_word n (w ∷ []) = refl
same_word n (w ∷ v ∷ ws) = refl

same_category : (n : ℕ) (ws : List (List ℕ)) → lexicon.one_category n ws ≡ one_category n (counted ws)
same_category n [] = refl
same_category n (w ∷ []) = refl
same_category n (w ∷ v ∷ ws) = refl

category_of : (n : ℕ) (g : Option Field) → lexicon.one_category n (words_of (text_of g)) ≡ one_category n (words_or Empty g)
category_of n None = refl
category_of n (Some f) = same_category n (words_of (field_text f))

same_gloss : (g : Option Field) → text_of g ≡ text_or [] g
same_gloss None = refl
same_gloss (Some f) = refl

entry_by : ℕ → Result (List ℕ) EntryFault → Result (List ℕ) EntryFault → Result (Row (FeatureText (List ℕ))) EntryFault → List ℕ → Result EntryText EntryFault
entry_by n w c f g = w >>= λ word. c >>= λ category. f >>= λ features. Ok (record { line = n; word = word; category = category; gloss = gloss_of g; features = features })

-- the entry of a record is that of the record as it is read
pub entry_is : (n : ℕ) (ps : List Piece) (os : List Field)
    → entry stage (record { word = a_field marker.Word n ps; others = os }) ≡ closed (with_fields (with_pieces (opened n) marker.Word ps) os)
unfolding entry_by
entry_is n ps os =
    let f = features_of stage (feature_pieces os) in
    let c = lexicon.one_category n (words_of (text_of (last_field is_category os))) in
    let g = last_field is_gloss os in
    ap (λ w. entry_by n w c f (text_of g)) (ap (lexicon.one_word n) (words_of_text ps) ∙ same_word n (words_in ps))
    ∙ ap (λ c. entry_by n (one_word n (counted (words_in ps))) c f (text_of g)) (category_of n (last_field is_category os))
    ∙ ap (entry_by n (one_word n (counted (words_in ps))) (one_category n (words_or Empty (last_field is_category os))) f) (same_gloss g)

-- ---- words one by one

pub no_word : (w : Words) (x : List ℕ) → length x ≡ 0 → w ≡ plus w (counted (without_empty (x ∷ [])))
no_word w [] none = sym (plus_none w)
no_word w (b ∷ bs) none = absurd (omega (arith, none))

pub some_word : (x : List ℕ) → (length x ≡ 0 → ⊥) → One x ≡ counted (without_empty (x ∷ []))
some_word [] some = absurd (some refl)
some_word (b ∷ bs) some = refl

-- the words of a text are those of its first piece and those behind it
pub words_step : (w v : Words) (text piece : List ℕ) (more : List (List ℕ)) → pieces is_blank text ≡ piece ∷ more → v ≡ plus w (counted (without_empty (piece ∷ []))) → plus w (counted (words_of text)) ≡ plus v (counted (without_empty more))
words_step w v text piece more cut is =
    let first = without_empty (piece ∷ []) in
    ap (λ ps. plus w (counted (without_empty ps))) cut ∙ ap (λ ws. plus w (counted ws)) (without_append (piece ∷ []) more)
    ∙ ap (plus w) (counted_two first (without_empty more)) ∙ sym (plus_twice w (counted first) (counted (without_empty more))) ∙ ap (λ x. plus x (counted (without_empty more))) (sym is)

pub no_fields : (o : Open) → with_fields o [] ≡ o
no_fields o = ap (λ ps. record o { features = ps }) (append-nil o.features)
