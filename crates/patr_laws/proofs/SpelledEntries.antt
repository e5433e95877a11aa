-- Lines of words and their categories are read as these entries.
use Rattle.std.proofs.Common.{◌≡◌, ℕ, suc, Bool, true, false, cond, nat_eq, List, [], ◌∷◌, ◌++◌, None, Result, Ok, refl, ap, ◌∙◌, append_assoc}
use Rattle.std.specs.List.{flat_map, filter}
use Rattle.patr_lists.proofs.Alls.{all_weaker}
use Rattle.patr_model.specs.declared.field.Marker.{Marker}
use Rattle.patr_model.specs.declared.field.Marker.TheVariants as marker
use Rattle.patr_model.specs.Grammar.{Row, Done}
use Rattle.patr_model.specs.Session.{is_blank, Cut, pieces, without_empty, words_of}
use Rattle.patr_model.specs.Tokens.{Place, start_place, IsPlainWord}
use Rattle.patr_model.specs.Lexemes.{by_text}
use Rattle.patr_model.specs.Parsing.{many}
use Rattle.patr_model.specs.Stages.{Stage}
use Rattle.patr_model.specs.Productions.{FeatureText, elements}
use Rattle.patr_model.specs.LexiconLines.{line_at, numbered, behind, control, or_later, bad_token, Field, Fields, fields_of}
use Rattle.patr_model.specs.LexiconText as lexicon
use Rattle.patr_model.specs.LexiconText.{trimmed_front, trimmed, spaced, field_text, Record, Records, is_known, field_before, records_of, EntryText, EntryFault, one_word, one_category, as_features, features_of, entry, entries, read_records, read_fields, of_result, unless_bad, reading}
use Rattle.patr_model.proofs.PlainWords.{IsPlain, plain_all, plain_no_line, plain_no_blank, front_cut, whole_cut, word_trimmed, control_none}
use Rattle.patr_laws.specs.Spelling.{PlainEntry, field_line, entry_lines, entries_from, EntriesAreSpelled}

-- ---- lines

-- a line without its LF
abbrev line_text : ℕ → List ℕ → List ℕ
line_text letter w = 92 ∷ letter ∷ 32 ∷ w

two_lines : (e : PlainEntry) (rest : List ℕ) → pieces (nat_eq 10) (entry_lines e ++ rest) ≡ line_text 119 e.word ∷ line_text 99 e.category ∷ pieces (nat_eq 10) rest
two_lines e rest =
    let first = field_line 99 e.category ++ rest in
    let no_line = λ (w : List ℕ) (p : IsPlainWord w). all_weaker IsPlain (λ b. nat_eq 10 b ≡ false) plain_no_line w (plain_all w p) in
    ap (λ u. pieces (nat_eq 10) u) (append_assoc (field_line 119 e.word) (field_line 99 e.category) rest ∙ ap (λ u. 92 ∷ 119 ∷ 32 ∷ u) (append_assoc e.word (10 ∷ []) first))
    ∙ (front_cut (nat_eq 10) (line_text 119 e.word) 10 first (refl, (refl, (refl, no_line e.word e.word_is))) refl
    ∙ ap (λ ls. line_text 119 e.word ∷ ls) (ap (λ u. pieces (nat_eq 10) (92 ∷ 99 ∷ 32 ∷ u)) (append_assoc e.category (10 ∷ []) rest)
    ∙ front_cut (nat_eq 10) (line_text 99 e.category) 10 rest (refl, (refl, (refl, no_line e.category e.category_is))) refl))

-- the lines of entries, the last of which is empty
abbrev lines_from : List PlainEntry → List (List ℕ)
lines_from [] = [] ∷ []
lines_from (e ∷ es) = line_text 119 e.word ∷ line_text 99 e.category ∷ lines_from es

all_lines : (es : List PlainEntry) → pieces (nat_eq 10) (flat_map entry_lines es) ≡ lines_from es
all_lines [] = refl
all_lines (e ∷ es) = two_lines e (flat_map entry_lines es) ∙ ap (λ ls. line_text 119 e.word ∷ line_text 99 e.category ∷ ls) (all_lines es)

none_bad : (n : ℕ) (es : List PlainEntry) → bad_token false (numbered n (lines_from es)) ≡ None
unfolding control
none_bad n [] = refl
none_bad n (e ∷ es) =
    let word : Place = record { line = n; column = 4 } in
    let category : Place = record { line = suc n; column = 4 } in
    let rest = bad_token false (numbered (suc (suc n)) (lines_from es)) in
    ap (λ o. or_later o (or_later (control false category e.category) rest)) (control_none word e.word (plain_all e.word e.word_is))
    ∙ (ap (λ o. or_later o rest) (control_none category e.category (plain_all e.category e.category_is)) ∙ none_bad (suc (suc n)) es)

-- ---- fields

abbrev field_at : Marker → ℕ → ℕ → List ℕ → Field
field_at m letter n w = record { marker = m; line = n; pieces = behind 2 (line_at n (line_text letter w)) ∷ [] }

abbrev fields_from : ℕ → List PlainEntry → List Field
fields_from n [] = []
fields_from n (e ∷ es) = field_at marker.Word 119 n e.word ∷ field_at marker.Category 99 (suc n) e.category ∷ fields_from (suc (suc n)) es

all_fields : (n : ℕ) (es : List PlainEntry) → fields_of (numbered n (lines_from es)) ≡ record { pieces = []; fields = fields_from n es }
all_fields n [] = refl
all_fields n (e ∷ es) =
    let category = behind 2 (line_at (suc n) (line_text 99 e.category)) in
    ap (λ (fs : Fields). record { pieces = []; fields = field_at marker.Word 119 n e.word ∷ record { marker = marker.Category; line = suc n; pieces = category ∷ fs.pieces } ∷ fs.fields }) (all_fields (suc (suc n)) es)

-- ---- records

abbrev record_at : ℕ → PlainEntry → Record
record_at n e = record { word = field_at marker.Word 119 n e.word; others = field_at marker.Category 99 (suc n) e.category ∷ [] }

abbrev records_from : ℕ → List PlainEntry → List Record
records_from n [] = []
records_from n (e ∷ es) = record_at n e ∷ records_from (suc (suc n)) es

all_records : (n : ℕ) (es : List PlainEntry) → records_of (filter (λ (f : Field). is_known f.marker) (fields_from n es)) ≡ record { fields = []; records = records_from n es }
all_records n [] = refl
all_records n (e ∷ es) = ap (λ (rs : Records). field_before (field_at marker.Word 119 n e.word) (field_before (field_at marker.Category 99 (suc n) e.category) rs)) (all_records (suc (suc n)) es)

-- ---- entries

-- the words of a field of one plain word
word_found : (m : Marker) (letter n : ℕ) (w : List ℕ) → IsPlainWord w → words_of (field_text (field_at m letter n w)) ≡ w ∷ []
word_found m letter n [] p = absurd p
word_found m letter n (b ∷ bs) p =
    let none = all_weaker IsPlain (λ c. is_blank c ≡ false) plain_no_blank (b ∷ bs) p in
    ap (λ t. words_of (spaced t [])) (word_trimmed (b ∷ bs) p) ∙ ap (λ (c : Cut). without_empty (c.first ∷ c.rest)) (whole_cut is_blank (b ∷ bs) none)

no_features : (s : Stage) → features_of s [] ≡ Ok Done
unfolding many elements
no_features s = go s.equations
  where
    go : (b : Bool) → cond b (as_features start_place (elements by_text s [])) (Ok Done) ≡ Ok Done
    go true = refl
    go false = refl

abbrev entry_at : ℕ → PlainEntry → EntryText
entry_at n e = record { line = n; word = e.word; category = e.category; gloss = None; features = Done }

abbrev Made : Type 0
Made = Result EntryText EntryFault

-- what is read of a record behind its features, its category and its word
abbrev behind_features : ℕ → List ℕ → List ℕ → Row (FeatureText (List ℕ)) → Made
behind_features n word category features = Ok (record { line = n; word = word; category = category; gloss = None; features = features })

abbrev behind_category : Stage → ℕ → List ℕ → List ℕ → Made
behind_category s n word category = lexicon.◌>>=◌ (features_of s []) (behind_features n word category)

abbrev behind_word : Stage → ℕ → List (List ℕ) → List ℕ → Made
behind_word s n categories word = lexicon.◌>>=◌ (one_category n categories) (behind_category s n word)

entry_found : (s : Stage) (n : ℕ) (e : PlainEntry) → entry s (record_at n e) ≡ Ok (entry_at n e)
entry_found s n e =
    let category = field_at marker.Category 99 (suc n) e.category in
    ap (λ ws. lexicon.◌>>=◌ (one_word n ws) (behind_word s n (words_of (field_text category)))) (word_found marker.Word 119 n e.word e.word_is)
    ∙ (ap (λ ws. behind_word s n ws e.word) (word_found marker.Category 99 (suc n) e.category e.category_is) ∙ ap (λ (r : Result (Row (FeatureText (List ℕ))) EntryFault). lexicon.◌>>=◌ r (behind_features n e.word e.category)) (no_features s))

all_entries : (s : Stage) (n : ℕ) (es : List PlainEntry) → entries s (records_from n es) ≡ Ok (entries_from n es)
all_entries s n [] = refl
all_entries s n (e ∷ es) =
    ap (λ (r : Result EntryText EntryFault). lexicon.◌>>=◌ r (λ x. lexicon.◌>>=◌ (entries s (records_from (suc (suc n)) es)) (λ xs. Ok (x ∷ xs)))) (entry_found s n e)
    ∙ ap (λ (r : Result (List EntryText) EntryFault). lexicon.◌>>=◌ r (λ xs. Ok (entry_at n e ∷ xs))) (all_entries s (suc (suc n)) es)

pub entries_are_spelled : EntriesAreSpelled
entries_are_spelled s es =
    ap (λ ls. unless_bad (bad_token false (numbered 1 ls)) (read_fields s (fields_of (numbered 1 ls)))) (all_lines es)
    ∙ (ap (λ o. unless_bad o (read_fields s (fields_of (numbered 1 (lines_from es))))) (none_bad 1 es)
    ∙ (ap (λ fs. of_result (read_fields s fs)) (all_fields 1 es)
    ∙ (ap (λ rs. of_result (read_records s [] rs)) (all_records 1 es) ∙ ap of_result (all_entries s 1 es))))
