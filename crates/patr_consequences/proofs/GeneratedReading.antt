-- The generated texts are read as the generated grammar, lexicon and sentence.
use Rattle.std.proofs.Common.{◌≡◌, ℕ, zero, suc, ◌+◌, ◌*◌, ◌%◌, ◌^◌, ◌<◌, ◌≤◌, Bool, true, false, nat_eq, ne_eqb, List, [], ◌∷◌, ◌++◌, filter, append_assoc, None, Result, Ok, IsUtf8, codes, decimal, refl, sym, ap, ◌∙◌, arith, subst}
use Rattle.std.specs.List.{AllByRecursion}
use Rattle.std.specs.Str.Parse.{AllDigits}
use Rattle.std.proofs.lemmas.Str.{IsUtf8-append, IsUtf8-nil, IsUtf8-from_ascii}
use Rattle.std.proofs.lemmas.Fmt.{decimal_by_steps, digits_decimal, IsAscii-from_digits}
use Rattle.std.proofs.lemmas.Str.Parse.{numerals_by_value, tells_digits}
use Rattle.std.proofs.lemmas.Bool.{le-ltb}
use Rattle.std.proofs.Math.Nat.{mod-lt}
use Rattle.patr_lists.proofs.Alls.{all_append, all_weaker}
use Rattle.patr_model.specs.declared.field.Marker.{Marker}
use Rattle.patr_model.specs.declared.field.Marker.TheVariants as marker
use Rattle.patr_model.specs.Session.{is_blank, Cut, pieces, without_empty, words_of}
use Rattle.patr_model.specs.Tokens.{word_len, scan, is_white, IsPlainWord}
use Rattle.patr_model.specs.Parsing.{many}
use Rattle.patr_model.specs.Stages.{Stage}
use Rattle.patr_model.specs.Productions.{word_list, path, term, equation, braced, name_tokens, many_right, item, rule, template, lexical_rule, more_paths, parameter, clauses, elements}
use Rattle.patr_model.specs.GrammarText as grammar_text_of
use Rattle.patr_model.specs.LexiconLines.{line_at, numbered as numbered_lines, behind, control, or_later, bad_token, Field, Fields, fields_of}
use Rattle.patr_model.specs.LexiconText as lexicon
use Rattle.patr_model.specs.LexiconText.{trimmed_front, trimmed, spaced, field_text, Record, Records, is_known, field_before, records_of, EntryText, EntryFault, one_word, entry, entries, read_records, read_fields, of_result, unless_bad, reading}
use Rattle.patr_model.specs.Bytes.{same_text}
use Rattle.patr_model.specs.Build.{entries_fault, grammar_first, build_fault}
use Rattle.patr_model.proofs.PlainWords.{Misses, whole_cut, front_cut, IsPlain, plain_all, plain_no_line, plain_no_blank, word_trimmed, control_none}
use Rattle.patr_consequences.specs.Generator as generator
use Rattle.patr_consequences.specs.Generator.{generated_grammar, generated_entries, generated_sentence, numbered, grammar_text, entry_text, lexicon_text, sentence_text, GeneratedTextsAreRead}

abbrev at_stage : Bool → Bool → Bool → Stage
at_stage g l p = record { equations = true; groups = g; lexical_rules = l; parameters = p }

grammar_read : (g l p : Bool) → grammar_text_of.reading (at_stage g l p) grammar_text ≡ grammar_text_of.Reads generated_grammar
unfolding scan word_len many word_list path term equation braced name_tokens many_right item rule template lexical_rule more_paths parameter clauses
grammar_read g l p = refl

-- ---- lines

-- the three lines of a word, without LF
abbrev word_line : List ℕ → List ℕ
word_line w = 92 ∷ 119 ∷ 32 ∷ w

abbrev category_line : List ℕ
category_line = codes "\\c W"

abbrev features_line : List ℕ
features_line = codes "\\f <agr num> = sg"

-- what stands behind a word
abbrev behind_word : List ℕ
behind_word = codes "\n\\c W\n\\f <agr num> = sg\n"

abbrev ArePlain : List (List ℕ) → Type 0
ArePlain ws = AllByRecursion IsPlainWord ws

three_lines : (w : List ℕ) (rest : List ℕ) → IsPlainWord w → pieces (nat_eq 10) (entry_text w ++ rest) ≡ word_line w ∷ category_line ∷ features_line ∷ pieces (nat_eq 10) rest
three_lines w rest p =
    ap (λ u. pieces (nat_eq 10) (92 ∷ 119 ∷ 32 ∷ u)) (append_assoc w behind_word rest)
    ∙ front_cut (nat_eq 10) (word_line w) 10 (codes "\\c W\n\\f <agr num> = sg\n" ++ rest) (refl, (refl, (refl, all_weaker IsPlain (λ b. nat_eq 10 b ≡ false) plain_no_line w (plain_all w p)))) refl

-- the lines of words, the last of which is empty
abbrev lines_from : List (List ℕ) → List (List ℕ)
lines_from [] = [] ∷ []
lines_from (w ∷ ws) = word_line w ∷ category_line ∷ features_line ∷ lines_from ws

all_lines : (ws : List (List ℕ)) → ArePlain ws → pieces (nat_eq 10) (lexicon_text ws) ≡ lines_from ws
all_lines [] p = refl
all_lines (w ∷ ws) p = three_lines w (lexicon_text ws) p.0 ∙ ap (λ ls. word_line w ∷ category_line ∷ features_line ∷ ls) (all_lines ws p.1)

none_bad : (c : Bool) (n : ℕ) (ws : List (List ℕ)) → ArePlain ws → bad_token c (numbered_lines n (lines_from ws)) ≡ None
unfolding control
none_bad c n [] p = refl
none_bad c n (w ∷ ws) p =
    ap (λ o. or_later o (bad_token true (numbered_lines (suc (suc (suc n))) (lines_from ws)))) (control_none (record { line = n; column = 4 }) w (plain_all w p.0))
    ∙ none_bad true (suc (suc (suc n))) ws p.1

-- ---- fields

abbrev field_at : Marker → List ℕ → ℕ → Field
field_at m text n = record { marker = m; line = n; pieces = behind 2 (line_at n text) ∷ [] }

abbrev fields_from : ℕ → List (List ℕ) → List Field
fields_from n [] = []
fields_from n (w ∷ ws) = field_at marker.Word (word_line w) n ∷ field_at marker.Category category_line (suc n) ∷ field_at marker.Features features_line (suc (suc n)) ∷ fields_from (suc (suc (suc n))) ws

all_fields : (n : ℕ) (ws : List (List ℕ)) → fields_of (numbered_lines n (lines_from ws)) ≡ record { pieces = []; fields = fields_from n ws }
all_fields n [] = refl
all_fields n (w ∷ ws) =
    ap (λ (fs : Fields). record {
      pieces = [];
      fields = field_at marker.Word (word_line w) n ∷ field_at marker.Category category_line (suc n)
          ∷ record { marker = marker.Features; line = suc (suc n); pieces = behind 2 (line_at (suc (suc n)) features_line) ∷ fs.pieces } ∷ fs.fields;
    }) (all_fields (suc (suc (suc n))) ws)

-- ---- records

abbrev record_at : ℕ → List ℕ → Record
record_at n w = record {
  word = field_at marker.Word (word_line w) n;
  others = field_at marker.Category category_line (suc n) ∷ field_at marker.Features features_line (suc (suc n)) ∷ [];
}

abbrev records_from : ℕ → List (List ℕ) → List Record
records_from n [] = []
records_from n (w ∷ ws) = record_at n w ∷ records_from (suc (suc (suc n))) ws

all_records : (n : ℕ) (ws : List (List ℕ)) → records_of (filter (λ (f : Field). is_known f.marker) (fields_from n ws)) ≡ record { fields = []; records = records_from n ws }
all_records n [] = refl
all_records n (w ∷ ws) =
    ap (λ (rs : Records). field_before (field_at marker.Word (word_line w) n) (field_before (field_at marker.Category category_line (suc n)) (field_before (field_at marker.Features features_line (suc (suc n))) rs)))
    (all_records (suc (suc (suc n))) ws)

-- ---- entries

abbrev entry_at : ℕ → List ℕ → EntryText
entry_at n w = record (generator.entry (λ k. w) 0) { line = n }

word_found : (n : ℕ) (w : List ℕ) → IsPlainWord w → words_of (field_text (field_at marker.Word (word_line w) n)) ≡ w ∷ []
word_found n [] p = absurd p
word_found n (b ∷ bs) p =
    let none = all_weaker IsPlain (λ c. is_blank c ≡ false) plain_no_blank (b ∷ bs) p in
    ap (λ t. words_of (spaced t [])) (word_trimmed (b ∷ bs) p) ∙ ap (λ (c : Cut). without_empty (c.first ∷ c.rest)) (whole_cut is_blank (b ∷ bs) none)

entry_found : (g l p : Bool) (n : ℕ) (w : List ℕ) → IsPlainWord w → entry (at_stage g l p) (record_at n w) ≡ Ok (entry_at n w)
unfolding scan word_len many word_list path term equation braced elements
entry_found g l p n w h = ap (λ ws. lexicon.◌>>=◌ (one_word n ws) (λ x. Ok (entry_at n x))) (word_found n w h)

abbrev entries_at : ℕ → List (List ℕ) → List EntryText
entries_at n [] = []
entries_at n (w ∷ ws) = entry_at n w ∷ entries_at (suc (suc (suc n))) ws

module _ (s : Stage) (e : s.equations ≡ true) where
  is_at : at_stage s.groups s.lexical_rules s.parameters ≡ s
  is_at = λ i. record { equations = sym e i; groups = s.groups; lexical_rules = s.lexical_rules; parameters = s.parameters }

  one_entry : (n : ℕ) (w : List ℕ) → IsPlainWord w → entry s (record_at n w) ≡ Ok (entry_at n w)
  one_entry n w p = subst (λ x. entry x (record_at n w) ≡ Ok (entry_at n w)) is_at (entry_found s.groups s.lexical_rules s.parameters n w p)

  all_entries : (n : ℕ) (ws : List (List ℕ)) → ArePlain ws → entries s (records_from n ws) ≡ Ok (entries_at n ws)
  all_entries n [] p = refl
  all_entries n (w ∷ ws) p =
      ap (λ (r : Result EntryText EntryFault). lexicon.◌>>=◌ r (λ x. lexicon.◌>>=◌ (entries s (records_from (suc (suc (suc n))) ws)) (λ xs. Ok (x ∷ xs)))) (one_entry n w p.0)
      ∙ ap (λ (r : Result (List EntryText) EntryFault). lexicon.◌>>=◌ r (λ xs. Ok (entry_at n w ∷ xs))) (all_entries (suc (suc (suc n))) ws p.1)

  lexicon_read : (ws : List (List ℕ)) → ArePlain ws → reading s (lexicon_text ws) ≡ lexicon.Reads (entries_at 1 ws)
  lexicon_read ws p =
      ap (λ ls. unless_bad (bad_token false (numbered_lines 1 ls)) (read_fields s (fields_of (numbered_lines 1 ls)))) (all_lines ws p)
      ∙ (ap (λ o. unless_bad o (read_fields s (fields_of (numbered_lines 1 (lines_from ws))))) (none_bad false 1 ws p)
      ∙ (ap (λ fs. of_result (read_fields s fs)) (all_fields 1 ws)
      ∙ (ap (λ rs. of_result (read_records s [] rs)) (all_records 1 ws) ∙ ap of_result (all_entries 1 ws p))))

  grammar_is_read : grammar_text_of.reading s grammar_text ≡ grammar_text_of.Reads generated_grammar
  grammar_is_read = subst (λ x. grammar_text_of.reading x grammar_text ≡ grammar_text_of.Reads generated_grammar) is_at (grammar_read s.groups s.lexical_rules s.parameters)

entries_same : (word : ℕ → List ℕ) (k n : ℕ) → entries_at (3 * k + 1) (generator.from word k n) ≡ generator.from (generator.entry word) k n
entries_same word k zero = refl
entries_same word k (suc n) =
    let next : suc (suc (suc (3 * k + 1))) ≡ 3 * suc k + 1 = omega arith in
    ap (λ m. generator.entry word k ∷ entries_at m (generator.from word (suc k) n)) next ∙ ap (λ es. generator.entry word k ∷ es) (entries_same word (suc k) n)

-- ---- the sentence

kept_first : (w : List ℕ) (ws : List (List ℕ)) → IsPlainWord w → without_empty (w ∷ ws) ≡ w ∷ without_empty ws
kept_first [] ws p = absurd p
kept_first (b ∷ bs) ws p = refl

no_blank : (w : List ℕ) → IsPlainWord w → Misses is_blank w
no_blank w p = all_weaker IsPlain (λ c. is_blank c ≡ false) plain_no_blank w (plain_all w p)

sentence_read : (ws : List (List ℕ)) → ArePlain ws → words_of (sentence_text ws) ≡ ws
sentence_read [] p = refl
sentence_read (w ∷ []) p = ap (λ (c : Cut). without_empty (c.first ∷ c.rest)) (whole_cut is_blank w (no_blank w p.0)) ∙ kept_first w [] p.0
sentence_read (w ∷ v ∷ ws) p =
    ap (λ ls. without_empty ls) (front_cut is_blank w 32 (sentence_text (v ∷ ws)) (no_blank w p.0) refl)
    ∙ (kept_first w (pieces is_blank (sentence_text (v ∷ ws))) p.0 ∙ ap (λ us. w ∷ us) (sentence_read (v ∷ ws) p.1))

-- ---- the texts are UTF-8

w_utf8 : IsUtf8 (codes "w")
unfolding lib.Utf8.encode
w_utf8 = (codes "w", (refl, refl))

marker_utf8 : IsUtf8 (codes "\\w ")
unfolding lib.Utf8.encode
marker_utf8 = (codes "\\w ", (refl, refl))

behind_utf8 : IsUtf8 behind_word
unfolding lib.Utf8.encode
behind_utf8 = (behind_word, (refl, refl))

grammar_utf8 : IsUtf8 grammar_text
unfolding lib.Utf8.encode
grammar_utf8 = (grammar_text, (refl, refl))

-- ---- the numbered words

all_from : (P : List ℕ → Type 0) (word : ℕ → List ℕ) (m : ℕ) → ((i : ℕ) → i < m → P (word i)) → (k n : ℕ) → k + n ≤ m → AllByRecursion P (generator.from word k n)
all_from P word m f k zero h = tt
all_from P word m f k (suc n) h = (f k (omega (arith, h)), all_from P word m f (suc k) n (omega (arith, h)))

abbrev pub IsDigit : ℕ → Type 0
IsDigit b = (48 ≤ b) × (b ≤ 57)

pub all_digits : (n : ℕ) → n < 2 ^ 64 → AllByRecursion IsDigit (decimal n)
all_digits = decimal_by_steps (λ n bs. AllByRecursion IsDigit bs)
    (λ n h. ((omega arith, omega (arith, h)), tt))
    (λ n ds h a. let small = mod-lt n {m = 10} (omega arith) in all_append IsDigit ds ((48 + n % 10) ∷ []) a ((omega arith, omega (arith, small)), tt))

digit_plain : (b : ℕ) → IsDigit b → IsPlain b
digit_plain b h =
    let white : is_white b ≡ false = rw (ne_eqb b 32 (λ e. omega (arith, h.0, e)), ne_eqb b 9 (λ e. omega (arith, h.0, e)), ne_eqb b 10 (λ e. omega (arith, h.0, e)), ne_eqb b 13 (λ e. omega (arith, h.0, e))) refl in
    (white, rw (le-ltb b 32 (omega (arith, h.0)), ne_eqb b 127 (λ e. omega (arith, h.1, e))) refl)

numbered_plain : (k : ℕ) → k < 2 ^ 64 → IsPlainWord (numbered k)
numbered_plain k h = ((refl, refl), all_weaker IsDigit IsPlain digit_plain (decimal k) (all_digits k h))

numbered_utf8 : (k : ℕ) → k < 2 ^ 64 → IsUtf8 (numbered k)
numbered_utf8 k h = IsUtf8-append (codes "w") (decimal k) w_utf8
    (IsUtf8-from_ascii (decimal k) (IsAscii-from_digits (decimal k) (digits_decimal (numerals_by_value (AllDigits 10) tells_digits) k h)))

lexicon_utf8 : (ws : List (List ℕ)) → AllByRecursion IsUtf8 ws → IsUtf8 (lexicon_text ws)
lexicon_utf8 [] a = IsUtf8-nil
lexicon_utf8 (w ∷ ws) a = IsUtf8-append (entry_text w) (lexicon_text ws)
    (IsUtf8-append (codes "\\w " ++ w) behind_word (IsUtf8-append (codes "\\w ") w marker_utf8 a.0) behind_utf8) (lexicon_utf8 ws a.1)

-- ---- sizes

entries_fit : (word : ℕ → List ℕ) (k n : ℕ) → entries_fault same_text [] (generator.from (generator.entry word) k n) ≡ None
entries_fit word k zero = refl
entries_fit word k (suc n) = entries_fit word (suc k) n

all_fits : (word : ℕ → List ℕ) (n : ℕ) → build_fault same_text generated_grammar (generated_entries word n) ≡ None
all_fits word n = ap (λ f. grammar_first None f) (entries_fit word 0 n)

pub texts_read : GeneratedTextsAreRead
texts_read s e n h =
    let plain : ArePlain (generated_sentence numbered n) = all_from IsPlainWord numbered n (λ i k. numbered_plain i (omega (arith, h, k))) 0 n (omega arith) in
    let utf8 = all_from IsUtf8 numbered n (λ i k. numbered_utf8 i (omega (arith, h, k))) 0 n (omega arith) in
    record {
      grammar = (grammar_utf8, grammar_is_read s e);
      lexicon = (lexicon_utf8 (generated_sentence numbered n) utf8, lexicon_read s e (generated_sentence numbered n) plain ∙ ap (λ es. lexicon.Reads es) (entries_same numbered 0 n));
      sentence = sentence_read (generated_sentence numbered n) plain;
      size = all_fits numbered n;
    }
