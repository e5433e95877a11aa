-- The reading of a lexicon, line by line.
use Rattle.std.proofs.Common.{◌≡◌, ℕ, Bool, false, option_map, suc, ◌+◌, ◌≤◌, List, [], ◌∷◌, ◌++◌, length, nat_eq, Option, Some, None, Result, Ok, Err, Bor, refl, sym, ap, ◌∙◌, subst, arith, length-append, append-nil}
use Rattle.patr_lexicon.proofs.Names.{Place, bad_token, pieces, Fields, kind, line_at, line_before, numbered, lines, fields_of, EntryText, EntryFault, read_fields, stage, Extends, State, Start, IsEntryOf, AreEntriesOf, record_seen, rest_lines, rest_len, then_rest, then_more, goes_on, ended_before, record_of, FailsFor, most_texts_of, IsKept, extends_trans}
use Rattle.patr_model.specs.LexiconLines.{comments_after, control_in, or_later}
use Rattle.patr_model.specs.declared.field.LexiconLine.{LexiconLine}
use Rattle.patr_text.specs.declared.fault.Fault.{Fault}
use Rattle.patr_text.specs.declared.token.BadToken.{BadToken}
use Rattle.patr_lexicon.specs.Parts.{place_seen}
use Rattle.patr_text.specs.declared.fault.Fault.TheVariants.{Memory, Refused}
use Rattle.patr_lexicon.specs.declared.lexicon.Entry as code
use Rattle.patr_lexicon.specs.declared.lexicon.LexiconCause.{LexiconCause}
use Rattle.patr_lexicon.specs.declared.record.Record as code_record
use Rattle.patr_lexicon.specs.Records.{closed}
use Rattle.patr_lexicon.proofs.States.{ends}
use Rattle.patr_lexicon.proofs.Grown.{entries_still}

extends_self : (texts : List (List ℕ)) → Extends texts texts
extends_self texts = ([], sym (append-nil texts))

-- ---- entries that are kept

pub none_kept : (table : List (List ℕ)) (es : List code.Entry) → IsKept table es es None
none_kept table es = record { more = []; texts = []; items = sym (append-nil es); numbers = tt; few = omega arith; read = λ rest. refl }

pub one_kept : (table : List (List ℕ)) (old new : List code.Entry) (r : code_record.Record) (e : code.Entry) (t : EntryText)
    → new ≡ old ++ e ∷ [] → closed (record_seen r) ≡ Ok t → IsEntryOf table e t → IsKept table old new (Some r)
one_kept table old new r e t items is numbers = record { more = e ∷ []; texts = t ∷ []; items = items; numbers = (numbers, tt); few = omega arith; read = λ rest. ap (λ x. then_rest x rest) is }

entries_two : (table : List (List ℕ)) (xs : List code.Entry) (ys : List EntryText) (us : List code.Entry) (vs : List EntryText) → AreEntriesOf table xs ys → AreEntriesOf table us vs → AreEntriesOf table (xs ++ us) (ys ++ vs)
entries_two table [] [] us vs h k = k
entries_two table (x ∷ xs) (y ∷ ys) us vs h k = (h.0, entries_two table xs ys us vs h.1 k)
entries_two table _ _ us vs h k = absurd h

-- ---- entries, and what is read behind them

more_two : (ts us : List EntryText) (r : Result (List EntryText) EntryFault) → then_more ts (then_more us r) ≡ then_more (ts ++ us) r
more_two [] us r = refl
more_two (t ∷ ts) us r = ap (then_rest (Ok t)) (more_two ts us r)

more_none : (ts : List EntryText) → then_more ts (Ok []) ≡ Ok ts
more_none [] = refl
more_none (t ∷ ts) = ap (then_rest (Ok t)) (more_none ts)

more_fails : (ts : List EntryText) (f : EntryFault) → then_more ts (Err f) ≡ Err f
more_fails [] f = refl
more_fails (t ∷ ts) f = ap (then_rest (Ok t)) (more_fails ts f)

-- what a whole text is read as
abbrev pub whole : List ℕ → Result (List EntryText) EntryFault
whole text = read_fields stage (fields_of (lines text))

-- Of a text these entries are read so far, left is what is read behind them, and so many texts may still be numbered.
pub record IsRead (old : List (List ℕ)) (text : List ℕ) (table : List (List ℕ)) (es : List code.Entry) (left : Result (List EntryText) EntryFault) (room : ℕ) : Type 0 where
  pub done : List EntryText
  pub numbers : AreEntriesOf table es done
  pub read : whole text ≡ then_more done left
  pub extends : Extends old table
  pub growth : length table + room ≤ length old + length text
  pub few : length es + room ≤ length text

-- what is left behind the lines before line n
abbrev pub left_at : State → ℕ → List ℕ → Result (List EntryText) EntryFault
left_at s n rest = goes_on s (fields_of (numbered n (pieces (nat_eq 10) rest)))

pub none_read : (old : List (List ℕ)) (text : List ℕ) → IsRead old text old [] (left_at Start 1 text) (0 + length text)
none_read old text = record { done = []; numbers = tt; read = refl; extends = extends_self old; growth = omega arith; few = omega arith }

module _ (old : List (List ℕ)) (text : List ℕ) (table : List (List ℕ)) (es : List code.Entry) where
  -- the same, said otherwise
  pub read_as : (left left' : Result (List EntryText) EntryFault) (room room' : ℕ) → left ≡ left' → room' ≤ room → IsRead old text table es left room → IsRead old text table es left' room'
  read_as left left' room room' same less h = record {
    done = h.done;
    numbers = h.numbers;
    read = h.read ∙ ap (then_more h.done) same;
    extends = h.extends;
    growth = omega (arith, h.growth);
    few = omega (arith, h.few);
  }

  pub kept_read : (new : List (List ℕ)) (es' : List code.Entry) (ended : Option code_record.Record) (rest : Result (List EntryText) EntryFault) (room : ℕ)
      → IsRead old text table es (ended_before ended rest) (most_texts_of ended + room) → Extends table new → length new ≤ length table + most_texts_of ended → IsKept new es es' ended
      → IsRead old text new es' rest room
  kept_read new es' ended rest room h grows growth kept = record {
    done = h.done ++ kept.texts;
    numbers = subst (λ l. AreEntriesOf new l (h.done ++ kept.texts)) (sym kept.items) (entries_two new es h.done kept.more kept.texts (entries_still table new grows es h.done h.numbers) kept.numbers);
    read = h.read ∙ ap (then_more h.done) (kept.read rest) ∙ more_two h.done kept.texts rest;
    extends = extends_trans old table new h.extends grows;
    growth = omega (arith, h.growth, growth);
    few = omega (arith, h.few, kept.few, ap length kept.items, length-append es kept.more);
  }

  pub fails_behind : (left : Result (List EntryText) EntryFault) (room : ℕ) (fault : Fault LexiconCause) → IsRead old text table es left room → FailsFor left fault → FailsFor (whole text) fault
  fails_behind left room Memory h k = tt
  fails_behind left room (Refused c) h k = (k.0, k.1, h.read ∙ ap (then_more h.done) k.2 ∙ more_fails h.done k.0)

  pub all_read : (room : ℕ) → IsRead old text table es (Ok []) room → (texts : List EntryText) × (whole text ≡ Ok texts) × AreEntriesOf table es texts
  all_read room h = (h.done, h.read ∙ more_none h.done, h.numbers)

-- ---- one line

-- a line without a bad character: the first one of the text stands behind it
pub is_clean : (text : List ℕ) (comments : Bool) (n : ℕ) (rest line : List ℕ) (behind : Option (Bor (List ℕ))) (k : LexiconLine) (bad : Option BadToken) → pieces (nat_eq 10) rest ≡ line ∷ rest_lines behind → k ≡ kind line
    → option_map place_seen bad ≡ control_in comments (line_at n line) k → bad_token false (lines text) ≡ bad_token comments (numbered n (pieces (nat_eq 10) rest)) → bad ≡ None
    → bad_token false (lines text) ≡ bad_token (comments_after comments k) (numbered (n + 1) (rest_lines behind))
is_clean text comments n rest line behind k bad cut is found h none =
    let later : LexiconLine → Option Place = λ j. bad_token (comments_after comments j) (numbered (suc n) (rest_lines behind)) in
    let next : suc n ≡ n + 1 = omega arith in
    h ∙ ap (λ ls. bad_token comments (numbered n ls)) cut
    ∙ ap (λ j. or_later (control_in comments (line_at n line) j) (later j)) (sym is)
    ∙ ap (λ p. or_later p (later k)) (sym found ∙ ap (option_map place_seen) none)
    ∙ ap (λ m. bad_token (comments_after comments k) (numbered m (rest_lines behind))) next

pub line_left : (s : State) (n : ℕ) (rest line : List ℕ) (behind : Option (Bor (List ℕ))) → pieces (nat_eq 10) rest ≡ line ∷ rest_lines behind
    → left_at s n rest ≡ goes_on s (line_before (line_at n line) (kind line) (fields_of (numbered (suc n) (rest_lines behind))))
line_left s n rest line behind cut = ap (λ ls. goes_on s (fields_of (numbered n ls))) cut

pub next_left : (s : State) (n : ℕ) (behind : Bor (List ℕ)) → goes_on s (fields_of (numbered (suc n) (rest_lines (Some behind)))) ≡ left_at s (n + 1) behind.now
next_left s n behind =
    let later : suc n ≡ n + 1 = omega arith in
    ap (λ k. left_at s k behind.now) later

module _ (old : List (List ℕ)) (text : List ℕ) (table : List (List ℕ)) (es : List code.Entry) (s : State) (n : ℕ) (rest line : List ℕ) (behind : Option (Bor (List ℕ))) (cut : pieces (nat_eq 10) rest ≡ line ∷ rest_lines behind) where
  -- a line at which the reading fails
  pub line_fails : (room : ℕ) (fault : Fault LexiconCause) → IsRead old text table es (left_at s n rest) room
      → ((fs : Fields) → FailsFor (goes_on s (line_before (line_at n line) (kind line) fs)) fault) → FailsFor (whole text) fault
  line_fails room fault h fails =
      fails_behind old text table es (left_at s n rest) room fault h
      (subst (λ (r : Result (List EntryText) EntryFault). FailsFor r fault) (sym (line_left s n rest line behind cut)) (fails (fields_of (numbered (suc n) (rest_lines behind)))))

  -- a line that is read
  pub line_read : (s' : State) (ended : Option code_record.Record) → IsRead old text table es (left_at s n rest) (most_texts_of (record_of s) + length rest)
      → ((fs : Fields) → goes_on s (line_before (line_at n line) (kind line) fs) ≡ ended_before ended (goes_on s' fs))
      → most_texts_of ended + most_texts_of (record_of s') ≤ most_texts_of (record_of s) + length line → length line + rest_len behind ≡ length rest
      → IsRead old text table es (ended_before ended (goes_on s' (fields_of (numbered (suc n) (rest_lines behind))))) (most_texts_of ended + (most_texts_of (record_of s') + rest_len behind))
  line_read s' ended h reads most_texts len =
      read_as old text table es (left_at s n rest) _ (most_texts_of (record_of s) + length rest) _
      (line_left s n rest line behind cut ∙ reads (fields_of (numbered (suc n) (rest_lines behind)))) (omega (arith, most_texts, len)) h

  -- and whose ended record is kept
  pub line_kept : (s' : State) (ended : Option code_record.Record) (new : List (List ℕ)) (es' : List code.Entry) → IsRead old text table es (left_at s n rest) (most_texts_of (record_of s) + length rest)
      → ((fs : Fields) → goes_on s (line_before (line_at n line) (kind line) fs) ≡ ended_before ended (goes_on s' fs))
      → most_texts_of ended + most_texts_of (record_of s') ≤ most_texts_of (record_of s) + length line → length line + rest_len behind ≡ length rest
      → Extends table new → length new ≤ length table + most_texts_of ended → IsKept new es es' ended
      → IsRead old text new es' (goes_on s' (fields_of (numbered (suc n) (rest_lines behind)))) (most_texts_of (record_of s') + rest_len behind)
  line_kept s' ended new es' h reads most_texts len grows growth kept =
      kept_read old text table es new es' ended (goes_on s' (fields_of (numbered (suc n) (rest_lines behind)))) (most_texts_of (record_of s') + rest_len behind) (line_read s' ended h reads most_texts len) grows growth kept

module _ (old : List (List ℕ)) (text : List ℕ) (table : List (List ℕ)) (es : List code.Entry) (s : State) (n : ℕ) (behind : Option (Bor (List ℕ))) where
  -- no line is left
  pub last_read : behind ≡ None → IsRead old text table es (goes_on s (fields_of (numbered (suc n) (rest_lines behind)))) (most_texts_of (record_of s) + rest_len behind)
      → IsRead old text table es (ended_before (record_of s) (Ok [])) (most_texts_of (record_of s) + 0)
  last_read none h = read_as old text table es _ _ _ _ (ap (λ b. goes_on s (fields_of (numbered (suc n) (rest_lines b)))) none ∙ ends s) (omega arith) h

  -- a line is left
  pub next_read : (b : Bor (List ℕ)) → behind ≡ Some b → IsRead old text table es (goes_on s (fields_of (numbered (suc n) (rest_lines behind)))) (most_texts_of (record_of s) + rest_len behind)
      → IsRead old text table es (left_at s (n + 1) b.now) (most_texts_of (record_of s) + length b.now)
  next_read b some h =
      read_as old text table es _ _ _ _ (ap (λ b. goes_on s (fields_of (numbered (suc n) (rest_lines b)))) some ∙ next_left s n b) (omega (arith, ap rest_len some)) h
