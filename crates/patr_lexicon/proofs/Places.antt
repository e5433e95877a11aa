-- Where pieces stand in a text, and the places of its bytes.
use Rattle.std.proofs.Common.{◌≡◌, ◌≢◌, ℕ, suc, ◌+◌, ◌<◌, ◌≤◌, Bool, true, false, cond, nat_eq, List, [], ◌∷◌, ◌++◌, length, get_or, take, drop, Option, None, Some, Bor, refl, sym, ap, ◌∙◌, subst, arith, append_assoc, inl, inr, length-append, length-take, length-drop}
use Rattle.patr_lexicon.proofs.Names.{IsCharBoundary, IsUtf8, All, take-add, ne_eqb, cases_lt, map-append, get_or-drop, get_or-take, drop-drop, drop-take, take-take, take_at, drop_at, take-append-le, All-nil, All-push, All-weaker, IsCharBoundary-start, IsCharBoundary-end, IsCharBoundary-before_ascii, IsCharBoundary-after_ascii, IsCharBoundary-from_rest, Place, step, after, start_place, piece_end, end_of, place_at, NoLf, rest_text, piece_seen, pieces_seen, StandsAt, end_byte, EndsBy, AreLaid, AreLaidBefore, IsLaidBefore}
use Rattle.patr_model.specs.LexiconLines.{Piece, behind, line_at}
use Rattle.patr_lexicon.specs.declared.line.Piece as code_piece
use Rattle.patr_lexicon.specs.declared.features.Features as code_features
use Rattle.patr_lexicon.specs.declared.record.Record as code_record

-- ---- places

pub after_two : (p : Place) (xs ys : List ℕ) → after p (xs ++ ys) ≡ after (after p xs) ys
after_two p [] ys = refl
after_two p (x ∷ xs) ys = after_two (step p x) xs ys

after_take : (p : Place) (bs : List ℕ) (n k : ℕ) → after p (take (n + k) bs) ≡ after (after p (take n bs)) (take k (drop n bs))
after_take p bs n k = ap (after p) (take-add n k bs) ∙ after_two p (take n bs) (take k (drop n bs))

-- a byte that is no LF
step_by : (n k b : ℕ) → b ≢ 10 → step (place_at n k) b ≡ place_at n (k + 1)
step_by n k b other = ap (λ t. cond t (place_at (n + 1) 1) (place_at n (k + 1))) (ne_eqb b 10 other)

-- bytes without an LF
after_line : (n k : ℕ) (bs : List ℕ) → NoLf bs → after (place_at n k) bs ≡ place_at n (k + length bs)
after_line n k [] h = ap (place_at n) (omega arith)
after_line n k (b ∷ bs) h =
    let e : k + 1 + length bs ≡ k + suc (length bs) = omega arith in
    ap (λ (p : Place). after p bs) (step_by n k b (h 0 (omega arith))) ∙ after_line n (k + 1) bs (λ i lt. h (suc i) (omega arith)) ∙ ap (place_at n) e

get_or_at : (xs : List ℕ) (y : ℕ) (ys : List ℕ) → get_or (xs ++ y ∷ ys) (length xs) 0 ≡ y
get_or_at [] y ys = refl
get_or_at (x ∷ xs) y ys = get_or_at xs y ys

no_lf_front : (bs : List ℕ) (k : ℕ) → NoLf bs → NoLf (take k bs)
no_lf_front bs k h = λ i lt.
    let few : i < k = omega (arith, length-take k bs, lt) in
    let within : i < length bs = omega (arith, length-take k bs, lt) in
    subst (λ b. b ≢ 10) (sym (get_or-take k bs i 0 few)) (h i within)

-- no line and no column is past the bytes that stand before
step_within : (p : Place) (b : ℕ) → 1 ≤ p.column → ((step p b).line ≤ p.line + 1) × (1 ≤ (step p b).column) × ((step p b).column ≤ p.column + 1)
step_within p b one = by (nat_eq b 10)
  where
    by : (t : Bool) → (let q : Place = cond t (place_at (p.line + 1) 1) (place_at p.line (p.column + 1)) in (q.line ≤ p.line + 1) × (1 ≤ q.column) × (q.column ≤ p.column + 1))
    by true = (omega arith, omega arith, omega arith)
    by false = (omega arith, omega arith, omega arith)

after_within : (p : Place) (bs : List ℕ) → 1 ≤ p.column → ((after p bs).line ≤ p.line + length bs) × ((after p bs).column ≤ p.column + length bs)
after_within p [] one = (omega arith, omega arith)
after_within p (b ∷ bs) one = let s = step_within p b one in let h = after_within (step p b) bs s.1 in (omega (arith, h.0, s.0), omega (arith, h.1, s.2))

-- ---- where a text may be cut

-- a byte of a piece of a text
byte_is : (text bs : List ℕ) (start k : ℕ) → drop start (take (start + length bs) text) ≡ bs → k < length bs → get_or bs k 0 ≡ get_or text (start + k) 0
byte_is text bs start k is lt =
    ap (λ (l : List ℕ). get_or l k 0) (sym is) ∙ get_or-drop start (take (start + length bs) text) k 0 ∙ get_or-take (start + length bs) text (start + k) 0 (omega arith)

-- a text may be cut inside a piece where the piece may be
cut_inside : (text bs : List ℕ) (start k : ℕ) → drop start (take (start + length bs) text) ≡ bs → IsCharBoundary text (start + length bs) → IsCharBoundary bs k → IsCharBoundary text (start + k)
cut_inside text bs start k is end cut = elim (cases_lt k (length bs)) [
  | inl lt ↦ (omega (arith, end.0, lt), λ within high. let e = byte_is text bs start k is lt in omega (arith, e, cut.1 lt (omega (arith, e, high))))
  | inr ge ↦ let e : start + length bs ≡ start + k = omega (arith, ge, cut.0) in subst (IsCharBoundary text) e end
]

-- the front of a text may be cut where the text may
cut_front : (text : List ℕ) (i end : ℕ) → IsCharBoundary text i → i ≤ end → end ≤ length text → IsCharBoundary (take end text) i
cut_front text i end cut le within = (
  omega (arith, length-take end text),
  λ lt high.
      let few : i < end = omega (arith, length-take end text, lt) in
      let e = get_or-take end text i 0 few in
      omega (arith, e, cut.1 (omega arith) (omega (arith, e, high))),
)

-- ---- pieces

module _ (text : List ℕ) (start : ℕ) (p : Piece) (h : StandsAt text start p) where
  pub line_bound : p.place.line + length p.text ≤ 1 + length text
  line_bound = omega (arith, ap (λ (q : Place). q.line) (h.places 0 (omega arith)), (after_within start_place (take (start + 0) text) (omega arith)).0, length-take (start + 0) text, h.ends.0)

  pub column_bound : p.place.column + length p.text ≤ 1 + length text
  column_bound = omega (arith, ap (λ (q : Place). q.column) (h.places 0 (omega arith)), (after_within start_place (take (start + 0) text) (omega arith)).1, length-take (start + 0) text, h.ends.0)

  -- behind so many bytes
  pub stands_behind : (n : ℕ) → IsCharBoundary p.text n → StandsAt text (start + n) (behind n p)
  stands_behind n cut =
      let end : start + length p.text ≡ start + n + length (drop n p.text) = omega (arith, length-drop n p.text, cut.0) in
      record {
        begins = cut_inside text p.text start n h.slice h.ends cut;
        ends = subst (IsCharBoundary text) end h.ends;
        slice = ap (λ k. drop (start + n) (take k text)) (sym end) ∙ sym (drop-drop n start (take (start + length p.text) text)) ∙ ap (drop n) h.slice;
        places = λ k le.
            let e : start + (n + k) ≡ start + n + k = omega arith in
            let c : p.place.column + (n + k) ≡ p.place.column + n + k = omega arith in
            ap (λ j. after start_place (take j text)) (sym e) ∙ h.places (n + k) (omega (arith, le, length-drop n p.text, cut.0)) ∙ ap (place_at p.place.line) c;
      }

  -- in a front of the text
  pub stands_front : (end : ℕ) → start + length p.text ≤ end → end ≤ length text → StandsAt (take end text) start p
  stands_front end le within = record {
    begins = cut_front text start end h.begins (omega arith) within;
    ends = cut_front text (start + length p.text) end h.ends le within;
    slice = ap (drop start) (take-take (start + length p.text) end text le) ∙ h.slice;
    places = λ k few. ap (after start_place) (take-take (start + k) end text (omega arith)) ∙ h.places k few;
  }

  end_place : after start_place (take (start + length p.text) text) ≡ piece_end p
  end_place = h.places (length p.text) (omega arith)

-- ---- lines

-- a line begins at this byte of a text, and has this number
pub record BeginsAt (text : List ℕ) (start number : ℕ) (left : List ℕ) : Type 0 where
  pub rest : drop start text ≡ left
  pub cut : IsCharBoundary text start
  pub place : after start_place (take start text) ≡ place_at number 1

pub first_begins : (text : List ℕ) → IsUtf8 text → BeginsAt text 0 1 text
first_begins text utf8 = record { rest = refl; cut = IsCharBoundary-start text utf8; place = refl }

module _ (text : List ℕ) (start number : ℕ) (rest line : List ℕ) (behind : Option (Bor (List ℕ))) (h : BeginsAt text start number rest) (cut : rest ≡ line ++ rest_text behind) (no_lf : NoLf line) where
  len_is : start + length rest ≡ length text
  len_is = omega (arith, ap length h.rest, length-drop start text, h.cut.0)

  place_within : (k : ℕ) → k ≤ length line → after start_place (take (start + k) text) ≡ place_at number (1 + k)
  place_within k le =
      let front : take k (drop start text) ≡ take k line = ap (take k) (h.rest ∙ cut) ∙ take-append-le k line (rest_text behind) le in
      after_take start_place text start k ∙ ap (λ (p : Place). after p (take k (drop start text))) h.place ∙ ap (after (place_at number 1)) front
      ∙ after_line number 1 (take k line) (no_lf_front line k no_lf) ∙ ap (λ n. place_at number (1 + n)) (omega (arith, length-take k line))

  end_cut : (o : Option (Bor (List ℕ))) → rest ≡ line ++ rest_text o → IsCharBoundary rest (length line)
  end_cut None e =
      let n : length rest ≡ length line = omega (arith, ap length e, length-append line []) in
      subst (IsCharBoundary rest) n (IsCharBoundary-end rest)
  end_cut (Some b) e =
      let lt : length line < length rest = omega (arith, ap length e, length-append line (10 ∷ b.now)) in
      let byte : get_or rest (length line) 0 ≡ 10 = ap (λ (l : List ℕ). get_or l (length line) 0) e ∙ get_or_at line 10 b.now in
      IsCharBoundary-before_ascii rest (length line) lt (omega (arith, byte))

  -- the line stands there
  pub line_stands : StandsAt text start (line_at number line)
  line_stands = record {
    begins = h.cut;
    ends = IsCharBoundary-from_rest text start (length line) h.cut.0 (subst (λ (l : List ℕ). IsCharBoundary l (length line)) (sym h.rest) (end_cut behind cut));
    slice = drop-take start (length line) text ∙ ap (take (length line)) (h.rest ∙ cut) ∙ take_at line (rest_text behind) (length line) refl;
    places = place_within;
  }

  -- and the next line where it ends
  pub next_begins : IsUtf8 text → (b : Bor (List ℕ)) → behind ≡ Some b → BeginsAt text (start + (length line + 1)) (number + 1) b.now
  next_begins utf8 b some =
      let e : rest ≡ (line ++ 10 ∷ []) ++ b.now = cut ∙ ap (λ o. line ++ rest_text o) some ∙ sym (append_assoc line (10 ∷ []) b.now) in
      let n : length (line ++ 10 ∷ []) ≡ length line + 1 = length-append line (10 ∷ []) in
      let lf : get_or text (start + length line) 0 ≡ 10 = sym (get_or-drop start text (length line) 0) ∙ ap (λ (l : List ℕ). get_or l (length line) 0) (h.rest ∙ e ∙ append_assoc line (10 ∷ []) b.now) ∙ get_or_at line 10 b.now in
      let last : start + length line < length text = omega (arith, len_is, ap length e, length-append (line ++ 10 ∷ []) b.now, n) in
      let next : start + length line + 1 ≡ start + (length line + 1) = omega arith in
      record {
        rest = sym (drop-drop (length line + 1) start text) ∙ ap (drop (length line + 1)) (h.rest ∙ e) ∙ drop_at (line ++ 10 ∷ []) b.now (length line + 1) n;
        cut = subst (IsCharBoundary text) next (IsCharBoundary-after_ascii text (start + length line) utf8 last (omega (arith, lf)));
        place = after_take start_place text start (length line + 1) ∙ ap (λ (p : Place). after p (take (length line + 1) (drop start text))) h.place
            ∙ ap (λ (l : List ℕ). after (place_at number 1) (take (length line + 1) l)) (h.rest ∙ e) ∙ ap (after (place_at number 1)) (take_at (line ++ 10 ∷ []) b.now (length line + 1) n)
            ∙ after_two (place_at number 1) line (10 ∷ []) ∙ ap (λ (p : Place). step p 10) (after_line number 1 line no_lf);
      }

-- ---- pieces of features

end_push : (q : Place) (ps : List Piece) (p : Piece) → end_of q (ps ++ p ∷ []) ≡ piece_end p
end_push q [] p = refl
end_push q (r ∷ ps) p = end_push (piece_end r) ps p

module _ (text : List ℕ) (f : code_features.Features) where
  pub none_laid : (at : ℕ) → f.pieces.items ≡ [] → f.end ≡ 0 → AreLaidBefore text at f
  none_laid at none zero' = record {
    laid = record {
      pieces = subst (All (EndsBy text f.end)) (sym none) (All-nil (EndsBy text f.end));
      cut = λ some. absurd (omega (arith, some, zero'));
      end = ap (λ ps. end_of start_place (pieces_seen ps)) none ∙ sym (ap (λ n. after start_place (take n text)) zero');
    };
    before = omega (arith, zero');
  }

  pub laid_later : (at later : ℕ) → at ≤ later → AreLaidBefore text at f → AreLaidBefore text later f
  laid_later at later le h = record { laid = h.laid; before = omega (arith, h.before, le) }

  pub laid_push : (g : code_features.Features) (p : code_piece.Piece) → AreLaidBefore text p.start f → StandsAt text p.start (piece_seen p) → g.pieces.items ≡ f.pieces.items ++ p ∷ [] → g.end ≡ end_byte p → AreLaidBefore text (end_byte p) g
  laid_push g p h stands items end =
      let more : (q : code_piece.Piece) → EndsBy text f.end q → EndsBy text g.end q = λ q e. record { stands = e.stands; within = omega (arith, e.within, end, h.before) } in
      let last : EndsBy text g.end p = record { stands = stands; within = omega (arith, end) } in
      record {
        laid = record {
          pieces = subst (All (EndsBy text g.end)) (sym items) (All-push (EndsBy text g.end) f.pieces.items p (All-weaker (EndsBy text f.end) (EndsBy text g.end) more f.pieces.items h.laid.pieces) last);
          cut = λ some. subst (IsCharBoundary text) (sym end) stands.ends;
          end = ap (λ ps. end_of start_place (pieces_seen ps)) items ∙ ap (end_of start_place) (map-append piece_seen f.pieces.items (p ∷ [])) ∙ end_push start_place (pieces_seen f.pieces.items) (piece_seen p)
              ∙ sym (end_place text p.start (piece_seen p) stands) ∙ sym (ap (λ n. after start_place (take n text)) end);
        };
        before = omega (arith, end);
      }

  -- they end within the text, where it may be cut
  pub laid_cut : IsUtf8 text → AreLaid text f → IsCharBoundary text f.end
  laid_cut utf8 h = elim (cases_lt 0 f.end) [
    | inl some ↦ h.cut some
    | inr none ↦ let e : 0 ≡ f.end = omega (arith, none) in subst (IsCharBoundary text) e (IsCharBoundary-start text utf8)
  ]

  -- each of them stands in the front of the text that ends with them
  pub stand_front : f.end ≤ length text → AreLaid text f → All (λ (p : code_piece.Piece). StandsAt (take f.end text) p.start (piece_seen p)) f.pieces.items
  stand_front within h =
      All-weaker (EndsBy text f.end) (λ (p : code_piece.Piece). StandsAt (take f.end text) p.start (piece_seen p)) (λ p e. stands_front text p.start (piece_seen p) e.stands f.end e.within within) f.pieces.items h.pieces

pub record_later : (text : List ℕ) (at later : ℕ) (r : Option code_record.Record) → at ≤ later → IsLaidBefore text at r → IsLaidBefore text later r
record_later text at later None le h = tt
record_later text at later (Some r) le h = laid_later text r.features at later le h
