-- The lines of a lexicon, cut one by one from the front.
use Rattle.std.proofs.Common.{◌≡◌, ℕ, suc, ◌+◌, ◌<◌, ◌≤◌, List, [], ◌∷◌, ◌++◌, length, get_or, take, drop, Bool, true, false, cond, not, ◌&&◌, nat_eq, Option, Some, None, refl, sym, ap, ◌∙◌, subst, arith, length-append, drop-cons, add-one}
use Rattle.std.proofs.Math.ListN.{drop_of_length-le}
use Rattle.patr_lexicon.proofs.Names.{IsCharBoundary, ne_eqb, Place, is_control, is_edge, control, NoLf, place_at, Cut, cut_at, pieces, prefix_len}
use Rattle.std.proofs.lemmas.Bool.Decides.{nat_tests}
use Rattle.std.proofs.lemmas.List.Sums.{prefix_len-le-length}

no_first : (b : ℕ) (bs : List ℕ) → NoLf (b ∷ bs) → nat_eq 10 b ≡ false
no_first b bs h = ne_eqb 10 b (λ e. h 0 (omega arith) (sym e))

no_other : (b : ℕ) (bs : List ℕ) → NoLf (b ∷ bs) → NoLf bs
no_other b bs h = λ i lt. h (suc i) (omega arith)

abbrev onto : ℕ → Cut → Cut
onto b c = record { first = b ∷ c.first; rest = c.rest }

abbrev ended : List ℕ → Cut → Cut
ended line c = record { first = line; rest = c.first ∷ c.rest }

cut_ended : (line rest : List ℕ) → NoLf line → cut_at (nat_eq 10) (line ++ 10 ∷ rest) ≡ ended line (cut_at (nat_eq 10) rest)
cut_ended [] rest h = refl
cut_ended (b ∷ bs) rest h =
    let c = cut_at (nat_eq 10) (bs ++ 10 ∷ rest) in
    ap (λ t. cond t (ended [] c) (onto b c)) (no_first b bs h) ∙ ap (onto b) (cut_ended bs rest (no_other b bs h))

cut_last : (line : List ℕ) → NoLf line → cut_at (nat_eq 10) line ≡ record { first = line; rest = [] }
cut_last [] h = refl
cut_last (b ∷ bs) h =
    let c = cut_at (nat_eq 10) bs in
    ap (λ t. cond t (ended [] c) (onto b c)) (no_first b bs h) ∙ ap (onto b) (cut_last bs (no_other b bs h))

pieces_of_cut : Cut → List (List ℕ)
pieces_of_cut c = c.first ∷ c.rest

-- a line that an LF ends stands before the lines of the rest
pub line_ended : (text line rest : List ℕ) → text ≡ line ++ 10 ∷ rest → NoLf line → pieces (nat_eq 10) text ≡ line ∷ pieces (nat_eq 10) rest
unfolding pieces_of_cut
line_ended text line rest is h = rw is (ap pieces_of_cut (cut_ended line rest h))

-- a text with no LF is one line
pub line_last : (line : List ℕ) → NoLf line → pieces (nat_eq 10) line ≡ line ∷ []
unfolding pieces_of_cut
line_last line h = ap pieces_of_cut (cut_last line h)

-- the pieces of a text, of which the first has n bytes
module _ (test : ℕ → Bool) where
  passes : ℕ → Bool
  passes b = not (test b)

  abbrev at_piece : List ℕ → ℕ → Cut
  at_piece bs n = record { first = take n bs; rest = pieces test (drop (suc n) bs) }

  cut_behind : (bs : List ℕ) → prefix_len passes bs < length bs → cut_at test bs ≡ at_piece bs (prefix_len passes bs)
  unfolding passes
  cut_behind [] h = absurd (omega arith)
  cut_behind (b ∷ bs) h = go (test b) (cut_behind bs) h
    where
      go : (t : Bool) → (prefix_len passes bs < length bs → cut_at test bs ≡ at_piece bs (prefix_len passes bs)) → cond (not t) (1 + prefix_len passes bs) 0 < length (b ∷ bs)
          → cond t (ended [] (cut_at test bs)) (onto b (cut_at test bs)) ≡ at_piece (b ∷ bs) (cond (not t) (1 + prefix_len passes bs) 0)
      go true next lt = refl
      go false next lt =
          let more : suc (prefix_len passes bs) ≡ 1 + prefix_len passes bs = omega arith in
          ap (onto b) (next (omega (arith, lt))) ∙ ap (at_piece (b ∷ bs)) more

  cut_whole : (bs : List ℕ) → prefix_len passes bs ≡ length bs → cut_at test bs ≡ record { first = bs; rest = [] }
  unfolding passes
  cut_whole [] h = refl
  cut_whole (b ∷ bs) h = go (test b) (cut_whole bs) h
    where
      go : (t : Bool) → (prefix_len passes bs ≡ length bs → cut_at test bs ≡ record { first = bs; rest = [] }) → cond (not t) (1 + prefix_len passes bs) 0 ≡ length (b ∷ bs)
          → cond t (ended [] (cut_at test bs)) (onto b (cut_at test bs)) ≡ record { first = b ∷ bs; rest = [] }
      go true next e = absurd (omega (arith, e))
      go false next e = ap (onto b) (next (omega (arith, e)))

  pub pieces_behind : (bs : List ℕ) (n : ℕ) → n ≡ prefix_len (λ b. not (test b)) bs → (n ≡ length bs → ⊥) → pieces test bs ≡ take n bs ∷ pieces test (drop (n + 1) bs)
  unfolding passes pieces_of_cut
  pieces_behind bs n is short =
      let lt : n < length bs = omega (arith, short, subst (λ k. k ≤ length bs) (sym is) (prefix_len-le-length passes bs)) in
      let more : suc n ≡ n + 1 = omega arith in
      ap pieces_of_cut (cut_behind bs (subst (λ k. k < length bs) is lt) ∙ ap (at_piece bs) (sym is)) ∙ ap (λ k. take n bs ∷ pieces test (drop k bs)) more

  pub pieces_whole : (bs : List ℕ) (n : ℕ) → n ≡ prefix_len (λ b. not (test b)) bs → n ≡ length bs → pieces test bs ≡ bs ∷ []
  unfolding passes pieces_of_cut
  pieces_whole bs n is all = ap pieces_of_cut (cut_whole bs (sym is ∙ all))

pub line_len : (text line rest : List ℕ) → text ≡ line ++ 10 ∷ rest → length line + (1 + length rest) ≡ length text
line_len text line rest is = omega (arith, ap length is, length-append line (10 ∷ rest))

-- ---- control characters

module _ (comments : Bool) (n k : ℕ) (bs : List ℕ) (i : ℕ) where
  here : i < length bs → drop i bs ≡ get_or bs i 0 ∷ drop (i + 1) bs
  here lt = rw (add-one, drop-cons bs i 0) refl

  step : ℕ → List ℕ → Bool → Bool → Option Place
  step b rest t u = cond t (Some (place_at n k)) (cond u None (control comments (place_at n (k + 1)) rest))

  begins : i < length bs → control comments (place_at n k) (drop i bs) ≡ step (get_or bs i 0) (drop (i + 1) bs) (is_control (get_or bs i 0)) (comments && nat_eq (get_or bs i 0) 59)
  unfolding step control
  begins lt = ap (control comments (place_at n k)) (here lt)

  pub control_hit : i < length bs → is_control (get_or bs i 0) ≡ true → control comments (place_at n k) (drop i bs) ≡ Some (place_at n k)
  unfolding step
  control_hit lt hit = begins lt ∙ ap (λ t. step (get_or bs i 0) (drop (i + 1) bs) t (comments && nat_eq (get_or bs i 0) 59)) hit

  pub control_stops : i < length bs → is_control (get_or bs i 0) ≡ false → (comments && nat_eq (get_or bs i 0) 59) ≡ true → control comments (place_at n k) (drop i bs) ≡ None
  unfolding step
  control_stops lt passes stops =
      begins lt ∙ ap (λ t. step (get_or bs i 0) (drop (i + 1) bs) t (comments && nat_eq (get_or bs i 0) 59)) passes
      ∙ ap (step (get_or bs i 0) (drop (i + 1) bs) false) stops

  pub control_goes_on : i < length bs → is_control (get_or bs i 0) ≡ false → (comments && nat_eq (get_or bs i 0) 59) ≡ false → control comments (place_at n k) (drop i bs) ≡ control comments (place_at n (k + 1)) (drop (i + 1) bs)
  unfolding step
  control_goes_on lt passes goes =
      begins lt ∙ ap (λ t. step (get_or bs i 0) (drop (i + 1) bs) t (comments && nat_eq (get_or bs i 0) 59)) passes
      ∙ ap (step (get_or bs i 0) (drop (i + 1) bs) false) goes

  pub control_ends : length bs ≤ i → control comments (place_at n k) (drop i bs) ≡ None
  unfolding control
  control_ends le = ap (control comments (place_at n k)) (drop_of_length-le bs le)

-- ---- where a text may be cut

pub edge_is_ascii : (b : ℕ) → is_edge b ≡ true → b < 128
edge_is_ascii b h = grind (arith, nat_tests)

pub edge_is_boundary : (bs : List ℕ) (i : ℕ) → i ≤ length bs → (i < length bs → is_edge (get_or bs i 0) ≡ true) → IsCharBoundary bs i
edge_is_boundary bs i le edge = (le, λ lt high. absurd (omega (arith, edge_is_ascii (get_or bs i 0) (edge lt))))
