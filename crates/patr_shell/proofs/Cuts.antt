-- How lines are cut where the bytes come in pieces.
use Rattle.std.proofs.Common.{◌≡◌, ℕ, zero, suc, take, nat_eq, eqb-true, List, [], ◌∷◌, ◌++◌, true, false, cond, refl, sym, ◌∙◌, ap, subst, append-nil, append_assoc}
use Rattle.patr_shell.proofs.Names.{Cut, cut_at, without_cr, whole_lines_from, whole_lines_of, lines_by, lines_of, last_of, last_piece, last_line, HasNoFeed}

abbrev pub cut : List ℕ → Cut
cut bytes = cut_at (nat_eq 10) bytes

-- pieces, and then the pieces of more bytes
abbrev joined : List ℕ → List (List ℕ) → List ℕ → Cut
joined first [] ys = record { first = first ++ (cut ys).first; rest = (cut ys).rest }
joined first (next ∷ rest) ys = record { first = first; rest = (joined next rest ys).first ∷ (joined next rest ys).rest }

abbrev onto : ℕ → Cut → Cut
onto b c = record { first = b ∷ c.first; rest = c.rest }

abbrev behind : Cut → Cut
behind c = record { first = []; rest = c.first ∷ c.rest }

joined_onto : (b : ℕ) (first : List ℕ) (rest : List (List ℕ)) (ys : List ℕ) → onto b (joined first rest ys) ≡ joined (b ∷ first) rest ys
joined_onto b first [] ys = refl
joined_onto b first (next ∷ rest) ys = refl

cut_two : (xs ys : List ℕ) → cut (xs ++ ys) ≡ joined (cut xs).first (cut xs).rest ys
cut_two [] ys = refl
cut_two (b ∷ bs) ys =
    elim (nat_eq 10 b) as (λ t. cond t (behind (cut (bs ++ ys))) (onto b (cut (bs ++ ys))) ≡ joined (cond t (behind (cut bs)) (onto b (cut bs))).first (cond t (behind (cut bs)) (onto b (cut bs))).rest ys) [
      | true ↦ ap behind (cut_two bs ys)
      | false ↦ ap (onto b) (cut_two bs ys) ∙ joined_onto b (cut bs).first (cut bs).rest ys
    ]

-- bytes without an LF are one piece
first_of_free : (xs : List ℕ) → HasNoFeed xs → (cut xs).first ≡ xs
first_of_free [] none = refl
first_of_free (b ∷ bs) none =
    elim (nat_eq 10 b) as (λ t. (cond t (behind (cut bs)) (onto b (cut bs))).rest ≡ [] → (cond t (behind (cut bs)) (onto b (cut bs))).first ≡ b ∷ bs) [
      | true ↦ λ some. cc
      | false ↦ λ none. ap (λ l. b ∷ l) (first_of_free bs none)
    ] none

module _ (xs : List ℕ) (none : HasNoFeed xs) where
  -- more bytes go on with the piece
  pub cut_behind : (ys : List ℕ) → cut (xs ++ ys) ≡ record { first = xs ++ (cut ys).first; rest = (cut ys).rest }
  cut_behind ys =
      cut_two xs ys ∙ ap (λ r. joined (cut xs).first r ys) none ∙ ap (λ (f : List ℕ). joined f [] ys) (first_of_free xs none)

  pub lines_behind : (ys : List ℕ) → whole_lines_of (xs ++ ys) ≡ whole_lines_from (xs ++ (cut ys).first) (cut ys).rest
  lines_behind ys = ap (λ (c : Cut). whole_lines_from c.first c.rest) (cut_behind ys)

  pub piece_behind : (ys : List ℕ) → last_piece (xs ++ ys) ≡ last_of (xs ++ (cut ys).first) (cut ys).rest
  piece_behind ys = ap (λ (c : Cut). last_of c.first c.rest) (cut_behind ys)

  pub free_two : (ys : List ℕ) → HasNoFeed ys → HasNoFeed (xs ++ ys)
  free_two ys other = ap (λ (c : Cut). c.rest) (cut_behind ys) ∙ other

  pub lines_of_free : whole_lines_of xs ≡ []
  lines_of_free = ap (λ r. whole_lines_from (cut xs).first r) none

  pub piece_of_free : last_piece xs ≡ xs
  piece_of_free = ap (λ r. last_of (cut xs).first r) none ∙ first_of_free xs none

  -- an LF ends the piece
  pub line_ended : (ys : List ℕ) → whole_lines_of (xs ++ 10 ∷ ys) ≡ without_cr xs ∷ whole_lines_of ys
  line_ended ys = lines_behind (10 ∷ ys) ∙ ap (λ (l : List ℕ). without_cr l ∷ whole_lines_of ys) (append-nil xs)

  pub piece_ended : (ys : List ℕ) → last_piece (xs ++ 10 ∷ ys) ≡ last_piece ys
  piece_ended ys = piece_behind (10 ∷ ys)

-- no LF stands in pieces
abbrev AreFree : List ℕ → List (List ℕ) → Type 0
AreFree first [] = HasNoFeed first
AreFree first (next ∷ rest) = HasNoFeed first × AreFree next rest

pub free_onto : (b : ℕ) → nat_eq 10 b ≡ false → (first : List ℕ) → HasNoFeed first → HasNoFeed (b ∷ first)
free_onto b other first none = ap (λ t. (cond t (behind (cut first)) (onto b (cut first))).rest) other ∙ none

are_free_onto : (b : ℕ) → nat_eq 10 b ≡ false → (first : List ℕ) (rest : List (List ℕ)) → AreFree first rest → AreFree (b ∷ first) rest
are_free_onto b other first [] free = free_onto b other first free
are_free_onto b other first (next ∷ rest) free = (free_onto b other first free.0, free.1)

pieces_are_free : (xs : List ℕ) → AreFree (cut xs).first (cut xs).rest
pieces_are_free [] = refl
pieces_are_free (b ∷ bs) =
    elim (nat_eq 10 b) as (λ t. nat_eq 10 b ≡ t → AreFree (cond t (behind (cut bs)) (onto b (cut bs))).first (cond t (behind (cut bs)) (onto b (cut bs))).rest) [
      | true ↦ λ _. (refl, pieces_are_free bs)
      | false ↦ λ other. are_free_onto b other (cut bs).first (cut bs).rest (pieces_are_free bs)
    ] refl

last_is_free : (first : List ℕ) (rest : List (List ℕ)) → AreFree first rest → HasNoFeed (last_of first rest)
last_is_free first [] free = free
last_is_free first (next ∷ rest) free = last_is_free next rest free.1

pub piece_is_free : (xs : List ℕ) → HasNoFeed (last_piece xs)
piece_is_free xs = last_is_free (cut xs).first (cut xs).rest (pieces_are_free xs)

-- the lines and the last piece of two parts
lines_joined : (first : List ℕ) (rest : List (List ℕ)) → AreFree first rest → (ys : List ℕ)
    → whole_lines_from (joined first rest ys).first (joined first rest ys).rest ≡ whole_lines_from first rest ++ whole_lines_of (last_of first rest ++ ys)
lines_joined first [] free ys = sym (lines_behind first free ys)
lines_joined first (next ∷ rest) free ys = ap (λ (l : List (List ℕ)). without_cr first ∷ l) (lines_joined next rest free.1 ys)

piece_joined : (first : List ℕ) (rest : List (List ℕ)) → AreFree first rest → (ys : List ℕ)
    → last_of (joined first rest ys).first (joined first rest ys).rest ≡ last_piece (last_of first rest ++ ys)
piece_joined first [] free ys = sym (piece_behind first free ys)
piece_joined first (next ∷ rest) free ys = piece_joined next rest free.1 ys

pub lines_of_two : (xs ys : List ℕ) → whole_lines_of (xs ++ ys) ≡ whole_lines_of xs ++ whole_lines_of (last_piece xs ++ ys)
lines_of_two xs ys = ap (λ (c : Cut). whole_lines_from c.first c.rest) (cut_two xs ys) ∙ lines_joined (cut xs).first (cut xs).rest (pieces_are_free xs) ys

pub piece_of_two : (xs ys : List ℕ) → last_piece (xs ++ ys) ≡ last_piece (last_piece xs ++ ys)
piece_of_two xs ys = ap (λ (c : Cut). last_of c.first c.rest) (cut_two xs ys) ∙ piece_joined (cut xs).first (cut xs).rest (pieces_are_free xs) ys

-- the lines that an LF ends, and then the last
lines_with_last : (first : List ℕ) (rest : List (List ℕ)) → lines_by without_cr first rest ≡ whole_lines_from first rest ++ last_line (last_of first rest)
lines_with_last first [] = refl
lines_with_last first (next ∷ rest) = ap (λ (l : List (List ℕ)). without_cr first ∷ l) (lines_with_last next rest)

pub lines_are : (xs : List ℕ) → lines_of xs ≡ whole_lines_of xs ++ last_line (last_piece xs)
lines_are xs = lines_with_last (cut xs).first (cut xs).rest

-- no LF stands in a front of bytes without one
front_free : (n : ℕ) (b : ℕ) (bs : List ℕ) → (HasNoFeed bs → HasNoFeed (take n bs)) → HasNoFeed (b ∷ bs) → HasNoFeed (b ∷ take n bs)
front_free n b bs less none =
    elim (nat_eq 10 b) as (λ t. (cond t (behind (cut bs)) (onto b (cut bs))).rest ≡ [] → (cond t (behind (cut (take n bs))) (onto b (cut (take n bs)))).rest ≡ []) [
      | true ↦ λ some. cc
      | false ↦ λ none. less none
    ] none

pub take_is_free : (n : ℕ) (xs : List ℕ) → HasNoFeed xs → HasNoFeed (take n xs)
take_is_free zero xs none = refl
take_is_free (suc n) [] none = refl
take_is_free (suc n) (b ∷ bs) none = front_free n b bs (take_is_free n bs) none

-- ---- the first lines, with their bytes

-- the bytes up to the last LF, by the pieces between them
abbrev joined_by_feeds : List ℕ → List (List ℕ) → List ℕ
joined_by_feeds first [] = []
joined_by_feeds first (next ∷ rest) = first ++ 10 ∷ joined_by_feeds next rest

-- these lines, and behind them the others, end in bytes: so the bytes begin with those of these lines
pub record FirstLines (bytes : List ℕ) (some others : List (List ℕ)) : Type 0 where
  pub lines : List ℕ
  pub rest : List ℕ
  pub split : bytes ≡ lines ++ rest
  pub whole : last_piece lines ≡ []
  pub are : whole_lines_of lines ≡ some
  pub all : others ≡ [] → HasNoFeed rest

behind_feed : (first j l lines rest : List ℕ) → j ++ l ≡ lines ++ rest → (first ++ 10 ∷ j) ++ l ≡ (first ++ 10 ∷ lines) ++ rest
behind_feed first j l lines rest is = append_assoc first (10 ∷ j) l ∙ ap (λ (k : List ℕ). first ++ 10 ∷ k) is ∙ sym (append_assoc first (10 ∷ lines) rest)

first_pieces : (first : List ℕ) (rest : List (List ℕ)) → AreFree first rest → (some others : List (List ℕ)) → whole_lines_from first rest ≡ some ++ others
    → FirstLines (joined_by_feeds first rest ++ last_of first rest) some others
first_pieces first [] free [] others is = record { lines = []; rest = first; split = refl; whole = refl; are = refl; all = λ none. free }
first_pieces first [] free (l ∷ some) others is = cc
first_pieces first (next ∷ rest) free [] others is = record {
  lines = [];
  rest = joined_by_feeds first (next ∷ rest) ++ last_of next rest;
  split = refl;
  whole = refl;
  are = refl;
  all = λ none. cc;
}
first_pieces first (next ∷ rest) free (l ∷ some) others is =
    let this : without_cr first ≡ l = cc in
    let those : whole_lines_from next rest ≡ some ++ others = cc in
    let more = first_pieces next rest free.1 some others those in
    record {
      lines = first ++ 10 ∷ more.lines;
      rest = more.rest;
      split = behind_feed first (joined_by_feeds next rest) (last_of next rest) more.lines more.rest more.split;
      whole = piece_ended first free.0 more.lines ∙ more.whole;
      are =
          line_ended first free.0 more.lines
          ∙ ap (λ (k : List (List ℕ)). without_cr first ∷ k) more.are
          ∙ ap (λ (k : List ℕ). k ∷ some) this;
      all = more.all;
    }

-- pieces and the LFs between them are the bytes that were cut
pieces_onto : (b : ℕ) (first : List ℕ) (rest : List (List ℕ)) → joined_by_feeds (b ∷ first) rest ++ last_of (b ∷ first) rest ≡ b ∷ (joined_by_feeds first rest ++ last_of first rest)
pieces_onto b first [] = refl
pieces_onto b first (next ∷ rest) = refl

pieces_join : (xs : List ℕ) → joined_by_feeds (cut xs).first (cut xs).rest ++ last_of (cut xs).first (cut xs).rest ≡ xs
pieces_join [] = refl
pieces_join (b ∷ bs) =
    elim (nat_eq 10 b) as (λ t. nat_eq 10 b ≡ t → joined_by_feeds (cond t (behind (cut bs)) (onto b (cut bs))).first (cond t (behind (cut bs)) (onto b (cut bs))).rest
    ++ last_of (cond t (behind (cut bs)) (onto b (cut bs))).first (cond t (behind (cut bs)) (onto b (cut bs))).rest ≡ b ∷ bs) [
      | true ↦ λ feed. ap (λ (l : List ℕ). 10 ∷ l) (pieces_join bs) ∙ ap (λ (c : ℕ). c ∷ bs) (eqb-true 10 b feed)
      | false ↦ λ other. pieces_onto b (cut bs).first (cut bs).rest ∙ ap (λ (l : List ℕ). b ∷ l) (pieces_join bs)
    ] refl

pub first_lines : (xs : List ℕ) (some others : List (List ℕ)) → whole_lines_of xs ≡ some ++ others → FirstLines xs some others
first_lines xs some others is =
    subst (λ b. FirstLines b some others) (pieces_join xs) (first_pieces (cut xs).first (cut xs).rest (pieces_are_free xs) some others is)

pub lines_of_whole : (xs : List ℕ) → last_piece xs ≡ [] → lines_of xs ≡ whole_lines_of xs
lines_of_whole xs whole = lines_are xs ∙ ap (λ (p : List ℕ). whole_lines_of xs ++ last_line p) whole ∙ append-nil (whole_lines_of xs)
