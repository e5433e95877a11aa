-- Where a session stands after some bytes of the input.
use Rattle.std.proofs.Common.{◌≡◌, ◌≤◌, ◌<◌, ℕ, List, [], ◌∷◌, ◌++◌, Option, length, take, refl, sym, ◌∙◌, ap, subst, arith, inl, inr}
use Rattle.patr_shell.proofs.Names.{length-take, without_cr, without_empty, whole_lines_from, whole_lines_of, lines_of, Spoken, HasNoFeed, last_of, last_piece, last_line, HasAnswered, HasBegun, AnswerFault}
use Rattle.patr_shell.specs.declared.state.State.{State}
use Rattle.patr_shell.proofs.Cuts.{cut, lines_behind, piece_behind, piece_is_free, take_is_free, lines_of_two, piece_of_two, lines_are}
use Rattle.patr_shell.proofs.Ends.{kept_behind, take_once}
use Rattle.patr_shell.proofs.Replying.{What, Whole, Has, one_or_long, has_same, has_behind, begun_of_answered}

-- the lines so far are answered, and what stands behind them is held as far as it matters
pub record Stands (spoken : Spoken) (st mid : State) (bytes held : List ℕ) (a b : Option (List ℕ)) : Type 0 where
  pub kept : held ≡ take 4098 (last_piece bytes)
  pub answered : HasAnswered spoken st (whole_lines_of bytes) mid a b

-- a line that is not empty
some_line : (l : List ℕ) → 0 < length l → without_empty (l ∷ []) ≡ l ∷ []
some_line [] some = absurd (omega arith)
some_line (b ∷ bs) some = refl

pub last_line_some : (xs : List ℕ) → 0 < length (without_cr xs) → last_line xs ≡ without_cr xs ∷ []
last_line_some xs some = some_line (without_cr xs) some

-- no LF stands in what is held of bytes without one
held_free : (part held : List ℕ) → HasNoFeed part → held ≡ take 4098 part → HasNoFeed held
held_free part held free is = subst HasNoFeed (sym is) (take_is_free 4098 part free)

-- What holds of lines, and so of others whose first is the same as far as it matters.
module _ (P : List (List ℕ) → Type 0) (like : (xs ys : List ℕ) → take 4098 xs ≡ take 4098 ys → (ls : List (List ℕ)) → P (without_cr xs ∷ ls) → P (without_cr ys ∷ ls)) where
  -- lines go on alike behind bytes of which what matters is the same
  module _ (part held : List ℕ) (free : HasNoFeed part) (is : held ≡ take 4098 part) (piece : List ℕ) where
    same : (ys : List ℕ) → take 4098 (held ++ ys) ≡ take 4098 (part ++ ys)
    same ys = ap (λ (l : List ℕ). take 4098 (l ++ ys)) is ∙ kept_behind 4098 part ys

    lines_from : (first : List ℕ) (rest : List (List ℕ)) → P (whole_lines_from (held ++ first) rest) → P (whole_lines_from (part ++ first) rest)
    lines_from first [] h = h
    lines_from first (next ∷ rest) h = like (held ++ first) (part ++ first) (same first) (whole_lines_from next rest) h

    lines_with : P (whole_lines_of (held ++ piece)) → P (whole_lines_of (part ++ piece))
    lines_with h = subst P (sym (lines_behind part free piece)) (lines_from (cut piece).first (cut piece).rest (subst P (lines_behind held (held_free part held free is) piece) h))

  -- the last line is answered alike
  last_alike : (xs ys : List ℕ) → take 4098 xs ≡ take 4098 ys → P (last_line xs) → P (last_line ys)
  last_alike xs ys same h = elim (one_or_long xs ys same) [
    | inl is ↦ subst (λ l. P (last_line l)) is h
    | inr long ↦
        subst P (sym (last_line_some ys (omega (arith, long.1))))
        (like xs ys same [] (subst P (last_line_some xs (omega (arith, long.0))) h))
  ]

-- the last piece goes on alike
module _ (part held : List ℕ) (free : HasNoFeed part) (is : held ≡ take 4098 part) (piece : List ℕ) where
  piece_from : (first : List ℕ) (rest : List (List ℕ)) → take 4098 (last_of (held ++ first) rest) ≡ take 4098 (last_of (part ++ first) rest)
  piece_from first [] = ap (λ (l : List ℕ). take 4098 (l ++ first)) is ∙ kept_behind 4098 part first
  piece_from first (next ∷ rest) = refl

  piece_with : take 4098 (last_piece (held ++ piece)) ≡ take 4098 (last_piece (part ++ piece))
  piece_with =
      ap (take 4098) (piece_behind held (held_free part held free is) piece)
      ∙ piece_from (cut piece).first (cut piece).rest
      ∙ ap (take 4098) (sym (piece_behind part free piece))

module _ (spoken : Spoken) (st mid : State) (bytes held : List ℕ) (a b : Option (List ℕ)) (stands : Stands spoken st mid bytes held a b) where
  pub stands_free : HasNoFeed held
  stands_free = held_free (last_piece bytes) held (piece_is_free bytes) stands.kept

  pub stands_short : length held ≤ 4098
  stands_short = subst (λ l. length l ≤ 4098) (sym stands.kept) (omega (arith, length-take 4098 (last_piece bytes)))

  -- what came of the lines of a piece
  pub has_piece : (what : What) (piece : List ℕ) (c : Option (List ℕ)) → Has spoken what mid (whole_lines_of (held ++ piece)) b c → Has spoken what st (whole_lines_of (bytes ++ piece)) a c
  has_piece what piece c has =
      subst (λ l. Has spoken what st l a c) (sym (lines_of_two bytes piece))
      (has_behind spoken st mid (whole_lines_of bytes) (whole_lines_of (last_piece bytes ++ piece)) a b c stands.answered what
      (lines_with (λ l. Has spoken what mid l b c) (λ xs ys same ls h. has_same spoken xs ys same ls mid b c what h)
      (last_piece bytes) held (piece_is_free bytes) stands.kept piece has))

  -- a piece is answered
  pub stands_piece : (piece : List ℕ) (c : Option (List ℕ)) (next : State) (left : List ℕ) → HasAnswered spoken mid (whole_lines_of (held ++ piece)) next b c → left ≡ take 4098 (last_piece (held ++ piece))
      → Stands spoken st next (bytes ++ piece) left a c
  stands_piece piece c next left answered is = record {
    kept = is ∙ piece_with (last_piece bytes) held (piece_is_free bytes) stands.kept piece ∙ ap (take 4098) (sym (piece_of_two bytes piece));
    answered = has_piece (Whole next) piece c answered;
  }

  -- no more comes
  pub has_end : (what : What) (c : Option (List ℕ)) → Has spoken what mid (last_line held) b c → Has spoken what st (lines_of bytes) a c
  has_end what c has =
      subst (λ l. Has spoken what st l a c) (sym (lines_are bytes))
      (has_behind spoken st mid (whole_lines_of bytes) (last_line (last_piece bytes)) a b c stands.answered what
      (last_alike (λ l. Has spoken what mid l b c) (λ xs ys same ls h. has_same spoken xs ys same ls mid b c what h) held (last_piece bytes)
      (ap (take 4098) stands.kept ∙ take_once 4098 (last_piece bytes)) has))

  pub begun_so_far : (fault : AnswerFault) → HasBegun spoken st (whole_lines_of bytes) fault a b
  begun_so_far fault = begun_of_answered spoken st mid (whole_lines_of bytes) fault a b stands.answered
