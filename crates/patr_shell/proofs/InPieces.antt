-- Where a session stands within a piece of the input.
use Rattle.std.proofs.Common.{◌≡◌, ◌≤◌, ℕ, List, [], ◌∷◌, ◌++◌, Option, length, take, refl, sym, ◌∙◌, ap, subst, arith, append-nil, append_assoc}
use Rattle.patr_shell.proofs.Names.{without_cr, whole_lines_of, Spoken, HasNoFeed, last_piece, HasAnswered, HasEnded, HasBegun, AnswerFault}
use Rattle.patr_shell.specs.declared.state.State.{State}
use Rattle.patr_shell.proofs.Cuts.{line_ended, piece_ended, free_two, lines_of_free, piece_of_free}
use Rattle.patr_shell.proofs.Ends.{take_once}
use Rattle.patr_shell.proofs.Replying.{What, Whole, Quits, Breaks, Has, has_same, has_behind, answered_none, ended_longer, begun_longer, begun_of_answered}

-- the lines so far are answered, and those to come end in the rest, of which the held bytes are the beginning
pub record InPiece (spoken : Spoken) (st mid : State) (bytes held rest : List ℕ) (a b : Option (List ℕ)) : Type 0 where
  pub done : List (List ℕ)
  pub lines : whole_lines_of bytes ≡ done ++ whole_lines_of (held ++ rest)
  pub part : last_piece bytes ≡ last_piece (held ++ rest)
  pub free : HasNoFeed held
  pub short : length held ≤ 4098
  pub answered : HasAnswered spoken st done mid a b

module _ (spoken : Spoken) (st : State) where
  pub in_piece_start : (held rest : List ℕ) (a : Option (List ℕ)) → HasNoFeed held → length held ≤ 4098 → InPiece spoken st st (held ++ rest) held rest a a
  in_piece_start held rest a free short = record { done = []; lines = refl; part = refl; free = free; short = short; answered = answered_none spoken st a }

  module _ (mid : State) (bytes held rest : List ℕ) (a b : Option (List ℕ)) (stands : InPiece spoken st mid bytes held rest a b) where
    -- nothing more was answered
    pub in_piece_stop : (fault : AnswerFault) → HasBegun spoken st (whole_lines_of bytes) fault a b
    in_piece_stop fault = subst (λ l. HasBegun spoken st l fault a b) (sym stands.lines)
        (begun_longer spoken st stands.done (whole_lines_of (held ++ rest)) fault a b (begun_of_answered spoken st mid stands.done fault a b stands.answered))

    -- a line ends in the rest
    module _ (front behind kept : List ℕ) (cut : rest ≡ front ++ 10 ∷ behind) (free : HasNoFeed front) (is : kept ≡ take 4098 (held ++ front)) (c : Option (List ℕ)) where
      together : held ++ rest ≡ (held ++ front) ++ 10 ∷ behind
      together = ap (λ (l : List ℕ). held ++ l) cut ∙ sym (append_assoc held front (10 ∷ behind))

      whole_free : HasNoFeed (held ++ front)
      whole_free = free_two held stands.free front free

      next_lines : whole_lines_of (held ++ rest) ≡ without_cr (held ++ front) ∷ whole_lines_of behind
      next_lines = ap whole_lines_of together ∙ line_ended (held ++ front) whole_free behind

      next_part : last_piece (held ++ rest) ≡ last_piece behind
      next_part = ap last_piece together ∙ piece_ended (held ++ front) whole_free behind

      all_lines : whole_lines_of bytes ≡ (stands.done ++ without_cr (held ++ front) ∷ []) ++ whole_lines_of behind
      all_lines =
          stands.lines
          ∙ ap (λ (l : List (List ℕ)). stands.done ++ l) next_lines
          ∙ sym (append_assoc stands.done (without_cr (held ++ front) ∷ []) (whole_lines_of behind))

      same : take 4098 kept ≡ take 4098 (held ++ front)
      same = ap (take 4098) is ∙ take_once 4098 (held ++ front)

      -- what came of the line
      so_far : (what : What) → Has spoken what mid (without_cr kept ∷ []) b c → Has spoken what st (stands.done ++ without_cr (held ++ front) ∷ []) a c
      so_far what has = has_behind spoken st mid stands.done (without_cr (held ++ front) ∷ []) a b c stands.answered what (has_same spoken kept (held ++ front) same [] mid b c what has)

      pub in_piece_line : (next : State) → HasAnswered spoken mid (without_cr kept ∷ []) next b c → InPiece spoken st next bytes [] behind a c
      in_piece_line next answered = record {
        done = stands.done ++ without_cr (held ++ front) ∷ [];
        lines = all_lines;
        part = stands.part ∙ next_part;
        free = refl;
        short = omega arith;
        answered = so_far (Whole next) answered;
      }

      pub in_piece_quit : HasEnded spoken mid (without_cr kept ∷ []) b c → HasEnded spoken st (whole_lines_of bytes) a c
      in_piece_quit ended = subst (λ l. HasEnded spoken st l a c) (sym all_lines) (ended_longer spoken st _ _ a c (so_far Quits ended))

      pub in_piece_fault : (fault : AnswerFault) → HasBegun spoken mid (without_cr kept ∷ []) fault b c → HasBegun spoken st (whole_lines_of bytes) fault a c
      in_piece_fault fault begun = subst (λ l. HasBegun spoken st l fault a c) (sym all_lines) (begun_longer spoken st _ _ fault a c (so_far (Breaks fault) begun))

    -- no line ends in the rest
    module _ (none : HasNoFeed rest) where
      rest_free : HasNoFeed (held ++ rest)
      rest_free = free_two held stands.free rest none

      pub in_piece_end : HasAnswered spoken st (whole_lines_of bytes) mid a b
      in_piece_end =
          let lines = stands.lines ∙ ap (λ (l : List (List ℕ)). stands.done ++ l) (lines_of_free (held ++ rest) rest_free) ∙ append-nil stands.done in
          subst (λ l. HasAnswered spoken st l mid a b) (sym lines) stands.answered

      pub in_piece_left : last_piece bytes ≡ held ++ rest
      in_piece_left = stands.part ∙ piece_of_free (held ++ rest) rest_free
