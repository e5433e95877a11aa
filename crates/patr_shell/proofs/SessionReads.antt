-- A read of a session, and what is answered then.
use Rattle.std.proofs.Common.{◌≡◌, ◌<◌, ◌≤◌, ◌-◌, ◌+◌, ℕ, List, [], ◌++◌, Option, None, Some, IfSome, length, take, drop, min, refl, sym, ◌∙◌, ap, subst, arith, length-append, append_assoc, append-nil, take-append-drop}
use Rattle.patr_shell.proofs.Names.{length-take-le, take_all, Appends, Keeps, Consumes, IsAtEnd, Appends-trans, Consumes-trans, whole_lines_of, Spoken, AppendsFront, last_piece, last_line, too_long_line, HasQuit, HasAnswered, HasEnded, HasTold, HasBegun, HasTakenQuit, HasWrittenSession, HasBegunSession, answer_status, HasRunSession, Status, AnswerFault, Next}
use Rattle.patr_lists.proofs.Places.{take_take}
use Rattle.patr_model.specs.Run as model
use Rattle.patr_model.specs.Run.{Ending, Done}
use Rattle.patr_shell.specs.declared.state.State.{State}
use Rattle.patr_shell.specs.declared.status.Status.TheVariants.{Memory, InputTooLong}
use Rattle.patr_shell.specs.declared.session.AnswerFault.TheVariants as answer_fault
use Rattle.patr_shell.specs.declared.session.Next.TheVariants.{GoesOn, Ends}
use Rattle.patr_shell.proofs.Cuts.{lines_of_two}
use Rattle.patr_shell.proofs.Replying.{Whole, Quits, Breaks, quit_longer, answered_kept, begun_of_answered, begun_longer}
use Rattle.patr_shell.proofs.SessionStanding.{Stands, has_piece, stands_piece, has_end, begun_so_far}
use Rattle.patr_shell.proofs.SessionTexts.{told, told_all, most, within_of, within_piece, at_limit_of, past_limit, front_within, front_whole, front_written, front_past, written_whole, written_ended, written_quit, written_past}

-- a text that is written is a front of each
pub front_told : (spoken : Spoken) (st : State) (ending : Ending) (start a c : Option (List ℕ)) → IfSome start (λ input. HasWrittenSession spoken st input ending a c) → IfSome start (λ input. HasBegunSession spoken st input a c)
front_told spoken st ending None a c h = tt
front_told spoken st ending (Some input) a c h = front_written spoken st input ending a c h

-- a session ends by a fault
pub faulted : (spoken : Spoken) (st : State) (start now a c : Option (List ℕ)) (fault : AnswerFault) (status : Status) → status ≡ answer_status fault
    → (fault ≡ answer_fault.Memory → HasRunSession spoken st Memory start now a c) → HasRunSession spoken st status start now a c
faulted spoken st start now a c answer_fault.Write status is short = subst (λ s. HasRunSession spoken st s start now a c) (sym is) tt
faulted spoken st start now a c answer_fault.Memory status is short = subst (λ s. HasRunSession spoken st s start now a c) (sym is) (short refl)

-- the bytes that were read so far, no more than an input may have, and where the session stands behind them
pub record HasRead (spoken : Spoken) (st mid : State) (held : List ℕ) (taken : ℕ) (start now a b : Option (List ℕ)) : Type 0 where
  pub bytes : List ℕ
  pub read : Consumes start now bytes
  pub long : length bytes ≡ taken
  pub within : taken ≤ most
  pub stands : Stands spoken st mid bytes held a b

module _ {spoken : Spoken} {st mid : State} {held : List ℕ} {taken : ℕ} {start before a b : Option (List ℕ)} (so : HasRead spoken st mid held taken start before a b) where
  abbrev bytes : List ℕ
  bytes = so.bytes

  abbrev stands : Stands spoken st mid so.bytes held a b
  stands = so.stands

  short : length so.bytes ≤ most
  short = omega (arith, so.long, so.within)

  -- nothing more is read
  pub stopped : IfSome start (λ input. HasBegunSession spoken st input a b)
  stopped = told start before bytes (λ input. HasBegunSession spoken st input a b) so.read
      (λ rest. let at = within_of bytes rest short in front_within spoken st (bytes ++ rest) bytes at.0 answer_fault.Memory a b (begun_so_far spoken st mid bytes held a b stands answer_fault.Memory) at.1)

  -- nothing more comes
  module _ (now : Option (List ℕ)) (none : Consumes before now []) where
    read_all : Consumes start now bytes
    read_all = subst (Consumes start now) (append-nil bytes) (Consumes-trans start before now bytes [] so.read none)

    -- memory is short behind it
    pub short_behind : (c : Option (List ℕ)) → Keeps b c → HasRunSession spoken st Memory start now a c
    short_behind c kept =
        let answered = answered_kept spoken st mid (whole_lines_of bytes) a b c stands.answered kept in
        (bytes, read_all, subst (λ l. HasBegun spoken st (whole_lines_of l) answer_fault.Memory a c) (sym (take_all most bytes short)) (begun_of_answered spoken st mid (whole_lines_of bytes) answer_fault.Memory a c answered))

    module _ (end : IsAtEnd now) (c : Option (List ℕ)) where
      pub ended_whole : (goes : Next) (next : State) → HasTold spoken mid (last_line held) goes next b c → IfSome start (λ input. HasWrittenSession spoken st input Done a c)
      ended_whole GoesOn next answered = told_all start now bytes (λ input. HasWrittenSession spoken st input Done a c) read_all end
          (written_whole spoken st next bytes a c short (has_end spoken st mid bytes held a b stands (Whole next) c answered))
      ended_whole Ends next stops = told_all start now bytes (λ input. HasWrittenSession spoken st input Done a c) read_all end
          (written_ended spoken st bytes a c short (has_end spoken st mid bytes held a b stands Quits c stops))

      pub ended_front : (fault : AnswerFault) → HasBegun spoken mid (last_line held) fault b c → IfSome start (λ input. HasBegunSession spoken st input a c)
      ended_front fault begun = told_all start now bytes (λ input. HasBegunSession spoken st input a c) read_all end
          (front_whole spoken st bytes fault a c short (has_end spoken st mid bytes held a b stands (Breaks fault) c begun))

  -- a piece is read, of which this much is within the limit
  module _ (now : Option (List ℕ)) (buf : List ℕ) (count within : ℕ) (next : Consumes before now (take count buf)) (bound : count ≤ length buf) (fits : within ≡ min count (most - taken)) where
    is : within ≡ min count (most - length so.bytes)
    is = omega (arith, fits, so.long)

    read : Consumes start now (bytes ++ take count buf)
    read = Consumes-trans start before now bytes (take count buf) so.read next

    part : take within (take count buf) ≡ take within buf
    part = take_take within count buf (omega (arith, is, short))

    long : length (take count buf) ≡ count
    long = length-take-le count buf bound

    module _ (c : Option (List ℕ)) (fault : AnswerFault) (begun : HasBegun spoken mid (whole_lines_of (held ++ take within buf)) fault b c) where
      all_begun : HasBegun spoken st (whole_lines_of (bytes ++ take within (take count buf))) fault a c
      all_begun = has_piece spoken st mid bytes held a b stands (Breaks fault) (take within (take count buf)) c
          (subst (λ l. HasBegun spoken mid (whole_lines_of (held ++ l)) fault b c) (sym part) begun)

      pub begun_read : IfSome start (λ input. HasBegunSession spoken st input a c)
      begun_read = told start now (bytes ++ take count buf) (λ input. HasBegunSession spoken st input a c) read
          (λ rest.
          let at = within_piece bytes (take count buf) rest within (omega (arith, is, short)) (omega (arith, is, short, long)) in
          front_within spoken st ((bytes ++ take count buf) ++ rest) (bytes ++ take within (take count buf)) at.0 fault a c all_begun at.1)

      taken_begun : (taken : List ℕ) × Consumes start now taken × HasBegun spoken st (whole_lines_of (take most taken)) fault a c
      taken_begun =
          let front = bytes ++ take within (take count buf) in
          let at = within_piece bytes (take count buf) [] within (omega (arith, is, short)) (omega (arith, is, short, long)) in
          let is : take most (bytes ++ take count buf) ≡ front ++ at.0 = ap (take most) (sym (append-nil (bytes ++ take count buf))) ∙ at.1 in (
            bytes ++ take count buf,
            read,
            subst (λ l. HasBegun spoken st l fault a c) (sym (ap whole_lines_of is ∙ lines_of_two front at.0))
                (begun_longer spoken st (whole_lines_of front) (whole_lines_of (last_piece front ++ at.0)) fault a c all_begun),
          )

      pub short_taken : fault ≡ answer_fault.Memory → HasRunSession spoken st Memory start now a c
      short_taken is = subst (λ f. (taken : List ℕ) × Consumes start now taken × HasBegun spoken st (whole_lines_of (take most taken)) f a c) is taken_begun

    -- a line of it ends the session
    module _ (c : Option (List ℕ)) (stops : HasEnded spoken mid (whole_lines_of (held ++ take within buf)) b c) where
      all_ended : HasEnded spoken st (whole_lines_of (bytes ++ take within (take count buf))) a c
      all_ended = has_piece spoken st mid bytes held a b stands Quits (take within (take count buf)) c
          (subst (λ l. HasEnded spoken mid (whole_lines_of (held ++ l)) b c) (sym part) stops)

      pub quit_whole : IfSome start (λ input. HasWrittenSession spoken st input Done a c)
      quit_whole = told start now (bytes ++ take count buf) (λ input. HasWrittenSession spoken st input Done a c) read
          (λ rest.
          let at = within_piece bytes (take count buf) rest within (omega (arith, is, short)) (omega (arith, is, short, long)) in
          written_quit spoken st ((bytes ++ take count buf) ++ rest) (bytes ++ take within (take count buf)) at.0 a c all_ended at.1)

      pub quit_taken : HasTakenQuit start now
      quit_taken =
          let front = bytes ++ take within (take count buf) in
          let rest = drop within (take count buf) in
          let whole : bytes ++ take count buf ≡ front ++ rest =
          ap (λ (l : List ℕ). bytes ++ l) (sym (take-append-drop within (take count buf))) ∙ sym (append_assoc bytes (take within (take count buf)) rest) in (
            bytes ++ take count buf,
            read,
            subst HasQuit (sym (ap whole_lines_of whole ∙ lines_of_two front rest)) (quit_longer (whole_lines_of front) (whole_lines_of (last_piece front ++ rest)) all_ended.quit),
          )

    module _ (after : State) (c : Option (List ℕ)) (answered : HasAnswered spoken mid (whole_lines_of (held ++ take within buf)) after b c) (left : List ℕ) (kept : left ≡ take 4098 (last_piece (held ++ take within buf))) where
      pub reads_on : count ≤ within → HasRead spoken st after left (taken + count) start now a c
      reads_on all =
          let same : within ≡ count = omega (arith, is, short) in
          record {
            bytes = bytes ++ take count buf;
            read = read;
            long = omega (arith, length-append bytes (take count buf), long, so.long, same);
            within = omega (arith, is, short, so.long);
            stands =
                stands_piece spoken st mid bytes held a b stands (take count buf) c after left
                (subst (λ n. HasAnswered spoken mid (whole_lines_of (held ++ take n buf)) after b c) same answered)
                (kept ∙ ap (λ (n : ℕ). take 4098 (last_piece (held ++ take n buf))) same);
          }

      -- more is read than the limit
      module _ (more : within < count) where
        full : length bytes + within ≡ most
        full = omega (arith, is, short)

        limit_reached : (rest : List ℕ) → take most ((bytes ++ take count buf) ++ rest) ≡ bytes ++ take within buf
        limit_reached rest = at_limit_of bytes (take count buf) rest within (omega (arith, is, short)) (omega (arith, is, short, long)) full ∙ ap (λ (l : List ℕ). bytes ++ l) part

        is_past : (rest : List ℕ) → most < length ((bytes ++ take count buf) ++ rest)
        is_past rest = past_limit bytes (take count buf) rest within (omega (arith, is, short)) (omega (arith, is, short, long)) full (omega (arith, is, short, long))

        all_answered : (rest : List ℕ) → HasAnswered spoken st (whole_lines_of (take most ((bytes ++ take count buf) ++ rest))) after a c
        all_answered rest =
            subst (λ l. HasAnswered spoken st (whole_lines_of l) after a c) (sym (limit_reached rest))
            (stands_piece spoken st mid bytes held a b stands (take within buf) c after left answered kept).answered

        pub past_whole : (d : Option (List ℕ)) → Appends c d too_long_line → IfSome start (λ input. HasWrittenSession spoken st input model.InputTooLong a d)
        past_whole d line = told start now (bytes ++ take count buf) (λ input. HasWrittenSession spoken st input model.InputTooLong a d) read
            (λ rest. written_past spoken st after ((bytes ++ take count buf) ++ rest) a c d (is_past rest) (all_answered rest) line)

        pub past_front : (d : Option (List ℕ)) → AppendsFront c d too_long_line → IfSome start (λ input. HasBegunSession spoken st input a d)
        past_front d line = told start now (bytes ++ take count buf) (λ input. HasBegunSession spoken st input a d) read
            (λ rest. front_past spoken st after ((bytes ++ take count buf) ++ rest) a c d (is_past rest) (all_answered rest) line)

        pub past_taken : (d : Option (List ℕ)) → Appends c d too_long_line → HasRunSession spoken st InputTooLong start now a d
        past_taken d line =
            let all = bytes ++ take count buf in
            let answered = subst (λ l. HasAnswered spoken st (whole_lines_of (take most l)) after a c) (append-nil all) (all_answered []) in
            let long : most < length all = subst (λ l. most < length l) (append-nil all) (is_past []) in (
              (all, read, long, answered.goes_on),
              (answered.text, Appends-trans a c d answered.text too_long_line answered.sent line),
            )
