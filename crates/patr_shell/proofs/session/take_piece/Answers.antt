use Rattle.std.proofs.Common.{◌∙◌, refl, sym, ap, take, List, ℕ}
use Rattle.std.proofs.lemmas.Result.{err_from_is_err_and}
use Rattle.patr_shell.proofs.Fronts.{IfErr-always}
use Rattle.patr_shell.proofs.Passing.{passes_none, passes_still, passes_behind}
use Rattle.patr_shell.proofs.InPieces.{in_piece_start, in_piece_stop, in_piece_line, in_piece_quit, in_piece_fault, in_piece_end, in_piece_left}
use Rattle.patr_shell.proofs.session.take_piece.Goals as goal

pub lines-init : goal.lines-init
lines-init g c = record {
  stands = in_piece_start _ _ _ _ _ c.requires.free c.requires.short;
  limit = c.requires.limit;
  flushed = passes_none _ _ _;
  well = refl;
}

pub returns-in_err-keep-clause-front : goal.returns-in_err-keep-clause-front
returns-in_err-keep-clause-front g c = IfErr-always c.from_residual.result _ (λ fault. in_piece_stop _ _ _ _ _ _ _ _ c.lines.invariant.stands fault)

pub returns-in_err-keep-clause-flushed : goal.returns-in_err-keep-clause-flushed
returns-in_err-keep-clause-flushed g c = passes_still _ _ _ _ _ c.lines.invariant.flushed

pub returns-in_err-keep-2-clause-front : goal.returns-in_err-keep-2-clause-front
returns-in_err-keep-2-clause-front g c = IfErr-always c.from_residual-in_err-keep-2.result _ (λ fault. in_piece_stop _ _ _ _ _ _ _ _ c.lines.invariant.stands fault)

pub returns-in_err-keep-2-clause-flushed : goal.returns-in_err-keep-2-clause-flushed
returns-in_err-keep-2-clause-flushed g c = passes_still _ _ _ _ _ c.lines.invariant.flushed

pub returns-in_err-answer_line-clause-front : goal.returns-in_err-answer_line-clause-front
returns-in_err-answer_line-clause-front g c =
    let p = err_from_is_err_and c.from_residual-in_err-answer_line.result c.from_residual-in_err-answer_line.ensures.1 in
    rw (p.1, p.2) (in_piece_fault _ _ _ _ _ _ _ _ c.lines.invariant.stands _ _ _ c.in-Some.ensures.cut c.in-Some.ensures.free (c.deref.ensures.value ∙ c.in_ok-keep.ensures) _ _ c.in_err-answer_line.ensures.front)

pub returns-in_err-answer_line-clause-flushed : goal.returns-in_err-answer_line-clause-flushed
returns-in_err-answer_line-clause-flushed g c =
    let p = err_from_is_err_and c.from_residual-in_err-answer_line.result c.from_residual-in_err-answer_line.ensures.1 in
    rw (p.1, p.2) (passes_behind _ _ _ _ _ _ _ c.lines.invariant.flushed c.in_err-answer_line.ensures.flushed)

pub returns-in-Ends-clause-told : goal.returns-in-Ends-clause-told
returns-in-Ends-clause-told g c = in_piece_quit _ _ _ _ _ _ _ _ c.lines.invariant.stands _ _ _ c.in-Some.ensures.cut c.in-Some.ensures.free (c.deref.ensures.value ∙ c.in_ok-keep.ensures) _ (rw c.in-Ends.is at c.in_ok-answer_line.ensures.told)

pub returns-in-Ends-clause-flushed : goal.returns-in-Ends-clause-flushed
returns-in-Ends-clause-flushed g c = passes_behind _ _ _ _ _ _ _ c.lines.invariant.flushed c.in_ok-answer_line.ensures.flushed

pub lines-preserved : goal.lines-preserved
lines-preserved g c = record {
  stands = rw c.clear.ensures.items (in_piece_line _ _ _ _ _ _ _ _ c.lines.invariant.stands _ _ _ c.in-Some.ensures.cut c.in-Some.ensures.free (c.deref.ensures.value ∙ c.in_ok-keep.ensures) _ _ (rw c.in-GoesOn.is at c.in_ok-answer_line.ensures.told));
  limit = c.in_ok-answer_line.ensures.limit;
  flushed = passes_behind _ _ _ _ _ _ _ c.lines.invariant.flushed c.in_ok-answer_line.ensures.flushed;
  well = c.in_ok-answer_line.ensures.cause.kept ∙ c.lines.invariant.well;
}

pub returns-clause-told : goal.returns-clause-told
returns-clause-told g c = in_piece_end _ _ _ _ _ _ _ _ c.lines.invariant.stands c.in_default.ensures.none

pub returns-clause-held : goal.returns-clause-held
returns-clause-held g c = λ goes. c.in_ok-keep-2.ensures ∙ ap (λ (l : List ℕ). take 4098 l) (sym (in_piece_left _ _ _ _ _ _ _ _ c.lines.invariant.stands c.in_default.ensures.none))
