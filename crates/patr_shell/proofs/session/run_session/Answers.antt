use Rattle.std.proofs.Common.{◌∙◌, arith, inl, inr, ap, Err}
use Rattle.std.proofs.KnownBytes.{Consumes-kept}
use Rattle.patr_shell.proofs.Fronts.{whole_front}
use Rattle.patr_shell.proofs.Passing.{passes_behind, passes_as}
use Rattle.patr_shell.proofs.SessionStanding.{stands_free, stands_short}
use Rattle.patr_shell.proofs.SessionReads.{front_told, faulted, stopped, short_behind, ended_whole, ended_front, begun_read, short_taken, quit_whole, quit_taken, reads_on, past_whole, past_front, past_taken}
use Rattle.patr_shell.proofs.session.run_session.Goals as goal

pub returns-in_default-clause-front : goal.returns-in_default-clause-front
returns-in_default-clause-front g c = stopped c.reads.invariant.so

pub returns-in_default-clause-end : goal.returns-in_default-clause-end
returns-in_default-clause-end g c = (c.reads.invariant.so.bytes, Consumes-kept (g.S.Source.left c.args.source.now) (g.S.Source.left c.reads.source) (g.S.Source.left c.read.new.self) c.reads.invariant.so.bytes c.reads.invariant.so.read c.in_default.ensures.bytes, omega (arith, c.reads.invariant.so.long, c.reads.invariant.so.within), c.reads.state, c.reads.invariant.so.stands.answered)

-- ---- the input is at its end

pub returns-in-Ok-answer_last-clause-end : goal.returns-in-Ok-answer_last-clause-end
returns-in-Ok-answer_last-clause-end g c = inl (c.in-Ok.ensures.bytes.1 c.if-count-eq0.true (omega arith))

pub returns-in-Ok-answer_last-clause-flushed : goal.returns-in-Ok-answer_last-clause-flushed
returns-in-Ok-answer_last-clause-flushed g c = passes_behind _ _ _ _ _ _ _ c.reads.invariant.flushed c.in-Ok-answer_last.ensures.flushed

pub returns-in-Err-clause-end : goal.returns-in-Err-clause-end
returns-in-Err-clause-end g c = faulted _ _ _ _ _ _ c.in-Err.fault _ c.from.ensures (λ is. short_behind c.reads.invariant.so _ (rw c.if-count-eq0.true at c.in-Ok.ensures.bytes.0) _ (c.in-Err.ensures.memory (ap (λ f. Err f) is)))

pub returns-in-Err-clause-flushed : goal.returns-in-Err-clause-flushed
returns-in-Err-clause-flushed g c = passes_as c.in-Err.fault _ _ _ _ _ c.from.ensures (passes_behind _ _ _ _ _ _ _ c.reads.invariant.flushed c.in-Err.ensures.flushed)

pub returns-in-Ok-answer_last-clause-whole : goal.returns-in-Ok-answer_last-clause-whole
returns-in-Ok-answer_last-clause-whole g c = ended_whole c.reads.invariant.so _ (rw c.if-count-eq0.true at c.in-Ok.ensures.bytes.0) (c.in-Ok.ensures.bytes.1 c.if-count-eq0.true (omega arith)) _ _ _ (rw c.deref.ensures.value at c.in-Ok-answer_last.ensures.told)

pub returns-in-Ok-answer_last-clause-front : goal.returns-in-Ok-answer_last-clause-front
returns-in-Ok-answer_last-clause-front g c = front_told _ _ _ _ _ _ (ended_whole c.reads.invariant.so _ (rw c.if-count-eq0.true at c.in-Ok.ensures.bytes.0) (c.in-Ok.ensures.bytes.1 c.if-count-eq0.true (omega arith)) _ _ _ (rw c.deref.ensures.value at c.in-Ok-answer_last.ensures.told))

pub returns-in-Err-clause-front : goal.returns-in-Err-clause-front
returns-in-Err-clause-front g c = ended_front c.reads.invariant.so _ (rw c.if-count-eq0.true at c.in-Ok.ensures.bytes.0) (c.in-Ok.ensures.bytes.1 c.if-count-eq0.true (omega arith)) _ _ (rw c.deref.ensures.value at c.in-Err.ensures.front)

-- ---- a piece is read

pub take_piece-requires-clause-free : goal.take_piece-requires-clause-free
take_piece-requires-clause-free g c = stands_free _ _ _ _ _ _ _ c.reads.invariant.so.stands

pub take_piece-requires-clause-short : goal.take_piece-requires-clause-short
take_piece-requires-clause-short g c = stands_short _ _ _ _ _ _ _ c.reads.invariant.so.stands

pub returns-in-Err-take_piece-clause-front : goal.returns-in-Err-take_piece-clause-front
returns-in-Err-take_piece-clause-front g c = begun_read c.reads.invariant.so _ c.read.new.buf c.in-Ok.count c.min-within.result c.in-Ok.ensures.bytes.0 (omega (arith, c.in-Ok.ensures.bound)) (omega arith) _ _ c.in-Err-take_piece.ensures.front

pub returns-in-Err-take_piece-clause-end : goal.returns-in-Err-take_piece-clause-end
returns-in-Err-take_piece-clause-end g c = faulted _ _ _ _ _ _ c.in-Err-take_piece.fault _ c.from-in-Err-take_piece.ensures (short_taken c.reads.invariant.so _ c.read.new.buf c.in-Ok.count c.min-within.result c.in-Ok.ensures.bytes.0 (omega (arith, c.in-Ok.ensures.bound)) (omega arith) _ _ c.in-Err-take_piece.ensures.front)

pub returns-in-Err-take_piece-clause-flushed : goal.returns-in-Err-take_piece-clause-flushed
returns-in-Err-take_piece-clause-flushed g c = passes_as c.in-Err-take_piece.fault _ _ _ _ _ c.from-in-Err-take_piece.ensures (passes_behind _ _ _ _ _ _ _ c.reads.invariant.flushed c.in-Err-take_piece.ensures.flushed)

-- a line of it ends the session
pub returns-in-Ok-Ends-clause-whole : goal.returns-in-Ok-Ends-clause-whole
returns-in-Ok-Ends-clause-whole g c = quit_whole c.reads.invariant.so _ c.read.new.buf c.in-Ok.count c.min-within.result c.in-Ok.ensures.bytes.0 (omega (arith, c.in-Ok.ensures.bound)) (omega arith) _ (rw c.in-Ok-Ends.field-0-is at c.in-Ok-Ends.ensures.told)

pub returns-in-Ok-Ends-clause-front : goal.returns-in-Ok-Ends-clause-front
returns-in-Ok-Ends-clause-front g c = front_told _ _ _ _ _ _ (quit_whole c.reads.invariant.so _ c.read.new.buf c.in-Ok.count c.min-within.result c.in-Ok.ensures.bytes.0 (omega (arith, c.in-Ok.ensures.bound)) (omega arith) _ (rw c.in-Ok-Ends.field-0-is at c.in-Ok-Ends.ensures.told))

pub returns-in-Ok-Ends-clause-end : goal.returns-in-Ok-Ends-clause-end
returns-in-Ok-Ends-clause-end g c = inr (quit_taken c.reads.invariant.so _ c.read.new.buf c.in-Ok.count c.min-within.result c.in-Ok.ensures.bytes.0 (omega (arith, c.in-Ok.ensures.bound)) (omega arith) _ (rw c.in-Ok-Ends.field-0-is at c.in-Ok-Ends.ensures.told))

pub returns-in-Ok-Ends-clause-flushed : goal.returns-in-Ok-Ends-clause-flushed
returns-in-Ok-Ends-clause-flushed g c = passes_behind _ _ _ _ _ _ _ c.reads.invariant.flushed c.in-Ok-Ends.ensures.flushed

-- more comes than the limit
pub returns-in-Ok-refuse_rest-clause-whole : goal.returns-in-Ok-refuse_rest-clause-whole
returns-in-Ok-refuse_rest-clause-whole g c = past_whole c.reads.invariant.so _ c.read.new.buf c.in-Ok.count c.min-within.result c.in-Ok.ensures.bytes.0 (omega (arith, c.in-Ok.ensures.bound)) (omega arith) _ _ (rw c.in-Ok-GoesOn.field-0-is at c.in-Ok-GoesOn.ensures.told) _ (c.in-Ok-GoesOn.ensures.held c.in-Ok-GoesOn.field-0-is) c.if-within-count.true _ c.in-Ok-refuse_rest.ensures.text

pub returns-in-Ok-refuse_rest-clause-front : goal.returns-in-Ok-refuse_rest-clause-front
returns-in-Ok-refuse_rest-clause-front g c = past_front c.reads.invariant.so _ c.read.new.buf c.in-Ok.count c.min-within.result c.in-Ok.ensures.bytes.0 (omega (arith, c.in-Ok.ensures.bound)) (omega arith) _ _ (rw c.in-Ok-GoesOn.field-0-is at c.in-Ok-GoesOn.ensures.told) _ (c.in-Ok-GoesOn.ensures.held c.in-Ok-GoesOn.field-0-is) c.if-within-count.true _ (whole_front _ _ _ c.in-Ok-refuse_rest.ensures.text)

pub returns-in-Err-refuse_rest-clause-front : goal.returns-in-Err-refuse_rest-clause-front
returns-in-Err-refuse_rest-clause-front g c = past_front c.reads.invariant.so _ c.read.new.buf c.in-Ok.count c.min-within.result c.in-Ok.ensures.bytes.0 (omega (arith, c.in-Ok.ensures.bound)) (omega arith) _ _ (rw c.in-Ok-GoesOn.field-0-is at c.in-Ok-GoesOn.ensures.told) _ (c.in-Ok-GoesOn.ensures.held c.in-Ok-GoesOn.field-0-is) c.if-within-count.true _ c.in-Err-refuse_rest.ensures.front

pub returns-in-Ok-refuse_rest-clause-end : goal.returns-in-Ok-refuse_rest-clause-end
returns-in-Ok-refuse_rest-clause-end g c = past_taken c.reads.invariant.so _ c.read.new.buf c.in-Ok.count c.min-within.result c.in-Ok.ensures.bytes.0 (omega (arith, c.in-Ok.ensures.bound)) (omega arith) _ _ (rw c.in-Ok-GoesOn.field-0-is at c.in-Ok-GoesOn.ensures.told) _ (c.in-Ok-GoesOn.ensures.held c.in-Ok-GoesOn.field-0-is) c.if-within-count.true _ c.in-Ok-refuse_rest.ensures.text

pub returns-in-Ok-refuse_rest-clause-flushed : goal.returns-in-Ok-refuse_rest-clause-flushed
returns-in-Ok-refuse_rest-clause-flushed g c = passes_behind _ _ _ _ _ _ _ (passes_behind _ _ _ _ _ _ _ c.reads.invariant.flushed c.in-Ok-GoesOn.ensures.flushed) c.in-Ok-refuse_rest.ensures.flushed

pub returns-in-Err-refuse_rest-clause-flushed : goal.returns-in-Err-refuse_rest-clause-flushed
returns-in-Err-refuse_rest-clause-flushed g c = passes_behind _ _ _ _ _ _ _ (passes_behind _ _ _ _ _ _ _ c.reads.invariant.flushed c.in-Ok-GoesOn.ensures.flushed) c.in-Err-refuse_rest.ensures.flushed

pub reads-preserved : goal.reads-preserved
reads-preserved g c = record {
  so = reads_on c.reads.invariant.so _ c.read.new.buf c.in-Ok.count c.min-within.result c.in-Ok.ensures.bytes.0 (omega (arith, c.in-Ok.ensures.bound)) (omega arith) _ _ (rw c.in-Ok-GoesOn.field-0-is at c.in-Ok-GoesOn.ensures.told) _ (c.in-Ok-GoesOn.ensures.held c.in-Ok-GoesOn.field-0-is) (omega arith);
  limit = c.in-Ok-GoesOn.ensures.limit;
  flushed = passes_behind _ _ _ _ _ _ _ c.reads.invariant.flushed c.in-Ok-GoesOn.ensures.flushed;
  source_well = c.in-Ok.ensures.cause.kept ∙ c.reads.invariant.source_well;
  sink_well = c.in-Ok-GoesOn.ensures.cause.kept ∙ c.reads.invariant.sink_well;
}
