use Rattle.std.proofs.Common.{map, string_bytes, inl, refl, ap}
use Rattle.patr_shell.specs.Outcome.{ended_by_read, ended_by_write}
use Rattle.patr_shell.proofs.Complete.{done_or_memory, refused_not, no_read, must_rise}
use Rattle.patr_shell.proofs.Outs.{refused_text, session_text, nothing_text, session_cause, session_run, refusal_cause, refusal_run}
use Rattle.patr_shell.proofs.Passing.{passes_none}
use Rattle.patr_shell.proofs.running.run.Goals as goal

pub returns-in-Ok-clause-text : goal.returns-in-Ok-clause-text
returns-in-Ok-clause-text g c =
    session_text (map string_bytes c.args.words.now) _ _ _ _ c.in-Ok.opened.language c.in-Ok.opened.state c.in-Ok.ensures.opened c.in-Ok.ensures.table _ c.run_session.ensures.whole c.run_session.ensures.front

pub returns-in-Err-Refused-clause-text : goal.returns-in-Err-Refused-clause-text
returns-in-Err-Refused-clause-text g c =
    let h = rw c.in-Err-Refused.field-0-is at c.in-Err-Refused.ensures.fault in
    refused_text (map string_bytes c.args.words.now) _ _ _ _ c.in-Err-Refused.refusal (string_bytes c.in-Err-Refused.line) h _ (rw c.in-Err-Refused.field-0-is at c.refuse.ensures.status) (rw c.in-Err-Refused.field-0-is at c.refuse.ensures.front)

pub returns-in-Err-Read-clause-text : goal.returns-in-Err-Read-clause-text
returns-in-Err-Read-clause-text g c = nothing_text (map string_bytes c.args.words.now) _ _ _ _ refl

pub returns-in-Err-Memory-clause-text : goal.returns-in-Err-Memory-clause-text
returns-in-Err-Memory-clause-text g c = nothing_text (map string_bytes c.args.words.now) _ _ _ _ refl

pub returns-in-Ok-clause-end : goal.returns-in-Ok-clause-end
returns-in-Ok-clause-end g c =
    session_run (map string_bytes c.args.words.now) _ _ _ _ _ c.in-Ok.opened.language c.in-Ok.opened.state c.in-Ok.ensures.opened c.in-Ok.ensures.table _ c.run_session.ensures.status c.run_session.ensures.end

pub returns-in-Err-Refused-clause-end : goal.returns-in-Err-Refused-clause-end
returns-in-Err-Refused-clause-end g c =
    let h = rw c.in-Err-Refused.field-0-is at c.in-Err-Refused.ensures.fault in
    refusal_run (map string_bytes c.args.words.now) _ _ _ _ c.in-Err-Refused.refusal (string_bytes c.in-Err-Refused.line) h _ (rw c.in-Err-Refused.field-0-is at c.refuse.ensures.status)

pub returns-in-Err-Refused-clause-cause : goal.returns-in-Err-Refused-clause-cause
returns-in-Err-Refused-clause-cause g c =
    let h = rw c.in-Err-Refused.field-0-is at c.in-Err-Refused.ensures.fault in
    refusal_cause (map string_bytes c.args.words.now) _ _ _ c.in-Err-Refused.refusal (string_bytes c.in-Err-Refused.line) h _ (rw c.in-Err-Refused.field-0-is at c.refuse.ensures.status)

pub returns-in-Err-Read-clause-end : goal.returns-in-Err-Read-clause-end
returns-in-Err-Read-clause-end g c = inl (refl, refl)

pub returns-in-Err-Memory-clause-end : goal.returns-in-Err-Memory-clause-end
returns-in-Err-Memory-clause-end g c = inl (refl, refl)

pub returns-in-Err-Read-clause-flushed : goal.returns-in-Err-Read-clause-flushed
returns-in-Err-Read-clause-flushed g c = passes_none _ _ _

pub returns-in-Err-Memory-clause-flushed : goal.returns-in-Err-Memory-clause-flushed
returns-in-Err-Memory-clause-flushed g c = passes_none _ _ _

pub returns-in-Ok-clause-cause : goal.returns-in-Ok-clause-cause
returns-in-Ok-clause-cause g c = session_cause (map string_bytes c.args.words.now) _ _ c.in-Ok.ensures.found c.run_session.ensures.status

pub returns-in-Ok-clause-complete : goal.returns-in-Ok-clause-complete
returns-in-Ok-clause-complete g c = λ may none.
    done_or_memory (map string_bytes c.args.words.now) _ _ may _ _ c.run_session.result c.run_session.ensures.status
    (λ is. must_rise _ _ _ c.run_session.ensures.source_cause none.source_still (ap ended_by_read is))
    (λ is. must_rise _ _ _ c.run_session.ensures.sink_cause none.sink_still (ap ended_by_write is))
    (session_text (map string_bytes c.args.words.now) _ _ _ _ c.in-Ok.opened.language c.in-Ok.opened.state c.in-Ok.ensures.opened c.in-Ok.ensures.table _ c.run_session.ensures.whole c.run_session.ensures.front)

pub returns-in-Err-Refused-clause-complete : goal.returns-in-Err-Refused-clause-complete
returns-in-Err-Refused-clause-complete g c = λ may none.
    let h = rw c.in-Err-Refused.field-0-is at c.in-Err-Refused.ensures.fault in
    refused_not (map string_bytes c.args.words.now) _ _ may c.in-Err-Refused.refusal (string_bytes c.in-Err-Refused.line) c.refuse.result _ _ h (rw c.in-Err-Refused.field-0-is at c.refuse.ensures.status)
    (λ is. must_rise _ _ _ c.refuse.ensures.cause none.sink_still (ap ended_by_write is))

pub returns-in-Err-Read-clause-complete : goal.returns-in-Err-Read-clause-complete
returns-in-Err-Read-clause-complete g c = λ may none.
    let at = c.in-Err-Read.ensures.read c.in-Err-Read.field-0-is in
    absurd (no_read (map string_bytes c.args.words.now) _ _ may _ _ _ none.shelf_still at.0 at.1 at.2)
