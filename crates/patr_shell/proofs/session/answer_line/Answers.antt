use Rattle.std.proofs.Common.{[], ◌∷◌}
use Rattle.patr_shell.proofs.Names.{Keeps-refl, err_from_is_err_and, IsQuit, without_cr, lines_with_commands}
use Rattle.patr_shell.proofs.Fronts.{IfErr-always}
use Rattle.patr_shell.proofs.Passing.{passes_none}
use Rattle.patr_shell.proofs.Replying.{line_reply, begun_none, begun_one, answered_one, ended_one}
use Rattle.patr_shell.proofs.session.answer_line.Goals as goal

-- nothing was sent
pub returns-in_err-reply-clause-front : goal.returns-in_err-reply-clause-front
returns-in_err-reply-clause-front g c =
    IfErr-always c.from_residual.result _ (λ fault. begun_none c.args.language.now c.args.state.now (without_cr c.args.line.now ∷ []) fault (g.K.Sink.written c.args.sink.now))

pub returns-in_err-reply-clause-memory : goal.returns-in_err-reply-clause-memory
returns-in_err-reply-clause-memory g c = λ short. Keeps-refl (g.K.Sink.written c.args.sink.now)

pub returns-in_err-reply-clause-flushed : goal.returns-in_err-reply-clause-flushed
returns-in_err-reply-clause-flushed g c = passes_none _ _ _

pub returns-in_default-clause-told : goal.returns-in_default-clause-told
returns-in_default-clause-told g c =
    let answer = rw c.in_default.is at c.in_ok-reply.ensures.answer in
    let stops : IsQuit lines_with_commands (without_cr c.args.line.now) = rw (← c.trim.ensures) answer in
    ended_one c.args.language.now c.args.state.now (without_cr c.args.line.now) (g.K.Sink.written c.args.sink.now) stops

pub returns-in_default-clause-flushed : goal.returns-in_default-clause-flushed
returns-in_default-clause-flushed g c = passes_none _ _ _

pub returns-in_err-send-clause-front : goal.returns-in_err-send-clause-front
returns-in_err-send-clause-front g c =
    let p = err_from_is_err_and c.from_residual-in_err-send.result c.from_residual-in_err-send.ensures.1 in
    let answer = rw c.in-Some.is at c.in_ok-reply.ensures.answer in
    let at = line_reply c.args.language.now _ _ _ c.as_bytes.result.now c.in-Some.reply c.trim.ensures c.as_bytes.ensures.value answer in
    rw (p.1, p.2) (begun_one c.args.language.now _ c.in-Some.reply.state _ _ _ _ at.0 at.1 c.in_err-send.ensures.err)

pub returns-in_err-send-clause-memory : goal.returns-in_err-send-clause-memory
returns-in_err-send-clause-memory g c =
    let p = err_from_is_err_and c.from_residual-in_err-send.result c.from_residual-in_err-send.ensures.1 in
    rw (p.1, p.2) (λ short. cc)

pub returns-in_err-send-clause-flushed : goal.returns-in_err-send-clause-flushed
returns-in_err-send-clause-flushed g c =
    let p = err_from_is_err_and c.from_residual-in_err-send.result c.from_residual-in_err-send.ensures.1 in
    rw (p.1, p.2) c.in_err-send.ensures.flushed

pub returns-clause-told : goal.returns-clause-told
returns-clause-told g c =
    let answer = rw c.in-Some.is at c.in_ok-reply.ensures.answer in
    let at = line_reply c.args.language.now _ _ _ c.as_bytes.result.now c.in-Some.reply c.trim.ensures c.as_bytes.ensures.value answer in
    answered_one c.args.language.now _ c.in-Some.reply.state _ _ _ _ at.0 at.1 c.in_ok-send.ensures.ok
