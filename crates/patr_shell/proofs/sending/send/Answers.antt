use Rattle.std.proofs.Common.{[], ap, length, nat_eq, List, ℕ, sym, ◌∙◌, true≢false}
use Rattle.patr_shell.proofs.Names.{Appends-kept, err_from_is_err_and}
use Rattle.patr_shell.proofs.Fronts.{sent_whole, sent_kept, OnErr-always}
use Rattle.patr_shell.proofs.Passing.{passed_if_ok}
use Rattle.patr_shell.proofs.sending.send.Goals as goal

pub returns-clause-err : goal.returns-clause-err
returns-clause-err g c =
    let written = g.K.Sink.written in
    let whole = sent_whole (written c.args.sink.now) (written c.write_whole.new.sink) c.args.text.now c.in_ok-write_whole.ensures.ok in
    OnErr-always c.flush.result ([], sent_kept (written c.args.sink.now) (written c.write_whole.new.sink) (written c.flush.new.self) c.args.text.now [] whole c.flush.ensures.bytes)

-- the text is not empty
pub returns-clause-flushed : goal.returns-clause-flushed
returns-clause-flushed g c = record {
  text = c.args.text.now;
  appended = Appends-kept (g.K.Sink.written c.args.sink.now) (g.K.Sink.written c.write_whole.new.sink) (g.K.Sink.written c.flush.new.self) c.args.text.now c.in_ok-write_whole.ensures.ok c.flush.ensures.bytes;
  silent = λ none. absurd (true≢false (ap (λ (l : List ℕ). nat_eq (length l) 0) (sym none) ∙ (sym c.is_empty.ensures ∙ c.if-is_empty.false)));
  passed = passed_if_ok c.flush.result _ _ c.flush.ensures.flushed;
}

pub returns-in_err-write_whole-clause-flushed : goal.returns-in_err-write_whole-clause-flushed
returns-in_err-write_whole-clause-flushed g c =
    let p = err_from_is_err_and c.from_residual.result c.from_residual.ensures.1 in
    rw p.1 (record {
      text = c.in_err-write_whole.ensures.err.1.front;
      appended = c.in_err-write_whole.ensures.err.1.appended;
      silent = λ none. c.write_whole.ensures.flushed;
      passed = tt;
    })
