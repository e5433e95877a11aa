use Rattle.std.proofs.Common.{◌≡◌, length}
use Rattle.patr_shell.specs.Sent.{IsSent}
use Rattle.patr_shell.proofs.sending.write_whole.Given as goal

-- the text is sent up to the rest, no write failed, and nothing was passed on
abbrev pub invariant-loop-rest : goal.invariant-loop-rest
invariant-loop-rest g l =
    let written = g.K.Sink.written in
    let faults = g.K.Sink.faults in
    record {
      sent : IsSent (written l.fn.sink) (written l.sink) l.text l.rest;
      well : faults l.sink ≡ faults l.fn.sink;
      still : g.K.Sink.flushed l.sink ≡ g.K.Sink.flushed l.fn.sink;
    }

abbrev pub decreases-loop-rest : goal.decreases-loop-rest
decreases-loop-rest g l = length l.rest
