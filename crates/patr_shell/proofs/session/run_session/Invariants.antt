use Rattle.std.proofs.Common.{◌≡◌, ◌-◌, false}
use Rattle.patr_shell.proofs.Names.{PassesOn, HasLimit}
use Rattle.patr_shell.proofs.SessionReads.{HasRead}
use Rattle.patr_shell.proofs.session.run_session.Given as goal

-- the session stands behind the bytes that were read, and nothing failed
abbrev pub invariant-reads : goal.invariant-reads
invariant-reads g l =
    let left = g.S.Source.left in
    let written = g.K.Sink.written in
    record {
      so : HasRead l.language l.fn.first l.state l.held.items l.taken (left l.fn.source) (left l.source) (written l.fn.sink) (written l.sink);
      limit : HasLimit l.state;
      flushed : PassesOn false (written l.fn.sink) (written l.sink) (g.K.Sink.flushed l.fn.sink) (g.K.Sink.flushed l.sink);
      source_well : g.S.Source.faults l.source ≡ g.S.Source.faults l.fn.source;
      sink_well : g.K.Sink.faults l.sink ≡ g.K.Sink.faults l.fn.sink;
    }

abbrev pub decreases-reads : goal.decreases-reads
decreases-reads g l = 16777216 - l.taken
