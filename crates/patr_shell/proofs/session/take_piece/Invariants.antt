use Rattle.std.proofs.Common.{◌≡◌, ◌++◌, length, false}
use Rattle.patr_shell.proofs.Names.{PassesOn, HasLimit}
use Rattle.patr_shell.proofs.InPieces.{InPiece}
use Rattle.patr_shell.proofs.session.take_piece.Given as goal

-- where the session stands in the piece
abbrev pub invariant-lines : goal.invariant-lines
invariant-lines g l =
    let written = g.K.Sink.written in
    record {
      stands : InPiece l.language l.fn.state l.state (l.fn.held.items ++ l.piece) l.held.items l.rest (written l.fn.sink) (written l.sink);
      limit : HasLimit l.state;
      flushed : PassesOn false (written l.fn.sink) (written l.sink) (g.K.Sink.flushed l.fn.sink) (g.K.Sink.flushed l.sink);
      well : g.K.Sink.faults l.sink ≡ g.K.Sink.faults l.fn.sink;
    }

abbrev pub decreases-lines : goal.decreases-lines
decreases-lines g l = length l.rest
