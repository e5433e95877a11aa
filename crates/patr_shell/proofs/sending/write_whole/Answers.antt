use Rattle.std.proofs.Common.{◌∙◌, arith}
use Rattle.std.proofs.lemmas.Grind.{common_steps}
use Rattle.patr_shell.proofs.Fronts.{sent_more}
use Rattle.patr_shell.proofs.sending.write_whole.Goals as goal

pub loop-rest-preserved : goal.loop-rest-preserved
loop-rest-preserved g c =
    let written = g.K.Sink.written in
    record {
      sent = sent_more (written c.args.sink.now) (written c.loop-rest.sink) (written c.write.new.self) c.args.text.now c.loop-rest.rest.now _ c.in_ok-count.count c.loop-rest.invariant.sent c.in_ok-count.ensures.bytes (grind (arith, common_steps));
      well = c.in_ok-count.ensures.cause.kept ∙ c.loop-rest.invariant.well;
      still = c.write.ensures.flushed ∙ c.loop-rest.invariant.still;
    }
