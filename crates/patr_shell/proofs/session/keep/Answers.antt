use Rattle.std.proofs.Common.{◌∙◌, arith}
use Rattle.patr_shell.proofs.Ends.{kept_with}
use Rattle.patr_shell.proofs.session.keep.Goals as goal

pub returns : goal.returns
returns c = c.in_ok-extend_from_slice.ensures.items ∙ kept_with 4098 c.min-room.result c.args.held.now.items c.args.part.now c.requires (omega (arith, c.min-room.ensures))
