use Rattle.std.proofs.Common.{◌≡◌, ◌<◌, ◌^◌, drop}
use Rattle.patr_model.specs.Session.{digits_value}
use Rattle.patr_shell.proofs.command_line.number_of.Given as goal

abbrev pub invariant-loop-digit : goal.invariant-loop-digit
invariant-loop-digit l = (digits_value l.number (drop l.digit-index l.digits) ≡ digits_value 0 l.digits) × (l.number < 10 ^ l.digit-index)
