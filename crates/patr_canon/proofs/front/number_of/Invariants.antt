use Rattle.std.proofs.Common.{◌≡◌, ◌<◌, ◌^◌, drop}
use Rattle.patr_model.specs.Reading.{digits_front}
use Rattle.patr_canon.proofs.front.number_of.Given as goal

-- the number so far goes on with the digits that are left
abbrev pub invariant-loop-byte : goal.invariant-loop-byte
invariant-loop-byte l = (digits_front l.digits 0 ≡ digits_front (drop l.byte-index l.digits) l.number) × (l.number < 2 ^ 32)
