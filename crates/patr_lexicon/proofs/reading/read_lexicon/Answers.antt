use Rattle.std.proofs.Common.{ℕ, List}
use Rattle.std.specs.Str.{IsValidUpTo}
use Rattle.patr_model.specs.Faults.{StopsUtf8}
use Rattle.patr_lexicon.proofs.reading.read_lexicon.Goals as goal

stops : (bytes : List ℕ) (n : ℕ) → IsValidUpTo bytes n → StopsUtf8 bytes n
stops bytes n h = (h.short, h.front, λ k after within utf8. h.longest k after utf8)

pub returns-in-Err-clause-refused : goal.returns-in-Err-clause-refused
returns-in-Err-clause-refused c = rw c.valid_up_to.ensures (stops c.args.bytes.now _ c.in-Err.ensures.cases.1)
