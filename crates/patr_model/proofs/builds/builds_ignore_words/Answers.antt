use Rattle.std.proofs.Common.{◌≡◌, nat_eq, sym}
use Rattle.patr_model.proofs.builds.builds_ignore_words.Goals as goal
use Rattle.patr_model.specs.Bytes.{same_text}
use Rattle.patr_model.proofs.SameBuilds.{same_build, fault_same}

pub returns : goal.returns
returns c = λ number other keys g h l k alike e f. (
  same_build (λ t n. other n ≡ number t) number other (λ t n q. sym q) same_text nat_eq alike keys g h l k e f,
  fault_same (λ t n. other n ≡ number t) same_text nat_eq alike g h l k e f,
)
