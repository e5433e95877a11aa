use Rattle.patr_expand.proofs.Named.{number_none, number_some}
use Rattle.patr_expand.proofs.measured.Measured.number.Goals as goal

pub returns-in-empty : goal.returns-in-empty
returns-in-empty c = λ ms h. number_none ms c.args.self.now c.args.name c.list.result.now h c.list.ensures c.in-empty.len_below

pub returns-in-len1-up : goal.returns-in-len1-up
returns-in-len1-up c = λ ms h. number_some ms c.args.self.now c.args.name c.list.result.now h c.list.ensures c.in-len1-up.len_at_least
