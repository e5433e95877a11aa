use Rattle.patr_scratch.specs.Marks.{Mark}
use Rattle.patr_scratch.proofs.Stamping.{marks_changed}
use Rattle.patr_scratch.proofs.table.Table.set_added.Goals as goal

pub returns : goal.returns
returns c = marks_changed c.self.inside.stamp c.self.inside.cells.items c.args.self.now c.args.slot c.index_mut-cell.result.now c.renew.new.self c.set_added.new.self (λ (m : Mark). record m { added = c.args.added }) c.self.view_is c.requires c.index_mut-cell.ensures.value c.renew.ensures.stamp c.renew.ensures.mark c.set_added.ensures
