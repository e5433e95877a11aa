use Rattle.std.proofs.Common.{◌<◌, arith, refl}
use Rattle.patr_scratch.proofs.Stamping.{marks_later, all_later, marks_cleared, next_is_later}
use Rattle.patr_scratch.proofs.table.Table.begin.Goals as goal

pub returns-then-begins_anew : goal.returns-then-begins_anew
returns-then-begins_anew c =
    let was = c.self.inside in
    marks_cleared was.stamp c.unwrap_or-self-inside.result _ was.cells.items c.args.self.now c.fill.new.self.items _ c.self.view_is was.cells.ok.0 (c.fill.ensures.items (λ cell same. same))
    (omega (arith, c.if-begins_anew.true))

pub returns-else-begins_anew : goal.returns-else-begins_anew
returns-else-begins_anew c =
    let was = c.self.inside in
    let later : was.stamp < c.unwrap_or-self-inside.result = next_is_later c.checked_add.result was.stamp c.unwrap_or-self-inside.result c.checked_add.ensures c.unwrap_or-self-inside.ensures c.if-begins_anew.false in
    marks_later was.stamp c.unwrap_or-self-inside.result was.cells.items c.args.self.now was.cells.items c.self.view_is refl
    (all_later was.cells.items was.stamp c.unwrap_or-self-inside.result c.self.invariant.each later)
