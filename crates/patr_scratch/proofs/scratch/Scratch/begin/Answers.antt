use Rattle.std.proofs.Common.{List, length, sym, subst}
use Rattle.patr_scratch.specs.declared.arc.ArcCell.{ArcCell}
use Rattle.patr_scratch.specs.Marks.{Mark}
use Rattle.patr_scratch.specs.WithRoom.{WithRoom}
use Rattle.patr_scratch.specs.Linked.{IsLinked}
use Rattle.patr_scratch.specs.Marks.{no_marks}
use Rattle.patr_scratch.proofs.Views.{linked_blank, begun_view}
use Rattle.patr_scratch.proofs.scratch.Scratch.begin.Goals as goal

pub invariant_of-self : goal.invariant_of-self
invariant_of-self c =
    subst (λ (ms : List Mark). IsLinked ms c.clear.new.self.list) (sym c.begin.ensures)
    (subst (λ (arcs : WithRoom ArcCell). IsLinked (no_marks (length c.self.inside.table)) arcs.list) (sym c.clear.ensures) (linked_blank (length c.self.inside.table)))

pub returns : goal.returns
returns c =
    begun_view c.self.inside.table c.self.inside.arcs c.self.inside.pairs c.self.inside.visits c.self.inside.order c.args.self.now c.begin.new.self c.clear.new.self c.clear-2.new.self c.clear-3.new.self c.clear-4.new.self
    c.self.view_is c.begin.ensures c.clear.ensures c.clear-2.ensures c.clear-3.ensures c.clear-4.ensures
