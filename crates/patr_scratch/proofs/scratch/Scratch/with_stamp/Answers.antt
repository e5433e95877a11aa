use Rattle.std.proofs.Common.{List, [], sym, subst}
use Rattle.patr_scratch.specs.declared.arc.ArcCell.{ArcCell}
use Rattle.patr_scratch.specs.Marks.{Mark}
use Rattle.patr_scratch.specs.WithRoom.{WithRoom}
use Rattle.patr_scratch.specs.Linked.{IsLinked}
use Rattle.patr_scratch.proofs.Views.{linked_blank}
use Rattle.patr_scratch.proofs.scratch.Scratch.with_stamp.Goals as goal

pub invariant_of-result : goal.invariant_of-result
invariant_of-result c =
    subst (λ (ms : List Mark). IsLinked ms c.new.result.list) (sym c.with_stamp.ensures)
    (subst (λ (arcs : WithRoom ArcCell). IsLinked [] arcs.list) (sym c.new.ensures) (linked_blank 0))
