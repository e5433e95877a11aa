use Rattle.std.proofs.Common.{◌<◌, ◌∙◌, List, length, set, arith, ap, sym, refl, subst}
use Rattle.std.proofs.lemmas.List.{length-map}
use Rattle.patr_scratch.specs.declared.arc.ArcCell.{ArcCell}
use Rattle.patr_scratch.specs.WithRoom.{WithRoom}
use Rattle.patr_scratch.specs.Linked.{IsLinked, first_of, last_or, place_of, contents_of}
use Rattle.patr_scratch.specs.Marks.{Mark, mark_at, unpacked}
use Rattle.patr_scratch.specs.Contents.{Contents, slot}
use Rattle.patr_scratch.proofs.AddedArcs.{arc_added, linked_front, with_arc_view, front_mark}
use Rattle.patr_scratch.proofs.scratch.Scratch.add_arc.Goals as goal

pub invariant_of-self : goal.invariant_of-self
invariant_of-self c =
    let was = c.self.inside in
    let k = slot c.args.side c.args.number in
    let new : ArcCell = record { attribute = c.args.attribute; to = c.args.to; next = first_of (mark_at was.table k).added } in
    let l : k < length was.table = omega (arith, c.requires.place, ap (λ (v : Contents). length v.places) c.self.view_is, length-map was.table (place_of was.arcs.list)) in
    let w = arc_added was.table was.arcs c.slot-slot.result 0 (unpacked c.get.result.now) c.first_of-next.result c.last_or-last.result c.len-cell.result c.args.attribute c.args.to c.set_added.new.self c.push.new.self c.args.side c.args.number
    c.slot-slot.ensures c.get.ensures c.len-cell.ensures (c.first_of-next.ensures ∙ ap first_of c.added-added.ensures) (c.last_or-last.ensures ∙ ap (λ a. last_or a c.len-cell.result) c.added-added.ensures) c.push.ensures c.set_added.ensures in
    subst (λ (ms : List Mark). IsLinked ms c.push.new.self.list) (sym w.0) (subst (λ (a : WithRoom ArcCell). IsLinked (set was.table k (front_mark was.table k (length was.arcs.list))) a.list) (sym w.1) (linked_front was.table was.arcs.list k new c.self.invariant l refl))

pub returns : goal.returns
returns c =
    let was = c.self.inside in
    let k = slot c.args.side c.args.number in
    let new : ArcCell = record { attribute = c.args.attribute; to = c.args.to; next = first_of (mark_at was.table k).added } in
    let w = arc_added was.table was.arcs c.slot-slot.result 0 (unpacked c.get.result.now) c.first_of-next.result c.last_or-last.result c.len-cell.result c.args.attribute c.args.to c.set_added.new.self c.push.new.self c.args.side c.args.number
    c.slot-slot.ensures c.get.ensures c.len-cell.ensures (c.first_of-next.ensures ∙ ap first_of c.added-added.ensures) (c.last_or-last.ensures ∙ ap (λ a. last_or a c.len-cell.result) c.added-added.ensures) c.push.ensures c.set_added.ensures in
    ap (λ (ms : List Mark). contents_of ms c.push.new.self was.pairs was.visits was.order) w.0
    ∙ (ap (λ (a : WithRoom ArcCell). contents_of (set was.table k (front_mark was.table k (length was.arcs.list))) a was.pairs was.visits was.order) w.1
    ∙ with_arc_view was.table was.arcs was.pairs was.visits was.order c.args.self.now c.args.side c.args.number new c.self.invariant c.self.view_is c.requires.place refl)
