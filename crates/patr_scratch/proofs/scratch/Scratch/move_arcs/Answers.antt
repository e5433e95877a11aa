use Rattle.std.proofs.Common.{◌≡◌, ◌<◌, ◌∙◌, List, length, arith, ap, sym, subst, Some}
use Rattle.std.proofs.lemmas.List.{length-map}
use Rattle.patr_scratch.specs.declared.arc.ArcCell.{ArcCell}
use Rattle.patr_scratch.specs.WithRoom.{WithRoom}
use Rattle.patr_scratch.specs.Linked.{IsLinked, first_of, last_or, place_of, contents_of}
use Rattle.patr_scratch.specs.Marks.{Mark, mark_at, unpacked}
use Rattle.patr_scratch.specs.Contents.{Contents, slot}
use Rattle.patr_scratch.proofs.Views.{apart_slots}
use Rattle.patr_scratch.proofs.MovedArcs.{arcs_moved, linked_moved, moved_view, moved_marks, nothing_moved, list_empty, last_below}
use Rattle.patr_scratch.proofs.scratch.Scratch.move_arcs.Goals as goal

pub returns-in_default : goal.returns-in_default
returns-in_default c =
    let was = c.self.inside in
    nothing_moved c.args.self.now c.args.from_side c.args.to_side c.args.from c.args.to
    (list_empty was.table was.arcs was.pairs was.visits was.order c.args.self.now c.args.from_side c.args.from c.slot-from_slot.result (unpacked c.get.result.now) c.self.view_is c.slot-from_slot.ensures c.get.ensures (sym c.added-source.ensures ∙ c.in_default.is))

pub get-joint-requires : goal.get-joint-requires
get-joint-requires c = last_below c.self.inside.table c.self.inside.arcs.list c.slot-from_slot.result (unpacked c.get.result.now) c.in-Some.moved c.self.invariant c.get.ensures (sym c.added-source.ensures ∙ c.in-Some.is)

pub set-requires : goal.set-requires
set-requires c = last_below c.self.inside.table c.self.inside.arcs.list c.slot-from_slot.result (unpacked c.get.result.now) c.in-Some.moved c.self.invariant c.get.ensures (sym c.added-source.ensures ∙ c.in-Some.is)

pub invariant_of-self : goal.invariant_of-self
invariant_of-self c =
    let was = c.self.inside in
    let A = slot c.args.from_side c.args.from in
    let B = slot c.args.to_side c.args.to in
    let lA : A < length was.table = omega (arith, c.requires.from, ap (λ (v : Contents). length v.places) c.self.view_is, length-map was.table (place_of was.arcs.list)) in
    let lB : B < length was.table = omega (arith, c.requires.to, ap (λ (v : Contents). length v.places) c.self.view_is, length-map was.table (place_of was.arcs.list)) in
    let apart = apart_slots c.args.from_side c.args.to_side c.args.from c.args.to c.requires.apart in
    let below = last_below was.table was.arcs.list c.slot-from_slot.result (unpacked c.get.result.now) c.in-Some.moved c.self.invariant c.get.ensures (sym c.added-source.ensures ∙ c.in-Some.is) in
    let w = arcs_moved was.table was.arcs c.slot-from_slot.result c.slot-to_slot.result c.in-Some.moved (unpacked c.get-2.result.now) c.first_of-next.result c.last_or-last.result c.get-joint.result c.set.new.self c.set_added.new.self c.set_added-2.new.self
    c.args.from_side c.args.to_side c.args.from c.args.to
    c.slot-from_slot.ensures c.slot-to_slot.ensures c.get-2.ensures (c.first_of-next.ensures ∙ ap first_of c.added-target.ensures) (c.last_or-last.ensures ∙ ap (λ a. last_or a c.in-Some.moved.last) c.added-target.ensures) below c.get-joint.ensures c.set.ensures apart c.set_added.ensures c.set_added-2.ensures in
    let some : (mark_at was.table A).added ≡ Some c.in-Some.moved = ap (λ (u : Mark). u.added) (sym (c.get.ensures ∙ ap (mark_at was.table) c.slot-from_slot.ensures)) ∙ sym c.added-source.ensures ∙ c.in-Some.is in
    subst (λ (ms : List Mark). IsLinked ms c.set.new.self.list) (sym w.0) (subst (λ (a : WithRoom ArcCell). IsLinked (moved_marks was.table A B c.in-Some.moved) a.list) (sym w.1)
    (linked_moved was.table was.arcs.list A B c.in-Some.moved c.self.invariant apart lA lB some))

pub returns : goal.returns
returns c =
    let was = c.self.inside in
    let A = slot c.args.from_side c.args.from in
    let B = slot c.args.to_side c.args.to in
    let apart = apart_slots c.args.from_side c.args.to_side c.args.from c.args.to c.requires.apart in
    let below = last_below was.table was.arcs.list c.slot-from_slot.result (unpacked c.get.result.now) c.in-Some.moved c.self.invariant c.get.ensures (sym c.added-source.ensures ∙ c.in-Some.is) in
    let w = arcs_moved was.table was.arcs c.slot-from_slot.result c.slot-to_slot.result c.in-Some.moved (unpacked c.get-2.result.now) c.first_of-next.result c.last_or-last.result c.get-joint.result c.set.new.self c.set_added.new.self c.set_added-2.new.self
    c.args.from_side c.args.to_side c.args.from c.args.to
    c.slot-from_slot.ensures c.slot-to_slot.ensures c.get-2.ensures (c.first_of-next.ensures ∙ ap first_of c.added-target.ensures) (c.last_or-last.ensures ∙ ap (λ a. last_or a c.in-Some.moved.last) c.added-target.ensures) below c.get-joint.ensures c.set.ensures apart c.set_added.ensures c.set_added-2.ensures in
    let some : (mark_at was.table A).added ≡ Some c.in-Some.moved = ap (λ (u : Mark). u.added) (sym (c.get.ensures ∙ ap (mark_at was.table) c.slot-from_slot.ensures)) ∙ sym c.added-source.ensures ∙ c.in-Some.is in
    ap (λ (ms : List Mark). contents_of ms c.set.new.self was.pairs was.visits was.order) w.0
    ∙ (ap (λ (a : WithRoom ArcCell). contents_of (moved_marks was.table A B c.in-Some.moved) a was.pairs was.visits was.order) w.1
    ∙ moved_view was.table was.arcs was.pairs was.visits was.order c.args.self.now c.args.from_side c.args.to_side c.args.from c.args.to c.in-Some.moved c.self.invariant c.self.view_is c.requires.from c.requires.to apart some)
