use Rattle.std.proofs.Common.{◌∙◌, refl}
use Rattle.patr_scratch.proofs.Views.{blank_grown}
use Rattle.patr_scratch.proofs.scratch.Scratch.reserve.Goals as goal

pub returns-in_err-reserve-clause-blank : goal.returns-in_err-reserve-clause-blank
returns-in_err-reserve-clause-blank c =
    let was = c.self.inside in
    blank_grown was.table was.arcs was.pairs was.visits was.order c.args.self.now _ c.reserve.new.self was.arcs was.pairs was.visits was.order (c.self.view_is ∙ c.begin.ensures) c.reserve.ensures.marks refl refl refl refl

pub returns-in_err-reserve-2-clause-blank : goal.returns-in_err-reserve-2-clause-blank
returns-in_err-reserve-2-clause-blank c =
    let was = c.self.inside in
    blank_grown was.table was.arcs was.pairs was.visits was.order c.args.self.now _ c.reserve.new.self was.arcs was.pairs c.reserve-2.new.self was.order (c.self.view_is ∙ c.begin.ensures) c.reserve.ensures.marks refl refl c.reserve-2.ensures.list refl

pub returns-in_err-reserve-3-clause-blank : goal.returns-in_err-reserve-3-clause-blank
returns-in_err-reserve-3-clause-blank c =
    let was = c.self.inside in
    blank_grown was.table was.arcs was.pairs was.visits was.order c.args.self.now _ c.reserve.new.self was.arcs was.pairs c.reserve-2.new.self c.reserve-3.new.self (c.self.view_is ∙ c.begin.ensures) c.reserve.ensures.marks refl refl c.reserve-2.ensures.list c.reserve-3.ensures.list

pub returns-in_err-reserve-4-clause-blank : goal.returns-in_err-reserve-4-clause-blank
returns-in_err-reserve-4-clause-blank c =
    let was = c.self.inside in
    blank_grown was.table was.arcs was.pairs was.visits was.order c.args.self.now _ c.reserve.new.self c.reserve-4.new.self was.pairs c.reserve-2.new.self c.reserve-3.new.self
    (c.self.view_is ∙ c.begin.ensures) c.reserve.ensures.marks c.reserve-4.ensures.list refl c.reserve-2.ensures.list c.reserve-3.ensures.list

pub returns-clause-blank : goal.returns-clause-blank
returns-clause-blank c =
    let was = c.self.inside in
    blank_grown was.table was.arcs was.pairs was.visits was.order c.args.self.now _ c.reserve.new.self c.reserve-4.new.self c.reserve-5.new.self c.reserve-2.new.self c.reserve-3.new.self
    (c.self.view_is ∙ c.begin.ensures) c.reserve.ensures.marks c.reserve-4.ensures.list c.reserve-5.ensures.list c.reserve-2.ensures.list c.reserve-3.ensures.list
