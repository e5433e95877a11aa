use Rattle.std.proofs.Common.{◌∙◌, sym, ap, subst}
use Rattle.patr_scratch.specs.Contents.{first_cell, marks}
use Rattle.patr_unify.specs.Merging.{both}
use Rattle.patr_unify.specs.Reading.{key}
use Rattle.patr_unify.specs.Walking.{IsDone, IsPassed, end_value, rest_at}
use Rattle.patr_unify.proofs.Loops.{first_link}
use Rattle.patr_unify.proofs.Walks.{none_left}
use Rattle.patr_unify.proofs.walk.next_end.Goals as goal

pub other_added_end-requires : goal.other_added_end-requires
other_added_end-requires g c =
    let v = g.N.Nodes.shown c.args.nodes.now in
    let w = c.args.scratch.now in
    let first = first_link v w (g.met.N.Nodes.lawful c.args.nodes.now) c.requires.held c.args.place c.requires.place c.first_arc-first.result (c.first_arc-first.ensures ∙ ap (λ n. first_cell (marks w c.args.place.side n).added) c.number.ensures) in
    record { place = c.requires.place; held = c.requires.held; ending = c.requires.ending; start = first.0; before = subst (IsPassed v w (both v w (key v c.args.place))) (sym first.1) c.in-None.ensures }

pub returns-in-Behind : goal.returns-in-Behind
returns-in-Behind g c =
    let v = g.N.Nodes.shown c.args.nodes.now in
    let w = c.args.scratch.now in
    let k = key v c.args.place in
    none_left (λ x. IsDone v w (end_value v w x)) (both v w k) (subst (λ q. IsPassed v w (both v w k) (rest_at v w k q)) c.in-Behind.is c.requires.paused.before)
