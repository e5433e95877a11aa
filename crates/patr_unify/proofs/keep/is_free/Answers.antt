use Rattle.std.proofs.Common.{◌∙◌, refl, sym, ap}
use Rattle.patr_arena.specs.Shown.{number_of}
use Rattle.patr_scratch.specs.Contents.{PlaceMarks}
use Rattle.patr_unify.specs.Copying.{stays_free}
use Rattle.patr_unify.specs.Reading.{forward_of, option_at}
use Rattle.patr_unify.specs.Walking.{visit_of}
use Rattle.patr_unify.proofs.Keeping.{free_right, free_seen, left_marks}
use Rattle.patr_unify.proofs.keep.is_free.Goals as goal

pub returns-in-Some : goal.returns-in-Some
returns-in-Some g c =
    let v = g.N.Nodes.shown c.args.nodes.now in
    let w = c.args.scratch.now in
    let p = c.args.place in
    let here = left_marks v w (g.met.N.Nodes.lawful c.args.nodes.now) p c.number-number.result c.requires.place c.number-number.ensures in
    ap (λ o. stays_free (option_at v o) (visit_of v w (number_of v p.block p.offset))) (c.in-Some.ensures ∙ ap (λ (m : PlaceMarks). m.forward) here) ∙ free_right v w p (number_of v p.block p.offset) c.in-Right.is refl

pub returns-in-None : goal.returns-in-None
returns-in-None g c =
    let v = g.N.Nodes.shown c.args.nodes.now in
    let w = c.args.scratch.now in
    let p = c.args.place in
    let k = number_of v p.block p.offset in
    let here = left_marks v w (g.met.N.Nodes.lawful c.args.nodes.now) p c.number-number.result c.requires.place c.number-number.ensures in
    let seen = c.visit.ensures ∙ ap (λ (m : PlaceMarks). m.visit) here in
    free_seen (forward_of v w k) (visit_of v w k) c.same_visit.result (ap (option_at v) (sym (c.in-None.ensures ∙ ap (λ (m : PlaceMarks). m.forward) here))) (λ e. sym seen ∙ c.same_visit.ensures.same e) (λ e q. c.same_visit.ensures.apart e (seen ∙ q))
    ∙ free_right v w p k c.in-Right.is refl
