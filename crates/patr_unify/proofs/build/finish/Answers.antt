use Rattle.std.proofs.Common.{rules, ◌≡◌, ◌∙◌, ◌+◌, Bool, length, inl, refl, ap, subst}
use Rattle.patr_unify.specs.Copying.{IsKeptOrNot}
use Rattle.patr_unify.specs.Reading.{key}
use Rattle.patr_unify.proofs.Visits.{own_length}
use Rattle.patr_unify.proofs.Loops.{arcs_are}
use Rattle.patr_unify.proofs.build.finish.Goals as goal

pub returns-then-may_stay-clause-finished : goal.returns-then-may_stay-clause-finished
returns-then-may_stay-clause-finished g c =
    let v = g.N.Nodes.shown c.args.nodes.now in
    let w = c.args.scratch.now in
    let p = c.args.top in
    let fs = c.arcs-count.result.now in
    let same = arcs_are v (g.met.N.Nodes.lawful c.args.nodes.now) w p c.requires.top c.address.result c.address.ensures fs c.arcs-count.ensures.held c.arcs-count.ensures.same in
    let one : c.in_ok-draft.field-0 ≡ c.args.draft.now.nodes + 1 = search rules in
    let more : c.in_ok-draft-2.field-0 ≡ c.args.draft.now.arcs + length fs = search rules in
    inl (record {
      kept = subst (λ (b : Bool). IsKeptOrNot v w (key v p) b) c.if-may_stay.true c.may_stay.ensures;
      marked = c.mark_copy.ensures;
      block = refl;
      nodes = one;
      arcs = more ∙ ap (λ n. c.args.draft.now.arcs + n) (own_length v (g.met.N.Nodes.lawful c.args.nodes.now) p fs c.requires.top same);
    })
