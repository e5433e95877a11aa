use Rattle.std.proofs.Common.{◌≡◌, ◌<◌, length, slice_get, Some, sym, ap, subst, ◌∙◌}
use Rattle.patr_chart.proofs.Names.{end, slice_get-get_or, start, tree}
use Rattle.patr_chart.proofs.Trees.{tree_of}
use Rattle.patr_chart.proofs.chart.Chart.edge.Goals as goal

pub returns-clause-derived : goal.returns-clause-derived
returns-clause-derived c =
    let es = c.self.inside.edges.items in
    let e = c.index.result.now in
    let here : c.args.k < length es = subst (λ v. c.args.k < length v.edges) (sym c.self.view_is) c.requires in
    let at : slice_get es c.args.k ≡ Some e = slice_get-get_or es c.args.k e here ∙ ap (λ x. Some x) (sym c.index.ensures) in
    let of = tree_of c.self.inside.words es c.self.invariant.edges c.args.k e at in
    (sym (ap (λ v. start (tree v.edges c.args.k)) c.self.view_is) ∙ of.start, sym (ap (λ v. end (tree v.edges c.args.k)) c.self.view_is) ∙ of.end)
