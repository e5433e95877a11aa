use Rattle.std.proofs.Common.{◌<◌, length, sym, ap, subst, ◌∙◌}
use Rattle.patr_chart.proofs.Names.{partners}
use Rattle.patr_chart.proofs.Indexed.{are_partners, enough}
use Rattle.patr_chart.proofs.chart.Chart.partners.Goals as goal

pub slice_bounds-result-end : goal.slice_bounds-result-end
slice_bounds-result-end c =
    let here : c.args.k < length c.self.inside.edges.items = subst (λ v. c.args.k < length v.edges) (sym c.self.view_is) c.requires in
    enough c.self.inside.words c.self.inside.edges.items c.self.inside.counts.items c.self.inside.starting c.self.inside.ending c.self.invariant c.args.k c.index-edge.result.now c.index.result.now c.neighbours.result.now
    here c.index-edge.ensures c.index.ensures c.neighbours.ensures

pub returns : goal.returns
returns c =
    let here : c.args.k < length c.self.inside.edges.items = subst (λ v. c.args.k < length v.edges) (sym c.self.view_is) c.requires in
    are_partners c.self.inside.words c.self.inside.edges.items c.self.inside.counts.items c.self.inside.starting c.self.inside.ending c.self.invariant c.args.k c.index-edge.result.now c.index.result.now c.neighbours.result.now
    here c.index-edge.ensures c.index.ensures c.neighbours.ensures
    ∙ ap (λ v. partners v.edges c.args.k) c.self.view_is
