use Rattle.std.proofs.Common.{◌≡◌, ◌++◌, ◌∷◌, [], length, sym, ap, subst, ◌∙◌, arith}
use Rattle.patr_chart.proofs.Names.{IsEdgeAfter, IsEntered, neighbours}
use Rattle.patr_chart.proofs.Indexed.{few_neighbours, more_indexed}
use Rattle.patr_chart.proofs.chart.Chart.push_edge.Goals as goal

pub overflow_cast-count : goal.overflow_cast-count
overflow_cast-count c =
    let es = c.self.inside.edges.items in
    let last = subst (λ v. IsEdgeAfter v.words v.edges c.args.edge) (sym c.self.view_is) c.requires in
    omega (
      arith,
      c.self.invariant.few,
      ap length c.neighbours-count.ensures,
      few_neighbours c.self.inside.words es c.self.inside.counts.items c.self.inside.starting c.self.inside.ending c.self.invariant c.args.edge last.order last.within,
    )

pub invariant_of-self-2 : goal.invariant_of-self-2
invariant_of-self-2 c =
    let es = c.self.inside.edges.items in
    let last = subst (λ v. IsEdgeAfter v.words v.edges c.args.edge) (sym c.self.view_is) c.requires in
    let number : c.len-number.result ≡ length es = omega (arith, c.len-number.ensures) in
    let entered = subst (λ n. IsEntered c.args.edge n c.self.inside.starting c.self.inside.ending c.enter.new.starting c.enter.new.ending) number (c.enter.ensures.entered c.if-not-enter.false) in
    let count : length c.neighbours-count.result.now ≡ length (neighbours c.self.inside.starting c.self.inside.ending c.args.edge) = ap length c.neighbours-count.ensures in
    let edges : c.push_reserved.new.self.items ≡ es ++ c.args.edge ∷ [] = c.push_reserved.ensures.items ∙ ap (λ l. l ++ c.args.edge ∷ []) c.reserve.ensures.items in
    let counts : c.push_reserved-2.new.self.items ≡ c.self.inside.counts.items ++ length c.neighbours-count.result.now ∷ [] = c.push_reserved-2.ensures.items ∙ ap (λ l. l ++ length c.neighbours-count.result.now ∷ []) c.reserve-else-is_err.ensures.items in
    rw (edges, counts, count)
    (more_indexed c.self.inside.words es c.args.edge c.self.inside.starting c.self.inside.ending last
    c.self.inside.counts.items c.enter.new.starting c.enter.new.ending c.self.invariant entered (omega (arith, c.if-number.false, c.len-number.ensures, c.self.invariant.few)))
