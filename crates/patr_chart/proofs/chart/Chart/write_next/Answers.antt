use Rattle.std.proofs.Common.{◌≡◌, ◌<◌, ◌++◌, ◌∷◌, [], length, slice_get, Some, sym, ap, subst, ◌∙◌}
use Rattle.patr_chart.proofs.Names.{AreHeld, Pending, slice_get-get_or, slice_get_within}
use Rattle.patr_chart.proofs.Trees.{tree_longer}
use Rattle.patr_chart.proofs.Written.{root_step, pair_step}
use Rattle.patr_chart.proofs.chart.Chart.write_next.Goals as goal

pub returns-in_ok-push-in-None : goal.returns-in_ok-push-in-None
returns-in_ok-push-in-None c =
    let es = c.self.inside.edges.items in
    let e = c.index-edge.result.now in
    let here : c.args.next.number < length es = subst (λ v. c.args.next.number < length v.edges) (sym c.self.view_is) c.requires.next in
    let held : AreHeld (length es) c.args.left.now.items = subst (λ v. AreHeld (length v.edges) c.args.left.now.items) (sym c.self.view_is) c.requires.held in
    let at : slice_get es c.args.next.number ≡ Some e = slice_get-get_or es c.args.next.number e here ∙ ap (λ x. Some x) (sym c.index-edge.ensures) in
    rw (← c.self.view_is) (rw c.in_ok-push-in-None.ensures.items (root_step c.self.inside.words es c.self.invariant.edges c.args.next e at c.args.left.now.items c.args.out.now.items c.of.result c.in-None.is c.of.ensures held))

pub returns-in_ok-push-in-Some-2 : goal.returns-in_ok-push-in-Some-2
returns-in_ok-push-in-Some-2 c =
    let es = c.self.inside.edges.items in
    let e = c.index-edge.result.now in
    let here : c.args.next.number < length es = subst (λ v. c.args.next.number < length v.edges) (sym c.self.view_is) c.requires.next in
    let held : AreHeld (length es) c.args.left.now.items = subst (λ v. AreHeld (length v.edges) c.args.left.now.items) (sym c.self.view_is) c.requires.held in
    let at : slice_get es c.args.next.number ≡ Some e = slice_get-get_or es c.args.next.number e here ∙ ap (λ x. Some x) (sym c.index-edge.ensures) in
    let b = c.in-Some.back in
    let l = tree_longer c.self.inside.words es c.self.invariant.edges c.args.next.number e b at c.in-Some.is in
    let there = slice_get-get_or es b.passive c.index.result.now (slice_get_within es b.passive l.passive l.passive_there) ∙ ap (λ x. Some x) (sym c.index.ensures) in
    let first : Pending = record { number = b.active; end = c.args.next.end } in
    let second : Pending = record { number = b.passive; end = c.index.result.now.end } in
    let items : c.push-in-Some-2.new.self.items ≡ (c.args.left.now.items ++ first ∷ []) ++ second ∷ [] = c.in_ok-push-in-Some-2.ensures.items ∙ ap (λ l. l ++ second ∷ []) c.in_ok-push-in-Some.ensures.items in
    rw (← c.self.view_is) (rw items (pair_step c.self.inside.words es c.self.invariant.edges c.args.next e at c.args.left.now.items c.args.out.now.items b c.in-Some.is c.index.result.now there held))
