use Rattle.std.proofs.Common.{◌≡◌, ◌<◌, Bool, List, ℕ, take, ◌+◌, sym, ap, ◌∙◌, subst}
use Rattle.patr_lists.specs.Numbers.{places}
use Rattle.patr_parse.proofs.Names.{view_of, Edge, AreEdges, is_whole}
use Rattle.patr_parse.proofs.Gathered.{found_more, found_same}
use Rattle.patr_parse.proofs.analyses.whole_edges.Goals as goal
use Rattle.patr_parse.proofs.analyses.whole_edges.Goals.{then-is_whole+in_ok-push, else-is_whole}

pub is_whole-requires : goal.is_whole-requires
is_whole-requires c = c.requires c.loop-number.number c.edge.result.now c.edge.ensures.there

pub loop-number-preserved : goal.loop-number-preserved
loop-number-preserved c =
    let es = c.args.chart.now.edges in
    let n = c.loop-number.number in
    let was = c.loop-number.found.items in
    let T : Edge → Bool = is_whole (view_of c.args.view.now) c.args.end c.args.category.0 in
    let Q : List ℕ → Type 0 = λ l. (l ≡ places T 0 (take (n + 1) es)) × (0 < n + 1 → AreEdges c.args.chart.now.words es) in
    elim c.if-is_whole.branch [
      | then-is_whole+in_ok-push w ↦ subst Q (sym (ap (λ v. v.items) w.found-is ∙ w.in_ok-push.ensures.items))
          (found_more T es n c.edge.result.now c.edge.ensures.there was c.loop-number.invariant.0 (sym c.is_whole.ensures ∙ w.if-is_whole.true), λ some. c.edge.ensures.edges)
      | else-is_whole w ↦ subst Q (sym (ap (λ v. v.items) w.found-is))
          (found_same T es n c.edge.result.now c.edge.ensures.there was c.loop-number.invariant.0 (sym c.is_whole.ensures ∙ w.if-is_whole.false), λ some. c.edge.ensures.edges)
    ]
