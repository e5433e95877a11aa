use Rattle.std.proofs.Common.{◌≡◌, length}
use Rattle.patr_chart.proofs.Names.{AreHeld, key, tree, weights, whole_key}
use Rattle.patr_chart.proofs.chart.Chart.derivation.Given as goal

abbrev pub invariant-loop-next : goal.invariant-loop-next
invariant-loop-next l = (whole_key l.self.edges l.left.items l.out.items ≡ key (tree l.self.edges l.k)) × AreHeld (length l.self.edges) l.left.items

abbrev pub decreases-loop-next : goal.decreases-loop-next
decreases-loop-next l = weights l.self.edges l.left.items
