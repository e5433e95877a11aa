use Rattle.std.proofs.Common.{◌≡◌, ◌<◌, take}
use Rattle.patr_lists.specs.Numbers.{places}
use Rattle.patr_parse.proofs.Names.{view_of, AreEdges, is_whole}
use Rattle.patr_parse.proofs.analyses.whole_edges.Given as goal

abbrev pub invariant-loop-number : goal.invariant-loop-number
invariant-loop-number l =
    (l.found.items ≡ places (is_whole (view_of l.view) l.end l.category.0) 0 (take l.number l.chart.edges)) × (0 < l.number → AreEdges l.chart.words l.chart.edges)
