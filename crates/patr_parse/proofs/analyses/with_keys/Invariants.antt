use Rattle.std.proofs.Common.{◌≡◌, map, take}
use Rattle.std.specs.List.{AllByRecursion}
use Rattle.patr_parse.proofs.Names.{HasKey, edge_of}
use Rattle.patr_parse.proofs.analyses.with_keys.Given as goal

abbrev pub invariant-loop-number : goal.invariant-loop-number
invariant-loop-number l = (map edge_of l.found.items ≡ take l.number-index l.edges) × AllByRecursion (HasKey l.chart.edges) l.found.items
